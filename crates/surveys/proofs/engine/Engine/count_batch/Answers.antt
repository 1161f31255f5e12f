use Rattle.std.proofs.Common.{◌++◌, List, ℕ, ap, arith, length, length-append}
use Rattle.surveys.proofs.Tallied.{ended, grown, up_to_front}
use Rattle.surveys.proofs.engine.Engine.count_batch.Goals as goal

pub add_findings-requires : goal.add_findings-requires
add_findings-requires g c =
    let tally = c.requires in (
      tally.0 ++ c.args.batch,
      tally.1,
      omega (
        arith,
        tally.2.size,
        length-append tally.0 c.args.batch,
        c.in-Some.ensures,
        ap (λ (b : List ℕ). length b) c.bytes.ensures,
      ),
      up_to_front c.args.self.now.kind c.args.self.now.reports tally.0 c.args.batch c.args.counted.now.ledger
          c.args.counted.now.bytes tally.1 _ tally.2,
    )

pub returns-clause-grows : goal.returns-clause-grows
returns-clause-grows g c = λ whole front start tally.
    grown c.args.self.now.kind c.args.self.now.reports front c.args.batch c.args.counted.now.ledger
    c.add_findings.new.ledger c.args.counted.now.bytes c.in-Some.bytes start _ _ tally c.in_ok-add_findings.ensures.ok
    (omega (arith, c.in-Some.ensures, ap (λ (b : List ℕ). length b) c.bytes.ensures)) whole

pub returns-clause-ends : goal.returns-clause-ends
returns-clause-ends g c = λ front start tally.
    ended c.args.self.now.kind c.args.self.now.reports front c.args.batch c.args.counted.now.ledger
    c.add_findings.new.ledger c.args.counted.now.bytes start _ _ tally c.in_ok-add_findings.ensures.ok
