use Rattle.std.proofs.Common.{◌+◌, ◌-◌, ◌∙◌, ℕ, List, arith, ap, drop, length, refl, take}
use Rattle.std.proofs.lemmas.List.{length-drop, take_rest}
use Rattle.surveys.specs.Surveys.{IsLong}
use Rattle.surveys.proofs.Batches.{none_tallied, tallied_from, tally_on}
use Rattle.surveys.proofs.Long.{from_err, long_more}
use Rattle.surveys.proofs.engine.Engine.count_batches.Goals as goal

pub batches-init : goal.batches-init
batches-init g c = record {
  within = omega arith;
  size = omega arith;
  fits = λ few. few;
  tallied = none_tallied c.args.self.now.kind c.args.self.now.reports c.args.bytes.now c.args.counted.now.ledger
      c.args.counted.now.bytes (g.W.Sink.written c.args.sink.now);
  writes = refl;
  silent = λ quiet. refl;
}

pub count_first-requires : goal.count_first-requires
count_first-requires g c =
    let r = c.requires.tally in
    tally_on c.args.self.now.kind c.args.self.now.reports c.args.bytes.now (drop c.batches.from c.args.bytes.now) r.0
    c.args.counted.now.ledger c.batches.counted.ledger c.args.counted.now.bytes c.batches.counted.bytes r.1 _ _ r.2
    c.batches.invariant.tallied

pub batches-preserved : goal.batches-preserved
batches-preserved g c =
    let bytes : List ℕ = c.args.bytes.now in
    let rest = take_rest bytes c.batches.from in record {
      within = omega (
        arith,
        c.batches.invariant.within,
        c.in_ok-length.ensures.within,
        ap (λ (b : List ℕ). length b) rest,
        length-drop c.batches.from bytes,
      );
      size = omega (arith, c.batches.invariant.size, c.in_ok-length.ensures.size);
      fits = λ few. c.in_ok-length.ensures.fits (c.batches.invariant.fits few);
      tallied =
          tallied_from c.args.self.now.kind c.args.self.now.reports bytes _ c.batches.from c.in_ok-length.length
          c.args.counted.now.ledger c.batches.counted.ledger c.count_first.new.counted.ledger c.args.counted.now.bytes
          c.batches.counted.bytes c.count_first.new.counted.bytes _ _ _ c.batches.invariant.within rest
          c.batches.invariant.tallied c.in_ok-length.ensures.ok;
      writes = c.in_ok-length.ensures.writes ∙ c.batches.invariant.writes;
      silent = λ quiet. c.count_first.ensures.silent quiet ∙ c.batches.invariant.silent quiet;
    }

pub returns-then-length-eq0-clause-ok : goal.returns-then-length-eq0-clause-ok
returns-then-length-eq0-clause-ok g c =
    let bytes : List ℕ = c.args.bytes.now in
    tallied_from c.args.self.now.kind c.args.self.now.reports bytes _ c.batches.from c.in_ok-length.length
    c.args.counted.now.ledger c.batches.counted.ledger c.count_first.new.counted.ledger c.args.counted.now.bytes
    c.batches.counted.bytes c.count_first.new.counted.bytes _ _ _ c.batches.invariant.within
    (take_rest bytes c.batches.from) c.batches.invariant.tallied c.in_ok-length.ensures.ok

pub returns-in_err-length-clause-long : goal.returns-in_err-length-clause-long
returns-in_err-length-clause-long g c =
    let bytes : List ℕ = c.args.bytes.now in
    let most : ℕ = c.args.counted.now.bytes + length bytes in
    let rest : List ℕ = take (length bytes - c.batches.from) (drop c.batches.from bytes) in
    from_err _ c.in_err-length.field-0.0 (λ e. IsLong e most)
    (long_more c.in_err-length.field-0.0 (c.batches.counted.bytes + length rest) most (omega (
      arith,
      c.batches.invariant.size,
      c.batches.invariant.within,
      length-drop c.batches.from bytes,
      ap (λ (b : List ℕ). length b) (take_rest bytes c.batches.from),
    )) c.in_err-length.ensures.long) c.from_residual.ensures.1
