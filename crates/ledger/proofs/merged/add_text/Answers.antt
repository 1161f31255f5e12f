use Rattle.std.proofs.Common.{arith, ◌<◌, ◌+◌, ◌^◌}
use Rattle.std.proofs.lemmas.Bool.{false≢true}
use Rattle.ledger.specs.LedgerLaws.{joined}
use Rattle.ledger.proofs.TextOfLemmas.{sum_tells}
use Rattle.ledger.proofs.UnderWay.{unread_fault}
use Rattle.ledger.proofs.merged.add_text.Goals as goal

pub returns-in-Err-clause-err : goal.returns-in-Err-clause-err
returns-in-Err-clause-err c =
    unread_fault c.args.kind c.args.sum.now c.args.rest.now c.in-Err.fault c.in-Err.ensures.err

pub returns-then-not-can_add-clause-err : goal.returns-then-not-can_add-clause-err
returns-then-not-can_add-clause-err c codes more b =
    let told = (c.in-Ok.ensures.ok.only codes more b).1 in
    let no : c.args.sum.now.total + c.in-Ok.ledger.total < 2 ^ 64 → ⊥ =
    λ few. false≢true (c.if-not-can_add.ensures.1 few) in
    omega (arith, no, told.total)

pub returns-clause-ok : goal.returns-clause-ok
returns-clause-ok c =
    let r = c.in-Ok.ensures.ok in
    let old = c.args.sum.now in
    let new = c.add.new.self in record {
      codes = r.codes;
      begins = r.begins;
      sum = λ earlier is. joined earlier r.codes old c.in-Ok.ledger new is r.is c.add.ensures;
      only = λ others more b. let o = r.only others more b in (
        o.0,
        λ earlier told. sum_tells c.args.kind earlier others old c.in-Ok.ledger new told o.1 c.add.ensures,
      );
    }
