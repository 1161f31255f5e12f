use Rattle.std.proofs.Common.{◌≡◌, ◌≢◌, [], ℕ, List, arith, rules, subst, sym}
use Rattle.ledger.proofs.UnderWay.{AreUnderWay, all_none, begun, ended, none_begins, not_none, text_fault, text_more}
use Rattle.ledger.proofs.merged.add_file.Goals as goal

pub texts-init : goal.texts-init
texts-init c =
    subst (λ (l : List ℕ). AreUnderWay c.args.kind c.args.sum.now c.args.sum.now c.args.bytes.now l)
    (sym c.new-rest.ensures) (begun c.args.kind c.args.sum.now c.args.bytes.now)

pub texts-preserved : goal.texts-preserved
texts-preserved c =
    let some = not_none c.texts.rest (omega (arith, c.texts-test.true, c.bytes_left.ensures)) in
    text_more c.args.kind c.args.sum.now c.texts.sum _ c.args.bytes.now c.texts.rest _ some c.texts.invariant
    c.in_default.ensures.ok

pub returns-in-Err-clause-err : goal.returns-in-Err-clause-err
returns-in-Err-clause-err c =
    let some = not_none c.texts.rest (omega (arith, c.texts-test.true, c.bytes_left.ensures)) in
    text_fault c.args.kind c.args.sum.now c.texts.sum c.args.bytes.now c.texts.rest c.in-Err.fault c.requires.codes some
    c.texts.invariant c.requires.is c.in-Err.ensures.err

pub returns-clause-ok : goal.returns-clause-ok
returns-clause-ok c =
    let some : c.args.bytes.now ≢ [] = not_none c.args.bytes.now (search rules) in
    let none : c.texts.rest ≡ [] = all_none c.texts.rest (omega (arith, c.texts-test.false, c.bytes_left.ensures)) in
    ended c.args.kind c.args.sum.now c.texts.sum c.args.bytes.now some
    (subst (λ (l : List ℕ). AreUnderWay c.args.kind c.args.sum.now c.texts.sum c.args.bytes.now l) none
    c.texts.invariant)
    (none_begins c.args.kind)
