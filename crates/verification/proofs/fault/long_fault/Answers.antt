use Rattle.std.proofs.Common.{◌≡◌, ◌<◌, ◌^◌, ◌-◌, ◌∙◌, List, ℕ, ap, arith, inl, refl, subst, sym, length}
use Rattle.std.proofs.lemmas.Bool.{false≢true}
use Rattle.verification.specs.Faults.{LongLinesHold}
use Rattle.verification.specs.Held.{IsMost}
use Rattle.verification.proofs.Lines.{names_fault}
use Rattle.verification.proofs.LinesGrow.{long_grow}
use Rattle.verification.proofs.LinesHeld.{held_as, long_cycle_most, long_line_most}
use Rattle.verification.proofs.fault.long_fault.Goals as goal

pub returns-then-take-clause-line : goal.returns-then-take-clause-line
returns-then-take-clause-line c =
    let x = c.args.recording.now in
    let text = c.args.text.now in
    let most = length text - 9 in
    let lines = c.deref.result.now in
    let begins = sym c.new-rest.ensures ∙ c.take.ensures.found c.if-take.true in
    let small : most < 2 ^ 64 = omega arith in
    let left : c.bytes_left-most.result ≡ most = omega (arith, c.bytes_left-most.ensures, ap (λ (t : List ℕ). length t) begins) in
    names_fault (LongLinesHold x most) (inl refl) (long_grow x c.sound.ensures most small) text lines
    c.first_difference.result
    (subst (λ (t : List ℕ). IsMost (LongLinesHold x most) t lines) (sym begins)
    (subst (IsMost (LongLinesHold x most) _) (sym c.deref.ensures.value)
    (long_cycle_most x most _ c.put_cycle_that_holds.new.out.items c.put_cycle_that_holds.new.rest c.in_ok-_size._size
    (held_as c.in_ok-places.places x c.bytes_left-most.result most _ c.new-lines.result.items
    c.put_cycle_that_holds.new.out.items c.put_cycle_that_holds.new.rest c.in_ok-_size._size c.in_ok-_size._size
    c.in_ok-places.ensures left c.new-lines.ensures.items refl c.in_ok-_size.ensures))))
    c.first_difference.ensures

pub returns-clause-line : goal.returns-clause-line
returns-clause-line c =
    let x = c.args.recording.now in
    let text = c.args.text.now in
    let most = length text - 9 in
    let line = c.deref-2.result.now in
    let small : most < 2 ^ 64 = omega arith in
    names_fault (LongLinesHold x most) (inl refl) (long_grow x c.sound.ensures most small) text line
    c.first_difference-2.result
    (long_line_most x most text line
    (λ rest begins. false≢true (sym c.if-take.false ∙ (c.take.ensures.only rest (c.new-rest.ensures ∙ begins)).0))
    (subst (IsMost _ text) (sym c.deref-2.ensures.value) c.in_ok-line.ensures)) c.first_difference-2.ensures
