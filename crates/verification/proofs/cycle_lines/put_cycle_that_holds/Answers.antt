use Rattle.std.proofs.Common.{◌≡◌, ◌∙◌, ◌++◌, ◌∷◌, [], ℕ, List, None, Some, ap, arith, refl, sym}
use Rattle.std.proofs.lemmas.Bool.{false≢true}
use Rattle.verification.proofs.CycleHeld.{cycle_held, no_cycle}
use Rattle.verification.proofs.Spelling.{some_is}
use Rattle.verification.proofs.cycle_lines.put_cycle_that_holds.Goals as goal
use Rattle.verification.proofs.cycle_lines.put_cycle_that_holds.Goals.{then-size-eq0-via-then-size-eq0}
use Rattle.verification.proofs.cycle_lines.put_cycle_that_holds.Goals.{then-size-eq0-via-else-size-eq0+then-size-most}

pub returns-in_default : goal.returns-in_default
returns-in_default c = no_cycle c.args.places.now c.args.most c.args.rest.now c.args.out.now.items c.number.new.self
    (λ k back some few is. c.in_default.not-Some k
    (c.number.ensures.only k 10 back (omega (arith, few, c.ranges.most)) refl is).0)

pub returns-then-size-eq0 : goal.returns-then-size-eq0
returns-then-size-eq0 c = no_cycle c.args.places.now c.args.most c.args.rest.now c.args.out.now.items c.number.new.self
    (λ k back some few is. let same : c.in-Some.size ≡ k = some_is c.in-Some.size k (sym c.in-Some.is
    ∙ (c.number.ensures.only k 10 back (omega (arith, few, c.ranges.most)) refl is).0) in
    elim c.then-size-eq0.branch [
      | then-size-eq0-via-then-size-eq0 w ↦ omega (arith, same, some, w.if-size-eq0.true)
      | then-size-eq0-via-else-size-eq0+then-size-most w ↦ omega (arith, same, few, w.if-size-most.true)
    ])

pub returns-then-not-all : goal.returns-then-not-all
returns-then-not-all c =
    cycle_held c.args.places.now c.args.most c.in-Some.size c.args.rest.now c.number.new.self c.args.out.now.items
    c.push.new.self.items c.put_pairs_that_hold.new.out.items c.put_pairs_that_hold.new.rest c.in_ok-all.all None
    (omega (arith, c.if-size-eq0.false)) (omega (arith, c.if-size-most.false))
    (λ k back few is. let read = c.number.ensures.only k 10 back (omega (arith, few, c.ranges.most)) refl is in
    (some_is c.in-Some.size k (sym c.in-Some.is ∙ read.0), read.1))
    (c.in_ok-push.ensures.items ∙ ap (λ (t : List ℕ). t ++ 10 ∷ []) c.in_ok-put_text_and_number.ensures)
    c.in_ok-all.ensures (λ all. absurd (false≢true (sym c.if-not-all.true ∙ all))) (λ not_all. refl)

pub returns : goal.returns
returns c =
    cycle_held c.args.places.now c.args.most c.in-Some.size c.args.rest.now c.number.new.self c.args.out.now.items
    c.push.new.self.items c.put_pairs_that_hold.new.out.items c.put_pairs_that_hold.new.rest c.in_ok-all.all
    (Some c.in-Some.size)
    (omega (arith, c.if-size-eq0.false)) (omega (arith, c.if-size-most.false))
    (λ k back few is. let read = c.number.ensures.only k 10 back (omega (arith, few, c.ranges.most)) refl is in
    (some_is c.in-Some.size k (sym c.in-Some.is ∙ read.0), read.1))
    (c.in_ok-push.ensures.items ∙ ap (λ (t : List ℕ). t ++ 10 ∷ []) c.in_ok-put_text_and_number.ensures)
    c.in_ok-all.ensures (λ all. refl) (λ not_all. absurd (false≢true (sym not_all ∙ c.if-not-all.false)))
