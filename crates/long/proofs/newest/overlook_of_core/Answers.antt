use Rattle.std.proofs.Common.{◌+◌, ℕ, inl, inr, arith, sym, subst}
use Rattle.std.proofs.lemmas.Bool.{cases_lt, cases_eq, iff_false}
use Rattle.relations.specs.Forced.{Overlooks}
use Rattle.long.specs.Newest.{AreNewest}
use Rattle.long.proofs.newest.overlook_of_core.Goals as goal

pub loop-place-init : goal.loop-place-init
loop-place-init c = record {
  newest = subst (λ (n : ℕ). AreNewest c.args.recording.now n c.args.newest.now) (omega arith) c.requires.newest;
  none = λ k s low. c.requires.none k s (omega (arith, low));
}

pub returns-then-overlooks_newest-clause-found : goal.returns-then-overlooks_newest-clause-found
returns-then-overlooks_newest-clause-found c =
    let x = c.args.recording.now in
    let n = c.args.start + c.loop-place.place in
    record {
      overlooks = c.least_overlooked.ensures.there;
      least = λ k t o. elim (cases_lt k n) [
        | inl less ↦ absurd (c.loop-place.invariant.none k t less o)
        | inr more ↦ elim (cases_eq n k) [
          | inl one ↦ inr (
            one,
            c.least_overlooked.ensures.least t (subst (λ (l : ℕ). Overlooks x l t) (sym one) o),
          )
          | inr other ↦ inl (omega (arith, more, other))
        ]
      ];
    }

pub loop-place-preserved : goal.loop-place-preserved
loop-place-preserved c =
    let x = c.args.recording.now in
    let n = c.args.start + c.loop-place.place in
    record {
      newest = subst (λ (m : ℕ). AreNewest x m c.take.new.newest) (omega arith) c.take.ensures;
      none = λ k s low o. elim (cases_eq k n) [
        | inl one ↦ iff_false c.overlooks_newest.ensures c.if-overlooks_newest.false
            (s, subst (λ (l : ℕ). Overlooks x l s) one o)
        | inr other ↦ c.loop-place.invariant.none k s (omega (arith, low, other)) o
      ];
    }

pub returns-clause-found : goal.returns-clause-found
returns-clause-found c l s low o =
    c.loop-place.invariant.none l s (omega (arith, low, c.loop-place-test.false)) o
