use Rattle.std.proofs.Common.{◌≡◌, ◌<◌, ◌≤◌, ◌+◌, ◌++◌, ◌∷◌, [], inl, inr, ℕ, false, List, Some, slice_get}
use Rattle.std.proofs.Common.{get_or}
use Rattle.std.proofs.Common.{arith, ap, sym, subst, ◌∙◌}
use Rattle.std.specs.List.{Contains}
use denote.Enum.Bare.{sameb, same_false}
use Rattle.std.proofs.lemmas.Bool.{cases_eq}
use Rattle.std.proofs.lemmas.Option.{get_or_from_slice_get}
use Rattle.std.proofs.lemmas.List.Elements.{Contains-append_left, Contains-push}
use Rattle.completion.specs.declared.moves.Turn.{Turn}
use Rattle.completion.specs.declared.ranking.Choice.{Choice}
use Rattle.completion.specs.contracts.ranking.Rank.{the_type}
use Rattle.completion.specs.declared.ranking.Rank.{Rank}
use Rattle.completion.proofs.ranking.take.Goals as goal
use Rattle.completion.proofs.ranking.take.Goals.{then-eq+in_ok-push, else-eq}

module _ (found : List Choice) (d : Choice) (from i : ℕ) (rank : Rank) (old new : List Turn)
    (before : (j : ℕ) (x : Choice) → from ≤ j → j < i → slice_get found j ≡ Some x → x.rank ≡ rank → Contains old x.turn)
  where
    taken : new ≡ old ++ (get_or found i d).turn ∷ [] → (j : ℕ) (x : Choice) → from ≤ j → j < i + 1
        → slice_get found j ≡ Some x → x.rank ≡ rank → Contains new x.turn
    taken is j x low high at same = subst (λ (l : List Turn). Contains l x.turn) (sym is) (elim (cases_eq j i) [
      | inr other ↦ Contains-append_left old ((get_or found i d).turn ∷ []) x.turn
          (before j x low (omega (arith, high, other)) at same)
      | inl one ↦
          let here : get_or found i d ≡ x =
          get_or_from_slice_get found i x d (ap (slice_get found) (sym one) ∙ at) in
          subst (λ (t : Turn). Contains (old ++ t ∷ []) x.turn) (sym (ap (λ (z : Choice). z.turn) here))
          (Contains-push old x.turn)
    ])

    left : new ≡ old → sameb the_type (get_or found i d).rank rank ≡ false → (j : ℕ) (x : Choice) → from ≤ j → j < i + 1
        → slice_get found j ≡ Some x → x.rank ≡ rank → Contains new x.turn
    left is other j x low high at same = subst (λ (l : List Turn). Contains l x.turn) (sym is) (elim (cases_eq j i) [
      | inr before_it ↦ before j x low (omega (arith, high, before_it)) at same
      | inl one ↦
          let here : get_or found i d ≡ x =
          get_or_from_slice_get found i x d (ap (slice_get found) (sym one) ∙ at) in
          absurd (same_false the_type (get_or found i d).rank rank other (ap (λ (z : Choice). z.rank) here ∙ same))
    ])

pub loop-i-preserved : goal.loop-i-preserved
loop-i-preserved c =
    let old : List Turn = c.loop-i.moves.items in
    let new : List Turn = c.if-eq.moves.items in
    elim c.if-eq.branch [
      | then-eq+in_ok-push w ↦
          let is = ap (λ v. v.items) w.moves-is ∙ w.in_ok-push.ensures.items in
          record {
            more = λ t there. subst (λ (l : List Turn). Contains l t) (sym is)
                (Contains-append_left old _ t (c.loop-i.invariant.more t there));
            taken = taken c.args.found.now _ c.args.from c.loop-i.i c.args.rank old new c.loop-i.invariant.taken is;
          }
      | else-eq w ↦
          let is = ap (λ v. v.items) w.moves-is in
          record {
            more = λ t there. subst (λ (l : List Turn). Contains l t) (sym is) (c.loop-i.invariant.more t there);
            taken = left c.args.found.now _ c.args.from c.loop-i.i c.args.rank old new c.loop-i.invariant.taken is
                (sym c.eq.ensures ∙ w.if-eq.false);
          }
    ]

pub returns-clause-taken : goal.returns-clause-taken
returns-clause-taken c i x from to is same =
    c.loop-i.invariant.taken i x from (omega (arith, to, c.loop-i-test.false)) is same
