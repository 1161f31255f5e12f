use Rattle.std.proofs.Common.{◌≡◌, ◌<◌, ◌≤◌, ◌⊎◌, ◌∙◌, inl, inr, ℕ, List, Some, length, get_or}
use Rattle.std.proofs.Common.{slice_get, arith}
use Rattle.std.proofs.Common.{refl, sym, subst}
use Rattle.std.specs.List.{Contains}
use Rattle.std.proofs.lemmas.Bool.{cases_lt}
use Rattle.std.proofs.lemmas.List.{get_or-map, length-map}
use Rattle.std.proofs.lemmas.Option.{slice_get-get_or}
use Rattle.completion.specs.declared.moves.Turn.{Turn}
use Rattle.completion.specs.declared.ranking.Choice.{Choice}
use Rattle.completion.specs.declared.ranking.Rank.{Rank}
use Rattle.completion.specs.declared.ranking.Rank.TheVariants.{Soon, Late}
use Rattle.completion.proofs.ranking.order_moves.Goals as goal

pub returns : goal.returns
returns c t there = go x.rank refl
  where
    found : List Choice
    found = c.args.found.now

    i : ℕ
    i = there.0

    inside : i < length found
    inside = omega (arith, there.1, length-map found (λ (z : Choice). z.turn))

    x : Choice
    x = get_or found i (record { turn = t; rank = Soon })

    at : slice_get found i ≡ Some x
    at = slice_get-get_or found i (record { turn = t; rank = Soon }) inside

    turn : x.turn ≡ t
    turn = sym (get_or-map (λ (z : Choice). z.turn) found i (record { turn = t; rank = Soon }) t inside) ∙ there.2

    all : List Turn
    all = c.take-4.new.moves.items

    go : (rank : Rank) → x.rank ≡ rank → Contains all t
    go rank is = subst (λ (u : Turn). Contains all u) turn (by rank is (cases_lt i c.args.first))
      where
        by : (r : Rank) → x.rank ≡ r → (i < c.args.first) ⊎ (c.args.first ≤ i) → Contains all x.turn
        by Soon same (inl low) = c.in_ok-take-4.ensures.more x.turn (c.in_ok-take-3.ensures.more x.turn
            (c.in_ok-take-2.ensures.taken i x (omega arith) low at same))
        by Soon same (inr high) = c.in_ok-take-4.ensures.more x.turn (c.in_ok-take-3.ensures.more x.turn
            (c.in_ok-take-2.ensures.more x.turn
            (c.in_ok-take.ensures.taken i x high (inside) at same)))
        by Late same (inl low) = c.in_ok-take-4.ensures.taken i x (omega arith) low at same
        by Late same (inr high) = c.in_ok-take-4.ensures.more x.turn
            (c.in_ok-take-3.ensures.taken i x high (inside) at same)
