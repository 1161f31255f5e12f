-- Dead situations are a closed list.
use Rattle.std.proofs.Common.{◌≡◌, ◌<◌, ◌⊎◌, ◌∙◌, inl, inr, ℕ, zero, suc, Bool, true, false, Some, None, List, [], ◌∷◌}
use Rattle.std.proofs.Common.{length, get_or, slice_get, arith, refl, sym, ap, subst}
use Rattle.std.specs.List.{Contains}
use Rattle.std.proofs.lemmas.List.Elements.{All-contains, Contains-append_right}
use Rattle.std.proofs.lemmas.Option.{same_Some, slice_get_within, get_or_from_slice_get}
use Rattle.completion.specs.declared.moves.Move.{Move}
use Rattle.completion.specs.declared.seen.Seen.{Seen}
use Rattle.values.specs.Values.{Values, AreAllowed}
use Rattle.completion.specs.Situation.{beginning, IsEnd}
use Rattle.situations.specs.Situation.{Situation}
use Rattle.completion.specs.Search.{IsEarly, IsHopeless, HasMove, HasNext, EveryCompletionIsReached}
use Rattle.completion.specs.Seen.{IsDead, IsVain, AreSearched}

-- those of a list that are marked
pub marked_of : List Situation → List Bool → List Situation
marked_of [] bs = []
marked_of (r ∷ rs) [] = []
marked_of (r ∷ rs) (true ∷ bs) = r ∷ marked_of rs bs
marked_of (r ∷ rs) (false ∷ bs) = marked_of rs bs

-- they are there
marked_in : (rs : List Situation) (bs : List Bool) (i : ℕ) (r : Situation) → slice_get rs i ≡ Some r
    → get_or bs i false ≡ true → Contains (marked_of rs bs) r
unfolding marked_of
marked_in [] bs i r at flag = let clash : None ≡ Some r = at in absurd cc
marked_in (s ∷ rs) [] i r at flag = let clash : false ≡ true = flag in absurd cc
marked_in (s ∷ rs) (true ∷ bs) zero r at flag = (0, omega arith, same_Some s r at)
marked_in (s ∷ rs) (true ∷ bs) (suc i) r at flag =
    Contains-append_right (s ∷ []) (marked_of rs bs) r (marked_in rs bs i r at flag)
marked_in (s ∷ rs) (false ∷ bs) zero r at flag = let clash : false ≡ true = flag in absurd cc
marked_in (s ∷ rs) (false ∷ bs) (suc i) r at flag = marked_in rs bs i r at flag

-- and no others
marked_out : (rs : List Situation) (bs : List Bool) (k : ℕ) (d : Situation) → k < length (marked_of rs bs)
    → (i : ℕ) × (slice_get rs i ≡ Some (get_or (marked_of rs bs) k d)) × (get_or bs i false ≡ true)
unfolding marked_of
marked_out [] bs k d inside = absurd (omega (arith, inside))
marked_out (s ∷ rs) [] k d inside = absurd (omega (arith, inside))
marked_out (s ∷ rs) (true ∷ bs) zero d inside = (0, refl, refl)
marked_out (s ∷ rs) (true ∷ bs) (suc k) d inside =
    let rest = marked_out rs bs k d (omega (arith, inside)) in (suc rest.0, rest.1, rest.2)
marked_out (s ∷ rs) (false ∷ bs) k d inside =
    let rest = marked_out rs bs k d inside in (suc rest.0, rest.1, rest.2)

module _ (v : Values) (seen : Seen) (all : AreSearched v seen) where
  abbrev dead : List Situation
  dead = marked_of seen.rows.keys seen.dead.items

  dead_in : (r : Situation) → IsDead seen r → Contains dead r
  dead_in r (i, at, flag) = marked_in seen.rows.keys seen.dead.items i r at flag

  -- a vain move leads to one of them, if anywhere
  has_move : (r : Situation) (move : Move) (c : ℕ) → IsVain v seen r move c
      → IsEarly v r move c ⊎ HasMove v dead r move c
  has_move r move c (inl early) = inl early
  has_move r move c (inr leads) = inr (λ s is. go s (leads s is))
    where
      go : (s : Situation) → IsHopeless v.cores s ⊎ IsDead seen s → IsHopeless v.cores s ⊎ Contains dead s
      go s (inl hopeless) = inl hopeless
      go s (inr there) = inr (dead_in s there)

  -- so where the beginning is dead, nothing completes the values
  pub beginning_dead : EveryCompletionIsReached v dead → IsDead seen (beginning v) → AreAllowed v → ⊥
  beginning_dead law first allowed = no_end (law (record {
    begins = dead_in (beginning v) first;
    closed = λ k d inside.
        let at = marked_out seen.rows.keys seen.dead.items k d inside in
        inr (λ move c. has_move (get_or dead k d) move c (all.vain (get_or dead k d) at move c));
  }) allowed)
    where
      no_end : (s : Situation) × Contains dead s × IsEnd v s → ⊥
      no_end (s, there, end) =
          let at = marked_out seen.rows.keys seen.dead.items there.0 s there.1 in
          let number : slice_get seen.rows.keys at.0 ≡ Some s = at.1 ∙ ap (λ (z : Situation). Some z) there.2 in
          All-contains (λ (z : Situation). ¬ IsEnd v z) seen.rows.keys s all.no_end (
            at.0,
            slice_get_within seen.rows.keys at.0 s number,
            get_or_from_slice_get seen.rows.keys at.0 s s number,
          ) end

-- where it is hopeless, too
pub beginning_hopeless : (v : Values) → EveryCompletionIsReached v (beginning v ∷ [])
    → IsHopeless v.cores (beginning v) → ((IsEnd v (beginning v)) → ⊥) → AreAllowed v → ⊥
beginning_hopeless v law hopeless no_end allowed = go (law (record {
  begins = (0, omega arith, refl);
  closed = λ k d inside. only (λ (r : Situation). IsHopeless v.cores r ⊎ HasNext v (beginning v ∷ []) r) (inl hopeless) k d
      inside;
}) allowed)
  where
    only : (P : Situation → Type 0) → P (beginning v) → (k : ℕ) (d : Situation) → k < length (beginning v ∷ [])
        → P (get_or (beginning v ∷ []) k d)
    only P h zero d inside = h
    only P h (suc k) d inside = absurd (omega (arith, inside))

    go : (s : Situation) × Contains (beginning v ∷ []) s × IsEnd v s → ⊥
    go (s, (zero, inside, is), end) = no_end (subst (IsEnd v) (sym is) end)
    go (s, (suc k, inside, is), end) = absurd (omega (arith, inside))
