-- Ways from the beginning of a program.
use Rattle.std.proofs.Common.{◌≡◌, ◌≢◌, ◌<◌, ◌≤◌, ◌+◌, ◌-◌, ◌∙◌, inl, inr, ℕ, zero, suc, Bool, true, false, cond}
use Rattle.std.proofs.Common.{Some, None, List, [], ◌∷◌, ◌++◌, reverse, length, get_or, slice_get, drop, drop-cons}
use Rattle.std.proofs.Common.{arith}
use Rattle.std.proofs.Common.{sym, ap, subst, option_and_then}
use Rattle.std.specs.List.{All, Contains}
use Rattle.std.proofs.lemmas.Bool.{cases_lt, cases_eq}
use Rattle.std.proofs.lemmas.List.{drop_all, reverse-append}
use Rattle.std.proofs.lemmas.Option.{option_and_then_some, same_Some, slice_get-get_or}
use Rattle.program.specs.declared.op.Op.{Op}
use Rattle.outcomes.specs.declared.moves.Move.{Move}
use Rattle.outcomes.specs.declared.moves.Move.TheVariants.{Exec, Drain}
use Rattle.outcomes.specs.declared.moves.Turn.{Turn}
use Rattle.outcomes.specs.declared.observed.Observation.{Observation}
use Rattle.program.specs.Parts.{Parts}
use Rattle.outcomes.specs.Observed.{shows_all}
use Rattle.outcomes.specs.Outcome.{Outcome}
use Rattle.outcomes.specs.Reachable.{AreInOrder, HasEarlier, after_moves}
use Rattle.outcomes.specs.Situation.{beginning, moved}
use Rattle.situations.specs.Situation.{Situation}
use Rattle.outcomes.specs.Witness.{first_showing}
use Rattle.outcomes.proofs.Grown.{moved_past}

module _ (p : List (List Op)) (r t : Situation) where
  -- where no move of one core more leads there
  pub none_more : (core : ℕ) → ((move : Move) (c : ℕ) → c < core → moved p r move c ≢ Some t)
      → moved p r Exec core ≢ Some t → moved p r Drain core ≢ Some t → (move : Move) (c : ℕ) → c < core + 1
      → moved p r move c ≢ Some t
  none_more core before exec drain move c low = elim (cases_eq c core) [
    | inl own ↦ subst (λ (k : ℕ). moved p r move k ≢ Some t) (sym own) (go move)
    | inr other ↦ before move c (omega (arith, low, other))
  ]
    where
      go : (m : Move) → moved p r m core ≢ Some t
      go Exec = exec
      go Drain = drain

  -- where none of the cores that are there does, none does
  pub none_at_all : ((move : Move) (c : ℕ) → c < length p → moved p r move c ≢ Some t) → (move : Move) (c : ℕ)
      → moved p r move c ≢ Some t
  none_at_all each move c = elim (cases_lt c (length p)) [
    | inl core ↦ each move c core
    | inr past ↦ λ is. (let low = moved_past p r t move c past is 0 in absurd (omega (arith, low)))
  ]

-- An index is tried after another, from the end on

-- the moves from the situation with number to lead to that with number at, and no move leads to the former from one of
-- those that were tried since
pub record IsWayBack (p : List (List Op)) (rows : List Situation) (at tried to : ℕ) (turns : List Turn) : Type 0 where
  pub low : to ≤ at
  pub high : at ≤ to + tried
  pub none : (j : ℕ) (r s : Situation) → at ≤ j + tried → j < to → slice_get rows j ≡ Some r
      → slice_get rows to ≡ Some s → (move : Move) (c : ℕ) → moved p r move c ≢ Some s
  pub way : (r : Situation) → slice_get rows to ≡ Some r → after_moves p r (reverse turns) ≡ slice_get rows at

module _ (p : List (List Op)) (rows : List Situation) (at : ℕ) where
  -- before the first
  pub back_begun : (turns : List Turn) → turns ≡ [] → IsWayBack p rows at 0 at turns
  back_begun turns empty = record {
    low = omega arith;
    high = omega arith;
    none = λ j r s past low. absurd (omega (arith, past, low));
    way = λ r there. ap (λ (l : List Turn). after_moves p r (reverse l)) empty ∙ sym there;
  }

  module _ (tried to : ℕ) (turns : List Turn) (f t : Situation) (inside : tried < at)
      (old : IsWayBack p rows at tried to turns) (from : slice_get rows (at - 1 - tried) ≡ Some f)
      (there : slice_get rows to ≡ Some t) where
    -- a move leads from the next one
    pub back_found : (turn : Turn) (more : List Turn) → moved p f turn.step turn.core ≡ Some t
        → more ≡ turns ++ turn ∷ [] → IsWayBack p rows at (tried + 1) (at - 1 - tried) more
    back_found turn more leads is = record {
      low = omega arith;
      high = omega (arith, inside);
      none = λ j r s past low. absurd (omega (arith, past, low, inside));
      way = λ r here.
          let one : r ≡ f = same_Some r f (sym here ∙ from) in
          let front : reverse more ≡ turn ∷ reverse turns =
          ap (λ (l : List Turn). reverse l) is ∙ reverse-append turns (turn ∷ []) in
          ap (λ (z : Situation). after_moves p z (reverse more)) one
          ∙ (ap (after_moves p f) front
          ∙ (ap (option_and_then (λ z. after_moves p z (reverse turns))) leads ∙ old.way t there));
    }

    -- none does
    pub back_none : ((move : Move) (c : ℕ) → moved p f move c ≢ Some t) → IsWayBack p rows at (tried + 1) to turns
    back_none nothing = record {
      low = old.low;
      high = omega (arith, old.high);
      none = λ j r s past low here to_there. elim (cases_lt (j + tried) at) [
        | inr before ↦ old.none j r s before low here to_there
        | inl new ↦
            let number : j ≡ at - 1 - tried = omega (arith, past, new, inside) in
            let one : f ≡ r = same_Some f r (sym from ∙ (ap (slice_get rows) (sym number) ∙ here)) in
            let other : t ≡ s = same_Some t s (sym there ∙ to_there) in
            λ move c. subst (λ (z : Situation). moved p r move c ≢ Some z) other
            (subst (λ (z : Situation). moved p z move c ≢ Some t) one (nothing move c))
      ];
      way = old.way;
    }

-- when all were tried the way begins at the beginning
pub back_done : (p : Parts) (rows : List Situation) (at tried to : ℕ) (turns : List Turn) → AreInOrder p rows
    → at < length rows → IsWayBack p.cores rows at tried to turns → at ≤ tried
    → after_moves p.cores (beginning p) (reverse turns) ≡ slice_get rows at
back_done p rows at tried zero turns order inside back all = back.way (beginning p) order.first
back_done p rows at tried (suc to) turns order inside back all =
    let earlier : HasEarlier p.cores rows (suc to) = order.later (suc to) (omega arith) (omega (arith, back.low, inside)) in
    let t : Situation = get_or rows (suc to) earlier.situation in
    let there : slice_get rows (suc to) ≡ Some t =
    slice_get-get_or rows (suc to) earlier.situation (omega (arith, back.low, inside)) in
    absurd (back.none earlier.number earlier.situation t (omega (arith, all)) earlier.earlier earlier.there there
    earlier.turn.step earlier.turn.core (earlier.leads ∙ there))

-- Moves, one after another

module _ (p : List (List Op)) (r : Situation) (turns : List Turn) (i : ℕ) where
  -- those that are left begin with the next one
  rest_is : (d : Turn) → i < length turns → after_moves p r (drop i turns)
      ≡ option_and_then (λ s. after_moves p s (drop (i + 1) turns))
      (moved p r (get_or turns i d).step (get_or turns i d).core)
  rest_is d inside =
      let next : suc i ≡ i + 1 = omega arith in
      ap (after_moves p r) (drop-cons turns i d inside)
      ∙ ap (λ (k : ℕ). option_and_then (λ s. after_moves p s (drop k turns))
      (moved p r (get_or turns i d).step (get_or turns i d).core)) next

  -- which can be made
  pub next_made : (d : Turn) (t : Situation) → i < length turns → after_moves p r (drop i turns) ≡ Some t
      → (s : Situation) × (moved p r (get_or turns i d).step (get_or turns i d).core ≡ Some s)
  next_made d t inside to =
      option_and_then_some (λ s. after_moves p s (drop (i + 1) turns))
      (moved p r (get_or turns i d).step (get_or turns i d).core) t (sym (rest_is d inside) ∙ to) (λ s is rest. (s, is))

  -- and leads to where the others begin
  pub rest_made : (d : Turn) (s : Situation) → i < length turns
      → moved p r (get_or turns i d).step (get_or turns i d).core ≡ Some s
      → after_moves p s (drop (i + 1) turns) ≡ after_moves p r (drop i turns)
  rest_made d s inside leads =
      sym (rest_is d inside ∙ ap (option_and_then (λ z. after_moves p z (drop (i + 1) turns))) leads)

  -- until none is left
  pub rest_done : length turns ≤ i → after_moves p r (drop i turns) ≡ Some r
  rest_done past = ap (after_moves p r) (drop_all i turns past)

-- The first outcome that has values

module _ (os : List Outcome) (seen : List Observation) (i : ℕ) (d : Outcome) (inside : i < length os) where
  next_shown : first_showing (drop i os) seen
      ≡ cond (shows_all (get_or os i d) seen) (Some (get_or os i d)) (first_showing (drop (suc i) os) seen)
  next_shown = ap (λ (l : List Outcome). first_showing l seen) (drop-cons os i d inside)

  -- the next one has them
  pub first_here : shows_all (get_or os i d) seen ≡ true → first_showing (drop i os) seen ≡ Some (get_or os i d)
  first_here shown = next_shown
      ∙ ap (λ (b : Bool). cond b (Some (get_or os i d)) (first_showing (drop (suc i) os) seen)) shown

  -- or it does not
  pub first_later : shows_all (get_or os i d) seen ≡ false
      → first_showing (drop i os) seen ≡ first_showing (drop (i + 1) os) seen
  first_later hidden =
      let next : suc i ≡ i + 1 = omega arith in
      next_shown
      ∙ (ap (λ (b : Bool). cond b (Some (get_or os i d)) (first_showing (drop (suc i) os) seen)) hidden
      ∙ ap (λ (k : ℕ). first_showing (drop k os) seen) next)

-- what holds of all outcomes holds of the first that has the values
pub first_holds : (P : Outcome → Type 0) (os : List Outcome) (seen : List Observation) (o : Outcome) → All P os
    → first_showing os seen ≡ Some o → P o
first_holds P [] seen o all is = absurd cc
first_holds P (x ∷ xs) seen o all is =
    go (shows_all x seen) (first_holds P xs seen o (λ k d inside. all (suc k) d (omega (arith, inside)))) is
  where
    go : (b : Bool) → (first_showing xs seen ≡ Some o → P o) → cond b (Some x) (first_showing xs seen) ≡ Some o → P o
    go true rest here = subst P (same_Some x o here) (all 0 x (omega arith))
    go false rest later = rest later

-- where there is no first, none has them
pub first_none : (os : List Outcome) (seen : List Observation) (o : Outcome) → first_showing os seen ≡ None
    → Contains os o → shows_all o seen ≡ true → ⊥
first_none [] seen o none there shown = absurd (omega (arith, there.1))
first_none (x ∷ xs) seen o none (zero, inside, is) shown =
    let here : shows_all x seen ≡ true = ap (λ (k : Outcome). shows_all k seen) is ∙ shown in
    let clash : Some x ≡ None =
    sym (ap (λ (b : Bool). cond b (Some x) (first_showing xs seen)) here) ∙ none in
    absurd cc
first_none (x ∷ xs) seen o none (suc i, inside, is) shown =
    go (shows_all x seen) (λ rest. first_none xs seen o rest (i, omega (arith, inside), is) shown) none
  where
    go : (b : Bool) → (first_showing xs seen ≡ None → ⊥) → cond b (Some x) (first_showing xs seen) ≡ None → ⊥
    go true rest here = absurd cc
    go false rest later = rest later
