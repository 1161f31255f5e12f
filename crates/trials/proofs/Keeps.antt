-- Each step keeps the desk legal.
use Rattle.std.proofs.Common.{true≢false, ◌≡◌, ◌≢◌, ◌⊎◌, ℕ, zero, suc, ◌<◌, ◌≤◌, true, false}
use Rattle.std.proofs.Common.{eqb, List, [], ◌∷◌, ◌++◌, length, get_or, set, sym, refl, ap, ◌∙◌, subst, inl}
use Rattle.std.proofs.Common.{inr, ⊎_elim, arith, eq-eqb, ne_eqb}
use Rattle.std.specs.Prelude.{Contains, Option, None, Some}
use Rattle.std.proofs.lemmas.List.{get_or-set_same, get_or-set_other, length-set}
use Rattle.std.proofs.lemmas.List.Elements.{Contains-append_left, Contains-append_right}
use Rattle.std.proofs.lemmas.List.Elements.{Contains-append_cases, Contains-push, Contains-push_cases}
use mathlib.Core.Logic.{dite}
use mathlib.Core.Option.{none, some, some-injective, some-ne-none}
use native.Mathlib.Decide.{ℕ_discrete}
use lib.ListN.{get_elem?}
use prog.Atomic.{either}
use Rattle.atomic_table.specs.Table.{State, Me, step, keeps, stepped, Allows, Splits, Joins}
use Rattle.atomic_table.proofs.Lists.{at_set, at_snoc, at_longer, set_here, set_else}
use Rattle.trials.specs.Campaigns.{Plan}
use Rattle.trials.specs.declared.desk_table.SeatKnowledge.{SeatKnowledge}
use Rattle.verdicts.specs.declared.verdict.Verdict.{Verdict}
use Rattle.verdicts.specs.declared.verdict.Verdict.TheVariants.{Ordered, Overlook, Cycle}
use Rattle.trials.specs.Codes.{IsCode, end_code}
use Rattle.trials.specs.LegalDesk.{first_view, spent_view, with_others, without_share, joined_views, claimed}
use Rattle.trials.specs.LegalDesk.{saw_claimed, saw_filed, completed, AreAllOpen}
use Rattle.trials.specs.LegalDesk.{FitsAt, IsDeskWord, Legal, Was, ClaimStep, FileStep, LookStep}

none_in : {X : Type 0} (x : X) → Contains [] x → ⊥
none_in x h = omega (arith, h.1)

off : false ≡ true → ⊥
off e = true≢false (sym e)

in_length : (l : List SeatKnowledge) (i : ℕ) (v : SeatKnowledge) → get_elem? l i ≡ some v → i < length l
in_length [] i v e = absurd (some-ne-none v (sym e))
in_length (x ∷ xs) zero v e = omega arith
in_length (x ∷ xs) (suc i) v e = let h = in_length xs i v e in omega arith

-- what holds of the words of the other trials, and of the new word of trial k, holds of each
words_any : (P : ℕ → ℕ → Type 0) (words : List ℕ) (k n : ℕ) → k < length words
    → ((j : ℕ) → j ≢ k → P j (get_or words j 0)) → P k n → (j : ℕ) → P j (get_or (set words k n) j 0)
words_any P words k n low others here j = dite (ℕ_discrete j k)
    (λ is. subst (λ (z : ℕ × ℕ). P z.0 z.1)
    (λ i. (
      sym is i,
      sym (ap (λ (q : ℕ). get_or (set words k n) q 0) is ∙ get_or-set_same words k n 0 low)
          i,
    )) here)
    (λ ne. subst (P j) (sym (get_or-set_other words k j n 0 ne)) (others j ne))

-- a fact of each view, after the view of one seat changed
each_set : (P : ℕ → SeatKnowledge → Type 0) (views : List SeatKnowledge) (id : ℕ) (w : SeatKnowledge) → P id w
    → ((j : ℕ) (u : SeatKnowledge) → j ≢ id → get_elem? views j ≡ some u → P j u) → (j : ℕ) (u : SeatKnowledge)
    → get_elem? (set views id w) j ≡ some u → P j u
each_set P views id w mine others j u e = ⊎_elim
    (λ (x : (j ≡ id) × (w ≡ u)). subst (λ (y : ℕ × SeatKnowledge). P y.0 y.1) (λ i. (sym x.0 i, x.1 i)) mine)
    (λ (x : (j ≢ id) × (get_elem? views j ≡ some u)). others j u x.0 x.1)
    (at_set views id j w u e)

-- a code is neither 0 nor 1
code_big : (c : Plan) (k n : ℕ) → IsCode c k n → 2 ≤ n
code_big c k n h = by h.verdict h.code
  where
    by : (o : Option Verdict) → n ≡ end_code o → 2 ≤ n
    by None e = omega (arith, e)
    by (Some (Ordered order)) e = omega (arith, e)
    by (Some (Overlook load store)) e = omega (arith, e)
    by (Some (Cycle certificate)) e = omega (arith, e)

-- who has a trial still has it where the view of one seat grew
still : (views : List SeatKnowledge) (id : ℕ) (v w : SeatKnowledge) → get_elem? views id ≡ some v
    → ((q : ℕ) → Contains v.share q → Contains w.share q) → (q : ℕ) (i : ℕ) (u : SeatKnowledge)
    → get_elem? views i ≡ some u → Contains u.share q
    → (j : ℕ) × (x : SeatKnowledge) × (get_elem? (set views id w) j ≡ some x) × Contains x.share q
still views id v w at grows q i u e has = dite (ℕ_discrete i id)
    (λ is. let same : u ≡ v = some-injective u v (sym e ∙ ap (get_elem? views) is ∙ at) in (
      id,
      w,
      set_here views id w (in_length views id v at),
      grows q (subst (λ (x : SeatKnowledge). Contains x.share q) same has),
    ))
    (λ ne. (i, u, set_else views id i w ne ∙ e, has))

-- no trial is in two shares, after the view of one seat changed
alone_set : (views : List SeatKnowledge) (id : ℕ) (w : SeatKnowledge)
    → ((i j : ℕ) (v u : SeatKnowledge) → get_elem? views i ≡ some v → get_elem? views j ≡ some u → (k : ℕ)
    → Contains v.share k → Contains u.share k → i ≡ j)
    → ((j : ℕ) (u : SeatKnowledge) → j ≢ id → get_elem? views j ≡ some u → (q : ℕ) → Contains w.share q
    → Contains u.share q → ⊥)
    → (i j : ℕ) (a b : SeatKnowledge) → get_elem? (set views id w) i ≡ some a → get_elem? (set views id w) j ≡ some b
    → (q : ℕ) → Contains a.share q → Contains b.share q → i ≡ j
alone_set views id w was apart i j a b ea =
    each_set (λ i a. (j : ℕ) (b : SeatKnowledge) → get_elem? (set views id w) j ≡ some b → (q : ℕ) → Contains a.share q
    → Contains b.share q → i ≡ j) views id w
    (each_set (λ j b. (q : ℕ) → Contains w.share q → Contains b.share q → id ≡ j) views id w (λ q _ _. refl)
    (λ j u ne e q hw hu. absurd (apart j u ne e q hw hu)))
    (λ i a nei ea. each_set (λ j b. (q : ℕ) → Contains a.share q → Contains b.share q → i ≡ j) views id w
    (λ q ha hw. absurd (apart i a nei ea q hw ha))
    (λ j b nej eb q ha hb. was i j a b ea eb q ha hb))
    i a ea j b

-- The word of k becomes n and the seat's view w. Whoever has a trial of w's share is this seat
pub moved : (c : Plan) (s : State (Unit {0}) SeatKnowledge) (r : Legal c s) (id k n : ℕ) (v w : SeatKnowledge)
    → get_elem? s.views id ≡ some v → k < c.trials
    → IsDeskWord c k n
    → (w.live ≡ true → w.campaign ≡ c) → (w.alone ≡ v.alone)
    → ((j : ℕ) → j ≢ k → FitsAt w j (get_or s.words j 0)) → FitsAt w k n
    → ((j : ℕ) (u : SeatKnowledge) → j ≢ id → get_elem? s.views j ≡ some u → FitsAt u k n)
    → ((j : ℕ) (u : SeatKnowledge) → j ≢ id → get_elem? s.views j ≡ some u → (q : ℕ) → Contains w.share q
    → Contains u.share q → ⊥)
    → ((q : ℕ) → Contains v.share q → Contains w.share q)
    → (n ≢ 0 → Contains w.share k ⊎ (get_or s.words k 0 ≢ 0))
    → (c' : List (ℕ × Unit {0})) → Legal c (stepped s k n id c' w keeps)
moved c s r id k n v w at low ok camp same mine_else mine others apart grows mine_now c' =
    let wide : k < length s.words = rw r.size low in
    let here : get_elem? (set s.views id w) id ≡ some w = set_here s.views id w (in_length s.views id v at) in
    record {
      size = length-set s.words k n ∙ r.size;
      words = words_any (IsDeskWord c) s.words k n wide (λ j _. r.words j) ok;
      carried = each_set (λ j u. u.live ≡ true → u.campaign ≡ c) s.views id w camp
          (λ j u ne e. r.carried j u e);
      fits = each_set (λ j u. (q : ℕ) → FitsAt u q (get_or (set s.words k n) q 0)) s.views id w
          (words_any (FitsAt w) s.words k n wide mine_else mine)
          (λ j u ne e. words_any (FitsAt u) s.words k n wide (λ q _. r.fits j u e q) (others j u ne e));
      alone = alone_set s.views id w r.alone apart;
      owned = λ q filled. dite (ℕ_discrete q k)
          (λ is. let full : n ≢ 0 = λ e. filled (ap (λ (z : ℕ). get_or (set s.words k n) z 0) is
          ∙ get_or-set_same s.words k n 0 wide ∙ e) in
          ⊎_elim
          (λ has. (id, w, here, subst (Contains w.share) (sym is) has))
          (λ old. let o = r.owned k old in still s.views id v w at grows q o.0 o.1 o.2
          (subst (Contains o.1.share) (sym is) o.3))
          (mine_now full))
          (λ ne. let o = r.owned q (λ e. filled (get_or-set_other s.words k q n 0 ne ∙ e)) in
          still s.views id v w at grows q o.0 o.1 o.2 o.3);
      sole = λ j u e l. length-set s.views id w ∙ each_set (λ _ u. u.alone ≡ true → length s.views ≡ 1)
          s.views id w (λ a. r.sole id v at (sym same ∙ a)) (λ j u _ e. r.sole j u e) j u e l;
    }

-- the seat's view is the same but for what it has seen, and so is the word
pub watched : (c : Plan) (s : State (Unit {0}) SeatKnowledge) (r : Legal c s) (id k : ℕ) (v w : SeatKnowledge)
    → get_elem? s.views id ≡ some v → k < c.trials
    → (w.live ≡ v.live) → (w.campaign ≡ v.campaign) → (w.alone ≡ v.alone) → (w.share ≡ v.share)
    → ((j : ℕ) → FitsAt w j (get_or s.words j 0))
    → (c' : List (ℕ × Unit {0})) → Legal c (stepped s k (get_or s.words k 0) id c' w keeps)
watched c s r id k v w at low live camp alone share fits c' =
    moved c s r id k (get_or s.words k 0) v w at low (r.words k)
    (λ l. camp ∙ r.carried id v at (sym live ∙ l)) alone (λ j _. fits j) (fits k)
    (λ j u _ e. r.fits j u e k)
    (λ j u ne e q hw hu. ne (r.alone j id u v e at q hu (subst (λ (xs : List ℕ). Contains xs q) share hw)))
    (λ q h. subst (λ (xs : List ℕ). Contains xs q) (sym share) h)
    (λ full. inr full) c'

-- a claim that found the word open
claims_open : (c : Plan) (s : State (Unit {0}) SeatKnowledge) (r : Legal c s) (id k : ℕ) (v : SeatKnowledge)
    → get_elem? s.views id ≡ some v → k < c.trials → get_or s.words k 0 ≡ 0
    → (c' : List (ℕ × Unit {0})) → Legal c (stepped s k 1 id c' (claimed v k) keeps)
claims_open c s r id k v at low open' c' =
    let none_has : (i : ℕ) (u : SeatKnowledge) → get_elem? s.views i ≡ some u → Contains u.share k → ⊥ =
    λ i u e h. (r.fits i u e k).0 h open' in
    let none_read : (i : ℕ) (u : SeatKnowledge) → get_elem? s.views i ≡ some u → Contains u.read k → ⊥ =
    λ i u e h. let big = code_big u.campaign k (get_or s.words k 0) ((r.fits i u e k).4 h) in
    absurd (omega (arith, big, open')) in
    let f = r.fits id v at k in
    moved c s r id k 1 v (claimed v k) at low (inr (inl refl)) (λ l. r.carried id v at l) refl
    (λ j ne. let g = r.fits id v at j in (
      (λ h. ⊎_elim (λ x. g.0 x) (λ (x : k ≡ j). absurd (ne (sym x))) (Contains-push_cases v.share k j h)),
      (λ h. (Contains-append_left v.share (k ∷ []) j (g.1 h).0, (g.1 h).1)),
      (λ h out. ⊎_elim (λ x. g.2 x out) (λ (x : k ≡ j). absurd (ne (sym x)))
          (Contains-push_cases v.share k j h)),
      (λ h. ⊎_elim (λ x. g.3 x) (λ (x : k ≡ j). absurd (ne (sym x))) (Contains-push_cases v.seen k j h)),
      g.4,
    )) (
      (λ _. λ e. omega (arith, e)),
      (λ h. absurd (f.0 (f.1 h).0 open')),
      (λ _ _. refl),
      (λ _. λ e. omega (arith, e)),
      (λ h. absurd (none_read id v at h)),
    )
    (λ j u ne e. let g = r.fits j u e k in (
      (λ h. absurd (none_has j u e h)),
      (λ h. absurd (none_has j u e (g.1 h).0)),
      (λ h _. absurd (none_has j u e h)),
      (λ h. absurd (g.3 h open')),
      (λ h. absurd (none_read j u e h)),
    ))
    (λ j u ne e q hw hu. ⊎_elim (λ x. ne (r.alone j id u v e at q hu x))
    (λ (x : k ≡ q). none_has j u e (subst (Contains u.share) (sym x) hu))
    (Contains-push_cases v.share k q hw))
    (λ q h. Contains-append_left v.share (k ∷ []) q h)
    (λ _. inl (Contains-push v.share k)) c'

was : (c : Plan) (s : State (Unit {0}) SeatKnowledge) (r : Legal c s) (id k : ℕ) (v : SeatKnowledge) → v.live ≡ true
    → get_elem? s.views id ≡ some v → Was v k (get_or s.words k 0)
was c s r id k v live at = (s, id, subst (λ (z : Plan). Legal z s) (sym (r.carried id v at live)) r, at, refl)

saw_claimed_fits : (words : List ℕ) (v : SeatKnowledge) (k : ℕ) → ((j : ℕ) → FitsAt v j (get_or words j 0))
    → get_or words k 0 ≢ 0 → (j : ℕ) → FitsAt (saw_claimed v k) j (get_or words j 0)
saw_claimed_fits words v k f full j = let g = f j in (
  g.0,
  g.1,
  g.2,
  (λ h. ⊎_elim (λ x. g.3 x)
      (λ (x : k ≡ j). λ e. full (ap (λ (z : ℕ). get_or words z 0) x ∙ e)) (Contains-push_cases v.seen k j h)),
  g.4,
)

saw_filed_fits : (words : List ℕ) (v : SeatKnowledge) (k : ℕ) → ((j : ℕ) → FitsAt v j (get_or words j 0))
    → get_or words k 0 ≢ 0 → IsCode v.campaign k (get_or words k 0) → (j : ℕ) → FitsAt (saw_filed v k) j
    (get_or words j 0)
saw_filed_fits words v k f full is j = let g = saw_claimed_fits words v k f full j in (
  g.0,
  g.1,
  g.2,
  g.3,
  λ h. ⊎_elim (λ x. (f j).4 x)
      (λ (x : k ≡ j). subst (λ (z : ℕ). IsCode v.campaign z (get_or words z 0)) x is)
      (Contains-push_cases v.read k j h),
)

pub claims : (c : Plan) (slots id k : ℕ) (me : Me (Unit {0}) SeatKnowledge) → k < c.trials → me.0.live ≡ true
    → Allows (Legal c) slots id me k (λ n. either (eqb n 0) 1 n) (ClaimStep (step slots k 0 1 none) me)
claims c slots id k me low live s r _ at _ = let x : ℕ = get_or s.words k 0 in dite (ℕ_discrete x 0)
    (λ hit. (
      claimed me.0 k,
      keeps,
      tt,
      subst (λ b. Legal c (stepped s k (either b 1 x) id me.1 (claimed me.0 k) keeps)) (sym (eq-eqb x 0 hit))
          (claims_open c s r id k me.0 at low hit me.1),
      (was c s r id k me.0 live at, refl, (λ _. refl), λ not. absurd (not hit)),
    ))
    (λ miss. (
      saw_claimed me.0 k,
      keeps,
      tt,
      subst (λ b. Legal c (stepped s k (either b 1 x) id me.1 (saw_claimed me.0 k) keeps)) (sym (ne_eqb x 0 miss))
          (watched c s r id k me.0 (saw_claimed me.0 k) at low refl refl refl refl
          (saw_claimed_fits s.words me.0 k (r.fits id me.0 at) miss) me.1),
      (was c s r id k me.0 live at, refl, (λ hit. absurd (miss hit)), λ _. refl),
    ))

pub looks : (c : Plan) (slots id k : ℕ) (me : Me (Unit {0}) SeatKnowledge) → k < c.trials → me.0.live ≡ true
    → Allows (Legal c) slots id me k (λ n. n) (LookStep (step slots k 0 0 none) me)
looks c slots id k me low live s r _ at _ = let x : ℕ = get_or s.words k 0 in let w =
    was c s r id k me.0 live at in let f = r.fits id me.0 at in dite (ℕ_discrete x 0)
    (λ hit. (
      me.0,
      keeps,
      tt,
      watched c s r id k me.0 me.0 at low refl refl refl refl f me.1,
      (w, refl, (λ _. refl), (λ e. absurd (omega (arith, hit, e))), λ not. absurd (not hit)),
    ))
    (λ full. dite (ℕ_discrete x 1)
    (λ one. (
      saw_claimed me.0 k,
      keeps,
      tt,
      watched c s r id k me.0 (saw_claimed me.0 k) at low refl refl refl refl
          (saw_claimed_fits s.words me.0 k f full) me.1,
      (w, refl, (λ e. absurd (full e)), (λ _. refl), λ _ not. absurd (not one)),
    ))
    (λ more.
    let coded : IsCode c k x = ⊎_elim (λ e. absurd (full e)) (λ y. ⊎_elim (λ e. absurd (more e)) (λ e. e) y)
    (r.words k) in
    let mine : IsCode me.0.campaign k x = subst (λ (z : Plan). IsCode z k x) (sym (r.carried id me.0 at live))
    coded in (
      saw_filed me.0 k,
      keeps,
      tt,
      watched c s r id k me.0 (saw_filed me.0 k) at low refl refl refl refl
          (saw_filed_fits s.words me.0 k f full mine) me.1,
      (w, refl, (λ e. absurd (full e)), (λ e. absurd (more e)), λ _ _. (refl, mine)),
    )))

pub files : (c : Plan) (slots id k n : ℕ) (me : Me (Unit {0}) SeatKnowledge) → k < c.trials → me.0.live ≡ true
    → Contains me.0.share k → (Contains me.0.filed k → ⊥) → IsCode me.0.campaign k n
    → Allows (Legal c) slots id me k (λ _. n) (λ _. FileStep (step slots k n 0 none) me n)
files c slots id k n me low live has unfiled is s r _ at _ =
    let v = me.0 in
    let f = r.fits id v at k in
    let one : get_or s.words k 0 ≡ 1 = f.2 has unfiled in
    let big = code_big v.campaign k n is in
    let full : n ≢ 0 = λ e. omega (arith, e, big) in
    let coded : IsCode c k n = subst (λ (z : Plan). IsCode z k n) (r.carried id v at live) is in
    let theirs : (j : ℕ) (u : SeatKnowledge) → j ≢ id → get_elem? s.views j ≡ some u → Contains u.share k → ⊥ =
    λ j u ne e h. ne (r.alone j id u v e at k h has) in (
      completed v k,
      keeps,
      tt,
      moved c s r id k n v (completed v k) at low (inr (inr coded)) (λ l. r.carried id v at l) refl
          (λ j ne. let g = r.fits id v at j in (
            g.0,
            (λ h. ⊎_elim (λ x. g.1 x) (λ (x : k ≡ j). absurd (ne (sym x)))
                (Contains-push_cases v.filed k j h)),
            (λ h out. g.2 h (λ x. out (Contains-append_left v.filed (k ∷ []) j x))),
            g.3,
            (λ h. ⊎_elim (λ x. g.4 x) (λ (x : k ≡ j). absurd (ne (sym x)))
                (Contains-push_cases v.read k j h)),
          )) (
            (λ _. full),
            (λ _. (has, is)),
            (λ _ out. absurd (out (Contains-push v.filed k))),
            (λ _. full),
            (λ _. is),
          )
          (λ j u ne e. let g = r.fits j u e k in (
            (λ _. full),
            (λ h. absurd (theirs j u ne e (g.1 h).0)),
            (λ h _. absurd (theirs j u ne e h)),
            (λ _. full),
            (λ h. let b = code_big u.campaign k (get_or s.words k 0) (g.4 h) in
                absurd (omega (arith, one, b))),
          ))
          (λ j u ne e q hw hu. ne (r.alone j id u v e at q hu hw))
          (λ q h. h)
          (λ _. inl has) me.1,
      (refl, refl),
    )

-- where a seat is the only one, all others are it
only_one : (s : State (Unit {0}) SeatKnowledge) (i j : ℕ) (v w : SeatKnowledge) → length s.views ≡ 1
    → get_elem? s.views i ≡ some v → get_elem? s.views j ≡ some w → i ≡ j
only_one s i j v w one at at' = omega (arith, one, in_length s.views i v at, in_length s.views j w at')

-- so its share has each trial that is not open
pub sole_share : (c : Plan) (s : State (Unit {0}) SeatKnowledge) (r : Legal c s) (i k : ℕ) (v : SeatKnowledge)
    → get_elem? s.views i ≡ some v → v.alone ≡ true → get_or s.words k 0 ≢ 0 → Contains v.share k
sole_share c s r i k v at alone full =
    let o = r.owned k full in
    let same : o.0 ≡ i = only_one s o.0 i o.1 v (r.sole i v at alone) o.2 at in
    subst (λ (x : SeatKnowledge). Contains x.share k)
    (some-injective o.1 v (sym o.2 ∙ ap (get_elem? s.views) same ∙ at)) o.3

-- and a desk that is opened has no such trial
pub all_open : (c : Plan) → AreAllOpen (first_view c)
all_open c s i r at k = elim (ℕ_discrete (get_or s.words k 0) 0) [
  | yes e ↦ e
  | no full ↦ absurd (none_in k (sole_share c s r i k (first_view c) at refl full))
]

pub splits : (c : Plan) (id : ℕ) (v : SeatKnowledge) → v.live ≡ true
    → Splits (Legal c) id v (with_others v) (without_share v)
splits c id v live s r at =
    let left = with_others v in
    let views = set s.views id left in
    -- a fact of each view: of the old seat's, the other old ones, and the new seat's
    let each : (P : SeatKnowledge → Type 0) → P left → P (without_share v)
    → ((j : ℕ) (u : SeatKnowledge) → j ≢ id → get_elem? s.views j ≡ some u → P u)
    → (i : ℕ) (u : SeatKnowledge) → get_elem? (views ++ without_share v ∷ []) i ≡ some u → P u
    = λ P p q o i u e. ⊎_elim (λ x. each_set (λ _ w. P w) s.views id left p o i u x)
    (λ x. subst P x q) (at_snoc views (without_share v) u i e) in
    let nothing : (u : SeatKnowledge) → without_share v ≡ u → (k : ℕ) → Contains u.share k → ⊥ =
    λ u x k h. none_in k (subst (λ (z : SeatKnowledge). Contains z.share k) (sym x) h) in
    record {
      size = r.size;
      words = r.words;
      carried = each (λ u. u.live ≡ true → u.campaign ≡ c) (λ l. r.carried id v at l)
          (λ l. r.carried id v at l) (λ j u _ e. r.carried j u e);
      fits = each (λ u. (k : ℕ) → FitsAt u k (get_or s.words k 0)) (λ k. r.fits id v at k)
          (λ k. let f = r.fits id v at k in (
            (λ h. absurd (none_in k h)),
            (λ h. absurd (none_in k h)),
            (λ h. absurd (none_in k h)),
            f.3,
            f.4,
          )) (λ j u _ e. r.fits j u e);
      alone = λ i j a b ea eb k ha hb. ⊎_elim
          (λ x. ⊎_elim
          (λ y. alone_set s.views id left r.alone
          (λ j u ne e q hw hu. ne (r.alone j id u v e at q hu hw)) i j a b x y k ha hb)
          (λ y. absurd (nothing b y k hb)) (at_snoc views (without_share v) b j eb))
          (λ x. absurd (nothing a x k ha)) (at_snoc views (without_share v) a i ea);
      owned = λ k full.
          let o = r.owned k full in
          let t = still s.views id v left at (λ q h. h) k o.0 o.1 o.2 o.3 in
          (t.0, t.1, at_longer views (without_share v ∷ []) t.0 t.1 t.2, t.3);
      sole = λ i u e l. absurd (each (λ u. u.alone ≡ true → ⊥) (λ l. off l) (λ l. off l)
          (λ j u ne e l. ne (only_one s j id u v (r.sole j u e l) e at)) i u e l);
    }

joined_fits : (v w : SeatKnowledge) (k n : ℕ) → w.campaign ≡ v.campaign → FitsAt v k n → FitsAt w k n
    → FitsAt (joined_views v w) k n
joined_fits v w k n same f g = (
  (λ h. ⊎_elim (λ x. f.0 x) (λ x. g.0 x) (Contains-append_cases v.share w.share k h)),
  (λ h. ⊎_elim
      (λ x. (Contains-append_left v.share w.share k (f.1 x).0, (f.1 x).1))
      (λ x. (
        Contains-append_right v.share w.share k (g.1 x).0,
        subst (λ (z : Plan). IsCode z k n) same
            (g.1 x).1,
      ))
      (Contains-append_cases v.filed w.filed k h)),
  (λ h out. ⊎_elim (λ x. f.2 x (λ y. out (Contains-append_left v.filed w.filed k y)))
      (λ x. g.2 x (λ y. out (Contains-append_right v.filed w.filed k y)))
      (Contains-append_cases v.share w.share k h)),
  (λ h. ⊎_elim (λ x. f.3 x) (λ x. g.3 x) (Contains-append_cases v.seen w.seen k h)),
  (λ h. ⊎_elim (λ x. f.4 x) (λ x. subst (λ (z : Plan). IsCode z k n) same (g.4 x))
      (Contains-append_cases v.read w.read k h)),
)

gone_fits : (k n : ℕ) → FitsAt spent_view k n
gone_fits k n = (
  (λ h. absurd (none_in k h)),
  (λ h. absurd (none_in k h)),
  (λ h. absurd (none_in k h)),
  (λ h. absurd (none_in k h)),
  λ h. absurd (none_in k h),
)

pub joins : (c : Plan) (id : ℕ) (v : SeatKnowledge) (other : ℕ) (w : SeatKnowledge) → v.live ≡ true → w.live ≡ true
    → Joins (Legal c) id v other w (joined_views v w) spent_view
joins c id v other w lv lw s r at ne at' =
    let both = joined_views v w in
    let mid = set s.views id both in
    let there : get_elem? s.views other ≡ some w = sym (set_else s.views id other both ne) ∙ at' in
    let same : w.campaign ≡ v.campaign = r.carried other w there lw ∙ sym (r.carried id v at lv) in
    let here : get_elem? (set mid other spent_view) id ≡ some both = set_else mid other id spent_view
    (λ e. ne (sym e)) ∙ set_here s.views id both (in_length s.views id v at) in
    -- a view is the joined one, an old one, or nothing
    let kinds : (P : ℕ → SeatKnowledge → Type 0) → P id both → P other spent_view
    → ((j : ℕ) (u : SeatKnowledge) → j ≢ id → j ≢ other → get_elem? s.views j ≡ some u → P j u)
    → (j : ℕ) (u : SeatKnowledge) → get_elem? (set mid other spent_view) j ≡ some u → P j u
    = λ P p q o. each_set P mid other spent_view q
    (λ j u nj e. each_set (λ j u. j ≢ other → P j u) s.views id both (λ _. p)
    (λ j u ni e no. o j u ni no e) j u e nj) in
    record {
      size = r.size;
      words = r.words;
      carried = kinds (λ j u. u.live ≡ true → u.campaign ≡ c) (λ _. r.carried id v at lv)
          (λ l. absurd (off l)) (λ j u _ _ e. r.carried j u e);
      fits = kinds (λ j u. (k : ℕ) → FitsAt u k (get_or s.words k 0))
          (λ k. joined_fits v w k _ same (r.fits id v at k) (r.fits other w there k)) (λ k. gone_fits k _)
          (λ j u _ _ e. r.fits j u e);
      alone = λ i j a b ea. kinds (λ i a. (j : ℕ) (b : SeatKnowledge) → get_elem? (set mid other spent_view) j ≡ some b
          → (k : ℕ) → Contains a.share k → Contains b.share k → i ≡ j)
          (kinds (λ j b. (k : ℕ) → Contains both.share k → Contains b.share k → id ≡ j)
          (λ _ _ _. refl) (λ k _ h. absurd (none_in k h))
          (λ j b ni no e k h hb. ⊎_elim (λ x. absurd (ni (r.alone j id b v e at k hb x)))
          (λ x. absurd (no (r.alone j other b w e there k hb x)))
          (Contains-append_cases v.share w.share k h)))
          (λ j b _ k h. absurd (none_in k h))
          (λ i a ni no e. kinds (λ j b. (k : ℕ) → Contains a.share k → Contains b.share k → i ≡ j)
          (λ k ha h. ⊎_elim (λ x. absurd (ni (r.alone i id a v e at k ha x)))
          (λ x. absurd (no (r.alone i other a w e there k ha x)))
          (Contains-append_cases v.share w.share k h))
          (λ k _ h. absurd (none_in k h))
          (λ j b _ _ eb k ha hb. r.alone i j a b e eb k ha hb))
          i a ea j b;
      owned = λ k full. let o = r.owned k full in dite (ℕ_discrete o.0 id)
          (λ is. (
            id,
            both,
            here,
            Contains-append_left v.share w.share k
                (subst (λ (x : SeatKnowledge). Contains x.share k)
                (some-injective o.1 v (sym o.2 ∙ ap (get_elem? s.views) is ∙ at)) o.3),
          ))
          (λ ni. dite (ℕ_discrete o.0 other)
          (λ is. (
            id,
            both,
            here,
            Contains-append_right v.share w.share k
                (subst (λ (x : SeatKnowledge). Contains x.share k)
                (some-injective o.1 w (sym o.2 ∙ ap (get_elem? s.views) is ∙ there)) o.3),
          ))
          (λ no. (
            o.0,
            o.1,
            set_else mid other o.0 spent_view no ∙ set_else s.views id o.0 both ni ∙ o.2,
            o.3,
          )));
      sole = λ i u e l. absurd (kinds (λ _ u. u.alone ≡ true → ⊥) (λ l. off l) (λ l. off l)
          (λ j u ni _ e l. ni (only_one s j id u v (r.sole j u e l) e at)) i u e l);
    }
