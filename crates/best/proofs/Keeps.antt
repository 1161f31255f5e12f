-- Each step keeps the bound legal.
use Rattle.std.proofs.Common.{true≢false, ◌≡◌, ◌≢◌, ◌⊎◌, ℕ, zero, suc, ◌<◌, ◌≤◌, min, true, false}
use Rattle.std.proofs.Common.{List, [], ◌∷◌, ◌++◌, length, get_or, set, sym, refl, ap, ◌∙◌, subst, inr}
use Rattle.std.proofs.Common.{⊎_elim, arith}
use Rattle.std.specs.Prelude.{Contains}
use Rattle.std.proofs.lemmas.List.{get_or-set_same, length-set}
use Rattle.std.proofs.lemmas.List.Elements.{Contains-append_cases, Contains-push_cases, Contains-push}
use Rattle.std.proofs.lemmas.List.Elements.{Contains-append_left, Contains-append_right}
use mathlib.Core.Logic.{dite}
use mathlib.Core.Option.{none, some, some-injective, some-ne-none}
use native.Mathlib.Decide.{ℕ_discrete, dec_le}
use lib.ListN.{get_elem?}
use Rattle.atomic_table.specs.Table.{State, Me, step, keeps, stepped, Allows, Splits, Joins}
use Rattle.atomic_table.proofs.Lists.{at_set, at_snoc, at_longer, set_here, set_else}
use Rattle.best.specs.declared.rule.Known.{Known}
use Rattle.best.specs.declared.rule.SeatView.{SeatView}
use Rattle.relations.specs.Relation.{Table}
use Rattle.best.specs.Rule.{IsLength, none_word, first_bound_view, spent_bound_view, bound_with_others}
use Rattle.best.specs.Rule.{joined_bound_views, knows}
use Rattle.best.specs.Rule.{knowing, Bounded, LegalBest, IsUnset, LowerStep, ReadStep}

none_in : {X : Type 0} (x : X) → Contains [] x → ⊥
none_in x h = omega (arith, h.1)

off : false ≡ true → ⊥
off e = true≢false (sym e)

in_length : (l : List SeatView) (i : ℕ) (v : SeatView) → get_elem? l i ≡ some v → i < length l
in_length [] i v e = absurd (some-ne-none v (sym e))
in_length (x ∷ xs) zero v e = omega arith
in_length (x ∷ xs) (suc i) v e = let h = in_length xs i v e in omega arith

-- where a seat is the only one, all others are it
only_one : (views : List SeatView) (i j : ℕ) (v w : SeatView) → length views ≡ 1 → get_elem? views i ≡ some v
    → get_elem? views j ≡ some w → i ≡ j
only_one views i j v w one at at' = omega (arith, one, in_length views i v at, in_length views j w at')

-- a fact of each view, after the view of one seat changed
each_set : (P : ℕ → SeatView → Type 0) (views : List SeatView) (id : ℕ) (w : SeatView) → P id w
    → ((j : ℕ) (u : SeatView) → j ≢ id → get_elem? views j ≡ some u → P j u) → (j : ℕ) (u : SeatView)
    → get_elem? (set views id w) j ≡ some u → P j u
each_set P views id w mine others j u e = ⊎_elim
    (λ (x : (j ≡ id) × (w ≡ u)). subst (λ (y : ℕ × SeatView). P y.0 y.1) (λ i. (sym x.0 i, x.1 i)) mine)
    (λ (x : (j ≢ id) × (get_elem? views j ≡ some u)). others j u x.0 x.1)
    (at_set views id j w u e)

-- some view knows this length
abbrev Owned : List SeatView → ℕ → Type 0
Owned views n = (i : ℕ) × (v : SeatView) × (get_elem? views i ≡ some v) × Contains v.known.lengths n

-- who knows a length still knows it where the view of one seat grew
still : (views : List SeatView) (id : ℕ) (v w : SeatView) → get_elem? views id ≡ some v → (n : ℕ)
    → (Contains v.known.lengths n → Contains w.known.lengths n) → Owned views n → Owned (set views id w) n
still views id v w at n grows o = dite (ℕ_discrete o.0 id)
    (λ is. let same : o.1 ≡ v = some-injective o.1 v (sym o.2 ∙ ap (get_elem? views) is ∙ at) in (
      id,
      w,
      set_here views id w (in_length views id v at),
      grows (subst (λ (x : SeatView). Contains x.known.lengths n) same o.3),
    ))
    (λ ne. (o.0, o.1, set_else views id o.0 w ne ∙ o.2, o.3))

knows_bounded : (v : Known) (k n m : ℕ) → Bounded v n → m ≤ n → m ≤ k → k < 65536 → Bounded (knows v k) m
knows_bounded v k n m b less low small q h = ⊎_elim (λ x. let y = b q x in (omega (arith, y.0), y.1))
    (λ (x : k ≡ q). (omega (arith, x), omega (arith, x))) (Contains-push_cases v.lengths k q h)

lower_bounded : (v : Known) (n m : ℕ) → Bounded v n → m ≤ n → Bounded v m
lower_bounded v n m b less q h = let y = b q h in (omega (arith, y.0), y.1)

-- The word becomes n, no larger than it was, and the seat's view w
moved : (c : Table) (s : State (Unit {0}) SeatView) (r : LegalBest c s) (id n : ℕ) (v w : SeatView)
    → get_elem? s.views id ≡ some v → n ≤ get_or s.words 0 0
    → (n ≡ none_word) ⊎ (IsLength c n × (n < 65536)) → (w.known.live ≡ true → w.known.relation ≡ c)
    → Bounded w.known n → (w.alone ≡ v.alone) → (n ≢ none_word → Owned (set s.views id w) n)
    → (c' : List (ℕ × Unit {0})) → LegalBest c (stepped s 0 n id c' w keeps)
moved c s r id n v w at less ok of mine same owned c' =
    let is : get_or (set s.words 0 n) 0 0 ≡ n = get_or-set_same s.words 0 n 0 (omega (arith, r.size)) in
    record {
      size = length-set s.words 0 n ∙ r.size;
      word = subst (λ (z : ℕ). (z ≡ none_word) ⊎ (IsLength c z × (z < 65536))) (sym is) ok;
      carried = each_set (λ j u. u.known.live ≡ true → u.known.relation ≡ c) s.views id w of
          (λ j u _ e. r.carried j u e);
      bounded = subst (λ (z : ℕ). (i : ℕ) (v : SeatView) → get_elem? (set s.views id w) i ≡ some v
          → Bounded v.known z) (sym is)
          (each_set (λ j u. Bounded u.known n) s.views id w mine
          (λ j u _ e. lower_bounded u.known _ n (r.bounded j u e) less));
      owned = subst (λ (z : ℕ). z ≢ none_word → Owned (set s.views id w) z) (sym is) owned;
      sole = λ j u e l. length-set s.views id w ∙ each_set (λ _ u. u.alone ≡ true → length s.views ≡ 1)
          s.views id w (λ a. r.sole id v at (sym same ∙ a)) (λ j u _ e. r.sole j u e) j u e l;
    }

pub lowers : (c : Table) (slots id k : ℕ) (me : Me (Unit {0}) SeatView) → IsLength c k → k < 65536
    → Allows (LegalBest c) slots id me 0 (λ n. min n k) (LowerStep (step slots 0 k 0 none) me)
lowers c slots id k me is small s r _ at _ =
    let v = me.0 in
    let w = knowing v k in
    let n : ℕ = get_or s.words 0 0 in
    let m : ℕ = min n k in
    let ok : (m ≡ none_word) ⊎ (IsLength c m × (m < 65536)) = elim (dec_le n k) [
      | yes le ↦ subst (λ (z : ℕ). (z ≡ none_word) ⊎ (IsLength c z × (z < 65536))) (omega arith) r.word
      | no ne ↦ inr (subst (IsLength c) (omega arith) is, omega arith)
    ] in
    let here : get_elem? (set s.views id w) id ≡ some w = set_here s.views id w (in_length s.views id v at) in
    let owned : m ≢ none_word → Owned (set s.views id w) m = λ full. elim (dec_le n k) [
      | yes le ↦ let same : n ≡ m = omega arith in subst (Owned (set s.views id w)) same
          (still s.views id v w at n (Contains-append_left v.known.lengths (k ∷ []) n)
          (r.owned (λ e. full (sym same ∙ e))))
      | no ne ↦ (id, w, here, subst (Contains w.known.lengths) (omega arith) (Contains-push v.known.lengths k))
    ] in (
      w,
      keeps,
      tt,
      moved c s r id m v w at (omega arith) ok (λ l. r.carried id v at l)
          (knows_bounded v.known k n m (r.bounded id v at) (omega arith) (omega arith) small) refl owned me.1,
      (refl, refl),
    )

-- what the only seat of a bound loads is a length that it knew
sole_length : (c : Table) (s : State (Unit {0}) SeatView) (r : LegalBest c s) (id : ℕ) (v : SeatView)
    → get_elem? s.views id ≡ some v → v.alone ≡ true → get_or s.words 0 0 ≢ none_word
    → Contains v.known.lengths (get_or s.words 0 0)
sole_length c s r id v at alone full =
    let o = r.owned full in
    let same : o.0 ≡ id = only_one s.views o.0 id o.1 v (r.sole id v at alone) o.2 at in
    subst (λ (x : SeatView). Contains x.known.lengths (get_or s.words 0 0))
    (some-injective o.1 v (sym o.2 ∙ ap (get_elem? s.views) same ∙ at)) o.3

-- so a bound that is opened is none
pub unset : (c : Table) → IsUnset (first_bound_view c)
unset c s i r at = elim (ℕ_discrete (get_or s.words 0 0) none_word) [
  | yes e ↦ e
  | no full ↦ absurd (none_in (get_or s.words 0 0) (sole_length c s r i (first_bound_view c) at refl full))
]

pub reads : (c : Table) (slots id : ℕ) (me : Me (Unit {0}) SeatView) → me.0.known.live ≡ true
    → Allows (LegalBest c) slots id me 0 (λ n. n) (ReadStep (step slots 0 0 0 none) me)
reads c slots id me live s r _ at _ =
    let v = me.0 in
    let n : ℕ = get_or s.words 0 0 in
    let b = r.bounded id v at in
    let of = r.carried id v at in
    let own = sole_length c s r id v at in dite (ℕ_discrete n none_word)
    (λ hit. (
      v,
      keeps,
      tt,
      moved c s r id n v v at (omega arith) r.word of b refl (λ full. absurd (full hit)) me.1,
      (refl, ((b, (λ _. refl), λ not. absurd (not hit)), refl, own)),
    ))
    (λ miss.
    let is : IsLength c n × (n < 65536) = ⊎_elim (λ e. absurd (miss e)) (λ x. x) r.word in (
      knowing v n,
      keeps,
      tt,
      moved c s r id n v (knowing v n) at (omega arith) r.word of
          (knows_bounded v.known n n n b (omega arith) (omega arith) is.1) refl
          (λ full. still s.views id v (knowing v n) at n (Contains-append_left v.known.lengths (n ∷ []) n)
          (r.owned full)) me.1,
      (
        refl,
        (
          (
            b,
            (λ e. absurd (miss e)),
            λ _. (
              refl,
              subst (λ (z : Table). IsLength z n) (sym (of live)) is.0,
              is.1,
            ),
          ),
          refl,
          own,
        ),
      ),
    ))

pub splits : (c : Table) (id : ℕ) (v : SeatView) → Splits (LegalBest c) id v (bound_with_others v) (bound_with_others v)
splits c id v s r at =
    let w = bound_with_others v in
    let views = set s.views id w in
    -- a fact of each view: of the two seats', and of the others
    let each : (P : SeatView → Type 0) → P w
    → ((j : ℕ) (u : SeatView) → j ≢ id → get_elem? s.views j ≡ some u → P u)
    → (i : ℕ) (u : SeatView) → get_elem? (views ++ w ∷ []) i ≡ some u → P u
    = λ P p o i u e. ⊎_elim (λ x. each_set (λ _ u. P u) s.views id w p o i u x)
    (λ x. subst P x p) (at_snoc views w u i e) in
    record {
      size = r.size;
      word = r.word;
      carried = each (λ u. u.known.live ≡ true → u.known.relation ≡ c) (r.carried id v at)
          (λ j u _ e. r.carried j u e);
      bounded = each (λ u. Bounded u.known (get_or s.words 0 0)) (r.bounded id v at)
          (λ j u _ e. r.bounded j u e);
      owned = λ full.
          let t = still s.views id v w at (get_or s.words 0 0) (λ h. h) (r.owned full) in
          (t.0, t.1, at_longer views (w ∷ []) t.0 t.1 t.2, t.3);
      sole = λ i u e l. absurd (each (λ u. u.alone ≡ true → ⊥) (λ l. off l)
          (λ j u ne e l. ne (only_one s.views j id u v (r.sole j u e l) e at)) i u e l);
    }

pub joins : (c : Table) (id : ℕ) (v : SeatView) (other : ℕ) (w : SeatView)
    → Joins (LegalBest c) id v other w (joined_bound_views v w) spent_bound_view
joins c id v other w s r at ne at' =
    let both = joined_bound_views v w in
    let n : ℕ = get_or s.words 0 0 in
    let mid = set s.views id both in
    let there : get_elem? s.views other ≡ some w = sym (set_else s.views id other both ne) ∙ at' in
    let here : get_elem? (set mid other spent_bound_view) id ≡ some both = set_else mid other id spent_bound_view
    (λ e. ne (sym e)) ∙ set_here s.views id both (in_length s.views id v at) in
    -- a view is the joined one, nothing, or an old one
    let kinds : (P : SeatView → Type 0) → P both → P spent_bound_view
    → ((j : ℕ) (u : SeatView) → j ≢ id → get_elem? s.views j ≡ some u → P u) → (j : ℕ) (u : SeatView)
    → get_elem? (set mid other spent_bound_view) j ≡ some u → P u
    = λ P p q o. each_set (λ _ u. P u) mid other spent_bound_view q
    (λ j u _ e. each_set (λ _ u. P u) s.views id both p o j u e) in
    record {
      size = r.size;
      word = r.word;
      carried = kinds (λ u. u.known.live ≡ true → u.known.relation ≡ c) (λ l. r.carried id v at l)
          (λ l. absurd (off l)) (λ j u _ e. r.carried j u e);
      bounded = kinds (λ u. Bounded u.known n)
          (λ k h. ⊎_elim (λ x. r.bounded id v at k x) (λ x. r.bounded other w there k x)
          (Contains-append_cases v.known.lengths w.known.lengths k h)) (λ k h. absurd (none_in k h))
          (λ j u _ e. r.bounded j u e);
      owned = λ full. let o = r.owned full in dite (ℕ_discrete o.0 id)
          (λ is. (
            id,
            both,
            here,
            Contains-append_left v.known.lengths w.known.lengths n
                (subst (λ (x : SeatView). Contains x.known.lengths n)
                (some-injective o.1 v (sym o.2 ∙ ap (get_elem? s.views) is ∙ at)) o.3),
          ))
          (λ ni. dite (ℕ_discrete o.0 other)
          (λ is. (
            id,
            both,
            here,
            Contains-append_right v.known.lengths w.known.lengths n
                (subst (λ (x : SeatView). Contains x.known.lengths n)
                (some-injective o.1 w (sym o.2 ∙ ap (get_elem? s.views) is ∙ there)) o.3),
          ))
          (λ no. (
            o.0,
            o.1,
            set_else mid other o.0 spent_bound_view no ∙ set_else s.views id o.0 both ni ∙ o.2,
            o.3,
          )));
      sole = λ i u e l. absurd (kinds (λ u. u.alone ≡ true → ⊥) (λ l. off l) (λ l. off l)
          (λ j u ni e l. ni (only_one s.views j id u v (r.sole j u e l) e at)) i u e l);
    }
