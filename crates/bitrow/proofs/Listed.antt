-- The numbers of a set, listed.
use Rattle.std.proofs.Common.{◌≡◌, ◌+◌, ◌-◌, inl, inr, ℕ, Bool, true, false, List, [], ◌∷◌, ◌++◌, length, get_or}
use Rattle.std.proofs.Common.{arith, refl, ap, sym, ◌∙◌, length-append}
use Rattle.std.proofs.lemmas.Bool.{cases_eq, cases_lt}
use Rattle.std.proofs.lemmas.List.{get_or_append_left, get_or-append_right}
use Rattle.bitrow.specs.Bits.{is_in}
use Rattle.bitrow.specs.Rows.{AreNumbersBelow}

-- none below 0
pub listed_none : (set : List Bool) → AreNumbersBelow 0 set []
listed_none set = record {
  few = omega arith;
  ascending = λ i j less h. absurd (omega arith);
  within = λ i h. absurd (omega arith);
  members = λ i h. absurd (omega arith);
  all = λ e h is. absurd (omega arith);
}

-- one that is not in the set
pub listed_not : (set : List Bool) (n : ℕ) (ks : List ℕ) → AreNumbersBelow n set ks → is_in set n ≡ false
    → AreNumbersBelow (n + 1) set ks
listed_not set n ks t none = record {
  few = omega (arith, t.few);
  ascending = t.ascending;
  within = λ i h. omega (arith, t.within i h);
  members = t.members;
  all = λ e h is. elim (cases_eq e n) [
    | inl same ↦ absurd (let no : false ≡ true = sym none ∙ (ap (λ (z : ℕ). is_in set z) (sym same) ∙ is) in cc)
    | inr other ↦ t.all e (omega arith) is
  ];
}

-- what stands at the end
last_at : (ks : List ℕ) (n i : ℕ) → i ≡ length ks → get_or (ks ++ n ∷ []) i 0 ≡ n
last_at ks n i at = ap (λ (k : ℕ). get_or (ks ++ n ∷ []) k 0) at
    ∙ get_or-append_right ks (n ∷ []) (length ks) (length ks) 0 refl (omega arith)
    ∙ ap (λ (k : ℕ). get_or (n ∷ []) k 0) (let none : length ks - length ks ≡ 0 = omega arith in none)

-- one that is
pub listed_more : (set : List Bool) (n : ℕ) (ks : List ℕ) → AreNumbersBelow n set ks → is_in set n ≡ true
    → AreNumbersBelow (n + 1) set (ks ++ n ∷ [])
listed_more set n ks t is =
    let size = length-append ks (n ∷ []) in record {
      few = omega (arith, size, t.few);
      ascending = λ i j less h. elim (cases_lt j (length ks)) [
        | inl first ↦ omega (
          arith,
          get_or_append_left ks (n ∷ []) 0 i (omega arith),
          get_or_append_left ks (n ∷ []) 0 j first,
          t.ascending i j less first,
        )
        | inr last ↦ omega (
          arith,
          get_or_append_left ks (n ∷ []) 0 i (omega (arith, h, size)),
          last_at ks n j (omega (arith, h, last, size)),
          t.within i (omega (arith, h, size)),
        )
      ];
      within = λ i h. elim (cases_lt i (length ks)) [
        | inl first ↦ omega (arith, get_or_append_left ks (n ∷ []) 0 i first, t.within i first)
        | inr last ↦ omega (arith, last_at ks n i (omega (arith, h, last, size)))
      ];
      members = λ i h. elim (cases_lt i (length ks)) [
        | inl first ↦ ap (λ (k : ℕ). is_in set k) (get_or_append_left ks (n ∷ []) 0 i first) ∙ t.members i first
        | inr last ↦ ap (λ (k : ℕ). is_in set k) (last_at ks n i (omega (arith, h, last, size))) ∙ is
      ];
      all = λ e h there. elim (cases_eq e n) [
        | inl same ↦ (length ks, omega (arith, size), last_at ks n (length ks) refl ∙ sym same)
        | inr other ↦
            let old = t.all e (omega arith) there in
            (old.0, omega (arith, size, old.1), get_or_append_left ks (n ∷ []) 0 old.0 old.1 ∙ old.2)
      ];
    }
