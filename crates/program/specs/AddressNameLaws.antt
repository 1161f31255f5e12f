-- Laws of the names of addresses: they are lawful, and differ.
use Rattle.std.proofs.Common.{◌≡◌, ◌<◌, ◌≤◌, ◌+◌, ◌^◌, ◌&&◌, ◌||◌, nat_lt, nat_le, ℕ, zero, suc, Bool, true}
use Rattle.std.proofs.Common.{false, inl, inr, Some, List, [], ◌∷◌, ◌++◌, length, drop, codes, decimal, arith}
use Rattle.std.proofs.Common.{refl, sym, ap, ◌∙◌, lt-ltb, le-leb, length-append}
use Rattle.std.proofs.lemmas.Bool.{cases_Bool, and_from}
use Rattle.std.specs.List.{list_all, list_any, IsDistinct}
use Rattle.std.proofs.lemmas.Fmt.{digits_decimal, length-decimal-le}
use Rattle.std.proofs.lemmas.Map.Keys.{IsDistinct-push}
use Rattle.program.specs.declared.name.Name.{Name}
use Rattle.program.specs.Names.{AreLawful, is_letter, is_letter_or_digit, is_name, name_eq, name_of, name_text}
use Rattle.program.specs.Names.{names_with}
use Rattle.texts.specs.Decimals.{is_digit, decimal_of}
use Rattle.texts.specs.DecimalLaws.{model, again}
use Rattle.texts.specs.TestLaws.{all_also}
use Rattle.program.specs.NameLaws.{name_only, name_again, name_laws, same_name}
use Rattle.program.specs.NameListLaws.{all_push}
use Rattle.program.specs.AddressNames.{address_name, address_names}
use Rattle.std.proofs.lemmas.Option.{same_Some}

-- a digit is a letter or a digit
or_digit : (a b : Bool) → b ≡ true → (a || b) ≡ true
or_digit true b h = refl
or_digit false b h = h

-- the texts of names are names
pub name_is : (n : ℕ) → n < 10 ^ 7 → name_of (codes "a" ++ decimal n) ≡ Some (address_name n)
unfolding name_of
name_is n small = rw is_one refl
  where
    text : List ℕ
    text = 97 ∷ decimal n

    fits : n < 2 ^ 64
    fits = omega (arith, small)

    long : length (decimal n) ≤ 7
    long = length-decimal-le 7 n (omega arith) small fits

    letters : list_all is_letter_or_digit (97 ∷ decimal n) ≡ true
    letters = all_also is_digit is_letter_or_digit (λ b h. or_digit (is_letter b) (is_digit b) h) (decimal n)
        (digits_decimal model n fits)

    is_one : is_name (97 ∷ decimal n) ≡ true
    is_one = and_from (nat_lt 0 (length (97 ∷ decimal n)) && is_letter 97 && list_all is_letter_or_digit
        (97 ∷ decimal n)) (nat_le (length (97 ∷ decimal n)) 8)
        (and_from (nat_lt 0 (length (97 ∷ decimal n)) && is_letter 97)
        (list_all is_letter_or_digit (97 ∷ decimal n))
        (and_from (nat_lt 0 (length (97 ∷ decimal n))) (is_letter 97)
        (lt-ltb 0 (length (97 ∷ decimal n)) (omega arith)) refl) letters)
        (le-leb (length (97 ∷ decimal n)) 8 (omega (arith, long)))

-- different numbers have different names
names_differ : (n k : ℕ) → n < 10 ^ 7 → k < n → name_eq (address_name n) (address_name k) ≡ false
names_differ n k small less = elim (cases_Bool (name_eq (address_name n) (address_name k))) [
  | inr differ ↦ differ
  | inl same ↦
      let one : address_name n ≡ address_name k = same_name (address_name n) (address_name k) same in
      let texts : codes "a" ++ decimal n ≡ codes "a" ++ decimal k =
      sym (name_only (codes "a" ++ decimal n) (address_name n) (name_is n small))
      ∙ (ap name_text one ∙ name_only (codes "a" ++ decimal k) (address_name k)
      (name_is k (omega (arith, small, less)))) in
      let digits : decimal n ≡ decimal k = ap (λ (l : List ℕ). drop 1 l) texts in
      let numbers : Some n ≡ Some k =
      sym (again n (omega (arith, small)))
      ∙ (ap decimal_of digits ∙ again k (omega (arith, small, less))) in
      absurd (omega (arith, less, same_Some _ _ numbers))
]

-- neither is among those and the last
none_more : (q : Name → Bool) (xs : List Name) (y : Name) → list_any q xs ≡ false → q y ≡ false
    → list_any q (xs ++ y ∷ []) ≡ false
none_more q [] y h k = rw k refl
none_more q (x ∷ xs) y h k = go (λ rest. none_more q xs y rest k) (q x) refl
  where
    go : (list_any q xs ≡ false → list_any q (xs ++ y ∷ []) ≡ false) → (b : Bool) → q x ≡ b
        → list_any q (x ∷ xs ++ y ∷ []) ≡ false
    go more true is = absurd (let clash : true ≡ false = sym (rw is refl) ∙ h in cc)
    go more false is = rw is (more (rw (← h) (rw is refl)))

-- a name is not among those before it
names_before : (n k : ℕ) → n < 10 ^ 7 → k ≤ n → list_any (name_eq (address_name n)) (address_names k) ≡ false
names_before n zero small less = refl
names_before n (suc k) small less =
    none_more (name_eq (address_name n)) (address_names k) (address_name k)
    (names_before n k small (omega (arith, less))) (names_differ n k small (omega (arith, less)))

-- one name more is new
pub name_new : (n : ℕ) → n < 10 ^ 7 → list_any (name_eq (address_name n)) (address_names n) ≡ false
name_new n small = names_before n n small (omega arith)

-- the names are lawful
pub names_lawful : (n : ℕ) → n ≤ 10 ^ 7 → AreLawful (address_names n)
names_lawful zero small = tt
names_lawful (suc n) small =
    all_push (λ (name : Name). name_of (name_text name) ≡ Some name) (address_names n) (address_name n)
    (names_lawful n (omega (arith, small)))
    (name_again (codes "a" ++ decimal n) (address_name n) (name_is n (omega (arith, small))))

-- and distinct
pub names_distinct : (n : ℕ) → n ≤ 10 ^ 7 → IsDistinct name_eq (address_names n)
unfolding IsDistinct
names_distinct zero small = tt
names_distinct (suc n) small =
    IsDistinct-push name_laws (address_names n) (address_name n) (names_distinct n (omega (arith, small)))
    (name_new n (omega (arith, small)))

-- there are this many
pub names_count : (n : ℕ) → length (address_names n) ≡ n
names_count zero = refl
names_count (suc n) = omega (arith, length-append (address_names n) (address_name n ∷ []), names_count n)

-- one name more
pub names_more : (n : ℕ) (old new : List Name) (name : Name) → n < 10 ^ 7 → old ≡ address_names n
    → name ≡ address_name n → new ≡ names_with old name → new ≡ address_names (n + 1)
names_more n old new name small so_far this with_it =
    let whole : names_with (address_names n) (address_name n) ≡ address_names n ++ address_name n ∷ [] =
    rw (name_new n small) refl in
    with_it ∙ (ap (λ (l : List Name). names_with l name) so_far
    ∙ (ap (λ (m : Name). names_with (address_names n) m) this
    ∙ (whole ∙ ap address_names (let e : suc n ≡ n + 1 = omega arith in e))))
