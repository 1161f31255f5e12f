-- The lines of the lengths of cycles, one after another.
use Rattle.std.proofs.Common.{◌≡◌, ◌∙◌, ◌<◌, ◌≤◌, ◌^◌, ◌+◌, ◌-◌, ◌++◌, ◌∷◌, [], ℕ, zero, suc, List, ap, append_assoc}
use Rattle.std.proofs.Common.{append-nil, arith, codes, decimal, drop, get_or, inl, inr, length, refl, set, sym}
use Rattle.std.proofs.lemmas.Bool.{cases_lt}
use Rattle.std.proofs.lemmas.Grind.{get_or-set_at}
use Rattle.std.proofs.lemmas.List.{get_or-set_other}
use Rattle.ledger.specs.declared.code.TheConstants.{LONG_CYCLE}
use Rattle.ledger.specs.Counted.{cycle_line, cycle_lines, length_name}
use Rattle.ledger.specs.Parts.{Are64Bit}
use Rattle.ledger.proofs.LineTexts.{cycle_then}

-- the lines of n lengths from k on
unfoldable pub lines_from : List ℕ → ℕ → ℕ → List ℕ
lines_from counts k zero = []
lines_from counts k (suc n) = cycle_line k (get_or counts k 0) ++ lines_from counts (k + 1) n

-- the lines below k, and those from it on
lines_split : (counts : List ℕ) (k n : ℕ) → cycle_lines counts k ++ lines_from counts k n ≡ cycle_lines counts (k + n)
unfolding cycle_lines lines_from
lines_split counts k zero =
    let same : k ≡ k + 0 = omega arith in
    append-nil (cycle_lines counts k) ∙ ap (λ (m : ℕ). cycle_lines counts m) same
lines_split counts k (suc n) =
    let next : k + 1 ≡ suc k = omega arith in
    let all : k + 1 + n ≡ k + suc n = omega arith in
    sym (append_assoc (cycle_lines counts k) (cycle_line k (get_or counts k 0)) (lines_from counts (k + 1) n))
    ∙ ap (λ (m : ℕ). cycle_lines counts m ++ lines_from counts (k + 1) n) (sym next)
    ∙ lines_split counts (k + 1) n ∙ ap (λ (m : ℕ). cycle_lines counts m) all

-- the lines from k on, and what stands after them
abbrev pub left_from : List ℕ → List ℕ → ℕ → List ℕ
left_from counts more k = lines_from counts k (LONG_CYCLE + 1 - k) ++ more

-- all lines
pub lines_all : (counts more : List ℕ) → length counts ≡ LONG_CYCLE + 1
    → cycle_lines counts (length counts) ++ more ≡ left_from counts more 0
unfolding cycle_lines
lines_all counts more size = ap (λ (t : List ℕ). t ++ more)
    (ap (λ (n : ℕ). cycle_lines counts n) size ∙ sym (lines_split counts 0 (LONG_CYCLE + 1)))

-- the counts from k on, below n, are 0
abbrev pub AreZeros : List ℕ → ℕ → ℕ → Type 0
AreZeros counts k n = (v : ℕ) → k ≤ v → v < n → get_or counts v 0 ≡ 0

-- the items below k are the counts, and the lines of the others are left
pub record AreRead (counts more items : List ℕ) (k : ℕ) (rest : List ℕ) : Type 0 where
  pub same : (v : ℕ) → v < k → get_or items v 0 ≡ get_or counts v 0
  pub left : rest ≡ left_from counts more k

-- one count more that is 0
zeros_more : (counts : List ℕ) (k end : ℕ) → get_or counts k 0 ≡ 0 → AreZeros counts (k + 1) end → AreZeros counts k end
zeros_more counts k end here zeros v from low = elim (cases_lt k v) [
  | inl after ↦ zeros v (omega (arith, after)) low
  | inr not ↦ let at : v ≡ k = omega (arith, from, not) in ap (λ (j : ℕ). get_or counts j 0) at ∙ here
]

-- the line of a length whose count is not 0, and those after it
line_then : (counts more : List ℕ) (k n m : ℕ) → (cycle_line k (suc m) ++ lines_from counts (k + 1) n) ++ more
    ≡ codes "cycle " ++ (length_name k ++ (codes ": " ++ (decimal (suc m)
    ++ 10 ∷ (lines_from counts (k + 1) n ++ more))))
line_then counts more k n m = append_assoc (cycle_line k (suc m)) (lines_from counts (k + 1) n) more
    ∙ cycle_then k (suc m) (lines_from counts (k + 1) n ++ more) (omega arith)

-- the line of a length was read, and the counts between are 0
pub record IsLineRead (counts more : List ℕ) (k : ℕ) (after : List ℕ) (read : ℕ × ℕ) : Type 0 where
  pub above : k ≤ read.0
  pub within : read.0 ≤ LONG_CYCLE
  pub zeros : AreZeros counts k read.0
  pub count : read.1 ≡ get_or counts read.0 0
  pub left : after ≡ left_from counts more (read.0 + 1)

-- what is read of the line that stands next
pub line_read : (counts more new after : List ℕ) (k n : ℕ) (read : ℕ × ℕ) → get_or more 0 0 ≡ 102 → Are64Bit counts
    → ((cycle m : ℕ) (back : List ℕ) → cycle ≤ LONG_CYCLE → m < 2 ^ 64
    → new ≡ length_name cycle ++ (codes ": " ++ (decimal m ++ 10 ∷ back)) → (read ≡ (cycle, m)) × (after ≡ back))
    → k + n ≡ LONG_CYCLE + 1 → lines_from counts k n ++ more ≡ codes "cycle " ++ new
    → IsLineRead counts more k after read
unfolding lines_from
line_read counts more new after k zero read begins short reads all is =
    absurd (omega (arith, begins, ap (λ (t : List ℕ). get_or t 0 0) is))
line_read counts more new after k (suc n) read begins short reads all is =
    go (get_or counts k 0) refl is
    (line_read counts more new after (k + 1) n read begins short reads (omega (arith, all)))
  where
    size : n ≡ LONG_CYCLE + 1 - (k + 1)
    size = omega (arith, all)

    go : (m : ℕ) → get_or counts k 0 ≡ m
        → (cycle_line k m ++ lines_from counts (k + 1) n) ++ more ≡ codes "cycle " ++ new
        → (lines_from counts (k + 1) n ++ more ≡ codes "cycle " ++ new → IsLineRead counts more (k + 1) after read)
        → IsLineRead counts more k after read
    go zero here is later = let r = later is in record {
      above = omega (arith, r.above);
      within = r.within;
      zeros = zeros_more counts k read.0 here r.zeros;
      count = r.count;
      left = r.left;
    }
    go (suc m) here is later =
        let r = reads k (suc m) (lines_from counts (k + 1) n ++ more) (omega (arith, all))
        (omega (arith, short k, here)) (ap (λ (t : List ℕ). drop 6 t) (sym is ∙ line_then counts more k n m)) in
        let cycle : read.0 ≡ k = ap (λ p. p.0) r.0 in record {
          above = omega (arith, cycle);
          within = omega (arith, cycle, all);
          zeros = λ v from low. absurd (omega (arith, from, low, cycle));
          count = ap (λ p. p.1) r.0 ∙ sym here ∙ ap (λ (j : ℕ). get_or counts j 0) (sym cycle);
          left = r.1 ∙ ap (λ (j : ℕ). lines_from counts (k + 1) j ++ more) size
              ∙ ap (λ (j : ℕ). left_from counts more (j + 1)) (sym cycle);
        }

-- where no line stands next, all counts that are left are 0
pub none_read : (counts more : List ℕ) (k n : ℕ) → k + n ≡ LONG_CYCLE + 1
    → ((new : List ℕ) → lines_from counts k n ++ more ≡ codes "cycle " ++ new → ⊥)
    → (lines_from counts k n ++ more ≡ more) × AreZeros counts k (LONG_CYCLE + 1)
unfolding lines_from
none_read counts more k zero all never = (refl, λ v from low. absurd (omega (arith, from, low, all)))
none_read counts more k (suc n) all never =
    go (get_or counts k 0) refl never (none_read counts more (k + 1) n (omega (arith, all)))
  where
    go : (m : ℕ) → get_or counts k 0 ≡ m
        → ((new : List ℕ) → (cycle_line k m ++ lines_from counts (k + 1) n) ++ more ≡ codes "cycle " ++ new → ⊥)
        → (((new : List ℕ) → lines_from counts (k + 1) n ++ more ≡ codes "cycle " ++ new → ⊥)
        → (lines_from counts (k + 1) n ++ more ≡ more) × AreZeros counts (k + 1) (LONG_CYCLE + 1))
        → ((cycle_line k m ++ lines_from counts (k + 1) n) ++ more ≡ more) × AreZeros counts k (LONG_CYCLE + 1)
    go zero here never later = let r = later never in (r.0, zeros_more counts k (LONG_CYCLE + 1) here r.1)
    go (suc m) here never later = absurd (never _ (line_then counts more k n m))

-- one count more
pub one_more : (counts items : List ℕ) (k n m : ℕ) → n < length items → m ≡ get_or counts n 0 → AreZeros counts k n
    → ((v : ℕ) → v < k → get_or items v 0 ≡ get_or counts v 0) → ((v : ℕ) → k ≤ v → get_or items v 0 ≡ 0)
    → (v : ℕ) → v < n + 1 → get_or (set items n m) v 0 ≡ get_or counts v 0
one_more counts items k n m low here zeros same rest v within = elim (cases_lt v n) [
  | inl before ↦ get_or-set_other items n v m 0 (λ e. omega (arith, e, before)) ∙ elim (cases_lt v k) [
    | inl below ↦ same v below
    | inr above ↦ rest v (omega (arith, above)) ∙ sym (zeros v (omega (arith, above)) before)
  ]
  | inr not ↦ let at : v ≡ n = omega (arith, within, not) in
      get_or-set_at items n v m 0 at low ∙ here ∙ ap (λ (j : ℕ). get_or counts j 0) (sym at)
]
