-- The numbers that a text spells, whatever stands between them.
use Rattle.std.specs.Prelude.{◌≡◌, ◌<◌, ◌≤◌, ◌^◌, ◌++◌, ◌∷◌, [], ℕ, zero, suc, List, codes, decimal, false, length, ⊤}
use Rattle.std.specs.Prelude.{slice_index, slice_index_or}
use Rattle.std.specs.List.{list_any}
use Rattle.relations.specs.Cycle.{next_in_cycle}
use Rattle.labels.specs.Certified.{lists_of}
use Rattle.texts.specs.Decimals.{is_digit}
use Rattle.verdicts.specs.declared.verdict.Verdict.{Verdict}
use Rattle.verdicts.specs.declared.verdict.Verdict.TheVariants as verdict
use Rattle.long.specs.declared.answer.LongAnswer.{LongAnswer}
use Rattle.long.specs.declared.answer.LongAnswer.TheVariants.{Order, Overlook, Cycle}
use Rattle.verification.specs.Proof.{AreRows}

-- a text without a digit
abbrev pub HasNoDigit : List ℕ → Type 0
HasNoDigit text = list_any is_digit text ≡ false

-- a text begins with numbers of 32 bits, each between bytes that are no digits, whatever stands after them
abbrev pub Spells : List ℕ → List ℕ → Type 0
Spells [] text = ⊤
Spells (n ∷ ns) text = (gap : List ℕ) × (b : ℕ) × (more : List ℕ) × HasNoDigit gap × (n < 2 ^ 32)
    × (is_digit b ≡ false) × Spells ns (b ∷ more) × (text ≡ gap ++ (decimal n ++ b ∷ more))

-- the numbers of the lines of the first n pairs of a cycle
abbrev pub pair_numbers : List ℕ → ℕ → List ℕ
pair_numbers c zero = []
pair_numbers c (suc i) = pair_numbers c i ++ slice_index c i ∷ next_in_cycle c i ∷ []

-- the numbers of the lines of the first n rows
abbrev pub label_numbers : List (List ℕ) → ℕ → List ℕ
label_numbers rows zero = []
label_numbers rows (suc v) = label_numbers rows v ++ v ∷ slice_index_or rows v []

-- how the text of an answer begins, its numbers, and other numbers after them
abbrev pub SpellsAnswer : LongAnswer → List ℕ → List ℕ → Type 0
SpellsAnswer (Order m) later text = (rest : List ℕ) × Spells (m.items ++ later) rest
    × (text ≡ codes "ordered:" ++ rest)
SpellsAnswer (Overlook l s) later text = (rest : List ℕ) × Spells (l ∷ s ∷ later) rest
    × (text ≡ codes "overlook: load " ++ rest)
SpellsAnswer (Cycle c) later text = (rest : List ℕ)
    × Spells (pair_numbers c.items (length c.items) ++ later) (10 ∷ rest)
    × (text ≡ codes "cycle of " ++ (decimal (length c.items) ++ 10 ∷ rest))

-- an answer has these sizes: an order of n events, or a cycle of at most so many
abbrev pub HasSizes : ℕ → ℕ → LongAnswer → Type 0
HasSizes n most (Order m) = length m.items ≡ n
HasSizes n most (Overlook l s) = ⊤
HasSizes n most (Cycle c) = length c.items ≤ most

-- two answers have the same numbers
abbrev pub IsSameAnswer : LongAnswer → LongAnswer → Type 0
IsSameAnswer (Order m) (Order k) = m.items ≡ k.items
IsSameAnswer (Order m) (Overlook l s) = ⊥
IsSameAnswer (Order m) (Cycle c) = ⊥
IsSameAnswer (Overlook l s) (Order m) = ⊥
IsSameAnswer (Overlook l s) (Overlook k t) = (l ≡ k) × (s ≡ t)
IsSameAnswer (Overlook l s) (Cycle c) = ⊥
IsSameAnswer (Cycle c) (Order m) = ⊥
IsSameAnswer (Cycle c) (Overlook l s) = ⊥
IsSameAnswer (Cycle c) (Cycle d) = c.items ≡ d.items

-- two verdicts have the same numbers
abbrev pub IsSameVerdict : Verdict → Verdict → Type 0
IsSameVerdict (verdict.Ordered m) (verdict.Ordered k) = m.items ≡ k.items
IsSameVerdict (verdict.Ordered m) (verdict.Overlook l s) = ⊥
IsSameVerdict (verdict.Ordered m) (verdict.Cycle c) = ⊥
IsSameVerdict (verdict.Overlook l s) (verdict.Ordered m) = ⊥
IsSameVerdict (verdict.Overlook l s) (verdict.Overlook k t) = (l ≡ k) × (s ≡ t)
IsSameVerdict (verdict.Overlook l s) (verdict.Cycle c) = ⊥
IsSameVerdict (verdict.Cycle c) (verdict.Ordered m) = ⊥
IsSameVerdict (verdict.Cycle c) (verdict.Overlook l s) = ⊥
IsSameVerdict (verdict.Cycle c) (verdict.Cycle d) = (c.cycle.items ≡ d.cycle.items)
    × (lists_of c.rows.items ≡ lists_of d.rows.items)

-- the numbers of the labels of a verdict, which its answer lacks
abbrev pub labels_after : Verdict → List ℕ
labels_after (verdict.Ordered m) = []
labels_after (verdict.Overlook l s) = []
labels_after (verdict.Cycle c) = label_numbers (lists_of c.rows.items) (length (lists_of c.rows.items))

-- a cycle has n rows of n labels
abbrev pub HasRows : ℕ → Verdict → Type 0
HasRows n (verdict.Ordered m) = ⊤
HasRows n (verdict.Overlook l s) = ⊤
HasRows n (verdict.Cycle c) = AreRows n (lists_of c.rows.items)
