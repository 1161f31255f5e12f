-- What a text that spells an answer is, by how it begins.
use Rattle.std.proofs.Common.{◌≡◌, ◌≤◌, ◌++◌, ◌∷◌, ℕ, List, Vec, Global, arith, ap, sym, subst, codes, decimal}
use Rattle.std.proofs.Common.{get_or, length}
use Rattle.std.proofs.lemmas.List.{append_cancel_left}
use Rattle.long.specs.declared.answer.LongAnswer.{LongAnswer}
use Rattle.long.specs.declared.answer.LongAnswer.TheVariants.{Order, Overlook, Cycle}
use Rattle.verification.specs.Spelled.{HasSizes, IsSameAnswer, Spells, SpellsAnswer, pair_numbers}

-- where two texts are one, so are their bytes at a place
pub one_byte : (s t : List ℕ) (i : ℕ) → s ≡ t → get_or s i 0 ≡ get_or t i 0
one_byte s t i is = ap (λ (u : List ℕ). get_or u i 0) is

-- what begins as an order spells one
pub order_spelled : (a : LongAnswer) (count most : ℕ) (later text : List ℕ) → HasSizes count most a
    → SpellsAnswer a later (codes "ordered:" ++ text)
    → (m : List ℕ) × (length m ≡ count) × Spells (m ++ later) text
    × ((v : Vec ℕ Global) → v.items ≡ m → IsSameAnswer a (Order v))
order_spelled (Order m) count most later text size h = (
  m.items,
  size,
  subst (Spells (m.items ++ later)) (sym (append_cancel_left (codes "ordered:") text h.0 h.2)) h.1,
  λ v is. sym is,
)
order_spelled (Overlook l s) count most later text size h =
    let other : 114 ≡ 118 = one_byte (codes "ordered:" ++ text) _ 1 h.2 in absurd (omega (arith, other))
order_spelled (Cycle c) count most later text size h =
    let other : 111 ≡ 99 = one_byte (codes "ordered:" ++ text) _ 0 h.2 in absurd (omega (arith, other))

-- what begins as an overlook spells one
pub overlook_spelled : (a : LongAnswer) (later text : List ℕ) → SpellsAnswer a later (codes "overlook: load " ++ text)
    → (l s : ℕ) × Spells (l ∷ s ∷ later) text × ((k t : ℕ) → k ≡ l → t ≡ s → IsSameAnswer a (Overlook k t))
overlook_spelled (Order m) later text h =
    let other : 118 ≡ 114 = one_byte (codes "overlook: load " ++ text) _ 1 h.2 in absurd (omega (arith, other))
overlook_spelled (Overlook l s) later text h = (
  l,
  s,
  subst (Spells (l ∷ s ∷ later)) (sym (append_cancel_left (codes "overlook: load ") text h.0 h.2)) h.1,
  λ k t one other. (sym one, sym other),
)
overlook_spelled (Cycle c) later text h =
    let other : 111 ≡ 99 = one_byte (codes "overlook: load " ++ text) _ 0 h.2 in absurd (omega (arith, other))

-- what begins as a cycle spells one
pub cycle_spelled : (a : LongAnswer) (count most : ℕ) (later text : List ℕ) → HasSizes count most a
    → SpellsAnswer a later (codes "cycle of " ++ text)
    → (c rest : List ℕ) × (length c ≤ most) × Spells (pair_numbers c (length c) ++ later) (10 ∷ rest)
    × (text ≡ decimal (length c) ++ 10 ∷ rest) × ((v : Vec ℕ Global) → v.items ≡ c → IsSameAnswer a (Cycle v))
cycle_spelled (Order m) count most later text size h =
    let other : 99 ≡ 111 = one_byte (codes "cycle of " ++ text) _ 0 h.2 in absurd (omega (arith, other))
cycle_spelled (Overlook l s) count most later text size h =
    let other : 99 ≡ 111 = one_byte (codes "cycle of " ++ text) _ 0 h.2 in absurd (omega (arith, other))
cycle_spelled (Cycle c) count most later text size h = (
  c.items,
  h.0,
  size,
  h.1,
  append_cancel_left (codes "cycle of ") text (decimal (length c.items) ++ 10 ∷ h.0) h.2,
  λ v is. sym is,
)

-- a text that spells an answer begins in one of three ways
pub begins : (a : LongAnswer) (later text : List ℕ) → SpellsAnswer a later text
    → ((more : List ℕ) → text ≡ codes "ordered:" ++ more → ⊥)
    → ((more : List ℕ) → text ≡ codes "overlook: load " ++ more → ⊥)
    → ((more : List ℕ) → text ≡ codes "cycle of " ++ more → ⊥) → ⊥
begins (Order m) later text h no_order no_overlook no_cycle = no_order h.0 h.2
begins (Overlook l s) later text h no_order no_overlook no_cycle = no_overlook h.0 h.2
begins (Cycle c) later text h no_order no_overlook no_cycle = no_cycle (decimal (length c.items) ++ 10 ∷ h.0) h.2
