-- Laws of addresses that are numbered by first use: a program whose operations have the addresses of the
-- events counts them.
use Rattle.std.proofs.Common.{◌≡◌, ◌<◌, ◌≤◌, ◌+◌, ◌⊎◌, ◌↔◌, inl, inr, ℕ, zero, suc, Option, Some, None, List, []}
use Rattle.std.proofs.Common.{◌∷◌, ◌++◌, map, length, get_or, arith, refl, sym, ap, ◌∙◌, option_and_then}
use Rattle.std.proofs.lemmas.List.{map-append, map-id}
use Rattle.std.proofs.lemmas.Simd.{map-map}
use Rattle.std.proofs.lemmas.Bool.{cases_lt, cases_order}
use Rattle.std.proofs.Math.ListN as lists
use Rattle.program.specs.declared.op.Op.{Op}
use Rattle.program.specs.declared.op.Op.TheVariants.{Fence}
use Rattle.program.specs.Parts.{addr_of, use_addr, use_ops, use_cores}
use Rattle.recording.specs.declared.event.Event.{Event}
use Rattle.recording.specs.Event.{read_address, written_address}
use Rattle.recording.specs.Execution.{Execution, placed_from, event_at}
use Rattle.recording.specs.FirstUse.{Uses, IsNumberedByFirstUse}
use Rattle.program.proofs.PartLemmas.{use_old, use_new}
use Rattle.std.proofs.lemmas.Option.{option_and_then_some, same_Some}
use Rattle.std.proofs.lemmas.Bool.Decides.{nat_tests}
use Rattle.program_events.specs.Operations.{placed_op}

-- the operation has the address that the event uses, and none where that uses none
abbrev pub HasAddressOf : Op → Event → Type 0
HasAddressOf op ev = (a : ℕ)
    → ((read_address ev ≡ Some a) ⊎ (written_address ev ≡ Some a)) ↔ (addr_of op ≡ Some a)

-- each operation has the address of the event of its number
abbrev pub HaveAddressesOf : List (List Op) → Execution → Type 0
HaveAddressesOf p x = (e : ℕ) → HasAddressOf (placed_op p e).1 (event_at x e)

-- the operations of all cores, by number
abbrev by_number : ℕ → List (List Op) → List Op
by_number k cores = map (λ (z : ℕ × Op). z.1) (placed_from k cores)

-- addresses used after one list and then another
use_both : (m : ℕ) (xs ys : List Op)
    → use_ops m (xs ++ ys) ≡ option_and_then (λ k. use_ops k ys) (use_ops m xs)
use_both m [] ys = refl
use_both m (op ∷ xs) ys =
    elim (use_addr m (addr_of op)) as (λ o. option_and_then (λ k. use_ops k (xs ++ ys)) o
    ≡ option_and_then (λ k. use_ops k ys) (option_and_then (λ k. use_ops k xs) o)) [
      | None ↦ refl
      | Some k ↦ use_both k xs ys
    ]

-- addresses used after all cores
use_all : (k m : ℕ) (cores : List (List Op)) → use_cores m cores ≡ use_ops m (by_number k cores)
use_all k m [] = refl
use_all k m (ops ∷ cores) =
    let rest : List Op = by_number (k + 1) cores in
    elim (use_ops m ops) as (λ o. option_and_then (λ i. use_cores i cores) o
    ≡ option_and_then (λ i. use_ops i rest) o) [ None ↦ refl | Some i ↦ use_all (k + 1) i cores ]
    ∙ sym (ap (use_ops m)
    (map-append (λ (z : ℕ × Op). z.1) (map (λ (op : Op). (k, op)) ops) (placed_from (k + 1) cores)
    ∙ ap (λ (l : List Op). l ++ rest)
    (map-map (λ (z : ℕ × Op). z.1) (λ (op : Op). (k, op)) ops ∙ map-id ops)) ∙ use_both m ops rest)

-- after k addresses an operation with this one, or with none, brings their number to m
record Brings (k : ℕ) (address : Option ℕ) (m : ℕ) : Type 0 where
  least : k ≤ m
  within : (a : ℕ) → address ≡ Some a → a < m
  used : (a : ℕ) → k ≤ a → a < m → address ≡ Some a

-- where the count goes on
leads : (k m : ℕ) (address : Option ℕ) → use_addr k address ≡ Some m → Brings k address m
leads k m None to =
    let same : k ≡ m = same_Some k m to in
    record { least = omega arith; within = λ a is. absurd cc; used = λ a low high. absurd (omega arith) }
leads k m (Some b) to = elim (cases_order b k) [
  | inl this ↦
      let next : k + 1 ≡ m = same_Some _ _ (sym (use_new k) ∙ (rw this at to)) in
      record {
        least = omega arith;
        within = λ a is. let same = same_Some b a is in omega arith;
        used = λ a low high. ap Some (omega arith);
      }
  | inr other ↦ elim other [
    | inl old ↦
        let same : k ≡ m = same_Some _ _ (sym (use_old k b old) ∙ to) in
        record {
          least = omega arith;
          within = λ a is. let one = same_Some b a is in omega arith;
          used = λ a low high. absurd (omega arith);
        }
    | inr late ↦ let none : use_addr k (Some b) ≡ None = grind (arith, nat_tests, late) in absurd cc
  ]
]

-- it goes on where the address is not above the next
goes_on : (k : ℕ) (address : Option ℕ) → ((a : ℕ) → address ≡ Some a → a ≤ k)
    → (m : ℕ) × (use_addr k address ≡ Some m)
goes_on k None few = (k, refl)
goes_on k (Some a) few = elim (cases_lt a k) [
  | inl old ↦ (k, use_old k a old)
  | inr new ↦ let low = few a refl in
      let this : a ≡ k = omega arith in (k + 1, ap (λ (b : ℕ). use_addr k (Some b)) this ∙ use_new k)
]

-- the address of the operation at a place
abbrev address_at : List Op → ℕ → Option ℕ
address_at l i = addr_of (get_or l i Fence)

-- after k addresses the operations bring their number to n: each smaller one is there before an address
record Numbers (k : ℕ) (l : List Op) (n : ℕ) : Type 0 where
  least : k ≤ n
  within : (i a : ℕ) → address_at l i ≡ Some a → a < n
  used : (a : ℕ) → k ≤ a → a < n → (i : ℕ) × (address_at l i ≡ Some a)
  in_order : (i a b : ℕ) → address_at l i ≡ Some a → k ≤ b → b < a → (j : ℕ) × (j < i) × (address_at l j ≡ Some b)

-- where the count goes on, and the others bring it to n
numbers_more : (k m n : ℕ) (op : Op) (l : List Op) → Brings k (addr_of op) m → Numbers m l n → Numbers k (op ∷ l) n
numbers_more k m n op l one rest = record {
  least = omega (arith, one.least, rest.least);
  within = within;
  used = λ a low high. elim (cases_lt a m) [
    | inl here ↦ (0, one.used a low here)
    | inr there ↦ let i = rest.used a there high in (suc i.0, i.1)
  ];
  in_order = in_order;
}
  where
    within : (i a : ℕ) → address_at (op ∷ l) i ≡ Some a → a < n
    within zero a is = omega (arith, one.within a is, rest.least)
    within (suc i) a is = rest.within i a is

    in_order : (i a b : ℕ) → address_at (op ∷ l) i ≡ Some a → k ≤ b → b < a
        → (j : ℕ) × (j < i) × (address_at (op ∷ l) j ≡ Some b)
    in_order zero a b is low less =
        let other : Some b ≡ Some a = sym (one.used b low (omega (arith, one.within a is))) ∙ is in
        let same = same_Some b a other in absurd (omega arith)
    in_order (suc i) a b is low less = elim (cases_lt b m) [
      | inl here ↦ (0, omega arith, one.used b low here)
      | inr there ↦ let j = rest.in_order i a b is there less in (suc j.0, omega (arith, j.1), j.2)
    ]

-- and the other way round
numbers_rest : (k m n : ℕ) (op : Op) (l : List Op) → Brings k (addr_of op) m → Numbers k (op ∷ l) n → Numbers m l n
numbers_rest k m n op l one all = record {
  least = elim (cases_lt n m) [
    | inl less ↦ let above = all.within 0 n (one.used n all.least less) in absurd (omega arith)
    | inr more ↦ more
  ];
  within = λ i. all.within (suc i);
  used = λ a low high. let i = all.used a (omega (arith, one.least)) high in
      let j = later i.0 a low i.1 in (j.0, j.2);
  in_order = λ i a b is low less. let i = all.in_order (suc i) a b is (omega (arith, one.least)) less in
      let j = later i.0 b low i.2 in (j.0, omega (arith, j.1, i.1), j.2);
}
  where
    later : (i a : ℕ) → m ≤ a → address_at (op ∷ l) i ≡ Some a → (j : ℕ) × (suc j ≡ i) × (address_at l j ≡ Some a)
    later zero a low is = let high = one.within a is in absurd (omega arith)
    later (suc i) a low is = (i, refl, is)

-- operations that are counted are numbered
numbered : (k n : ℕ) (l : List Op) → use_ops k l ≡ Some n → Numbers k l n
numbered k n [] to =
    let same : k ≡ n = same_Some k n to in
    record {
      least = omega arith;
      within = λ i a is. absurd cc;
      used = λ a low high. absurd (omega arith);
      in_order = λ i a b is. absurd cc;
    }
numbered k n (op ∷ l) to =
    option_and_then_some (λ i. use_ops i l) (use_addr k (addr_of op)) n to
    (λ m one more. numbers_more k m n op l (leads k m (addr_of op) one) (numbered m n l more))

-- and the other way round
counted : (k n : ℕ) (l : List Op) → Numbers k l n → use_ops k l ≡ Some n
counted k n [] all = ap Some (elim (cases_lt k n) [
  | inl less ↦ let i = all.used k (omega arith) less in absurd (let clash = i.1 in cc)
  | inr more ↦ omega (arith, all.least)
])
counted k n (op ∷ l) all =
    let next = goes_on k (addr_of op) (λ a is. elim (cases_lt k a) [
      | inl above ↦ let i = all.in_order 0 a k is (omega arith) above in absurd (omega (arith, i.1))
      | inr low ↦ low
    ]) in
    ap (option_and_then (λ i. use_ops i l)) next.1
    ∙ counted next.0 n l (numbers_rest k next.0 n op l (leads k next.0 (addr_of op) next.1) all)

module _ (x : Execution) (p : List (List Op)) (have : HaveAddressesOf p x) where
  -- an event uses the address of its operation
  uses : (e a : ℕ) → Uses x e a ↔ (address_at (by_number 0 p) e ≡ Some a)
  uses e a = rw (lists.get_or-map (λ (z : ℕ × Op). z.1) (placed_from 0 p) e (0, Fence)) (have e a)

  -- where addresses are numbered by first use the program counts them
  pub numbered_counts : IsNumberedByFirstUse x → ((e a : ℕ) → Uses x e a → a < length x.write_lists)
      → use_cores 0 p ≡ Some (length x.write_lists)
  numbered_counts order addresses = use_all 0 0 p ∙ counted 0 (length x.write_lists) (by_number 0 p) (record {
    least = omega arith;
    within = λ i a is. addresses i a ((uses i a).1 is);
    used = λ a low high. let e = order.used a high in (e.0, (uses e.0 a).0 e.1);
    in_order = λ i a b is low less. let e = order.in_order i a b ((uses i a).1 is) less in
        (e.0, e.1, (uses e.0 b).0 e.2);
  })

  -- and the other way round
  pub counts_numbered : use_cores 0 p ≡ Some (length x.write_lists) → IsNumberedByFirstUse x
  counts_numbered to =
      let all = numbered 0 (length x.write_lists) (by_number 0 p) (sym (use_all 0 0 p) ∙ to) in
      record {
        used = λ a less. let i = all.used a (omega arith) less in (i.0, (uses i.0 a).1 i.1);
        in_order = λ e a b is less. let i = all.in_order e a b ((uses e a).0 is) (omega arith) less in
            (i.0, i.1, (uses i.0 b).1 i.2);
      }
