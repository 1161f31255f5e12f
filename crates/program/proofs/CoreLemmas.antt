-- Lemmas on cores and their operations.
use Rattle.std.proofs.Common.{◌≡◌, ℕ, ◌+◌, ◌<◌, ◌≤◌, List, [], ◌∷◌, length, Option, Some, None, arith, drop, get_or}
use Rattle.std.proofs.lemmas.List.Sums.{sum_by-drop_more}
use Rattle.std.proofs.lemmas.Option.{same_Some}
use Rattle.program.specs.declared.op.Op.{Op}
use Rattle.program.specs.Parts.{op_count, addr_of, use_addr, use_ops, use_cores}
use Rattle.texts.specs.TestLaws.{bind_some}

-- the operations of each core
abbrev pub Cores : Type 0
Cores = List (List Op)

-- the count from a core on is its operations and the count after it
pub count_more : (cores : Cores) (i : ℕ) (d : List Op) → i < length cores →
    op_count (drop i cores) ≡ length (get_or cores i d) + op_count (drop (i + 1) cores)
count_more cores i d at = sum_by-drop_more (λ (os : List Op). length os) cores i d at

-- an address that is used is below the number after it
pub use_below : (m a j : ℕ) → use_addr m (Some a) ≡ Some j → (a < j) × (m ≤ j)
use_below m a j e = (grind (arith, e), grind (arith, e))

-- an operation never makes the count of addresses smaller
pub use_grows : (m : ℕ) (o : Option ℕ) (j : ℕ) → use_addr m o ≡ Some j → m ≤ j
use_grows m None j e = let h = same_Some m j e in omega (arith, h)
use_grows m (Some a) j e = (use_below m a j e).1

-- nor do the operations of a core
pub ops_grow : (m : ℕ) (ops : List Op) (k : ℕ) → use_ops m ops ≡ Some k → m ≤ k
ops_grow m [] k e = let h = same_Some m k e in omega (arith, h)
ops_grow m (op ∷ ops) k e =
    let b = bind_some (use_addr m (addr_of op)) (λ j. use_ops j ops) k e in
    let first = use_grows m (addr_of op) b.0 b.1 in
    let later = ops_grow b.0 ops k b.2 in omega (arith, first, later)

-- nor do cores
pub cores_grow : (m : ℕ) (cores : Cores) (k : ℕ) → use_cores m cores ≡ Some k → m ≤ k
cores_grow m [] k e = let h = same_Some m k e in omega (arith, h)
cores_grow m (ops ∷ cores) k e =
    let b = bind_some (use_ops m ops) (λ j. use_cores j cores) k e in
    let first = ops_grow m ops b.0 b.1 in
    let later = cores_grow b.0 cores k b.2 in omega (arith, first, later)
