-- What every program keeps.
use Rattle.std.proofs.Common.{◌≡◌, ℕ, ◌≤◌, List, [], ◌∷◌, Some, arith}
use Rattle.std.specs.Prelude.{All}
use Rattle.std.proofs.lemmas.List.Elements.{All-nil, All-cons}
use Rattle.program.specs.declared.op.Op.{Op}
use Rattle.program.specs.declared.op.Op.TheVariants.{St, Ld, Fence, Swap, Add, Cas}
use Rattle.program.specs.Parts.{IsWithin, addr_of, use_addr, use_ops, use_cores}
use Rattle.texts.specs.TestLaws.{bind_some}
use Rattle.program.proofs.CoreLemmas.{use_below, ops_grow, cores_grow}

-- an address that was used is below the number after it
op_within : (op : Op) (m j k : ℕ) → use_addr m (addr_of op) ≡ Some j → j ≤ k → IsWithin k op
op_within (St a v) m j k e le = let h = use_below m a j e in omega (arith, h.0, le)
op_within (Ld a) m j k e le = let h = use_below m a j e in omega (arith, h.0, le)
op_within Fence m j k e le = tt
op_within (Swap a v) m j k e le = let h = use_below m a j e in omega (arith, h.0, le)
op_within (Add a v) m j k e le = let h = use_below m a j e in omega (arith, h.0, le)
op_within (Cas a r v) m j k e le = let h = use_below m a j e in omega (arith, h.0, le)

-- the same for a core's operations
ops_within : (ops : List Op) (m j k : ℕ) → use_ops m ops ≡ Some j → j ≤ k → All (IsWithin k) ops
ops_within [] m j k e le = All-nil (IsWithin k)
ops_within (op ∷ ops) m j k e le =
    let b = bind_some (use_addr m (addr_of op)) (λ i. use_ops i ops) j e in
    let grows = ops_grow b.0 ops j b.2 in
    All-cons (IsWithin k) op ops (op_within op m b.0 k b.1 (omega (arith, grows, le)))
    (ops_within ops b.0 j k b.2 le)

-- each operation's address has a name
pub cores_within : (cores : List (List Op)) (m j k : ℕ) → use_cores m cores ≡ Some j → j ≤ k →
    All (λ ops. All (IsWithin k) ops) cores
cores_within [] m j k e le = All-nil (λ ops. All (IsWithin k) ops)
cores_within (ops ∷ cores) m j k e le =
    let b = bind_some (use_ops m ops) (λ i. use_cores i cores) j e in
    let grows = cores_grow b.0 cores j b.2 in
    All-cons (λ os. All (IsWithin k) os) ops cores
    (ops_within ops m b.0 k b.1 (omega (arith, grows, le))) (cores_within cores b.0 j k b.2 le)
