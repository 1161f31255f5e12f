-- What holds of a machine's view, of the parts that it is made of.
use Rattle.std.proofs.Common.{◌≡◌, ◌<◌, ℕ, true, length, subst, sym}
use Rattle.program.specs.declared.op.Op.{Op}
use Rattle.machine.specs.Configuration.{Configuration}
use Rattle.machine.specs.Step.{has, IsAt}

-- the next operation of a core
pub at_inside : {h k : Configuration} {c : ℕ} {op : Op} {e : ℕ} → h ≡ k → IsAt k.program.cores k.state c op e
    → IsAt h.program.cores h.state c op e
at_inside {h} {k} {c} {op} {e} same = subst (λ (g : Configuration). IsAt g.program.cores g.state c op e) (sym same)

-- an address
pub address_inside : {h k : Configuration} {a : ℕ} → h ≡ k → a < length k.program.names
    → a < length h.program.names
address_inside {h} {k} {a} same = subst (λ (g : Configuration). a < length g.program.names) (sym same)

-- a core and an address
pub line_inside : {h k : Configuration} (c a : ℕ) → h ≡ k → has k.program.cores k.state c a ≡ true
    → has h.program.cores h.state c a ≡ true
line_inside {h} {k} c a same = subst (λ (g : Configuration). has g.program.cores g.state c a ≡ true) (sym same)
