use Rattle.std.proofs.Common.{arith, ◌<◌, ◌≤◌, ℕ, length, refl, subst}
use Rattle.std.proofs.lemmas.Bool.{lt-ltb, le-ltb}
use Rattle.machine.proofs.Parts.{few}
use Rattle.machine.proofs.Ends as ends
use Rattle.machine.proofs.machine.Machine.next_op.Goals as goal

pub next-requires : goal.next-requires
next-requires c =
    let there : c.args.core < length c.self.inside.program.cores =
    omega (arith, c.cores.ensures.count, c.if-core-cores.false) in
    few c.self.invariant.sound there c.index.ensures c.ops.ensures

pub returns-then-core-cores-clause-blocked : goal.returns-then-core-cores-clause-blocked
returns-then-core-cores-clause-blocked c =
    let none = subst (λ (n : ℕ). n ≤ c.args.core) c.cores.ensures.count c.if-core-cores.true in
    rw (← c.self.view_is) (rw (le-ltb c.args.core (length c.self.inside.program.cores) none) refl)

pub ops-requires : goal.ops-requires
ops-requires c =
    let there = subst (λ (n : ℕ). c.args.core < n) c.cores.ensures.count c.if-core-cores.false in
    there

pub returns-in-Some-clause-at : goal.returns-in-Some-clause-at
returns-in-Some-clause-at c =
    let there = subst (λ (n : ℕ). c.args.core < n) c.cores.ensures.count c.if-core-cores.false in
    rw (← c.self.view_is)
    (ends.is_at c.self.invariant.sound there c.index.ensures c.ops.ensures c.in-Some.next c.in-Some.ensures)

pub returns-in-Some-clause-within : goal.returns-in-Some-clause-within
returns-in-Some-clause-within c =
    let there = subst (λ (n : ℕ). c.args.core < n) c.cores.ensures.count c.if-core-cores.false in
    rw (← c.self.view_is)
    (ends.is_within c.self.invariant.sound there c.index.ensures c.ops.ensures c.in-Some.next c.in-Some.ensures)

pub returns-in-None-clause-blocked : goal.returns-in-None-clause-blocked
returns-in-None-clause-blocked c =
    let there = subst (λ (n : ℕ). c.args.core < n) c.cores.ensures.count c.if-core-cores.false in
    let none = ends.none_at c.self.invariant.sound there c.index.ensures c.ops.ensures c.in-None.ensures in
    rw (← c.self.view_is) (rw (lt-ltb c.args.core (length c.self.inside.program.cores) there, none) refl)
