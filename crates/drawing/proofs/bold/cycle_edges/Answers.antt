use Rattle.std.proofs.Common.{ℕ, ◌≡◌, ◌+◌, suc, arith, subst}
use Rattle.drawing.specs.Bold.{AreCycleEdges}
use Rattle.drawing.proofs.bold.cycle_edges.Goals as goal

pub loop-i-preserved : goal.loop-i-preserved
loop-i-preserved c =
    let next : suc c.loop-i.i ≡ c.loop-i.i + 1 = omega arith in
    subst (λ (n : ℕ). AreCycleEdges c.args.places.now c.args.cycle.now n c.push.new.self.items) next
    (c.loop-i.edges.items, c.cycle_edge.result, c.loop-i.invariant, c.cycle_edge.ensures, c.in_ok-push.ensures.items)
