use Rattle.std.proofs.Common.{◌≢◌, ◌≤◌, ◌<◌, ◌-◌, ℕ, List, get_or, set, length, arith, sym, subst}
use Rattle.long.specs.Ready.{IsReady}
use Rattle.long.proofs.Keys.{ready_lower, ready_more}
use Rattle.long.proofs.waiting.Waiting.lower.Goals.{then-left-eq1+in_ok-put, else-left-eq1}
use Rattle.long.proofs.waiting.Waiting.lower.Goals as goal

pub invariant_of-self : goal.invariant_of-self
invariant_of-self c = subst (λ (l : List ℕ). IsReady c.self.inside.counts.items l) (sym c.in_err-put.ensures.unchanged)
    c.self.invariant

pub invariant_of-self-2 : goal.invariant_of-self-2
invariant_of-self-2 c =
    let v = c.args.event in
    let counts : List ℕ = c.self.inside.counts.items in
    let keys : List ℕ = c.self.inside.ready in
    let low : v < length counts = subst (λ (l : List ℕ). v < length l) (sym c.self.view_is) c.requires.event in
    let many : 2 ≤ get_or counts v 0 = subst (λ (l : List ℕ). 2 ≤ get_or l v 0) (sym c.self.view_is) c.requires.open in
    let was : get_or counts v 0 ≢ 1 = λ one. omega (arith, many, one) in
    elim c.if-left-eq1.branch [
      | then-left-eq1+in_ok-put w ↦ rw w.self-inside-is
          (subst (λ (k : ℕ). IsReady (set counts v k) w.put.new.self) (sym w.if-left-eq1.true)
          (ready_more counts keys w.put.new.self c.self.invariant v low was
          (rw w.key_of.ensures.key at w.in_ok-put.ensures.put)))
      | else-left-eq1 w ↦ rw w.self-inside-is
          (ready_lower counts keys c.self.invariant v (c.index.result.now - 1) low was w.if-left-eq1.false)
    ]
