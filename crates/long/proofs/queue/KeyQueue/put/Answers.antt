use Rattle.std.proofs.Common.{◌≡◌, ◌∷◌, List, ℕ, Option, Some, sym, subst}
use Rattle.std.specs.BinaryHeap.{heap_items}
use Rattle.recording.specs.Order.{times}
use Rattle.long.specs.Ready.{with_held}
use Rattle.long.proofs.Queues.{put_above, put_below}
use Rattle.long.proofs.queue.KeyQueue.put.Goals as goal

pub returns-then-key-held-clause-put : goal.returns-then-key-held-clause-put
returns-then-key-held-clause-put c =
    let heap : List ℕ = heap_items c.self.inside.heap in
    let more : List ℕ = heap_items c.push.new.self in
    let held = c.in-Some.held in
    let is : c.self.inside.held ≡ Some held = c.in-Some.is in
    let now : held ∷ heap ≡ c.args.self.now =
    subst (λ (o : Option ℕ). with_held o heap ≡ c.args.self.now) is c.self.view_is in
    subst (λ (o : Option ℕ). (k : ℕ) → times (with_held o more) k ≡ times (c.args.key ∷ c.args.self.now) k) (sym is)
    (subst (λ (l : List ℕ). (k : ℕ) → times (held ∷ more) k ≡ times (c.args.key ∷ l) k) now
    (put_below c.args.key held heap more c.in_ok-push.ensures.permutation))

pub returns-clause-put : goal.returns-clause-put
returns-clause-put c =
    let heap : List ℕ = heap_items c.self.inside.heap in
    let more : List ℕ = heap_items c.push-2.new.self in
    let held = c.in-Some.held in
    let is : c.self.inside.held ≡ Some held = c.in-Some.is in
    let now : held ∷ heap ≡ c.args.self.now =
    subst (λ (o : Option ℕ). with_held o heap ≡ c.args.self.now) is c.self.view_is in
    subst (λ (l : List ℕ). (k : ℕ) → times (c.args.key ∷ more) k ≡ times (c.args.key ∷ l) k) now
    (put_above c.args.key held heap more c.in_ok-push-2.ensures.permutation)
