use Rattle.std.proofs.Common.{◌≡◌, ◌∷◌, ◌∙◌, List, [], ℕ, Option, Some, None, sym, subst}
use Rattle.std.proofs.lemmas.Bool.{false≢true}
use Rattle.std.specs.Prelude.{MatchOption}
use Rattle.std.specs.BinaryHeap.{heap_items}
use Rattle.recording.specs.Order.{times}
use Rattle.long.specs.Ready.{with_held}
use Rattle.long.proofs.Queues.{IsOver, held_over, popped, popped_beside}
use Rattle.long.proofs.queue.KeyQueue.take.Goals as goal

pub returns-in_default-clause-taken : goal.returns-in_default-clause-taken
returns-in_default-clause-taken c =
    let heap : List ℕ = heap_items c.self.inside.heap in
    let rest : List ℕ = heap_items c.pop.new.self in
    let is : c.self.inside.held ≡ None = c.in_default.is in
    let now : heap ≡ c.args.self.now =
    subst (λ (o : Option ℕ). with_held o heap ≡ c.args.self.now) is c.self.view_is in
    subst (λ (o : Option ℕ). MatchOption c.pop.result (c.args.self.now ≡ [])
    (λ key. (k : ℕ) → times c.args.self.now k ≡ times (key ∷ with_held o rest) k)) (sym is)
    (subst (λ (l : List ℕ). MatchOption c.pop.result (l ≡ [])
    (λ key. (k : ℕ) → times l k ≡ times (key ∷ rest) k)) now
    (popped c.pop.result heap rest _ _ c.self.invariant c.self.inside.heap.data.ok.0 c.pop.ensures.permutation
    c.pop.ensures.heap_order c.pop.ensures.none c.pop.ensures.unchanged).0)

pub returns-in_default-clause-greatest : goal.returns-in_default-clause-greatest
returns-in_default-clause-greatest c =
    let heap : List ℕ = heap_items c.self.inside.heap in
    let rest : List ℕ = heap_items c.pop.new.self in
    let is : c.self.inside.held ≡ None = c.in_default.is in
    let now : heap ≡ c.args.self.now =
    subst (λ (o : Option ℕ). with_held o heap ≡ c.args.self.now) is c.self.view_is in
    subst (λ (o : Option ℕ). MatchOption c.pop.result (with_held o rest ≡ []) (IsOver c.args.self.now)) (sym is)
    (subst (λ (l : List ℕ). MatchOption c.pop.result (rest ≡ []) (IsOver l)) now
    (popped c.pop.result heap rest _ _ c.self.invariant c.self.inside.heap.data.ok.0 c.pop.ensures.permutation
    c.pop.ensures.heap_order c.pop.ensures.none c.pop.ensures.unchanged).1)

pub returns-then-not-is_over-clause-taken : goal.returns-then-not-is_over-clause-taken
returns-then-not-is_over-clause-taken c =
    let heap : List ℕ = heap_items c.self.inside.heap in
    let rest : List ℕ = heap_items c.pop-then-not-is_over.new.self in
    let held = c.in-Some.held in
    let is : c.self.inside.held ≡ Some held = c.in-Some.is in
    let now : held ∷ heap ≡ c.args.self.now =
    subst (λ (o : Option ℕ). with_held o heap ≡ c.args.self.now) is c.self.view_is in
    subst (λ (o : Option ℕ). MatchOption c.pop-then-not-is_over.result (c.args.self.now ≡ [])
    (λ key. (k : ℕ) → times c.args.self.now k ≡ times (key ∷ with_held o rest) k)) (sym is)
    (subst (λ (l : List ℕ). MatchOption c.pop-then-not-is_over.result (l ≡ [])
    (λ key. (k : ℕ) → times l k ≡ times (key ∷ held ∷ rest) k)) now
    (popped_beside c.pop-then-not-is_over.result held heap rest _ c.self.invariant c.self.inside.heap.data.ok.0
    c.pop-then-not-is_over.ensures.permutation c.pop-then-not-is_over.ensures.heap_order
    c.pop-then-not-is_over.ensures.none
    (λ over. false≢true (sym c.if-not-is_over.true ∙ (c.is_over.ensures c.self.invariant).1 over))).0)

pub returns-then-not-is_over-clause-greatest : goal.returns-then-not-is_over-clause-greatest
returns-then-not-is_over-clause-greatest c =
    let heap : List ℕ = heap_items c.self.inside.heap in
    let rest : List ℕ = heap_items c.pop-then-not-is_over.new.self in
    let held = c.in-Some.held in
    let is : c.self.inside.held ≡ Some held = c.in-Some.is in
    let now : held ∷ heap ≡ c.args.self.now =
    subst (λ (o : Option ℕ). with_held o heap ≡ c.args.self.now) is c.self.view_is in
    subst (λ (o : Option ℕ). MatchOption c.pop-then-not-is_over.result (with_held o rest ≡ [])
    (IsOver c.args.self.now)) (sym is)
    (subst (λ (l : List ℕ). MatchOption c.pop-then-not-is_over.result (held ∷ rest ≡ []) (IsOver l)) now
    (popped_beside c.pop-then-not-is_over.result held heap rest _ c.self.invariant c.self.inside.heap.data.ok.0
    c.pop-then-not-is_over.ensures.permutation c.pop-then-not-is_over.ensures.heap_order
    c.pop-then-not-is_over.ensures.none
    (λ over. false≢true (sym c.if-not-is_over.true ∙ (c.is_over.ensures c.self.invariant).1 over))).1)

pub returns-clause-greatest : goal.returns-clause-greatest
returns-clause-greatest c =
    let heap : List ℕ = heap_items c.self.inside.heap in
    let held = c.in-Some.held in
    let is : c.self.inside.held ≡ Some held = c.in-Some.is in
    let now : held ∷ heap ≡ c.args.self.now =
    subst (λ (o : Option ℕ). with_held o heap ≡ c.args.self.now) is c.self.view_is in
    subst (λ (l : List ℕ). IsOver l held) now (held_over held heap ((c.is_over.ensures c.self.invariant).0 c.if-not-is_over.false))
