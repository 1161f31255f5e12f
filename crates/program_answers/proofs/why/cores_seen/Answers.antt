use Rattle.std.proofs.Common.{◌≡◌, ◌∙◌, ◌<◌, ◌+◌, ◌-◌, ◌++◌, ◌∷◌, [], ℕ, suc, List, Option, Some, None, ap, arith}
use Rattle.std.proofs.Common.{length, map, sym}
use Rattle.std.proofs.Common.{option_and_then, Vec, Global}
use Rattle.std.proofs.lemmas.List.{map-append}
use Rattle.program.specs.Parts.{Parts}
use Rattle.recording.specs.declared.event.Event.{Event}
use Rattle.outcomes.specs.declared.observed.Observation.{Observation}
use Rattle.program_answers.specs.Why.{core_seen, cores_seen}
use Rattle.program_answers.proofs.why.cores_seen.Goals as goal

-- with one core more
with_core : (p : Parts) (seen : List Observation) (k n : ℕ) (cores : List (List Event)) (events : Option (List Event))
    → k < n → events ≡ core_seen p k seen → cores_seen p k (n - k) cores seen
    ≡ option_and_then (λ es. cores_seen p (k + 1) (n - (k + 1)) (cores ++ es ∷ []) seen) events
with_core p seen k n cores events low is =
    let size : n - k ≡ suc (n - (k + 1)) = omega (arith, low) in
    ap (λ (m : ℕ). cores_seen p k m cores seen) size
    ∙ ap (option_and_then (λ es. cores_seen p (k + 1) (n - (k + 1)) (cores ++ es ∷ []) seen)) (sym is)

pub returns-in-None : goal.returns-in-None
returns-in-None c =
    let p : Parts = c.args.program.now in
    let low : c.loop-core.core < length p.cores = omega (arith, c.loop-core-test.true, c.cores-core-end.ensures.count) in
    sym (c.loop-core.invariant ∙ with_core p c.args.seen.now c.loop-core.core (length p.cores)
    (map (λ v. v.items) c.loop-core.cores.items) None low (rw c.in-None.is at c.in_ok-events.ensures))

pub loop-core-preserved : goal.loop-core-preserved
loop-core-preserved c =
    let p : Parts = c.args.program.now in
    let k : ℕ = c.loop-core.core in
    let n : ℕ = length p.cores in
    let low : k < n = omega (arith, c.loop-core-test.true, c.cores-core-end.ensures.count) in
    let cores : List (List Event) = map (λ v. v.items) c.loop-core.cores.items in
    let more : map (λ v. v.items) c.push.new.self.items ≡ cores ++ c.in-Some.events.items ∷ [] =
    ap (map (λ (v : Vec Event Global). v.items)) c.in_ok-push.ensures.items
    ∙ map-append (λ (v : Vec Event Global). v.items) c.loop-core.cores.items (c.in-Some.events ∷ []) in
    c.loop-core.invariant
    ∙ (with_core p c.args.seen.now k n cores (Some c.in-Some.events.items) low (rw c.in-Some.is at c.in_ok-events.ensures)
    ∙ ap (λ (l : List (List Event)). cores_seen p (k + 1) (n - (k + 1)) l c.args.seen.now) (sym more))
