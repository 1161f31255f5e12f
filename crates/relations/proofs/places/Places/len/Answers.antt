use Rattle.std.proofs.Common.{◌≡◌, ◌<◌, ◌-◌, ◌∙◌, ℕ, length, get_or, arith, ap}
use Rattle.std.proofs.lemmas.List.{get_or_read}
use Rattle.recording.specs.Execution.{event_count}
use Rattle.relations.proofs.Indexing.{starts_last}
use Rattle.relations.proofs.places.Places.len.Goals as goal

pub returns : goal.returns
returns c =
    let starts = c.self.inside.starts.items in
    let size : c.len.result ≡ length starts = omega (arith, c.len.ensures, c.self.inside.starts.ok.0) in
    let low : c.len.result - 1 < length starts = omega (arith, size, c.self.invariant.size) in
    get_or_read starts (c.len.result - 1) c.index.result.now low c.index.ensures 0
    ∙ (ap (λ (n : ℕ). get_or starts (n - 1) 0) size
    ∙ (starts_last c.self.inside.recording.now starts c.self.invariant ∙ ap event_count c.self.view_is))
