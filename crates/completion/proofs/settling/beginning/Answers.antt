use Rattle.std.proofs.Common.{◌≡◌, ◌∙◌, ℕ, List, ap, length, replicate}
use Rattle.std.proofs.lemmas.List.{length-replicate}
use Rattle.situations.specs.Row.{begun}
use Rattle.situations.specs.Situation.{Situation}
use Rattle.completion.specs.Situation.{mark, marked, settled}
use Rattle.std.specs.Prelude.{None}
use Rattle.completion.proofs.settling.beginning.Goals as goal

pub settle-requires-clause-cores : goal.settle-requires-clause-cores
settle-requires-clause-cores c =
    ap (λ (z : Situation). length z.places) c.in_ok-row.ensures
    ∙ (ap (λ (l : List ℕ). length l) (c.deref.ensures.value ∙ (c.in_ok-places.ensures.items_if_clones_equal (λ y h. h)))
    ∙ (length-replicate c.core_count.result 0 ∙ c.core_count.ensures))

pub returns : goal.returns
returns c =
    let v = c.args.values.now in
    let n : ℕ = length v.cores in
    let m : ℕ = marked v (mark None) in
    let places : c.deref.result.now ≡ replicate n 0 =
    c.deref.ensures.value
    ∙ ((c.in_ok-places.ensures.items_if_clones_equal (λ y h. h)) ∙ ap (λ (k : ℕ). replicate k 0) c.core_count.ensures) in
    let row : c.in_ok-row.row ≡ begun (replicate n 0) v.initial (length v.initial) m =
    c.in_ok-row.ensures
    ∙ (ap (λ (l : List ℕ). begun l c.init-memory.result.now (length c.init-memory.result.now) c.marked_initial-mark.result)
    places
    ∙ (ap (λ (l : List ℕ). begun (replicate n 0) l (length l) c.marked_initial-mark.result) c.init-memory.ensures
    ∙ ap (begun (replicate n 0) v.initial (length v.initial)) c.marked_initial-mark.ensures)) in
    let drained : replicate (length (replicate n 0)) 0 ≡ replicate n 0 =
    ap (λ (k : ℕ). replicate k 0) (length-replicate n 0) in
    c.settle.ensures
    ∙ (ap (settled v) row
    ∙ ap (λ (l : List ℕ). settled v (record {
      places = replicate n 0;
      drained = l;
      memory = v.initial;
      notes = replicate (length v.initial) m;
    })) drained)
