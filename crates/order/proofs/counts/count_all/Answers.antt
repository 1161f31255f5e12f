use Rattle.std.proofs.Common.{◌≡◌, ◌<◌, ◌≤◌, ◌+◌, ℕ, Bool, [], List, get_or, length, replicate, arith, ap}
use Rattle.std.proofs.Common.{sym, subst, ◌∙◌}
use Rattle.std.proofs.lemmas.List.{with_items_is, get_or_default}
use Rattle.relations.specs.Relation.{sets_of}
use Rattle.bitrow.specs.Bits.{is_in}
use Rattle.order.specs.Open.{one_if, relates_once}
use Rattle.order.proofs.Once.{once_most}
use Rattle.order.proofs.Waits.{AreCounts, counts_none, counts_more, counts_all, counts_most}
use Rattle.order.proofs.counts.count_all.Goals as goal

pub loop-event-init : goal.loop-event-init
loop-event-init c =
    let n = length c.args.relation.now in
    let ones : c.in_ok-counts.counts.items ≡ replicate n 1 =
    c.in_ok-counts.ensures.items_if_clones_equal (λ y h. h)
    ∙ ap (λ (k : ℕ). replicate k 1) c.len-len.ensures in
    subst (λ (counts : List ℕ). AreCounts (relates_once c.args.relation.now) n 0 counts) (sym ones)
    (counts_none (relates_once c.args.relation.now) n)

pub add_set-requires-clause-room : goal.add_set-requires-clause-room
add_set-requires-clause-room c f h =
    let few : get_or c.loop-event.counts.items f 0 ≤ c.loop-event.event + 1 =
    counts_most (relates_once c.args.relation.now) (length c.args.relation.now) c.loop-event.event
    c.loop-event.counts.items c.loop-event.invariant f (omega arith) (λ d. once_most c.args.relation.now d f) in
    omega (
      arith,
      few,
      c.sound.ensures.square.few,
      ap (λ (counts : List ℕ). get_or counts f 0) c.deref_mut.ensures.value,
    )

pub loop-event-preserved : goal.loop-event-preserved
loop-event-preserved c =
    let t = c.args.relation.now in
    let w = relates_once t in
    let d = c.loop-event.event in
    let new = c.add_set.new.counts in
    let old = c.deref_mut.result.now in
    let were : AreCounts w (length t) d old =
    subst (λ (counts : List ℕ). AreCounts w (length t) d counts)
    (sym c.deref_mut.ensures.value) c.loop-event.invariant in
    let sets : c.successors-successors.result.now ≡ sets_of t = c.successors-successors.ensures.sets in
    let row : c.index-successors-event.result ≡ get_or (sets_of t) d [] =
    c.index-successors-event.is
    ∙ (ap (λ (l : List (List Bool)). get_or l d c.index-successors-event.result) sets
    ∙ get_or_default (sets_of t) d c.index-successors-event.result []
    (omega (
      arith,
      c.loop-event-test.true,
      ap (λ (l : List (List Bool)). length l) sets,
      c.successors-successors.ensures.len,
    ))) in
    let added : (f : ℕ) → f < length old → get_or new f 0 ≡ get_or old f 0 + w d f =
    λ f at. c.add_set.ensures.more f at
    ∙ ap (λ (s : List Bool). get_or old f 0 + one_if (is_in s f)) row in
    subst (λ (counts : List ℕ). AreCounts w (length t) (d + 1) counts)
    (sym (with_items_is c.loop-event.counts new (omega arith)))
    (counts_more w (length t) d old new were c.add_set.ensures.size added)

pub returns : goal.returns
returns c =
    let w = relates_once c.args.relation.now in
    let n = length c.args.relation.now in
    counts_all w n c.loop-event.counts.items
    (subst (λ (d : ℕ). AreCounts w n d c.loop-event.counts.items) (omega arith) c.loop-event.invariant)
