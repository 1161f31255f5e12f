use Rattle.std.proofs.Common.{◌≡◌, ◌∙◌, ℕ, List, Vec, Global, map, length, arith, ap, sym, subst}
use Rattle.std.proofs.lemmas.Result.{IfOk-weaker}
use Rattle.recording.specs.declared.event.Event.{Event}
use Rattle.recording.specs.Execution.{Execution}
use Rattle.recording.specs.Recording.{IsRecording, IsRecordingWithin}
use Rattle.reduction.specs.Restriction.{placed_event, used_cores}
use Rattle.reduction.proofs.Made.{few_kept, few_used, restriction_recording, restriction_from}
use Rattle.reduction.proofs.Parts.{items_mapped}
use Rattle.reduction.proofs.reducing.restrict_to.Goals as goal

pub placed_cores-requires-clause-addresses : goal.placed_cores-requires-clause-addresses
placed_cores-requires-clause-addresses c = omega (
  arith,
  few_used c.args.recording.now c.args.kept.now c.sound.ensures,
  ap (λ (l : List ℕ). length l) c.in_ok-addresses.ensures,
  ap (λ (l : List ℕ). length l) c.deref.ensures.value,
)

pub placed_cores-requires-clause-kept : goal.placed_cores-requires-clause-kept
placed_cores-requires-clause-kept c =
    few_kept c.args.recording.now c.args.kept.now c.sound.ensures c.requires

pub lists_of-requires : goal.lists_of-requires
lists_of-requires c = few_kept c.args.recording.now c.args.kept.now c.sound.ensures c.requires

pub new-requires : goal.new-requires
new-requires c =
    let x : Execution = c.args.recording.now in
    let cores : map (λ (v : Vec Event Global). v.items) c.in_ok-cores.cores.items
    ≡ map (λ es. map (placed_event x c.deref.result.now c.args.kept.now) es) (used_cores x c.args.kept.now) =
    c.in_ok-cores.ensures ∙ items_mapped (placed_event x c.deref.result.now c.args.kept.now) c.deref-2.result.now
    (used_cores x c.args.kept.now)
    (ap (λ (l : List (Vec ℕ Global)). map (λ (v : Vec ℕ Global). v.items) l) c.deref-2.ensures.value
    ∙ c.in_ok-used.ensures) in
    subst (λ (y : Execution). IsRecording y) (sym (restriction_from x c.args.kept.now
    c.deref.result.now c.deref-3.result.now c.deref-4.result.now
    (map (λ (v : Vec Event Global). v.items) c.in_ok-cores.cores.items)
    (map (λ (v : Vec ℕ Global). v.items) c.in_ok-writes.writes.items) c.in_ok-init.init.items
    (c.deref.ensures.value ∙ c.in_ok-addresses.ensures) (c.deref-3.ensures.value ∙ c.in_ok-addresses.ensures)
    (c.deref-4.ensures.value ∙ c.in_ok-addresses.ensures) cores c.in_ok-writes.ensures
    c.in_ok-init.ensures))
    (restriction_recording x c.args.kept.now c.requires c.sound.ensures)

pub returns-clause-rest : goal.returns-clause-rest
returns-clause-rest c =
    let x : Execution = c.args.recording.now in
    let cores : map (λ (v : Vec Event Global). v.items) c.in_ok-cores.cores.items
    ≡ map (λ es. map (placed_event x c.deref.result.now c.args.kept.now) es) (used_cores x c.args.kept.now) =
    c.in_ok-cores.ensures ∙ items_mapped (placed_event x c.deref.result.now c.args.kept.now) c.deref-2.result.now
    (used_cores x c.args.kept.now)
    (ap (λ (l : List (Vec ℕ Global)). map (λ (v : Vec ℕ Global). v.items) l) c.deref-2.ensures.value
    ∙ c.in_ok-used.ensures) in
    IfOk-weaker c.new.result _ _ (λ rest is. is ∙ restriction_from x c.args.kept.now
    c.deref.result.now c.deref-3.result.now c.deref-4.result.now
    (map (λ (v : Vec Event Global). v.items) c.in_ok-cores.cores.items)
    (map (λ (v : Vec ℕ Global). v.items) c.in_ok-writes.writes.items) c.in_ok-init.init.items
    (c.deref.ensures.value ∙ c.in_ok-addresses.ensures) (c.deref-3.ensures.value ∙ c.in_ok-addresses.ensures)
    (c.deref-4.ensures.value ∙ c.in_ok-addresses.ensures) cores c.in_ok-writes.ensures
    c.in_ok-init.ensures) c.new.ensures

pub returns-clause-size : goal.returns-clause-size
returns-clause-size c = IfOk-weaker c.new.result _ _
    (λ rest same size is. subst (λ (y : Execution). IsRecordingWithin size y) (sym same)
    (restriction_recording c.args.recording.now c.args.kept.now c.requires is)) (returns-clause-rest c)
