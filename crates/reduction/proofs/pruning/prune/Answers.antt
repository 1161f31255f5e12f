use Rattle.std.proofs.Common.{◌≡◌, ◌∙◌, ℕ, List, Vec, Global, ap, map, sym, subst, take_all}
use Rattle.std.proofs.lemmas.Result.{IfOk-weaker}
use Rattle.recording.specs.declared.event.Event.{Event}
use Rattle.recording.specs.declared.size.RecordingSize.TheVariants.{Long}
use Rattle.recording.specs.Execution.{Execution}
use Rattle.recording.specs.Recording.{IsRecording}
use Rattle.reduction.proofs.Pruned.{pruned_from, pruned_recording}
use Rattle.reduction.proofs.pruning.prune.Goals as goal

pub new-requires : goal.new-requires
new-requires c =
    let inside : Vec ℕ Global → List ℕ = λ v. v.items in
    let x = c.args.recording.now in
    let lists : map inside c.loop-list.writes.items ≡ x.write_lists =
    c.loop-list.invariant
    ∙ (ap (λ (l : List (Vec ℕ Global)). map inside l) (take_all c.loop-list.list-index c.writes-list-items.result.now
    c.loop-list-test.false) ∙ c.writes-list-items.ensures) in
    subst (λ (y : Execution). IsRecording y) (sym (pruned_from x c.args.readers.now
    (map (λ (v : Vec Event Global). v.items) c.in_ok-cores.cores.items) (map inside c.loop-list.writes.items)
    c.in_ok-init.init.items c.in_ok-cores.ensures lists (c.in_ok-init.ensures.items ∙ c.init.ensures.value)))
    (pruned_recording x c.args.readers.now Long c.sound.ensures)

pub returns : goal.returns
returns c =
    let inside : Vec ℕ Global → List ℕ = λ v. v.items in
    let x = c.args.recording.now in
    let lists : map inside c.loop-list.writes.items ≡ x.write_lists =
    c.loop-list.invariant
    ∙ (ap (λ (l : List (Vec ℕ Global)). map inside l) (take_all c.loop-list.list-index c.writes-list-items.result.now
    c.loop-list-test.false) ∙ c.writes-list-items.ensures) in
    IfOk-weaker c.new.result _ _ (λ whole is. is ∙ pruned_from x c.args.readers.now
    (map (λ (v : Vec Event Global). v.items) c.in_ok-cores.cores.items) (map inside c.loop-list.writes.items)
    c.in_ok-init.init.items c.in_ok-cores.ensures lists (c.in_ok-init.ensures.items ∙ c.init.ensures.value))
    c.new.ensures
