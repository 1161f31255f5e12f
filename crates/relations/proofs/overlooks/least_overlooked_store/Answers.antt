use Rattle.std.proofs.Common.{◌<◌, ◌∙◌, ap, arith}
use Rattle.std.proofs.lemmas.Bool.{iff_false}
use Rattle.recording.specs.Event.{read_address, source}
use Rattle.recording.specs.Execution.{event_count}
use Rattle.relations.proofs.Newer.{newer_list, overlooked_at, least_here, least_more, least_all}
use Rattle.relations.proofs.overlooks.least_overlooked_store.Goals.{then-is_earlier, else-is_earlier}
use Rattle.relations.proofs.overlooks.least_overlooked_store.Goals as goal

pub returns-in_default : goal.returns-in_default
returns-in_default c = λ s o.
    let own : c.args.load < event_count c.args.recording.now = o.3.1 in
    absurd (omega (arith, own, c.in_default.ensures))

pub loop-i-preserved : goal.loop-i-preserved
loop-i-preserved c =
    let x = c.args.recording.now in
    let l = c.args.load in
    let ws = c.write_list-list.result.now in
    let first = c.first_newer_place-first.result in
    let list = newer_list x c.sound.ensures.well_formed l c.in-Some-read_address.address ws c.source.result first
    (c.in-Some-read_address.ensures ∙ ap read_address c.in-Some.ensures.2) c.write_list-list.ensures
    (c.source.ensures ∙ ap source c.in-Some.ensures.2) c.first_newer_place-first.ensures.newer in
    elim c.if-is_earlier.branch [
      | then-is_earlier w ↦ rw w.least-is (least_here x l ws first c.loop-i.i c.loop-i.least w.lesser.result
          (overlooked_at x l c.in-Some-read_address.address ws first c.loop-i.i list c.loop-i.auto.i c.loop-i-test.true
          ((c.is_earlier.ensures x c.requires).0 w.if-is_earlier.true)) w.lesser.ensures c.loop-i.invariant)
      | else-is_earlier w ↦ rw w.least-is (least_more x l ws first c.loop-i.i c.loop-i.least
          (iff_false (c.is_earlier.ensures x c.requires) w.if-is_earlier.false) c.loop-i.invariant)
    ]

pub returns : goal.returns
returns c =
    let x = c.args.recording.now in
    let ws = c.write_list-list.result.now in
    let first = c.first_newer_place-first.result in
    least_all x c.args.load c.in-Some-read_address.address ws first c.loop-i.i
    (newer_list x c.sound.ensures.well_formed c.args.load c.in-Some-read_address.address ws c.source.result first
    (c.in-Some-read_address.ensures ∙ ap read_address c.in-Some.ensures.2) c.write_list-list.ensures
    (c.source.ensures ∙ ap source c.in-Some.ensures.2) c.first_newer_place-first.ensures.newer)
    c.loop-i-test.false c.loop-i.least c.loop-i.invariant
