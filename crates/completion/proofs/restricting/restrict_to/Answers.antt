use Rattle.std.proofs.Common.{ℕ, List, Vec, Global, None, arith, ap, get_or, length, map, sym, ◌∙◌}
use Rattle.std.proofs.lemmas.List.{length-map}
use Rattle.recording.specs.PlaceLaws.{times_at}
use Rattle.recording.specs.declared.event.Event.{Event}
use Rattle.values.specs.Values.{Values, unsourced}
use Rattle.completion.proofs.Fed.{row_below}
use Rattle.completion.proofs.Restricted.{restriction_made}
use Rattle.completion.proofs.restricting.restrict_to.Goals as goal

pub kept_cores-requires-clause-kept : goal.kept_cores-requires-clause-kept
kept_cores-requires-clause-kept c i inside =
    let e : ℕ = get_or c.args.kept.now i 0 in
    let there = row_below c.args.row.now e ((c.requires.same e).0 (times_at c.args.kept.now i inside)) in
    omega (arith, there, c.requires.row)

pub returns : goal.returns
returns c =
    let v : Values = c.args.values.now in
    let w : Values = c.in_ok-made.made in
    let items : Vec Event Global → List Event = λ l. l.items in
    let made : List (List Event) = map items c.in_ok-cores.cores.items in
    let same = c.in_ok-made.ensures in
    restriction_made v w c.args.kept.now c.args.row.now made c.sound.ensures c.requires.same
    (ap (λ (u : Values). u.cores) same
    ∙ ap (λ (l : List (Vec Event Global)). map (map unsourced) (map items l)) c.deref.ensures.value)
    (length-map c.in_ok-cores.cores.items items ∙ c.in_ok-cores.ensures.count)
    c.in_ok-cores.ensures.events
    (ap (λ (u : Values). u.sources) same ∙ c.in_ok-sources.ensures)
    (ap (λ (u : Values). u.initial) same ∙ (c.in_ok-init.ensures.items ∙ c.init.ensures))
    (ap (λ (u : Values). length u.final_values) same ∙ c.in_ok-finals.ensures.count)
    (λ a n known can. ap (λ (u : Values). get_or u.final_values a None) same ∙ c.in_ok-finals.ensures.kept a n known can)
    (λ a n known. c.in_ok-finals.ensures.gone a n (sym (ap (λ (u : Values). get_or u.final_values a None) same) ∙ known))
