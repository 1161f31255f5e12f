use Rattle.std.proofs.Common.{◌<◌, ◌∙◌, ℕ, List, Option, Vec, Global, [], map, get_or, sym, ap, subst}
use Rattle.std.proofs.lemmas.List.{length-map}
use Rattle.recording.specs.declared.event.Event.{Event}
use Rattle.recording.specs.Order.{times}
use Rattle.completion.specs.Only.{HasValues}
use Rattle.completion.specs.Performed.{AreSourced, writers}
use Rattle.completion.proofs.WithoutChoice.{few_placed, made_of_all, number_inside}
use Rattle.completion.proofs.only.recording_without_choice.Goals as goal

pub first_sources-requires-clause-few : goal.first_sources-requires-clause-few
first_sources-requires-clause-few c = few_placed c.args.values.now c.args.table.now c.requires.table c.requires.room

pub numbers_below-requires : goal.numbers_below-requires
numbers_below-requires c = few_placed c.args.values.now c.args.table.now c.requires.table c.requires.room

pub write_lists-requires-clause-events : goal.write_lists-requires-clause-events
write_lists-requires-clause-events c e there = number_inside c.args.values.now c.args.table.now c.requires.table
    c.requires.room c.in_ok-numbers.numbers.items c.in_ok-numbers.ensures e
    (subst (λ (l : List ℕ). 0 < times l e) c.as_slice.ensures.value there)

pub returns-clause-none : goal.returns-clause-none
returns-clause-none c none x has = c.in_ok-recording.ensures.none none
    (subst (HasValues c.args.values.now) (sym (made_of_all c.args.values.now c.args.table.now c.requires.table
    c.requires.room c.in_ok-numbers.numbers.items c.in_ok-numbers.ensures c.requires.choice
    c.in_ok-sources.sources.items (map (λ (l : Vec Event Global). l.items) c.in_ok-cores.cores.items)
    (map (λ (l : Vec ℕ Global). l.items) c.in_ok-writes.writes.items) c.in_ok-sources.ensures c.in_ok-cores.ensures.rest
    (λ k inside. subst (λ (l : List (Option ℕ)). AreSourced c.args.values.now l k
    (get_or (map (λ (l : Vec Event Global). l.items) c.in_ok-cores.cores.items) k [])) c.as_slice-2.ensures.value
    (c.in_ok-cores.ensures.sources k inside))
    (length-map c.in_ok-writes.writes.items (λ (l : Vec ℕ Global). l.items) ∙ c.in_ok-writes.ensures.count)
    (λ a low. c.in_ok-writes.ensures.lists a low
    ∙ ap (λ (l : List ℕ). writers c.args.values.now a l) c.as_slice.ensures.value) x has)) has)
