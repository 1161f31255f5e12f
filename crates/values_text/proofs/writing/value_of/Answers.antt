use Rattle.std.proofs.Common.{rules, ◌≡◌, ◌∙◌, true, List, is_some, map, sym, ap, subst, Vec, Global}
use Rattle.std.specs.List.{list_any, AllByRecursion}
use Rattle.serde_json.specs.View.{members_view}
use Rattle.serde_json.proofs.Views.{view-Object}
use Rattle.recording.specs.declared.event.Event.{Event}
use Rattle.recorder.specs.Text.{number_data, list_data}
use Rattle.recorder.specs.Written.{IsWord}
use Rattle.values_text.specs.Reading.{KnownEvent}
use Rattle.values_text.specs.Text.{known_cores, known_data, final_data, IsFittingKnown, IsFittingFinal}
use Rattle.values_text.proofs.Contents.{full_contents, finals_fit}
use Rattle.values_text.proofs.writing.value_of.Goals as goal

pub returns-clause-value : goal.returns-clause-value
returns-clause-value c =
    let v = c.args.values.now in
    let one : list_any is_some v.final_values ≡ true =
    ap (list_any is_some) (sym c.final_values.ensures) ∙ (sym c.is_one_known.ensures ∙ c.if-not-is_one_known.false) in
    let known : map (λ w. w.items) c.as_slice.result.now ≡ known_cores v.cores v.sources =
    ap (map (λ (w : Vec KnownEvent Global). w.items)) c.as_slice.ensures.value
    ∙ (c.in_ok-known.ensures ∙ (ap (λ (cs : List (List Event)). known_cores cs c.sources.result.now) c.cores.ensures
    ∙ ap (known_cores v.cores) c.sources.ensures)) in
    view-Object c.in_ok-members-4.members
    ∙ full_contents v _ _ _ _ _ _ _ _ _ (ap members_view c.new.ensures.empty) c.in_ok-members.ensures c.in_ok-members-2.ensures
    c.in_ok-members-3.ensures c.in_ok-members-4.ensures (record {
      cores = c.in_ok-cores.ensures.value ∙ ap (list_data (list_data known_data)) known;
      init = c.in_ok-init.ensures.value ∙ ap (list_data number_data) c.init.ensures;
      version = search rules;
      finals = c.in_ok-final_values.ensures.value ∙ ap (list_data final_data) c.final_values-2.ensures;
    }) one

pub returns-clause-fits : goal.returns-clause-fits
returns-clause-fits c =
    let v = c.args.values.now in
    let one : list_any is_some v.final_values ≡ true =
    ap (list_any is_some) (sym c.final_values.ensures) ∙ (sym c.is_one_known.ensures ∙ c.if-not-is_one_known.false) in
    let known : map (λ w. w.items) c.as_slice.result.now ≡ known_cores v.cores v.sources =
    ap (map (λ (w : Vec KnownEvent Global). w.items)) c.as_slice.ensures.value
    ∙ (c.in_ok-known.ensures ∙ (ap (λ (cs : List (List Event)). known_cores cs c.sources.result.now) c.cores.ensures
    ∙ ap (known_cores v.cores) c.sources.ensures)) in
    record {
      events = subst (AllByRecursion (AllByRecursion IsFittingKnown)) known c.in_ok-cores.ensures.fits;
      finals = finals_fit v.final_values one
          (subst (AllByRecursion IsFittingFinal) c.final_values-2.ensures c.in_ok-final_values.ensures.fits);
      words = subst (AllByRecursion IsWord) c.init.ensures c.in_ok-init.ensures.fits;
    }
