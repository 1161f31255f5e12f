use Rattle.std.proofs.Common.{◌∙◌, rules, tests, Vec, Global}
use Rattle.std.specs.List.{list_any}
use Rattle.std.proofs.lemmas.Iterator.{YieldsList-from_slice}
use Rattle.std.proofs.lemmas.Iterator.Search.{any_from_yields_List}
use Rattle.recording.specs.declared.event.Event.{Event}
use Rattle.recording.specs.Event.{is_failed_cas}
use Rattle.recorder.proofs.Failed.{failed_items}
use Rattle.recorder.proofs.versions.has_failed_cas.Goals as goal

pub returns : goal.returns
returns c =
    any_from_yields_List (λ (v : Vec Event Global). list_any is_failed_cas v.items) _ _ _ c.any.ensures.ran
    (YieldsList-from_slice c.args.cores.now cc) (λ v b q h. search (rules, tests))
    ∙ failed_items c.args.cores.now
