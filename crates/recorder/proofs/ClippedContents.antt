-- The contents of a text, clipped: what they are, of which version, and what they tell.
use Rattle.std.proofs.Common.{◌≡◌, ℕ, Option, Some, None, option_map, option_and_then, List, [], ◌∷◌, map, codes}
use Rattle.std.proofs.Common.{refl, sym, ap, ◌∙◌, replicate}
use Rattle.std.proofs.lemmas.List.{length-map}
use Rattle.std.specs.List.{list_any}
use Rattle.serde_json.specs.Data.{Data}
use Rattle.serde_json.specs.Find.{as_object}
use Rattle.recording.specs.declared.event.Event.{Event}
use Rattle.recording.specs.declared.event.Event.TheVariants.{L, S, R, C, F}
use Rattle.recording.specs.Recording.{executed}
use Rattle.recording.specs.Event.{is_failed_cas}
use Rattle.recorder.specs.Text.{has_failed_cas}
use Rattle.recorder.specs.ParsedModel.{ParsedModel, initial_values, execution_of, IsVersioned}
use Rattle.recorder.specs.Reading.{natural, value_in, event_in, list_in, at_key, count_members}
use Rattle.recorder.specs.Reading.{parsed_parts, contents_of}
use Rattle.recorder.specs.Reading.{shape_in}
use Rattle.recorder.specs.Clipped.{clip, clip_event, clipped, clipped_shape, clipped_number, clipped_event}
use Rattle.recorder.specs.ReadMembers.{clipped_contents}
use Rattle.recorder.proofs.ClippedLists.{cores_clipped, writes_clipped}
use Rattle.recorder.proofs.Somes.{map_if}

-- a compare-and-swap that failed is one
failed_clipped : (v : Event) → is_failed_cas (clip_event v) ≡ is_failed_cas v
failed_clipped (L a r s) = refl
failed_clipped (S a w) = refl
failed_clipped (R a r s w) = refl
failed_clipped (C a r s) = refl
failed_clipped F = refl

-- a core has one where it had one
core_clipped : (es : List Event) → list_any is_failed_cas (map clip_event es) ≡ list_any is_failed_cas es
core_clipped [] = refl
core_clipped (e ∷ es) = rw (failed_clipped e, core_clipped es) refl

-- and so it is with all cores
failed_cores : (cores : List (List Event)) → has_failed_cas (map (map clip_event) cores) ≡ has_failed_cas cores
failed_cores [] = refl
failed_cores (es ∷ rest) = rw (core_clipped es, failed_cores rest) refl

-- contents whose clipped form has what its version has have it
pub versioned_from : (c : ParsedModel) → IsVersioned (clipped_shape c) → IsVersioned c
versioned_from c h = rw (failed_cores c.cores) at h

-- and the other way round
pub versioned_to : (c : ParsedModel) → IsVersioned c → IsVersioned (clipped_shape c)
versioned_to c h = rw (failed_cores c.cores) h

-- the initial values are the same
values_same : (values : Option (List ℕ)) (lists : List (List ℕ))
    → initial_values values (map (map clip) lists) ≡ initial_values values lists
values_same None lists = ap (λ (n : ℕ). replicate n 0) (length-map lists (map clip))
values_same (Some values) lists = refl

-- the execution is the clipped one
pub execution_clipped : (c : ParsedModel) → execution_of (clipped_shape c) ≡ clipped (execution_of c)
execution_clipped c =
    ap (λ (values : List ℕ). executed (map (map clip_event) c.cores) (map (map clip) c.write_lists) values)
    (values_same c.values c.write_lists)

-- what is clipped of parts
parts_clipped : (v : Option ℕ) (cs : Option (List (List Event))) (ws : Option (List (List ℕ)))
    (values : Option (List ℕ)) → option_map clipped_shape (parsed_parts v cs ws values)
    ≡ parsed_parts v (option_map (map (map clip_event)) cs) (option_map (map (map clip)) ws) values
parts_clipped None cs ws values = refl
parts_clipped (Some v) None ws values = refl
parts_clipped (Some v) (Some cs) None values = refl
parts_clipped (Some v) (Some cs) (Some ws) values = refl

-- of contents with initial values
valued_clipped : (v : Option ℕ) (cs : Option (List (List Event))) (ws : Option (List (List ℕ)))
    (init : Option (List ℕ)) → option_map clipped_shape (option_and_then (λ i. parsed_parts v cs ws (Some i)) init)
    ≡ option_and_then (λ i. parsed_parts v (option_map (map (map clip_event)) cs) (option_map (map (map clip)) ws)
    (Some i)) init
valued_clipped v cs ws None = refl
valued_clipped v cs ws (Some i) = parts_clipped v cs ws (Some i)

-- of all contents
contents_clipped : (n : ℕ) (v : Option ℕ) (cs : Option (List (List Event))) (ws : Option (List (List ℕ)))
    (init : Option (List ℕ)) → option_map clipped_shape (contents_of n v cs ws init)
    ≡ contents_of n v (option_map (map (map clip_event)) cs) (option_map (map (map clip)) ws) init
unfolding contents_of
contents_clipped n v cs ws init =
    simp (map_if, parts_clipped v cs ws None, valued_clipped v cs ws init) refl

-- what a value's members give are the contents of what was read of them
pub shape_given : (d : Data) (n : ℕ) (v : Option ℕ) (cs : Option (List (List Event)))
    (ws : Option (List (List ℕ))) (init : Option (List ℕ)) → option_map count_members (as_object d) ≡ Some n
    → at_key natural (codes "version") d ≡ v → at_key (list_in (list_in clipped_event)) (codes "cores") d ≡ cs
    → at_key (list_in (list_in clipped_number)) (codes "writes") d ≡ ws
    → at_key (list_in value_in) (codes "init") d ≡ init → clipped_contents d ≡ contents_of n v cs ws init
unfolding shape_in
shape_given d n v cs ws init count version cores writes values =
    let events = at_key (list_in (list_in event_in)) (codes "cores") d in
    let lists = at_key (list_in (list_in natural)) (codes "writes") d in
    let cores_are : option_map (map (map clip_event)) events ≡ cs = sym (cores_clipped (codes "cores") d) ∙ cores in
    let writes_are : option_map (map (map clip)) lists ≡ ws = sym (writes_clipped (codes "writes") d) ∙ writes in
    ap (option_map clipped_shape) (rw (count, version, values) refl)
    ∙ contents_clipped n v events lists init ∙ rw (cores_are, writes_are) refl
