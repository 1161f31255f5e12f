-- Where a clipped execution is a recording, nothing was clipped.
use Rattle.std.proofs.Common.{◌≡◌, ◌<◌, ◌+◌, ◌-◌, ℕ, List, [], ◌∷◌, map, length}
use Rattle.std.proofs.Common.{get_or, arith, refl, sym, ap, subst, ◌∙◌}
use Rattle.std.proofs.lemmas.List.{length-map, ext_get_or, get_or-map}
use Rattle.recording.specs.declared.size.RecordingSize.{RecordingSize}
use Rattle.recording.specs.declared.event.Event.{Event}
use Rattle.recording.specs.declared.event.Event.TheVariants.{F}
use Rattle.recording.specs.Execution.{Execution, placed_from, event_at, write_list}
use Rattle.recording.specs.Recording.{IsRecordingWithin, IsWithinLimits}
use Rattle.recorder.specs.Clipped.{clip, clip_event, clipped}
use Rattle.recording.specs.PlacedLaws.{placed_here, placed_after}
use Rattle.recording.specs.RefusalLaws.{source_of_recording}
use Rattle.recorder.proofs.Clipped.{event_clipped}
use Rattle.recorder.proofs.ClippedLimits.{within_from}
use Rattle.recorder.proofs.ClippedRefusals.{source_from, event_same, list_from}

-- a list of items that g leaves as they are is left as it is
map_fixed : {A : Type 0} (g : A → A) (d : A) (xs : List A)
    → ((i : ℕ) → i < length xs → g (get_or xs i d) ≡ get_or xs i d) → map g xs ≡ xs
map_fixed g d xs fixed =
    ext_get_or d (map g xs) xs (length-map xs g)
    (λ i at. let within : i < length xs = omega (arith, at, length-map xs g) in get_or-map g xs i d d within
    ∙ fixed i within)

-- cores are not clipped where no event is
cores_fixed : (k : ℕ) (cores : List (List Event))
    → ((e : ℕ) → clip_event (get_or (placed_from k cores) e (0, F)).1
    ≡ (get_or (placed_from k cores) e (0, F)).1) → map (map clip_event) cores ≡ cores
cores_fixed k [] fixed = refl
cores_fixed k (es ∷ rest) fixed = rw (
  map_fixed clip_event F es (λ i at. subst (λ (p : ℕ × Event). clip_event p.1 ≡ p.1)
      (placed_here k es rest i (0, F) at) (fixed i)),
  cores_fixed (k + 1) rest (λ e. subst (λ (p : ℕ × Event). clip_event p.1 ≡ p.1) (after e)
      (fixed (length es + e))),
) refl
  where
    after : (e : ℕ) → get_or (placed_from k (es ∷ rest)) (length es + e) (0, F)
        ≡ get_or (placed_from (k + 1) rest) e (0, F)
    after e =
        let same : length es + e - length es ≡ e = omega arith in
        placed_after k es rest (length es + e) (0, F) (omega arith)
        ∙ ap (λ (i : ℕ). get_or (placed_from (k + 1) rest) i (0, F)) same

-- write lists are not clipped where no number is
lists_fixed : (x : Execution) → ((a : ℕ) → map clip (write_list x a) ≡ write_list x a)
    → map (map clip) x.write_lists ≡ x.write_lists
unfolding write_list
lists_fixed x fixed = map_fixed (map clip) [] x.write_lists (λ a at. fixed a)

-- an execution is not clipped where no event and no write list is
execution_fixed : (x : Execution) → ((e : ℕ) → clip_event (event_at x e) ≡ event_at x e)
    → ((a : ℕ) → map clip (write_list x a) ≡ write_list x a) → clipped x ≡ x
unfolding event_at
execution_fixed x events lists = rw (cores_fixed 0 x.cores events, lists_fixed x lists) refl

-- an execution whose clipped form is a recording was not clipped
pub recording_from : (size : RecordingSize) (x : Execution) → IsRecordingWithin size (clipped x) → clipped x ≡ x
recording_from size x is =
    let within : IsWithinLimits size x = within_from size x is.within in
    let same = event_same x within (λ e. source_from x within e (source_of_recording (clipped x) is e)) in
    execution_fixed x (λ e. sym (event_clipped x e) ∙ same e)
    (λ a. (list_from x within a (is.well_formed.write_lists a)).0)
