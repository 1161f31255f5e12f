-- What is answered of contents for which others stand.
use Rattle.std.proofs.Common.{◌≡◌, ◌<◌, ◌⊎◌, ◌↔◌, inl, inr, ℕ, Option, Some, option_map, List, [], ◌∷◌}
use Rattle.std.proofs.Common.{map, length, refl, sym, ap, subst, arith, Result, Ok, Err, IsOk, IfOk, IfErr}
use Rattle.std.proofs.lemmas.List.{length-map}
use Rattle.std.proofs.lemmas.List.Sums.{sum_by-cons}
use Rattle.std.specs.List.{sum_by}
use Rattle.recording.specs.declared.size.RecordingSize.{RecordingSize}
use Rattle.serde_json.specs.Data.{Data}
use Rattle.recording.specs.declared.fault.RecError.{RecError}
use Rattle.recording.specs.declared.fault.RecError.TheVariants.{NotJson, Shape, Version, Limits, Source, Value}
use Rattle.recording.specs.declared.fault.RecError.TheVariants.{WriteList, OutOfMemory}
use Rattle.recording.specs.declared.event.Event.{Event}
use Rattle.recording.specs.Execution.{Execution, event_count}
use Rattle.recording.specs.PlacedLaws.{placed_total}
use Rattle.recording.specs.Recording.{IsRecordingWithin, IsWithinLimits}
use Rattle.recording.specs.Sizes.{most_addresses}
use Rattle.recording.specs.Refusals.{IsRefusal}
use Rattle.recorder.specs.Text.{IsReadAs, has_failed_cas}
use Rattle.recorder.specs.ParsedModel.{ParsedModel, execution_of, IsVersioned}
use Rattle.recorder.specs.Reading.{shape_in, IsReadingOf}
use Rattle.recorder.specs.Clipped.{clip, clip_event, clipped_shape}
use Rattle.recorder.specs.Held.{AreTooMany, HoldsCores, StandsFor}
use Rattle.recorder.proofs.ClippedAnswers.{answers_from, told_from, version_from}

-- a compare-and-swap failed in what is held where one did
failed_same : (size : RecordingSize) (held cores : List (List Event)) → HoldsCores size held cores
    → has_failed_cas held ≡ has_failed_cas cores
failed_same size held cores (inl same) = ap has_failed_cas same
failed_same size held cores (inr both) = both.2

-- the version is right for the one where it is for the other
versioned_by : (q c : ParsedModel) → q.version ≡ c.version → q.values ≡ c.values
    → has_failed_cas q.cores ≡ has_failed_cas c.cores → IsVersioned q → IsVersioned c
versioned_by q c version values failed h = rw (← version, ← values, ← failed) h

-- contents beyond the limits
abbrev IsLarge : RecordingSize → ParsedModel → Type 0
IsLarge size c = AreTooMany size c.cores ⊎ (most_addresses size < length c.write_lists)

-- contents are the same where their parts are
same_parts : (v w : ℕ) (cores others : List (List Event)) (lists more : List (List ℕ))
    (values same : Option (List ℕ)) → v ≡ w → cores ≡ others → lists ≡ more → values ≡ same
    → let a : ParsedModel = record { version = v; cores = cores; write_lists = lists; values = values } in
    let b : ParsedModel = record { version = w; cores = others; write_lists = more; values = same } in a ≡ b
same_parts v w cores others lists more values same hv hc hl hs = rw (hv, hc, hl, hs) refl

-- the contents are held, or both are beyond the limits
same_or_large : (size : RecordingSize) (q c : ParsedModel) → StandsFor size q c
    → (q ≡ c) ⊎ (IsLarge size q × IsLarge size c)
same_or_large size q c s = elim s.cores [
  | inr both ↦ inr (inl both.0, inl both.1)
  | inl cores ↦ elim s.lists [
    | inr both ↦ inr (inr both.0, inr both.1)
    | inl lists ↦ inl (same_parts q.version c.version q.cores c.cores q.write_lists c.write_lists q.values
        c.values s.version cores lists s.values)
  ]
]

-- which are not within them
beyond : (size : RecordingSize) (c : ParsedModel) → IsLarge size c → IsWithinLimits size (execution_of c) → ⊥
unfolding event_count
beyond size c (inl (inl many)) within = omega (arith, many, within.few_cores)
beyond size c (inl (inr many)) within = omega (arith, many, within.few_events, placed_total 0 c.cores)
beyond size c (inr many) within = omega (arith, many, within.few_addresses)

-- clipped cores have the same number of events
clipped_count : (cores : List (List Event))
    → sum_by (λ es. length es) (map (map clip_event) cores) ≡ sum_by (λ es. length es) cores
clipped_count [] = refl
clipped_count (es ∷ cores) = omega (
  arith,
  sum_by-cons (λ (l : List Event). length l) es cores,
  sum_by-cons (λ (l : List Event). length l) (map clip_event es) (map (map clip_event) cores),
  length-map es clip_event,
  clipped_count cores,
)

-- clipped contents are as large
large_from : (size : RecordingSize) (c : ParsedModel) → IsLarge size (clipped_shape c) → IsLarge size c
large_from size c (inl (inl many)) = inl (inl (omega (arith, many, length-map c.cores (map clip_event))))
large_from size c (inl (inr many)) = inl (inr (omega (arith, many, clipped_count c.cores)))
large_from size c (inr many) = inr (omega (arith, many, length-map c.write_lists (map clip)))

-- the refusal of what is beyond the limits
limits_refused : (size : RecordingSize) (bytes : List ℕ) (d : Data) (c : ParsedModel) (x : Execution)
    (r : Result Execution RecError) → IsReadAs bytes d → Some c ≡ option_map clipped_shape (shape_in d)
    → IsVersioned c → IsLarge size c → (IsWithinLimits size x → ⊥) → IsOk r ↔ IsRecordingWithin size x
    → IfErr r (λ e. IsRefusal size x e) → IsReadingOf size bytes r
limits_refused size bytes d c x (Ok z) reads is versioned large over exact err =
    absurd (over (exact.0 refl).within)
limits_refused size bytes d c x (Err Limits) reads is versioned large over exact err =
    let from = told_from d c is versioned in
    (d, reads, (execution_of from.0, from.2, beyond size from.0 (large_from size from.0 (subst (IsLarge size) (sym from.1) large))))
limits_refused size bytes d c x (Err (Source e)) reads is versioned large over exact err = absurd (over err.0)
limits_refused size bytes d c x (Err (Value e)) reads is versioned large over exact err = absurd (over err.0)
limits_refused size bytes d c x (Err (WriteList a)) reads is versioned large over exact err = absurd (over err.0)
limits_refused size bytes d c x (Err NotJson) reads is versioned large over exact err = absurd err
limits_refused size bytes d c x (Err Shape) reads is versioned large over exact err = absurd err
limits_refused size bytes d c x (Err Version) reads is versioned large over exact err = absurd err
limits_refused size bytes d c x (Err OutOfMemory) reads is versioned large over exact err = absurd err

-- what is answered of what is held, where its version is right, is an answer
pub answers_held : (size : RecordingSize) (bytes : List ℕ) (d : Data) (c q : ParsedModel) (x : Execution)
    (r : Result Execution RecError) → IsReadAs bytes d
    → Some c ≡ option_map clipped_shape (shape_in d) → StandsFor size q c → IsVersioned q → x ≡ execution_of q
    → IsOk r ↔ IsRecordingWithin size x → IfOk r (λ z. z ≡ x) → IfErr r (λ e. IsRefusal size x e)
    → IsReadingOf size bytes r
answers_held size bytes d c q x r reads is stands versioned same_told exact ok err =
    elim (same_or_large size q c stands) [
      | inl same ↦
          answers_from size bytes d q x r reads
          (subst (λ (y : ParsedModel). Some y ≡ option_map clipped_shape (shape_in d)) (sym same) is)
          versioned same_told exact ok err
      | inr large ↦
          limits_refused size bytes d c x r reads is
          (versioned_by q c stands.version stands.values (failed_same size q.cores c.cores stands.cores) versioned)
          large.1 (λ within. beyond size q large.0 (subst (IsWithinLimits size) same_told within)) exact err
    ]

-- where the version of what is held is wrong, that is the answer
pub version_held : (size : RecordingSize) (bytes : List ℕ) (d : Data) (c q : ParsedModel) → IsReadAs bytes d
    → Some c ≡ option_map clipped_shape (shape_in d) → StandsFor size q c → (IsVersioned q → ⊥)
    → IsReadingOf size bytes (Err Version)
version_held size bytes d c q reads is stands wrong =
    version_from size bytes d c reads is (λ right. wrong (versioned_by c q (sym stands.version) (sym stands.values)
    (sym (failed_same size q.cores c.cores stands.cores)) right))
