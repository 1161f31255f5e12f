-- What was written of values tells them again.
use Rattle.std.proofs.Common.{◌≡◌, ◌<◌, ◌≤◌, ◌+◌, ◌-◌, ℕ, suc, Bool, true, false, Option, Some, None, is_some, List, []}
use Rattle.std.proofs.Common.{◌∷◌}
use Rattle.std.proofs.Common.{map, flat_map, take, drop, length, replicate, get_or, refl, sym, ap, subst, ◌∙◌, arith}
use Rattle.std.proofs.lemmas.List.{length-drop, take-append-drop, get_or-drop}
use Rattle.std.specs.List.{list_any}
use Rattle.recording.specs.declared.event.Event.{Event}
use Rattle.recording.specs.declared.event.Event.TheVariants.{L, S, R, C, F}
use Rattle.recording.specs.Event.{read_address}
use Rattle.recording.specs.Execution.{placed_from, event_count, event_at}
use Rattle.recording.specs.PlacedLaws.{placed_here, placed_after, count_from}
use Rattle.values.specs.Values.{Values, unsourced}
use Rattle.values.specs.Refused.{ObeyRules}
use Rattle.values_text.specs.Reading.{finals_of, DecodesValues}
use Rattle.values_text.specs.Text.{known_core, known_cores, values_data, written_finals, AreFittingNumbers}
use Rattle.values_text.proofs.WrittenAgain.{resourced, shape_again}

-- ---- the events

-- an event
event_told : (e : Event) (o : Option (Option ℕ)) → unsourced (resourced (e, o)).0 ≡ unsourced e
event_told (L a r s) None = refl
event_told (L a r s) (Some t) = refl
event_told (S a w) o = refl
event_told (R a r s w) None = refl
event_told (R a r s w) (Some t) = refl
event_told (C a r s) None = refl
event_told (C a r s) (Some t) = refl
event_told F o = refl

-- the events of a core
core_told : (es : List Event) (sources : List (Option (Option ℕ)))
    → map unsourced (map (λ p. p.0) (map resourced (known_core es sources))) ≡ map unsourced es
core_told [] sources = refl
core_told (e ∷ es) sources = rw (event_told e (get_or sources 0 None), core_told es (drop 1 sources)) refl

-- and of all
cores_told : (cores : List (List Event)) (sources : List (Option (Option ℕ)))
    → map (map unsourced) (map (map (λ p. p.0)) (map (map resourced) (known_cores cores sources)))
    ≡ map (map unsourced) cores
cores_told [] sources = refl
cores_told (es ∷ rest) sources = rw (core_told es sources, cores_told rest (drop (length es) sources)) refl

-- ---- their sources

-- the source that is known of an event, where it reads
source_told : (e : Event) (o : Option (Option ℕ)) → ((s : Option ℕ) → o ≡ Some s → (a : ℕ) × (read_address e ≡ Some a))
    → (resourced (e, o)).1 ≡ o
source_told (L a r s) None reads = refl
source_told (L a r s) (Some t) reads = refl
source_told (S a w) None reads = refl
source_told (S a w) (Some t) reads = let no = (reads t refl).1 in absurd cc
source_told (R a r s w) None reads = refl
source_told (R a r s w) (Some t) reads = refl
source_told (C a r s) None reads = refl
source_told (C a r s) (Some t) reads = refl
source_told F None reads = refl
source_told F (Some t) reads = let no = (reads t refl).1 in absurd cc

-- sources are known of events that read
abbrev AreOfReads : List Event → List (Option (Option ℕ)) → Type 0
AreOfReads es sources = (i : ℕ) → i < length es → (s : Option ℕ) → get_or sources i None ≡ Some s
    → (a : ℕ) × (read_address (get_or es i F) ≡ Some a)

-- the sources of a core
core_sources : (es : List Event) (sources : List (Option (Option ℕ))) → length es ≤ length sources
    → AreOfReads es sources
    → map (λ p. p.1) (map resourced (known_core es sources)) ≡ take (length es) sources
core_sources [] sources few reads = refl
core_sources (e ∷ es) [] few reads = absurd (omega (arith, few))
core_sources (e ∷ es) (o ∷ os) few reads = rw (
  source_told e o (λ s is. reads 0 (omega arith) s is),
  core_sources es os (omega (arith, few)) (λ i at s is. reads (suc i) (omega (arith, at)) s is),
) refl

-- sources are known of events that read, of all cores
abbrev AreOfAllReads : ℕ → List (List Event) → List (Option (Option ℕ)) → Type 0
AreOfAllReads k cores sources = (e : ℕ) (s : Option ℕ) → get_or sources e None ≡ Some s
    → (a : ℕ) × (read_address (get_or (placed_from k cores) e (0, F)).1 ≡ Some a)

-- the sources of all cores
all_sources : (k : ℕ) (cores : List (List Event)) (sources : List (Option (Option ℕ)))
    → length sources ≡ length (placed_from k cores) → AreOfAllReads k cores sources
    → flat_map (map (λ p. p.1)) (map (map resourced) (known_cores cores sources)) ≡ sources
all_sources k [] [] count reads = refl
all_sources k [] (o ∷ os) count reads = absurd (omega (arith, count))
all_sources k (es ∷ rest) sources count reads = rw (
  core_sources es sources (omega (arith, count, count_from k es rest)) (λ i at s is.
      subst (λ (p : ℕ × Event). (a : ℕ) × (read_address p.1 ≡ Some a)) (placed_here k es rest i (0, F) at)
      (reads i s is)),
  all_sources (k + 1) rest (drop (length es) sources)
      (omega (arith, count, count_from k es rest, length-drop (length es) sources)) (λ e s is.
      let same : length es + e - length es ≡ e = omega arith in
      subst (λ (p : ℕ × Event). (a : ℕ) × (read_address p.1 ≡ Some a))
      (placed_after k es rest (length es + e) (0, F) (omega arith)
      ∙ ap (λ (i : ℕ). get_or (placed_from (k + 1) rest) i (0, F)) same)
      (reads (length es + e) s (sym (get_or-drop (length es) sources e None) ∙ is))),
) (take-append-drop (length es) sources)

-- ---- the final values

-- where none is known, none is written
none_known : (fs : List (Option ℕ)) → list_any is_some fs ≡ false → replicate (length fs) None ≡ fs
none_known [] none = refl
none_known (None ∷ fs) none = ap (λ (l : List (Option ℕ)). None ∷ l) (none_known fs none)
none_known (Some n ∷ fs) none = absurd cc

-- the final values
finals_told : (b : Bool) (fs : List (Option ℕ)) (initial : List ℕ) → list_any is_some fs ≡ b
    → length fs ≡ length initial → finals_of (written_finals fs) initial ≡ fs
finals_told true fs initial is count = rw is refl
finals_told false fs initial is count = rw is (ap (λ (n : ℕ). replicate n None) (sym count) ∙ none_known fs is)

-- ---- the values

pub values_told : (v : Values) → AreFittingNumbers v → map (map unsourced) v.cores ≡ v.cores → ObeyRules v
    → DecodesValues (values_data v) v
unfolding event_count event_at
values_told v fits alone lawful = record {
  contents = record {
    version = 3;
    cores = map (map resourced) (known_cores v.cores v.sources);
    initial = v.initial;
    final_values = written_finals v.final_values;
  };
  shape = shape_again (known_cores v.cores v.sources) (written_finals v.final_values) v.initial
      fits.events fits.finals fits.words;
  version = refl;
  same = rw (
    cores_told v.cores v.sources ∙ alone,
    all_sources 0 v.cores v.sources lawful.within.sources (λ e s is.
        let from = lawful.sources e s is in (from.0, from.1)),
    finals_told (list_any is_some v.final_values) v.final_values v.initial refl lawful.within.final_values,
  ) refl;
}
