-- What is answered of what is held of values is the answer of the values.
use Rattle.std.proofs.Common.{◌≡◌, ℕ, Option, List, [], ◌∷◌, map, flat_map, Ok, Err, refl}
use Rattle.std.proofs.Common.{sym, ap, subst, ◌∙◌}
use Rattle.std.proofs.lemmas.List.{map-append}
use Rattle.std.proofs.lemmas.List.Concat.{flat_map-cons}
use Rattle.serde_json.specs.Data.{Data}
use Rattle.recording.specs.declared.fault.RecError.{RecError}
use Rattle.recording.specs.declared.fault.RecError.TheVariants.{NotJson, Shape, Version, Limits, Source, Value}
use Rattle.recording.specs.declared.fault.RecError.TheVariants.{WriteList, OutOfMemory}
use Rattle.recording.specs.declared.event.Event.{Event}
use Rattle.recording.specs.declared.event.Event.TheVariants.{L, S, R, C, F}
use Rattle.recorder.specs.Clipped.{clip_event}
use Rattle.recorder.specs.Text.{IsReadAs}
use Rattle.recorder.proofs.Somes.{some_mapped}
use Rattle.values.specs.Values.{Values, unsourced}
use Rattle.values.specs.Refused.{ObeyRules, AreRefused}
use Rattle.values.proofs.Unsourced.{stripped_twice}
use Rattle.values_text.specs.declared.shape.Parsed.{Parsed}
use Rattle.values_text.specs.Reading.{KnownEvent, ParsedValues, values_shape, told_values, DecodesValues}
use Rattle.values_text.specs.Reading.{IsValuesReading}
use Rattle.values_text.specs.Clipped.{clip_source, clip_known, clipped_values, clipped_parsed}
use Rattle.values_text.specs.Parsed.{parsed_values, IsHeldOf}
use Rattle.values_text.proofs.ClippedValues.{refusal_from, values_from}

-- ---- what the contents that are held tell

-- an event without its source
event_held : (e : Event) → unsourced (clip_event e) ≡ clip_event (unsourced e)
event_held (L a r s) = refl
event_held (S a w) = refl
event_held (R a r s w) = refl
event_held (C a r s) = refl
event_held F = refl

-- the events of a core
core_held : (ps : List KnownEvent)
    → map unsourced (map (λ p. p.0) (map clip_known ps)) ≡ map clip_event (map unsourced (map (λ p. p.0) ps))
core_held [] = refl
core_held (p ∷ ps) = rw (event_held p.0, core_held ps) refl

-- and of all
cores_held : (cores : List (List KnownEvent))
    → map (map unsourced) (map (map (λ p. p.0)) (map (map clip_known) cores))
    ≡ map (map clip_event) (map (map unsourced) (map (map (λ p. p.0)) cores))
cores_held [] = refl
cores_held (ps ∷ cores) = rw (core_held ps, cores_held cores) refl

-- the sources of a core
core_sources : (ps : List KnownEvent) → map (λ p. p.1) (map clip_known ps) ≡ map clip_source (map (λ p. p.1) ps)
core_sources [] = refl
core_sources (p ∷ ps) = ap (λ (l : List (Option (Option ℕ))). clip_source p.1 ∷ l) (core_sources ps)

-- and of all
sources_held : (cores : List (List KnownEvent)) → flat_map (map (λ p. p.1)) (map (map clip_known) cores)
    ≡ map clip_source (flat_map (map (λ p. p.1)) cores)
sources_held [] = refl
sources_held (ps ∷ cores) =
    flat_map-cons (map (λ (p : KnownEvent). p.1)) (map clip_known ps) (map (map clip_known) cores)
    ∙ (rw (core_sources ps, sources_held cores) (sym (map-append clip_source (map (λ p. p.1) ps)
    (flat_map (map (λ p. p.1)) cores)))
    ∙ sym (ap (map clip_source) (flat_map-cons (map (λ (p : KnownEvent). p.1)) ps cores)))

-- what is held of contents tells what is held of the values
told_held : (c : ParsedValues) → told_values (clipped_parsed c) ≡ clipped_values (told_values c)
told_held c = rw (cores_held c.cores, sources_held c.cores) refl

-- ---- the answers

-- contents of which these are held, and that are of version 3
told_from : (bytes : List ℕ) (p : Parsed) (v : Values) → IsHeldOf bytes p → p.version ≡ 3
    → v ≡ told_values (parsed_values p)
    → (d : Data) × (w : Values) × IsReadAs bytes d × DecodesValues d w × (v ≡ clipped_values w)
    × (map (map unsourced) w.cores ≡ w.cores)
told_from bytes p v (d, reads, held) version told =
    let from = some_mapped clipped_parsed (values_shape d) (parsed_values p) held in
    let right : from.0.version ≡ 3 = ap (λ (c : ParsedValues). c.version) from.2 ∙ version in (
      d,
      told_values from.0,
      reads,
      record { contents = from.0; shape = from.1; version = right; same = refl },
      told ∙ (ap told_values (sym from.2) ∙ told_held from.0),
      stripped_twice (map (map (λ p. p.0)) from.0.cores),
    )

-- the first refusal
refused : (bytes : List ℕ) (d : Data) (v : Values) (e : RecError) → IsReadAs bytes d → DecodesValues d v
    → AreRefused v e → IsValuesReading bytes (Err e)
refused bytes d v Limits reads tells is = (d, reads, (v, tells, is))
refused bytes d v (Source e) reads tells is = (d, reads, (v, tells, is))
refused bytes d v (Value e) reads tells is = (d, reads, (v, tells, is))
refused bytes d v (WriteList a) reads tells is = absurd is
refused bytes d v NotJson reads tells is = absurd is
refused bytes d v Shape reads tells is = absurd is
refused bytes d v Version reads tells is = absurd is
refused bytes d v OutOfMemory reads tells is = absurd is

pub refused_held : (bytes : List ℕ) (p : Parsed) (v : Values) (e : RecError) → IsHeldOf bytes p → p.version ≡ 3
    → v ≡ told_values (parsed_values p) → AreRefused v e → IsValuesReading bytes (Err e)
refused_held bytes p v e held version told is =
    let from = told_from bytes p v held version told in
    refused bytes from.0 from.1 e from.2 from.3 (refusal_from from.1 e (rw from.4 at is))

-- and the values
pub read_held : (bytes : List ℕ) (p : Parsed) (v : Values) → IsHeldOf bytes p → p.version ≡ 3
    → v ≡ told_values (parsed_values p) → ObeyRules v → IsValuesReading bytes (Ok v)
read_held bytes p v held version told is =
    let from = told_from bytes p v held version told in
    let same : v ≡ from.1 = from.4 ∙ values_from from.1 from.5 (rw from.4 at is) in
    (from.0, from.2, subst (λ (w : Values). DecodesValues from.0 w) (sym same) from.3, is)
