-- What is refused of clipped values is refused of the values, and where nothing is refused of them, nothing was
-- clipped.
use Rattle.std.proofs.Common.{◌≡◌, ◌<◌, ◌⊎◌, ◌^◌, ◌-◌, ◌+◌, inl, inr, ℕ, Option, Some, None, option_map, List, [], ◌∷◌}
use Rattle.std.proofs.Common.{map, length, get_or, arith, refl, sym, ap, subst, ◌∙◌}
use Rattle.std.proofs.Math.ListN.{get_or-map}
use Rattle.std.proofs.lemmas.List.{length-map, ext_get_or, get_or-map as map_at}
use Rattle.recording.specs.declared.size.RecordingSize.TheVariants.{Short}
use Rattle.recording.specs.declared.event.Event.{Event}
use Rattle.recording.specs.declared.event.Event.TheVariants.{L, S, R, C, F}
use Rattle.recording.specs.declared.fault.RecError.{RecError}
use Rattle.recording.specs.declared.fault.RecError.TheVariants.{NotJson, Shape, Version, Limits, Source, Value}
use Rattle.recording.specs.declared.fault.RecError.TheVariants.{WriteList, OutOfMemory}
use Rattle.recording.specs.Event.{read_address, written_address, value_read, value_written}
use Rattle.recording.specs.Execution.{Execution, placed_from, event_at, Reads, Writes}
use Rattle.recording.specs.EventLaws.{Writes-event}
use Rattle.recording.specs.PlacedLaws.{placed_here, placed_after}
use Rattle.recording.specs.Refusals.{IsLeastWithout}
use Rattle.recording.specs.Tso.{IsValueOf}
use Rattle.recorder.specs.Clipped.{clip, clip_event, clipped}
use Rattle.recorder.proofs.Clipped.{events_fit, addresses_fit, small, unclipped, count_clipped, event_clipped}
use Rattle.recorder.proofs.Clipped.{reads_clipped, writes_clipped}
use Rattle.recorder.proofs.Somes.{some_mapped}
use Rattle.values.specs.Values.{Values, unsourced, known_source}
use Rattle.values.specs.Refused.{events_alone, AreWithinLimits, IsPossible, HasKnownSource, HasKnownValue, ObeyRules}
use Rattle.values.specs.Refused.{AreRefused}
use Rattle.values_text.specs.Clipped.{clip_source, clipped_values}

-- ---- the limits

-- clipped values within the limits were within them
pub within_from : (v : Values) → AreWithinLimits (clipped_values v) → AreWithinLimits v
within_from v is = record {
  few_cores = omega (arith, is.few_cores, length-map v.cores (map clip_event));
  few_events = omega (arith, is.few_events, count_clipped (events_alone v));
  few_addresses = is.few_addresses;
  addresses = λ e a uses.
      let below = is.addresses e (clip a) (elim uses [
        | inl reads ↦ inl (reads_clipped (events_alone v) e ∙ ap (option_map clip) reads)
        | inr writes ↦ inr (writes_clipped (events_alone v) e ∙ ap (option_map clip) writes)
      ]) in
      omega (arith, below, unclipped a (omega (arith, below, is.few_addresses, addresses_fit Short)));
  sources = sym (length-map v.sources clip_source) ∙ (is.sources ∙ count_clipped (events_alone v));
  final_values = is.final_values;
}

-- within the limits no address that is used is clipped
fits : (v : Values) → AreWithinLimits v → (e a : ℕ) → Reads (events_alone v) e a ⊎ Writes (events_alone v) e a
    → clip a ≡ a
fits v within e a uses = small a (omega (arith, within.addresses e a uses, within.few_addresses, addresses_fit Short))

-- what is there and not clipped is there in what is clipped
same_to : {o c : Option ℕ} {a : ℕ} → c ≡ option_map clip o → ((b : ℕ) → o ≡ Some b → clip b ≡ b) → o ≡ Some a
    → c ≡ Some a
same_to {a = a} clips fixed is = clips ∙ (ap (option_map clip) is ∙ ap Some (fixed a is))

-- and the other way round
same_from : {o c : Option ℕ} {a : ℕ} → c ≡ option_map clip o → ((b : ℕ) → o ≡ Some b → clip b ≡ b) → c ≡ Some a
    → o ≡ Some a
same_from {o} {a = a} clips fixed is =
    let from = some_mapped clip o a (sym clips ∙ is) in from.1 ∙ ap Some (sym (fixed from.0 from.1) ∙ from.2)

-- so what was read is read
reads_to : (v : Values) → AreWithinLimits v → (e a : ℕ) → Reads (events_alone v) e a
    → Reads (events_alone (clipped_values v)) e a
reads_to v within e a =
    same_to (reads_clipped (events_alone v) e) (λ b reads. fits v within e b (inl reads))

-- and the other way round
reads_from : (v : Values) → AreWithinLimits v → (e a : ℕ) → Reads (events_alone (clipped_values v)) e a
    → Reads (events_alone v) e a
reads_from v within e a =
    same_from (reads_clipped (events_alone v) e) (λ b reads. fits v within e b (inl reads))

-- what was written is written
writes_to : (v : Values) → AreWithinLimits v → (e a : ℕ) → Writes (events_alone v) e a
    → Writes (events_alone (clipped_values v)) e a
writes_to v within e a =
    same_to (writes_clipped (events_alone v) e) (λ b writes. fits v within e b (inr writes))

-- and the other way round
writes_from : (v : Values) → AreWithinLimits v → (e a : ℕ) → Writes (events_alone (clipped_values v)) e a
    → Writes (events_alone v) e a
writes_from v within e a =
    same_from (writes_clipped (events_alone v) e) (λ b writes. fits v within e b (inr writes))

-- values within the limits stay within them
within_to : (v : Values) → AreWithinLimits v → AreWithinLimits (clipped_values v)
within_to v is = record {
  few_cores = omega (arith, is.few_cores, length-map v.cores (map clip_event));
  few_events = omega (arith, is.few_events, count_clipped (events_alone v));
  few_addresses = is.few_addresses;
  addresses = λ e a uses. is.addresses e a (elim uses [
    | inl reads ↦ inl (reads_from v is e a reads)
    | inr writes ↦ inr (writes_from v is e a writes)
  ]);
  sources = length-map v.sources clip_source ∙ (is.sources ∙ sym (count_clipped (events_alone v)));
  final_values = is.final_values;
}

-- ---- sources and their values

-- what writes has a number below the greatest of 32 bits
writer_fits : (v : Values) → AreWithinLimits v → (e a : ℕ) → Writes (events_alone v) e a → e < 2 ^ 32 - 1
writer_fits v within e a writes =
    omega (arith, Writes-event (events_alone v) e a writes, within.few_events, events_fit Short)

-- a known source is clipped
source_clipped : (v : Values) (e : ℕ) → known_source (clipped_values v) e ≡ clip_source (known_source v e)
source_clipped v e = get_or-map clip_source v.sources e None

-- a source that is possible where it is clipped
possible_from : (v : Values) → AreWithinLimits v → (a : ℕ) (s : Option ℕ)
    → IsPossible (events_alone (clipped_values v)) a (option_map clip s) → IsPossible (events_alone v) a s
possible_from v within a None is = tt
possible_from v within a (Some w) is =
    let writes = writes_from v within (clip w) a is in
    rw (unclipped w (writer_fits v within (clip w) a writes)) at writes

-- a source that is possible is not clipped
possible_fits : (v : Values) → AreWithinLimits v → (a : ℕ) (s : Option ℕ) → IsPossible (events_alone v) a s
    → option_map clip s ≡ s
possible_fits v within a None is = refl
possible_fits v within a (Some w) is = ap Some (small w (writer_fits v within w a is))

-- and is possible where it is clipped
possible_to : (v : Values) → AreWithinLimits v → (a : ℕ) (s : Option ℕ) → IsPossible (events_alone v) a s
    → IsPossible (events_alone (clipped_values v)) a s
possible_to v within a None is = tt
possible_to v within a (Some w) is = writes_to v within w a is

-- where a clipped event has its source, the event has it
source_from : (v : Values) → AreWithinLimits v → (e : ℕ) → HasKnownSource (clipped_values v) e → HasKnownSource v e
source_from v within e has s known =
    let from = has (option_map clip s) (source_clipped v e ∙ ap clip_source known) in (
      from.0,
      reads_from v within e from.0 from.1,
      possible_from v within from.0 s from.2,
    )

-- a source that is known is not clipped
source_fits : (v : Values) → AreWithinLimits v → (e : ℕ) → HasKnownSource v e → (s : Option ℕ)
    → known_source v e ≡ Some s → option_map clip s ≡ s
source_fits v within e has s known =
    let from = has s known in possible_fits v within from.0 s from.2

-- and the other way round
source_to : (v : Values) → AreWithinLimits v → (e : ℕ) → HasKnownSource v e → HasKnownSource (clipped_values v) e
source_to v within e has t known =
    let from = some_mapped (option_map clip) (known_source v e) t (sym (source_clipped v e) ∙ known) in
    let is = has from.0 from.1 in
    let same : from.0 ≡ t = sym (possible_fits v within is.0 from.0 is.2) ∙ from.2 in (
      is.0,
      reads_to v within e is.0 is.1,
      subst (IsPossible (events_alone (clipped_values v)) is.0) same (possible_to v within is.0 from.0 is.2),
    )

-- an event keeps its values where it is clipped
values_clipped : (e : Event) → (value_read (clip_event e) ≡ value_read e) × (value_written (clip_event e) ≡ value_written e)
values_clipped (L a r s) = (refl, refl)
values_clipped (S a w) = (refl, refl)
values_clipped (R a r s w) = (refl, refl)
values_clipped (C a r s) = (refl, refl)
values_clipped F = (refl, refl)

-- so do the events of an execution
read_clipped : (x : Execution) (e : ℕ) → value_read (event_at (clipped x) e) ≡ value_read (event_at x e)
read_clipped x e = ap value_read (event_clipped x e) ∙ (values_clipped (event_at x e)).0

written_clipped : (x : Execution) (e : ℕ) → value_written (event_at (clipped x) e) ≡ value_written (event_at x e)
written_clipped x e = ap value_written (event_clipped x e) ∙ (values_clipped (event_at x e)).1

-- a value is that of a source where it is so in a clipped execution
value_of_from : (x : Execution) (a : ℕ) (s : Option ℕ) (n m : ℕ) → n ≡ m → IsValueOf (clipped x) a s n
    → IsValueOf x a s m
value_of_from x a None n m same is = sym same ∙ is
value_of_from x a (Some w) n m same is = sym (written_clipped x w) ∙ (is ∙ same)

-- and the other way round
value_of_to : (x : Execution) (a : ℕ) (s : Option ℕ) (n m : ℕ) → n ≡ m → IsValueOf x a s n
    → IsValueOf (clipped x) a s m
value_of_to x a None n m same is = sym same ∙ is
value_of_to x a (Some w) n m same is = written_clipped x w ∙ (is ∙ same)

-- where a clipped event has the value of its source, the event has it
value_from : (v : Values) → AreWithinLimits v → ((e : ℕ) → HasKnownSource v e) → (e : ℕ)
    → HasKnownValue (clipped_values v) e → HasKnownValue v e
value_from v within sources e has a s reads known =
    value_of_from (events_alone v) a s _ _ (read_clipped (events_alone v) e)
    (has a s (reads_to v within e a reads)
    (source_clipped v e ∙ (ap clip_source known ∙ ap Some (source_fits v within e (sources e) s known))))

-- and the other way round
value_to : (v : Values) → AreWithinLimits v → ((e : ℕ) → HasKnownSource v e) → (e : ℕ)
    → HasKnownValue v e → HasKnownValue (clipped_values v) e
value_to v within sources e has a t reads known =
    let from = some_mapped (option_map clip) (known_source v e) t (sym (source_clipped v e) ∙ known) in
    let same : from.0 ≡ t = sym (source_fits v within e (sources e) from.0 from.1) ∙ from.2 in
    value_of_to (events_alone v) a t _ _ (sym (read_clipped (events_alone v) e))
    (has a t (reads_from v within e a reads) (from.1 ∙ ap Some same))

-- ---- the refusals

-- the least number without P is the least without Q, where both hold of the same numbers
least_same : (P Q : ℕ → Type 0) (n : ℕ) → ((m : ℕ) → P m → Q m) → ((m : ℕ) → Q m → P m) → IsLeastWithout P n
    → IsLeastWithout Q n
least_same P Q n to from least = (λ q. least.0 (from n q), λ m below. to m (least.1 m below))

-- each refusal of clipped values is the refusal of the values
pub refusal_from : (v : Values) (r : RecError) → AreRefused (clipped_values v) r → AreRefused v r
refusal_from v Limits past = λ within. past (within_to v within)
refusal_from v (Source e) (clips, least) =
    let within = within_from v clips in (
      within,
      least_same (HasKnownSource (clipped_values v)) (HasKnownSource v) e (source_from v within) (source_to v within)
          least,
    )
refusal_from v (Value e) (clips, sources, least) =
    let within = within_from v clips in
    let has : (f : ℕ) → HasKnownSource v f = λ f. source_from v within f (sources f) in (
      within,
      has,
      least_same (HasKnownValue (clipped_values v)) (HasKnownValue v) e (value_from v within has)
          (value_to v within has) least,
    )
refusal_from v (WriteList a) wrong = wrong
refusal_from v NotJson wrong = wrong
refusal_from v Shape wrong = wrong
refusal_from v Version wrong = wrong
refusal_from v OutOfMemory wrong = wrong

-- ---- nothing was clipped

-- a list of items that g leaves as they are is left as it is
map_fixed : {A : Type 0} (g : A → A) (d : A) (xs : List A)
    → ((i : ℕ) → i < length xs → g (get_or xs i d) ≡ get_or xs i d) → map g xs ≡ xs
map_fixed g d xs fixed =
    ext_get_or d (map g xs) xs (length-map xs g)
    (λ i at. let within : i < length xs = omega (arith, at, length-map xs g) in map_at g xs i d d within
    ∙ fixed i within)

-- an event without its source is not clipped where its addresses are not
event_fixed : (e : Event) → ((a : ℕ) → (read_address e ≡ Some a) ⊎ (written_address e ≡ Some a) → clip a ≡ a)
    → clip_event (unsourced e) ≡ unsourced e
event_fixed (L a r s) fixed = rw (fixed a (inl refl)) refl
event_fixed (S a w) fixed = rw (fixed a (inr refl)) refl
event_fixed (R a r s w) fixed = rw (fixed a (inl refl)) refl
event_fixed (C a r s) fixed = rw (fixed a (inl refl)) refl
event_fixed F fixed = refl

-- each address of an event is not clipped
abbrev AreFixed : Event → Type 0
AreFixed e = (a : ℕ) → (read_address e ≡ Some a) ⊎ (written_address e ≡ Some a) → clip a ≡ a

-- events without sources are not clipped where no address is
cores_fixed : (k : ℕ) (cores : List (List Event)) → ((e : ℕ) → AreFixed (get_or (placed_from k cores) e (0, F)).1)
    → map (map clip_event) (map (map unsourced) cores) ≡ map (map unsourced) cores
cores_fixed k [] fixed = refl
cores_fixed k (es ∷ rest) fixed = rw (
  map_fixed clip_event F (map unsourced es) (λ i at.
      let within : i < length es = omega (arith, at, length-map es unsourced) in
      let same : get_or (map unsourced es) i F ≡ unsourced (get_or es i F) = get_or-map unsourced es i F in
      rw same (event_fixed (get_or es i F)
      (subst (λ (p : ℕ × Event). AreFixed p.1) (placed_here k es rest i (0, F) within) (fixed i)))),
  cores_fixed (k + 1) rest (λ e. subst (λ (p : ℕ × Event). AreFixed p.1) (after e) (fixed (length es + e))),
) refl
  where
    after : (e : ℕ) → get_or (placed_from k (es ∷ rest)) (length es + e) (0, F)
        ≡ get_or (placed_from (k + 1) rest) e (0, F)
    after e =
        let same : length es + e - length es ≡ e = omega arith in
        placed_after k es rest (length es + e) (0, F) (omega arith)
        ∙ ap (λ (i : ℕ). get_or (placed_from (k + 1) rest) i (0, F)) same

-- within the limits no address of an event is clipped
all_fixed : (v : Values) → AreWithinLimits v → (e : ℕ) → AreFixed (get_or (placed_from 0 v.cores) e (0, F)).1
unfolding event_at
all_fixed v within e a uses = fits v within e a uses

-- a source that is known is not clipped where its number is not
known_fixed : (o : Option (Option ℕ)) → ((s : Option ℕ) → o ≡ Some s → option_map clip s ≡ s) → clip_source o ≡ o
known_fixed None fixed = refl
known_fixed (Some s) fixed = ap Some (fixed s refl)

-- values whose clipped form is lawful were not clipped
pub values_from : (v : Values) → map (map unsourced) v.cores ≡ v.cores → ObeyRules (clipped_values v)
    → clipped_values v ≡ v
values_from v alone is =
    let within : AreWithinLimits v = within_from v is.within in
    let cores : map (map clip_event) v.cores ≡ v.cores =
    ap (map (map clip_event)) (sym alone) ∙ (cores_fixed 0 v.cores (all_fixed v within) ∙ alone) in
    let sources : map clip_source v.sources ≡ v.sources = map_fixed clip_source None v.sources
    (λ i at. known_fixed (get_or v.sources i None)
    (λ s known. source_fits v within i (source_from v within i (is.sources i)) s known)) in
    rw (cores, sources) refl
