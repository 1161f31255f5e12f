-- What is refused of a clipped execution is refused of the execution.
use Rattle.std.proofs.Common.{◌≡◌, ◌<◌, ◌^◌, ◌-◌, inl, inr, ℕ, Option, Some, None, option_map, List, []}
use Rattle.std.proofs.Common.{◌∷◌, map, slice_index, arith, refl, sym, ap, subst, ◌∙◌}
use Rattle.recording.specs.declared.fault.RecError.{RecError}
use Rattle.recording.specs.declared.fault.RecError.TheVariants.{NotJson, Shape, Version, Limits, Source, Value}
use Rattle.recording.specs.declared.fault.RecError.TheVariants.{WriteList, OutOfMemory}
use Rattle.recording.specs.declared.size.RecordingSize.{RecordingSize}
use Rattle.recording.specs.declared.event.Event.{Event}
use Rattle.recording.specs.declared.event.Event.TheVariants.{L, S, R, C, F}
use Rattle.recording.specs.Event.{read_address, written_address, source, value_read, value_written}
use Rattle.recording.specs.Execution.{Execution, event_at, write_list, source_of, Reads, Writes}
use Rattle.recording.specs.Order.{times}
use Rattle.recording.specs.Refusals.{HasSource, HasValue, HasWriteList, IsLeastWithout, IsRefusal}
use Rattle.recording.specs.Recording.{IsWithinLimits}
use Rattle.recording.specs.Tso.{IsValueOf}
use Rattle.recorder.specs.Clipped.{clip, clip_event, clipped}
use Rattle.recording.specs.OrderLaws.{times_here}
use Rattle.recorder.proofs.Clipped.{small, unclipped, event_clipped, list_clipped, sources_clipped}
use Rattle.recorder.proofs.Somes.{some_mapped}
use Rattle.recorder.proofs.ClippedLimits.{fits, within_from, within_to, reads_to, reads_from, writes_to}
use Rattle.recorder.proofs.ClippedLimits.{writes_from, writer_fits}

-- where a clipped event has its source, the event has it
pub source_from : {size : RecordingSize} (x : Execution) → IsWithinLimits size x → (e : ℕ) → HasSource (clipped x) e → HasSource x e
source_from x within e has a s reads is =
    let writes = writes_from x within (clip s) a (has a (clip s) (reads_to x within e a reads)
    (sources_clipped x e ∙ ap (option_map clip) is)) in
    rw (unclipped s (writer_fits x within (clip s) a writes)) at writes

-- and the other way round
source_to : {size : RecordingSize} (x : Execution) → IsWithinLimits size x → (e : ℕ) → HasSource x e → HasSource (clipped x) e
source_to x within e has a t reads is =
    let from = some_mapped clip (source_of x e) t (sym (sources_clipped x e) ∙ is) in
    let writes = has a from.0 (reads_from x within e a reads) from.1 in
    writes_to x within t a (rw (sym (small from.0 (writer_fits x within from.0 a writes)) ∙ from.2) at writes)

-- where each read has its source, no source is clipped
pub source_fits : {size : RecordingSize} (x : Execution) → IsWithinLimits size x → (e a : ℕ) → HasSource x e → Reads x e a
    → source_of (clipped x) e ≡ source_of x e
source_fits x within e a has reads = sources_clipped x e
    ∙ fixed (source_of x e) (λ s is. small s (writer_fits x within s a (has a s reads is)))
  where
    fixed : (o : Option ℕ) → ((s : ℕ) → o ≡ Some s → clip s ≡ s) → option_map clip o ≡ o
    fixed None same = refl
    fixed (Some s) same = ap Some (same s refl)

-- an event is not clipped where its addresses and its source are not
event_fixed : (v : Event) → ((a : ℕ) → read_address v ≡ Some a
    → (clip a ≡ a) × (option_map clip (source v) ≡ source v))
    → ((a : ℕ) → written_address v ≡ Some a → clip a ≡ a) → clip_event v ≡ v
event_fixed (L a r s) reads writes = rw ((reads a refl).0, (reads a refl).1) refl
event_fixed (S a w) reads writes = rw (writes a refl) refl
event_fixed (R a r s w) reads writes = rw ((reads a refl).0, (reads a refl).1) refl
event_fixed (C a r s) reads writes = rw ((reads a refl).0, (reads a refl).1) refl
event_fixed F reads writes = refl

-- within the limits, where each read has its source, no event is clipped
pub event_same : {size : RecordingSize} (x : Execution) → IsWithinLimits size x → ((e : ℕ) → HasSource x e) → (e : ℕ)
    → event_at (clipped x) e ≡ event_at x e
event_same x within sources e =
    event_clipped x e ∙ event_fixed (event_at x e)
    (λ a reads. (
      fits x within e a (inl reads),
      sym (sources_clipped x e) ∙ source_fits x within e a (sources e) reads,
    ))
    (λ a writes. fits x within e a (inr writes))

-- executions with the same events and initial values have the same values
value_alike : (x y : Execution) → ((e : ℕ) → event_at x e ≡ event_at y e) → x.initial ≡ y.initial → (e : ℕ)
    → HasValue x e → HasValue y e
value_alike x y same begins e has a reads =
    gives (source_of y e) (value_read (event_at y e))
    (subst (λ (v : Event). IsValueOf x a (source v) (value_read v)) (same e) (has a (ap read_address (same e) ∙ reads)))
  where
    gives : (o : Option ℕ) (v : ℕ) → IsValueOf x a o v → IsValueOf y a o v
    gives None v is = is ∙ ap (λ (values : List ℕ). slice_index values a) begins
    gives (Some w) v is = sym (ap value_written (same w)) ∙ is

-- what stands after the first number stands in the list
stands_after : (x : ℕ) (xs : List ℕ) (e : ℕ) → 0 < times xs e → 0 < times (x ∷ xs) e
unfolding times
stands_after x xs e stands = omega arith

-- a list whose clipped numbers are below the greatest of 32 bits was not clipped
list_unclipped : (xs : List ℕ) → ((e : ℕ) → 0 < times (map clip xs) e → e < 2 ^ 32 - 1) → map clip xs ≡ xs
list_unclipped [] below = refl
list_unclipped (x ∷ xs) below =
    let first = unclipped x (below (clip x) (omega (arith, times_here (map clip xs) (clip x) (clip x) refl))) in
    rw (first, list_unclipped xs (λ e stands. below e (stands_after (clip x) (map clip xs) e stands))) refl

-- a list of numbers below the greatest of 32 bits is not clipped
list_small : (xs : List ℕ) → ((e : ℕ) → 0 < times xs e → e < 2 ^ 32 - 1) → map clip xs ≡ xs
list_small [] below = refl
list_small (x ∷ xs) below =
    let first = small x (below x (omega (arith, times_here xs x x refl))) in
    rw (first, list_small xs (λ e stands. below e (stands_after x xs e stands))) refl

-- executions with the same list of an address and the same writes of it
list_alike : (x y : Execution) (a : ℕ) → write_list x a ≡ write_list y a
    → ((e : ℕ) → Writes y e a → Writes x e a) → ((e : ℕ) → Writes x e a → Writes y e a) → HasWriteList x a
    → HasWriteList y a
list_alike x y a same back on has = record {
  once = λ e writes. rw (← same) (has.once e (back e writes));
  nothing_else = λ e stands. on e (has.nothing_else e (rw same stands));
}

-- a write list that a clipped execution has was not clipped, and the execution has it
pub list_from : {size : RecordingSize} (x : Execution) → IsWithinLimits size x → (a : ℕ) → HasWriteList (clipped x) a
    → (map clip (write_list x a) ≡ write_list x a) × HasWriteList x a
list_from x within a has =
    let same = list_unclipped (write_list x a) (λ e stands. writer_fits x within e a
    (writes_from x within e a (has.nothing_else e (rw (list_clipped x a) stands)))) in (
      same,
      list_alike (clipped x) x a (list_clipped x a ∙ same) (λ e. writes_to x within e a)
          (λ e. writes_from x within e a) has,
    )

-- and the other way round
list_to : {size : RecordingSize} (x : Execution) → IsWithinLimits size x → (a : ℕ) → HasWriteList x a → HasWriteList (clipped x) a
list_to x within a has =
    let same = list_small (write_list x a) (λ e stands. writer_fits x within e a (has.nothing_else e stands)) in
    list_alike x (clipped x) a (sym (list_clipped x a ∙ same)) (λ e. writes_from x within e a)
    (λ e. writes_to x within e a) has

-- the least number without P is the least without Q, where both hold of the same numbers
least_same : (P Q : ℕ → Type 0) (n : ℕ) → ((m : ℕ) → P m → Q m) → ((m : ℕ) → Q m → P m) → IsLeastWithout P n
    → IsLeastWithout Q n
least_same P Q n to from least = (λ q. least.0 (from n q), λ m below. to m (least.1 m below))

-- each refusal of a clipped execution is the refusal of the execution
pub refusal_from : (size : RecordingSize) (x : Execution) (r : RecError) → IsRefusal size (clipped x) r
    → IsRefusal size x r
refusal_from size x Limits past = λ within. past (within_to size x within)
refusal_from size x (Source e) (clips, least) =
    let within = within_from size x clips in (
      within,
      least_same (HasSource (clipped x)) (HasSource x) e (source_from x within)
          (source_to x within) least,
    )
refusal_from size x (Value e) (clips, sources, least) =
    let within = within_from size x clips in
    let has : (f : ℕ) → HasSource x f = λ f. source_from x within f (sources f) in (
      within,
      has,
      least_same (HasValue (clipped x)) (HasValue x) e (value_alike (clipped x) x (event_same x within has) refl)
          (value_alike x (clipped x) (λ f. sym (event_same x within has f)) refl) least,
    )
refusal_from size x (WriteList a) (clips, sources, values, least) =
    let within = within_from size x clips in
    let has : (f : ℕ) → HasSource x f = λ f. source_from x within f (sources f) in (
      within,
      has,
      λ f. value_alike (clipped x) x (event_same x within has) refl f (values f),
      least_same (HasWriteList (clipped x)) (HasWriteList x) a (λ b is. (list_from x within b is).1)
          (list_to x within) least,
    )
refusal_from size x NotJson wrong = wrong
refusal_from size x Shape wrong = wrong
refusal_from size x Version wrong = wrong
refusal_from size x OutOfMemory wrong = wrong
