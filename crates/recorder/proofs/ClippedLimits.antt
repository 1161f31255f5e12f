-- Within the limits a clipped execution reads and writes the same addresses.
use Rattle.std.proofs.Common.{◌≡◌, ◌<◌, ◌⊎◌, ◌^◌, ◌-◌, inl, inr, ℕ, Option, Some, option_map, map, length, arith, sym}
use Rattle.std.proofs.Common.{ap, ◌∙◌}
use Rattle.std.proofs.lemmas.List.{length-map}
use Rattle.recording.specs.declared.size.RecordingSize.{RecordingSize}
use Rattle.recording.specs.Execution.{Execution, Reads, Writes}
use Rattle.recording.specs.Recording.{IsWithinLimits}
use Rattle.recorder.specs.Clipped.{clip, clip_event, clipped}
use Rattle.recording.specs.EventLaws.{Writes-event}
use Rattle.recorder.proofs.Clipped.{events_fit, addresses_fit, small, unclipped, count_clipped}
use Rattle.recorder.proofs.Clipped.{reads_clipped, writes_clipped}
use Rattle.recorder.proofs.Somes.{some_mapped}

-- a clipped execution has the same number of write lists
lists_count : (x : Execution) → length (clipped x).write_lists ≡ length x.write_lists
lists_count x = length-map x.write_lists (map clip)

-- a clipped execution within the limits was within them
pub within_from : (size : RecordingSize) (x : Execution) → IsWithinLimits size (clipped x) → IsWithinLimits size x
within_from size x is = record {
  few_cores = omega (arith, is.few_cores, length-map x.cores (map clip_event));
  few_events = omega (arith, is.few_events, count_clipped x);
  few_addresses = omega (arith, is.few_addresses, lists_count x);
  addresses = λ e a uses.
      let below = is.addresses e (clip a) (elim uses [
        | inl reads ↦ inl (reads_clipped x e ∙ ap (option_map clip) reads)
        | inr writes ↦ inr (writes_clipped x e ∙ ap (option_map clip) writes)
      ]) in
      omega (arith, below, lists_count x, unclipped a (omega (arith, below, is.few_addresses, addresses_fit size)));
  initial = is.initial ∙ lists_count x;
}

-- within the limits no address that is used is clipped
pub fits : {size : RecordingSize} (x : Execution) → IsWithinLimits size x → (e a : ℕ) → Reads x e a ⊎ Writes x e a → clip a ≡ a
fits {size} x within e a uses = small a (omega (
  arith,
  within.addresses e a uses,
  within.few_addresses,
  addresses_fit size,
))

-- what is there and not clipped is there in what is clipped
same_to : {o c : Option ℕ} {a : ℕ} → c ≡ option_map clip o → ((b : ℕ) → o ≡ Some b → clip b ≡ b) → o ≡ Some a
    → c ≡ Some a
same_to {a = a} clips fixed is = clips ∙ ap (option_map clip) is ∙ ap Some (fixed a is)

-- and the other way round
same_from : {o c : Option ℕ} {a : ℕ} → c ≡ option_map clip o → ((b : ℕ) → o ≡ Some b → clip b ≡ b) → c ≡ Some a
    → o ≡ Some a
same_from {o} {a = a} clips fixed is =
    let from = some_mapped clip o a (sym clips ∙ is) in from.1 ∙ ap Some (sym (fixed from.0 from.1) ∙ from.2)

-- so what was read is read
pub reads_to : {size : RecordingSize} (x : Execution) → IsWithinLimits size x → (e a : ℕ) → Reads x e a → Reads (clipped x) e a
reads_to x within e a = same_to (reads_clipped x e) (λ b reads. fits x within e b (inl reads))

-- and the other way round
pub reads_from : {size : RecordingSize} (x : Execution) → IsWithinLimits size x → (e a : ℕ) → Reads (clipped x) e a → Reads x e a
reads_from x within e a = same_from (reads_clipped x e) (λ b reads. fits x within e b (inl reads))

-- what was written is written
pub writes_to : {size : RecordingSize} (x : Execution) → IsWithinLimits size x → (e a : ℕ) → Writes x e a → Writes (clipped x) e a
writes_to x within e a = same_to (writes_clipped x e) (λ b writes. fits x within e b (inr writes))

-- and the other way round
pub writes_from : {size : RecordingSize} (x : Execution) → IsWithinLimits size x → (e a : ℕ) → Writes (clipped x) e a → Writes x e a
writes_from x within e a = same_from (writes_clipped x e) (λ b writes. fits x within e b (inr writes))

-- an execution within the limits stays within them
pub within_to : (size : RecordingSize) (x : Execution) → IsWithinLimits size x → IsWithinLimits size (clipped x)
within_to size x is = record {
  few_cores = omega (arith, is.few_cores, length-map x.cores (map clip_event));
  few_events = omega (arith, is.few_events, count_clipped x);
  few_addresses = omega (arith, is.few_addresses, lists_count x);
  addresses = λ e a uses. omega (
    arith,
    lists_count x,
    is.addresses e a (elim uses [
      | inl reads ↦ inl (reads_from x is e a reads)
      | inr writes ↦ inr
          (writes_from x is e a writes)
    ]),
  );
  initial = is.initial ∙ sym (lists_count x);
}

-- what writes has a number below the greatest of 32 bits
pub writer_fits : {size : RecordingSize} (x : Execution) → IsWithinLimits size x → (e a : ℕ) → Writes x e a
    → e < 2 ^ 32 - 1
writer_fits {size} x within e a writes =
    omega (arith, Writes-event x e a writes, within.few_events, events_fit size)
