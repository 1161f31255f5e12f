use Rattle.std.proofs.Common.{◌≡◌, ◌∙◌, ◌+◌, ◌-◌, ◌<◌, ◌++◌, List, None, Ok, IfOk, Option, Result, ap, arith, inl, inr}
use Rattle.std.proofs.Common.{length, map, slice_index_or, subst, sym, ℕ}
use Rattle.std.proofs.lemmas.Bool.{cases_lt}
use Rattle.std.proofs.lemmas.List.{get_or-append-add, get_or_append_left, length-append, length-map}
use Rattle.std.proofs.Math.ListN.{get_or-map}
use Rattle.common.specs.declared.memory.OutOfMemory.{OutOfMemory}
use Rattle.histograms.specs.declared.seen.Seen.{Seen}
use Rattle.histograms.specs.Runs.{IsSeededRun}
use Rattle.histograms.proofs.seeded_runs.seeded_histogram.Goals as goal

-- what is seen of a run, by its number
abbrev Sees : Type 1
Sees = ℕ → Option Seen → Type 0

-- a run for which there was memory
abbrev ok : Option Seen → Result (Option Seen) OutOfMemory
ok s = Ok s

-- each slot has one
same_length : (slots : List (Result (Option Seen) OutOfMemory)) (more : List (Option Seen)) → map ok more ≡ slots
    → length more ≡ length slots
same_length slots more are = omega (
  arith,
  ap (λ (l : List (Result (Option Seen) OutOfMemory)). length l) are,
  length-map more ok,
)

-- of runs for which there was memory
of_slots : (P : Sees) (slots : List (Result (Option Seen) OutOfMemory)) (more : List (Option Seen)) (made : ℕ)
    → map ok more ≡ slots
    → ((k : ℕ) → k < length slots → IfOk (slice_index_or slots k (Ok None)) (P (made + k)))
    → (j : ℕ) → j < length more → P (made + j) (slice_index_or more j None)
of_slots P slots more made are each j low =
    let here : j < length slots = omega (arith, low, same_length slots more are) in
    subst (λ r. IfOk r (P (made + j)))
    (ap (λ (l : List (Result (Option Seen) OutOfMemory)). slice_index_or l j (ok None)) (sym are)
    ∙ get_or-map ok more j None)
    (each j here)

-- of more runs
of_both : (P : Sees) (known more : List (Option Seen)) (made : ℕ) → length known ≡ made
    → ((k : ℕ) → k < length known → P (0 + k) (slice_index_or known k None))
    → ((j : ℕ) → j < length more → P (made + j) (slice_index_or more j None))
    → (k : ℕ) → k < length (known ++ more) → P (0 + k) (slice_index_or (known ++ more) k None)
of_both P known more made count first later k low = elim (cases_lt k (length known)) [
  | inl before ↦ subst (P (0 + k)) (sym (get_or_append_left known more None k before)) (first k before)
  | inr past ↦
      let j = k - length known in
      let at : length known + j ≡ k = omega (arith, past) in
      let here : made + j ≡ 0 + k = omega (arith, at, count) in
      let low_more : j < length more = omega (arith, low, past, length-append known more) in
      let value = sym (get_or-append-add known more j None) ∙ ap (λ n. slice_index_or (known ++ more) n None) at in
      subst (P (0 + k)) value (subst (λ n. P n (slice_index_or more j None)) here (later j low_more))
]

pub blocks-2-preserved : goal.blocks-2-preserved
blocks-2-preserved g c =
    let known = c.blocks-2.invariant in
    let (more, are, counted) = c.in_ok-count.ensures.counted known.seen known.counted known.count in
    let size = same_length c.make.new.slots more are in
    record {
      workers = known.workers;
      few = omega (
        arith,
        known.few,
        c.in_ok-count.ensures.size,
        c.make.ensures.size,
        ap (λ (l : List (Result (Option Seen) OutOfMemory)). length l) c.deref_mut-slots.ensures.value,
        c.in_ok-slots.ensures,
        c.min.ensures,
      );
      seen = known.seen ++ more;
      count = omega (arith, length-append known.seen more, known.count, size, c.in_ok-count.ensures.size);
      each = of_both (IsSeededRun c.args.program.now c.args.runs.now) known.seen more c.blocks-2.made known.count known.each
          (of_slots (IsSeededRun c.args.program.now c.args.runs.now) c.make.new.slots more c.blocks-2.made are
          c.make.ensures.each);
      counted = counted;
    }
