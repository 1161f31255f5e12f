use Rattle.std.proofs.Common.{◌≡◌, ◌∙◌, ◌+◌, ◌<◌, ◌++◌, ◌∷◌, [], List, Ok, Option, Result, ap, arith, length, map}
use Rattle.std.proofs.Common.{slice_index_or, subst, suc, sym, take, ℕ}
use Rattle.std.proofs.lemmas.List.{append_assoc, get_or-set_other, length-append, length-map, length-set, length-take}
use Rattle.std.proofs.lemmas.List.{map-append}
use Rattle.std.proofs.Math.Seq.{take-suc}
use Rattle.common.specs.declared.memory.OutOfMemory.{OutOfMemory}
use Rattle.histograms.specs.declared.seen.Seen.{Seen}
use Rattle.histograms.specs.Histogram.{IsHistogram}
use Rattle.histograms.proofs.seeded_runs.count.Goals as goal

-- a run for which there was memory
abbrev ok : Option Seen → Result (Option Seen) OutOfMemory
ok s = Ok s

-- as many slots, of which one more was counted
one_more : (slots : List (Result (Option Seen) OutOfMemory)) (k : ℕ) (seen : List (Option Seen)) (s : Option Seen)
    (d : Result (Option Seen) OutOfMemory) → k < length slots → map ok seen ≡ take k slots
    → ok s ≡ slice_index_or slots k d → map ok (seen ++ s ∷ []) ≡ take (k + 1) slots
one_more slots k seen s d low front here =
    let next : suc k ≡ k + 1 = omega arith in
    map-append ok seen (s ∷ []) ∙ ap (λ (l : List (Result (Option Seen) OutOfMemory)). l ++ ok s ∷ []) front
    ∙ ap (λ x. take k slots ++ x ∷ []) here ∙ sym (take-suc slots k d low)
    ∙ ap (λ n. take n slots) next

length_both : (runs seen : List (Option Seen)) (slots : List (Result (Option Seen) OutOfMemory)) (k : ℕ) {first : ℕ}
    → k < length slots → length runs ≡ first → map ok seen ≡ take k slots → length (runs ++ seen) ≡ first + k
length_both runs seen slots k low long front = omega (
  arith,
  low,
  long,
  length-append runs seen,
  length-map seen ok,
  ap (λ (l : List (Result (Option Seen) OutOfMemory)). length l) front,
  length-take k slots,
)

pub loop-k-preserved : goal.loop-k-preserved
loop-k-preserved c =
    let known = c.loop-k.invariant in
    let k = c.loop-k.k in
    let s = c.in_ok-seen.seen in
    let low : k < length c.args.slots.now = omega (arith, c.loop-k-test.true, c.loop-k.auto.k-end, known.size) in
    let d = c.index-slots-k.result in
    let here = c.in_ok-seen.ensures.value ∙ known.rest k d (omega arith) in record {
      size = length-set c.loop-k.slots k c.replace.new.dest ∙ known.size;
      rest = λ i e after. get_or-set_other c.loop-k.slots k i c.replace.new.dest e (λ same. omega (arith, same, after))
          ∙ known.rest i e (omega (arith, after));
      counted = λ runs is long. let (seen, front, h) = known.counted runs is long in (
        seen ++ s ∷ [],
        one_more c.args.slots.now k seen s d low front here,
        subst (λ l. IsHistogram l c.add.new.self) (append_assoc runs seen (s ∷ []))
            (c.in_ok-add.ensures (runs ++ seen) h (length_both runs seen c.args.slots.now k low long front)),
      );
    }
