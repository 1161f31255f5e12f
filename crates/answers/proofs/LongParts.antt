-- What is left of a violation of any length, drawn and printed.
use Rattle.std.proofs.Common.{◌≡◌, ◌⊎◌, inl, inr, ℕ, Some, List, arith, length}
use Rattle.std.proofs.lemmas.Bool.{cases_lt}
use Rattle.recording.specs.declared.size.RecordingSize.TheVariants.{Short}
use Rattle.recording.specs.Execution.{Execution, event_count}
use Rattle.recording.specs.Recording.{IsRecording, IsShortRecording}
use Rattle.recording.specs.Sizes.{most_addresses, most_cores, most_events}
use Rattle.relations.specs.Consistency.{HasNoOrder}
use Rattle.long.specs.declared.answer.LongAnswer.{LongAnswer}
use Rattle.long.specs.declared.answer.LongAnswer.TheVariants.{Order, Overlook, Cycle}
use Rattle.long.specs.Answer.{IsLongAnswer}
use Rattle.long.specs.Texts.{long_outcome}
use Rattle.reduction.specs.Long.{IsLongReduction}
use Rattle.verdicts.specs.declared.outcome.Outcome.{Outcome}
use Rattle.verdicts.specs.declared.outcome.Outcome.TheVariants.{Violation}
use Rattle.verdicts.specs.declared.printed.Answer.{Answer}
use Rattle.verdicts.specs.declared.verdict.Verdict.{Verdict}
use Rattle.verdicts.specs.declared.verdict.Verdict.TheVariants as verdict
use Rattle.verdicts.specs.Judgement.{IsVerdict}
use Rattle.verdicts.specs.VerdictAnswer.{outcome_of}
use Rattle.drawing.specs.Drawing.{IsDrawing}
use Rattle.event_texts.specs.Names.{Names}
use Rattle.answers.specs.LongReduced.{IsLongReducedAnswer, IsPartAnswer}
use Rattle.answers.specs.Reduced.{heading}
use Rattle.answers.specs.Rendered.{IsLongPicture}

-- a picture of what is left is that of a violation
pub part_picture : (x : Execution) (names : Names) (a : LongAnswer) (ks : List ℕ) (y : Execution)
    → IsLongReduction x a ks y → (found : LongAnswer) → IsLongAnswer y found → (text : List ℕ)
    → IsDrawing x names ks y found text → IsLongPicture x names a text
part_picture x names (Order m) ks y r found is text drawn = absurd r.answer
part_picture x names (Overlook l s) ks y r found is text drawn =
    record { numbers = ks; y = y; reduced = r; found = found; is = is; drawn = drawn }
part_picture x names (Cycle c) ks y r found is text drawn =
    record { numbers = ks; y = y; reduced = r; found = found; is = is; drawn = drawn }

-- without a memory order a verdict comes out as a violation
verdict_violates : (y : Execution) (v : Verdict) (o : Outcome) → HasNoOrder y → IsVerdict y v → o ≡ outcome_of v
    → o ≡ Violation
verdict_violates y (verdict.Ordered m) o none is e = absurd (none m.items is.order)
verdict_violates y (verdict.Overlook l s) o none is e = e
verdict_violates y (verdict.Cycle c) o none is e = e

-- and so does what is answered to a recording of any length
answer_violates : (y : Execution) (a : LongAnswer) (o : Outcome) → HasNoOrder y → IsLongAnswer y a → o ≡ long_outcome a
    → o ≡ Violation
answer_violates y (Order m) o none is e = absurd (none m.items is.order)
answer_violates y (Overlook l s) o none is e = e
answer_violates y (Cycle c) o none is e = e

-- a recording is short, or not
short_or_not : (y : Execution) → IsRecording y → IsShortRecording y ⊎ (¬ IsShortRecording y)
short_or_not y is = elim (cases_lt (most_cores Short) (length y.cores)) [
  | inl more ↦ inr (λ short. omega (arith, more, short.within.few_cores))
  | inr cores ↦ elim (cases_lt (most_events Short) (event_count y)) [
    | inl more ↦ inr (λ short. omega (arith, more, short.within.few_events))
    | inr events ↦ elim (cases_lt (most_addresses Short) (length y.write_lists)) [
      | inl more ↦ inr (λ short. omega (arith, more, short.within.few_addresses))
      | inr addresses ↦ inl (record {
        well_formed = is.well_formed;
        within = record {
          few_cores = cores;
          few_events = events;
          few_addresses = addresses;
          addresses = is.within.addresses;
          initial = is.within.initial;
        };
      })
    ]
  ]
]

-- so a part without a memory order comes out as a violation
part_violates : (y : Execution) (before : List ℕ) (answer : Answer) → IsRecording y → HasNoOrder y
    → IsPartAnswer y before answer → answer.outcome ≡ Violation
part_violates y before answer is none part = elim (short_or_not y is) [
  | inl short ↦ let said = part.short short in verdict_violates y said.verdict answer.outcome none said.found said.outcome
  | inr long ↦ let said = part.long long in answer_violates y said.found answer.outcome none said.is said.outcome
]

-- what is left of a violation has no memory order
left_no_order : (x : Execution) (a : LongAnswer) (ks : List ℕ) (y : Execution) → IsLongReduction x a ks y → HasNoOrder y
left_no_order x (Order m) ks y r = absurd r.answer
left_no_order x (Overlook l s) ks y r = r.answer.1
left_no_order x (Cycle c) ks y r = r.answer.2

-- and nor has the whole
whole_no_order : (x : Execution) (a : LongAnswer) (ks : List ℕ) (y : Execution) → IsLongReduction x a ks y
    → IsLongAnswer x a → HasNoOrder x
whole_no_order x (Order m) ks y r is = absurd r.answer
whole_no_order x (Overlook l s) ks y r is = is.1
whole_no_order x (Cycle c) ks y r is = is.2

-- so what is printed of it is what is answered
pub part_answer : (x : Execution) (labels : List (List ℕ)) (a : LongAnswer) → IsLongAnswer x a → (ks : List ℕ)
    (y : Execution) → IsRecording y → IsLongReduction x a ks y → (answer : Answer)
    → IsPartAnswer y (heading (Some labels) ks) answer → IsLongReducedAnswer x labels answer
part_answer x labels a is ks y recording r answer part = record {
  ordered = λ m tso. absurd (whole_no_order x a ks y r is m tso);
  violation = λ none. record {
    found = a;
    is = is;
    events = ks;
    rest = y;
    reduction = r;
    outcome = part_violates y (heading (Some labels) ks) answer recording (left_no_order x a ks y r) part;
    shown = part;
  };
}
