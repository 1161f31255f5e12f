-- What was read of an input whose bytes are known, and what was written.
use Rattle.std.proofs.Common.{◌≡◌, ◌≤◌, ◌^◌, ◌++◌, ◌-◌, ◌∙◌, ℕ, List, Option, Some, None, Result, Ok, Err, IfOk, ap}
use Rattle.std.proofs.Common.{arith}
use Rattle.std.proofs.Common.{length, length-append}
use Rattle.std.proofs.Common.{subst, sym}
use Rattle.std.specs.Prelude.{IfSome, option_map}
use Rattle.std.specs.Io.KnownBytes.{Appends, Consumes, IsAtEnd, Keeps}
use Rattle.std.proofs.KnownBytes.{Appends-kept}
use Rattle.std.proofs.lemmas.List.{append-nil, take_all}
use Rattle.verdicts.specs.declared.outcome.Outcome.{Outcome}
use Rattle.verdicts.specs.declared.printed.Answer.{Answer}
use Rattle.inputs.specs.declared.command_error.CommandError.{CommandError}
use Rattle.surveys.specs.declared.error.SurveyError.TheVariants.{TooLong}
use Rattle.surveys.specs.declared.range.LineRange.{LineRange}
use Rattle.surveys.specs.Lines.{lines}
use Rattle.surveys.specs.Ranges.{lines_in, masked}
use Rattle.surveys.specs.Surveys.{IsLongRead}
use Rattle.commands.specs.Perform.{IsWritten}

-- all bytes that are known were read
pub all_given : (known left after : Option (List ℕ)) (bytes : List ℕ) → Keeps known left
    → Consumes left after bytes → IsAtEnd after → IfSome known (λ all. bytes ≡ all)
all_given None left after bytes keeps read end = tt
all_given (Some xs) None after bytes keeps read end = absurd keeps
all_given (Some xs) (Some ys) None bytes keeps read end = absurd read
all_given (Some xs) (Some ys) (Some zs) bytes keeps read end =
    sym (append-nil bytes) ∙ ap (λ (l : List ℕ). bytes ++ l) (sym end) ∙ sym read ∙ keeps

-- of an input that is too long 2^64 bytes or more are known, where any are
pub long_given : (known left after : Option (List ℕ)) → Keeps known left → IsLongRead TooLong left after
    → IfSome known (λ bytes. 2 ^ 64 ≤ length bytes)
long_given None left after keeps long = tt
long_given (Some xs) None after keeps long = absurd keeps
long_given (Some xs) (Some ys) None keeps long = absurd long.1
long_given (Some xs) (Some ys) (Some zs) keeps long = omega (
  arith,
  long.2,
  ap (λ (l : List ℕ). length l) keeps,
  ap (λ (l : List ℕ). length l) long.1,
  length-append long.0 zs,
)

-- known bytes of which others are made stay
mapped_kept : (f : List ℕ → List ℕ) (known left : Option (List ℕ)) → Keeps known left
    → Keeps (option_map f known) (option_map f left)
mapped_kept f None left keeps = tt
mapped_kept f (Some xs) None keeps = absurd keeps
mapped_kept f (Some xs) (Some ys) keeps = ap f keeps

-- all bytes that are made of those that are known were read
pub all_mapped : (f : List ℕ → List ℕ) (known left after : Option (List ℕ)) (bytes : List ℕ) → Keeps known left
    → Consumes (option_map f left) after bytes → IsAtEnd after → IfSome known (λ all. bytes ≡ f all)
all_mapped f None left after bytes keeps read end = tt
all_mapped f (Some xs) left after bytes keeps read end =
    all_given (Some (f xs)) (option_map f left) after bytes (mapped_kept f (Some xs) left keeps) read end

-- the lines of all bytes that are made of those that are known
pub lines_given : (range : LineRange) (before : ℕ) (count : Option ℕ) (known left after : Option (List ℕ))
    (bytes : List ℕ) → before ≡ range.first - 1 → count ≡ range.count
    → ((all : List ℕ) → lines (masked (range.first - 1) range.count all) ≡ lines_in range all) → Keeps known left
    → Consumes (option_map (masked before count) left) after bytes → IsAtEnd after
    → IfSome known (λ all. lines bytes ≡ lines_in range all)
lines_given range before count None left after bytes first number law keeps read end = tt
lines_given range before count (Some xs) left after bytes first number law keeps read end =
    ap lines (all_mapped (masked before count) (Some xs) left after bytes keeps read end)
    ∙ ap (λ b. lines (masked b count xs)) first ∙ ap (λ n. lines (masked (range.first - 1) n xs)) number ∙ law xs

-- of an input of which as many bytes are made, and are too many, 2^64 bytes or more are known, where any are
pub long_mapped : (f : List ℕ → List ℕ) (known left after : Option (List ℕ))
    → ((bytes : List ℕ) → length (f bytes) ≡ length bytes) → Keeps known left
    → IsLongRead TooLong (option_map f left) after → IfSome known (λ bytes. 2 ^ 64 ≤ length bytes)
long_mapped f None left after same keeps long = tt
long_mapped f (Some xs) left after same keeps long = omega (
  arith,
  same xs,
  long_given (Some (f xs)) (option_map f left) after (mapped_kept f (Some xs) left keeps) long,
)

-- what is written and handed on, or not, is the answer, or a beginning of it
pub flushed : (answer : Answer) (before middle after : Option (List ℕ)) (r : Result Outcome CommandError)
    → Appends before middle answer.text.items → Keeps middle after → IfOk r (λ came. came ≡ answer.outcome)
    → IsWritten answer before after r
flushed answer before middle after (Ok came) written keeps same =
    (same, Appends-kept before middle after answer.text.items written keeps)
flushed answer before middle after (Err error) written keeps same = λ failed.
    let text = answer.text.items in (
      length text,
      subst (λ (t : List ℕ). Appends before after t) (sym (take_all (length text) text (omega arith)))
          (Appends-kept before middle after text written keeps),
    )

-- without a stop all of it was written
pub output_whole : (answer : Answer) (before after : Option (List ℕ)) (r : Result Outcome CommandError)
    → IsWritten answer before after r
    → IfOk r (λ outcome. (outcome ≡ answer.outcome) × Appends before after answer.text.items)
output_whole answer before after (Ok outcome) output = output
output_whole answer before after (Err error) output = tt
