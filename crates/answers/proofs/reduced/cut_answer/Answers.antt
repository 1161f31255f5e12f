use Rattle.std.proofs.Common.{◌++◌, ◌∙◌, ℕ, List, ap, arith, option_map, subst}
use Rattle.std.proofs.lemmas.Grind.{common_steps}
use Rattle.program.specs.Parts.{Parts}
use Rattle.recording.specs.declared.size.RecordingSize.TheVariants.{Short}
use Rattle.answers.specs.Reduced.{heading, shown_text}
use Rattle.verdicts.specs.VerdictAnswer.{IsVerdictAnswer}
use Rattle.answers.proofs.reduced.cut_answer.Goals as goal

pub returns-in_ok-answer-in-Some-clause-some : goal.returns-in_ok-answer-in-Some-clause-some
returns-in_ok-answer-in-Some-clause-some c =
    let y = c.in-Some.reduced.recording in
    let ks : List ℕ = c.in-Some.reduced.events.items in
    let reduction = rw c.in-Some.is at c.in_ok-reduced.ensures.reduction in
    let shown = subst (λ (t : List ℕ). IsVerdictAnswer y t c.in_ok-answer-in-Some.answer)
    (ap (λ (t : List ℕ). t ++ shown_text c.in_ok-left-in-Some.left y)
    (c.in_ok-text-in-Some.ensures ∙ ap (heading (option_map (λ l. l.now) c.args.headed)) c.deref.ensures.value)
    ∙ ap (λ (p : Parts). heading (option_map (λ l. l.now) c.args.headed) ks ++ shown_text p y) c.in_ok-left-in-Some.ensures)
    c.in_ok-answer-in-Some.ensures in record {
      verdict = c.args.verdict.now;
      found = c.requires.found;
      events = ks;
      rest = y;
      reduction = reduction;
      outcome = grind (arith, common_steps, reduction, shown);
      shown = shown;
    }

pub program_left-requires-clause-short : goal.program_left-requires-clause-short
program_left-requires-clause-short c = (rw c.in-Some.is at c.in_ok-reduced.ensures.size) Short c.requires.short

pub append_verdict-requires : goal.append_verdict-requires
append_verdict-requires c =
    ((rw c.in-Some.is at c.in_ok-reduced.ensures.size) Short c.requires.short).within.few_events
