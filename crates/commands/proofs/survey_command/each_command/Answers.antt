use Rattle.std.proofs.Common.{◌++◌, ◌∙◌, ℕ, List, subst}
use Rattle.std.proofs.KnownBytes.{Appends-trans}
use Rattle.std.proofs.lemmas.Result.{IfOk-weaker}
use Rattle.std.specs.Io.KnownBytes.{Appends}
use Rattle.surveys.specs.Each.{each_text}
use Rattle.commands.proofs.Given.{output_whole}
use Rattle.commands.proofs.survey_command.each_command.Goals as goal

-- lines were written and then the counts
pub returns-clause-whole : goal.returns-clause-whole
returns-clause-whole g c =
    let (findings, surveyed, told) = c.in_ok-ledger.ensures.ok in
    let counts = c.in_ok-counts.ensures in IfOk-weaker c.write_output.result _ _ (λ outcome (out, written). record {
      tells = c.requires.told;
      findings = findings;
      ledger = c.in_ok-ledger.ledger;
      surveyed = surveyed;
      outcome_is = out ∙ counts.outcome;
      written = subst (λ (text : List ℕ). Appends (g.W.Sink.written c.args.out.now) (g.W.Sink.written c.write_output.new.out)
          (each_text 0 findings ++ text)) counts.text
          (Appends-trans _ _ _ (each_text 0 findings) c.in_ok-counts.counts.text.items told written);
    }) (output_whole c.in_ok-counts.counts _ _ c.write_output.result c.write_output.ensures.written)
