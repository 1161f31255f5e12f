use Rattle.std.proofs.Common.{subst, sym}
use Rattle.std.specs.Prelude.{◌↔◌, IfOk, IsTrue}
use Rattle.verdicts.specs.declared.verdict.Verdict.{Verdict}
use Rattle.verdicts.specs.Verified.{Verifies}
use Rattle.verdict_check.proofs.holding.verify_by.Goals as goal

pub returns-in-Cycle : goal.returns-in-Cycle
returns-in-Cycle g c =
    subst (λ (v : Verdict). IfOk c.is_certified_par.result (λ is. IsTrue is ↔ Verifies c.args.recording.now v))
    (sym c.in-Cycle.is) c.is_certified_par.ensures
