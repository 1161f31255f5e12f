use Rattle.std.proofs.Common.{ℕ, Option, subst, sym}
use Rattle.headers.specs.declared.header.Header.{Header}
use Rattle.commands.specs.Headed.{IsHeaded}
use Rattle.commands.specs.Run.{IsTrials}
use Rattle.commands.proofs.trials_command.trials_command.Goals as goal

pub returns-in_ok-with_header-in-None-clause-ok : goal.returns-in_ok-with_header-in-None-clause-ok
returns-in_ok-with_header-in-None-clause-ok g c =
    let counts = c.in_ok-counts-in-None.counts in
    let answer = c.in_ok-with_header-in-None.field-0 in
    let headed = subst (λ (header : Option Header). IsHeaded header counts answer) c.campaign_header.ensures
    c.in_ok-with_header-in-None.ensures in
    subst (λ (show : Option ℕ). IsTrials c.args.options.now show answer) (sym c.in-None.is)
    (counts, c.in_ok-counts-in-None.ensures, headed)
