use Rattle.completion.proofs.Caused.{circle_refutes}
use Rattle.completion.proofs.law.no_circle_is_allowed.Goals as goal

pub returns : goal.returns
returns c v links = circle_refutes v links
