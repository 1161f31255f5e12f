use Rattle.std.proofs.Common.{◌∙◌, ap, sym}
use Rattle.completion.specs.declared.moves.Move.{Move}
use Rattle.completion.specs.Situation.{moved}
use Rattle.completion.proofs.trail.turn.Goals as goal

pub returns-in_ok-drain-in-Drain : goal.returns-in_ok-drain-in-Drain
returns-in_ok-drain-in-Drain c s is = c.in_ok-drain-in-Drain.ensures s
    (sym (ap (λ (m : Move). moved c.args.values.now c.args.row.now m c.args.turn.core) c.in-Drain.is) ∙ is)

pub returns-in_ok-modify-in-Modify : goal.returns-in_ok-modify-in-Modify
returns-in_ok-modify-in-Modify c s is = c.in_ok-modify-in-Modify.ensures s
    (sym (ap (λ (m : Move). moved c.args.values.now c.args.row.now m c.args.turn.core) c.in-Modify.is) ∙ is)
