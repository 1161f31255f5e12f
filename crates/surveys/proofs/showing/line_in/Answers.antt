use Rattle.std.proofs.Common.{◌-◌, arith, length, sym}
use Rattle.std.proofs.lemmas.Bool.{eqb-false}
use Rattle.surveys.proofs.Shown.{later_one}
use Rattle.surveys.proofs.showing.line_in.Goals as goal

pub lines-preserved-else-left-eq0 : goal.lines-preserved-else-left-eq0
lines-preserved-else-left-eq0 c =
    later_one c.args.bytes.now c.lines.rest.now c.split_line.result.0.now c.split_line.result.1.now c.args.number
    c.lines.left (c.lines.left - 1) c.lines.invariant c.split_line.ensures
    (omega (arith, eqb-false (length c.split_line.result.0.now) 0 (sym c.if-not-is_empty.ensures)))
    (omega (arith, c.if-left-eq0.false))
