use Rattle.std.proofs.Common.{◌≡◌, ◌++◌, map}
use Rattle.event_texts.specs.Labels.{lines_in}
use Rattle.event_texts.proofs.labels.copied_lines.Given as goal

-- the lines copied, and those that are left
abbrev pub invariant-loop-line : goal.invariant-loop-line
invariant-loop-line l = map (λ line. line.items) l.lines.items ++ l.line-iterator ≡ lines_in l.fn.text
