use Rattle.std.proofs.Common.{[], ◌≡◌}
use Rattle.texts.specs.Reading.{read_from}
use Rattle.texts.specs.ReadingLaws.{ReadsOn}
use Rattle.texts.proofs.lines.read_lines.Given as goal

abbrev pub invariant-loop-i : goal.invariant-loop-i
invariant-loop-i g l =
    let step = g.L.ReadLines.step (g.L.ReadLines.subject l.initial.lines) in
    record {
      subject : g.L.ReadLines.subject l.lines ≡ g.L.ReadLines.subject l.initial.lines;
      reads : ReadsOn step l.unended l.text (read_from step l.unended 1 (g.L.ReadLines.state l.initial.lines) [] l.text) l.number
          (g.L.ReadLines.state l.lines) l.start l.i;
    }
