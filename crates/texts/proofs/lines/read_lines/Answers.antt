use Rattle.std.proofs.Common.{◌∙◌, ap, sym, slice_range}
use Rattle.texts.specs.ReadingLaws.{byte_read, line_read}
use Rattle.texts.proofs.lines.read_lines.Goals as goal
use Rattle.texts.proofs.lines.read_lines.Goals.{then-b-eq10+in_ok-take_line, else-b-eq10}

pub loop-i-preserved : goal.loop-i-preserved
loop-i-preserved g c =
    let lines = g.L.ReadLines in
    let step = lines.step (lines.subject c.args.lines.now) in
    let text = c.args.text.now in
    let at = c.loop-i in
    elim c.if-b-eq10.branch [
      | then-b-eq10+in_ok-take_line w ↦ rw (w.number-is, w.start-is, w.lines-is) record {
        subject = w.take_line.ensures.subject ∙ at.invariant.subject;
        reads = line_read step c.args.unended text _ at.number (lines.state at.lines) _ at.start at.i at.invariant.reads
            c.loop-i-test.true w.if-b-eq10.true
            (ap (λ s. lines.step s (lines.state at.lines) (slice_range text at.start at.i))
            (sym at.invariant.subject) ∙ w.in_ok-take_line.ensures.line);
      }
      | else-b-eq10 w ↦ rw (w.number-is, w.start-is, w.lines-is) record {
        subject = at.invariant.subject;
        reads = byte_read step c.args.unended text _ at.number (lines.state at.lines) at.start at.i at.invariant.reads
            c.loop-i-test.true w.if-b-eq10.false;
      }
    ]
