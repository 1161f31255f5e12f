use Rattle.std.proofs.Common.{arith, sym, ◌∙◌, ◌<◌, length}
use Rattle.circular_buffer.proofs.Places.{slice_get-some}
use Rattle.write_buffer.proofs.Youngest.{youngest_step}
use Rattle.write_buffer.proofs.buffer.youngest_in.Goals as goal
use Rattle.write_buffer.proofs.buffer.youngest_in.Goals.{in-Some, in_default}

pub loop-i-preserved : goal.loop-i-preserved
loop-i-preserved c =
    let items = c.args.ring.now.items in
    elim c.match-get.branch [
      | in-Some w ↦ rw (w.found-is, w.or_before-found.ensures)
          (sym (youngest_step c.loop-i.found c.args.addr items c.loop-i.i w.in-Some.entry.now
          (sym w.in-Some.ensures)) ∙ c.loop-i.invariant)
      | in_default w ↦
          let within : c.loop-i.i < length items =
          omega (arith, c.len-i-end.ensures.len, c.loop-i-test.true) in
          let some = slice_get-some items c.loop-i.i within in
          grind (arith, some.1, w.in_default.ensures, c.get.ensures)
    ]
