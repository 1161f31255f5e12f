use Rattle.std.proofs.Common.{◌∙◌, append_assoc, arith, refl, sym}
use Rattle.recorder.proofs.UsualEvents.{brace_ends, comma_ends, kind_C, kind_R}
use Rattle.recorder.proofs.plain.usual.take_atomic.Goals as goal

pub returns-then-take : goal.returns-then-take
returns-then-take g c text t begins closes =
    let read = c.in_ok-r.ensures in
    let write = c.in_ok-w.ensures in
    let kind = kind_R text c.args.rest.now c.take.new.self begins (c.if-take.ensures.found refl) read.2 in
    let brace = brace_ends c.take_write.new.rest t closes in
    record {
      fits = (omega (arith, c.ranges.a.fits), read.0, read.1, write.0);
      word = kind.0;
      tokens = rw (kind.1, read.3 (comma_ends c.take_read.new.rest write.1), write.2 brace.0, brace.1)
          (simp append_assoc);
    }

pub returns-then-take-2 : goal.returns-then-take-2
returns-then-take-2 g c text t begins closes =
    let read = c.in_ok-r-2.ensures in
    let kind = kind_C text c.args.rest.now c.take-2.new.self begins
    (sym (c.if-take.ensures.kept refl) ∙ c.if-take-2.ensures.found refl) read.2 in
    let brace = brace_ends c.take_read-then-take-2.new.rest t closes in
    record {
      fits = (omega (arith, c.ranges.a.fits), read.0, read.1);
      word = kind.0;
      tokens = rw (kind.1, read.3 brace.0, brace.1) (simp append_assoc);
    }
