use Rattle.std.proofs.Common.{◌∙◌, append_assoc, arith, refl, subst, sym}
use Rattle.recorder.specs.Usual.{BeginsKind}
use Rattle.recorder.proofs.UsualEvents.{brace_ends, kind_L, kind_S}
use Rattle.recorder.proofs.plain.usual.take_rest.Goals as goal

pub returns-then-take : goal.returns-then-take
returns-then-take g c t closes =
    let read = c.in_ok-r.ensures in
    let kind = kind_L c.args.rest.now c.take_part.new.rest c.take.new.self (c.if-not-take_part.ensures refl)
    (c.if-take.ensures.found refl) read.2 in
    let brace = brace_ends c.take_read.new.rest t closes in
    record {
      fits = (omega (arith, c.ranges.a.fits), read.0, read.1);
      word = kind.0;
      tokens = rw (kind.1, read.3 brace.0, brace.1) (simp append_assoc);
    }

pub returns-then-take-2 : goal.returns-then-take-2
returns-then-take-2 g c t closes =
    let write = c.in_ok-w.ensures in
    let kind = kind_S c.args.rest.now c.take_part.new.rest c.take-2.new.self
    (c.if-not-take_part.ensures refl) (sym (c.if-take.ensures.kept refl) ∙ c.if-take-2.ensures.found refl)
    write.1 in
    let brace = brace_ends c.take_write.new.rest t closes in
    record {
      fits = (omega (arith, c.ranges.a.fits), write.0);
      word = kind.0;
      tokens = rw (kind.1, write.2 brace.0, brace.1) refl;
    }

pub returns : goal.returns
returns g c t closes =
    let left = sym (c.if-take.ensures.kept refl) ∙ sym (c.if-take-2.ensures.kept refl) ∙ sym c.rest.ensures
    ∙ sym c.new-own.ensures in
    c.in_ok-event.ensures c.args.rest.now t
    (subst (BeginsKind c.args.rest.now) left (c.if-not-take_part.ensures refl))
    (sym (c.new.ensures ∙ c.rest-2.ensures) ∙ closes)
