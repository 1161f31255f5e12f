use Rattle.std.proofs.Common.{refl, arith, ◌<◌, ℕ, length, subst, sym}
use Rattle.recording.specs.Order.{place}
use Rattle.recording.specs.Execution.{Reads, source_of}
use Rattle.recording.specs.Tso.{IsLastVisible}
use Rattle.recording.specs.EventLaws.{Reads-event}
use Rattle.recording.specs.PlaceLaws.{at_place}
use Rattle.order.proofs.Enumerated.{in_place}
use Rattle.order.proofs.values.gives_values.Goals as goal

pub returns : goal.returns
returns c = (
  λ _ e a reads.
      let within : place c.args.order.now e < length c.args.order.now =
      in_place c.args.recording.now c.args.order.now c.requires e
      (Reads-event c.args.recording.now e a reads) in
      let is = at_place c.args.order.now e within in
      subst (λ (v : ℕ). IsLastVisible c.args.recording.now c.args.order.now v a
      (source_of c.args.recording.now v)) is
      (c.loop-at.invariant (place c.args.order.now e) a (omega arith)
      (subst (λ (v : ℕ). Reads c.args.recording.now v a) (sym is) reads)),
  λ _. refl,
)
