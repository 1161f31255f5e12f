use Rattle.std.proofs.Common.{◌∙◌, arith, refl}
use Rattle.std.proofs.KnownBytes.{Consumes-nil, Consumes-trans}
use Rattle.devices.proofs.whole.read_all.Goals as goal

pub chunks-init : goal.chunks-init
chunks-init g c = (
  rw c.new-bytes.ensures.items (Consumes-nil (g.R.Source.left c.args.source.now)),
  refl,
  omega (arith, c.in_ok-chunk.ensures.len),
)

pub chunks-preserved : goal.chunks-preserved
chunks-preserved g c =
    let read = c.in_ok-read_more.ensures.gathered in (
      rw read.2 (Consumes-trans _ _ _ _ _ c.chunks.invariant.0 read.1),
      c.in_ok-read_more.ensures.failed ∙ c.chunks.invariant.1,
      c.chunks.invariant.2,
    )

pub returns-clause-ok : goal.returns-clause-ok
returns-clause-ok g c =
    let read = c.in_ok-read_more.ensures.gathered in
    rw read.2 (Consumes-trans _ _ _ _ _ c.chunks.invariant.0 read.1)
