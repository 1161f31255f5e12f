use Rattle.std.proofs.Common.{◌∙◌, arith, refl}
use Rattle.ledger.proofs.HeaderTexts.{campaign_then}
use Rattle.ledger.proofs.header.setup.Goals as goal

pub returns : goal.returns
returns c s more within is =
    let cores = c.option-cores.ensures s.cores 32 _ (omega (arith, within.shape.cores.1)) refl
    (is ∙ campaign_then s more) in
    let ops = c.option-ops.ensures s.ops 32 _ (omega (arith, within.shape.ops.1)) refl cores.1 in
    let addresses = c.option-addresses.ensures s.addresses 32 _ (omega (arith, within.shape.addresses.1)) refl ops.1 in
    let fault = c.fault-fault.ensures s.fault _ (c.take.ensures.only _ addresses.1).1 in
    let buffer = c.option-buffer.ensures s.buffer 32 _ (omega (arith, within.buffer.1)) refl fault.1 in
    let attempts = c.option-attempts.ensures s.attempts 32 _ (omega (arith, within.attempts.1)) refl buffer.1 in (
      rw (cores.0, ops.0, addresses.0, fault.0, buffer.0, attempts.0) refl,
      (c.take-2.ensures.only more attempts.1).1,
    )
