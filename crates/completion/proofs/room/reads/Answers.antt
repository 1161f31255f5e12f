use Rattle.std.proofs.Common.{◌≡◌, ◌∙◌, false, true, Some, None, arith, refl, sym, ap}
use Rattle.recording.specs.Event.{read_address}
use Rattle.recording.specs.EventLaws.{Reads-event}
use Rattle.values.specs.Refused.{events_alone}
use Rattle.completion.proofs.Alone.{table_size}
use Rattle.completion.proofs.room.reads.Goals as goal

pub returns-then-e-table : goal.returns-then-e-table
returns-then-e-table c = (
  λ test. absurd (let clash : false ≡ true = test in cc),
  λ r. absurd (omega (
    arith,
    Reads-event (events_alone c.args.values.now) c.args.e r.0 r.1,
    table_size c.args.values.now c.args.table.now c.requires.table,
    c.if-e-table.true,
  )),
)

pub returns-in-Some : goal.returns-in-Some
returns-in-Some c = (
  λ test. (c.in-Some._address, ap read_address (sym c.event_at.ensures) ∙ (sym c.read_address.ensures ∙ c.in-Some.is)),
  λ r. refl,
)

pub returns-in-None : goal.returns-in-None
returns-in-None c = (
  λ test. absurd (let clash : false ≡ true = test in cc),
  λ r. absurd (let clash : None ≡ Some r.0 =
      sym c.in-None.is ∙ (c.read_address.ensures ∙ (ap read_address c.event_at.ensures ∙ r.1)) in cc),
)
