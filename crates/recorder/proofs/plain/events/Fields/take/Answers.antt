use Rattle.std.proofs.Common.{◌∙◌}
use Rattle.recorder.proofs.Somes.{if_some, some_is}
use Rattle.recorder.proofs.EventFields.{address_added, kind_added, value_read_added, source_added}
use Rattle.recorder.proofs.EventFields.{value_written_added}
use Rattle.recorder.proofs.plain.events.Fields.take.Goals as goal

pub returns-in-97 : goal.returns-in-97
returns-in-97 c = if_some c.once.result c.once.ensures (λ u h depth.
    let read = some_is _ c.take_number.result h.1 c.take_number.ensures in
    rw c.in-97.is (address_added c.args.self.now c.once.new.place (read.2 depth) h.0 (h.2 ∙ read.1)))

pub returns-in-107 : goal.returns-in-107
returns-in-107 c = if_some c.once-in-107.result c.once-in-107.ensures (λ u h depth.
    let read = some_is _ c.take_kind.result h.1 c.take_kind.ensures in
    rw c.in-107.is (kind_added c.args.self.now c.once-in-107.new.place (read.2 depth) h.0 (h.2 ∙ read.1)))

pub returns-in-114 : goal.returns-in-114
returns-in-114 c = if_some c.once-in-114.result c.once-in-114.ensures (λ u h depth.
    let read = some_is _ c.take_value.result h.1 c.take_value.ensures in
    rw c.in-114.is (value_read_added c.args.self.now c.once-in-114.new.place (read.2 depth) h.0 (h.2 ∙ read.1)))

pub returns-in-115 : goal.returns-in-115
returns-in-115 c = if_some c.once-in-115.result c.once-in-115.ensures (λ u h depth.
    let read = some_is _ c.take_source.result h.1 c.take_source.ensures in
    rw c.in-115.is (source_added c.args.self.now c.once-in-115.new.place (read.2 depth) h.0 (h.2 ∙ read.1)))

pub returns-in-119 : goal.returns-in-119
returns-in-119 c = if_some c.once-in-119.result c.once-in-119.ensures (λ u h depth.
    let read = some_is _ c.take_value-in-119.result h.1 c.take_value-in-119.ensures in
    rw c.in-119.is (value_written_added c.args.self.now c.once-in-119.new.place (read.2 depth) h.0 (h.2 ∙ read.1)))
