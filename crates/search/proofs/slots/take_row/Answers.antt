use Rattle.std.proofs.Common.{◌<◌, ◌∙◌, Option, IfSome, length, arith, sym, subst}
use Rattle.search.specs.SourceRow.{SourceRow}
use Rattle.search.specs.Slots.{IsRowFrom}
use Rattle.search.proofs.Collected.{slot_set}
use Rattle.search.proofs.slots.take_row.Goals as goal

pub returns-then-source-len : goal.returns-then-source-len
returns-then-source-len c = λ t lengths slots.
    let items = c.args.slots.now.items in
    let from = IsRowFrom t lengths c.args.source in
    let at : c.args.source < length items = omega (arith, c.if-source-len.true, c.len.ensures) in (
      subst (λ (o : Option SourceRow). IfSome o from) (sym (c.take.ensures.value ∙ c.index_mut.ensures.value))
          (slots c.args.source c.index_mut.result.now at),
      slot_set t lengths items c.args.source c.take.new.self slots
          (subst (λ (o : Option SourceRow). IfSome o from) (sym c.take.ensures.after) tt),
    )
