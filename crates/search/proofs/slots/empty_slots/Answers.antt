use Rattle.std.proofs.Common.{◌∷◌, [], Option, List, None, get_or, IfSome, length}
use Rattle.std.proofs.Common.{length-append, arith, sym, ap, subst}
use Rattle.search.specs.SourceRow.{SourceRow}
use Rattle.search.specs.Slots.{IsRowFrom}
use Rattle.search.proofs.Collected.{none_more}
use Rattle.search.proofs.slots.empty_slots.Goals as goal

pub loop-preserved : goal.loop-preserved
loop-preserved c =
    let t = c.args.relation.now in
    let is = c.in_ok-push.ensures.items in (
      omega (
        arith,
        ap (λ (l : List (Option SourceRow)). length l) is,
        length-append c.loop.slots.items
            (None ∷ []),
        c.loop.invariant.0,
      ),
      (λ lengths v d below. subst (λ (l : List (Option SourceRow)). IfSome (get_or l v d) (IsRowFrom t lengths v))
          (sym is)
          (none_more t lengths c.loop.counter c.loop.slots.items c.loop.invariant.0 (c.loop.invariant.1 lengths)
          v d below)),
    )

pub returns : goal.returns
returns c = λ lengths v d at. c.loop.invariant.1 lengths v d (omega (arith, at, c.loop.invariant.0))
