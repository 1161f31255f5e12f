use Rattle.std.proofs.Common.{ℕ, List, ap, take}
use Rattle.surveys.proofs.Shown.{sought_first}
use Rattle.surveys.proofs.showing.line_in_whole.Goals as goal

pub returns : goal.returns
returns c =
    let end = c.last_end-end.result in
    sought_first c.args.block.now.items c.deref.result.now c.keep_rest.new.block.items
    (take end c.deref-2.result.now) end c.args.number c.in_ok-sought.sought c.deref.ensures.value
    c.keep_rest.ensures (ap (λ (bytes : List ℕ). take end bytes) c.deref-2.ensures.value)
    c.last_end-end.ensures.within c.last_end-end.ensures.whole c.in_ok-sought.ensures
