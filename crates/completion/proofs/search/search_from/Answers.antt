use Rattle.std.proofs.Common.{ap, sym, subst}
use Rattle.std.specs.List.{list_any}
use Rattle.situations.specs.Row.{same_situation}
use Rattle.completion.specs.Reachable.{Leads, here}
use Rattle.completion.specs.Situation.{beginning}
use Rattle.completion.proofs.Shapes.{led_fits}
use Rattle.completion.proofs.Vain.{added_searched}
use Rattle.completion.proofs.search.search_from.Goals as goal

pub add-requires-clause-fits : goal.add-requires-clause-fits
add-requires-clause-fits c =
    let v = c.args.values.now in
    led_fits v c.requires.room c.args.way.seen c.args.first.now c.requires.searched
    (subst (Leads v (beginning v)) (sym c.requires.first) here)

pub add-requires-clause-new : goal.add-requires-clause-new
add-requires-clause-new c = ap (list_any (same_situation c.args.first.now)) c.requires.none

pub try_all-requires-clause-searched : goal.try_all-requires-clause-searched
try_all-requires-clause-searched c =
    let v = c.args.values.now in
    added_searched v c.args.way.seen c.args.first.now c.requires.searched
    (subst (Leads v (beginning v)) (sym c.requires.first) here)
    (ap (list_any (same_situation c.args.first.now)) c.requires.none) c.add.new.self c.requires.before_end
    c.in_ok-_first.ensures.rows c.in_ok-_first.ensures.dead
