use Rattle.std.proofs.Common.{◌≡◌, ◌∙◌, sym, subst}
use Rattle.std.proofs.lemmas.Option.{same_Some}
use Rattle.completion.specs.Situation.{beginning, memory_of}
use Rattle.completion.specs.Performed.{IsTrail}
use Rattle.situations.specs.Situation.{Situation, drained_of, place_of}
use Rattle.completion.proofs.Rank.{beginning_fit, led_fit}
use Rattle.completion.proofs.trail.take_turn.Goals as goal

pub after-requires-clause-cores : goal.after-requires-clause-cores
after-requires-clause-cores c =
    let v = c.args.values.now in
    (led_fit v (beginning v) c.args.row (beginning_fit v) c.requires.led).places

pub execute_all-requires-clause-settles : goal.execute_all-requires-clause-settles
execute_all-requires-clause-settles c =
    (c.in_ok-turn.ensures c.in-Some.after (sym c.in_ok-after.ensures ∙ c.in-Some.is)).0

pub execute_all-requires-clause-trail : goal.execute_all-requires-clause-trail
execute_all-requires-clause-trail c =
    (c.in_ok-turn.ensures c.in-Some.after (sym c.in_ok-after.ensures ∙ c.in-Some.is)).1

pub returns : goal.returns
returns c s is =
    let same : c.in-Some.after ≡ s =
    same_Some c.in-Some.after s (sym c.in-Some.is ∙ (c.in_ok-after.ensures ∙ is)) in (
      same,
      subst (λ (z : Situation). IsTrail c.args.values.now c.execute_all.new.trail.order.items
          c.execute_all.new.trail.sources.items (place_of z) (drained_of z) (memory_of z)) same c.in_ok-execute_all.ensures,
    )
