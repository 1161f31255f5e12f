use Rattle.std.proofs.Common.{◌≡◌, ◌++◌, ℕ, List, get_or, subst, take_all}
use Rattle.std.specs.List.{flat_map}
use Rattle.std.proofs.lemmas.List.{take_more}
use Rattle.explanation.specs.Order.{placed_lines}
use Rattle.texts.specs.TextLaws.{next_item, two}
use Rattle.explanation.proofs.named.Named.put_order.Goals as goal

pub loop-number-preserved : goal.loop-number-preserved
loop-number-preserved c =
    next_item (placed_lines c.args.self.now.recording.now c.args.self.now.names.now c.args.order.now)
    c.args.order.now c.loop-number.number-index _ _ _ _
    (take_more c.args.order.now c.loop-number.number-index _ c.loop-number-test.true) c.loop-number.invariant
    (subst (λ (m : List ℕ). c.put_placed.new.out.items ≡ c.loop-number.out.items
    ++ placed_lines c.args.self.now.recording.now c.args.self.now.names.now m
    (get_or c.args.order.now c.loop-number.number-index 0)) c.in_ok-placed.ensures c.in_ok-put_placed.ensures)

pub returns : goal.returns
returns c = two _ _ _ _ _ c.in_ok-put_text.ensures
    (subst (λ (m : List ℕ). c.loop-number.out.items ≡ c.put_text.new.out.items
    ++ flat_map (placed_lines c.args.self.now.recording.now c.args.self.now.names.now c.args.order.now) m)
    (take_all c.loop-number.number-index c.args.order.now c.loop-number-test.false) c.loop-number.invariant)
