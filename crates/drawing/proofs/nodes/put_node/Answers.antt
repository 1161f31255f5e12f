use Rattle.std.proofs.Common.{◌≡◌, ◌++◌, ℕ, List, subst}
use Rattle.texts.specs.TextLaws.{four_last}
use Rattle.drawing.specs.Nodes.{node_label}
use Rattle.drawing.proofs.nodes.put_node.Goals as goal

pub returns : goal.returns
returns c = four_last _ _ _ _ _ _ _ _ _ _ c.in_ok-write.ensures c.in_ok-put_event.ensures
    (subst (λ (l : List ℕ). c.put_node_label.new.out.items ≡ c.put_event.new.out.items ++ node_label l)
    c.label.ensures c.in_ok-put_node_label.ensures) c.put_text.ensures
