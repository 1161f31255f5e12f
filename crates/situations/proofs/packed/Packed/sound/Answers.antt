use Rattle.std.proofs.Common.{◌≡◌, length, map, subst}
use Rattle.std.specs.List.{All}
use Rattle.situations.specs.Packed.{PackedLists, numbers_in}
use Rattle.situations.proofs.PackedLists.{each_width}
use Rattle.situations.proofs.packed.Packed.sound.Goals as goal

pub returns : goal.returns
returns c =
    subst (λ (p : PackedLists). All (λ l. length l ≡ p.width) p.lists) c.self.view_is
    (each_width c.self.inside.width c.self.inside.count (map numbers_in c.self.inside.blocks.items)
    c.self.inside.last.items c.self.invariant)
