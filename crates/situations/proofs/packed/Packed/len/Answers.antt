use Rattle.std.proofs.Common.{◌∷◌, ◌++◌, [], ◌∙◌, ap, length, map, sym}
use Rattle.std.proofs.lemmas.List.FromFn.{length-map-range_with_len}
use Rattle.situations.specs.Packed.{PackedLists, list_at, numbers_in}
use Rattle.situations.proofs.packed.Packed.len.Goals as goal

pub returns : goal.returns
returns c =
    sym (length-map-range_with_len (list_at c.self.inside.width
    (map numbers_in c.self.inside.blocks.items ++ c.self.inside.last.items ∷ [])) 0 c.self.inside.count)
    ∙ ap (λ (p : PackedLists). length p.lists) c.self.view_is
