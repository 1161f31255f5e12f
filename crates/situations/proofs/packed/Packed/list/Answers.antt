use Rattle.std.proofs.Common.{◌≡◌, ◌<◌, ◌/◌, ◌%◌, ◌*◌, ◌∷◌, ◌++◌, ◌∙◌, [], ℕ, List, ap, arith, drop, get_or}
use Rattle.std.proofs.Common.{length, map, sym}
use Rattle.std.proofs.Common.{take}
use Rattle.std.proofs.lemmas.List.{length-map}
use Rattle.std.proofs.lemmas.List.FromFn.{length-map-range_with_len}
use Rattle.situations.specs.declared.block.Block.{Block}
use Rattle.situations.specs.Packed.{PackedLists, list_at, lists_in, numbers_in}
use Rattle.situations.proofs.PackedLists.{at_last, block_is, in_block, list_at_last, list_in_block}
use Rattle.situations.proofs.packed.Packed.list.Goals as goal

-- a number of a list is below their count
below : (w n i : ℕ) (blocks : List (List ℕ)) (last : List ℕ) (p : PackedLists)
    → (let q : PackedLists = record { width = w; lists = lists_in w n blocks last } in q ≡ p)
    → i < length p.lists → i < n
below w n i blocks last p is low = omega (
  arith,
  low,
  ap (λ (q : PackedLists). length q.lists) is,
  length-map-range_with_len (list_at w (blocks ++ last ∷ [])) 0 n,
)

pub part-requires : goal.part-requires
part-requires c =
    let blocks : List Block = c.self.inside.blocks.items in
    let there : c.args.number / 64 < length blocks = omega (arith, c.if-number-len.true, c.len.ensures) in
    let same = block_is blocks (c.args.number / 64) c.index.result.now there c.index.ensures in
    let room = in_block c.self.inside.width c.self.inside.count (map numbers_in blocks) c.self.inside.last.items
    c.self.invariant c.args.number (omega (arith, there, length-map blocks numbers_in)) in
    omega (arith, room, ap (λ (l : List ℕ). length l) same)

pub part-requires-else-number-len : goal.part-requires-else-number-len
part-requires-else-number-len c =
    let blocks : List Block = c.self.inside.blocks.items in
    let last : List ℕ = c.self.inside.last.items in
    let found = at_last c.self.inside.width c.self.inside.count (map numbers_in blocks) last c.self.invariant
    c.args.number
    (below c.self.inside.width c.self.inside.count c.args.number (map numbers_in blocks) last c.args.self.now
    c.self.view_is c.requires)
    (omega (arith, c.if-number-len.false, c.len.ensures, length-map blocks numbers_in)) in
    omega (arith, found.1, ap (λ (l : List ℕ). length l) c.deref.ensures.value)

pub returns-then-number-len : goal.returns-then-number-len
returns-then-number-len c =
    let w : ℕ = c.self.inside.width in
    let i : ℕ = c.args.number in
    let blocks : List Block = c.self.inside.blocks.items in
    let last : List ℕ = c.self.inside.last.items in
    let there : i / 64 < length blocks = omega (arith, c.if-number-len.true, c.len.ensures) in
    let same = block_is blocks (i / 64) c.index.result.now there c.index.ensures in
    let low = below w c.self.inside.count i (map numbers_in blocks) last c.args.self.now c.self.view_is c.requires in
    c.part.ensures
    ∙ (ap (λ (l : List ℕ). take w (drop (w * (i % 64)) l)) (sym same)
    ∙ (sym (list_in_block w c.self.inside.count (map numbers_in blocks) last c.self.invariant i low
    (omega (arith, there, length-map blocks numbers_in)))
    ∙ ap (λ (p : PackedLists). get_or p.lists i []) c.self.view_is))

pub returns-else-number-len : goal.returns-else-number-len
returns-else-number-len c =
    let w : ℕ = c.self.inside.width in
    let i : ℕ = c.args.number in
    let blocks : List Block = c.self.inside.blocks.items in
    let last : List ℕ = c.self.inside.last.items in
    let low = below w c.self.inside.count i (map numbers_in blocks) last c.args.self.now c.self.view_is c.requires in
    c.part-else-number-len.ensures
    ∙ (ap (λ (l : List ℕ). take w (drop (w * (i % 64)) l)) c.deref.ensures.value
    ∙ (sym (list_at_last w c.self.inside.count (map numbers_in blocks) last c.self.invariant i low
    (omega (arith, c.if-number-len.false, c.len.ensures, length-map blocks numbers_in)))
    ∙ ap (λ (p : PackedLists). get_or p.lists i []) c.self.view_is))
