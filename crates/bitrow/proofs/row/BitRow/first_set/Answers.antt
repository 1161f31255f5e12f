use Rattle.std.proofs.Common.{ℕ, List, subst}
use Rattle.bitrow.specs.Bits.{IsNextBit}
use Rattle.bitrow.proofs.Members.{row_next}
use Rattle.bitrow.proofs.row.BitRow.first_set.Goals as goal

pub returns : goal.returns
returns c = row_next c.self.inside.words.items c.self.inside.len c.args.self.now 0 c.next_word.result c.self.view_is
    c.self.invariant.clear
    (subst (λ (ws : List ℕ). IsNextBit ws 0 c.next_word.result) c.as_slice.ensures c.next_word.ensures)
