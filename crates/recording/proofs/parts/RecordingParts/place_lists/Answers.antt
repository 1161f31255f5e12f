use Rattle.std.proofs.Common.{arith, ap, ◌∙◌, refl}
use borrow.Author.Count.{below_more}
use Rattle.recording.specs.Listed.{is_placed, ListsWritesOnce}
use Rattle.recording.proofs.WriteLists.{writes_one, placed_kept, placed_more}
use Rattle.recording.proofs.parts.RecordingParts.place_lists.Goals as goal

pub loop-address-preserved : goal.loop-address-preserved
loop-address-preserved c =
    let x = c.args.self.now in
    let was = c.loop-address.invariant in
    let now = c.if-not-lists_writes_once.ensures in
    let n = c.loop-address.address in record {
      slots = now.slots;
      once = below_more (ListsWritesOnce x) n was.once (now.once.0 refl);
      placed = placed_more x n c.loop-address.slots c.lists_writes_once.new.slots was.placed
          (now.marked refl) (now.placed refl) now.others;
      unmarked = λ e a writes above.
          ap is_placed (now.others e (writes_one x e a n writes (omega arith)))
          ∙ was.unmarked e a writes (omega arith);
    }

pub returns-then-not-lists_writes_once-clause-placed : goal.returns-then-not-lists_writes_once-clause-placed
returns-then-not-lists_writes_once-clause-placed c =
    placed_kept c.args.self.now c.loop-address.address c.loop-address.slots c.lists_writes_once.new.slots
    c.loop-address.invariant.placed c.if-not-lists_writes_once.ensures.others
