use Rattle.std.proofs.Common.{ne_eqb}
use Rattle.event_texts.specs.Events.{indent}
use Rattle.explanation.specs.Order.{write_words}
use Rattle.texts.specs.TextLaws.{two_last}
use Rattle.explanation.proofs.named.Named.put_write_line.Goals as goal

pub returns : goal.returns
unfolding write_words
returns c =
    rw (
      ← c.address-name.ensures,
      ← c.requires,
      ← c.place_in_list-at.ensures,
      ← c.write_at-earlier.ensures,
      ne_eqb _ _ c.if-at-eq0.false,
    ) (two_last _ _ c.put_indent.new.out.items _ (indent c.args.places.now) _ (rw c.requires c.in_ok-put_indent.ensures)
    c.write-2.ensures)
