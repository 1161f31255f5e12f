use Rattle.std.proofs.Common.{lt-ltb}
use Rattle.explanation.specs.Order.{source_words}
use Rattle.texts.specs.TextLaws.{two_last}
use Rattle.explanation.proofs.named.Named.put_read_line.Goals as goal

pub returns-then-place : goal.returns-then-place
unfolding source_words
returns-then-place c =
    rw (
      c.in-Some.is,
      ← c.address-address.ensures,
      ← c.place.ensures,
      ← c.place-2.ensures,
      lt-ltb _ _ c.if-place.true,
    ) (two_last _ _ _ _ _ _ c.in_ok-put_indent.ensures c.write-then-place.ensures)
