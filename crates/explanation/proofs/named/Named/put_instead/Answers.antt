use Rattle.texts.specs.TextLaws.{two, two_last}
use Rattle.explanation.proofs.named.Named.put_instead.Goals as goal

pub returns-in_default : goal.returns-in_default
returns-in_default c = rw (c.in_default.is, ← c.written_name-address.ensures)
    (two_last _ _ _ _ _ _ c.in_ok-put_indent.ensures c.write.ensures)

pub returns : goal.returns
returns c = rw (c.in-Some.is, ← c.written_name-address.ensures)
    (two_last _ _ _ _ _ _ (two _ _ _ _ _ c.in_ok-put_indent.ensures c.in_ok-write.ensures) c.put_line.ensures)
