use Rattle.explanation.specs.Overlook.{overlook_text}
use Rattle.texts.specs.TextLaws.{two_last, five_last}
use Rattle.explanation.proofs.named.Named.put_overlook.Goals as goal

pub returns : goal.returns
unfolding overlook_text
returns c = rw (
  ← c.written_address-address.ensures,
  ← c.source.ensures,
  ← c.event_of-read.ensures.event,
  ← c.event_of-written.ensures.event,
) (five_last _ _ _ _ _ _ _ _ _ _ _ _ c.in_ok-write.ensures c.in_ok-put_line.ensures
    c.in_ok-put_store_line.ensures c.in_ok-put_line-2.ensures
    (two_last _ _ _ _ _ _ c.in_ok-put_instead.ensures c.put_overlook_line.ensures))
