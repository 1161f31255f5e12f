use Rattle.texts.specs.TextLaws.{four_last}
use Rattle.headers.proofs.header.put_machine.Goals as goal

pub returns : goal.returns
returns c = four_last _ _ _ _ _ _ _ _ _ _ c.in_ok-put_fault.ensures c.in_ok-put_option.ensures
    c.in_ok-put_option-2.ensures c.put_text.ensures
