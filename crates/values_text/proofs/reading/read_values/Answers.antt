use Rattle.values_text.proofs.reading.read_values.Goals as goal

pub returns : goal.returns
returns c = c.values_of.ensures c.args.bytes.now c.in_ok-contents.ensures.found
