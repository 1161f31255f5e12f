use Rattle.situations.proofs.RowWords.{value_set}
use Rattle.situations.proofs.row.Row.write.Goals as goal

pub returns-then-address-self : goal.returns-then-address-self
returns-then-address-self c = rw (← c.self.view_is)
    (value_set c.self.inside.cores c.self.inside.addresses c.self.inside.words.items c.args.address c.args.value
    c.if-address-self.true)
