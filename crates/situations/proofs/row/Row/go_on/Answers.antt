use Rattle.situations.proofs.RowWords.{place_set}
use Rattle.situations.proofs.row.Row.go_on.Goals as goal

pub returns-then-core-self : goal.returns-then-core-self
returns-then-core-self c = rw (← c.self.view_is)
    (place_set c.self.inside.cores c.self.inside.addresses c.self.inside.words.items c.args.core c.args.place c.if-core-self.true)
