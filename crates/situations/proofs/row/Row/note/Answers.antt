use Rattle.situations.proofs.RowWords.{note_set}
use Rattle.situations.proofs.row.Row.note.Goals as goal

pub returns-then-index-len : goal.returns-then-index-len
returns-then-index-len c = rw (← c.self.view_is)
    (note_set c.self.inside.cores c.self.inside.addresses c.self.inside.words.items c.args.index c.args.note)
