use Rattle.texts.proofs.NumberTexts.{text_put}
use Rattle.texts.proofs.rows.write_text.Goals as goal

pub returns-clause-text : goal.returns-clause-text
returns-clause-text c = text_put c.args.places.now c.args.text.bytes c.args.at c.args.text.size c.requires.four
    c.requires.within c.requires.room
