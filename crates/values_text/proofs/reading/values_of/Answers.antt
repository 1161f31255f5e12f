use Rattle.values_text.proofs.Answers.{refused_held, read_held}
use Rattle.values_text.proofs.reading.values_of.Goals as goal

pub returns-in-Some : goal.returns-in-Some
returns-in-Some c bytes held =
    refused_held bytes c.args.contents c.in_ok-values.values c.in-Some.refusal held c.if-contents-ne3.false c.in_ok-values.ensures
    c.in-Some.ensures

pub returns-in-None : goal.returns-in-None
returns-in-None c bytes held =
    read_held bytes c.args.contents c.in_ok-values.values held c.if-contents-ne3.false c.in_ok-values.ensures c.in-None.ensures
