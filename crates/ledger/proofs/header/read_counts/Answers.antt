use Rattle.std.proofs.Common.{◌∙◌, ap, refl}
use Rattle.std.proofs.lemmas.Bool.{false≢true}
use Rattle.headers.specs.declared.header.Counted.TheVariants as counted
use Rattle.ledger.proofs.header.read_counts.Goals as goal

pub returns : goal.returns
returns c (counted.Campaign s) first more begins is =
    let read = c.setup.ensures s more begins (c.if-take-2.ensures.kept refl ∙ c.if-take.ensures.kept refl ∙ is) in
    (ap (λ k. counted.Campaign k) read.0, read.1)
returns c counted.Survey first more begins is = absurd (false≢true (c.if-take.ensures.only more is).0)
returns c counted.LongSurvey first more begins is =
    absurd (false≢true (c.if-take-2.ensures.only more (c.if-take.ensures.kept refl ∙ is)).0)
