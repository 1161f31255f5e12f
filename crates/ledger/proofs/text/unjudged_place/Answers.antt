use Rattle.std.proofs.Common.{◌≡◌, ◌++◌, subst, sym}
use Rattle.ledger.specs.declared.text_kind.Kind.{Kind}
use Rattle.ledger.specs.Parts.{place_read, tail}
use Rattle.ledger.proofs.text.unjudged_place.Goals as goal

pub returns-in-Survey : goal.returns-in-Survey
returns-in-Survey c place more short is =
    subst (λ (k : Kind). c.first.result ≡ place_read k c.args.other place) (sym c.in-Survey.is)
    (c.first.ensures place more short
    (subst (λ (k : Kind). c.args.rest.now ≡ tail k place ++ more) c.in-Survey.is is)).0
