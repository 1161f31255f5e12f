use Rattle.std.proofs.Common.{◌++◌, ◌∷◌, ◌∙◌, [], ℕ, List, None, Some, ap, append_assoc, decimal, refl, sym}
use Rattle.std.proofs.lemmas.Bool.{false≢true}
use Rattle.ledger.specs.Texts.{noun}
use Rattle.ledger.proofs.LineTexts.{place_then}
use Rattle.ledger.proofs.lines.place_or_none.Goals as goal

pub returns : goal.returns
returns c None more short is = absurd (false≢true (c.if-take.ensures.only more is).0)
returns c (Some n) more short is =
    let back : List ℕ = decimal n ++ 10 ∷ more in
    let named = c.take-2.ensures.only back (c.if-take.ensures.kept refl ∙ is
    ∙ place_then (noun c.args.kind) n (10 ∷ more)
    ∙ sym (append_assoc (noun c.args.kind) (32 ∷ []) back)
    ∙ ap (λ (t : List ℕ). t ++ back) (sym c.noun.ensures)) in
    let place = c.number-place.ensures n 10 more short refl named.1 in
    (ap (λ (k : ℕ). Some k) place.0, (c.take-3.ensures.only more place.1).1)
