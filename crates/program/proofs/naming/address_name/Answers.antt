use Rattle.std.proofs.Common.{ℕ, ◌≤◌, ◌∷◌, ◌∙◌, List, length, ap, arith, subst, sym}
use Rattle.std.proofs.lemmas.Fmt.{length-decimal-le}
use Rattle.program.specs.declared.name.Name.{Name}
use Rattle.program.specs.Names.{padded}
use Rattle.program.proofs.naming.address_name.Goals as goal

pub of_parts-requires : goal.of_parts-requires
of_parts-requires c =
    subst (λ (text : List ℕ). length text ≤ 7) (sym (c.as_bytes.ensures.value ∙ c.format.ensures.text))
    (length-decimal-le 7 c.args.number (omega arith) (omega (arith, c.requires)) (omega (arith, c.requires)))

pub returns : goal.returns
returns c =
    c.of_parts.ensures
    ∙ ap (λ (text : List ℕ). let name : Name = record { bytes = padded (97 ∷ text) } in name)
    (c.as_bytes.ensures.value ∙ c.format.ensures.text)
