use Rattle.std.proofs.Common.{◌≡◌, ◌∙◌, sym, true, false, inl, inr, arith}
use Rattle.std.proofs.lemmas.Bool.Decides.{Decides-eqb}
use Rattle.live.proofs.traced.Traced.is_ended.Goals as goal

pub returns-else-is_complete : goal.returns-else-is_complete
returns-else-is_complete c =
    let full = Decides-eqb c.len.result c.self.inside.limit in
    rw (← c.self.view_is) (
      λ same. inr (omega (arith, c.len.ensures, full.0 same)),
      λ ended. elim ended [
        | inl end ↦ absurd (let clash : true ≡ false = sym (c.is_complete.ensures.1 end)
            ∙ c.if-is_complete.false in cc)
        | inr all ↦ full.1 (omega (arith, c.len.ensures, all))
      ],
    )
