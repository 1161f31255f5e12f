use Rattle.std.proofs.Common.{◌∷◌, [], ◌∙◌, ℕ, List, ap, arith, refl, get_or, length}
use Rattle.verification.proofs.AnswersSpelled.{overlook_spelled}
use Rattle.verification.proofs.reading.overlook.Goals as goal

pub returns-then-len-lt2 : goal.returns-then-len-lt2
returns-then-len-lt2 c a later spelled =
    let h = overlook_spelled a later c.args.rest.now spelled in
    let read = c.in_ok-pair.ensures (h.0 ∷ h.1 ∷ []) later refl h.2 in
    absurd (omega (arith, c.if-len-lt2.true, c.len.ensures, ap (λ (t : List ℕ). length t) read.0))

pub returns : goal.returns
returns c a later spelled =
    let h = overlook_spelled a later c.args.rest.now spelled in
    let read = c.in_ok-pair.ensures (h.0 ∷ h.1 ∷ []) later refl h.2 in (
      h.3 c.index.result.now c.index-2.result.now
          (c.index.ensures ∙ ap (λ (t : List ℕ). get_or t 0 c.index.result.now) read.0)
          (c.index-2.ensures ∙ ap (λ (t : List ℕ). get_or t 1 c.index-2.result.now) read.0),
      read.1,
    )
