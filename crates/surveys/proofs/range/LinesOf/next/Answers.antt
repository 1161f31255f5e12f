use Rattle.std.proofs.Common.{◌∙◌, ◌∷◌, ℕ, List, ap, arith, sym}
use Rattle.surveys.proofs.Masks.{unmasked_by}
use Rattle.surveys.proofs.range.LinesOf.next.Goals as goal

pub returns-in-None-clause-byte : goal.returns-in-None-clause-byte
returns-in-None-clause-byte g c = λ more.
    let all = unmasked_by c.args.self.now.before c.args.self.now.count (omega (arith, c.if-self-gt0.false)) c.in-None.is in
    all (c.args.byte ∷ more) ∙ ap (λ (bytes : List ℕ). c.args.byte ∷ bytes) (sym (all more))
