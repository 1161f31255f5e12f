use Rattle.std.proofs.Common.{◌/◌, [], ℕ, length, subst, sym}
use Rattle.std.proofs.lemmas.Result.{IfOk-weaker}
use Rattle.verification.specs.Spelled.{HasSizes, SpellsAnswer}
use Rattle.verification.proofs.VerdictsSpelled.{answer_spelled}
use Rattle.verification.proofs.unlabelled.read_long.Goals as goal

pub returns : goal.returns
returns c = IfOk-weaker c.read_answer.result _ _
    (λ r h a printed witness.
    let s = answer_spelled c.args.recording.now c.sound.ensures a c.args.text.now printed witness in
    (h a [] (subst (λ (n : ℕ). HasSizes n (length c.args.text.now / 8) a) (sym c.len.ensures) s.sizes)
    (subst (SpellsAnswer a []) (sym c.new-rest.ensures) s.spelled)).0)
    c.read_answer.ensures
