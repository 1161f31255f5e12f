use Rattle.std.proofs.Common.{◌≡◌, ◌∙◌, ◌∷◌, ◌+◌, ◌*◌, ℕ, List, ap, arith, drop, get_or, sym}
use Rattle.std.proofs.lemmas.List.{drop_more}
use Rattle.situations.specs.Chains.{hash_from}
use Rattle.situations.proofs.set.hash_of.Goals as goal

pub loop-i-preserved : goal.loop-i-preserved
loop-i-preserved c =
    let list : List ℕ = c.args.list.now in
    let k : ℕ = 2 * c.loop-i.i in
    let next : 2 * (c.loop-i.i + 1) ≡ k + 1 + 1 = omega arith in
    let two : drop k list ≡ get_or list k 0 ∷ get_or list (k + 1) 0 ∷ drop (k + 1 + 1) list =
    drop_more list k 0 (omega (arith, c.loop-i-test.true))
    ∙ ap (λ (l : List ℕ). get_or list k 0 ∷ l) (drop_more list (k + 1) 0 (omega (arith, c.loop-i-test.true))) in
    ap (λ (m : ℕ). hash_from c.mix-hash.result (drop m list)) next
    ∙ (ap (λ (h : ℕ). hash_from h (drop (k + 1 + 1) list)) c.mix-hash.ensures
    ∙ (sym (ap (hash_from c.loop-i.hash) two) ∙ c.loop-i.invariant))
