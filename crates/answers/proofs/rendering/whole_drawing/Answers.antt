use Rattle.std.proofs.Common.{◌+◌, ◌++◌, ◌∷◌, ◌∙◌, [], ℕ, List, ap, arith, sym}
use Rattle.std.proofs.lemmas.List.{map-id}
use Rattle.std.proofs.lemmas.List.FromFn.{map-range_with_len_more}
use Rattle.std.specs.List.{range_with_len}
use Rattle.answers.proofs.rendering.whole_drawing.Goals as goal

pub loop-number-preserved : goal.loop-number-preserved
loop-number-preserved c =
    let n = c.loop-number.number in
    let one_more = λ (ks : List ℕ). ks ++ n ∷ [] in
    c.in_ok-push.ensures.items ∙ ap one_more (c.loop-number.invariant ∙ sym (map-id (range_with_len 0 n)))
    ∙ sym (map-range_with_len_more (λ (k : ℕ). k) 0 n n (omega arith)) ∙ map-id (range_with_len 0 (n + 1))
