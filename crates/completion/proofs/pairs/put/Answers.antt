use Rattle.std.proofs.Common.{◌≡◌, ◌<◌, ◌==◌, ◌||◌, ℕ, Bool, List, [], length, subst, arith}
use Rattle.std.proofs.lemmas.List.{get_or_default}
use Rattle.bitrow.specs.Bits.{is_in}
use Rattle.completion.proofs.PairRows.{put_shown}
use Rattle.completion.proofs.pairs.put.Goals as goal

pub returns-clause-shown : goal.returns-clause-shown
returns-clause-shown c v old new =
    let rows : List (List Bool) = c.args.rows.now in
    let there : c.args.e < length rows = omega (arith, c.if-e-rows.false) in
    put_shown v rows c.args.e c.args.f c.set.new.self there
    (subst (λ (row : List Bool). (j : ℕ) → is_in c.set.new.self j ≡ (is_in row j || (j == c.args.f)))
    (get_or_default rows c.args.e c.index-rows-e-2.result [] there)
    c.set.ensures.numbers) old new
