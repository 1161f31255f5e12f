use Rattle.std.proofs.Common.{◌≡◌, ◌||◌, ℕ, Bool, List, [], get_or, sym, subst, ap, ◌∙◌}
use Rattle.std.proofs.lemmas.List.{get_or_default}
use Rattle.bitrow.specs.Bits.{is_in}
use Rattle.completion.proofs.PairRows.{join_shown}
use Rattle.completion.proofs.pairs.join_one.Goals as goal

pub returns-then-test-clause-shown : goal.returns-then-test-clause-shown
returns-then-test-clause-shown c v old later =
    let rows : List (List Bool) = c.args.rows.now in
    let tested : get_or rows c.args.e c.index-rows-e.result ≡ get_or rows c.args.e [] =
    get_or_default rows c.args.e c.index-rows-e.result [] c.requires.there in
    let changed : get_or rows c.args.e c.index-rows-e-then-test.result ≡ get_or rows c.args.e [] =
    get_or_default rows c.args.e c.index-rows-e-then-test.result [] c.requires.there in
    join_shown v rows c.args.e c.args.middle c.args.later.now c.or_into.new.into c.requires.there
    (sym (ap (λ (l : List Bool). is_in l c.args.middle) tested) ∙ (sym c.test.ensures ∙ c.if-test.true))
    (subst (λ (row : List Bool). (j : ℕ) → is_in c.or_into.new.into j ≡ (is_in row j || is_in c.args.later.now j))
    changed c.or_into.ensures.numbers) old later
