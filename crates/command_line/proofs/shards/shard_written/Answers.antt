use Rattle.std.proofs.Common.{◌≡◌, ◌∙◌, ◌+◌, ℕ, List, Option, None, Some, ap, arith, refl, sym}
use Rattle.std.proofs.lemmas.List.{drop_all}
use Rattle.std.proofs.lemmas.Str.Pattern.{split_once_first}
use Rattle.std.specs.List.{before_first, position_or_len}
use Rattle.texts.specs.Decimals.{decimal_of}
use Rattle.command_line.specs.Shards.{is_slash, shard_among}
use Rattle.command_line.proofs.shards.shard_written.Goals as goal

-- without a second number there is no shard
one_number : (i : Option ℕ) → shard_among i None ≡ None
one_number None = refl
one_number (Some i) = refl

-- a text without `/` has nothing after one
pub returns-in-None-clause-value : goal.returns-in-None-clause-value
unfolding decimal_of
returns-in-None-clause-value c =
    let text = c.args.text.now in
    let none = rw c.in-None.is at (split_once_first 47 text c.split_once.result c.split_once.ensures.cases (omega arith)) in
    let first = decimal_of (before_first is_slash text) in
    sym (ap (λ (rest : List ℕ). shard_among first (decimal_of rest))
    (drop_all (position_or_len is_slash text + 1) text (omega (arith, none)))
    ∙ one_number first)
