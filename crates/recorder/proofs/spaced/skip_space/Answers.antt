use Rattle.std.proofs.Common.{◌≡◌, ◌∙◌, ◌<◌, ap, length, rules, slice_index_or, sym, true}
use Rattle.json.specs.Word.{is_space}
use Rattle.json.specs.Lex.{lex, between}
use Rattle.recorder.proofs.SpacedTokens.{space_skipped}
use Rattle.recorder.proofs.spaced.skip_space.Goals as goal

pub spaces-preserved : goal.spaces-preserved
spaces-preserved c =
    let bytes = c.rest-bytes.result.now in
    let some : 0 < length bytes = search rules in
    let space : is_space (slice_index_or bytes 0 0) ≡ true = sym c.is_space.ensures ∙ c.if-not-is_space.false in
    ap (lex between) c.new.ensures ∙ space_skipped bytes some space ∙ ap (lex between) c.rest-bytes.ensures
    ∙ c.spaces.invariant
