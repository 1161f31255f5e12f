use Rattle.std.proofs.Common.{◌∙◌, ◌∷◌, ◌+◌, ◌<◌, ℕ, List, arith, drop, get_or, length, length-set, slice_set}
use Rattle.std.proofs.Common.{subst, take}
use Rattle.std.proofs.lemmas.List.{drop_more, take_more_set}
use Rattle.situations.proofs.CodedNumbers.{AreCodes, one_code_more}
use Rattle.situations.proofs.codes.Coded.of.Goals as goal

pub loop-i-preserved : goal.loop-i-preserved
loop-i-preserved c =
    let words : List ℕ = c.args.words.now in
    let i : ℕ = c.loop-i.i in
    let codes : List ℕ = c.loop-i.codes.items in
    let code : ℕ = c.in-Some.code in
    let large : List ℕ = c.loop-i.large.items in
    let inside : i < length codes = omega (arith, c.loop-i-test.true, c.loop-i.invariant.size) in
    let old : AreCodes (take i codes) large (get_or words i 0 ∷ drop (i + 1) words) words =
    subst (λ (rest : List ℕ). AreCodes (take i codes) large rest words) (drop_more words i 0 c.loop-i-test.true)
    c.loop-i.invariant.codes in
    let grows = c.in_ok-code.ensures.grows in
    record {
      size = length-set codes i code ∙ c.loop-i.invariant.size;
      codes = one_code_more (take i codes) (take (i + 1) (slice_set codes i code)) large c.code_of.new.large.items grows.0
          (drop (i + 1) words) words code (get_or words i 0) old grows.1 c.in_ok-code.ensures.few
          (rw c.in-Some.is at c.in_ok-code.ensures.code) (rw c.in-Some.is at c.in_ok-code.ensures.within)
          (take_more_set codes i code inside);
    }
