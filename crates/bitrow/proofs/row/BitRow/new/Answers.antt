use Rattle.std.proofs.Common.{◌≡◌, ℕ, List, false, arith, sym, subst, ◌∙◌}
use Rattle.bitrow.specs.Bits.{members_below, is_in, AreWordsOf}
use Rattle.bitrow.proofs.Members.{members_length, members_bit, zeros, words_of_zeros}
use Rattle.bitrow.proofs.row.BitRow.new.Goals as goal

pub returns-clause-len : goal.returns-clause-len
returns-clause-len c = members_length c.in_ok-words.words.items c.args.len

pub returns-clause-empty : goal.returns-clause-empty
returns-clause-empty c =
    subst (λ (ws : List ℕ). (j : ℕ) → is_in (members_below ws c.args.len) j ≡ false)
    (sym (c.in_ok-words.ensures.items_if_clones_equal (λ y h. h)))
    (λ j. members_bit _ c.args.len (λ i _. zeros c.width.result i) j ∙ zeros c.width.result j)

pub invariant_of-result : goal.invariant_of-result
invariant_of-result c =
    subst (λ (ws : List ℕ). AreWordsOf ws c.args.len)
    (sym (c.in_ok-words.ensures.items_if_clones_equal (λ y h. h)))
    (words_of_zeros c.width.result c.args.len c.width.ensures (omega arith))
