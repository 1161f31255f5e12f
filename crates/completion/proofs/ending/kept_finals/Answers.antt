use Rattle.std.proofs.Common.{inl, inr, ℕ, List, Option, None, arith, ap, get_or, length, sym, ◌∙◌}
use Rattle.std.proofs.lemmas.Bool.{cases_lt}
use Rattle.completion.proofs.Ended.{finals_kept, finals_gone}
use Rattle.completion.proofs.Finals.{known_past}
use Rattle.completion.proofs.ending.kept_finals.Goals as goal

pub loop-a-preserved : goal.loop-a-preserved
loop-a-preserved c =
    let i : ℕ = c.loop-a.a in
    let xs : List (Option ℕ) = c.loop-a.finals.items in
    let y : Option ℕ = c.kept_final.result in
    let told = ap (λ (l : List (Option ℕ)). get_or l i None) c.final_values-known.ensures in
    let items = c.in_ok-push.ensures.items in record {
      count = omega (arith, c.in_ok-push.ensures.len, c.loop-a.invariant.count, ap (λ (l : List (Option ℕ)). length l) items);
      kept = λ a n less known can.
          ap (λ (l : List (Option ℕ)). get_or l a None) items
          ∙ finals_kept c.args.values.now c.args.row.now xs i y c.loop-a.invariant.count c.loop-a.invariant.kept
          (λ m is by. c.kept_final.ensures.kept m (told ∙ is) by) a n less known can;
      gone = λ a n known. finals_gone c.args.values.now c.args.row.now xs i y c.loop-a.invariant.count
          c.loop-a.invariant.gone
          (λ m is. let was = c.kept_final.ensures.gone m is in (sym told ∙ was.0, was.1)) a n
          (sym (ap (λ (l : List (Option ℕ)). get_or l a None) items) ∙ known);
    }

pub returns-clause-kept : goal.returns-clause-kept
returns-clause-kept c a n known can = elim (cases_lt a c.loop-a.a) [
  | inl low ↦ c.loop-a.invariant.kept a n low known can
  | inr past ↦
      let lengths = ap (λ (l : List (Option ℕ)). length l) c.final_values-known.ensures in
      absurd (omega (
        arith,
        known_past c.args.values.now.final_values a n
            (omega (arith, past, lengths, c.loop-a-test.false, c.loop-a.auto.a-end)) known,
      ))
]
