use Rattle.std.proofs.Common.{◌≡◌, ◌<◌, ℕ, Bool, false, List, [], length, get_or, arith, sym, subst, ap, ◌∙◌}
use Rattle.bitrow.specs.Bits.{is_in}
use Rattle.completion.proofs.PairRows.{none_shown, more_none}
use Rattle.completion.proofs.pairs.no_pairs.Goals as goal

pub returns-clause-square : goal.returns-clause-square
returns-clause-square c i inside = c.loop.invariant.size i inside ∙ omega (
  arith,
  c.loop.invariant.count,
  c.loop-test.false,
  c.loop.auto.counter-end,
)

pub returns-clause-shown : goal.returns-clause-shown
returns-clause-shown c v = none_shown v c.loop.rows.items c.loop.invariant.none

pub loop-preserved : goal.loop-preserved
loop-preserved c =
    let more = more_none c.loop.rows.items c.in_ok-new.field-0 c.args.count c.loop.invariant.none c.loop.invariant.size
    c.in_ok-new.ensures.empty c.in_ok-new.ensures.len in
    let items = c.in_ok-push.ensures.items in
    record {
      count = omega (arith, c.in_ok-push.ensures.len, c.loop.invariant.count, ap (λ (l : List (List Bool)). length l) items);
      none = subst (λ (l : List (List Bool)). (i j : ℕ) → is_in (get_or l i []) j ≡ false) (sym {A = List (List Bool)} items) more.0;
      size = subst (λ (l : List (List Bool)). (i : ℕ) → i < length l → length (get_or l i []) ≡ c.args.count) (sym {A = List (List Bool)} items)
          more.1;
    }
