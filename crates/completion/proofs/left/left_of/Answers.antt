use Rattle.std.proofs.Common.{◌∙◌, ◌↔◌, ℕ, List, arith, subst, sym}
use Rattle.completion.specs.Left.{IsInRow}
use Rattle.completion.specs.Part.{IsMember, IsRestriction}
use Rattle.completion.proofs.Alone.{table_size}
use Rattle.completion.proofs.Fed.{numbers_same, row_below}
use Rattle.completion.proofs.left.left_of.Goals as goal

pub restrict_to-requires-clause-same : goal.restrict_to-requires-clause-same
restrict_to-requires-clause-same c = subst
    (λ (ks : List ℕ). (e : ℕ) → IsMember ks e ↔ IsInRow c.drop_all_unfed.new.row e)
    (sym c.deref.ensures.value)
    (numbers_same c.drop_all_unfed.new.row c.in_ok-events.events.items c.in_ok-events.ensures)

pub returns-clause-left : goal.returns-clause-left
returns-clause-left c =
    let numbers = c.in_ok-events.ensures in
    let size = c.drop_all_unfed.ensures.size in
    let same = numbers_same c.drop_all_unfed.new.row c.in_ok-events.events.items numbers in
    let all = table_size c.args.values.now c.args.table.now c.requires.table in record {
      size = size ∙ (c.requires.row ∙ all);
      events = record {
        ascending = numbers.ascending;
        events = λ e there. omega (
          arith,
          size,
          c.requires.row,
          all,
          row_below c.drop_all_unfed.new.row e ((same e).0 there),
        );
      };
      few = omega (arith, numbers.few, size, c.requires.row, all);
      same = same;
      fed = c.drop_all_unfed.ensures.fed;
      values = subst (λ (ks : List ℕ). IsRestriction c.args.values.now ks c.in_ok-rest.rest) c.deref.ensures.value
          c.in_ok-rest.ensures;
    }
