use Rattle.std.proofs.Common.{ℕ, Option, sym, subst, arith}
use Rattle.search.specs.Slots.{IsCutAt}
use Rattle.search.proofs.cut.cut_at.Goals as goal

pub returns-in-Some : goal.returns-in-Some
returns-in-Some c =
    subst (λ (o : Option ℕ). IsCutAt o c.args.row.now c.cut_row.new.row) (sym c.in-Some.is)
    (omega arith, c.cut_row.ensures)
