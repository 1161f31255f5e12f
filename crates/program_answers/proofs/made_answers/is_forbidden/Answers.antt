use Rattle.std.proofs.Common.{Bool, List, ℕ, false, inl, not, true}
use Rattle.cycles.specs.declared.making.Made.{Made}
use Rattle.cycles.specs.Made.{IsMade}
use Rattle.program_answers.specs.Cycles.{IsSaidToBeAllowed, IsSaidToBeForbidden}
use Rattle.program_answers.proofs.made_answers.is_forbidden.Goals as goal

-- what TSO does not allow it forbids
forbids : (text : List ℕ) (m : Made) (b : Bool) → IsMade text m → IsSaidToBeAllowed m.recording b
    → IsSaidToBeForbidden text (not b)
forbids text m true made said = inl (m, made, said.0, said.1)
forbids text m false made said = (m, made, said)

pub returns : goal.returns
returns c = forbids c.args.text.now c.in-Ok.made c.in_ok-is_allowed.field-0 (rw c.in-Ok.is at c.in_ok-made.ensures)
    c.in_ok-is_allowed.ensures
