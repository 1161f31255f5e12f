use Rattle.std.proofs.Common.{map, take}
use Rattle.ledger.specs.Sections.{AreAlike, AreSectionsOf}
use Rattle.ledger.proofs.sections.sections.Given as goal

abbrev pub invariant-loop-i : goal.invariant-loop-i
invariant-loop-i l = record {
  are : AreSectionsOf (take l.i (map (λ v. v.items) l.files)) l.found.items;
  alike : AreAlike l.found.items;
}
