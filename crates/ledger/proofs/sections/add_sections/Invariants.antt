use Rattle.std.proofs.Common.{◌≡◌, ◌++◌, List, All, length}
use Rattle.std.specs.List.{flat_map}
use Rattle.ledger.specs.Sections.{AreAlike, IsSection, Section, bytes_of}
use Rattle.ledger.proofs.sections.add_sections.Given as goal

abbrev pub invariant-sections : goal.invariant-sections
invariant-sections l = record {
  done : List Section;
  joined : l.found.items ≡ l.fn.found.items ++ done;
  are : All IsSection done;
  bytes : l.fn.bytes ≡ flat_map bytes_of done ++ l.rest;
  alike : AreAlike l.found.items;
}

abbrev pub decreases-sections : goal.decreases-sections
decreases-sections l = length l.rest
