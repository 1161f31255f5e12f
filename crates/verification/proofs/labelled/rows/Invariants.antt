use Rattle.std.proofs.Common.{ℕ, List, [], get_or}
use Rattle.labels.specs.Certified.{lists_of}
use Rattle.verification.specs.Proof.{Are16Bit, AreRows}
use Rattle.verification.specs.Spelled.{Spells, label_numbers}
use Rattle.verification.proofs.LabelNumbers.{AreLeft}
use Rattle.verification.proofs.labelled.rows.Given as goal

abbrev pub invariant-loop-event : goal.invariant-loop-event
invariant-loop-event l = record {
  short : (v : ℕ) → Are16Bit (get_or (lists_of l.rows.items) v []);
  only : (rows : List (List ℕ)) → AreRows l.count rows → Spells (label_numbers rows l.count) l.fn.rest
      → AreLeft (lists_of l.rows.items) rows l.count l._event l.rest;
}
