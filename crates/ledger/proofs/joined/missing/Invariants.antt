use Rattle.std.proofs.Common.{◌≡◌, ◌+◌, ◌-◌, ◌<◌, ◌≤◌, ℕ, get_or, take}
use Rattle.std.specs.List.{sum_by}
use Rattle.ledger.specs.declared.joined.Gaps.TheVariants.{Refuse}
use Rattle.ledger.specs.Ordered.{Follows}
use Rattle.ledger.specs.Sections.{Section, end_of}
use Rattle.ledger.proofs.joined.missing.Given as goal

abbrev pub invariant-loop-i : goal.invariant-loop-i
invariant-loop-i l = record {
  begun : 1 ≤ l.i;
  follow : (j : ℕ) (d : Section) → j + 1 < l.i → Follows l.gaps (get_or l.order j d) (get_or l.order (j + 1) d);
  count : (d : Section) → (get_or l.order 0 d).header.first + sum_by (λ s. s.header.count) (take l.i l.order) + l.missing
      ≡ end_of (get_or l.order (l.i - 1) d);
  none : l.gaps ≡ Refuse → l.missing ≡ 0;
}
