use Rattle.std.proofs.Common.{◌≡◌, ◌∙◌, ◌≤◌, ◌-◌, ℕ, List, ap, arith, get_or, inl, inr, refl, replicate, rules, sym}
use Rattle.std.proofs.lemmas.Bool.{cases_lt, false≢true}
use Rattle.std.proofs.lemmas.List.{ext_get_or, get_or-replicate, get_or-set_other, get_or_past, length-replicate}
use Rattle.ledger.proofs.CycleTexts.{line_read, lines_all, none_read, one_more}
use Rattle.ledger.proofs.cycles.cycle_counts.Goals as goal
use Rattle.ledger.proofs.cycles.cycle_counts.Goals.{else-lines-test, then-lines-test+then-cycle-least}
use Rattle.ledger.proofs.cycles.cycle_counts.Goals.{then-cycle-least-via-then-cycle-least}
use Rattle.ledger.proofs.cycles.cycle_counts.Goals.{then-cycle-least-via-else-cycle-least+then-cycle-gt-LONG_CYCLE}

-- before the first line no cycle is counted
none_counted : (v : ℕ) → ◌≡◌ {A = ℕ} (get_or (replicate 514 0) v 0) 0
none_counted v = elim (cases_lt v 514) [
  | inl inside ↦ get_or-replicate 514 v 0 0 inside
  | inr past ↦ get_or_past (replicate 514 0) v 0 (omega (arith, past, length-replicate {A = ℕ} 514 0))
]

pub lines-init : goal.lines-init
lines-init c =
    let zeros : c.resize.new.self.items ≡ replicate 514 0 =
    c.in_ok-resize.ensures.items ∙ rw (c.new-counts.ensures.items, c.new-counts.ensures.len) refl in record {
      size = search rules;
      few = omega arith;
      zeros = λ v from. ap (λ (l : List ℕ). get_or l v 0) zeros ∙ none_counted v;
      only = λ counts more size short begins is. record {
        same = λ v low. absurd (omega (arith, low));
        left = is ∙ lines_all counts more size;
      };
    }

pub lines-preserved : goal.lines-preserved
lines-preserved c =
    let h = c.lines.invariant in
    let items : List ℕ = c.lines.counts.items in
    let cycle : ℕ = c.cycle_count-cycle.result.0 in
    let count : ℕ = c.cycle_count-cycle.result.1 in
    let within : cycle ≤ 513 = omega (arith, c.if-cycle-gt-LONG_CYCLE.false) in
    let above : c.lines.least ≤ cycle = omega (arith, c.if-cycle-least.false) in record {
      size = search rules;
      few = omega (arith, within);
      zeros = λ v from. get_or-set_other items cycle v count 0 (λ e. omega (arith, e, from))
          ∙ h.zeros v (omega (arith, from, above));
      only = λ counts more size short begins is.
          let a = h.only counts more size short begins is in
          let r = line_read counts more c.take.new.self c.cycle_count-cycle.new.rest c.lines.least
          (514 - c.lines.least) c.cycle_count-cycle.result begins short c.cycle_count-cycle.ensures
          (omega (arith, h.few)) (sym a.left ∙ c.lines-test.ensures.found refl) in record {
            same = one_more counts items c.lines.least cycle count (omega (arith, within, h.size)) r.count r.zeros
                a.same h.zeros;
            left = r.left;
          };
    }

pub returns-clause-only : goal.returns-clause-only
returns-clause-only c counts more size short begins is =
    let h = c.lines.invariant in
    let items : List ℕ = c.lines.counts.items in
    let a = h.only counts more size short begins is in
    elim c.lines-test.branch [
      | else-lines-test w ↦
          let none = none_read counts more c.lines.least (514 - c.lines.least) (omega (arith, h.few)) (λ new line.
          false≢true (w.lines-test.ensures.only new (a.left ∙ line)).0) in (
            ext_get_or 0 items counts (h.size ∙ sym size) (λ v low. elim (cases_lt v c.lines.least) [
              | inl below ↦ a.same v below
              | inr not ↦ h.zeros v (omega (arith, not))
                  ∙ sym (none.1 v (omega (arith, not)) (omega (arith, low, h.size)))
            ]),
            w.rest-is ∙ w.lines-test.ensures.kept refl ∙ a.left ∙ none.0,
          )
      | then-lines-test+then-cycle-least w ↦
          let r = line_read counts more c.take.new.self w.cycle_count-cycle.new.rest c.lines.least
          (514 - c.lines.least) w.cycle_count-cycle.result begins short w.cycle_count-cycle.ensures
          (omega (arith, h.few)) (sym a.left ∙ w.lines-test.ensures.found refl) in
          absurd (elim w.then-cycle-least.branch [
            | then-cycle-least-via-then-cycle-least v ↦ omega (arith, v.if-cycle-least.true, r.above)
            | then-cycle-least-via-else-cycle-least+then-cycle-gt-LONG_CYCLE v ↦ omega (
              arith,
              v.if-cycle-gt-LONG_CYCLE.true,
              r.within,
            )
          ])
    ]
