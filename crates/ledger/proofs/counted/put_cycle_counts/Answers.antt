use Rattle.std.proofs.Common.{◌≡◌, ◌++◌, ◌+◌, ℕ, suc, List, arith, ap, sym, ◌∙◌, append_assoc, append-nil, slice_index}
use Rattle.ledger.specs.Counted.{cycle_line, cycle_lines}
use Rattle.ledger.proofs.counted.put_cycle_counts.Goals as goal

pub loop-cycle-init : goal.loop-cycle-init
unfolding cycle_lines
loop-cycle-init c = sym (append-nil c.args.out.now.items)

-- one length more
one_more : (old so_far new counts : List ℕ) (n : ℕ) → so_far ≡ old ++ cycle_lines counts n
    → new ≡ so_far ++ cycle_line n (slice_index counts n) → new ≡ old ++ cycle_lines counts (n + 1)
unfolding cycle_lines
one_more old so_far new counts n before with_it =
    let e : n + 1 ≡ suc n = omega arith in
    rw e (with_it ∙ (ap (λ (t : List ℕ). t ++ cycle_line n (slice_index counts n)) before
    ∙ append_assoc old (cycle_lines counts n) (cycle_line n (slice_index counts n))))

pub loop-cycle-preserved : goal.loop-cycle-preserved
loop-cycle-preserved c =
    one_more c.args.out.now.items c.loop-cycle.out.items c.put_cycle_count.new.out.items c.args.counts.now
    c.loop-cycle.cycle c.loop-cycle.invariant c.in_ok-put_cycle_count.ensures
