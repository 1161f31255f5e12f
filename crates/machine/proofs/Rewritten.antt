-- What an event writes may depend on what it reads: until it is executed, nothing looks at it.
use Rattle.std.proofs.Common.{◌≡◌, ◌≢◌, ◌<◌, ◌⊎◌, inl, inr, ℕ, Option, Some, None, arith, sym, ap, ◌∙◌}
use Rattle.recording.specs.Order.{times, Before}
use Rattle.recording.specs.OrderLaws.{times_in}
use Rattle.machine.proofs.Seen.{Static, Snapshot, seen, Own, CanSee, IsLast, IsNewest, IsCounted, IsOrdered}
use Rattle.machine.proofs.Seen.{performed_is_seen}

-- the same events, with other writes
abbrev pub with_writes : Static → (ℕ → Option ℕ) → Static
with_writes p w = record {
  count = p.count;
  core = p.core;
  writes = w;
  reads = p.reads;
  store = p.store;
  load = p.load;
}

-- the count does not look at writes
pub counted_rewritten : {p : Static} {s : Snapshot} (w : ℕ → Option ℕ) → IsCounted p s
    → IsCounted (with_writes p w) s
counted_rewritten w counted =
    record { listed = counted.listed; executed = counted.executed; waiting = counted.waiting }

module _ {p : Static} {s : Snapshot} (w : ℕ → Option ℕ) {b : ℕ} (counted : IsCounted p s)
    (new : s.next (p.core b) ≡ b) (same : (e : ℕ) → e ≢ b → w e ≡ p.writes e) where
  -- what stands in an order, or is earlier than an executed event, is not b
  pub not_listed : (c e : ℕ) → 0 < times (seen s c) e → e ≢ b
  not_listed c e there is =
      omega (arith, (counted.executed c e there).1, ap (λ (x : ℕ). s.next (p.core x)) is, new, is)

  -- what an executed event sees is not b
  not_b : (e v : ℕ) → e < s.next (p.core e) → Before (seen s (p.core e)) v e ⊎ Own p v e → v ≢ b
  not_b e v done earlier is = elim earlier [
    | inl before ↦ not_listed (p.core e) v (times_in (seen s (p.core e)) v (omega (arith, before))) is
    | inr own ↦ omega (arith, done, own.0, ap s.next own.2, ap (λ (x : ℕ). s.next (p.core x)) is, new, is)
  ]

  -- what it sees by the new writes it saw
  back : (e a v : ℕ) → e < s.next (p.core e) → CanSee (with_writes p w) (seen s (p.core e)) e a v
      → CanSee p (seen s (p.core e)) e a v
  back e a v done h = (sym (same v (not_b e v done h.2)) ∙ h.0, h.1, h.2)

  -- and the other way round
  forth : (e a v : ℕ) → e < s.next (p.core e) → CanSee p (seen s (p.core e)) e a v
      → CanSee (with_writes p w) (seen s (p.core e)) e a v
  forth e a v done h = (same v (not_b e v done h.2) ∙ h.0, h.1, h.2)

  -- so its last write stays
  last : (e a : ℕ) (o : Option ℕ) → e < s.next (p.core e) → IsLast p (seen s (p.core e)) e a o
      → IsLast (with_writes p w) (seen s (p.core e)) e a o
  last e a None done old = λ v h. old v (back e a v done h)
  last e a (Some v) done old = (forth e a v done old.0, λ u h. old.1 u (back e a u done h))

  -- the order stays
  pub ordered_rewritten : IsOrdered p s → IsOrdered (with_writes p w) s
  ordered_rewritten ordered = record {
    kept = ordered.kept;
    values = λ e a reads there. last e a (s.source e) (counted.executed 0 e (performed_is_seen s 0 e there)).1
        (ordered.values e a reads there);
  }

  -- the newest write stays the newest
  pub newest_rewritten : (c a : ℕ) (o : Option ℕ) → IsNewest p (seen s c) a o
      → IsNewest (with_writes p w) (seen s c) a o
  newest_rewritten c a None newest =
      λ v there writes. newest v there (sym (same v (not_listed c v there)) ∙ writes)
  newest_rewritten c a (Some v) newest = (
    newest.0,
    same v (not_listed c v newest.0) ∙ newest.1,
    λ u there writes. newest.2 u there (sym (same u (not_listed c u there)) ∙ writes),
  )
