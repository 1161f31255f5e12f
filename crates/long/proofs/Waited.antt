-- How often events wait, as the pairs of a list are counted.
use Rattle.std.proofs.Common.{◌≡◌, ◌≢◌, ◌<◌, ◌+◌, ℕ, List, [], take, get_or, length, arith, refl, sym, ap, ◌∙◌}
use Rattle.recording.specs.Order.{times}
use Rattle.recording.specs.OrderLaws.{times_here, times_nil, times_there}
use Rattle.order.specs.Open.{waits}
use Rattle.long.specs.Chains.{seconds_in, times_listed}
use Rattle.long.proofs.Counted.{waits_more}
use Rattle.long.proofs.Listed.{listed_here, listed_none, listed_there, times_more}

module _ (xs : List (ℕ × ℕ)) (i n : ℕ) (low : i < length xs) (first : (get_or xs i (0, 0)).0 < n) where
  abbrev p : ℕ × ℕ
  p = get_or xs i (0, 0)

  -- of other first events there are as many pairs
  others : (f d : ℕ) → d ≢ p.0 → times_listed (take (i + 1) xs) d f ≡ times_listed (take i xs) d f
  others f d apart = omega (
    arith,
    times_more xs i low d f,
    ap (λ (s : List ℕ). times s f) (listed_there [] p d (λ same. apart (sym same)) ∙ listed_none d),
    times_nil f,
  )

  -- the second event of the pair waits once more
  pub wait_once : waits (times_listed (take (i + 1) xs)) [] n (get_or xs i (0, 0)).1
      ≡ waits (times_listed (take i xs)) [] n (get_or xs i (0, 0)).1 + 1
  wait_once = waits_more (times_listed (take (i + 1) xs)) (times_listed (take i xs)) p.0 p.1 1 (others p.1) (omega (
    arith,
    times_more xs i low p.0 p.1,
    ap (λ (s : List ℕ). times s p.1) (listed_here [] p p.0 refl),
    times_here (seconds_in [] p.0) p.1 p.1 refl,
    ap (λ (s : List ℕ). times s p.1) (listed_none p.0),
    times_nil p.1,
  )) n first

  -- and no other
  pub wait_other : (f : ℕ) → (get_or xs i (0, 0)).1 ≢ f
      → waits (times_listed (take (i + 1) xs)) [] n f ≡ waits (times_listed (take i xs)) [] n f + 0
  wait_other f apart = waits_more (times_listed (take (i + 1) xs)) (times_listed (take i xs)) p.0 f 0 (others f) (omega (
    arith,
    times_more xs i low p.0 f,
    ap (λ (s : List ℕ). times s f) (listed_here [] p p.0 refl),
    times_there (seconds_in [] p.0) p.1 f apart,
    ap (λ (s : List ℕ). times s f) (listed_none p.0),
    times_nil f,
  )) n first
