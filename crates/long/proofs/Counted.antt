-- How often events wait, before any is placed, as more pairs are counted.
use Rattle.std.proofs.Common.{◌≡◌, ◌≢◌, ◌<◌, ◌≤◌, ◌+◌, ◌==◌, inl, inr, ℕ, zero, suc, cond, List, [], get_or}
use Rattle.std.proofs.Common.{length, replicate, arith, refl, sym, ap, subst, ◌∙◌}
use Rattle.std.proofs.lemmas.Bool.{cases_eq, cases_lt}
use Rattle.std.proofs.lemmas.List.{get_or-replicate, get_or_past, length-replicate}
use Rattle.recording.specs.OrderLaws.{times_nil}
use Rattle.order.specs.Open.{waits, IsOpen}
use Rattle.order.proofs.Waits.{waits_zero}

-- zeros are 0
pub zeros : (n e : ℕ) → get_or (replicate {A = ℕ} n 0) e 0 ≡ 0
zeros zero e = refl
zeros (suc n) zero = refl
zeros (suc n) (suc e) = zeros n e

-- ones are at most 1
pub ones : (n e : ℕ) → get_or (replicate {A = ℕ} n 1) e 0 ≤ 1
ones n e = elim (cases_lt e n) [
  | inl low ↦ omega (arith, get_or-replicate {A = ℕ} n e 1 0 low)
  | inr past ↦ omega (arith, get_or_past (replicate {A = ℕ} n 1) e 0 (omega (arith, past, length-replicate {A = ℕ} n 1)))
]

-- one event more
wait_more : (w : ℕ → ℕ → ℕ) (n e : ℕ) → waits w [] (suc n) e ≡ waits w [] n e + w n e
unfolding waits
wait_more w n e = ap (λ (k : ℕ). waits w [] n e + cond (k == 0) (w n e) 0) (times_nil n)

-- what is as often before an event makes it wait for as many
waits_same : (w v : ℕ → ℕ → ℕ) (f n : ℕ) → ((d : ℕ) → d < n → w d f ≡ v d f) → waits w [] n f ≡ waits v [] n f
waits_same w v f zero same = waits_zero w [] f ∙ sym (waits_zero v [] f)
waits_same w v f (suc n) same = omega (
  arith,
  wait_more w n f,
  wait_more v n f,
  waits_same w v f n (λ d low. same d (omega (arith, low))),
  same n (omega arith),
)

-- and where one event is k times more before it, for k more
pub waits_more : (w v : ℕ → ℕ → ℕ) (b f k : ℕ) → ((d : ℕ) → d ≢ b → w d f ≡ v d f) → w b f ≡ v b f + k → (n : ℕ)
    → b < n → waits w [] n f ≡ waits v [] n f + k
waits_more w v b f k others here zero low = absurd (omega (arith, low))
waits_more w v b f k others here (suc n) low = elim (cases_eq b n) [
  | inl one ↦ omega (
    arith,
    wait_more w n f,
    wait_more v n f,
    waits_same w v f n (λ d under. others d (λ same. omega (arith, under, same, one))),
    subst (λ (m : ℕ). w m f ≡ v m f + k) one here,
  )
  | inr apart ↦ omega (
    arith,
    wait_more w n f,
    wait_more v n f,
    waits_more w v b f k others here n (omega (arith, low, apart)),
    others n (λ same. apart (sym same)),
  )
]

-- where all pairs are counted, each event waits for what it is the second of
pub open_all : (w : ℕ → ℕ → ℕ) (n : ℕ) (counts : List ℕ) → length counts ≡ n
    → ((f : ℕ) → f < n → get_or counts f 0 ≡ waits w [] n f + 1) → IsOpen w n [] counts
open_all w n counts size waiting = record {
  size = size;
  waiting = λ e low fresh. waiting e low;
  done = λ e low placed. absurd (omega (arith, placed, times_nil e));
}

-- also where they are kept in another way
pub open_same : (w v : ℕ → ℕ → ℕ) (n : ℕ) (counts : List ℕ) → ((d f : ℕ) → w d f ≡ v d f) → IsOpen w n [] counts
    → IsOpen v n [] counts
open_same w v n counts same are = open_all v n counts are.size
    (λ f low. omega (arith, are.waiting f low (times_nil f), waits_same w v f n (λ d under. same d f)))
