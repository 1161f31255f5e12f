-- For each event one before it, as more events are looked at.
use Rattle.std.proofs.Common.{◌≡◌, ◌<◌, ◌+◌, ◌-◌, inl, inr, ℕ, List, get_or, length, replicate, arith}
use Rattle.std.proofs.Common.{sym, ap, subst, ◌∙◌}
use Rattle.std.proofs.lemmas.Bool.{cases_eq, cases_lt}
use Rattle.std.proofs.lemmas.List.{length-replicate}
use Rattle.long.specs.Chains.{Chains, times_kept}
use Rattle.long.specs.Walks.{AreBefore, IsBlocked, IsOpenEvent}
use Rattle.long.proofs.Counted.{zeros}

-- for each event one more than an open event that it is the second of a pair of, where one is below n
pub record AreBeforeBelow (p : Chains) (counts : List ℕ) (n : ℕ) (befores : List ℕ) : Type 0 where
  pub size : length befores ≡ length counts
  pub some : (d e : ℕ) → d < n → 0 < get_or counts d 0 → 0 < times_kept p d e → 0 < get_or befores e 0
  pub before : (e : ℕ) → 0 < get_or befores e 0 → IsOpenEvent counts (get_or befores e 0 - 1)
      × (0 < times_kept p (get_or befores e 0 - 1) e)

module _ (p : Chains) (counts : List ℕ) where
  -- none at first
  pub before_none : (befores : List ℕ) → befores ≡ replicate (length counts) 0 → AreBeforeBelow p counts 0 befores
  before_none befores is =
      let none : (e : ℕ) → get_or befores e 0 ≡ 0 =
      λ e. ap (λ (l : List ℕ). get_or l e 0) is ∙ zeros (length counts) e in
      record {
        size = ap (λ (l : List ℕ). length l) is ∙ length-replicate {A = ℕ} (length counts) 0;
        some = λ d e low. absurd (omega (arith, low));
        before = λ e some. absurd (omega (arith, some, none e));
      }

  module _ (n : ℕ) (befores : List ℕ) (are : AreBeforeBelow p counts n befores) where
    -- an event that is not open is before none
    pub before_still : get_or counts n 0 ≡ 0 → AreBeforeBelow p counts (n + 1) befores
    before_still closed = record {
      size = are.size;
      some = λ d e low open' kept. elim (cases_eq d n) [
        | inl one ↦ absurd (omega (arith, open', ap (λ (k : ℕ). get_or counts k 0) one, closed))
        | inr other ↦ are.some d e (omega (arith, low, other)) open' kept
      ];
      before = are.before;
    }

    -- an open one is before each second event of its pairs
    pub before_more : (new : List ℕ) → IsOpenEvent counts n → length new ≡ length befores
        → ((f : ℕ) → 0 < times_kept p n f → get_or new f 0 ≡ n + 1)
        → ((f : ℕ) → times_kept p n f ≡ 0 → get_or new f 0 ≡ get_or befores f 0) → AreBeforeBelow p counts (n + 1) new
    before_more new is_open size here others = record {
      size = size ∙ are.size;
      some = λ d e low open' kept. elim (cases_lt 0 (times_kept p n e)) [
        | inl pair ↦ omega (arith, here e pair)
        | inr none ↦ elim (cases_eq d n) [
          | inl one ↦ absurd (omega (arith, kept, ap (λ (k : ℕ). times_kept p k e) one, none))
          | inr other ↦ omega (
            arith,
            others e (omega (arith, none)),
            are.some d e (omega (arith, low, other)) open' kept,
          )
        ]
      ];
      before = λ e some. elim (cases_lt 0 (times_kept p n e)) [
        | inl pair ↦
            let one : n ≡ get_or new e 0 - 1 = omega (arith, here e pair) in
            subst (λ (k : ℕ). IsOpenEvent counts k × (0 < times_kept p k e)) one (is_open, pair)
        | inr none ↦
            let same : get_or new e 0 ≡ get_or befores e 0 = others e (omega (arith, none)) in
            subst (λ (k : ℕ). IsOpenEvent counts (k - 1) × (0 < times_kept p (k - 1) e)) (sym same)
            (are.before e (omega (arith, some, same)))
      ];
    }

    -- with all events each open one has one before it
    pub before_all : n ≡ length counts → IsBlocked p counts → AreBefore p counts befores
    before_all all blocked = record {
      size = are.size;
      some = λ e is_open.
          let b = blocked e is_open in
          are.some b.0 e (omega (arith, b.1.0, all)) b.1.1 b.2;
      before = are.before;
    }
