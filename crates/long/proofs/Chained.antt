-- Chains of pairs, as the pairs of a list are put in them.
use Rattle.std.proofs.Common.{◌≡◌, ◌<◌, ◌≤◌, ◌+◌, ◌-◌, inl, inr, ℕ, zero, suc, List, [], ◌∷◌, get_or, set}
use Rattle.std.proofs.Common.{take, length, arith, refl, sym, ap, ◌∙◌, length-set, get_or-set_same, get_or-set_other}
use Rattle.std.proofs.lemmas.Bool.{cases_eq, cases_lt}
use Rattle.std.proofs.lemmas.List.{get_or_past, take_all}
use Rattle.recording.specs.Order.{times}
use Rattle.recording.specs.OrderLaws.{times_append, times_nil}
use Rattle.long.specs.Chains.{Chains, chain, rest_from, times_kept, times_listed, AreChains, HaveFirstsBelow}
use Rattle.long.proofs.Listed.{first_below, listed_here, listed_none, listed_there, second_below, times_more}

-- each pair below n leads to one before it
abbrev LeadBack : List (ℕ × ℕ) → ℕ → Type 0
LeadBack links n = (i : ℕ) → i < n → (get_or links i (0, 0)).1 ≤ i

-- a chain of no pair
chain_zero : (links : List (ℕ × ℕ)) (h : ℕ) → chain links 0 h ≡ []
unfolding chain
chain_zero links h = refl

-- a chain that ends
pub chain_ends : (links : List (ℕ × ℕ)) (k : ℕ) → chain links k 0 ≡ []
unfolding chain
chain_ends links zero = refl
chain_ends links (suc k) = refl

-- a chain that goes on
chain_step : (links : List (ℕ × ℕ)) (k i : ℕ)
    → chain links (suc k) (suc i) ≡ (get_or links i (0, 0)).0 ∷ chain links k (get_or links i (0, 0)).1
unfolding chain
chain_step links k i = refl

-- it has no more pairs than its head
chain_longer : (links : List (ℕ × ℕ)) (n : ℕ) → LeadBack links n → (k h : ℕ) → h ≤ k → h ≤ n
    → chain links (suc k) h ≡ chain links k h
chain_longer links n back k zero low within = chain_ends links (suc k) ∙ sym (chain_ends links k)
chain_longer links n back zero (suc i) low within = absurd (omega (arith, low))
chain_longer links n back (suc k) (suc i) low within =
    let next : ℕ = (get_or links i (0, 0)).1 in
    let less : next ≤ i = back i (omega (arith, within)) in
    chain_step links (suc k) i
    ∙ ap (λ (rest : List ℕ). (get_or links i (0, 0)).0 ∷ rest)
    (chain_longer links n back k next (omega (arith, low, less)) (omega (arith, within, less)))
    ∙ sym (chain_step links k i)

-- what stands past its head does not matter
chain_outside : (links : List (ℕ × ℕ)) (l : ℕ × ℕ) (n : ℕ) → LeadBack links n → (k h : ℕ) → h ≤ n
    → chain (set links n l) k h ≡ chain links k h
chain_outside links l n back zero h low = chain_zero (set links n l) h ∙ sym (chain_zero links h)
chain_outside links l n back (suc k) zero low =
    chain_ends (set links n l) (suc k) ∙ sym (chain_ends links (suc k))
chain_outside links l n back (suc k) (suc i) low =
    let same : get_or (set links n l) i (0, 0) ≡ get_or links i (0, 0) =
    get_or-set_other links n i l (0, 0) (λ same. omega (arith, low, same)) in
    let next : ℕ = (get_or links i (0, 0)).1 in
    chain_step (set links n l) k i
    ∙ ap (λ (p : ℕ × ℕ). p.0 ∷ chain (set links n l) k p.1) same
    ∙ ap (λ (rest : List ℕ). (get_or links i (0, 0)).0 ∷ rest)
    (chain_outside links l n back k next (omega (arith, low, back i (omega (arith, low)))))
    ∙ sym (chain_step links k i)

-- a chain goes on with the pair at its head
chain_next : (links : List (ℕ × ℕ)) → ((i : ℕ) → (get_or links i (0, 0)).1 ≤ i) → (n i : ℕ) → i < n
    → chain links n (suc i) ≡ (get_or links i (0, 0)).0 ∷ chain links n (get_or links i (0, 0)).1
chain_next links back zero i low = absurd (omega (arith, low))
chain_next links back (suc k) i low =
    let next : (get_or links i (0, 0)).1 ≤ k = omega (arith, low, back i) in
    chain_step links k i
    ∙ ap (λ (rest : List ℕ). (get_or links i (0, 0)).0 ∷ rest)
    (sym (chain_longer links k (λ j _. back j) k (get_or links i (0, 0)).1 next next))

-- so do those of pairs
pub rest_next : (p : Chains) → AreChains p → (head : ℕ) → 0 < head → head ≤ length p.links
    → rest_from p head ≡ (get_or p.links (head - 1) (0, 0)).0 ∷ rest_from p (get_or p.links (head - 1) (0, 0)).1
rest_next p are zero some low = absurd (omega (arith, some))
rest_next p are (suc i) some low =
    let same : suc i - 1 ≡ i = omega arith in
    chain_next p.links are.links (length p.links) i (omega (arith, low))
    ∙ ap (λ (j : ℕ). (get_or p.links j (0, 0)).0 ∷ rest_from p (get_or p.links j (0, 0)).1) (sym same)

-- the first i pairs of a list are in chains, and the others stand where they stood
pub record AreChained (pairs : List (ℕ × ℕ)) (i : ℕ) (firsts : List ℕ) (links : List (ℕ × ℕ)) : Type 0 where
  pub size : length links ≡ length pairs
  pub others : (k : ℕ) → i ≤ k → get_or links k (0, 0) ≡ get_or pairs k (0, 0)
  pub heads : (e : ℕ) → get_or firsts e 0 ≤ i
  pub back : (k : ℕ) → k < i → (get_or links k (0, 0)).1 ≤ k
  pub each : (e f : ℕ) → times (chain links i (get_or firsts e 0)) f ≡ times_listed (take i pairs) e f

-- none at first
pub chained_none : (pairs : List (ℕ × ℕ)) (heads : List ℕ) → ((e : ℕ) → get_or heads e 0 ≡ 0)
    → AreChained pairs 0 heads pairs
chained_none pairs heads none = record {
  size = refl;
  others = λ k past. refl;
  heads = λ e. omega (arith, none e);
  back = λ k low. absurd (omega (arith, low));
  each = λ e f. ap (λ (l : List ℕ). times l f) (chain_zero pairs (get_or heads e 0) ∙ sym (listed_none e));
}

module _ (pairs : List (ℕ × ℕ)) (i : ℕ) (heads : List ℕ) (links : List (ℕ × ℕ))
    (are : AreChained pairs i heads links) where
  -- the events of the next pair are below n, as all are
  pub first_next : (n : ℕ) → i < length pairs → HaveFirstsBelow pairs n → (get_or links i (0, 0)).0 < n
  first_next n low firsts = omega (
    arith,
    ap (λ (p : ℕ × ℕ). p.0) (are.others i (omega arith)),
    first_below pairs i n low firsts,
  )

  pub second_next : (n : ℕ) → i < length pairs → ((e f : ℕ) → 0 < times_listed pairs e f → f < n)
      → (get_or links i (0, 0)).1 < n
  second_next n low seconds = omega (
    arith,
    ap (λ (p : ℕ × ℕ). p.1) (are.others i (omega arith)),
    second_below pairs i n low seconds,
  )

  -- it is the head of the chain of its first event
  pub chained_more : i < length pairs → (get_or pairs i (0, 0)).0 < length heads
      → AreChained pairs (i + 1) (set heads (get_or pairs i (0, 0)).0 (i + 1))
      (set links i ((get_or pairs i (0, 0)).1, get_or heads (get_or pairs i (0, 0)).0 0))
  chained_more low first =
      let p : ℕ × ℕ = get_or pairs i (0, 0) in
      let b : ℕ = (get_or pairs i (0, 0)).0 in
      let a : ℕ = (get_or pairs i (0, 0)).1 in
      let h : ℕ = get_or heads b 0 in
      let now : List (ℕ × ℕ) = set links i (a, h) in
      let inside : i < length links = omega (arith, low, are.size) in
      let next : i + 1 ≡ suc i = omega arith in
      let here : get_or now i (0, 0) ≡ (a, h) = get_or-set_same links i (a, h) (0, 0) inside in
      record {
        size = length-set links i (a, h) ∙ are.size;
        others = λ k past. get_or-set_other links i k (a, h) (0, 0) (λ same. omega (arith, past, same))
            ∙ are.others k (omega (arith, past));
        heads = λ e. elim (cases_eq b e) [
          | inl one ↦ omega (
            arith,
            ap (λ (k : ℕ). get_or (set heads b (i + 1)) k 0) one,
            get_or-set_same heads b (i + 1) 0 first,
          )
          | inr apart ↦ omega (
            arith,
            get_or-set_other heads b e (i + 1) 0 (λ same. apart (sym same)),
            are.heads e,
          )
        ];
        back = λ k below. elim (cases_eq i k) [
          | inl one ↦ omega (
            arith,
            one,
            ap (λ (j : ℕ). (get_or now j (0, 0)).1) one,
            ap (λ (l : ℕ × ℕ). l.1) here,
            are.heads b,
          )
          | inr apart ↦ omega (
            arith,
            ap (λ (l : ℕ × ℕ). l.1) (get_or-set_other links i k (a, h) (0, 0) (λ same. apart (sym same))),
            are.back k (omega (arith, below, apart)),
          )
        ];
        each = λ e f. elim (cases_eq b e) [
          | inl one ↦
              ap (λ (d : ℕ). times (chain now (i + 1) (get_or (set heads b (i + 1)) d 0)) f) (sym one)
              ∙ ap (λ (k : ℕ). times (chain now (i + 1) k) f) (get_or-set_same heads b (i + 1) 0 first)
              ∙ ap (λ (k : ℕ). times (chain now k k) f) next
              ∙ ap (λ (l : List ℕ). times l f) (chain_step now i i)
              ∙ ap (λ (l : ℕ × ℕ). times (l.0 ∷ chain now i l.1) f) here
              ∙ ap (λ (l : List ℕ). times (a ∷ l) f) (chain_outside links (a, h) i are.back i h (are.heads b))
              ∙ omega (
                arith,
                times_append (a ∷ []) (chain links i h) f,
                are.each b f,
                ap (λ (d : ℕ). times_listed (take i pairs) d f) one,
                times_more pairs i low e f,
                ap (λ (s : List ℕ). times s f) (listed_here [] p e one),
                ap (λ (s : List ℕ). times (a ∷ s) f) (listed_none e),
              )
          | inr apart ↦
              let g : ℕ = get_or heads e 0 in
              ap (λ (k : ℕ). times (chain now (i + 1) k) f)
              (get_or-set_other heads b e (i + 1) 0 (λ same. apart (sym same)))
              ∙ ap (λ (k : ℕ). times (chain now k g) f) next
              ∙ ap (λ (l : List ℕ). times l f) (chain_outside links (a, h) i are.back (suc i) g (are.heads e)
              ∙ chain_longer links i are.back i g (are.heads e) (are.heads e))
              ∙ omega (
                arith,
                are.each e f,
                times_more pairs i low e f,
                ap (λ (s : List ℕ). times s f) (listed_there [] p e apart ∙ listed_none e),
                times_nil f,
              )
        ];
      }

  -- with all pairs
  module _ (all : i ≡ length pairs) where
    -- the chains lead back
    pub chained_back : AreChains (record { heads = heads; links = links })
    chained_back = record {
      heads = λ e. omega (arith, are.heads e, all, are.size);
      links = λ k. elim (cases_lt k i) [
        | inl low ↦ are.back k low
        | inr past ↦ omega (
          arith,
          ap (λ (l : ℕ × ℕ). l.1) (get_or_past links k (0, 0) (omega (arith, past, all, are.size))),
        )
      ];
    }

    -- and have each pair as often as the list
    pub chained_each : (e f : ℕ) → times_kept (record { heads = heads; links = links }) e f ≡ times_listed pairs e f
    chained_each e f =
        let long : length links ≡ i = omega (arith, all, are.size) in
        ap (λ (k : ℕ). times (chain links k (get_or heads e 0)) f) long
        ∙ are.each e f
        ∙ ap (λ (ps : List (ℕ × ℕ)). times_listed ps e f) (take_all i pairs (omega (arith, all)))
