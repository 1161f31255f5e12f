-- Lemmas on the caches: coherence and current data of all addresses, call by call.
use Rattle.std.proofs.Common.{◌≡◌, ◌≢◌, ◌<◌, ◌⊎◌, inl, inr, ℕ, Option, Some, None, Result, Ok, Err, cond}
use Rattle.std.proofs.Common.{[], length, replicate, suc, zero, arith, refl, sym, ap}
use Rattle.std.proofs.Common.{◌∙◌, length-set, List, ◌∷◌, slice_index, ◌==◌}
use Rattle.std.proofs.lemmas.Bool.{cases_eq, eq-eqb, ne_eqb}
use Rattle.std.proofs.lemmas.List.{length-map, length-replicate, get_or-map}
use Rattle.moesi.specs.declared.error.CacheError.{CacheError}
use Rattle.moesi.specs.Block.{Block, invalid, block_with}
use Rattle.moesi.specs.State.{CacheState, opening_with, block_of, current, at_address, with_block, write}
use Rattle.moesi.specs.Coherent.{IsCoherent, IsCoherentBlock}
use Rattle.moesi.specs.Laws.{IsTransaction, OpeningIsCoherent, OpeningWithIsCoherent, EveryCallKeepsCoherence}
use Rattle.moesi.specs.Laws.{EveryReadIsCurrent, EveryTransactionKeepsCurrent}
use Rattle.moesi.specs.Laws.{EveryWriteSetsCurrent}
use Rattle.moesi.proofs.BlockLemmas.{set_cases, current_is, all_invalid}
use Rattle.moesi.proofs.RowLemmas.{taken_then, IsRenewed, renewed_get_s, renewed_get_m, renewed_put, renewed_write}

-- all addresses agree, and at a it is w that is current
record IsRenewedAt (s t : CacheState) (a : ℕ) (w : ℕ × Option ℕ) : Type 0 where
  coherent : IsCoherent t
  current_is : (b : ℕ) → current t b ≡ cond (b == a) w (current s b)

-- a row that renews its block leaves the other addresses
renewed_at : (s t : CacheState) (a : ℕ) (r : Result Block CacheError) (w : ℕ × Option ℕ)
    → IsCoherent s → a < length s.blocks
    → ((u : Block) → r ≡ Ok u → IsRenewed (block_of s a) u w) → at_address s a r ≡ Ok t → IsRenewedAt s t a w
renewed_at s t a (Err e) w k at new h = cc (h)
renewed_at s t a (Ok u) w k at new h =
    let n = new u refl in
    let is : with_block s a u ≡ t = cc (h) in
    let block : (b : ℕ) → ((b ≢ a) × (block_of (with_block s a u) b ≡ block_of s b))
    ⊎ ((b ≡ a) × (block_of (with_block s a u) b ≡ u)) =
    λ b. elim (set_cases s.blocks a u b (record { lines = []; memory = (0, None) })) [
      | inl g ↦ inl (λ e. let out = g.0 e in omega arith, g.1)
      | inr g ↦ inr g
    ] in
    rw (← is) (record {
      coherent = record {
        lines = λ b l. elim (block b) [
          | inl g ↦ rw g.1 (k.lines b (omega (arith, length-set s.blocks a u)))
          | inr g ↦ rw g.1 (n.lines ∙ k.lines a at)
        ];
        blocks = λ b. elim (block b) [
          | inl g ↦ rw g.1 (k.blocks b)
          | inr g ↦ rw (g.1, current_is u w n.agree) n.agree
        ];
      };
      current_is = λ b. elim (block b) [
        | inl g ↦ rw (g.1, ne_eqb b a g.0) refl
        | inr g ↦ rw (g.1, eq-eqb b a g.0) (current_is u w n.agree)
      ];
    })

module _ (s t : CacheState) (c a : ℕ) (k : IsCoherent s) (core : c < s.cores) (at : a < length s.blocks) where
  -- the address has a line for the core
  within : c < length (block_of s a).lines
  within = omega (arith, k.lines a at)

  -- each transaction keeps all coherent, and what is current
  transaction_kept : IsTransaction s c a t → IsRenewedAt s t a (current s a)
  transaction_kept (inl h) = renewed_at s t a _ _ k at (renewed_get_s _ _ (k.blocks a) c within) h
  transaction_kept (inr (inl h)) = renewed_at s t a _ _ k at (renewed_get_m _ _ (k.blocks a) c within) h
  transaction_kept (inr (inr h)) = renewed_at s t a _ _ k at (renewed_put _ _ (k.blocks a) c within) h

  -- a write keeps all coherent, and is current
  write_kept : (value event : ℕ) → write s c a value event ≡ Ok t → IsRenewedAt s t a (value, Some event)
  write_kept value event h =
      renewed_at s t a _ _ k at (λ u. renewed_write _ _ (k.blocks a) c within u (value, Some event)) h

-- numbers that are all 0
pub zeros : (k i : ℕ) → slice_index (replicate k 0) i ≡ 0
zeros zero i = refl
zeros (suc k) zero = refl
zeros (suc k) (suc i) = zeros k i

-- at first each address is one where no line is valid, with its value
pub opening_block : (cores : ℕ) (init : List ℕ) (a : ℕ)
    → (n : ℕ) × (block_of (opening_with cores init) a ≡ block_with n (slice_index init a))
opening_block cores [] a = (0, refl)
opening_block cores (v ∷ init) zero = (cores, refl)
opening_block cores (v ∷ init) (suc a) = opening_block cores init a

-- the laws of `Laws`: at first all is coherent, and memory's values are current
pub opening_with_is_coherent : OpeningWithIsCoherent
opening_with_is_coherent cores init =
    let each : (a : ℕ) → IsCoherentBlock (block_of (opening_with cores init) a) (slice_index init a, None) =
    λ a. let o = opening_block cores init a in rw o.1 (record {
      pairs = λ c d ne. rw (all_invalid o.0 c) refl;
      copies = λ c. rw (all_invalid o.0 c) (λ g. cc (g));
      clean = λ none. refl;
    }) in (
      record {
        lines = λ a h. ap (λ (b : Block). length b.lines)
            (get_or-map (λ v. block_with cores v) init a 0 _
            (omega (arith, h, length-map init (λ v. block_with cores v))))
            ∙ length-replicate cores invalid;
        blocks = λ a. rw (current_is _ _ (each a)) (each a);
      },
      λ a. current_is _ _ (each a),
    )

-- 0 where that is what memory has
pub opening_is_coherent : OpeningIsCoherent
opening_is_coherent cores addresses =
    let first = opening_with_is_coherent cores (replicate addresses 0) in
    (first.0, λ a. first.1 a ∙ ap (λ (v : ℕ). (v, None)) (zeros addresses a))

-- transactions and writes
pub every_call_keeps_coherence : EveryCallKeepsCoherence
every_call_keeps_coherence s t c a value event k core at (inl made) =
    (transaction_kept s t c a k core at made).coherent
every_call_keeps_coherence s t c a value event k core at (inr wrote) =
    (write_kept s t c a k core at value event wrote).coherent

-- reads
pub every_read_is_current : EveryReadIsCurrent
every_read_is_current s c a copy k h =
    let r = taken_then _ _ _ copy h in
    sym r.1 ∙ (k.blocks a).copies c r.0

-- transactions
pub every_transaction_keeps_current : EveryTransactionKeepsCurrent
every_transaction_keeps_current s t c a b k core at made =
    let is = (transaction_kept s t c a k core at made).current_is b in
    elim (cases_eq b a) [
      | inl e ↦ is ∙ rw (eq-eqb b a e) (ap (current s) (sym e))
      | inr ne ↦ is ∙ rw (ne_eqb b a ne) refl
    ]

-- writes
pub every_write_sets_current : EveryWriteSetsCurrent
every_write_sets_current s t c a value event b k core at wrote =
    (write_kept s t c a k core at value event wrote).current_is b
