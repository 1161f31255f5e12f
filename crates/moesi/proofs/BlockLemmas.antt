-- Lemmas on the lines of one address, and of what they agree on.
use Rattle.std.proofs.Common.{◌≡◌, ◌≤◌, ◌⊎◌, inl, inr, ℕ, suc, zero, Bool, true, false, Option, List, []}
use Rattle.std.proofs.Common.{◌∷◌, slice_index_or, slice_set, length, replicate, arith, refl, sym, ap, ◌∙◌}
use Rattle.std.specs.List.{list_any}
use Rattle.std.proofs.lemmas.Bool.{cond_both, or_parts}
use Rattle.std.proofs.Math.ListN.{get_or-map}
use Rattle.moesi.specs.declared.line.Line.{Line}
use Rattle.moesi.specs.declared.line.Line.TheVariants.{I}
use Rattle.moesi.specs.declared.cell.Cell.{Cell}
use Rattle.moesi.specs.declared.word.Turn.{Turn}
use Rattle.moesi.specs.declared.word.Turn.TheVariants.{Share, Invalidate, LeaveStale}
use Rattle.moesi.specs.Lines.{is_valid, supplies}
use Rattle.moesi.specs.Block.{Block, cell_of, invalid, block_by, copy_where, supplied, current_of}
use Rattle.moesi.specs.Rows.{turned}
use Rattle.moesi.specs.Coherent.{IsCoherentBlock}
use Rattle.moesi.proofs.LineLemmas.{not_supplier, not_valid, supplier_valid}

-- an element after a write is the old one, or it is at that place and the new one
pub set_cases : {A : Type 0} (xs : List A) (c : ℕ) (y : A) (e : ℕ) (d : A)
    → ((e ≡ c → length xs ≤ c) × (slice_index_or (slice_set xs c y) e d ≡ slice_index_or xs e d)) ⊎
    ((e ≡ c) × (slice_index_or (slice_set xs c y) e d ≡ y))
set_cases [] c y e d = inl (λ k. omega arith, refl)
set_cases (x ∷ xs) zero y zero d = inr (refl, refl)
set_cases (x ∷ xs) zero y (suc e) d = inl (λ k. omega arith, refl)
set_cases (x ∷ xs) (suc c) y zero d = inl (λ k. omega arith, refl)
set_cases (x ∷ xs) (suc c) y (suc e) d = elim (set_cases xs c y e d) [
  | inl h ↦ inl (λ k. let more : length xs ≤ c = h.0 (omega arith) in omega arith, h.1)
  | inr h ↦ inr (ap suc h.0, h.1)
]

-- what holds of each copy of the kind, and of memory without one, holds of what is found
pub copy_where-holds : (P : ℕ × Option ℕ → Type 0) (kind : Line → Bool) (xs : List Cell) (memory : ℕ × Option ℕ)
    → kind I ≡ false
    → ((c : ℕ) → kind (slice_index_or xs c invalid).line ≡ true → P (slice_index_or xs c invalid).copy)
    → (((c : ℕ) → kind (slice_index_or xs c invalid).line ≡ false) → P memory) → P (copy_where kind xs memory)
copy_where-holds P kind [] memory none copies rest = rest (λ c. none)
copy_where-holds P kind (x ∷ xs) memory none copies rest =
    cond_both (kind x.line) x.copy (copy_where kind xs memory) P (λ e. copies 0 e)
    (λ e. copy_where-holds P kind xs memory none (λ c h. copies (suc c) h)
    (λ h. rest (λ c. elim c as (λ n. kind (slice_index_or (x ∷ xs) n invalid).line ≡ false)
    [ zero ↦ e | suc n ↦ h n ])))

-- among lines in I each is
pub all_invalid : (n c : ℕ) → slice_index_or (replicate n invalid) c invalid ≡ invalid
all_invalid zero c = refl
all_invalid (suc n) zero = refl
all_invalid (suc n) (suc c) = all_invalid n c

-- without a copy each line is not valid
pub no_copy : (xs : List Cell) → list_any (λ x. is_valid x.line) xs ≡ false → (c : ℕ)
    → is_valid (slice_index_or xs c invalid).line ≡ false
no_copy [] h c = refl
no_copy (x ∷ xs) h zero = (or_parts _ _ h).0
no_copy (x ∷ xs) h (suc c) = no_copy xs (or_parts _ _ h).1 c

-- each line turns
pub turned_cell : (turn : Turn) (b : Block) (c : ℕ)
    → cell_of (block_by (turned turn) b) c ≡ turned turn (cell_of b c)
turned_cell turn b c =
    ap (λ (x : Cell). slice_index_or (block_by (turned turn) b).lines c x) (sym (still turn))
    ∙ get_or-map (turned turn) b.lines c invalid
  where
    still : (turn : Turn) → turned turn invalid ≡ invalid
    still Share = refl
    still Invalidate = refl
    still LeaveStale = refl

module _ (b : Block) (v : ℕ × Option ℕ) (k : IsCoherentBlock b v) where
  -- a core that asks is given what is current
  pub supplied_is : supplied b ≡ v
  supplied_is =
      copy_where-holds (λ w. w ≡ v) supplies b.lines b.memory refl (λ d h. k.copies d (supplier_valid _ h))
      (λ none. k.clean (λ d. not_supplier _ (none d)))

  -- what the lines agree on is current
  pub current_is : current_of b ≡ v
  current_is =
      copy_where-holds (λ w. w ≡ v) is_valid b.lines b.memory refl k.copies
      (λ none. k.clean (λ d. not_valid _ (none d)))
