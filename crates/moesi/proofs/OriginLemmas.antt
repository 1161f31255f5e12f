-- Lemmas on where the copies come from.
use Rattle.std.proofs.Common.{◌≡◌, ◌⊎◌, inl, inr, ℕ, true, cond, Option, Some, None, Result, Ok, Err, []}
use Rattle.std.proofs.Common.{refl, sym, ap, subst}
use Rattle.std.proofs.lemmas.Bool.{cond_both}
use Rattle.moesi.specs.declared.cell.Cell.{Cell}
use Rattle.moesi.specs.declared.word.Turn.{Turn}
use Rattle.moesi.specs.declared.word.Turn.TheVariants.{Share, Invalidate, LeaveStale}
use Rattle.moesi.specs.declared.error.CacheError.{CacheError}
use Rattle.moesi.specs.Lines.{is_valid, is_owned, is_shared, supplies}
use Rattle.moesi.specs.Block.{Block, cell_of, invalid, with_line, block_by, supplied, HasBlock}
use Rattle.moesi.specs.Rows as row
use Rattle.moesi.specs.State.{CacheState, block_of, at_address, with_block, Has}
use Rattle.moesi.specs.Laws.{EveryCopyWasThere, EveryWriteAddsItself}
use Rattle.moesi.proofs.LineLemmas.{supplier_valid, lowered_valid}
use Rattle.moesi.proofs.BlockLemmas.{set_cases, copy_where-holds, turned_cell}
use Rattle.moesi.proofs.RowLemmas.{taken_else, taken_then}

-- what another core's transaction makes of a line: I, or as valid as it was with the same data
pub turned_cases : (turn : Turn) (x : Cell) → (row.turned turn x ≡ invalid)
    ⊎ ((is_valid (row.turned turn x).line ≡ is_valid x.line) × ((row.turned turn x).copy ≡ x.copy))
turned_cases Share x = inr (lowered_valid x.line, refl)
turned_cases Invalidate x = inl refl
turned_cases LeaveStale x =
    cond_both (is_shared x.line) x invalid
    (λ y. (y ≡ invalid) ⊎ ((is_valid y.line ≡ is_valid x.line) × (y.copy ≡ x.copy)))
    (λ _. inr (refl, refl)) (λ _. inl refl)

-- what holds of all data of a block and of those of a line, if it is valid, holds of all once a core has that line
with_line_has : (P : ℕ × Option ℕ → Type 0) (b : Block) (c : ℕ) (x : Cell)
    → ((w : ℕ × Option ℕ) → HasBlock b w → P w) → (is_valid x.line ≡ true → P x.copy)
    → (w : ℕ × Option ℕ) → HasBlock (with_line b c x) w → P w
with_line_has P b c x old own w (inl e) = old w (inl e)
with_line_has P b c x old own w (inr h) = elim (set_cases b.lines c x h.0 invalid) [
  | inl g ↦ old w (inr (h.0, rw g.1 at h.1, rw g.1 at h.2))
  | inr g ↦ subst P (rw g.1 at h.2) (own (rw g.1 at h.1))
]

-- a block that another core's transaction turned has no new data
turned_has : (turn : Turn) (b : Block) (w : ℕ × Option ℕ) → HasBlock (block_by (row.turned turn) b) w → HasBlock b w
turned_has turn b w (inl e) = inl e
turned_has turn b w (inr h) = elim (turned_cases turn (cell_of b h.0)) [
  | inl g ↦ let on = rw (turned_cell turn b h.0, g) at h.1 in cc (on)
  | inr g ↦ inr (h.0, rw (turned_cell turn b h.0, g.0) at h.1, rw (turned_cell turn b h.0, g.1) at h.2)
]

module _ (b u : Block) (c : ℕ) (w : ℕ × Option ℕ) where
  -- the requester's copy is what it is given, and memory stays
  given : (turn : Turn) (x : Cell) → x.copy ≡ supplied b → with_line (block_by (row.turned turn) b) c x ≡ u
      → HasBlock u w → HasBlock b w
  given turn x is e h =
      with_line_has (HasBlock b) _ c x (turned_has turn b) (λ _. rw is
      (copy_where-holds (HasBlock b) supplies b.lines b.memory refl (λ d g. inr (d, supplier_valid _ g, refl))
      (λ _. inl refl))) w (rw (← e) at h)

  -- GetS makes no data
  has_get_s : row.get_s b c ≡ Ok u → HasBlock u w → HasBlock b w
  has_get_s e = given Share _ refl (taken_else _ _ _ u e).1

  -- GetM makes no data, with the fault or without
  has_get_m : (turn : Turn) → row.get_m_by turn b c ≡ Ok u → HasBlock u w → HasBlock b w
  has_get_m turn e = given turn _ refl (taken_else _ _ _ u e).1

  -- Put makes no data
  has_put : row.put b c ≡ Ok u → HasBlock u w → HasBlock b w
  has_put e h =
      let t = taken_then _ _ _ u e in
      let memory = cond_both (is_owned (cell_of b c).line) (cell_of b c).copy b.memory (HasBlock b)
      (λ _. inr (c, t.0, refl)) (λ _. inl refl) in
      with_line_has (HasBlock b)
      (record { lines = b.lines; memory = cond (is_owned (cell_of b c).line) (cell_of b c).copy b.memory }) c invalid
      (λ v g. elim g [ inl m ↦ subst (HasBlock b) m memory | inr m ↦ inr m ]) (λ g. cc (g)) w (rw (← t.1) at h)

  -- a write makes its own data alone
  has_write : (v : ℕ × Option ℕ) → row.write b c v ≡ Ok u → HasBlock u w → HasBlock b w ⊎ (w ≡ v)
  has_write v e h =
      with_line_has (λ z. HasBlock b z ⊎ (z ≡ v)) b c _ (λ z g. inl g) (λ _. inr refl) w
      (rw (← (taken_then _ _ _ u e).1) at h)

-- a row at one address leaves the others
pub block_after : (s t : CacheState) (a b : ℕ) (r : Result Block CacheError) → at_address s a r ≡ Ok t
    → (block_of t b ≡ block_of s b) ⊎ ((b ≡ a) × (r ≡ Ok (block_of t b)))
block_after s t a b (Err e) h = cc (h)
block_after s t a b (Ok u) h =
    let is : with_block s a u ≡ t = cc (h) in
    rw (← is) (elim (set_cases s.blocks a u b (record { lines = []; memory = (0, None) })) [
      | inl g ↦ inl g.1
      | inr g ↦ inr (g.0, ap Ok (sym g.1))
    ])

-- a row that makes no data at its address makes none
moved : (s t : CacheState) (a b : ℕ) (w : ℕ × Option ℕ) (r : Result Block CacheError) → at_address s a r ≡ Ok t
    → ((u : Block) → r ≡ Ok u → HasBlock u w → Has s a w) → Has t b w → Has s b w
moved s t a b w r k row h =
    elim (block_after s t a b r k) [ inl g ↦ rw g at h | inr g ↦ rw g.0 (row (block_of t b) g.1 h) ]

-- the laws of `Laws`: transactions
pub every_copy_was_there : EveryCopyWasThere
every_copy_was_there s t c a b w (inl (inl k)) = moved s t a b w _ k (λ u. has_get_s (block_of s a) u c w)
every_copy_was_there s t c a b w (inl (inr (inl k))) =
    moved s t a b w _ k (λ u. has_get_m (block_of s a) u c w Invalidate)
every_copy_was_there s t c a b w (inl (inr (inr k))) = moved s t a b w _ k (λ u. has_put (block_of s a) u c w)
every_copy_was_there s t c a b w (inr k) = moved s t a b w _ k (λ u. has_get_m (block_of s a) u c w LeaveStale)

-- writes
pub every_write_adds_itself : EveryWriteAddsItself
every_write_adds_itself s t c a value event b w k h =
    elim (block_after s t a b _ k) [
      | inl g ↦ inl (rw g at h)
      | inr g ↦ elim (has_write (block_of s a) (block_of t b) c w (value, Some event) g.1 h) [
        | inl q ↦ inl (rw g.0 q)
        | inr q ↦ inr (g.0, q)
      ]
    ]
