-- A line in I has value 0 and no event.
use Rattle.std.proofs.Common.{◌≡◌, inl, inr, ℕ, Bool, true, false, cond, Option, Some, None, Result, Ok}
use Rattle.std.proofs.Common.{List, refl, sym, subst, ◌∙◌}
use Rattle.moesi.specs.declared.line.Line.TheVariants.{S, E}
use Rattle.moesi.specs.declared.cell.Cell.{Cell}
use Rattle.moesi.specs.declared.word.Turn.{Turn}
use Rattle.moesi.specs.declared.word.Turn.TheVariants.{Share, Invalidate, LeaveStale}
use Rattle.moesi.specs.declared.error.CacheError.{CacheError}
use Rattle.moesi.specs.Lines.{is_valid}
use Rattle.moesi.specs.Block.{Block, cell_of, invalid, with_line, block_by, has_copy}
use Rattle.moesi.specs.Rows as row
use Rattle.moesi.specs.State.{CacheState, block_of, at_address, opening_with}
use Rattle.moesi.specs.Laws.{HasEmptyLines, EveryCallKeepsEmptyLines}
use Rattle.moesi.proofs.BlockLemmas.{set_cases, all_invalid, turned_cell}
use Rattle.moesi.proofs.RowLemmas.{taken_else, taken_then}
use Rattle.moesi.proofs.CacheLemmas.{opening_block}
use Rattle.moesi.proofs.OriginLemmas.{turned_cases, block_after}

-- a cell in I has value 0 and no event
abbrev EmptyCell : Cell → Type 0
EmptyCell x = is_valid x.line ≡ false → x.copy ≡ (0, None)

-- each line in I of the address has value 0 and no event
abbrev EmptyBlock : Block → Type 0
EmptyBlock b = (c : ℕ) → EmptyCell (cell_of b c)

-- a block with another line
with_line_empty : (b : Block) (c : ℕ) (x : Cell) → EmptyBlock b → EmptyCell x → EmptyBlock (with_line b c x)
with_line_empty b c x before new d = elim (set_cases b.lines c x d invalid) [
  | inl g ↦ rw g.1 (before d)
  | inr g ↦ rw g.1 new
]

-- a block that another core's transaction turned
turned_empty : (turn : Turn) (b : Block) → EmptyBlock b → EmptyBlock (block_by (row.turned turn) b)
turned_empty turn b before d = rw (turned_cell turn b d) (elim (turned_cases turn (cell_of b d)) [
  | inl g ↦ rw g (λ _. refl)
  | inr g ↦ λ h. g.1 ∙ before d (sym g.0 ∙ h)
])

-- the line that GetS gives is valid
valid_fill : (q : Bool) → is_valid (cond q S E) ≡ true
valid_fill true = refl
valid_fill false = refl

module _ (b u : Block) (c : ℕ) (before : EmptyBlock b) where
  -- GetS keeps lines in I empty
  empty_get_s : row.get_s b c ≡ Ok u → EmptyBlock u
  empty_get_s h =
      rw (← (taken_else _ _ _ u h).1)
      (with_line_empty (block_by (row.turned Share) b) c _ (turned_empty Share b before)
      (λ g. cc (g, valid_fill (has_copy b))))

  -- GetM keeps them so, with the fault or without
  empty_get_m : (turn : Turn) → row.get_m_by turn b c ≡ Ok u → EmptyBlock u
  empty_get_m turn h =
      rw (← (taken_else _ _ _ u h).1)
      (with_line_empty (block_by (row.turned turn) b) c _ (turned_empty turn b before) (λ g. cc (g)))

  -- Put keeps them so
  empty_put : row.put b c ≡ Ok u → EmptyBlock u
  empty_put h = rw (← (taken_then _ _ _ u h).1) (with_line_empty b c invalid before (λ g. refl))

  -- a write keeps them so
  empty_write : (w : ℕ × Option ℕ) → row.write b c w ≡ Ok u → EmptyBlock u
  empty_write w h = rw (← (taken_then _ _ _ u h).1) (with_line_empty b c _ before (λ g. cc (g)))

-- a row at one address leaves the others
moved : (s t : CacheState) (a : ℕ) (r : Result Block CacheError) → HasEmptyLines s
    → ((u : Block) → EmptyBlock (block_of s a) → r ≡ Ok u → EmptyBlock u) → at_address s a r ≡ Ok t → HasEmptyLines t
moved s t a r before new h d b = elim (block_after s t a b r h) [
  | inl g ↦ subst (λ (k : Block). EmptyCell (cell_of k d)) (sym g) (before d b)
  | inr g ↦ new (block_of t b) (λ e. before e a) g.1 d
]

-- the laws of `Laws`: transactions and writes keep lines in I empty
pub every_call_keeps_empty_lines : EveryCallKeepsEmptyLines
every_call_keeps_empty_lines s t c a value event k (inl (inl (inl h))) =
    moved s t a _ k (λ u e. empty_get_s (block_of s a) u c e) h
every_call_keeps_empty_lines s t c a value event k (inl (inl (inr (inl h)))) =
    moved s t a _ k (λ u e. empty_get_m (block_of s a) u c e Invalidate) h
every_call_keeps_empty_lines s t c a value event k (inl (inl (inr (inr h)))) =
    moved s t a _ k (λ u e. empty_put (block_of s a) u c e) h
every_call_keeps_empty_lines s t c a value event k (inl (inr h)) =
    moved s t a _ k (λ u e. empty_get_m (block_of s a) u c e LeaveStale) h
every_call_keeps_empty_lines s t c a value event k (inr h) =
    moved s t a _ k (λ u e. empty_write (block_of s a) u c e (value, Some event)) h

-- at first each line is in I, and empty
pub empty_opening_with : (cores : ℕ) (init : List ℕ) → HasEmptyLines (opening_with cores init)
empty_opening_with cores init c a =
    let o = opening_block cores init a in
    subst (λ (k : Block). EmptyCell (cell_of k c)) (sym o.1) (subst EmptyCell (sym (all_invalid o.0 c)) (λ g. refl))
