-- Lemmas on the rows of the table: when they are taken, and that the lines of the address agree afterwards.
use Rattle.std.proofs.Common.{◌≡◌, ◌≢◌, ◌<◌, ◌⊎◌, inl, inr, ℕ, Bool, true, false, cond, Option, length}
use Rattle.std.proofs.Common.{arith, refl, sym, ◌∙◌, length-set, subst, Ok, Err}
use Rattle.std.proofs.lemmas.Bool.{cond_both, cases_eq}
use Rattle.std.proofs.lemmas.List.{length-map}
use Rattle.moesi.specs.declared.line.Line.TheVariants.{I, S, E}
use Rattle.moesi.specs.declared.cell.Cell.{Cell}
use Rattle.moesi.specs.declared.word.Turn.TheVariants.{Share, Invalidate}
use Rattle.moesi.specs.declared.error.CacheError.{CacheError}
use Rattle.moesi.specs.Lines.{is_valid, is_owned, lowered, compatible}
use Rattle.moesi.specs.Block.{Block, cell_of, invalid, with_line, block_by, has_copy}
use Rattle.moesi.specs.Rows as row
use Rattle.moesi.specs.Coherent.{IsCoherentBlock}
use Rattle.moesi.proofs.BlockLemmas.{set_cases, supplied_is, no_copy, turned_cell}
use Rattle.moesi.proofs.LineLemmas.{invalid_line, not_valid, alone, compatible_both}
use Rattle.moesi.proofs.LineLemmas.{lowered_owned, lowered_valid, beside_lowered, both_lowered}

-- a row that was taken, where its guard refuses
pub taken_else : {A : Type 0} (q : Bool) (e : CacheError) (r t : A) → cond q (Err e) (Ok r) ≡ Ok t
    → (q ≡ false) × (r ≡ t)
taken_else true e r t h = cc (h)
taken_else false e r t h = (refl, cc (h))

-- the same where the guard allows
pub taken_then : {A : Type 0} (q : Bool) (e : CacheError) (r t : A) → cond q (Ok r) (Err e) ≡ Ok t
    → (q ≡ true) × (r ≡ t)
taken_then true e r t h = (refl, cc (h))
taken_then false e r t h = cc (h)

-- a block becomes u, with its lines in number, and w is current there
pub record IsRenewed (b u : Block) (w : ℕ × Option ℕ) : Type 0 where
  pub agree : IsCoherentBlock u w
  pub lines : length u.lines ≡ length b.lines

-- a block with its lines in number, of which one becomes x, beside which the others may stand
with_line_renewed : (o b : Block) (c : ℕ) (x : Cell) (w : ℕ × Option ℕ) → length b.lines ≡ length o.lines
    → c < length o.lines → ((d : ℕ) → d ≢ c → compatible x.line (cell_of b d).line ≡ true)
    → ((d e : ℕ) → d ≢ c → e ≢ c → d ≢ e → compatible (cell_of b d).line (cell_of b e).line ≡ true)
    → (is_valid x.line ≡ true → x.copy ≡ w)
    → ((d : ℕ) → d ≢ c → is_valid (cell_of b d).line ≡ true → (cell_of b d).copy ≡ w)
    → (is_owned x.line ≡ false → ((d : ℕ) → d ≢ c → is_owned (cell_of b d).line ≡ false) → b.memory ≡ w)
    → IsRenewed o (with_line b c x) w
with_line_renewed o b c x w size at own pairs copy copies clean =
    let u : Block = with_line b c x in
    let cell : (d : ℕ) → ((d ≢ c) × (cell_of u d ≡ cell_of b d)) ⊎ ((d ≡ c) × (cell_of u d ≡ x)) =
    λ d. elim (set_cases b.lines c x d invalid) [
      | inl h ↦ inl (λ e. let out = h.0 e in omega arith, h.1)
      | inr h ↦ inr h
    ] in
    record {
      agree = record {
        pairs = λ d e ne. elim (cell d) [
          | inl p ↦ elim (cell e) [
            | inl q ↦ rw (p.1, q.1) (pairs d e p.0 q.0 ne)
            | inr q ↦ rw (p.1, q.1) (compatible_both (cell_of b d).line x.line ∙ own d p.0)
          ]
          | inr p ↦ elim (cell e) [
            | inl q ↦ rw (p.1, q.1) (own e q.0)
            | inr q ↦ absurd (ne (p.0 ∙ sym q.0))
          ]
        ];
        copies = λ d. elim (cell d) [ inl p ↦ rw p.1 (copies d p.0) | inr p ↦ rw p.1 copy ];
        clean = λ none. clean
            (elim (cell c) [ inl p ↦ absurd (p.0 refl) | inr p ↦ rw p.1 at (none c) ])
            (λ d ne. elim (cell d) [ inl p ↦ rw p.1 at (none d) | inr p ↦ absurd (ne p.0) ]);
      };
      lines = length-set b.lines c x ∙ size;
    }

-- what holds of core c and of each other holds of all
at_all : (P : ℕ → Type 0) (c : ℕ) → P c → ((d : ℕ) → d ≢ c → P d) → (d : ℕ) → P d
at_all P c own others d = elim (cases_eq d c) [ inl e ↦ subst P (sym e) own | inr ne ↦ others d ne ]

module _ (b : Block) (v : ℕ × Option ℕ) (k : IsCoherentBlock b v) (c : ℕ) (at : c < length b.lines) (u : Block) where
  -- GetS renews its block
  pub renewed_get_s : row.get_s b c ≡ Ok u → IsRenewed b u v
  renewed_get_s h =
      let t = taken_else _ _ _ u h in
      rw (← t.1) (with_line_renewed b (block_by (row.turned Share) b) c _ v (length-map b.lines (row.turned Share)) at
      (λ d ne. rw turned_cell (cond_both (has_copy b) S E (λ l. compatible l (lowered (cell_of b d).line) ≡ true)
      (λ _. beside_lowered (cell_of b d).line)
      (λ none. rw (invalid_line (cell_of b d).line (no_copy b.lines none d)) refl)))
      (λ d e dn en ne. simp turned_cell (both_lowered _ _ (k.pairs d e ne)))
      (λ _. supplied_is b v k) (λ d ne. rw turned_cell (λ g. k.copies d (sym (lowered_valid _) ∙ g)))
      (λ _ none. k.clean (at_all (λ d. is_owned (cell_of b d).line ≡ false) c (not_valid _ t.0)
      (λ d ne. sym (lowered_owned _) ∙ (rw turned_cell at (none d ne))))))

  -- GetM renews its block
  pub renewed_get_m : row.get_m_by Invalidate b c ≡ Ok u → IsRenewed b u v
  renewed_get_m h =
      rw (← (taken_else _ _ _ u h).1)
      (with_line_renewed b (block_by (row.turned Invalidate) b) c _ v (length-map b.lines (row.turned Invalidate)) at
      (λ d ne. rw (turned_cell Invalidate b d) refl) (λ d e dn en ne. rw (turned_cell Invalidate b d) refl)
      (λ _. supplied_is b v k) (λ d ne. rw (turned_cell Invalidate b d) (λ g. cc (g))) (λ off none. cc (off)))

  -- Put renews its block
  pub renewed_put : row.put b c ≡ Ok u → IsRenewed b u v
  renewed_put h =
      let t = taken_then _ _ _ u h in
      rw (← t.1) (with_line_renewed b (record {
        lines = b.lines;
        memory = cond (is_owned (cell_of b c).line) (cell_of b c).copy b.memory;
      }) c invalid v refl at (λ d ne. refl) (λ d e dn en. k.pairs d e) (λ g. cc (g)) (λ d ne. k.copies d)
      (λ _ none. cond_both (is_owned (cell_of b c).line) (cell_of b c).copy b.memory (λ w. w ≡ v)
      (λ _. k.copies c t.0) (λ off. k.clean (at_all (λ d. is_owned (cell_of b d).line ≡ false) c off none))))

  -- a write renews its block with its own data
  pub renewed_write : (w : ℕ × Option ℕ) → row.write b c w ≡ Ok u → IsRenewed b u w
  renewed_write w h =
      let t = taken_then _ _ _ u h in
      let free : (d : ℕ) → d ≢ c → (cell_of b d).line ≡ I =
      λ d ne. alone _ _ t.0 (k.pairs c d (λ e. ne (sym e))) in
      rw (← t.1) (with_line_renewed b b c _ w refl at (λ d ne. rw (free d ne) refl)
      (λ d e dn en ne. rw (free d dn) refl) (λ _. refl)
      (λ d ne. rw (free d ne) (λ g. cc (g))) (λ off none. cc (off)))
