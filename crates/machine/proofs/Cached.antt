-- What a step that the caches allow does to them.
use Rattle.std.proofs.Common.{◌≡◌, inl, inr, ℕ, Bool, true, false, Option, Some, None, Result, Ok}
use Rattle.std.proofs.Common.{Err, List, length, slice_index, slice_set, refl}
use Rattle.std.proofs.Common.{sym, ap, subst, ◌∙◌, length-set}
use Rattle.std.specs.Prelude.{IsTrue}
use Rattle.moesi.specs.declared.error.CacheError.{CacheError}
use Rattle.moesi.specs.declared.error.CacheError.TheVariants.{C4}
use Rattle.moesi.specs.Lines.{is_valid, is_exclusive}
use Rattle.moesi.specs.Block.{Block, invalid, HasBlock}
use Rattle.moesi.specs.Rows as row
use Rattle.moesi.specs.State.{CacheState, block_of, line_of, copy_of, opening_with, at_address, read, write}
use Rattle.moesi.specs.State.{Has}
use Rattle.moesi.specs.Laws.{IsTransaction, IsAnyTransaction}
use Rattle.moesi.proofs.LineLemmas.{exclusive_valid}
use Rattle.moesi.proofs.BlockLemmas.{all_invalid}
use Rattle.moesi.proofs.RowLemmas.{taken_then}
use Rattle.moesi.proofs.CacheLemmas.{opening_block}

-- there are as many cores and addresses as before
pub record IsAsLarge (s t : CacheState) : Type 0 where
  pub cores : t.cores ≡ s.cores
  pub blocks : length t.blocks ≡ length s.blocks

-- a row at one address keeps their number
at_address_large : (s t : CacheState) (a : ℕ) (r : Result Block CacheError) → at_address s a r ≡ Ok t
    → IsAsLarge s t
at_address_large s t a (Err e) h = cc (h)
at_address_large s t a (Ok b) h =
    let one : record { cores = s.cores; blocks = slice_set s.blocks a b } ≡ t = cc (h) in
    record {
      cores = ap (λ (x : CacheState). x.cores) (sym one);
      blocks = ap (λ (x : CacheState). length x.blocks) (sym one) ∙ length-set s.blocks a b;
    }

-- a write keeps their number
pub written_large : (s t : CacheState) (c a value event : ℕ) → write s c a value event ≡ Ok t → IsAsLarge s t
written_large s t c a value event h = at_address_large s t a _ h

-- so does a transaction
pub transaction_large : (s t : CacheState) (c a : ℕ) → IsTransaction s c a t → IsAsLarge s t
transaction_large s t c a (inl h) = at_address_large s t a _ h
transaction_large s t c a (inr (inl h)) = at_address_large s t a _ h
transaction_large s t c a (inr (inr h)) = at_address_large s t a _ h

-- and a faulty one
pub any_large : (s t : CacheState) (c a : ℕ) → IsAnyTransaction s c a t → IsAsLarge s t
any_large s t c a (inl h) = transaction_large s t c a h
any_large s t c a (inr h) = at_address_large s t a _ h

-- what is read is a valid line's
pub read_is : (s : CacheState) (c a : ℕ) (copy : ℕ × Option ℕ) → read s c a ≡ Ok copy
    → IsTrue (is_valid (line_of s c a)) × (copy_of s c a ≡ copy)
read_is s c a copy h = taken_then _ _ _ copy h

-- what is read is there
pub read_has : (s : CacheState) (c a : ℕ) (copy : ℕ × Option ℕ) → read s c a ≡ Ok copy → Has s a copy
read_has s c a copy h =
    let r = read_is s c a copy h in
    inr (c, r.0, r.1)

-- a row that changes an address was allowed
at_one : (s t : CacheState) (a : ℕ) (r : Result Block CacheError) → at_address s a r ≡ Ok t
    → (u : Block) × (r ≡ Ok u)
at_one s t a (Ok u) h = (u, refl)
at_one s t a (Err e) h = cc (h)

-- a line that may be written
written_exclusive : (s t : CacheState) (c a value event : ℕ) → write s c a value event ≡ Ok t
    → is_exclusive (line_of s c a) ≡ true
written_exclusive s t c a value event h =
    let wrote = at_one s t a (row.write (block_of s a) c (value, Some event)) h in
    (taken_then _ _ _ wrote.0 wrote.1).0

-- a line that may be written may be read
pub written_read : (s t : CacheState) (c a value event : ℕ) → write s c a value event ≡ Ok t
    → read s c a ≡ Ok (copy_of s c a)
written_read s t c a value event h =
    rw (exclusive_valid (line_of s c a) (written_exclusive s t c a value event h)) refl

-- a line that is M or E may be read
pub exclusive_read : (s : CacheState) (c a : ℕ) → is_exclusive (line_of s c a) ≡ true
    → read s c a ≡ Ok (copy_of s c a)
exclusive_read s c a h = rw (exclusive_valid (line_of s c a) h) refl

-- a line that may not be read may not be written
pub unread_unwritten : (s : CacheState) (c a value event : ℕ) (e : CacheError) → read s c a ≡ Err e
    → write s c a value event ≡ Err C4
unread_unwritten s c a value event e h = go (is_exclusive (line_of s c a)) refl
  where
    valid : is_exclusive (line_of s c a) ≡ true → read s c a ≡ Ok (copy_of s c a)
    valid k = rw (exclusive_valid (line_of s c a) k) refl

    go : (b : Bool) → is_exclusive (line_of s c a) ≡ b → write s c a value event ≡ Err C4
    go true is =
        absurd (let clash : (let r : Result (ℕ × Option ℕ) CacheError = Ok (copy_of s c a) in r) ≡ Err e =
        sym (valid is) ∙ h in cc)
    go false is = rw is refl

-- at first the initial value with no event is there, and nothing else
pub opening_has : (cores : ℕ) (init : List ℕ) (a : ℕ) (copy : ℕ × Option ℕ)
    → Has (opening_with cores init) a copy → copy ≡ (slice_index init a, None)
opening_has cores init a copy h =
    let o = opening_block cores init a in
    elim (subst (λ (b : Block). HasBlock b copy) o.1 h) [
      | inl m ↦ sym m
      | inr k ↦ let off : is_valid invalid.line ≡ true = rw (all_invalid o.0 k.0) at k.1 in cc (off)
    ]
