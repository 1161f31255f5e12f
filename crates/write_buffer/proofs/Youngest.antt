-- Going on by one entry.
use Rattle.std.proofs.Common.{◌≡◌, ℕ, ◌+◌, ◌==◌, List, ◌∷◌, drop, slice_get, Option, Some, None}
use Rattle.std.proofs.Common.{if◌then◌else◌, Bool, true, false, refl, ap, ◌∙◌, add-one, drop-cons}
use Rattle.std.proofs.lemmas.Option.{slice_get_within, get_or_from_slice_get}
use Rattle.write_buffer.specs.declared.entry.Entry.{Entry}
use Rattle.write_buffer.specs.Buffer.{or_else, youngest}

-- the list from an index on begins with the item there
pub drop_front : {X : Type 0} (xs : List X) (i : ℕ) (x : X) → slice_get xs i ≡ Some x → drop i xs ≡ x ∷ drop
    (i + 1) xs
drop_front xs i x here = rw (
  drop-cons xs i x (slice_get_within xs i x here),
  get_or_from_slice_get xs i x x here,
  add-one,
) refl

-- the first of three that is there, whichever two are asked first
pub or_else-assoc : (p q r : Option Entry) → or_else (or_else p q) r ≡ or_else p (or_else q r)
or_else-assoc None q r = refl
or_else-assoc (Some x) q r = refl

-- the entry, or else what was found before
pub or_else-if : (b : Bool) (x : Entry) (found : Option Entry) → or_else (if b then Some x else None) found ≡
    (if b then Some x else found)
or_else-if true x found = refl
or_else-if false x found = refl

-- an entry that is found is what was found before, from the next entry on
pub or_else-found : (p : Option Entry) (a : ℕ) (x : Entry) (found : Option Entry) →
    or_else (or_else p (if x.addr == a then Some x else None)) found ≡ or_else p
    (if x.addr == a then Some x else found)
or_else-found p a x found = or_else-assoc p _ found ∙ ap (or_else p) (or_else-if (x.addr == a) x found)

-- what is left to look at loses its first entry
pub youngest_step : (found : Option Entry) (a : ℕ) (xs : List Entry) (i : ℕ) (x : Entry)
    → slice_get xs i ≡ Some x →
    or_else (youngest (drop i xs) a) found ≡ or_else (youngest (drop (i + 1) xs) a)
    (if x.addr == a then Some x else found)
youngest_step found a xs i x here = rw (drop_front xs i x here)
    (or_else-found (youngest (drop (i + 1) xs) a) a x found)
