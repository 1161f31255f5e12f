-- Chains of lists: those in one bucket, the last first.
use Rattle.std.specs.Prelude.{◌≡◌, ◌<◌, ◌≤◌, ◌+◌, ◌*◌, ◌/◌, ◌%◌, ◌^◌, ◌==◌, ℕ, zero, suc, Bool, if◌then◌else◌, List}
use Rattle.std.specs.Prelude.{[], ◌∷◌}
use Rattle.std.specs.Prelude.{length, nat_eq, slice_index, slice_index_or}
use Rattle.std.specs.Cmp.Lexicographic.{pointwise}
use Rattle.indexmap.specs.IndexSet.{insert_key}

-- a number by which a list is found, after two words more
abbrev pub mixed : ℕ → ℕ → ℕ → ℕ
mixed h first second = (h + (first + second * 2 ^ 32)) % 2 ^ 64 * 11400714819323198485 % 2 ^ 64

abbrev pub hash_from : ℕ → List ℕ → ℕ
hash_from h [] = h
hash_from h (first ∷ []) = mixed h first 0
hash_from h (first ∷ second ∷ words) = hash_from (mixed h first second) words

-- the bucket of a list, of this many
abbrev pub bucket_of : ℕ → List ℕ → ℕ
bucket_of size list = hash_from 0 list / 2 ^ 32 % size

-- the last of the first n lists that are in bucket b, counted from 1; 0 where none is
abbrev pub last_in : ℕ → List (List ℕ) → ℕ → ℕ → ℕ
last_in size lists b zero = 0
last_in size lists b (suc n) =
    if bucket_of size (slice_index_or lists n []) == b then suc n else last_in size lists b n

-- heads has for each bucket its last list, and next for each list the one before it in its bucket, of the first n lists
pub record AreChained (lists : List (List ℕ)) (n : ℕ) (heads next : List ℕ) : Type 0 where
  pub some : 0 < length heads
  pub head : (b : ℕ) → b < length heads → slice_index heads b ≡ last_in (length heads) lists b n
  pub room : n ≤ length next
  pub before : (i : ℕ) → i < n → slice_index next i
      ≡ last_in (length heads) lists (bucket_of (length heads) (slice_index_or lists i [])) i

-- all lists are linked, and there is room for the words of one
pub record IsLinked (width : ℕ) (lists : List (List ℕ)) (heads next words : List ℕ) : Type 0 where
  pub chained : AreChained lists (length lists) heads next
  pub room : length words ≡ width

-- whether two lists are one
abbrev pub same_list : List ℕ → List ℕ → Bool
same_list = pointwise nat_eq

-- the lists, with one more at the end, unless it is among them
abbrev pub with_list : List (List ℕ) → List ℕ → List (List ℕ)
with_list lists list = insert_key same_list lists list
