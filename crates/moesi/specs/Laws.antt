-- What holds of the caches whatever the calls.
use Rattle.std.specs.Prelude.{◌≡◌, ◌<◌, ◌==◌, ◌⊎◌, ℕ, Option, if◌then◌else◌, IsTrue, IsFalse, Some, None, Ok}
use Rattle.std.specs.Prelude.{List, length, slice_index}
use Rattle.moesi.specs.Lines.{is_valid}
use Rattle.moesi.specs.State.{CacheState, line_of, copy_of, current, opening_caches, opening_with, get_s}
use Rattle.moesi.specs.State.{get_m, get_m_stale, put, read, write, Has}
use Rattle.moesi.specs.Coherent.{IsCoherent}

-- core c made a transaction of address a
abbrev pub IsTransaction : CacheState → ℕ → ℕ → CacheState → Type 0
IsTransaction s c a t = (get_s s c a ≡ Ok t) ⊎ ((get_m s c a ≡ Ok t) ⊎ (put s c a ≡ Ok t))

-- core c made a transaction of address a, which may be the faulty GetM
abbrev pub IsAnyTransaction : CacheState → ℕ → ℕ → CacheState → Type 0
IsAnyTransaction s c a t = IsTransaction s c a t ⊎ (get_m_stale s c a ≡ Ok t)

-- at first all is coherent, and each address has 0 with no event
abbrev pub OpeningIsCoherent : Type 0
OpeningIsCoherent = (cores addresses : ℕ) → IsCoherent (opening_caches cores addresses)
    × ((a : ℕ) → current (opening_caches cores addresses) a ≡ (0, None))

-- so it is where memory begins with these values, and each address has its value with no event
abbrev pub OpeningWithIsCoherent : Type 0
OpeningWithIsCoherent = (cores : ℕ) (init : List ℕ) → IsCoherent (opening_with cores init)
    × ((a : ℕ) → current (opening_with cores init) a ≡ (slice_index init a, None))

-- a valid line has the current data
abbrev pub EveryCopyIsCurrent : Type 0
EveryCopyIsCurrent = (s : CacheState) (c a : ℕ) → IsCoherent s → IsTrue (is_valid (line_of s c a))
    → copy_of s c a ≡ current s a

-- what is read is current
abbrev pub EveryReadIsCurrent : Type 0
EveryReadIsCurrent = (s : CacheState) (c a : ℕ) (copy : ℕ × Option ℕ) → IsCoherent s
    → read s c a ≡ Ok copy → copy ≡ current s a

-- no transaction changes what is current, at any address
abbrev pub EveryTransactionKeepsCurrent : Type 0
EveryTransactionKeepsCurrent = (s t : CacheState) (c a b : ℕ) → IsCoherent s → c < s.cores
    → a < length s.blocks → IsTransaction s c a t → current t b ≡ current s b

-- what is written is current, at its address alone
abbrev pub EveryWriteSetsCurrent : Type 0
EveryWriteSetsCurrent = (s t : CacheState) (c a value event b : ℕ) → IsCoherent s → c < s.cores
    → a < length s.blocks → write s c a value event ≡ Ok t
    → current t b ≡ (if b == a then (value, Some event) else current s b)

-- transactions and writes keep coherence
abbrev pub EveryCallKeepsCoherence : Type 0
EveryCallKeepsCoherence = (s t : CacheState) (c a value event : ℕ) → IsCoherent s → c < s.cores
    → a < length s.blocks → IsTransaction s c a t ⊎ (write s c a value event ≡ Ok t) → IsCoherent t

-- no transaction makes up data, faulty or not
abbrev pub EveryCopyWasThere : Type 0
EveryCopyWasThere = (s t : CacheState) (c a b : ℕ) (copy : ℕ × Option ℕ) → IsAnyTransaction s c a t
    → Has t b copy → Has s b copy

-- a write adds what it writes, and nothing else
abbrev pub EveryWriteAddsItself : Type 0
EveryWriteAddsItself = (s t : CacheState) (c a value event b : ℕ) (copy : ℕ × Option ℕ)
    → write s c a value event ≡ Ok t → Has t b copy
    → Has s b copy ⊎ ((b ≡ a) × (copy ≡ (value, Some event)))

-- a line in I has value 0 and no event
abbrev pub HasEmptyLines : CacheState → Type 0
HasEmptyLines s = (c a : ℕ) → IsFalse (is_valid (line_of s c a)) → copy_of s c a ≡ (0, None)

-- at first it is so
abbrev pub OpeningHasEmptyLines : Type 0
OpeningHasEmptyLines = (cores addresses : ℕ) → HasEmptyLines (opening_caches cores addresses)

-- also where memory begins with these values
abbrev pub OpeningWithHasEmptyLines : Type 0
OpeningWithHasEmptyLines = (cores : ℕ) (init : List ℕ) → HasEmptyLines (opening_with cores init)

-- transactions and writes keep it so
abbrev pub EveryCallKeepsEmptyLines : Type 0
EveryCallKeepsEmptyLines = (s t : CacheState) (c a value event : ℕ) → HasEmptyLines s
    → IsAnyTransaction s c a t ⊎ (write s c a value event ≡ Ok t) → HasEmptyLines t
