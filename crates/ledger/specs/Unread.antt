-- Why bytes are no texts with headers.
use Rattle.std.specs.Prelude.{◌≡◌, ◌++◌, ◌∷◌, ◌<◌, [], ℕ, List, Option, None, Some, All, length, slice_index_or}
use Rattle.std.specs.Prelude.{take, ⊤}
use Rattle.std.specs.List.{flat_map}
use Rattle.headers.specs.declared.header.Header.{Header}
use Rattle.ledger.specs.declared.merge_error.MergeError.{MergeError}
use Rattle.ledger.specs.declared.merge_error.MergeError.TheVariants as errors
use Rattle.ledger.specs.declared.merge_error.MergeRefusal.{MergeRefusal}
use Rattle.ledger.specs.declared.merge_error.TextError.{TextError}
use Rattle.ledger.specs.declared.merge_error.TextError.TheVariants.{Refused, OutOfMemory}
use Rattle.ledger.specs.Sections.{AreAlike, AreOf, AreSections, IsSection, HasSections, Section, bytes_of}

-- no section begins these bytes, or there is no memory
abbrev pub IsNoSection : List ℕ → TextError → Type 0
IsNoSection rest OutOfMemory = ⊤
IsNoSection rest (Refused refusal left) = (t : Section) (more : List ℕ) → IsSection t → rest ≡ bytes_of t ++ more → ⊥

-- no section with this header has a text that begins these bytes, or there is no memory
abbrev pub IsNoSectionUnder : Header → List ℕ → TextError → Type 0
IsNoSectionUnder header rest OutOfMemory = ⊤
IsNoSectionUnder header rest (Refused refusal left) = (t : Section) (more : List ℕ) → IsSection t
    → t.header ≡ header → rest ≡ t.text ++ more → ⊥

-- a section counts something else than those before it, or not
abbrev pub IsOther : List Section → Section → Option MergeRefusal → Type 0
IsOther before s None = AreOf s.header.counted before
IsOther before s (Some refusal) = AreOf s.header.counted before → ⊥

-- the section that begins the bytes comes after the others, and all count the same
pub record IsSectionAdded (old new : List Section) (before after : List ℕ) : Type 0 where
  pub section : Section
  pub is : IsSection section
  pub bytes : before ≡ bytes_of section ++ after
  pub joined : new ≡ old ++ section ∷ []
  pub alike : AreAlike new

-- no section begins the bytes that counts the same as those before it, or there is no memory
abbrev pub IsNoneAdded : List Section → List ℕ → TextError → Type 0
IsNoneAdded before rest OutOfMemory = ⊤
IsNoneAdded before rest (Refused refusal left) = (t : Section) (more : List ℕ) → IsSection t
    → rest ≡ bytes_of t ++ more → AreOf t.header.counted before → ⊥

-- the sections of a file come after the others, and all count the same
pub record IsFileOfSections (old new : List Section) (bytes : List ℕ) : Type 0 where
  pub sections : List Section
  pub are : HasSections sections bytes
  pub joined : new ≡ old ++ sections
  pub alike : AreAlike new

-- after these sections, and some of a file, comes none that counts the same
pub record IsUnreadFrom (before : List Section) (bytes : List ℕ) : Type 0 where
  pub done : List Section
  pub rest : List ℕ
  pub bytes_are : bytes ≡ flat_map bytes_of done ++ rest
  pub are : All IsSection done
  pub none : (t : Section) (more : List ℕ) → IsSection t → rest ≡ bytes_of t ++ more
      → AreOf t.header.counted (before ++ done) → ⊥

-- so it is of a file, or there is no memory
abbrev pub IsUnreadFile : List Section → List ℕ → TextError → Type 0
IsUnreadFile before bytes OutOfMemory = ⊤
IsUnreadFile before bytes (Refused refusal left) = IsUnreadFrom before bytes

-- the files before this one are sections, and it does not go on from them with sections that count the same
pub record IsUnreadAmong (files : List (List ℕ)) (file : ℕ) : Type 0 where
  pub low : file < length files
  pub before : List Section
  pub are : AreSections (take file files) before
  pub unread : IsUnreadFrom before (slice_index_or files file [])

-- why files are no sections that count the same
abbrev pub IsUnread : List (List ℕ) → MergeError → Type 0
IsUnread files errors.OutOfMemory = ⊤
IsUnread files (errors.Refused refusal file line) = IsUnreadAmong files file
IsUnread files other = ⊥
