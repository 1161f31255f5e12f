-- What is made of texts, or why nothing is.
use Rattle.std.specs.Prelude.{◌≡◌, ◌+◌, ◌++◌, ◌<◌, ◌≤◌, ◌^◌, ℕ, List, length, take, ⊤}
use Rattle.std.specs.List.{concat}
use Rattle.ledger.specs.declared.ledger.Ledger.{Ledger}
use Rattle.ledger.specs.Counts.{IsLedger}
use Rattle.ledger.specs.declared.merge_error.MergeError.{MergeError}
use Rattle.ledger.specs.declared.merge_error.MergeError.TheVariants as errors
use Rattle.ledger.specs.declared.merge_error.MergeRefusal.{MergeRefusal}
use Rattle.ledger.specs.declared.merge_error.MergeRefusal.TheVariants.{NoLine, NoCodes, OtherKind, TooMany, OtherCampaign}
use Rattle.ledger.specs.declared.merge_error.MergeRefusal.TheVariants.{NoHeader}
use Rattle.ledger.specs.declared.merge_error.TextError.{TextError}
use Rattle.ledger.specs.declared.merge_error.TextError.TheVariants.{Refused, OutOfMemory}
use Rattle.ledger.specs.declared.text_kind.Kind.{Kind}
use Rattle.ledger.specs.declared.merged.Merged.{Merged}
use Rattle.ledger.specs.TextOf.{HasTextOf}
use Rattle.ledger.specs.Texts.{AreFiles, BeginsWithLedger, IsFile}

-- this many codes are refused: there are too many, and by no other number
abbrev pub Refuses : MergeRefusal → ℕ → Type 0
Refuses TooMany count = 2 ^ 64 ≤ count
Refuses NoLine count = ⊥
Refuses NoCodes count = ⊥
Refuses OtherKind count = ⊥
Refuses OtherCampaign count = ⊥
Refuses NoHeader count = ⊥

-- a ledger is read, and it tells of all codes with whose text the bytes begin
pub record IsTextRead (kind : Kind) (before after : List ℕ) (ledger : Ledger) : Type 0 where
  pub codes : List ℕ
  pub begins : BeginsWithLedger kind codes before after
  pub is : IsLedger codes ledger
  pub only : (others more : List ℕ) → BeginsWithLedger kind others before more
      → (after ≡ more) × HasTextOf kind others ledger

-- no text of the kind begins the bytes, or there is no memory
abbrev pub IsNoText : Kind → List ℕ → TextError → Type 0
IsNoText kind before OutOfMemory = ⊤
IsNoText kind before (Refused refusal left) = (codes more : List ℕ) → BeginsWithLedger kind codes before more → ⊥

-- the codes of one text are added
pub record IsTextAdded (kind : Kind) (old new : Ledger) (before after : List ℕ) : Type 0 where
  pub codes : List ℕ
  pub begins : BeginsWithLedger kind codes before after
  pub sum : (earlier : List ℕ) → IsLedger earlier old → IsLedger (earlier ++ codes) new
  pub only : (others more : List ℕ) → BeginsWithLedger kind others before more → (after ≡ more)
      × ((earlier : List ℕ) → HasTextOf kind earlier old → HasTextOf kind (earlier ++ others) new)

-- why they are not
abbrev pub IsLedgerTextError : Kind → Ledger → List ℕ → TextError → Type 0
IsLedgerTextError kind old before OutOfMemory = ⊤
IsLedgerTextError kind old before (Refused refusal left) = (codes more : List ℕ)
    → BeginsWithLedger kind codes before more
    → Refuses refusal (old.total + length codes)

-- the codes of one file are added
pub record IsFileAdded (kind : Kind) (old new : Ledger) (bytes : List ℕ) : Type 0 where
  pub codes : List ℕ
  pub file : IsFile kind codes bytes
  pub sum : (earlier : List ℕ) → IsLedger earlier old → IsLedger (earlier ++ codes) new
  pub only : (others : List ℕ) → IsFile kind others bytes → (earlier : List ℕ) → HasTextOf kind earlier old
      → HasTextOf kind (earlier ++ others) new

-- why they are not
abbrev pub IsFileError : Kind → Ledger → List ℕ → TextError → Type 0
IsFileError kind old bytes OutOfMemory = ⊤
IsFileError kind old bytes (Refused refusal left) = (codes : List ℕ) → IsFile kind codes bytes
    → Refuses refusal (old.total + length codes)

-- the files are texts of one kind, of the codes of this ledger; and whatever codes' texts they are, the ledger tells of
-- them all
pub record IsMerge (files : List (List ℕ)) (m : Merged) : Type 0 where
  pub codes : List (List ℕ)
  pub files_are : AreFiles m.kind codes files
  pub ledger : IsLedger (concat codes) m.ledger
  pub only : (kind : Kind) (others : List (List ℕ)) → AreFiles kind others files → (kind ≡ m.kind)
      × HasTextOf kind (concat others) m.ledger

-- the files up to this one are no texts of one kind, or of 2^64 codes or more, whatever comes after them; or there is
-- no memory
abbrev pub IsMergingError : List (List ℕ) → MergeError → Type 0
IsMergingError files errors.OutOfMemory = ⊤
IsMergingError files (errors.Gap seam) = ⊥
IsMergingError files (errors.Overlap seam) = ⊥
IsMergingError files (errors.Refused refusal file line) = (file < length files)
    × ((kind : Kind) (codes later : List (List ℕ)) → AreFiles kind codes (take (file + 1) files ++ later)
    → Refuses refusal (length (concat codes)))

-- a fault of this file as one of all files
abbrev pub IsLocated : TextError → ℕ → MergeError → Type 0
IsLocated OutOfMemory file error = error ≡ errors.OutOfMemory
IsLocated (Refused refusal left) file errors.OutOfMemory = ⊥
IsLocated (Refused refusal left) file (errors.Gap seam) = ⊥
IsLocated (Refused refusal left) file (errors.Overlap seam) = ⊥
IsLocated (Refused refusal left) file (errors.Refused same at line) = (same ≡ refusal) × (at ≡ file)
