-- Texts of campaigns and of surveys, one after another.
use Rattle.std.specs.Prelude.{◌≡◌, ◌≢◌, ◌++◌, ◌∷◌, ◌<◌, ◌^◌, [], ℕ, List, codes, length, ⊤}
use Rattle.std.specs.List.{concat}
use Rattle.ledger.specs.declared.ledger.Ledger.{Ledger}
use Rattle.ledger.specs.Counts.{IsLedger}
use Rattle.ledger.specs.Counted.{campaign_text, survey_text}
use Rattle.ledger.specs.declared.text_kind.Kind.{Kind}
use Rattle.ledger.specs.declared.text_kind.Kind.TheVariants.{Campaign, Survey}

-- the name of all, as the first line has it
abbrev pub all_name : Kind → List ℕ
all_name Campaign = codes "trials"
all_name Survey = codes "recordings"

-- the name of what has no verdict
abbrev pub unjudged_name : Kind → List ℕ
unjudged_name Campaign = codes "unfinished"
unjudged_name Survey = codes "refused"

-- the name of one
abbrev pub noun : Kind → List ℕ
noun Campaign = codes "trial"
noun Survey = codes "recording"

-- the text of a ledger
abbrev pub text_of : Kind → Ledger → List ℕ
text_of Campaign l = campaign_text l
text_of Survey l = survey_text l

-- the bytes begin with the text of the ledger of these codes, which a number of 64 bits counts
pub record BeginsWithLedger (kind : Kind) (codes bytes more : List ℕ) : Type 0 where
  pub ledger : Ledger
  pub is : IsLedger codes ledger
  pub few : length codes < 2 ^ 64
  pub text : bytes ≡ text_of kind ledger ++ more

-- the bytes are the texts of the ledgers of these lists of codes, one after another
abbrev pub AreLedgerTexts : Kind → List (List ℕ) → List ℕ → Type 0
AreLedgerTexts kind [] bytes = bytes ≡ []
AreLedgerTexts kind (codes ∷ lists) bytes = (more : List ℕ) × BeginsWithLedger kind codes bytes more
    × AreLedgerTexts kind lists more

-- the bytes are one such text or more, and these are their codes, joined
pub record IsFile (kind : Kind) (codes bytes : List ℕ) : Type 0 where
  pub some : bytes ≢ []
  pub lists : List (List ℕ)
  pub texts : AreLedgerTexts kind lists bytes
  pub joined : codes ≡ concat lists

-- so it is of each file
abbrev pub AreFiles : Kind → List (List ℕ) → List (List ℕ) → Type 0
AreFiles kind [] [] = ⊤
AreFiles kind [] (bytes ∷ files) = ⊥
AreFiles kind (codes ∷ lists) [] = ⊥
AreFiles kind (codes ∷ lists) (bytes ∷ files) = IsFile kind codes bytes × AreFiles kind lists files
