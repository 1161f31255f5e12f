-- The members of values, put together.
use Rattle.std.proofs.Common.{◌≡◌, ℕ, List, Option, true, is_some, codes, refl}
use Rattle.std.specs.List.{list_any, AllByRecursion}
use Rattle.serde_json.specs.Data.{Data, object, Members, no_members, put}
use Rattle.recorder.specs.Text.{number_data, list_data}
use Rattle.values.specs.Values.{Values}
use Rattle.values_text.specs.Text.{known_cores, known_data, final_data, values_data, written_finals, AreFittingFinals}
use Rattle.values_text.specs.Text.{IsFittingFinal}

-- the parts of values, with their final values
pub record AreParts (v : Values) (c i n f : Data) : Type 0 where
  pub cores : c ≡ list_data (list_data known_data) (known_cores v.cores v.sources)
  pub init : i ≡ list_data number_data v.initial
  pub version : n ≡ number_data 3
  pub finals : f ≡ list_data final_data v.final_values

-- the contents with final values
pub full_contents : (v : Values) (m n o p q : Members) (cores init version finals : Data) → m ≡ no_members
    → n ≡ put (codes "cores") cores m → o ≡ put (codes "init") init n → p ≡ put (codes "version") version o
    → q ≡ put (codes "final") finals p → AreParts v cores init version finals
    → list_any is_some v.final_values ≡ true → object q ≡ values_data v
full_contents v m n o p q cores init version finals first second third fourth fifth parts one = rw (
  fifth,
  fourth,
  third,
  second,
  first,
  parts.cores,
  parts.init,
  parts.version,
  parts.finals,
  one,
) refl

-- final values that fit
pub finals_fit : (fs : List (Option ℕ)) → list_any is_some fs ≡ true → AllByRecursion IsFittingFinal fs
    → AreFittingFinals (written_finals fs)
finals_fit fs one fit = rw one fit
