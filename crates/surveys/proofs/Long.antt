-- When an input is too long.
use Rattle.std.proofs.Common.{◌≡◌, ◌≤◌, ◌+◌, ◌++◌, [], ℕ, List, Option, Some, None, IfSome, arith, ap, length}
use Rattle.std.proofs.Common.{IfErr, IsErrAnd, Result, Ok, Err}
use Rattle.std.proofs.Common.{append-nil, length-append, refl, sym, subst}
use Rattle.std.proofs.KnownBytes.{Consumes-nil, Consumes-trans}
use Rattle.std.specs.Io.KnownBytes.{Consumes}
use Rattle.devices.specs.Bytes.{Gathers}
use Rattle.ledger.specs.declared.survey_ledger.SurveyLedger.{SurveyLedger}
use Rattle.surveys.specs.declared.kind.LineKind.{LineKind}
use Rattle.surveys.specs.declared.reports.Reports.{Reports}
use Rattle.surveys.specs.declared.error.SurveyError.{SurveyError}
use Rattle.surveys.specs.declared.error.SurveyError.TheVariants.{ReadFailed, WriteFailed, OutOfMemory, TooLong}
use Rattle.surveys.specs.Shown.{IsReadBeforeLine}
use Rattle.surveys.specs.Surveys.{IsLong, IsLongRead}
use Rattle.surveys.specs.Tallies.{IsUnderWay}
use Rattle.surveys.proofs.Blocks.{filled}

-- where some bytes are too many, so are more
pub long_more : (e : SurveyError) (n m : ℕ) → n ≤ m → IsLong e n → IsLong e m
long_more ReadFailed n m more long = tt
long_more WriteFailed n m more long = tt
long_more OutOfMemory n m more long = tt
long_more TooLong n m more long = omega arith

-- where bytes that were read are too many
pub long_read : (e : SurveyError) (u v : Option (List ℕ)) (bytes : List ℕ) (n : ℕ) → Consumes u v bytes
    → n ≤ length bytes → IsLong e n → IsLongRead e u v
long_read ReadFailed u v bytes n read more long = tt
long_read WriteFailed u v bytes n read more long = tt
long_read OutOfMemory u v bytes n read more long = tt
long_read TooLong u v bytes n read more long = (bytes, read, omega arith)

-- and after others
pub long_then : (e : SurveyError) (u v w : Option (List ℕ)) (bytes : List ℕ) → Consumes u v bytes → IsLongRead e v w
    → IsLongRead e u w
long_then ReadFailed u v w bytes read long = tt
long_then WriteFailed u v w bytes read long = tt
long_then OutOfMemory u v w bytes read long = tt
long_then TooLong u v w bytes read long = (
  bytes ++ long.0,
  Consumes-trans u v w bytes long.0 read long.1,
  omega (arith, long.2, length-append bytes long.0),
)

-- where no byte is one too many, whatever was read
pub long_none : (e : SurveyError) (u v : Option (List ℕ)) → IsLong e 0 → IsLongRead e u v
long_none ReadFailed u v long = tt
long_none WriteFailed u v long = tt
long_none OutOfMemory u v long = tt
long_none TooLong u v long = absurd (omega arith)

-- where the bytes are known
pub long_known : (e : SurveyError) (u v : Option (List ℕ)) → IsLongRead e u v
    → IfSome u (λ bytes. IsLong e (length bytes))
long_known e None v long = tt
long_known ReadFailed (Some xs) v long = tt
long_known WriteFailed (Some xs) v long = tt
long_known OutOfMemory (Some xs) v long = tt
long_known TooLong (Some xs) None long = absurd long.1
long_known TooLong (Some xs) (Some ys) long =
    omega (arith, long.2, ap (λ (l : List ℕ). length l) long.1, length-append long.0 ys)

-- and where an answer says so
pub known_err : {X : Type 0} (r : Result X SurveyError) (u v : Option (List ℕ)) → IfErr r (λ e. IsLongRead e u v)
    → IfErr r (λ e. IfSome u (λ bytes. IsLong e (length bytes)))
known_err (Ok x) u v long = tt
known_err (Err e) u v long = long_known e u v long

-- what holds of an error holds of an answer that hands it on
pub from_err : {X : Type 0} (r : Result X SurveyError) (e : SurveyError) (Is : SurveyError → Type 0) → Is e
    → IsErrAnd r (λ x. x ≡ e) → IfErr r Is
from_err (Ok x) e Is is same = tt
from_err (Err x) e Is is same = subst Is (sym same) is

-- while a source is surveyed
pub long_way : (kind : LineKind) (reports : Reports) (u v w s t : Option (List ℕ)) (l : SurveyLedger) (n : ℕ)
    (old block : List ℕ) (e : SurveyError)
    → IsUnderWay kind reports u v l n old s t → Gathers v w old block → IsLong e (n + length block) → IsLongRead e u w
long_way kind reports u v w s t l n old block e way gathered = long_read e u w (way.front ++ block) (n + length block)
    (filled u v w way.front old block way.read gathered)
    (omega (arith, way.tally.size, length-append way.front block))

pub long_under : (kind : LineKind) (reports : Reports) (u w s t : Option (List ℕ)) (l : SurveyLedger) (n : ℕ)
    (block : List ℕ) (e : SurveyError)
    → IsUnderWay kind reports u w l n block s t → IsLong e (n + length block) → IsLongRead e u w
long_under kind reports u w s t l n block e way = long_read e u w (way.front ++ block) (n + length block) way.read
    (omega (arith, way.tally.size, length-append way.front block))

-- so many bytes were read
abbrev pub IsReadOf : Option (List ℕ) → Option (List ℕ) → ℕ → Type 0
IsReadOf u v n = (bytes : List ℕ) × Consumes u v bytes × (n ≡ length bytes)

pub read_of_none : (u : Option (List ℕ)) → IsReadOf u u 0
read_of_none u = ([], Consumes-nil u, refl)

module _ (u v w : Option (List ℕ)) (n : ℕ) (old block : List ℕ) (read : IsReadOf u v n) (none : old ≡ [])
    (gathered : Gathers v w old block) where
  more_read : Consumes u w (read.0 ++ block)
  more_read = filled u v w read.0 [] block (subst (λ (l : List ℕ). Consumes u v l) (sym (append-nil read.0)) read.1)
      (subst (λ (l : List ℕ). Gathers v w l block) none gathered)

  pub read_of_more : (m : ℕ) → m ≡ n + length block → IsReadOf u w m
  read_of_more m sum = (read.0 ++ block, more_read, omega (arith, sum, read.2, length-append read.0 block))

  pub long_rest : (e : SurveyError) → IsLong e (n + length block) → IsLongRead e u w
  long_rest e = long_read e u w (read.0 ++ block) (n + length block) more_read
      (omega (arith, read.2, length-append read.0 block))

-- before a line
module _ (u v w : Option (List ℕ)) (k m n : ℕ) (old block : List ℕ) (is : IsReadBeforeLine u v old k m n)
    (gathered : Gathers v w old block) where
  pub long_before : (e : SurveyError) (size : ℕ) → size ≤ length block → IsLong e (n + size) → IsLongRead e u w
  long_before e size within = long_read e u w (is.front ++ block) (n + size)
      (filled u v w is.front old block is.read gathered)
      (omega (arith, is.size, length-append is.front block))

  pub long_later : (e : SurveyError) (x : Option (List ℕ)) → IsLongRead e w x → IsLongRead e u x
  long_later e x = long_then e u w x (is.front ++ block) (filled u v w is.front old block is.read gathered)

-- no bytes are too many where memory ran out
pub memory_known : (u : Option (List ℕ)) → IfSome u (λ bytes. IsLong OutOfMemory (length bytes))
memory_known None = tt
memory_known (Some xs) = tt
