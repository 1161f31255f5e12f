-- The sections of files.
use Rattle.std.proofs.Common.{◌≡◌, ◌∙◌, ◌+◌, ◌<◌, ◌++◌, [], ◌∷◌, ℕ, List, ap, append_assoc, append-nil, arith, get_or}
use Rattle.std.proofs.Common.{length, length-append, refl, subst, sym, take, Ok, Err}
use Rattle.std.specs.List.{flat_map}
use Rattle.std.specs.Prelude.{All, IfErr}
use Rattle.std.specs.declared.result.Result.{Result}
use Rattle.std.proofs.lemmas.List.{take_more}
use Rattle.ledger.specs.declared.merge_error.MergeError.{MergeError}
use Rattle.ledger.specs.declared.merge_error.MergeError.TheVariants as errors
use Rattle.ledger.specs.declared.merge_error.TextError.{TextError}
use Rattle.ledger.specs.declared.merge_error.TextError.TheVariants.{Refused, OutOfMemory}
use Rattle.ledger.specs.Merges.{IsLocated}
use Rattle.ledger.specs.Sections.{AreOf, AreSections, AreSectionsOf, HasSections, IsSection, Section, bytes_of}
use Rattle.ledger.specs.Unread.{IsNoSection, IsNoneAdded, IsUnread, IsUnreadAmong, IsUnreadFile}

-- one file more
snoc : (files : List (List ℕ)) (bytes : List ℕ) (s more : List Section) → AreSectionsOf files s → HasSections more bytes
    → AreSectionsOf (files ++ bytes ∷ []) (s ++ more)
snoc [] bytes s more none are = (more, [], are, refl, ap (λ (l : List Section). l ++ more) none ∙ sym (append-nil more))
snoc (first ∷ files) bytes s more h are = (
  h.0,
  h.1 ++ more,
  h.2,
  snoc files bytes h.1 more h.3 are,
  ap (λ (l : List Section). l ++ more) h.4 ∙ append_assoc h.0 h.1 more,
)

pub file_more : (files : List (List ℕ)) (old new more : List Section) (i : ℕ) → i < length files
    → AreSectionsOf (take i files) old → HasSections more (get_or files i []) → new ≡ old ++ more
    → AreSectionsOf (take (i + 1) files) new
file_more files old new more i low h are joined =
    subst (λ (l : List (List ℕ)). AreSectionsOf l new) (sym (take_more files i [] low))
    (subst (λ (l : List Section). AreSectionsOf (take i files ++ get_or files i [] ∷ []) l) (sym joined)
    (snoc (take i files) (get_or files i []) old more h are))

-- a fault of a file is one of all
pub unread_located : (files : List (List ℕ)) (found : List Section) (i : ℕ) (error : TextError) (e : MergeError)
    → i < length files → AreSections (take i files) found → IsUnreadFile found (get_or files i []) error
    → IsLocated error i e → IsUnread files e
unread_located files found i OutOfMemory e low are unread at = subst (IsUnread files) (sym at) tt
unread_located files found i (Refused refusal left) errors.OutOfMemory low are unread at = absurd at
unread_located files found i (Refused refusal left) (errors.Gap seam) low are unread at = absurd at
unread_located files found i (Refused refusal left) (errors.Overlap seam) low are unread at = absurd at
unread_located files found i (Refused refusal left) (errors.Refused same file line) low are unread at =
    subst (λ (k : ℕ). IsUnreadAmong files k) (sym at.1) (record {
      low = low;
      before = found;
      are = are;
      unread = unread;
    })

-- files have some sections
pub sections_some : (files : List (List ℕ)) (s : List Section) → 0 < length files → AreSectionsOf files s → 0 < length s
sections_some [] s some h = absurd (omega (arith, some))
sections_some (bytes ∷ files) s some h =
    omega (arith, ap (λ (l : List Section). length l) h.4, length-append h.0 h.1, front h.0 h.2)
  where
    front : (l : List Section) → HasSections l bytes → 0 < length l
    front [] are = absurd (are.some are.all)
    front (x ∷ l) are = omega arith

-- where no section begins, none is added
pub none_added : (error : TextError) (before : List Section) (rest : List ℕ) → IsNoSection rest error
    → IsNoneAdded before rest error
none_added OutOfMemory before rest none = tt
none_added (Refused refusal left) before rest none = λ t more s begins alike. none t more s begins

-- where none is added after some sections of a file, the file is unread
pub unread_from : (error : TextError) (before found done : List Section) (rest bytes : List ℕ)
    → found ≡ before ++ done → bytes ≡ flat_map bytes_of done ++ rest → All IsSection done
    → IsNoneAdded found rest error → IsUnreadFile before bytes error
unread_from OutOfMemory before found done rest bytes joined is are none = tt
unread_from (Refused refusal left) before found done rest bytes joined is are none = record {
  done = done;
  rest = rest;
  bytes_are = is;
  are = are;
  none = λ t more s begins alike.
      none t more s begins (subst (λ (l : List Section). AreOf t.header.counted l) (sym joined) alike);
}

-- what follows for an error
pub if_err : {X E : Type 0} (P Q : E → Type 0) (r : Result X E) → ((e : E) → P e → Q e) → IfErr r P → IfErr r Q
if_err P Q (Ok x) f h = h
if_err P Q (Err e) f h = f e h
