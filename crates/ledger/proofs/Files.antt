-- The files, one after another.
use Rattle.std.proofs.Common.{◌≡◌, ◌∙◌, ◌<◌, ◌+◌, ◌++◌, [], ◌∷◌, ℕ, suc, List, Vec, Global, ap, arith, map, refl}
use Rattle.std.proofs.Common.{append_assoc, append-nil, drop, drop-cons, get_or, length, length-append, subst}
use Rattle.std.proofs.Common.{sym, take, take_all}
use Rattle.std.proofs.Math.ListN.{drop_of_length-le}
use Rattle.std.proofs.lemmas.List.{get_or-map, get_or-take, get_or_append_left, length-take-le, take_more}
use Rattle.std.specs.List.{concat}
use Rattle.ledger.specs.declared.ledger.Ledger.{Ledger}
use Rattle.ledger.specs.Counts.{IsLedger}
use Rattle.ledger.specs.declared.merge_error.MergeError.{MergeError}
use Rattle.ledger.specs.declared.merge_error.MergeError.TheVariants as errors
use Rattle.ledger.specs.declared.merge_error.MergeRefusal.{MergeRefusal}
use Rattle.ledger.specs.declared.merge_error.TextError.{TextError}
use Rattle.ledger.specs.declared.merge_error.TextError.TheVariants.{Refused, OutOfMemory}
use Rattle.ledger.specs.declared.text_kind.Kind.{Kind}
use Rattle.ledger.specs.declared.merged.Merged.{Merged}
use Rattle.ledger.specs.Merges.{IsFileAdded, IsFileError, IsLocated, IsMerge, IsMergingError, Refuses}
use Rattle.ledger.specs.TextOf.{HasTextOf}
use Rattle.ledger.specs.Texts.{AreFiles, IsFile, text_of}
use Rattle.ledger.proofs.UnderWay.{first_text, refuses_more}

-- the first i files are added, and whatever they are the texts of is told
pub record AreAdded (kind : Kind) (sum : Ledger) (files : List (List ℕ)) (i : ℕ) : Type 0 where
  pub done : List ℕ
  pub ledger : IsLedger done sum
  pub whole : (back : List (List ℕ)) → AreFiles kind back (drop i files)
      → (lists : List (List ℕ)) × AreFiles kind lists files × (concat lists ≡ done ++ concat back)
  pub only : (later lists : List (List ℕ)) → AreFiles kind lists (take i files ++ later)
      → (front : List ℕ) × (back : List (List ℕ)) × AreFiles kind back later × (concat lists ≡ front ++ concat back)
      × HasTextOf kind front sum

-- the codes of the first file, and the others
first_file : (kind : Kind) (lists files : List (List ℕ)) (bytes : List ℕ) → AreFiles kind lists (bytes ∷ files)
    → (codes : List ℕ) × (back : List (List ℕ)) × IsFile kind codes bytes × AreFiles kind back files
    × (concat lists ≡ codes ++ concat back)
first_file kind [] files bytes are = absurd are
first_file kind (codes ∷ lists) files bytes are = (codes, lists, are.0, are.1, refl)

-- one file more in front
front_more : (files later : List (List ℕ)) (i : ℕ) → i < length files
    → take (i + 1) files ++ later ≡ take i files ++ (get_or files i [] ∷ later)
front_more files later i low = ap (λ (l : List (List ℕ)). l ++ later) (take_more files i [] low)
    ∙ append_assoc (take i files) (get_or files i [] ∷ []) later

-- one file more
pub file_more : (kind : Kind) (old new : Ledger) (files : List (List ℕ)) (i : ℕ) → i < length files
    → AreAdded kind old files i → IsFileAdded kind old new (get_or files i []) → AreAdded kind new files (i + 1)
file_more kind old new files i low h a =
    let next : suc i ≡ i + 1 = omega arith in
    let left : drop i files ≡ get_or files i [] ∷ drop (i + 1) files = drop-cons files i [] low
    ∙ ap (λ (k : ℕ). get_or files i [] ∷ drop k files) next in record {
      done = h.done ++ a.codes;
      ledger = a.sum h.done h.ledger;
      whole = λ back are.
          let w = h.whole (a.codes ∷ back)
          (subst (λ (l : List (List ℕ)). AreFiles kind (a.codes ∷ back) l) (sym left) (a.file, are)) in
          (w.0, w.1, w.2 ∙ sym (append_assoc h.done a.codes (concat back)));
      only = λ later lists are.
          let o = h.only (get_or files i [] ∷ later) lists
          (subst (λ (l : List (List ℕ)). AreFiles kind lists l) (front_more files later i low) are) in
          let f = first_file kind o.1 later (get_or files i []) o.2 in (
            o.0 ++ f.0,
            f.1,
            f.3,
            o.3 ∙ ap (λ (l : List ℕ). o.0 ++ l) f.4 ∙ sym (append_assoc o.0 f.0 (concat f.1)),
            a.only f.0 f.2 o.0 o.4,
          );
    }

-- the kind of the first text is that of all
pub kind_is : (k kind : Kind) (lists files : List (List ℕ)) (first : List ℕ) → 0 < length files
    → get_or files 0 [] ≡ first
    → ((other : Kind) (l : Ledger) (more : List ℕ) → first ≡ text_of other l ++ more → kind ≡ other)
    → AreFiles k lists files → k ≡ kind
kind_is k kind lists [] first some at only are = absurd (omega (arith, some))
kind_is k kind lists (bytes ∷ files) first some at only are =
    let f = first_file k lists files bytes are in
    let t = first_text k (f.2).lists bytes (f.2).some (f.2).texts in
    sym (only k (t.3).ledger t.2 (sym at ∙ (t.3).text))

-- no files are left
none_left : (kind : Kind) (back : List (List ℕ)) → AreFiles kind back [] → concat back ≡ []
none_left kind [] are = refl
none_left kind (codes ∷ back) are = absurd are

-- after the last
pub all_added : (m : Merged) (files : List (List ℕ)) (first : List ℕ) (i : ℕ) → i ≡ length files → 0 < length files
    → get_or files 0 [] ≡ first
    → ((other : Kind) (l : Ledger) (more : List ℕ) → first ≡ text_of other l ++ more → m.kind ≡ other)
    → AreAdded m.kind m.ledger files i → IsMerge files m
all_added m files first i end some at only h =
    let left : drop i files ≡ [] = drop_of_length-le files (omega (arith, end)) in
    let all : take i files ++ [] ≡ files = append-nil (take i files) ∙ take_all i files (omega (arith, end)) in
    let w = h.whole [] (subst (λ (l : List (List ℕ)). AreFiles m.kind [] l) (sym left) tt) in record {
      codes = w.0;
      files_are = w.1;
      ledger = subst (λ (l : List ℕ). IsLedger l m.ledger) (sym (append-nil h.done) ∙ sym w.2) h.ledger;
      only = λ kind others are.
          let same : kind ≡ m.kind = kind_is kind m.kind others files first some at only are in
          let o = h.only [] others (subst (λ (l : List (List ℕ)). AreFiles m.kind others l) (sym all)
          (subst (λ (k : Kind). AreFiles k others files) same are)) in
          let codes : concat others ≡ o.0 = o.3 ∙ ap (λ (l : List ℕ). o.0 ++ l) (none_left m.kind o.1 o.2)
          ∙ append-nil o.0 in (
            same,
            subst (λ (k : Kind). HasTextOf k (concat others) m.ledger) (sym same)
                (subst (λ (l : List ℕ). HasTextOf m.kind l m.ledger) (sym codes) o.4),
          );
    }

-- a fault of a file is one of all
pub file_fault : (kind : Kind) (sum : Ledger) (files : List (List ℕ)) (first : List ℕ) (i : ℕ) (fault : TextError)
    (error : MergeError) → i < length files → get_or files 0 [] ≡ first
    → ((other : Kind) (l : Ledger) (more : List ℕ) → first ≡ text_of other l ++ more → kind ≡ other)
    → AreAdded kind sum files i → IsFileError kind sum (get_or files i []) fault → IsLocated fault i error
    → IsMergingError files error
file_fault kind sum files first i OutOfMemory error low at only h fault located =
    subst (IsMergingError files) (sym located) tt
file_fault kind sum files first i (Refused refusal left) errors.OutOfMemory low at only h fault located = absurd located
file_fault kind sum files first i (Refused refusal left) (errors.Gap seam) low at only h fault located = absurd located
file_fault kind sum files first i (Refused refusal left) (errors.Overlap seam) low at only h fault located = absurd located
file_fault kind sum files first i (Refused refusal left) (errors.Refused same j line) low at only h fault located = (
  omega (arith, low, located.1),
  λ k codes later are.
      let files_are : AreFiles k codes (take (i + 1) files ++ later) =
      subst (λ (n : ℕ). AreFiles k codes (take (n + 1) files ++ later)) located.1 are in
      let size : length (take (i + 1) files) ≡ i + 1 = length-take-le (i + 1) files (omega (arith, low)) in
      let begins : get_or (take (i + 1) files ++ later) 0 [] ≡ first =
      get_or_append_left (take (i + 1) files) later [] 0 (omega (arith, size))
      ∙ get_or-take (i + 1) files 0 [] (omega arith) ∙ at in
      let is : k ≡ kind = kind_is k kind codes (take (i + 1) files ++ later) first
      (omega (arith, size, length-append (take (i + 1) files) later)) begins only files_are in
      let o = h.only (get_or files i [] ∷ later) codes
      (subst (λ (l : List (List ℕ)). AreFiles kind codes l) (front_more files later i low)
      (subst (λ (x : Kind). AreFiles x codes (take (i + 1) files ++ later)) is files_are)) in
      let f = first_file kind o.1 later (get_or files i []) o.2 in
      subst (λ (r : MergeRefusal). Refuses r (length (concat codes))) (sym located.0)
      (refuses_more refusal (sum.total + length f.0) (length (concat codes))
      (omega (
        arith,
        (o.4).total,
        ap (λ (l : List ℕ). length l) o.3,
        ap (λ (l : List ℕ). length l) f.4,
        length-append o.0 (concat o.1),
        length-append f.0 (concat f.1),
      ))
      (fault f.0 f.2)),
)

-- the bytes of a file
pub bytes_at : (xs : List (Vec ℕ Global)) (i : ℕ) (v : Vec ℕ Global) → i < length xs → v ≡ get_or xs i v
    → v.items ≡ get_or (map (λ w. w.items) xs) i []
bytes_at xs i v low is = ap (λ (w : Vec ℕ Global). w.items) is
    ∙ sym (get_or-map (λ (w : Vec ℕ Global). w.items) xs i v [] low)
