-- The texts of a file, one after another.
use Rattle.std.proofs.Common.{◌≡◌, ◌≢◌, ◌∙◌, ◌+◌, ◌++◌, ◌<◌, ◌≤◌, [], ◌∷◌, ℕ, List, ap, arith, refl, sym, subst}
use Rattle.std.proofs.Common.{append_assoc, append-nil, length, length-append}
use Rattle.std.specs.List.{concat}
use Rattle.ledger.specs.declared.ledger.Ledger.{Ledger}
use Rattle.ledger.specs.Counts.{IsLedger}
use Rattle.ledger.specs.declared.merge_error.MergeRefusal.{MergeRefusal}
use Rattle.ledger.specs.declared.merge_error.MergeRefusal.TheVariants.{NoLine, NoCodes, OtherKind, TooMany, OtherCampaign}
use Rattle.ledger.specs.declared.merge_error.MergeRefusal.TheVariants.{NoHeader}
use Rattle.ledger.specs.declared.merge_error.TextError.{TextError}
use Rattle.ledger.specs.declared.merge_error.TextError.TheVariants.{Refused, OutOfMemory}
use Rattle.ledger.specs.declared.text_kind.Kind.{Kind}
use Rattle.ledger.specs.Merges.{IsFileAdded, IsFileError, IsTextAdded, IsLedgerTextError, IsNoText, Refuses}
use Rattle.ledger.specs.TextOf.{HasTextOf}
use Rattle.ledger.proofs.TextOfLemmas.{ledger_tells}
use Rattle.ledger.specs.Texts.{AreLedgerTexts, BeginsWithLedger, text_of}
use Rattle.ledger.proofs.WholeTexts.{text_some}

-- the texts up to the rest are added, and whatever they are the texts of is told
pub record AreUnderWay (kind : Kind) (old new : Ledger) (bytes rest : List ℕ) : Type 0 where
  pub done : List ℕ
  pub sum : (earlier : List ℕ) → IsLedger earlier old → IsLedger (earlier ++ done) new
  pub whole : (back : List (List ℕ)) → AreLedgerTexts kind back rest
      → (lists : List (List ℕ)) × AreLedgerTexts kind lists bytes × (concat lists ≡ done ++ concat back)
  pub only : (lists : List (List ℕ)) → AreLedgerTexts kind lists bytes
      → (front : List ℕ) × (back : List (List ℕ)) × AreLedgerTexts kind back rest
      × (concat lists ≡ front ++ concat back)
      × ((earlier : List ℕ) → HasTextOf kind earlier old → HasTextOf kind (earlier ++ front) new)

-- before the first
pub begun : (kind : Kind) (old : Ledger) (bytes : List ℕ) → AreUnderWay kind old old bytes bytes
begun kind old bytes = record {
  done = [];
  sum = λ earlier is. subst (λ (l : List ℕ). IsLedger l old) (sym (append-nil earlier)) is;
  whole = λ back texts. (back, texts, refl);
  only = λ lists texts. (
    [],
    lists,
    texts,
    refl,
    λ earlier is. subst (λ (l : List ℕ). HasTextOf kind l old) (sym (append-nil earlier)) is,
  );
}

-- the texts of a file that isn't empty begin with one
pub first_text : (kind : Kind) (lists : List (List ℕ)) (bytes : List ℕ) → bytes ≢ [] → AreLedgerTexts kind lists bytes
    → (codes : List ℕ) × (back : List (List ℕ)) × (more : List ℕ) × BeginsWithLedger kind codes bytes more
    × AreLedgerTexts kind back more × (concat lists ≡ codes ++ concat back)
first_text kind [] bytes some texts = absurd (some texts)
first_text kind (codes ∷ lists) bytes some texts = (codes, lists, texts.0, texts.1, texts.2, refl)

-- one text more
pub text_more : (kind : Kind) (old mid new : Ledger) (bytes rest after : List ℕ) → rest ≢ []
    → AreUnderWay kind old mid bytes rest → IsTextAdded kind mid new rest after → AreUnderWay kind old new bytes after
text_more kind old mid new bytes rest after some u t = record {
  done = u.done ++ t.codes;
  sum = λ earlier is. subst (λ (l : List ℕ). IsLedger l new) (append_assoc earlier u.done t.codes)
      (t.sum (earlier ++ u.done) (u.sum earlier is));
  whole = λ back texts. let w = u.whole (t.codes ∷ back) (after, t.begins, texts) in (
    w.0,
    w.1,
    w.2 ∙ sym (append_assoc u.done t.codes (concat back)),
  );
  only = λ lists texts. let w = u.only lists texts in
      let f = first_text kind w.1 rest some w.2 in
      let o = t.only f.0 f.2 f.3 in (
        w.0 ++ f.0,
        f.1,
        subst (λ (l : List ℕ). AreLedgerTexts kind f.1 l) (sym o.0) f.4,
        w.3 ∙ ap (λ (l : List ℕ). w.0 ++ l) f.5 ∙ sym (append_assoc w.0 f.0 (concat f.1)),
        λ earlier is. subst (λ (l : List ℕ). HasTextOf kind l new) (append_assoc earlier w.0 f.0)
            (o.1 (earlier ++ w.0) (w.4 earlier is)),
      );
}

-- nothing is left of the texts after the last
none_left : (kind : Kind) (back : List (List ℕ)) → AreLedgerTexts kind back []
    → ((codes more : List ℕ) → BeginsWithLedger kind codes [] more → ⊥) → concat back ≡ []
none_left kind [] texts none = refl
none_left kind (codes ∷ back) texts none = absurd (none codes texts.0 texts.1)

-- after the last
pub ended : (kind : Kind) (old new : Ledger) (bytes : List ℕ) → bytes ≢ [] → AreUnderWay kind old new bytes []
    → ((codes more : List ℕ) → BeginsWithLedger kind codes [] more → ⊥) → IsFileAdded kind old new bytes
ended kind old new bytes some u none = let w = u.whole [] refl in record {
  codes = u.done;
  file = record {
    some = some;
    lists = w.0;
    texts = w.1;
    joined = sym (append-nil u.done) ∙ sym w.2;
  };
  sum = u.sum;
  only = λ others file earlier is. let o = u.only file.lists file.texts in
      let all : others ≡ o.0 = file.joined ∙ o.3
      ∙ ap (λ (l : List ℕ). o.0 ++ l) (none_left kind o.1 o.2 none) ∙ append-nil o.0 in
      subst (λ (l : List ℕ). HasTextOf kind (earlier ++ l) new) (sym all) (o.4 earlier is);
}

-- more codes are refused as fewer are
pub refuses_more : (refusal : MergeRefusal) (m n : ℕ) → m ≤ n → Refuses refusal m → Refuses refusal n
refuses_more TooMany m n within is = omega (arith, within, is)
refuses_more NoLine m n within is = is
refuses_more NoCodes m n within is = is
refuses_more OtherKind m n within is = is
refuses_more OtherCampaign m n within is = is
refuses_more NoHeader m n within is = is

-- a fault of a text is one of its file
pub text_fault : (kind : Kind) (old mid : Ledger) (bytes rest : List ℕ) (fault : TextError) (codes : List ℕ) → rest ≢ []
    → AreUnderWay kind old mid bytes rest → IsLedger codes old → IsLedgerTextError kind mid rest fault
    → IsFileError kind old bytes fault
text_fault kind old mid bytes rest OutOfMemory codes some u is fault = tt
text_fault kind old mid bytes rest (Refused refusal left) codes some u is fault = λ others file.
    let o = u.only file.lists file.texts in
    let f = first_text kind o.1 rest some o.2 in
    let told = o.4 codes (ledger_tells kind codes old is) in
    refuses_more refusal (mid.total + length f.0) (old.total + length others)
    (omega (
      arith,
      told.total,
      is.total,
      length-append codes o.0,
      ap (λ (l : List ℕ). length l) (file.joined ∙ o.3),
      ap (λ (l : List ℕ). length l) f.5,
      length-append o.0 (concat o.1),
      length-append f.0 (concat f.1),
    ))
    (fault f.0 f.2 f.3)

-- no text is unread where none begins
pub unread_fault : (kind : Kind) (sum : Ledger) (before : List ℕ) (fault : TextError) → IsNoText kind before fault
    → IsLedgerTextError kind sum before fault
unread_fault kind sum before OutOfMemory is = tt
unread_fault kind sum before (Refused refusal left) is = λ codes more begins. absurd (is codes more begins)

-- nothing is begun by no bytes
pub none_begins : (kind : Kind) (codes more : List ℕ) → BeginsWithLedger kind codes [] more → ⊥
none_begins kind codes more b =
    absurd (omega (
      arith,
      ap (λ (l : List ℕ). length l) b.text,
      length-append (text_of kind b.ledger) more,
      text_some kind b.ledger,
    ))

-- some bytes are not none
pub not_none : (xs : List ℕ) → 0 < length xs → xs ≢ []
not_none [] some is = omega (arith, some)
not_none (x ∷ xs) some is = omega (arith, ap (λ (l : List ℕ). length l) is)

-- none are left
pub all_none : (xs : List ℕ) → length xs ≤ 0 → xs ≡ []
all_none [] none = refl
all_none (x ∷ xs) none = absurd (omega (arith, none))
