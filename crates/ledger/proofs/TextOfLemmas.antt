-- Lemmas on what texts tell.
use Rattle.std.proofs.Common.{◌≡◌, ◌++◌, ◌≤◌, ℕ, List, position, arith, refl, sym, ◌∙◌}
use Rattle.std.proofs.lemmas.List.{ext_get_or}
use Rattle.ledger.specs.declared.code.TheConstants.{LONG_CYCLE}
use Rattle.ledger.specs.declared.ledger.Ledger.{Ledger}
use Rattle.ledger.specs.Kinds.{is_unjudged}
use Rattle.ledger.specs.Counts.{IsLedger}
use Rattle.ledger.specs.Joined.{IsJoined}
use Rattle.ledger.specs.LedgerLaws.{joined, position_append}
use Rattle.ledger.specs.declared.text_kind.Kind.{Kind}
use Rattle.ledger.specs.declared.text_kind.Kind.TheVariants.{Campaign, Survey}
use Rattle.ledger.specs.TextOf.{HasTextOf, HasUnjudgedOf}
use Rattle.ledger.specs.Texts.{text_of}

-- a ledger tells of its codes
pub ledger_tells : (kind : Kind) (codes : List ℕ) (l : Ledger) → IsLedger codes l → HasTextOf kind codes l
ledger_tells kind codes l is = record {
  total = is.total;
  ordered = is.ordered;
  unjudged = is.unjudged;
  overlook = is.overlook;
  lengths = is.lengths;
  cycles = is.cycles;
  first = is.first;
  first_unjudged = go kind;
}
  where
    go : (kind : Kind) → HasUnjudgedOf kind codes l
    go Campaign = tt
    go Survey = is.first_unjudged

-- the ledger that has the first place of what has no verdict too
abbrev pub whole : List ℕ → Ledger → Ledger
whole codes l = record {
  total = l.total;
  ordered = l.ordered;
  unjudged = l.unjudged;
  overlook = l.overlook;
  cycles = l.cycles;
  first = l.first;
  first_unjudged = position is_unjudged codes;
}

-- is that of the codes of which a ledger tells
pub whole_is : (kind : Kind) (codes : List ℕ) (l : Ledger) → HasTextOf kind codes l → IsLedger codes (whole codes l)
whole_is kind codes l t = record {
  total = t.total;
  ordered = t.ordered;
  unjudged = t.unjudged;
  overlook = t.overlook;
  lengths = t.lengths;
  cycles = t.cycles;
  first = t.first;
  first_unjudged = refl;
}

-- so the sum of two that tell of codes tells of both lists of them, since that of two ledgers is the ledger of both
pub sum_tells : (kind : Kind) (xs ys : List ℕ) (l m both : Ledger) → HasTextOf kind xs l → HasTextOf kind ys m
    → IsJoined l m both → HasTextOf kind (xs ++ ys) both
sum_tells kind xs ys l m both a b j =
    let law = position_append is_unjudged xs ys in
    let sum = joined xs ys (whole xs l) (whole ys m) (whole (xs ++ ys) both) (whole_is kind xs l a)
    (whole_is kind ys m b) (record {
      total = j.total;
      ordered = j.ordered;
      unjudged = j.unjudged;
      overlook = j.overlook;
      lengths = j.lengths;
      cycles = j.cycles;
      first = j.first;
      first_unjudged = let n = a.total in cc;
    }) in
    record {
      total = sum.total;
      ordered = sum.ordered;
      unjudged = sum.unjudged;
      overlook = sum.overlook;
      lengths = sum.lengths;
      cycles = sum.cycles;
      first = sum.first;
      first_unjudged = go kind a.first_unjudged b.first_unjudged;
    }
  where
    go : (kind : Kind) → HasUnjudgedOf kind xs l → HasUnjudgedOf kind ys m → HasUnjudgedOf kind (xs ++ ys) both
    go Campaign first second = tt
    go Survey first second =
        let law = position_append is_unjudged xs ys in
        let u = j.first_unjudged in let n = a.total in cc

-- two ledgers that tell of the same codes have the same text, counts and first violation
pub record SaysTheSame (kind : Kind) (l m : Ledger) : Type 0 where
  pub text : text_of kind l ≡ text_of kind m
  pub first : l.first ≡ m.first
  pub unjudged : l.unjudged ≡ m.unjudged

pub one_text : (kind : Kind) (codes : List ℕ) (l m : Ledger) → HasTextOf kind codes l → HasTextOf kind codes m
    → SaysTheSame kind l m
one_text kind codes l m a b = record {
  text = go kind a.first_unjudged b.first_unjudged;
  first = a.first ∙ sym b.first;
  unjudged = a.unjudged ∙ sym b.unjudged;
}
  where
    cycles : l.cycles.items ≡ m.cycles.items
    cycles = ext_get_or 0 l.cycles.items m.cycles.items (a.lengths ∙ sym b.lengths) (λ n low.
        let within : n ≤ LONG_CYCLE = omega (arith, low, a.lengths) in
        a.cycles n within ∙ sym (b.cycles n within))

    go : (kind : Kind) → HasUnjudgedOf kind codes l → HasUnjudgedOf kind codes m → text_of kind l ≡ text_of kind m
    go Campaign first second = rw (
      a.total ∙ sym b.total,
      a.ordered ∙ sym b.ordered,
      a.unjudged ∙ sym b.unjudged,
      a.overlook ∙ sym b.overlook,
      cycles,
      a.first ∙ sym b.first,
    ) refl
    go Survey first second = rw (
      a.total ∙ sym b.total,
      a.ordered ∙ sym b.ordered,
      a.unjudged ∙ sym b.unjudged,
      a.overlook ∙ sym b.overlook,
      cycles,
      a.first ∙ sym b.first,
      first ∙ sym second,
    ) refl
