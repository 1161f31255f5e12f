use Rattle.std.proofs.Common.{arith, ◌≡◌, ◌++◌, ◌∙◌, ap, codes, get_or, refl, sym, ℕ, List, Option}
use Rattle.ledger.specs.Counted.{count_line}
use Rattle.ledger.specs.Kinds.{is_ordered, is_overlook, is_unjudged, is_violation}
use Rattle.ledger.specs.Parts.{place_read, tail}
use Rattle.ledger.proofs.WholeTexts.{place_told, short_count, short_cycles, short_place, text_then}
use Rattle.ledger.proofs.text.read_ledger.Goals as goal

pub returns-clause-only : goal.returns-clause-only
returns-clause-only c codes more b =
    let kind = c.args.kind in
    let m = b.ledger in
    let total = c.count-total.ensures m.total _ (omega (arith, b.is.total, b.few))
    (named _ _ m.total _ _ c.all_name.ensures (c.new-rest.ensures ∙ b.text ∙ text_then kind m more)) in
    let ordered = c.count-ordered.ensures m.ordered _ (short_count is_ordered codes m.ordered b.few b.is.ordered)
    total.1 in
    let unjudged = c.count-unjudged.ensures m.unjudged _
    (short_count is_unjudged codes m.unjudged b.few b.is.unjudged)
    (named _ _ m.unjudged _ _ c.unjudged_name.ensures ordered.1) in
    let overlook = c.count-overlook.ensures m.overlook _ (short_count is_overlook codes m.overlook b.few b.is.overlook)
    unjudged.1 in
    let cycles = c.in_ok-cycles.ensures.only m.cycles.items _ b.is.lengths
    (short_cycles codes m.cycles.items b.few b.is.lengths b.is.cycles) refl overlook.1 in
    let first = c.first-first.ensures m.first (tail kind m.first_unjudged ++ more)
    (short_place is_violation codes m.first b.few b.is.first) cycles.1 in
    let read = c.unjudged_place-first_unjudged.ensures m.first_unjudged more
    (short_place is_unjudged codes m.first_unjudged b.few b.is.first_unjudged) first.1
    ∙ ap (λ (o : Option ℕ). place_read kind o m.first_unjudged) c.place_beside.ensures
    ∙ ap (λ (o : Option ℕ). place_read kind _ o) b.is.first_unjudged in record {
      tells = record {
        total = total.0 ∙ b.is.total;
        ordered = ordered.0 ∙ b.is.ordered;
        unjudged = unjudged.0 ∙ b.is.unjudged;
        overlook = overlook.0 ∙ b.is.overlook;
        lengths = c.in_ok-cycles.ensures.size;
        cycles = λ n within. ap (λ (xs : List ℕ). get_or xs n 0) cycles.0 ∙ b.is.cycles n within;
        first = first.0 ∙ b.is.first;
        first_unjudged = place_told kind codes _ _ read;
      };
      place = read;
    }
  where
    named : (a b : List ℕ) (n : ℕ) (more text : List ℕ) → a ≡ b → text ≡ count_line b n ++ more
        → text ≡ count_line a n ++ more
    named a b n more text same is = is ∙ ap (λ (name : List ℕ). count_line name n ++ more) (sym same)
