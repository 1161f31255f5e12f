use Rattle.std.proofs.Common.{◌≡◌, ◌++◌, ◌∙◌, ℕ, List, ap, arith, refl, subst, sym}
use Rattle.std.proofs.lemmas.Bool.{false≢true}
use Rattle.ledger.specs.Texts.{BeginsWithLedger, text_of}
use Rattle.ledger.proofs.TextOfLemmas.{ledger_tells, one_text}
use Rattle.ledger.proofs.WholeTexts.{real_again}
use Rattle.ledger.proofs.text.read.Goals as goal

pub returns-then-not-take-clause-err : goal.returns-then-not-take-clause-err
returns-then-not-take-clause-err c codes more b =
    let r = c.in_ok-ledger.ensures.only codes more
    (subst (λ (t : List ℕ). BeginsWithLedger c.args.kind codes t more) (sym c.rest-text.ensures) b) in
    let text = one_text c.args.kind codes c.in_ok-ledger.ledger b.ledger r.tells
    (ledger_tells c.args.kind codes b.ledger b.is) in
    let printed : c.deref.result.now ≡ text_of c.args.kind b.ledger =
    c.deref.ensures.value ∙ c.in_ok-printed.ensures ∙ text.text in
    false≢true (c.if-not-take.ensures.only more (b.text ∙ ap (λ (t : List ℕ). t ++ more) (sym printed))).0

pub returns-then-not-has_codes-clause-err : goal.returns-then-not-has_codes-clause-err
returns-then-not-has_codes-clause-err c codes more b =
    let r = c.in_ok-ledger.ensures.only codes more
    (subst (λ (t : List ℕ). BeginsWithLedger c.args.kind codes t more) (sym c.rest-text.ensures) b) in
    false≢true (c.if-not-has_codes.ensures.1 (real_again c.args.kind codes c.in_ok-ledger.ledger r))

pub returns-clause-ok : goal.returns-clause-ok
returns-clause-ok c =
    let ledger = c.in_ok-ledger.ledger in
    let h = c.if-not-has_codes.ensures.0 refl in
    let printed : c.deref.result.now ≡ text_of c.args.kind ledger = c.deref.ensures.value ∙ c.in_ok-printed.ensures in
    record {
      codes = h.codes;
      begins = record {
        ledger = ledger;
        is = h.is;
        few = omega (arith, h.is.total);
        text = c.if-not-take.ensures.found refl ∙ ap (λ (t : List ℕ). t ++ c.take.new.self) printed;
      };
      is = h.is;
      only = λ others more b.
          let r = c.in_ok-ledger.ensures.only others more
          (subst (λ (t : List ℕ). BeginsWithLedger c.args.kind others t more) (sym c.rest-text.ensures) b) in
          let text = one_text c.args.kind others ledger b.ledger r.tells
          (ledger_tells c.args.kind others b.ledger b.is) in (
            (c.if-not-take.ensures.only more
                (b.text ∙ ap (λ (t : List ℕ). t ++ more) (sym (printed ∙ text.text)))).1,
            r.tells,
          );
    }
