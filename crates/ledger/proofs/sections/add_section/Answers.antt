use Rattle.std.proofs.Common.{◌≡◌, List, ap, refl, subst, sym}
use Rattle.std.proofs.lemmas.List.Elements.{All-push}
use Rattle.headers.specs.declared.header.Counted.{Counted}
use Rattle.ledger.specs.Sections.{AreOf, Section}
use Rattle.ledger.proofs.SectionFiles.{none_added}
use Rattle.ledger.proofs.sections.add_section.Goals as goal

pub returns-in-Err-clause-err : goal.returns-in-Err-clause-err
returns-in-Err-clause-err c = none_added c.in-Err.error c.args.found.now.items c.args.rest.now c.in-Err.ensures.err

pub returns-in-Some-clause-err : goal.returns-in-Some-clause-err
returns-in-Some-clause-err c = λ t more s begins alike. c.in-Some.ensures
    (subst (λ (l : List Section). AreOf c.in-Ok.next.header.counted l) (sym c.as_slice.ensures.value)
    (subst (λ (x : Counted). AreOf x c.args.found.now.items)
    (ap (λ h. h.counted) (c.in-Ok.ensures.only t more s begins)) alike))

pub returns-clause-ok : goal.returns-clause-ok
returns-clause-ok c =
    let next : Section = c.in-Ok.next in record {
      section = next;
      is = c.sound.ensures;
      bytes = c.in-Ok.ensures.ok;
      joined = c.in-Ok-push.ensures.items;
      alike = (
        next.header.counted,
        subst (λ (l : List Section). AreOf next.header.counted l) (sym c.in-Ok-push.ensures.items)
            (All-push (λ s. s.header.counted ≡ next.header.counted) c.args.found.now.items next
            (subst (λ (l : List Section). AreOf next.header.counted l) c.as_slice.ensures.value c.in_default.ensures)
            refl),
      );
    }
