use Rattle.std.proofs.Common.{◌∙◌, ◌++◌, [], ◌∷◌, ℕ, List, ap, append_assoc, append-nil, sym}
use Rattle.std.proofs.lemmas.Grind.{flat_map-append}
use Rattle.std.proofs.lemmas.List.Elements.{All-push}
use Rattle.std.specs.List.{flat_map}
use Rattle.ledger.specs.Sections.{IsSection, Section, bytes_of}
use Rattle.ledger.proofs.SectionFiles.{unread_from}
use Rattle.ledger.proofs.sections.add_sections.Goals as goal

pub returns-in-Err-clause-err : goal.returns-in-Err-clause-err
returns-in-Err-clause-err c =
    let i = c.sections.invariant in
    unread_from c.in-Err.error c.args.found.now.items c.sections.found.items i.done c.sections.rest c.args.bytes.now
    i.joined i.bytes i.are c.in-Err.ensures.err

pub sections-preserved : goal.sections-preserved
sections-preserved c =
    let i = c.sections.invariant in
    let a = c.in_default.ensures.ok in
    let next : Section = a.section in record {
      done = i.done ++ next ∷ [];
      joined = a.joined ∙ ap (λ (l : List Section). l ++ next ∷ []) i.joined
          ∙ append_assoc c.args.found.now.items i.done (next ∷ []);
      are = All-push IsSection i.done next i.are a.is;
      bytes = i.bytes ∙ ap (λ (l : List ℕ). flat_map bytes_of i.done ++ l) a.bytes
          ∙ sym (append_assoc (flat_map bytes_of i.done) (bytes_of next) c.add_section.new.rest)
          ∙ ap (λ (l : List ℕ). l ++ c.add_section.new.rest) (sym (flat_map-append bytes_of i.done (next ∷ [])
          ∙ ap (λ (l : List ℕ). flat_map bytes_of i.done ++ l) (append-nil (bytes_of next))));
      alike = a.alike;
    }
