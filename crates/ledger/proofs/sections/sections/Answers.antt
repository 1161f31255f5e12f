use Rattle.std.proofs.Common.{◌≡◌, ◌∙◌, ℕ, List, arith, length, map, subst}
use Rattle.std.proofs.lemmas.List.{length-map}
use Rattle.ledger.specs.Sections.{HasSections}
use Rattle.ledger.specs.Unread.{IsUnreadFile}
use Rattle.ledger.proofs.Files.{bytes_at}
use Rattle.ledger.proofs.SectionFiles.{file_more, unread_located}
use Rattle.ledger.proofs.sections.sections.Goals as goal

pub returns-in-Err-clause-err : goal.returns-in-Err-clause-err
returns-in-Err-clause-err c =
    let files : List (List ℕ) = map (λ v. v.items) c.args.files.now in
    let some : length files ≡ length c.args.files.now = length-map c.args.files.now (λ v. v.items) in
    let bytes = c.as_slice-bytes.ensures.value
    ∙ bytes_at c.args.files.now c.loop-i.i c.index-files-i.result (omega arith) c.index-files-i.is in
    unread_located files c.loop-i.found.items c.loop-i.i c.in-Err.error c.error_of_file.result (omega (arith, some))
    (record { are = c.loop-i.invariant.are; alike = c.loop-i.invariant.alike })
    (subst (λ (l : List ℕ). IsUnreadFile c.loop-i.found.items l c.in-Err.error) bytes c.in-Err.ensures.err)
    c.error_of_file.ensures

pub loop-i-preserved : goal.loop-i-preserved
loop-i-preserved c =
    let files : List (List ℕ) = map (λ v. v.items) c.args.files.now in
    let some : length files ≡ length c.args.files.now = length-map c.args.files.now (λ v. v.items) in
    let bytes = c.as_slice-bytes.ensures.value
    ∙ bytes_at c.args.files.now c.loop-i.i c.index-files-i.result (omega arith) c.index-files-i.is in
    let a = c.in_default.ensures.ok in record {
      are = file_more files c.loop-i.found.items c.add_sections.new.found.items a.sections c.loop-i.i (omega (arith, some))
          c.loop-i.invariant.are (subst (λ (l : List ℕ). HasSections a.sections l) bytes a.are) a.joined;
      alike = a.alike;
    }
