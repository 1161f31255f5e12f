use Rattle.std.proofs.Common.{◌≡◌, ℕ, List, arith, length, map, subst, sym}
use Rattle.std.proofs.lemmas.List.{length-map}
use Rattle.ledger.specs.Merges.{IsFileAdded, IsFileError}
use Rattle.ledger.proofs.Files.{all_added, file_fault, file_more}
use Rattle.ledger.proofs.merged.merge_texts.Goals as goal

pub returns-in-Err-clause-err : goal.returns-in-Err-clause-err
returns-in-Err-clause-err c =
    let files : List (List ℕ) = map (λ v. v.now) c.args.files.now in
    let some : length files ≡ length c.args.files.now = length-map c.args.files.now (λ v. v.now) in
    let first = sym c.text_at.ensures in
    let bytes = c.text_at-bytes.ensures in
    file_fault c.of-kind.result c.loop-i.sum files c.text_at.result.now c.loop-i.i c.in-Err.fault c.error_of_file.result
    (omega (arith, some)) first c.of-kind.ensures c.loop-i.invariant
    (subst (λ (l : List ℕ). IsFileError c.of-kind.result c.loop-i.sum l c.in-Err.fault) bytes c.in-Err.ensures.err)
    c.error_of_file.ensures

pub loop-i-preserved : goal.loop-i-preserved
loop-i-preserved c =
    let files : List (List ℕ) = map (λ v. v.now) c.args.files.now in
    let some : length files ≡ length c.args.files.now = length-map c.args.files.now (λ v. v.now) in
    let bytes = c.text_at-bytes.ensures in
    file_more c.of-kind.result c.loop-i.sum c.add_file.new.sum files c.loop-i.i (omega (arith, some)) c.loop-i.invariant
    (subst (λ (l : List ℕ). IsFileAdded c.of-kind.result c.loop-i.sum c.add_file.new.sum l) bytes
    c.in_default.ensures.ok)

pub returns-clause-ok : goal.returns-clause-ok
returns-clause-ok c =
    let files : List (List ℕ) = map (λ v. v.now) c.args.files.now in
    let some : length files ≡ length c.args.files.now = length-map c.args.files.now (λ v. v.now) in
    let first = sym c.text_at.ensures in
    all_added (record { kind = c.of-kind.result; ledger = c.loop-i.sum }) files c.text_at.result.now c.loop-i.i
    (omega (arith, some, c.loop-i-test.false, c.loop-i.auto.i-end)) (omega (arith, some)) first c.of-kind.ensures
    c.loop-i.invariant
