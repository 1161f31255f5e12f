use Rattle.std.proofs.Common.{◌≡◌, ◌++◌, ◌∙◌, ℕ, List, Vec, Global, ap, sym, length}
use Rattle.std.proofs.lemmas.List.{length-map}
use Rattle.labels.specs.Certified.{lists_of}
use Rattle.texts.specs.TextLaws.{on_ok}
use Rattle.verdicts.specs.VerdictText.{labels_text}
use Rattle.verification.proofs.row_lines.put_rows_that_hold.Goals as goal

pub returns : goal.returns
returns c =
    let rows = lists_of c.in_ok-rows.rows.items in
    let value = c.deref.ensures.value in
    let lines : labels_text (lists_of c.deref.result.now) (length c.deref.result.now) ≡ labels_text rows (length rows) =
    ap (λ (rs : List (Vec ℕ Global)). labels_text (lists_of rs) (length rs)) value
    ∙ ap (λ (n : ℕ). labels_text rows n) (sym (length-map c.in_ok-rows.rows.items (λ (r : Vec ℕ Global). r.items))) in
    on_ok c.put_rows.result _ _
    (λ put. (rows, c.in_ok-rows.ensures, put ∙ ap (λ (t : List ℕ). c.args.out.now.items ++ t) lines)) c.put_rows.ensures
