use Rattle.std.proofs.Common.{◌≡◌, ◌∷◌, ◌++◌, [], ◌∙◌, ℕ, List, ap, arith, subst, sym, get_or, take}
use Rattle.std.proofs.lemmas.List.{take_more}
use Rattle.labels.specs.Certified.{lists_of}
use Rattle.verification.specs.Proof.{Are16Bit}
use Rattle.verification.proofs.LabelNumbers.{lists_push, next_row, short_push}
use Rattle.verification.proofs.labelled.rows.Goals as goal

pub returns-in_default-clause-only : goal.returns-in_default-clause-only
returns-in_default-clause-only c rows are spelled =
    let v = c.loop-event._event in
    let low = c.loop-event-test.true in
    let next = next_row (lists_of c.loop-event.rows.items) rows c.args.count v c.loop-event.rest low
    (c.loop-event.invariant.only rows are spelled) in
    let read = c.in_ok-row.ensures.only v (get_or rows v []) next.0 (are.rows_are v low) next.1 in
    absurd (rw c.in_default.is at read.0)

pub loop-event-preserved : goal.loop-event-preserved
loop-event-preserved c =
    let lists = lists_of c.loop-event.rows.items in
    let row = c.in-Some.row.items in
    let v = c.loop-event._event in
    let pushed : lists_of c.push.new.self.items ≡ lists ++ row ∷ [] =
    ap lists_of c.in_ok-push.ensures.items ∙ lists_push c.loop-event.rows.items c.in-Some.row in record {
      short = λ u. subst (λ (ls : List (List ℕ)). Are16Bit (get_or ls u [])) (sym pushed)
          (short_push lists row c.loop-event.invariant.short (rw c.in-Some.is at c.in_ok-row.ensures.short) u);
      only = λ rows are spelled.
          let low = c.loop-event-test.true in
          let left = c.loop-event.invariant.only rows are spelled in
          let next = next_row lists rows c.args.count v c.loop-event.rest low left in
          let read = c.in_ok-row.ensures.only v (get_or rows v []) next.0 (are.rows_are v low) next.1 in
          let same : row ≡ get_or rows v [] = rw c.in-Some.is at read.0 in record {
            read = pushed ∙ ap (λ (ls : List (List ℕ)). ls ++ row ∷ []) left.read
                ∙ ap (λ (r : List ℕ). take v rows ++ r ∷ []) same
                ∙ sym (take_more rows v [] (omega (arith, low, are.size)));
            tail = next.0;
            whole = next.2;
            spelled = read.1;
          };
    }
