use Rattle.std.proofs.Common.{◌∙◌, [], ℕ, List, None, ap, arith, map, subst}
use Rattle.ledger.specs.Merges.{IsMerge}
use Rattle.ledger.specs.Sections.{Section}
use Rattle.ledger.proofs.Orders.{ascends, ends_last, seam_no_join}
use Rattle.ledger.proofs.joined.join_ordered.Goals as goal

pub header_of-requires-clause-ascends : goal.header_of-requires-clause-ascends
header_of-requires-clause-ascends c = ascends c.args.order.now c.requires.sorted

pub tell-requires : goal.tell-requires
tell-requires c k d low =
    let h = c.in-Some.ensures in (
      omega (arith, h.first d, ascends c.args.order.now c.requires.sorted k d low),
      omega (arith, h.end d, h.few, ends_last c.args.gaps c.args.order.now d k c.in-Ok.ensures.ok.follow low),
    )

pub returns-clause-ok : goal.returns-clause-ok
returns-clause-ok c =
    let m = c.in-Ok.ensures.ok in
    let h = c.in-Some.ensures in record {
      follow = m.follow;
      header = h;
      missing =
          let d : Section = record { header = c.in-Some.header; text = []; violation = None } in
          omega (arith, m.count d, h.first d, h.end d);
      none = m.none;
      kind = c.in-Ok-merge_texts.merged.kind;
      whole = c.in-Ok-merge_texts.merged.ledger;
      merge = subst (λ (l : List (List ℕ)). IsMerge l c.in-Ok-merge_texts.merged)
          (ap (λ l. map (λ t. t.now) l) c.deref.ensures.value ∙ c.in_ok-texts.ensures) c.in-Ok-merge_texts.ensures.ok;
      ledger = c.tell.ensures;
    }

pub returns-in-Err-clause-err : goal.returns-in-Err-clause-err
returns-in-Err-clause-err c =
    seam_no_join c.args.order.now c.in-Err.error c.in-Err.ensures.err
