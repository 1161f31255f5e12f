use Rattle.std.proofs.Common.{◌∙◌, ◌++◌, ℕ, List, ap, refl, subst}
use Rattle.ledger.specs.declared.text_kind.Kind.{Kind}
use Rattle.headers.specs.Headers.{header_line}
use Rattle.merging.specs.Merge.{IsMergedAnswer, missing_line}
use Rattle.merging.proofs.counts_answer.joined_answer.Goals as goal

pub returns : goal.returns
returns c =
    let j = c.args.joined.now in
    let missing = missing_line c.args.gaps j.missing in record {
      counts = c.in_ok-counts.counts;
      counted = subst (λ (k : Kind). IsMergedAnswer k j.ledger c.in_ok-counts.counts) c.kind_of.ensures c.in_ok-counts.ensures;
      outcome = refl;
      text = c.in_ok-put_joined.ensures
          ∙ ap (λ (l : List ℕ). l ++ (header_line j.header ++ (missing ++ c.deref.result.now))) c.new-text.ensures.items
          ∙ ap (λ (l : List ℕ). header_line j.header ++ (missing ++ l)) c.deref.ensures.value;
    }
