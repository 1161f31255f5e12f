use Rattle.std.proofs.Common.{◌∙◌, ℕ, List, map, subst, sym}
use Rattle.std.specs.List.{concat}
use Rattle.ledger.specs.declared.ledger.Ledger.{Ledger}
use Rattle.ledger.specs.declared.text_kind.Kind.{Kind}
use Rattle.ledger.specs.declared.text_kind.Kind.TheVariants.{Campaign, Survey}
use Rattle.ledger.specs.declared.merged.Merged.{Merged}
use Rattle.ledger.specs.Merges.{IsMerge}
use Rattle.ledger.specs.TextOf.{HasTextOf}
use Rattle.ledger.proofs.TextOfLemmas.{ledger_tells, one_text}
use Rattle.verdicts.specs.declared.printed.Answer.{Answer}
use Rattle.merging.specs.Merge.{IsMergeAnswer, IsMergedAnswer}
use Rattle.merging.proofs.files.merged_texts.Goals as goal

-- the answer to a ledger is that to another which says the same
same_answer : (kind : Kind) (codes : List ℕ) (l m : Ledger) (answer : Answer) → HasTextOf kind codes l
    → HasTextOf kind codes m → IsMergedAnswer kind m answer → IsMergedAnswer kind l answer
same_answer Campaign codes l m answer a b is =
    let same = one_text Campaign codes l m a b in record {
      outcome = rw (same.first, same.unjudged) is.outcome;
      text = is.text ∙ sym same.text;
    }
same_answer Survey codes l m answer a b is =
    let same = one_text Survey codes l m a b in record {
      outcome = rw (same.first, same.unjudged) is.outcome;
      text = is.text ∙ sym same.text;
    }

-- so the answer to what is made of texts is that to all codes whose texts they are
merge_answer : (texts : List (List ℕ)) (m : Merged) (answer : Answer) → IsMerge texts m
    → IsMergedAnswer m.kind m.ledger answer → IsMergeAnswer texts answer
merge_answer texts m answer is answered = record {
  kind = m.kind;
  codes = is.codes;
  are = is.files_are;
  ledger = m.ledger;
  counted = is.ledger;
  answered = answered;
  only = λ other others l are counted. let o = is.only other others are in
      subst (λ (k : Kind). IsMergedAnswer k l answer) (sym o.0)
      (same_answer m.kind (concat others) l m.ledger answer (ledger_tells m.kind (concat others) l counted)
      (subst (λ (k : Kind). HasTextOf k (concat others) m.ledger) o.0 o.1) answered);
}

pub returns-in_ok-merged_answer-in-Ok-clause-ok : goal.returns-in_ok-merged_answer-in-Ok-clause-ok
returns-in_ok-merged_answer-in-Ok-clause-ok c =
    merge_answer (map (λ v. v.items) c.args.texts.now) c.in-Ok.merged c.in_ok-merged_answer-in-Ok.field-0
    c.in-Ok.ensures.ok c.in_ok-merged_answer-in-Ok.ensures
