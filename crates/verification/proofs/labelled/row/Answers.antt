use Rattle.std.proofs.Common.{◌≡◌, ◌++◌, ◌∙◌, List, ℕ, subst, sym}
use Rattle.std.specs.Option.{MatchOption}
use Rattle.std.proofs.lemmas.Result.{IfOk-weaker}
use Rattle.verification.specs.Proof.{Are16Bit}
use Rattle.verification.specs.Spelled.{Spells}
use Rattle.verification.proofs.labelled.row.Goals as goal

pub returns-clause-only : goal.returns-clause-only
returns-clause-only c = IfOk-weaker c.labels_of.result _ _
    (λ r h event labels later row spelled.
    let s = spelled in
    let next = c.next_number-event.ensures s.0 event s.1 s.2 s.3 s.4 s.5 s.7 in
    let read = c.in_ok-numbers.ensures labels later row.size (subst (Spells (labels ++ later)) (sym next.1) s.6) in
    let same = c.deref.ensures.value ∙ read.0 in (
      subst (λ (ns : List ℕ). MatchOption r ⊥ (λ v. v.items ≡ ns)) same
          (h (subst Are16Bit (sym same) row.short)),
      read.1,
    ))
    c.labels_of.ensures.only
