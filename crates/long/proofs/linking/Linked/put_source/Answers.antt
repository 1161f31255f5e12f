use Rattle.std.proofs.Common.{◌≡◌, ◌<◌, ◌∙◌, ℕ, Some, None, sym, subst}
use Rattle.std.proofs.lemmas.Bool.{iff_false}
use Rattle.std.proofs.lemmas.Result.{on_ok_weaker}
use Rattle.recording.specs.Execution.{ProgramOrder}
use Rattle.long.specs.Chains.{times_listed}
use Rattle.long.proofs.Steps.{source_forced}
use Rattle.long.proofs.linking.Linked.put_source.Goals as goal

pub returns-in_default-clause-here : goal.returns-in_default-clause-here
returns-in_default-clause-here c d from =
    absurd (let no : None ≡ Some d = sym c.in_default.is ∙ (c.requires.event.source ∙ from.0) in cc)

pub returns-then-is_earlier-clause-here : goal.returns-then-is_earlier-clause-here
returns-then-is_earlier-clause-here c d from =
    let x = c.args.recording.now in
    let n = c.args.event.now.number in
    let both : Some c.in-Some.source ≡ Some d = sym c.in-Some.is ∙ (c.requires.event.source ∙ from.0) in
    let one : c.in-Some.source ≡ d = cc in
    absurd (from.1 (subst (λ (k : ℕ). ProgramOrder x k n) one
    ((c.is_earlier.ensures x c.requires.start).0 c.if-is_earlier.true)))

pub put_forced-requires-clause-forced : goal.put_forced-requires-clause-forced
put_forced-requires-clause-forced c =
    source_forced c.args.recording.now c.in-Some.source c.args.event.now.number
    (sym c.requires.event.source ∙ c.in-Some.is)
    (iff_false (c.is_earlier.ensures c.args.recording.now c.requires.start) c.if-is_earlier.false)

pub returns-clause-here : goal.returns-clause-here
returns-clause-here c =
    let n = c.args.event.now.number in
    let new = c.put_forced.new.self in
    on_ok_weaker c.put_forced.result
    (λ put d from.
    let both : Some c.in-Some.source ≡ Some d = sym c.in-Some.is ∙ (c.requires.event.source ∙ from.0) in
    let one : c.in-Some.source ≡ d = cc in
    subst (λ (k : ℕ). 0 < times_listed new.list.items k n) one put)
    c.put_forced.ensures.here
