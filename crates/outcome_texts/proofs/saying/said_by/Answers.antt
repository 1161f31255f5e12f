use Rattle.std.proofs.Common.{◌≡◌, ◌+◌, ◌∙◌, ◌∷◌, ℕ, List, Err, ap, drop, map, sym}
use Rattle.outcomes.specs.declared.observed.Observation.{Observation}
use Rattle.outcome_texts.specs.ObservedLine.{is_refused, observation_in, said_from}
use Rattle.outcome_texts.proofs.Places.{failed, passed, texts_from}
use Rattle.outcome_texts.proofs.saying.said_by.Goals as goal

pub returns-then-branch : goal.returns-then-branch
returns-then-branch c =
    let p = c.args.program.now in
    let words = map (λ w. w.items) c.args.words.now in
    let i : ℕ = c.loop-i.i in
    let seen : List Observation = c.loop-i.seen.items in
    let word : List ℕ = c.deref.result.now in
    let here : drop i words ≡ word ∷ drop (i + 1) words = texts_from c.args.words.now i c.index-words-i.result word
    c.loop-i-test.true c.index-words-i.is c.deref.ensures.value in
    c.loop-i.invariant ∙ (ap (λ (l : List (List ℕ)). said_from p c.args.ending (i + 1) seen l) here
    ∙ passed (is_refused seen (observation_in p c.args.ending word)) c.in_ok-add_item.field-0 (Err (i + 1)) _
    c.in_ok-add_item.ensures.refused c.if-branch.true)

pub loop-i-preserved : goal.loop-i-preserved
loop-i-preserved c =
    let p = c.args.program.now in
    let words = map (λ w. w.items) c.args.words.now in
    let i : ℕ = c.loop-i.i in
    let seen : List Observation = c.loop-i.seen.items in
    let word : List ℕ = c.deref.result.now in
    let here : drop i words ≡ word ∷ drop (i + 1) words = texts_from c.args.words.now i c.index-words-i.result word
    c.loop-i-test.true c.index-words-i.is c.deref.ensures.value in
    c.loop-i.invariant ∙ (ap (λ (l : List (List ℕ)). said_from p c.args.ending (i + 1) seen l) here
    ∙ (failed (is_refused seen (observation_in p c.args.ending word)) c.in_ok-add_item.field-0 (Err (i + 1)) _
    c.in_ok-add_item.ensures.refused c.if-branch.false
    ∙ ap (λ (s : List Observation). said_from p c.args.ending (i + 1 + 1) s (drop (i + 1) words))
    (sym (c.in_ok-add_item.ensures.added c.if-branch.false))))
