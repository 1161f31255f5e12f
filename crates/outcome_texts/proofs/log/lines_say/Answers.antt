use Rattle.std.proofs.Common.{◌≡◌, ◌+◌, ◌∙◌, ◌∷◌, ℕ, List, Err, ap, drop, map, sym}
use Rattle.outcome_texts.specs.Seen.{Seen}
use Rattle.outcome_texts.specs.Log.{is_refused, line_says, log_from}
use Rattle.outcome_texts.proofs.Places.{failed, passed, texts_from}
use Rattle.outcome_texts.proofs.log.lines_say.Goals as goal

pub returns-then-branch : goal.returns-then-branch
returns-then-branch c =
    let p = c.args.program.now in
    let lines = map (λ w. w.items) c.args.lines.now in
    let i : ℕ = c.loop-i.i in
    let seen : List Seen = c.loop-i.seen.items in
    let line : List ℕ = c.deref.result.now in
    let here : drop i lines ≡ line ∷ drop (i + 1) lines = texts_from c.args.lines.now i c.index-lines-i.result line
    c.loop-i-test.true c.index-lines-i.is c.deref.ensures.value in
    c.loop-i.invariant ∙ (ap (λ (l : List (List ℕ)). log_from p (i + 1) seen l) here
    ∙ passed (is_refused (line_says p line)) c.in_ok-add_line.field-0 (Err (i + 1)) _
    c.in_ok-add_line.ensures.refused c.if-branch.true)

pub loop-i-preserved : goal.loop-i-preserved
loop-i-preserved c =
    let p = c.args.program.now in
    let lines = map (λ w. w.items) c.args.lines.now in
    let i : ℕ = c.loop-i.i in
    let seen : List Seen = c.loop-i.seen.items in
    let line : List ℕ = c.deref.result.now in
    let here : drop i lines ≡ line ∷ drop (i + 1) lines = texts_from c.args.lines.now i c.index-lines-i.result line
    c.loop-i-test.true c.index-lines-i.is c.deref.ensures.value in
    c.loop-i.invariant ∙ (ap (λ (l : List (List ℕ)). log_from p (i + 1) seen l) here
    ∙ (failed (is_refused (line_says p line)) c.in_ok-add_line.field-0 (Err (i + 1)) _
    c.in_ok-add_line.ensures.refused c.if-branch.false
    ∙ ap (λ (s : List Seen). log_from p (i + 1 + 1) s (drop (i + 1) lines)) (sym c.in_ok-add_line.ensures.added)))
