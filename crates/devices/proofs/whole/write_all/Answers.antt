use Rattle.std.proofs.Common.{◌≡◌, ◌+◌, ◌++◌, ◌∙◌, ◌-◌, ap, arith, drop, length, List, ℕ, subst, sym, take}
use Rattle.std.proofs.KnownBytes.{Appends-trans}
use Rattle.std.proofs.lemmas.List.{length-drop, take_rest}
use Rattle.std.proofs.Math.Seq.{take-add}
use Rattle.std.specs.Io.KnownBytes.{Appends}
use Rattle.devices.proofs.whole.write_all.Goals as goal

-- the first bytes, and then the first of the rest
take_rest-more : (text : List ℕ) (at n : ℕ)
    → take at text ++ take n (take (length text - at) (drop at text)) ≡ take (at + n) text
take_rest-more text at n =
    ap (λ (rest : List ℕ). take at text ++ take n rest) (take_rest text at) ∙ sym (take-add at n text)

pub parts-preserved : goal.parts-preserved
parts-preserved g c = (
  subst (λ (t : List ℕ). Appends (g.W.Sink.written c.args.sink.now) (g.W.Sink.written c.push.new.self) t)
      (take_rest-more c.args.text.now c.parts.at c.in_ok-at.field-0)
      (Appends-trans (g.W.Sink.written c.args.sink.now) (g.W.Sink.written c.parts.sink)
      (g.W.Sink.written c.push.new.self) (take c.parts.at c.args.text.now)
      (take c.in_ok-at.field-0 (take (length c.args.text.now - c.parts.at) (drop c.parts.at c.args.text.now)))
      c.parts.invariant.0 c.in_ok-at.ensures.bytes),
  c.in_ok-at.ensures.failed ∙ c.parts.invariant.1,
  omega (
    arith,
    ap (λ (t : List ℕ). length t) (take_rest c.args.text.now c.parts.at),
    length-drop c.parts.at c.args.text.now,
    c.in_ok-at.ensures.bound,
    c.parts.invariant.2,
  ),
)
