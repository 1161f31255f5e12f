use Rattle.std.proofs.Common.{◌∙◌, Bool, List, [], arith, ap, sym}
use Rattle.std.proofs.lemmas.List.{get_or_default}
use Rattle.bitrow.specs.Bits.{is_in}
use Rattle.completion.proofs.pairs.close.Goals as goal

pub loop-middle-preserved : goal.loop-middle-preserved
loop-middle-preserved c = record {
  square = c.join.ensures.square;
  size = c.join.ensures.size ∙ c.loop-middle.invariant.size;
  shown = λ v old. c.join.ensures.shown v (c.loop-middle.invariant.shown v old) (λ f has.
      c.loop-middle.invariant.shown v old c.loop-middle.middle f
      (sym (ap (λ (l : List Bool). is_in l f) (get_or_default c.loop-middle.rows
      c.loop-middle.middle c.index-rows-middle.result []
      (omega (arith, c.loop-middle-test.true, c.loop-middle.invariant.size)))) ∙ (sym (c.in_ok-later.ensures.numbers f) ∙ has)));
}
