use Rattle.std.proofs.Common.{◌≡◌, ◌+◌, ◌∙◌, ℕ, suc, ap, arith}
use Rattle.std.specs.Prelude.{if◌then◌else◌}
use Rattle.drawing.specs.Ranks.{is_on_core, last_rank, next_rank}
use Rattle.texts.specs.TextLaws.{next_text}
use Rattle.drawing.proofs.ranks.put_core_ranks.Goals as goal

pub loop-i-preserved : goal.loop-i-preserved
loop-i-preserved c =
    let x = c.args.recording.now in
    let ks = c.args.numbers.now in
    let m = c.args.order.now in
    let i = c.loop-i.i in
    let next : suc i ≡ i + 1 = omega arith in
    record {
      text = next_text (next_rank x ks m c.args.core) i _ _ _ c.loop-i.invariant.text
          (rw (← c.loop-i.invariant.last) c.in_ok-rank.ensures.text);
      last = c.in_ok-rank.ensures.rank
          ∙ ap (λ (r : ℕ). if is_on_core x ks m c.args.core i then i + 1 else r) c.loop-i.invariant.last
          ∙ ap (λ (n : ℕ). last_rank x ks m c.args.core n) next;
    }
