use Rattle.std.proofs.Common.{◌<◌, ◌∙◌, length, arith}
use Rattle.std.proofs.lemmas.List.{length-set}
use Rattle.trials.proofs.Completed.{closed_size, closed_words, one_written, words_written}
use Rattle.trials.proofs.campaign_run.complete.Goals as goal

pub loop-k-init : goal.loop-k-init
loop-k-init c =
    let h = c.requires in
    record {
      size = closed_size c.args.campaign.now h.0 c.args.words.items h.1 h.2;
      done = λ k less. absurd (omega (arith, less));
      words = λ k _. closed_words c.args.campaign.now h.0 c.args.words.items h.1 h.2 k;
    }

pub loop-k-preserved : goal.loop-k-preserved
loop-k-preserved c =
    let p = c.args.campaign.now in
    let h = c.loop-k.invariant in
    let ws = c.loop-k.words.items in
    let low : c.loop-k.k < length ws =
    omega (
      arith,
      c.loop-k-test.true,
      h.size,
      c.len-k-end.ensures,
      closed_size p c.requires.0 c.args.words.items c.requires.1 c.requires.2,
    ) in
    record {
      size = length-set ws c.loop-k.k c.in_ok-words.field-0 ∙ h.size;
      done = one_written p ws c.loop-k.k c.in_ok-words.field-0 low c.in_ok-words.ensures h.done;
      words = words_written p ws c.loop-k.k c.in_ok-words.field-0 low c.in_ok-words.ensures h.words;
    }
