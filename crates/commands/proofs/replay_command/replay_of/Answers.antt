use Rattle.std.proofs.Common.{inl, refl, subst, List, ℕ}
use Rattle.verdicts.specs.declared.verdict.Verdict.{Verdict}
use Rattle.verdicts.specs.Judgement.{IsVerdict}
use Rattle.commands.specs.Replay.{IsReplayText}
use Rattle.commands.proofs.replay_command.replay_of.Goals as goal

pub returns-in_ok-text-in-Ordered : goal.returns-in_ok-text-in-Ordered
returns-in_ok-text-in-Ordered c = inl (record {
  order = c.in-Ordered.order.items;
  least = subst (λ (v : Verdict). IsVerdict c.args.recording.now v) c.in-Ordered.is c.requires.found;
  outcome = refl;
  text = subst (λ (m : List ℕ). IsReplayText c.args.recording.now m c.in_ok-text-in-Ordered.text.items)
      c.deref.ensures.value c.in_ok-text-in-Ordered.ensures;
})
