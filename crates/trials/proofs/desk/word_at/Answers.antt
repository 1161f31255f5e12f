use Rattle.std.proofs.Common.{sym, ◌∙◌, ap, subst, ℕ, ◌<◌}
use Rattle.trials.proofs.Keeps.{looks}
use Rattle.trials.proofs.desk.word_at.Goals as goal

pub load-requires : goal.load-requires
load-requires c =
    let h = c.args.seat.now in
    let t = c.deref.ensures in
    let trials = ap (λ b. b.shared.key.trials) t ∙ ap (λ z. z.trials) h.campaign in
    let size = ap (λ b. b.shared.table_id.words) t ∙ h.size in (
      h.seated ∙ sym (ap (λ b. b.shared.table_id) t),
      subst (λ (n : ℕ). c.args.k < n) (sym size) c.requires.trial,
      looks _ _ _ _ _ (subst (λ (n : ℕ). c.args.k < n) (sym trials) c.requires.trial) h.live,
    )
