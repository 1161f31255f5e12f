use Rattle.std.proofs.Common.{sym, ◌∙◌, ap, subst, ℕ, ◌<◌}
use Rattle.std.specs.Prelude.{Contains}
use Rattle.trials.specs.Campaigns.{Plan}
use Rattle.trials.specs.Codes.{IsCode}
use Rattle.trials.proofs.Keeps.{files}
use Rattle.trials.proofs.seat.Desk.file.Goals as goal

pub store-requires : goal.store-requires
store-requires c =
    let h = c.args.seat.now in
    let t = c.deref.ensures in
    let v = h.seat.me.0 in
    let k = c.trial.ensures in
    let trials = ap (λ b. b.shared.key.trials) t ∙ ap (λ z. z.trials) h.campaign in
    let size = ap (λ b. b.shared.table_id.words) t ∙ h.size in
    let low = subst (λ (n : ℕ). n < v.campaign.trials) (sym k) c.requires.trial in (
      h.seated ∙ sym (ap (λ b. b.shared.table_id) t),
      subst (λ (n : ℕ). c.trial.result < n) (sym size) low,
      files _ _ _ _ _ _ (subst (λ (n : ℕ). c.trial.result < n) (sym trials) low) h.live
          (subst (λ (n : ℕ). Contains v.share n) (sym k) c.requires.claimed)
          (λ x. c.requires.open (subst (λ (n : ℕ). Contains v.filed n) k x))
          (subst (λ (p : Plan). IsCode p c.trial.result c.code.result) c.requires.campaign
          (subst (λ (n : ℕ). IsCode c.args.filed.now.campaign n c.code.result) (sym k) c.code.ensures.right)),
    )
