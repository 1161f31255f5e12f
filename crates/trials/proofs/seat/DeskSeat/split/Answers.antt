use Rattle.std.proofs.Common.{sym, ◌∙◌, ap, subst, ℕ, ◌<◌}
use Rattle.trials.proofs.Keeps.{splits}
use Rattle.trials.proofs.seat.DeskSeat.split.Goals as goal

pub split_seat-seat-requires : goal.split_seat-seat-requires
split_seat-seat-requires c =
    let h = c.args.self.now in
    let t = c.deref.ensures in (
      h.seated ∙ sym (ap (λ b. b.shared.table_id) t),
      subst (λ (n : ℕ). 0 < n) (sym (ap (λ b. b.shared.table_id.words) t ∙ h.size)) h.some,
      splits _ _ _ h.live,
    )
