use Rattle.std.proofs.Common.{sym, ◌∙◌, ap, subst, ℕ, ◌<◌}
use Rattle.trials.proofs.Keeps.{joins}
use Rattle.trials.proofs.seat.DeskSeat.merge.Goals as goal

pub join_seat-requires : goal.join_seat-requires
join_seat-requires c =
    let h = c.args.self in
    let o = c.args.other in
    let t = c.deref.ensures in
    let name = h.seated ∙ sym (ap (λ b. b.shared.table_id) t) in (
      name,
      c.requires ∙ name,
      o.empty,
      subst (λ (n : ℕ). 0 < n) (sym (ap (λ b. b.shared.table_id.words) t ∙ h.size)) h.some,
      joins _ _ _ _ _ h.live o.live,
    )
