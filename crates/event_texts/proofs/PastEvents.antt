-- What is known of a number past the last event.
use Rattle.std.proofs.Common.{◌≡◌, ◌≤◌, ℕ, ap}
use Rattle.std.proofs.lemmas.List.{get_or_past}
use Rattle.recording.specs.declared.event.Event.{Event}
use Rattle.recording.specs.declared.event.Event.TheVariants.{F}
use Rattle.recording.specs.Execution.{Execution, placed_from, event_count, event_at, core_of}

-- it is a fence
pub past_event : (x : Execution) (e : ℕ) → event_count x ≤ e → event_at x e ≡ F
unfolding event_at event_count
past_event x e past =
    ap (λ (p : ℕ × Event). p.1) (get_or_past (placed_from 0 x.cores) e (0, F) past)

-- of core 0
pub past_core : (x : Execution) (e : ℕ) → event_count x ≤ e → core_of x e ≡ 0
unfolding core_of event_count
past_core x e past =
    ap (λ (p : ℕ × Event). p.0) (get_or_past (placed_from 0 x.cores) e (0, F) past)
