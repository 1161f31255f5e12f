-- Cores that have a compare-and-swap that failed, as vectors of events.
use Rattle.std.proofs.Common.{◌≡◌, ◌||◌, List, [], ◌∷◌, map, Vec, Global, refl, ap, Bool}
use Rattle.std.specs.List.{list_any}
use Rattle.recording.specs.declared.event.Event.{Event}
use Rattle.recording.specs.Event.{is_failed_cas}
use Rattle.recorder.specs.Text.{has_failed_cas}

-- the vectors' events
pub failed_items : (vs : List (Vec Event Global))
    → list_any (λ (v : Vec Event Global). list_any is_failed_cas v.items) vs
    ≡ has_failed_cas (map (λ v. v.items) vs)
failed_items [] = refl
failed_items (v ∷ vs) = ap (λ (b : Bool). list_any is_failed_cas v.items || b) (failed_items vs)
