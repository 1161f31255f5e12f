-- Values with some of their events alone.
use Rattle.std.proofs.Common.{◌≡◌, ◌<◌, ◌==◌, ◌↔◌, ℕ, Bool, Some, List, [], ◌∷◌, map, length, get_or}
use Rattle.std.proofs.Common.{refl, sym, ap, ◌∙◌}
use Rattle.std.specs.Prelude.{filter}
use Rattle.std.proofs.Math.ListN as lists
use Rattle.std.proofs.lemmas.List.{length-map}
use Rattle.recording.specs.declared.event.Event.{Event}
use Rattle.recording.specs.declared.event.Event.TheVariants.{F}
use Rattle.recording.specs.Execution.{placed_from, event_at, core_of}
use Rattle.values.specs.Values.{Values, known_final, unsourced}
use Rattle.values.specs.Refused.{events_alone}
use Rattle.completion.specs.Left.{IsInRow}
use Rattle.completion.specs.Part.{CanEnd, IsMember, IsRestriction, events_on, source_in}
use Rattle.completion.proofs.Alone.{placed_alone, placed_unsourced}

-- the events of values have no sources
event_once : (v : Values) → map (map unsourced) v.cores ≡ v.cores → (e : ℕ)
    → event_at (events_alone v) e ≡ unsourced (event_at (events_alone v) e)
unfolding event_at
event_once v h e =
    let fence : ℕ × Event = (0, F) in
    ap (λ (p : ℕ × Event). p.1) (ap (λ (l : List (ℕ × Event)). get_or l e fence)
    (ap (placed_from 0) (sym h) ∙ placed_alone 0 v.cores)
    ∙ lists.get_or-map placed_unsourced (placed_from 0 v.cores) e fence)

-- so it is with lists of them
events_once : (v : Values) → map (map unsourced) v.cores ≡ v.cores → (l : List ℕ)
    → map unsourced (map (event_at (events_alone v)) l) ≡ map (event_at (events_alone v)) l
events_once v h [] = refl
events_once v h (k ∷ l) =
    ap (λ (z : Event). z ∷ map unsourced (map (event_at (events_alone v)) l)) (sym (event_once v h k))
    ∙ ap (λ (r : List Event). event_at (events_alone v) k ∷ r) (events_once v h l)

-- an address that can end with a value by some events can by more
can_more : (v : Values) (P Q : ℕ → Type 0) → ((e : ℕ) → P e → Q e) → (a n : ℕ) → CanEnd v P a n → CanEnd v Q a n
can_more v P Q more a n can w writes = let by = can w writes in (by.0, by.1, more by.0 by.2)

-- values that are made of these parts are a restriction
pub restriction_made : (v w : Values) (ks : List ℕ) (row : List Bool) (made : List (List Event))
    → map (map unsourced) v.cores ≡ v.cores → ((e : ℕ) → IsMember ks e ↔ IsInRow row e)
    → w.cores ≡ map (map unsourced) made → length made ≡ length v.cores
    → ((c : ℕ) → c < length v.cores → get_or made c [] ≡ events_on v ks c)
    → w.sources ≡ map (source_in v ks) ks → w.initial ≡ v.initial
    → length w.final_values ≡ length v.final_values
    → ((a n : ℕ) → known_final v a ≡ Some n → CanEnd v (IsInRow row) a n → known_final w a ≡ Some n)
    → ((a n : ℕ) → known_final w a ≡ Some n → (known_final v a ≡ Some n) × CanEnd v (IsInRow row) a n)
    → IsRestriction v ks w
restriction_made v w ks row made once same cores count events sources initial finals kept gone = record {
  core_count = ap (λ (l : List (List Event)). length l) cores ∙ (length-map made (map unsourced) ∙ count);
  cores = λ c inside.
      ap (λ (l : List (List Event)). get_or l c []) cores
      ∙ (lists.get_or-map (map unsourced) made c []
      ∙ (ap (map unsourced) (events c inside)
      ∙ events_once v once (filter (λ k. core_of (events_alone v) k == c) ks)));
  sources = sources;
  initial = initial;
  final_count = finals;
  finals_kept = λ a n known can. kept a n known (can_more v (IsMember ks) (IsInRow row) (λ e h. (same e).0 h) a n can);
  finals_gone = λ a n known.
      let was = gone a n known in
      (was.0, can_more v (IsInRow row) (IsMember ks) (λ e h. (same e).1 h) a n was.1);
}
