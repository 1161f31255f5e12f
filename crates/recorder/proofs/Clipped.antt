-- Events and write lists of a clipped execution.
use Rattle.std.proofs.Common.{◌≡◌, ◌<◌, ◌+◌, ◌^◌, ◌-◌, inl, inr, ℕ, option_map, List, []}
use Rattle.std.proofs.Common.{◌∷◌, map, length, get_or, arith, refl, ap, ◌∙◌}
use Rattle.std.proofs.Math.ListN.{get_or-map}
use Rattle.std.proofs.lemmas.Bool.{cases_lt, lt-ltb, le-ltb}
use Rattle.std.proofs.lemmas.List.{length-map, map-append}
use Rattle.recording.specs.declared.size.RecordingSize.{RecordingSize}
use Rattle.recording.specs.Sizes.{most_events, most_addresses}
use Rattle.recording.specs.RecordingLaws.{events_of_size, addresses_of_size}
use Rattle.recording.specs.declared.event.Event.{Event}
use Rattle.recording.specs.declared.event.Event.TheVariants.{L, S, R, C, F}
use Rattle.recording.specs.Event.{read_address, written_address, source}
use Rattle.recording.specs.Execution.{Execution, placed_from, event_count, event_at, write_list, source_of}
use Rattle.recorder.specs.Clipped.{clip, clip_event, clipped}

-- within the limits each event has a number below the greatest of 32 bits
pub events_fit : (size : RecordingSize) → most_events size < 2 ^ 32 - 1
events_fit size = omega (arith, events_of_size size)

-- and each address
pub addresses_fit : (size : RecordingSize) → most_addresses size < 2 ^ 32 - 1
addresses_fit size = omega (arith, addresses_of_size size)

-- a number below the greatest of 32 bits is not clipped
pub small : (n : ℕ) → n < 2 ^ 32 - 1 → clip n ≡ n
small n h = rw (lt-ltb n (2 ^ 32) (omega arith)) refl

-- a clipped number below the greatest of 32 bits was not clipped
pub unclipped : (n : ℕ) → clip n < 2 ^ 32 - 1 → clip n ≡ n
unclipped n h = elim (cases_lt n (2 ^ 32)) [
  | inl below ↦ rw (lt-ltb n (2 ^ 32) below) refl
  | inr past ↦ let most : clip n ≡ 2 ^ 32 - 1 =
      rw (le-ltb n (2 ^ 32) past) refl in absurd (omega (arith, h, most))
]

-- the addresses and the source of a clipped event are clipped
parts_clipped : (v : Event) → (read_address (clip_event v) ≡ option_map clip (read_address v))
    × (written_address (clip_event v) ≡ option_map clip (written_address v))
    × (source (clip_event v) ≡ option_map clip (source v))
parts_clipped (L a r s) = (refl, refl, refl)
parts_clipped (S a w) = (refl, refl, refl)
parts_clipped (R a r s w) = (refl, refl, refl)
parts_clipped (C a r s) = (refl, refl, refl)
parts_clipped F = (refl, refl, refl)

-- an event clipped on its core
abbrev clip_placed : ℕ × Event → ℕ × Event
clip_placed p = (p.0, clip_event p.1)

-- the events of one core are clipped
core_clipped : (k : ℕ) (es : List Event) → map {B = ℕ × Event} (λ e. (k, e)) (map clip_event es)
    ≡ map clip_placed (map (λ e. (k, e)) es)
core_clipped k [] = refl
core_clipped k (e ∷ es) = ap (λ (ps : List (ℕ × Event)). (k, clip_event e) ∷ ps) (core_clipped k es)

-- the events of all cores are clipped
placed_clipped : (k : ℕ) (cores : List (List Event))
    → placed_from k (map (map clip_event) cores) ≡ map clip_placed (placed_from k cores)
placed_clipped k [] = refl
placed_clipped k (es ∷ rest) = rw (
  core_clipped k es,
  placed_clipped (k + 1) rest,
  map-append clip_placed (map {B = ℕ × Event} (λ e. (k, e)) es) (placed_from (k + 1) rest),
) refl

-- there are the same number of events
pub count_clipped : (x : Execution) → event_count (clipped x) ≡ event_count x
unfolding event_count
count_clipped x = ap (λ (ps : List (ℕ × Event)). length ps) (placed_clipped 0 x.cores)
    ∙ length-map (placed_from 0 x.cores) clip_placed

-- each event of a clipped execution is clipped
pub event_clipped : (x : Execution) (e : ℕ) → event_at (clipped x) e ≡ clip_event (event_at x e)
unfolding event_at
event_clipped x e =
    ap (λ (ps : List (ℕ × Event)). (get_or ps e (0, F)).1) (placed_clipped 0 x.cores)
    ∙ ap (λ (p : ℕ × Event). p.1) (get_or-map clip_placed (placed_from 0 x.cores) e (0, F))

-- each write list is clipped
pub list_clipped : (x : Execution) (a : ℕ) → write_list (clipped x) a ≡ map clip (write_list x a)
unfolding write_list
list_clipped x a = get_or-map (map clip) x.write_lists a []

-- so is the address that event e reads
pub reads_clipped : (x : Execution) (e : ℕ) → read_address (event_at (clipped x) e)
    ≡ option_map clip (read_address (event_at x e))
reads_clipped x e = ap read_address (event_clipped x e) ∙ (parts_clipped (event_at x e)).0

-- the address that it writes
pub writes_clipped : (x : Execution) (e : ℕ)
    → written_address (event_at (clipped x) e) ≡ option_map clip (written_address (event_at x e))
writes_clipped x e = ap written_address (event_clipped x e) ∙ (parts_clipped (event_at x e)).1

-- and its source
pub sources_clipped : (x : Execution) (e : ℕ) → source_of (clipped x) e ≡ option_map clip (source_of x e)
sources_clipped x e = ap source (event_clipped x e) ∙ (parts_clipped (event_at x e)).2
