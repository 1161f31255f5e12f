-- What the members of an event give by those that were read.
use Rattle.std.proofs.Common.{◌≡◌, ℕ, List, Option, Some, None, option_map, codes, refl, sym, ap, ◌∙◌}
use Rattle.serde_json.specs.Data.{Data}
use Rattle.serde_json.specs.Find.{get, as_str, as_object}
use Rattle.recording.specs.declared.event.Event.{Event}
use Rattle.recording.specs.declared.event.Event.TheVariants.{L, S, R, C, F}
use Rattle.recorder.specs.Reading.{natural, value_in, source_in, at_key, read_of, count_members}
use Rattle.recorder.specs.Clipped.{clip, clip_event, clipped_number}
use Rattle.recorder.specs.ByTokens.{clipped_source}
use Rattle.recorder.proofs.ClippedLists.{value_clipped}
use Rattle.recorder.proofs.Somes.{map_if}
use Rattle.values_text.specs.Reading.{KnownEvent, with_source, without_source, store_of, rmw_of, known_event}
use Rattle.values_text.specs.Clipped.{clip_source, clip_known, clipped_known}

-- what is held of an event with its source is the clipped event with its source
with_clipped : (e : Event) → clip_known (with_source e) ≡ with_source (clip_event e)
with_clipped (L a r s) = refl
with_clipped (S a w) = refl
with_clipped (R a r s w) = refl
with_clipped (C a r s) = refl
with_clipped F = refl

-- and so it is without
without_clipped : (e : Event) → clip_known (without_source e) ≡ without_source (clip_event e)
without_clipped (L a r s) = refl
without_clipped (S a w) = refl
without_clipped (R a r s w) = refl
without_clipped (C a r s) = refl
without_clipped F = refl

-- an event that may be none, with its source or without
abbrev IsClippedBy : (Event → KnownEvent) → Type 0
IsClippedBy g = (e : Event) → clip_known (g e) ≡ g (clip_event e)

-- of what reads
reads_known : (g : Event → KnownEvent) → IsClippedBy g → (make : ℕ → ℕ → Option ℕ → Event)
    → ((x y : ℕ) (z : Option ℕ) → clip_event (make x y z) ≡ make (clip x) y (option_map clip z))
    → (a r : Option ℕ) (s : Option (Option ℕ)) → option_map clip_known (option_map g (read_of make a r s))
    ≡ option_map g (read_of make (option_map clip a) r (clip_source s))
reads_known g by make is None r s = refl
reads_known g by make is (Some x) None s = refl
reads_known g by make is (Some x) (Some y) None = refl
reads_known g by make is (Some x) (Some y) (Some z) = ap Some (by (make x y z) ∙ ap g (is x y z))

-- of a store
store_known : (g : Event → KnownEvent) → IsClippedBy g → (a w : Option ℕ)
    → option_map clip_known (option_map g (store_of a w)) ≡ option_map g (store_of (option_map clip a) w)
store_known g by None w = refl
store_known g by (Some x) None = refl
store_known g by (Some x) (Some v) = ap Some (by (S x v))

-- of a read-modify-write
rmw_known : (g : Event → KnownEvent) → IsClippedBy g → (a r : Option ℕ) (s : Option (Option ℕ)) (w : Option ℕ)
    → option_map clip_known (option_map g (rmw_of a r s w))
    ≡ option_map g (rmw_of (option_map clip a) r (clip_source s) w)
rmw_known g by a r s None = refl
rmw_known g by a r s (Some v) = reads_known g by (λ x y z. R x y z v) (λ x y z. refl) a r s

-- of an event of a kind
kind_known : (k : List ℕ) (n : ℕ) (a r : Option ℕ) (s : Option (Option ℕ)) (w : Option ℕ)
    → option_map clip_known (known_event k n a r s w) ≡ known_event k n (option_map clip a) r (clip_source s) w
unfolding known_event
kind_known k n a r s w = simp (
  map_if,
  reads_known with_source with_clipped L (λ x y z. refl) a r s,
  reads_known without_source without_clipped L (λ x y z. refl) a r (Some None),
  store_known without_source without_clipped a w,
  rmw_known with_source with_clipped a r s w,
  rmw_known without_source without_clipped a r (Some None) w,
  reads_known with_source with_clipped C (λ x y z. refl) a r s,
  reads_known without_source without_clipped C (λ x y z. refl) a r (Some None),
) refl

-- what a value's members give is the event of what was read of them
pub known_given : (k : List ℕ) (n : ℕ) (a r : Option ℕ) (s : Option (Option ℕ)) (w : Option ℕ) (d : Data)
    → option_map count_members (as_object d) ≡ Some n → at_key as_str (codes "k") d ≡ Some k
    → at_key clipped_number (codes "a") d ≡ a → at_key value_in (codes "r") d ≡ r
    → at_key clipped_source (codes "s") d ≡ s → at_key value_in (codes "w") d ≡ w
    → clipped_known d ≡ known_event k n a r s w
known_given k n a r s w d count kind address read from written =
    let number : option_map clip (at_key natural (codes "a") d) ≡ a =
    sym (value_clipped clipped_number natural clip (λ e. refl) (get (codes "a") d)) ∙ address in
    let source : clip_source (at_key source_in (codes "s") d) ≡ s =
    sym (value_clipped clipped_source source_in (option_map clip) (λ e. refl) (get (codes "s") d)) ∙ from in
    ap (option_map clip_known) (rw (count, kind, read, written) refl)
    ∙ (kind_known k n (at_key natural (codes "a") d) r (at_key source_in (codes "s") d) w
    ∙ rw (number, source) refl)
