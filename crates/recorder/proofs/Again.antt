-- What was written of an event or a list is read as that event or list again.
use Rattle.std.proofs.Common.{◌≡◌, ◌<◌, ◌≤◌, ◌^◌, ◌+◌, ℕ, List, [], ◌∷◌, ◌++◌, Option, Some, map, length}
use Rattle.std.proofs.Common.{None, take, get_or, refl, sym, ap, ◌∙◌, subst, Vec, Global}
use Rattle.std.specs.List.{AllByRecursion}
use Rattle.std.proofs.lemmas.Bool.{lt-ltb}
use Rattle.std.proofs.lemmas.List.{take_more, take_all, get_or-map, map-append}
use Rattle.serde_json.specs.Data.{Data, array}
use Rattle.serde_json.specs.declared.value.Value.{Value}
use Rattle.serde_json.specs.View.{view, items_of}
use Rattle.recording.specs.declared.event.Event.TheVariants.{L, S, R, C, F}
use Rattle.recorder.specs.Text.{number_data, list_data, source_data, event_data}
use Rattle.recorder.specs.Reading.{natural, value_in, source_in}
use Rattle.recorder.specs.Reading.{member_event, event_in}
use Rattle.recorder.specs.Written.{IsFitting}
use Rattle.recording.specs.declared.event.Event.{Event}

-- the number of an event or of an address
pub number_again : (n : ℕ) → natural (number_data n) ≡ Some n
number_again n = refl

-- an initial value
pub value_again : (n : ℕ) → n < 2 ^ 32 → value_in (number_data n) ≡ Some n
value_again n h = rw (lt-ltb n (2 ^ 32) h) refl

-- a source
source_again : (s : Option ℕ) → source_in (source_data s) ≡ Some s
source_again None = refl
source_again (Some n) = refl

-- an event
pub event_again : (e : Event) → IsFitting e → event_in (event_data e) ≡ Some e
unfolding member_event
event_again (L a r s) h = rw (lt-ltb r (2 ^ 32) h.1, source_again s) refl
event_again (S a w) h = rw (lt-ltb w (2 ^ 32) h.1) refl
event_again (R a r s w) h = rw (lt-ltb r (2 ^ 32) h.1, source_again s, lt-ltb w (2 ^ 32) h.3) refl
event_again (C a r s) h = rw (lt-ltb r (2 ^ 32) h.1, source_again s) refl
event_again F h = refl

-- an item more
push_fits : {A : Type 0} (Fits : A → Type 0) (xs : List A) (x : A) → AllByRecursion Fits xs → Fits x
    → AllByRecursion Fits (xs ++ x ∷ [])
push_fits Fits [] x all one = (one, tt)
push_fits Fits (y ∷ ys) x all one = (all.0, push_fits Fits ys x all.1 one)

-- one item more that fits
pub fits_more : {A : Type 0} (Fits : A → Type 0) (xs : List A) (i : ℕ) (x : A) → i < length xs
    → x ≡ get_or xs i x → AllByRecursion Fits (take i xs) → Fits x → AllByRecursion Fits (take (i + 1) xs)
fits_more Fits xs i x at is h one = rw (take_more xs i x at, ← is) (push_fits Fits (take i xs) x h one)

-- all items
pub fits_all : {A : Type 0} (Fits : A → Type 0) (xs : List A) (i : ℕ) → length xs ≤ i
    → AllByRecursion Fits (take i xs) → AllByRecursion Fits xs
fits_all {A} Fits xs i past h = subst (λ (ys : List A). AllByRecursion Fits ys) (take_all i xs past) h

-- one value more
pub values_more : {A : Type 0} (g : A → Data) (xs : List A) (i : ℕ) (d x : A) (vs ws : List Value)
    (v : Value) → i < length xs → x ≡ get_or xs i d → map view vs ≡ map g (take i xs) → view v ≡ g x
    → ws ≡ vs ++ v ∷ []
    → map view ws ≡ map g (take (i + 1) xs)
values_more g xs i d x vs ws v at is h e push =
    rw (
      push,
      take_more xs i d at,
      ← is,
      map-append view vs (v ∷ []),
      map-append g (take i xs) (x ∷ []),
      h,
      e,
    ) refl

-- all values
pub values_all : {A : Type 0} (g : A → Data) (xs : List A) (i : ℕ) (vs : List Value) → length xs ≤ i
    → map view vs ≡ map g (take i xs) → array (items_of (map view vs)) ≡ list_data g xs
values_all g xs i vs past h = rw (h, take_all i xs past) refl

-- an item of a list of vectors
pub item_seen : {A : Type 0} (vs : List (Vec A Global)) (i : ℕ) (v : Vec A Global) → i < length vs
    → v ≡ get_or vs i v → v.items ≡ get_or (map (λ w. w.items) vs) i v.items
item_seen {A} vs i v at is = ap (λ (w : Vec A Global). w.items) is
    ∙ sym (get_or-map (λ (w : Vec A Global). w.items) vs i v v.items at)
