-- A list of what is held is what is held of the list.
use Rattle.std.proofs.Common.{◌≡◌, ℕ, Option, Some, None, option_map, option_and_then, List, ◌∷◌, map, refl}
use Rattle.serde_json.specs.Data.{Data, Items, no_items, item}
use Rattle.serde_json.specs.Find.{get, as_array}
use Rattle.recorder.specs.Reading.{natural, event_in, each, list_in, at_key}
use Rattle.recorder.specs.Clipped.{clip, clip_event, clipped_number, clipped_event}

-- it is so with one item more
item_clipped : {A : Type 0} (g : A → A) (o : Option A) (os : Option (List A))
    → option_and_then (λ x. option_map (λ xs. x ∷ xs) (option_map (map g) os)) (option_map g o)
    ≡ option_map (map g) (option_and_then (λ x. option_map (λ xs. x ∷ xs) os) o)
item_clipped g None os = refl
item_clipped g (Some x) None = refl
item_clipped g (Some x) (Some xs) = refl

-- with all items
each_clipped : {A : Type 0} (k f : Data → Option A) (g : A → A) → ((d : Data) → k d ≡ option_map g (f d))
    → (ds : Items) → each k ds ≡ option_map (map g) (each f ds)
each_clipped k f g is no_items = refl
each_clipped k f g is (item d ds) = rw (is d, each_clipped k f g is ds) (item_clipped g (f d) (each f ds))

-- with a value that may be missing
pub value_clipped : {A B : Type 0} (k f : A → Option B) (g : B → B) → ((x : A) → k x ≡ option_map g (f x))
    → (o : Option A) → option_and_then k o ≡ option_map g (option_and_then f o)
value_clipped k f g is None = refl
value_clipped k f g is (Some x) = is x

-- with a list
list_clipped : {A : Type 0} (k f : Data → Option A) (g : A → A) → ((d : Data) → k d ≡ option_map g (f d))
    → (d : Data) → list_in k d ≡ option_map (map g) (list_in f d)
list_clipped k f g is d = value_clipped (each k) (each f) (map g) (each_clipped k f g is) (as_array d)

-- with a list of lists at a key
lists_clipped : {A : Type 0} (k f : Data → Option A) (g : A → A) → ((d : Data) → k d ≡ option_map g (f d))
    → (key : List ℕ) (d : Data)
    → at_key (list_in (list_in k)) key d ≡ option_map (map (map g)) (at_key (list_in (list_in f)) key d)
lists_clipped k f g is key d =
    value_clipped (list_in (list_in k)) (list_in (list_in f)) (map (map g))
    (list_clipped (list_in k) (list_in f) (map g) (list_clipped k f g is)) (get key d)

-- with the events of each core
pub cores_clipped : (key : List ℕ) (d : Data)
    → at_key (list_in (list_in clipped_event)) key d
    ≡ option_map (map (map clip_event)) (at_key (list_in (list_in event_in)) key d)
cores_clipped = lists_clipped clipped_event event_in clip_event (λ d. refl)

-- and with the write lists
pub writes_clipped : (key : List ℕ) (d : Data)
    → at_key (list_in (list_in clipped_number)) key d
    ≡ option_map (map (map clip)) (at_key (list_in (list_in natural)) key d)
writes_clipped = lists_clipped clipped_number natural clip (λ d. refl)

-- both
pub ruleset clipped = (cores_clipped, writes_clipped)
