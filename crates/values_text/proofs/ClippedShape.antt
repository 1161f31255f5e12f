-- A list of what is held is what is held of the list, and so it is with the contents of a text.
use Rattle.std.proofs.Common.{◌≡◌, ℕ, Option, Some, None, option_map, option_and_then, List, ◌∷◌, map, codes, refl}
use Rattle.std.proofs.Common.{sym, ap, ◌∙◌}
use Rattle.serde_json.specs.Data.{Data, Items, no_items, item}
use Rattle.serde_json.specs.Find.{get, as_array, as_object}
use Rattle.recorder.specs.Reading.{natural, value_in, each, list_in, at_key, count_members}
use Rattle.recorder.proofs.ClippedLists.{value_clipped}
use Rattle.recorder.proofs.Somes.{map_if}
use Rattle.values_text.specs.Reading.{KnownEvent, known_event_in, final_in, values_parts, values_contents, values_shape}
use Rattle.values_text.specs.Clipped.{clip_known, clipped_known, clipped_parsed, clipped_values_shape}

-- one item more
item_held : {A : Type 0} (g : A → A) (o : Option A) (os : Option (List A))
    → option_and_then (λ x. option_map (λ xs. x ∷ xs) (option_map (map g) os)) (option_map g o)
    ≡ option_map (map g) (option_and_then (λ x. option_map (λ xs. x ∷ xs) os) o)
item_held g None os = refl
item_held g (Some x) None = refl
item_held g (Some x) (Some xs) = refl

-- all items
each_held : {A : Type 0} (k f : Data → Option A) (g : A → A) → ((d : Data) → k d ≡ option_map g (f d))
    → (ds : Items) → each k ds ≡ option_map (map g) (each f ds)
each_held k f g is no_items = refl
each_held k f g is (item d ds) = rw (is d, each_held k f g is ds) (item_held g (f d) (each f ds))

-- a list
list_held : {A : Type 0} (k f : Data → Option A) (g : A → A) → ((d : Data) → k d ≡ option_map g (f d))
    → (d : Data) → list_in k d ≡ option_map (map g) (list_in f d)
list_held k f g is d = value_clipped (each k) (each f) (map g) (each_held k f g is) (as_array d)

-- the events of each core
cores_held : (d : Data) → at_key (list_in (list_in clipped_known)) (codes "cores") d
    ≡ option_map (map (map clip_known)) (at_key (list_in (list_in known_event_in)) (codes "cores") d)
cores_held d =
    value_clipped (list_in (list_in clipped_known)) (list_in (list_in known_event_in)) (map (map clip_known))
    (list_held (list_in clipped_known) (list_in known_event_in) (map clip_known)
    (list_held clipped_known known_event_in clip_known (λ e. refl))) (get (codes "cores") d)

-- what is held of parts
parts_held : (v : Option ℕ) (cs : Option (List (List KnownEvent))) (is : Option (List ℕ))
    (fs : Option (List (Option ℕ))) → option_map clipped_parsed (values_parts v cs is fs)
    ≡ values_parts v (option_map (map (map clip_known)) cs) is fs
parts_held None cs is fs = refl
parts_held (Some v) None is fs = refl
parts_held (Some v) (Some cs) None fs = refl
parts_held (Some v) (Some cs) (Some is) fs = refl

-- of contents with final values
finals_held : (v : Option ℕ) (cs : Option (List (List KnownEvent))) (is : Option (List ℕ))
    (fs : Option (List (Option ℕ)))
    → option_map clipped_parsed (option_and_then (λ l. values_parts v cs is (Some l)) fs)
    ≡ option_and_then (λ l. values_parts v (option_map (map (map clip_known)) cs) is (Some l)) fs
finals_held v cs is None = refl
finals_held v cs is (Some l) = parts_held v cs is (Some l)

-- of all contents
contents_held : (n : ℕ) (v : Option ℕ) (cs : Option (List (List KnownEvent))) (is : Option (List ℕ))
    (fs : Option (List (Option ℕ))) → option_map clipped_parsed (values_contents n v cs is fs)
    ≡ values_contents n v (option_map (map (map clip_known)) cs) is fs
unfolding values_contents
contents_held n v cs is fs = simp (map_if, parts_held v cs is None, finals_held v cs is fs) refl

-- what a value's members give are the contents of what was read of them
pub shape_given : (d : Data) (n : ℕ) (v : Option ℕ) (cs : Option (List (List KnownEvent))) (is : Option (List ℕ))
    (fs : Option (List (Option ℕ))) → option_map count_members (as_object d) ≡ Some n
    → at_key natural (codes "version") d ≡ v → at_key (list_in (list_in clipped_known)) (codes "cores") d ≡ cs
    → at_key (list_in value_in) (codes "init") d ≡ is → at_key (list_in final_in) (codes "final") d ≡ fs
    → clipped_values_shape d ≡ values_contents n v cs is fs
unfolding values_shape
shape_given d n v cs is fs count version cores init finals =
    let held : option_map (map (map clip_known)) (at_key (list_in (list_in known_event_in)) (codes "cores") d) ≡ cs =
    sym (cores_held d) ∙ cores in
    ap (option_map clipped_parsed) (rw (count, version, init, finals) refl)
    ∙ (contents_held n v (at_key (list_in (list_in known_event_in)) (codes "cores") d) is fs ∙ rw held refl)

-- what is no object has no contents
pub no_shape : (d : Data) → option_map count_members (as_object d) ≡ None → None ≡ clipped_values_shape d
unfolding values_shape
no_shape d none = rw none refl
