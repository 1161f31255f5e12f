-- Reading one item more of a list.
use Rattle.std.proofs.Common.{◌≡◌, ◌<◌, ◌≤◌, ◌+◌, ℕ, List, [], ◌∷◌, ◌++◌, length, get_or, drop, map}
use Rattle.std.proofs.Common.{Option, None, Some, option_map, refl, sym, ap, ◌∙◌, Vec, Global, append_assoc}
use Rattle.std.proofs.lemmas.List.{drop_more, drop_all, map-append, append-nil}
use Rattle.serde_json.specs.Data.{Data}
use Rattle.serde_json.specs.declared.value.Value.{Value}
use Rattle.serde_json.specs.View.{view, items_view}
use Rattle.recorder.specs.Reading.{each}

-- what was read, before what is left gives
abbrev pub with_front : {A : Type 0} → List A → Option (List A) → Option (List A)
with_front front o = option_map (λ xs. front ++ xs) o

-- before the first item nothing was read
pub front_start : {A : Type 0} (front : List A) (o : Option (List A)) → front ≡ [] → with_front front o ≡ o
front_start front None is = refl
front_start front (Some xs) is = rw is refl

-- one item goes from what is left to what was read
item_moved : {A : Type 0} (front : List A) (x : A) (o : Option (List A))
    → with_front (front ++ x ∷ []) o ≡ with_front front (option_map (λ xs. x ∷ xs) o)
item_moved front x None = refl
item_moved front x (Some xs) = ap Some (append_assoc front (x ∷ []) xs)

-- what is left gives its first item, and what follows it
first_gives : {A : Type 0} (f : Data → Option A) (list : List Value) (i : ℕ) (v : Value) (x : A)
    → i < length list → v ≡ get_or list i v → f (view v) ≡ Some x
    → each f (items_view (drop i list)) ≡ option_map (λ xs. x ∷ xs) (each f (items_view (drop (i + 1) list)))
first_gives f list i v x at is gives = rw (drop_more list i v at, ← is, gives) refl

-- what was found, and what is left gives, is the same with one item more
pub front_more : {A : Type 0} (f : Data → Option A) (list : List Value) (i : ℕ) (v : Value) (x : A)
    (front more : List A) {all : Option (List A)} → i < length list → v ≡ get_or list i v
    → f (view v) ≡ Some x → more ≡ front ++ x ∷ []
    → with_front front (each f (items_view (drop i list))) ≡ all
    → with_front more (each f (items_view (drop (i + 1) list))) ≡ all
front_more f list i v x front more at is gives push same =
    rw push (item_moved front x (each f (items_view (drop (i + 1) list)))
    ∙ ap (with_front front) (sym (first_gives f list i v x at is gives)) ∙ same)

-- where an item gives nothing, all gives nothing
pub front_none : {A : Type 0} (f : Data → Option A) (list : List Value) (i : ℕ) (v : Value) (front : List A)
    {all : Option (List A)} → i < length list → v ≡ get_or list i v → f (view v) ≡ None
    → with_front front (each f (items_view (drop i list))) ≡ all → None ≡ all
front_none f list i v front at is gives same =
    let nothing : each f (items_view (drop i list)) ≡ None = rw (drop_more list i v at, ← is, gives) refl in
    sym (ap (with_front front) nothing) ∙ same

-- after the last item what was found is what all gives
pub front_all : {A : Type 0} (f : Data → Option A) (list : List Value) (i : ℕ) (front : List A)
    {all : Option (List A)} → length list ≤ i
    → with_front front (each f (items_view (drop i list))) ≡ all → Some front ≡ all
front_all f list i front past same =
    let over : each f (items_view (drop i list)) ≡ Some [] = rw (drop_all i list past) refl in
    sym (ap Some (append-nil front)) ∙ sym (ap (with_front front) over) ∙ same

-- one vector more
pub vector_more : {A : Type 0} (vs ws : List (Vec A Global)) (v : Vec A Global) → ws ≡ vs ++ v ∷ []
    → map (λ w. w.items) ws ≡ map (λ w. w.items) vs ++ v.items ∷ []
vector_more {A} vs ws v push = rw push (map-append (λ (w : Vec A Global). w.items) vs (v ∷ []))
