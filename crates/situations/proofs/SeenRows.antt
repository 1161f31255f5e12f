-- Rows that were seen, as lists of numbers.
use Rattle.std.proofs.Common.{◌≡◌, ◌<◌, ◌+◌, ◌∙◌, ℕ, Bool, true, false, cond, Some, List, [], ◌∷◌, ◌++◌}
use Rattle.std.proofs.Common.{length, map, get_or, take, drop, arith, refl, rules, sym, ap, subst, slice_get}
use Rattle.std.proofs.Common.{Err, Ok, Result}
use Rattle.std.specs.Prelude.{OnErr, OnOk}
use Rattle.std.specs.Cmp.{IsEquivalence}
use Rattle.std.specs.Cmp.Lexicographic.{same_text}
use Rattle.std.specs.Cmp.Rules.{comparing}
use Rattle.std.specs.List.{Contains, IsDistinct, list_any}
use Rattle.std.proofs.lemmas.Bool.{and_parts}
use Rattle.std.proofs.lemmas.List.{drop-drop, get_or-map, length-map}
use Rattle.std.proofs.lemmas.List.{map-append, take-append-drop}
use Rattle.std.proofs.lemmas.Map.Keys.{IsDistinct-from_apart, IsDistinct-push}
use Rattle.std.proofs.lemmas.Map.Views.{Contains-from_any, list_any-from_Contains}
use Rattle.std.proofs.lemmas.Option.{get_or_from_slice_get, slice_get-get_or, slice_get_within}
use Rattle.indexmap.specs.IndexSet.{insert_key}
use Rattle.situations.specs.Chains.{with_list}
use Rattle.situations.specs.Packed.{PackedLists}
use Rattle.situations.specs.Row.{AreOnce, FitsAmong, SeenRows, row_of, same_situation}
use Rattle.situations.specs.Situation.{Situation}
use Rattle.situations.proofs.ChainedLists.{with_known, with_new}

-- the test finds what is the same
pub same : (x y : Situation) → same_situation x y ≡ true → x ≡ y
same x y h =
    let first = and_parts _ _ h in
    let second = and_parts _ _ first.1 in
    let third = and_parts _ _ second.1 in
    let places : x.places ≡ y.places = same_text x.places y.places (sym first.0) in
    let drained : x.drained ≡ y.drained = same_text x.drained y.drained (sym second.0) in
    let memory : x.memory ≡ y.memory = same_text x.memory y.memory (sym third.0) in
    let notes : x.notes ≡ y.notes = same_text x.notes y.notes (sym third.1) in
    λ i. record { places = places i; drained = drained i; memory = memory i; notes = notes i }

-- it is an equivalence
pub same_equiv : IsEquivalence same_situation
same_equiv = search (comparing, rules)

-- the numbers of a situation, one part after another
abbrev numbers_of : Situation → List ℕ
numbers_of r = r.places ++ (r.drained ++ (r.memory ++ r.notes))

-- those of the situation that a list makes are the list
list_is : (c a : ℕ) (list : List ℕ) → numbers_of (row_of c a list) ≡ list
list_is c a list =
    let second : drop (c + c) list ≡ drop c (drop c list) = sym (drop-drop c c list) in
    let third : drop (c + c + a) list ≡ drop a (drop (c + c) list) = sym (drop-drop a (c + c) list) in
    ap (λ (l : List ℕ). take c list ++ (take c (drop c list) ++ (take a (drop (c + c) list) ++ l))) third
    ∙ (ap (λ (l : List ℕ). take c list ++ (take c (drop c list) ++ l)) (take-append-drop a (drop (c + c) list))
    ∙ (ap (λ (l : List ℕ). take c list ++ (take c (drop c list) ++ l)) second
    ∙ (ap (λ (l : List ℕ). take c list ++ l) (take-append-drop c (drop c list)) ∙ take-append-drop c list)))

-- what is kept where a call fails and where it does what it says
pub kept_by : {A E : Type 0} (P : PackedLists → Type 0) (r : Result A E) (old new made : PackedLists)
    → OnErr r (new ≡ old) → OnOk r (new ≡ made) → P old → P made → P new
kept_by P (Ok x) old new made err ok h g = subst P (sym ok) g
kept_by P (Err e) old new made err ok h g = subst P (sym err) h

-- a row that fits among others is made by its words
pub made_among : (n a : ℕ) (rows : SeenRows) (r : Situation) (words : List ℕ) → n ≡ rows.cores → a ≡ rows.addresses
    → FitsAmong rows r → row_of (length r.places) (length r.memory) words ≡ r → row_of n a words ≡ r
made_among n a rows r words cores addresses fits is =
    ap (λ (k : ℕ). row_of k a words) (cores ∙ sym fits.cores)
    ∙ (ap (λ (k : ℕ). row_of (length r.places) k words) (addresses ∙ sym fits.addresses) ∙ is)

module _ (c a : ℕ) (lists : List (List ℕ)) (words : List ℕ) where
  abbrev keys : List Situation
  keys = map (row_of c a) lists

  -- a row of the words is there exactly where the words are
  words_there : Contains keys (row_of c a words) → Contains lists words
  words_there there =
      let i : ℕ = there.0 in
      let inside : i < length lists = omega (arith, there.1, length-map lists (row_of c a)) in
      let at : row_of c a (get_or lists i words) ≡ row_of c a words =
      sym (get_or-map (row_of c a) lists i words (row_of c a words) inside) ∙ there.2 in
      (i, inside, sym (list_is c a (get_or lists i words)) ∙ (ap numbers_of at ∙ list_is c a words))

  row_there : Contains lists words → Contains keys (row_of c a words)
  row_there there = (
    there.0,
    omega (arith, there.1, length-map lists (row_of c a)),
    get_or-map (row_of c a) lists there.0 words (row_of c a words) there.1 ∙ ap (row_of c a) there.2,
  )

  -- where its words are not there, no row is
  pub no_row : (Contains lists words → ⊥) → list_any (same_situation (row_of c a words)) keys ≡ false
  no_row none = go (list_any (same_situation (row_of c a words)) keys) refl
    where
      go : (q : Bool) → list_any (same_situation (row_of c a words)) keys ≡ q
          → list_any (same_situation (row_of c a words)) keys ≡ false
      go true is = absurd (none (words_there (Contains-from_any same (row_of c a words) keys is)))
      go false is = is

  -- and where no row is there, its words are not
  pub no_words : list_any (same_situation (row_of c a words)) keys ≡ false → Contains lists words → ⊥
  no_words none there = let clash : true ≡ false =
      sym (list_any-from_Contains same_equiv (row_of c a words) keys (row_there there)) ∙ none in absurd cc

  -- a row is where its words are
  pub row_at : (i : ℕ) → slice_get lists i ≡ Some words → slice_get keys i ≡ Some (row_of c a words)
  row_at i at =
      let inside : i < length lists = slice_get_within lists i words at in
      slice_get-get_or keys i (row_of c a words) (omega (arith, inside, length-map lists (row_of c a)))
      ∙ ap (λ (z : Situation). Some z) (get_or-map (row_of c a) lists i words (row_of c a words) inside
      ∙ ap (row_of c a) (get_or_from_slice_get lists i words words at))

  -- a row more is words more
  pub row_pushed : map (row_of c a) (lists ++ words ∷ []) ≡ keys ++ row_of c a words ∷ []
  row_pushed = map-append (row_of c a) lists (words ∷ [])

  -- so a row is added where its words are
  pub row_added : map (row_of c a) (with_list lists words) ≡ insert_key same_situation keys (row_of c a words)
  row_added = go (list_any (same_situation (row_of c a words)) keys) refl
    where
      go : (q : Bool) → list_any (same_situation (row_of c a words)) keys ≡ q
          → map (row_of c a) (with_list lists words) ≡ cond q keys (keys ++ row_of c a words ∷ [])
      go true found = ap (map (row_of c a)) (with_known lists words
          (words_there (Contains-from_any same (row_of c a words) keys found)))
      go false found = ap (map (row_of c a)) (with_new lists words (no_words found)) ∙ row_pushed

-- each row is there once
pub none_once : IsDistinct same_situation []
none_once = IsDistinct-from_apart same_situation [] (λ i j d low inside. absurd (omega (arith, inside)))

pub once_more : (rows : List Situation) (r : Situation) → IsDistinct same_situation rows
    → IsDistinct same_situation (insert_key same_situation rows r)
once_more rows r once = go (list_any (same_situation r) rows) refl
  where
    go : (q : Bool) → list_any (same_situation r) rows ≡ q → IsDistinct same_situation (cond q rows (rows ++ r ∷ []))
    go true found = once
    go false none = IsDistinct-push same_equiv rows r once none

-- so of lists of words with one more
pub words_once : (c a n w : ℕ) (lists : List (List ℕ)) (words : List ℕ) → AreOnce c a n w lists
    → AreOnce c a n w (with_list lists words)
words_once c a n w lists words old = record {
  width_is = old.width_is;
  once = subst (IsDistinct same_situation) (sym (row_added c a lists words))
      (once_more (map (row_of c a) lists) (row_of c a words) old.once);
}

-- also where it is known that they are new
pub words_pushed : (c a n w : ℕ) (lists : List (List ℕ)) (words : List ℕ)
    → list_any (same_situation (row_of c a words)) (map (row_of c a) lists) ≡ false → AreOnce c a n w lists
    → AreOnce c a n w (lists ++ words ∷ [])
words_pushed c a n w lists words new old = record {
  width_is = old.width_is;
  once = subst (IsDistinct same_situation) (sym (row_pushed c a lists words))
      (IsDistinct-push same_equiv (map (row_of c a) lists) (row_of c a words) old.once new);
}
