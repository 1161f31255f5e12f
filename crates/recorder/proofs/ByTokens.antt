-- Reading values, lists and objects by the tokens that the bytes write.
use Rattle.std.proofs.Common.{◌≡◌, ◌<◌, ◌≤◌, ◌-◌, ℕ, suc, List, [], ◌∷◌, ◌++◌, length, Option, Some, None}
use Rattle.std.proofs.Common.{option_map, option_and_then, refl, ap, ◌∙◌, arith, ◌⊎◌, inl, inr, subst, Bool, true}
use Rattle.std.proofs.Common.{false}
use Rattle.std.proofs.Common.{append-nil, append_assoc}
use Rattle.json.specs.Token.{Token}
use Rattle.json.specs.Lex.{Lexeme, token, comma, colon, lex, between, punctuate, place_token, fresh, after_comma}
use Rattle.json.specs.Lex.{begins_colon}
use Rattle.json.specs.Json as json
use Rattle.json.specs.Json.{parse_map, after_end_array, read_key, items, members, value, if_last}
use Rattle.json.proofs.Grammar.{left, value_is, skip_value-shorter}
use Rattle.json.proofs.Grammar.{items_end, items_more, members_end, members_more, read_key-shorter}
use Rattle.serde_json.specs.Data.{Data, Num, null, boolean, number, string, array, object}
use Rattle.serde_json.specs.Data.{Items, no_items}
use Rattle.serde_json.specs.Data.{item, Members, no_members, put}
use Rattle.serde_json.specs.Read.{number_of, of_json, of_items, of_members, converted}
use Rattle.serde_json.specs.Find.{as_u64}
use Rattle.recorder.specs.Clipped.{clip, clipped_number}
use Rattle.recorder.specs.Reading.{each, list_in}
use Rattle.recorder.specs.ByTokens.{GivesValue, Adds, GivesMembers, clipped_source, value_tokens, fresh_tokens}

-- ---- a value

-- the value after `Some`, or another
abbrev pick : {A : Type 0} → A → Option A → A
pick a None = a
pick a (Some b) = b

-- what was converted is what was read
same_read : {A B : Type 0} (a : A) (r s : List Token) (o : Option B) (b : B)
    → option_map {U = B × List Token} (λ y. (y, r)) o ≡ Some (b, s) → (r ≡ s) × (o ≡ Some b)
same_read a r s None b e = absurd cc
same_read a r s (Some y) b e =
    let same = ap (pick (y, r)) e in (ap (λ p. p.1) same, ap (λ p. Some p.0) same)

-- what was converted was read
converted_some : {A B : Type 0} (f : A → Option B) (o : Option (A × List Token)) (b : B) (r : List Token)
    → converted f o ≡ Some (b, r) → (a : A) × (o ≡ Some (a, r)) × (f a ≡ Some b)
converted_some f None b r e = absurd cc
converted_some f (Some p) b r e =
    let both = same_read p.0 p.1 r (f p.0) b e in (p.0, ap (λ s. Some (p.0, s)) both.0, both.1)

-- a number
pub gives_number : {A : Type 0} (f : Data → Option A) (depth : ℕ) (ts rest : List Token) (s : List ℕ)
    (n : Num) (x : A) → ts ≡ Token.number s ∷ rest → number_of s ≡ Some n → f (number n) ≡ Some x
    → GivesValue f depth ts x rest
gives_number f depth ts rest s n x first is gives = record {
  datum = number n;
  read = rw (first, value_is depth (Token.number s ∷ rest), is) refl;
  gives = gives;
}

-- a string
pub gives_string : {A : Type 0} (f : Data → Option A) (depth : ℕ) (ts rest : List Token) (s : List ℕ)
    (x : A) → ts ≡ Token.string s ∷ rest → f (string s) ≡ Some x → GivesValue f depth ts x rest
gives_string f depth ts rest s x first gives = record {
  datum = string s;
  read = rw (first, value_is depth (Token.string s ∷ rest)) refl;
  gives = gives;
}

-- null
pub gives_null : {A : Type 0} (f : Data → Option A) (depth : ℕ) (ts rest : List Token) (x : A)
    → ts ≡ Token.null ∷ rest → f null ≡ Some x → GivesValue f depth ts x rest
gives_null f depth ts rest x first gives = record {
  datum = null;
  read = rw (first, value_is depth (Token.null ∷ rest)) refl;
  gives = gives;
}

-- the same value gives what another function makes of it
pub gives_also : {A B : Type 0} (f : Data → Option A) (g : Data → Option B) (depth : ℕ)
    (ts rest : List Token) (x : A) (y : B) → ((d : Data) → f d ≡ Some x → g d ≡ Some y)
    → GivesValue f depth ts x rest → GivesValue g depth ts y rest
gives_also f g depth ts rest x y also h = record {
  datum = h.datum;
  read = h.read;
  gives = also h.datum
      h.gives;
}

-- a source that is a number
pub source_is_number : (n : ℕ) (d : Data) → clipped_number d ≡ Some n → clipped_source d ≡ Some (Some n)
source_is_number n null is = absurd cc
source_is_number n (boolean b) is = absurd cc
source_is_number n (number x) is = go (as_u64 x) is
  where
    go : (o : Option ℕ) → option_map clip o ≡ Some n → option_map (option_map clip) (option_map Some o) ≡ Some (Some n)
    go None is = absurd cc
    go (Some m) is = ap Some is
source_is_number n (string s) is = absurd cc
source_is_number n (array ds) is = absurd cc
source_is_number n (object ms) is = absurd cc

-- a value takes a token
value_takes : (depth : ℕ) (ts rest : List Token) (d : Data)
    → converted of_json (value depth ts) ≡ Some (d, rest) → length rest < length ts
value_takes depth ts rest d read =
    let j = converted_some of_json (value depth ts) d rest read in
    skip_value-shorter depth ts rest (ap left j.1)

-- ---- after a bracket or a colon

-- what may stand after a comma is the same after a bracket
begun : (ls : List Lexeme)
    → (punctuate after_comma ls ≡ punctuate fresh ls) ⊎ (punctuate after_comma ls ≡ Token.bad ∷ [])
unfolding punctuate
begun [] = inr refl
begun (comma ∷ ls) = inr refl
begun (colon ∷ ls) = inr refl
begun (token Token.begin_object ∷ ls) = inl refl
begun (token Token.end_object ∷ ls) = inr refl
begun (token Token.begin_array ∷ ls) = inl refl
begun (token Token.end_array ∷ ls) = inr refl
begun (token (Token.key s) ∷ ls) = inl refl
begun (token (Token.string s) ∷ ls) = go (begins_colon ls)
  where
    go : (b : Bool) → (place_token after_comma (Token.string s) b (λ next. punctuate next ls)
        ≡ place_token fresh (Token.string s) b (λ next. punctuate next ls))
        ⊎ (place_token after_comma (Token.string s) b (λ next. punctuate next ls) ≡ Token.bad ∷ [])
    go true = inl refl
    go false = inl refl
begun (token (Token.number s) ∷ ls) = inl refl
begun (token (Token.boolean b) ∷ ls) = inl refl
begun (token Token.null ∷ ls) = inl refl
begun (token Token.bad ∷ ls) = inl refl

-- no value is bad
no_value : (depth : ℕ) → value depth (Token.bad ∷ []) ≡ None
no_value depth = value_is depth (Token.bad ∷ [])

-- a value after a bracket or a colon
pub fresh_value : {A : Type 0} (f : Data → Option A) (depth : ℕ) (t : List ℕ) (x : A) (rest : List Token)
    → GivesValue f depth (value_tokens t) x rest → GivesValue f depth (fresh_tokens t) x rest
fresh_value {A} f depth t x rest h = elim (begun (lex between t)) [
  | inl same ↦ subst (λ (ts : List Token). GivesValue f depth ts x rest) same h
  | inr bad ↦ let read = h.read in let no = rw (bad, no_value depth) at read in absurd cc
]

-- a value of a member
pub fresh_adds : {S : Type 0} (Are : S → Members → Type 0) (key : List ℕ) (depth : ℕ) (t : List ℕ)
    (rest : List Token) (old new : S) → Adds Are key depth (value_tokens t) rest old new
    → Adds Are key depth (fresh_tokens t) rest old new
fresh_adds Are key depth t rest old new h = elim (begun (lex between t)) [
  | inl same ↦ subst (λ (ts : List Token). Adds Are key depth ts rest old new) same h
  | inr bad ↦ let read = h.read in let no = rw (bad, no_value depth) at read in absurd cc
]

-- ---- the items of an array

-- the tokens begin with items that give these, and the bracket that closes the array
pub record GivesItems {A : Type 0} (f : Data → Option A) (depth n : ℕ) (ts : List Token) (xs : List A)
    (rest : List Token) : Type 0 where
  pub datum : Items
  pub read : converted of_items (items (value depth) n ts) ≡ Some (datum, rest)
  pub gives : each f datum ≡ Some xs

-- no item
items_over : {A : Type 0} (f : Data → Option A) (depth n : ℕ) (ts rest : List Token) → length ts ≤ n
    → after_end_array ts ≡ Some rest → GivesItems f depth n ts [] rest
items_over f depth n ts rest enough over = record {
  datum = no_items;
  read = ap (converted of_items) (items_end (value depth) n ts rest enough over);
  gives = refl;
}

-- one item before others
items_read : {A : Type 0} (f : Data → Option A) (depth n : ℕ) (ts mid rest : List Token) (x : A)
    (xs : List A) → 0 < n → after_end_array ts ≡ None → GivesValue f depth ts x mid
    → GivesItems f depth (n - 1) mid xs rest → GivesItems f depth n ts (x ∷ xs) rest
items_read f depth n ts mid rest x xs some going one more =
    let j = converted_some of_json (value depth ts) one.datum mid one.read in
    let js = converted_some of_items (items (value depth) (n - 1) mid) more.datum rest more.read in
    record {
      datum = item one.datum more.datum;
      read = ap (converted of_items) (items_more (value depth) n ts mid j.0 some going j.1
          ∙ ap (parse_map (json.item j.0)) js.1) ∙ rw (j.2, js.2) refl;
      gives = rw (one.gives, more.gives) refl;
    }

-- where the items that are left are read, so are all, with those that were read before them
pub record Came {A : Type 0} (f : Data → Option A) (depth : ℕ) (all : List Token) (xs : List A)
    (ts : List Token) : Type 0 where
  pub n : ℕ
  pub enough : length ts ≤ n
  pub onward : (ys : List A) (rest : List Token) → GivesItems f depth n ts ys rest
      → GivesItems f depth (length all) all (xs ++ ys) rest

-- at the start none was read
came_start : {A : Type 0} (f : Data → Option A) (depth : ℕ) (ts : List Token) (xs : List A) → xs ≡ []
    → Came f depth ts xs ts
came_start f depth ts xs none = record {
  n = length ts;
  enough = omega arith;
  onward = λ ys rest more. rw none more;
}

-- no item is bad
no_items_there : (depth : ℕ) → items (value depth) 1 (Token.bad ∷ []) ≡ None
unfolding items
no_items_there depth = rw (no_value depth) refl

-- none is read after the bracket that opens the array
pub came_begun : {A : Type 0} (f : Data → Option A) (depth : ℕ) (t : List ℕ) (xs : List A) → xs ≡ []
    → Came f depth (fresh_tokens t) xs (value_tokens t)
came_begun {A} f depth t xs none = elim (begun (lex between t)) [
  | inl same ↦ rw same (came_start f depth (fresh_tokens t) xs none)
  | inr bad ↦ rw bad (record {
    n = 1;
    enough = omega arith;
    onward = λ ys rest more. let read = more.read in let no = rw (no_items_there depth) at read in absurd cc;
  })
]

-- where a value begins no array ends
value_begins : (depth : ℕ) (ts rest : List Token) (d : Data) → converted of_json (value depth ts) ≡ Some (d, rest)
    → after_end_array ts ≡ None
value_begins depth [] rest d read = refl
value_begins depth (Token.begin_object ∷ ts) rest d read = refl
value_begins depth (Token.end_object ∷ ts) rest d read = refl
value_begins depth (Token.begin_array ∷ ts) rest d read = refl
value_begins depth (Token.end_array ∷ ts) rest d read =
    let no = rw (value_is depth (Token.end_array ∷ ts)) at read in absurd cc
value_begins depth (Token.key s ∷ ts) rest d read = refl
value_begins depth (Token.string s ∷ ts) rest d read = refl
value_begins depth (Token.number s ∷ ts) rest d read = refl
value_begins depth (Token.boolean b ∷ ts) rest d read = refl
value_begins depth (Token.null ∷ ts) rest d read = refl
value_begins depth (Token.bad ∷ ts) rest d read = refl

-- one item more
pub came_more : {A : Type 0} (f : Data → Option A) (depth : ℕ) (all ts mid : List Token) (xs zs : List A) (x : A)
    → Came f depth all xs ts → GivesValue f depth ts x mid → zs ≡ xs ++ x ∷ [] → Came f depth all zs mid
came_more f depth all ts mid xs zs x came one push =
    let going : after_end_array ts ≡ None = value_begins depth ts mid one.datum one.read in
    let less : length mid < length ts = value_takes depth ts mid one.datum one.read in
    record {
      n = came.n - 1;
      enough = omega (arith, came.enough, less);
      onward = λ ys rest more.
          rw (push, append_assoc xs (x ∷ []) ys) (came.onward (x ∷ ys) rest
          (items_read f depth came.n ts mid rest x ys (omega (arith, came.enough, less)) going one more));
    }

-- an array of this many items
begun_array : (depth : ℕ) (all : List Token)
    → value (suc depth) (Token.begin_array ∷ all) ≡ parse_map json.array
    (items (value depth) (length all) all)
unfolding value
begun_array depth all = refl

-- an item makes the tokens fewer
pub came_shorter : {A : Type 0} (f : Data → Option A) (depth : ℕ) (ts mid : List Token) (x : A)
    → GivesValue f depth ts x mid → length mid < length ts
came_shorter f depth ts mid x one = value_takes depth ts mid one.datum one.read

-- at the bracket all are read
pub came_all : {A : Type 0} (f : Data → Option A) (depth : ℕ) (all ts rest old : List Token) (xs : List A)
    → Came f depth all xs ts → after_end_array ts ≡ Some rest → old ≡ Token.begin_array ∷ all
    → GivesValue (list_in f) (suc depth) old xs rest
came_all f depth all ts rest old xs came over begins =
    let h = came.onward [] rest (items_over f depth came.n ts rest came.enough over) in
    let js = converted_some of_items (items (value depth) (length all) all) h.datum rest h.read in
    record {
      datum = array h.datum;
      read = ap (converted of_json) (ap (value (suc depth)) begins
          ∙ begun_array depth all ∙ ap (parse_map json.array) js.1) ∙ rw js.2 refl;
      gives = h.gives ∙ ap Some (append-nil xs);
    }

-- an array of no item
pub came_empty : {A : Type 0} (f : Data → Option A) (depth : ℕ) (all rest old : List Token)
    → after_end_array all ≡ Some rest → old ≡ Token.begin_array ∷ all → GivesValue (list_in f) (suc depth) old [] rest
came_empty f depth all rest old over begins =
    came_all f depth all all rest old [] (came_start f depth all [] refl) over begins

-- ---- the members of an object

-- members that were read, before those that are left
pub record Reached {S : Type 0} (Are : S → Members → Type 0) (depth : ℕ) (all ts : List Token) (s : S)
    : Type 0 where
  pub n : ℕ
  pub enough : length ts ≤ n
  pub found : Members
  pub onward : (ms : Members) (rest : List Token)
      → converted (λ js. of_members js found) (members (value depth) n ts) ≡ Some (ms, rest)
      → converted (λ js. of_members js no_members) (members (value depth) (length all) all) ≡ Some (ms, rest)
  pub are : Are s found

-- no member is bad
no_members_there : (depth : ℕ) → members (value depth) 1 (Token.bad ∷ []) ≡ None
unfolding members
no_members_there depth = refl

-- at the start none was read
reached_start : {S : Type 0} (Are : S → Members → Type 0) (depth : ℕ) (ts : List Token) (s : S)
    → Are s no_members → Reached Are depth ts ts s
reached_start Are depth ts s are = record {
  n = length ts;
  enough = omega arith;
  found = no_members;
  onward = λ ms rest read. read;
  are = are;
}

-- none is read after the brace that opens the object
pub reached_begun : {S : Type 0} (Are : S → Members → Type 0) (depth : ℕ) (t : List ℕ) (s : S)
    → Are s no_members → Reached Are depth (fresh_tokens t) (value_tokens t) s
reached_begun Are depth t s are = elim (begun (lex between t)) [
  | inl same ↦ rw same (reached_start Are depth (fresh_tokens t) s are)
  | inr bad ↦ rw bad (record {
    n = 1;
    enough = omega arith;
    found = no_members;
    onward = λ ms rest read. let no = rw (no_members_there depth) at read in absurd cc;
    are = are;
  })
]

-- one member more goes in
member_in : (k : List ℕ) (j : json.Json) (d : Data) (old : Members) → of_json j ≡ Some d
    → (o : Option (json.Members × List Token))
    → converted (λ ms. of_members ms old) (parse_map (json.member k j) o)
    ≡ converted (λ ms. of_members ms (put k d old)) o
member_in k j d old e None = refl
member_in k j d old e (Some p) = rw e refl

-- one member more
pub reached_more : {S : Type 0} (Are : S → Members → Type 0) (depth : ℕ) (all ts mid rest : List Token)
    (key : List ℕ) (s t : S) → Reached Are depth all ts s → read_key ts ≡ Some (Some key, mid)
    → Adds Are key depth mid rest s t → Reached Are depth all rest t
reached_more Are depth all ts mid rest key s t h named one =
    let j = converted_some of_json (value depth mid) one.datum rest one.read in
    let less : length mid < length ts = read_key-shorter ts (Some key) mid named in
    let lesser : length rest < length mid = value_takes depth mid rest one.datum one.read in
    record {
      n = h.n - 1;
      enough = omega (arith, h.enough, less, lesser);
      found = put key one.datum h.found;
      onward = λ ms over read. h.onward ms over
          (ap (converted (λ js. of_members js h.found)) (members_more (value depth) h.n key ts mid rest j.0
          (omega (arith, h.enough, less)) named j.1)
          ∙ member_in key j.0 one.datum h.found j.2 (members (value depth) (h.n - 1) rest) ∙ read);
      are = one.adds h.found h.are;
    }

-- at the brace all are read
pub reached_all : {S : Type 0} (Are : S → Members → Type 0) (depth : ℕ) (all ts rest : List Token) (s : S)
    → Reached Are depth all ts s → read_key ts ≡ Some (None, rest) → GivesMembers Are depth all rest s
reached_all Are depth all ts rest s h over = record {
  found = h.found;
  read = h.onward h.found rest (ap (converted (λ js. of_members js h.found)) (members_end (value depth) h.n ts rest
      h.enough over));
  are = h.are;
}

-- an object of this many members
begun_object : (depth : ℕ) (all : List Token)
    → value (suc depth) (Token.begin_object ∷ all)
    ≡ parse_map json.object (members (value depth) (length all) all)
unfolding value
begun_object depth all = refl

-- the object gives what these members of it give
pub gives_object_of : {S A : Type 0} (Are : S → Members → Type 0) (f : Data → Option A) (depth : ℕ)
    (old all rest : List Token) (s : S) (x : A) → old ≡ Token.begin_object ∷ all
    → (h : GivesMembers Are depth all rest s) → f (object h.found) ≡ Some x
    → GivesValue f (suc depth) old x rest
gives_object_of Are f depth old all rest s x begins h gives =
    let ms = converted_some (λ ms. of_members ms no_members) (members (value depth) (length all) all) h.found
    rest h.read in
    record {
      datum = object h.found;
      read = ap (converted of_json) (ap (value (suc depth)) begins
          ∙ begun_object depth all ∙ ap (parse_map json.object) ms.1)
          ∙ rw ms.2 refl;
      gives = gives;
    }

-- the object gives what its members give
pub gives_object : {S A : Type 0} (Are : S → Members → Type 0) (f : Data → Option A) (depth : ℕ)
    (old all rest : List Token) (s : S) (x : A) → old ≡ Token.begin_object ∷ all
    → GivesMembers Are depth all rest s → ((ms : Members) → Are s ms → f (object ms) ≡ Some x)
    → GivesValue f (suc depth) old x rest
gives_object Are f depth old all rest s x begins h gives =
    gives_object_of Are f depth old all rest s x begins h (gives h.found h.are)

-- ---- the whole text

-- a value that nothing follows is the text's
pub whole_read : (o : Option (json.Json × List Token)) (d : Data) → converted of_json o ≡ Some (d, [])
    → option_and_then of_json (option_and_then (λ p. if_last p.0 p.1) o) ≡ Some d
whole_read o d e =
    let j = converted_some of_json o d [] e in
    ap (λ r. option_and_then of_json (option_and_then (λ p. if_last p.0 p.1) r)) j.1 ∙ j.2

-- a member makes the tokens fewer
pub adds_shorter : {S : Type 0} (Are : S → Members → Type 0) (key : List ℕ) (depth : ℕ)
    (ts mid rest : List Token)
    (s t : S) → read_key ts ≡ Some (Some key, mid) → Adds Are key depth mid rest s t → length rest < length ts
adds_shorter Are key depth ts mid rest s t named h = omega (
  arith,
  read_key-shorter ts (Some key) mid named,
  value_takes depth mid rest h.datum h.read,
)
