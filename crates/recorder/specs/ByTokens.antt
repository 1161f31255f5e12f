-- What the bytes of a text give, read by the tokens that they write.
use Rattle.std.specs.Prelude.{◌≡◌, ℕ, List, length, Option, Some, option_map}
use Rattle.json.specs.Token.{Token}
use Rattle.json.specs.Json.{value, members}
use Rattle.json.specs.Lex.{lex, between, punctuate, fresh, after_comma, after_value}
use Rattle.serde_json.specs.Data.{Data, Members, no_members, put}
use Rattle.serde_json.specs.Find.{get_member}
use Rattle.serde_json.specs.Read.{of_json, of_members, converted}
use Rattle.recorder.specs.Reading.{source_in}
use Rattle.recorder.specs.Clipped.{clip}

-- the tokens of what is left of a text, after a bracket or a colon
abbrev pub fresh_tokens : List ℕ → List Token
fresh_tokens text = punctuate fresh (lex between text)

-- after a comma, where a value or a key has to stand
abbrev pub value_tokens : List ℕ → List Token
value_tokens text = punctuate after_comma (lex between text)

-- after a value
abbrev pub later_tokens : List ℕ → List Token
later_tokens text = punctuate after_value (lex between text)

-- what is held of the source of an event
abbrev pub clipped_source : Data → Option (Option ℕ)
clipped_source d = option_map (option_map clip) (source_in d)

-- the tokens begin with a value that gives x, and the rest follows it
pub record GivesValue {A : Type 0} (f : Data → Option A) (depth : ℕ) (tokens : List Token) (x : A)
    (rest : List Token) : Type 0 where
  pub datum : Data
  pub read : converted of_json (value depth tokens) ≡ Some (datum, rest)
  pub gives : f datum ≡ Some x

-- the value at a key, if there is one, gives what was read at it
pub record AtKey {A : Type 0} (f : Data → Option A) (key : List ℕ) (ms : Members) (o : Option A) : Type 0 where
  pub gives : option_map f (get_member key ms) ≡ option_map Some o

-- the tokens begin with a value that, put at the key of members that are `old`, makes them `new`
pub record Adds {S : Type 0} (Are : S → Members → Type 0) (key : List ℕ) (depth : ℕ)
    (tokens rest : List Token) (old new : S) : Type 0 where
  pub datum : Data
  pub read : converted of_json (value depth tokens) ≡ Some (datum, rest)
  pub adds : (ms : Members) → Are old ms → Are new (put key datum ms)

-- the tokens begin with the members of an object, and the brace that closes it
pub record GivesMembers {S : Type 0} (Are : S → Members → Type 0) (depth : ℕ) (tokens rest : List Token)
    (s : S) : Type 0 where
  pub found : Members
  pub read : converted (λ ms. of_members ms no_members) (members (value depth) (length tokens) tokens)
      ≡ Some (found, rest)
  pub are : Are s found
