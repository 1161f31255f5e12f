-- Events that are written with their keys in one order.
use Rattle.std.specs.Prelude.{◌≡◌, ◌⊎◌, ◌++◌, ◌∷◌, ℕ, List, codes, decimal, true}
use Rattle.json.specs.Token.{Token}
use Rattle.json.specs.Tree.{json_tokens}
use Rattle.json.specs.Word.{ends_word}
use Rattle.serde_json.specs.Data.{Data}
use Rattle.serde_json.specs.Written.{outline}
use Rattle.recording.specs.declared.event.Event.{Event}
use Rattle.recorder.specs.Text.{event_data}
use Rattle.recorder.specs.Written.{IsFitting}
use Rattle.recorder.specs.ByTokens.{value_tokens, later_tokens}

-- the tokens of a value, before others
abbrev pub tokens_of : Data → List Token → List Token
tokens_of d rest = json_tokens (outline d) ++ rest

-- a comma stands next
abbrev pub BeginsComma : List ℕ → Type 0
BeginsComma text = (more : List ℕ) × (text ≡ 44 ∷ more)

-- the key of a kind and a quotation mark stand next, and then the rest
abbrev pub BeginsKind : List ℕ → List ℕ → Type 0
BeginsKind text rest = (text ≡ codes ",\"k\":\"" ++ rest) ⊎ (text ≡ codes ", \"k\": \"" ++ rest)

-- the bytes begin with an event, which fits, and the rest follows it
pub record WritesEvent (text : List ℕ) (e : Event) (rest : List ℕ) : Type 0 where
  pub fits : IsFitting e
  pub tokens : value_tokens text ≡ tokens_of (event_data e) (later_tokens rest)

-- the bytes after the address of an event begin with what is left of it, which fits, and the rest follows it
pub record EndsEvent (a : ℕ) (text : List ℕ) (e : Event) (rest : List ℕ) : Type 0 where
  pub fits : IsFitting e
  pub word : ends_word text ≡ true
  pub tokens : Token.begin_object ∷ Token.key (codes "a") ∷ Token.number (decimal a) ∷ later_tokens text
      ≡ tokens_of (event_data e) (later_tokens rest)
