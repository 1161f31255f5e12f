-- Events that are written with their keys in one order, piece by piece.
use Rattle.std.proofs.Common.{◌≡◌, ◌^◌, ◌⊎◌, ◌++◌, ◌∷◌, ℕ, suc, List, Option, None, Some, codes, decimal}
use Rattle.std.proofs.Common.{option_map, true, inl, inr, refl, ap, ◌∙◌, arith}
use Rattle.std.proofs.lemmas.Bool.{lt-ltb}
use Rattle.json.specs.Token.{Token}
use Rattle.json.specs.Text.{content}
use Rattle.json.specs.Word.{ends_word, word}
use Rattle.json.specs.Lex.{lex, between, punctuate, fresh}
use Rattle.json.specs.Json.{value}
use Rattle.json.proofs.Printed.Numbers.{lex-number, in_word-ended}
use Rattle.json.proofs.Printed.Decimals.{IsNumber-decimal}
use Rattle.json.proofs.Printed.Trees.{value-json_tokens}
use Rattle.serde_json.specs.Read.{of_json, converted}
use Rattle.serde_json.specs.Written.{outline, compact_text}
use Rattle.recording.specs.declared.event.Event.{Event}
use Rattle.recording.specs.declared.event.Event.TheVariants.{L, S, R, C, F}
use Rattle.recorder.specs.Text.{source_data, event_data}
use Rattle.recorder.specs.Clipped.{clip, clip_event, clipped_event}
use Rattle.recorder.specs.Written.{IsWord, IsWordSource, IsFitting}
use Rattle.recorder.specs.ByTokens.{GivesValue, value_tokens, fresh_tokens, later_tokens}
use Rattle.recorder.specs.Usual.{tokens_of, BeginsComma, BeginsKind, WritesEvent, EndsEvent}
use Rattle.recorder.proofs.Again.{event_again}
use Rattle.recorder.proofs.WrittenAgain.{event_rereads}

-- ---- numbers and sources

-- a number after a colon
pub number_fresh : (old new : List ℕ) (n : ℕ) → IsWord n → old ≡ decimal n ++ new → ends_word new ≡ true
    → fresh_tokens old ≡ Token.number (decimal n) ∷ later_tokens new
unfolding punctuate
number_fresh old new n fits is ends =
    ap (punctuate fresh) (ap (lex between) is
    ∙ lex-number (decimal n) new (IsNumber-decimal n (omega (arith, fits))) ends)

-- a source after a colon
pub source_fresh : (old new : List ℕ) (s : Option ℕ) → IsWordSource s → old ≡ compact_text (source_data s) ++ new
    → ends_word new ≡ true → fresh_tokens old ≡ tokens_of (source_data s) (later_tokens new)
unfolding lex word punctuate
source_fresh old new None fits is ends =
    ap (punctuate fresh) (ap (lex between) is) ∙ rw (ends, in_word-ended new ends) refl
source_fresh old new (Some n) fits is ends = number_fresh old new n fits is ends

-- ---- the pieces between them

-- a word ends before a comma
pub comma_ends : (text : List ℕ) → BeginsComma text → ends_word text ≡ true
comma_ends text comma = rw comma.1 refl

-- the key of a value that is read
pub value_key : (old new : List ℕ) → (old ≡ codes ",\"r\":" ++ new) ⊎ (old ≡ codes ", \"r\": " ++ new)
    → BeginsComma old × (later_tokens old ≡ Token.key (codes "r") ∷ fresh_tokens new)
unfolding lex content punctuate
value_key old new (inl is) = ((codes "\"r\":" ++ new, is), rw is refl)
value_key old new (inr is) = ((codes " \"r\": " ++ new, is), rw is refl)

-- the key of a source
pub source_key : (old new : List ℕ) → (old ≡ codes ",\"s\":" ++ new) ⊎ (old ≡ codes ", \"s\": " ++ new)
    → BeginsComma old × (later_tokens old ≡ Token.key (codes "s") ∷ fresh_tokens new)
unfolding lex content punctuate
source_key old new (inl is) = ((codes "\"s\":" ++ new, is), rw is refl)
source_key old new (inr is) = ((codes " \"s\": " ++ new, is), rw is refl)

-- the key of a value that is written
pub write_key : (old new : List ℕ) → (old ≡ codes ",\"w\":" ++ new) ⊎ (old ≡ codes ", \"w\": " ++ new)
    → BeginsComma old × (later_tokens old ≡ Token.key (codes "w") ∷ fresh_tokens new)
unfolding lex content punctuate
write_key old new (inl is) = ((codes "\"w\":" ++ new, is), rw is refl)
write_key old new (inr is) = ((codes " \"w\": " ++ new, is), rw is refl)

-- the kind of a load
pub kind_L : (old mid new : List ℕ) → BeginsKind old mid
    → mid ≡ codes "L\"" ++ new → BeginsComma new
    → (ends_word old ≡ true) × (later_tokens old ≡ Token.key (codes "k") ∷ Token.string (codes "L") ∷ later_tokens new)
unfolding lex content punctuate
kind_L old mid new (inl is) letter comma = rw (is, letter, comma.1) (refl, refl)
kind_L old mid new (inr is) letter comma = rw (is, letter, comma.1) (refl, refl)

-- the kind of a store
pub kind_S : (old mid new : List ℕ) → BeginsKind old mid
    → mid ≡ codes "S\"" ++ new → BeginsComma new
    → (ends_word old ≡ true) × (later_tokens old ≡ Token.key (codes "k") ∷ Token.string (codes "S") ∷ later_tokens new)
unfolding lex content punctuate
kind_S old mid new (inl is) letter comma = rw (is, letter, comma.1) (refl, refl)
kind_S old mid new (inr is) letter comma = rw (is, letter, comma.1) (refl, refl)

-- the kind of a read-modify-write
pub kind_R : (old mid new : List ℕ) → BeginsKind old mid
    → mid ≡ codes "R\"" ++ new → BeginsComma new
    → (ends_word old ≡ true) × (later_tokens old ≡ Token.key (codes "k") ∷ Token.string (codes "R") ∷ later_tokens new)
unfolding lex content punctuate
kind_R old mid new (inl is) letter comma = rw (is, letter, comma.1) (refl, refl)
kind_R old mid new (inr is) letter comma = rw (is, letter, comma.1) (refl, refl)

-- the kind of a compare-and-swap that failed
pub kind_C : (old mid new : List ℕ) → BeginsKind old mid
    → mid ≡ codes "C\"" ++ new → BeginsComma new
    → (ends_word old ≡ true) × (later_tokens old ≡ Token.key (codes "k") ∷ Token.string (codes "C") ∷ later_tokens new)
unfolding lex content punctuate
kind_C old mid new (inl is) letter comma = rw (is, letter, comma.1) (refl, refl)
kind_C old mid new (inr is) letter comma = rw (is, letter, comma.1) (refl, refl)

-- the key of an address, and perhaps a space
pub address_key : (old mid new : List ℕ) → old ≡ codes "{\"a\":" ++ mid → lex between new ≡ lex between mid
    → value_tokens old ≡ Token.begin_object ∷ Token.key (codes "a") ∷ fresh_tokens new
unfolding lex content punctuate
address_key old mid new is same = rw (is, ← same) refl

-- a fence
pub fence_writes : (old mid next new : List ℕ) → old ≡ codes "{\"k\":" ++ mid → lex between next ≡ lex between mid
    → next ≡ codes "\"F\"}" ++ new → WritesEvent old F new
unfolding lex content punctuate
fence_writes old mid next new is same letter = record { fits = tt; tokens = rw (is, ← same, letter) refl }

-- the brace that closes an event
pub brace_ends : (old new : List ℕ) → old ≡ 125 ∷ new
    → (ends_word old ≡ true) × (later_tokens old ≡ Token.end_object ∷ later_tokens new)
unfolding lex punctuate
brace_ends old new is = rw is (refl, refl)

-- ---- the event

-- an event by its address and what is left of it
pub event_writes : (old mid left new : List ℕ) (a : ℕ) (e : Event)
    → value_tokens old ≡ Token.begin_object ∷ Token.key (codes "a") ∷ fresh_tokens mid
    → IsWord a × (mid ≡ decimal a ++ left) → EndsEvent a left e new → WritesEvent old e new
event_writes old mid left new a e opens address ends = record {
  fits = ends.fits;
  tokens = opens ∙ ap (λ (ts : List Token). Token.begin_object ∷ Token.key (codes "a") ∷ ts)
      (number_fresh mid left a address.0 address.1 ends.word) ∙ ends.tokens;
}

-- a number of 32 bits is not clipped
clip_same : (n : ℕ) → IsWord n → clip n ≡ n
clip_same n h = rw (lt-ltb n (2 ^ 32) h) refl

-- nor is a source
clip_source : (s : Option ℕ) → IsWordSource s → option_map clip s ≡ s
clip_source None h = refl
clip_source (Some s) h = ap Some (clip_same s h)

-- nor an event
clip_event_same : (e : Event) → IsFitting e → clip_event e ≡ e
clip_event_same (L a r s) h = rw (clip_same a h.0, clip_source s h.2) refl
clip_event_same (S a w) h = rw (clip_same a h.0) refl
clip_event_same (R a r s w) h = rw (clip_same a h.0, clip_source s h.2) refl
clip_event_same (C a r s) h = rw (clip_same a h.0, clip_source s h.2) refl
clip_event_same F h = refl

-- an event that is written is one that is read
pub usual_gives : (depth : ℕ) (old new : List ℕ) (e : Event) → WritesEvent old e new
    → GivesValue clipped_event (suc depth) (value_tokens old) e (later_tokens new)
usual_gives depth old new e h =
    let again = event_rereads e h.fits in
    record {
      datum = event_data e;
      read = ap (converted of_json) (ap (value (suc depth)) h.tokens
          ∙ value-json_tokens (outline (event_data e)) (suc depth) (later_tokens new) (omega (arith, again.shallow)))
          ∙ rw again.same refl;
      gives = ap (option_map clip_event) (event_again e h.fits) ∙ ap Some (clip_event_same e h.fits);
    }
