-- The tokens of a text by the sign that stands next.
use Rattle.std.proofs.Common.{◌≡◌, ◌<◌, ◌≤◌, ◌^◌, ◌-◌, take, ◌⊎◌, inl, inr, ℕ, List, [], ◌∷◌, ◌++◌, length, drop, None}
use Rattle.std.proofs.Common.{slice_index_or, Some, decimal, true, false}
use Rattle.std.proofs.Common.{codes, refl, sym, ap, ap₂, ◌∙◌, arith}
use Rattle.std.proofs.lemmas.Bool.{or_cases, eqb-true}
use Rattle.std.proofs.lemmas.List.{take_all}
use Rattle.json.specs.Token.{Token}
use Rattle.json.specs.Json.{after_end_array, read_key}
use Rattle.json.specs.Word.{is_space, ends_word, word}
use Rattle.json.specs.Lex.{Lexeme, token, string_token, lex, between, punctuate, fresh, after_comma, after_value}
use Rattle.json.specs.Lex.{begins_colon}
use Rattle.json.specs.Print.{escape}
use Rattle.json.proofs.Printed.Strings.{content-escape, lex-escape, escape_byte_plain}
use Rattle.json.proofs.Printed.Numbers.{lex-number, in_word-ended}
use Rattle.json.proofs.Printed.Decimals.{IsNumber-decimal}
use Rattle.recorder.specs.ByTokens.{value_tokens, fresh_tokens, later_tokens}

-- white space is one of these
space_is : (x : ℕ) → is_space x ≡ true → (x ≡ 32) ⊎ ((x ≡ 9) ⊎ ((x ≡ 10) ⊎ (x ≡ 13)))
space_is x h = elim (or_cases _ _ h) [
  | inl k ↦ elim (or_cases _ _ k) [
    | inl l ↦ elim (or_cases _ _ l) [
      | inl s ↦ inl (eqb-true x 32 s)
      | inr s ↦ inr (inl (eqb-true x 9 s))
    ]
    | inr s ↦ inr (inr (inl (eqb-true x 10 s)))
  ]
  | inr s ↦ inr (inr (inr (eqb-true x 13 s)))
]

-- white space changes no lexeme
space_passed : (x : ℕ) (xs : List ℕ) → (x ≡ 32) ⊎ ((x ≡ 9) ⊎ ((x ≡ 10) ⊎ (x ≡ 13)))
    → lex between (x ∷ xs) ≡ lex between xs
unfolding lex
space_passed x xs (inl e) = rw e refl
space_passed x xs (inr (inl e)) = rw e refl
space_passed x xs (inr (inr (inl e))) = rw e refl
space_passed x xs (inr (inr (inr e))) = rw e refl

-- a first byte that is white space
pub space_skipped : (t : List ℕ) → 0 < length t → is_space (slice_index_or t 0 0) ≡ true
    → lex between (take (length t - 1) (drop 1 t)) ≡ lex between t
space_skipped [] some space = absurd (omega (arith, some))
space_skipped (y ∷ ys) some space =
    ap (lex between) (take_all (length (y ∷ ys) - 1) ys (omega arith)) ∙ sym (space_passed y ys (space_is y space))

-- one space
pub one_skipped : (old new : List ℕ) → old ≡ 32 ∷ new → lex between new ≡ lex between old
unfolding lex
one_skipped old new is = rw is refl

-- a comma is no colon
pub comma_next : (t : List ℕ) → slice_index_or t 0 0 ≡ 44 → begins_colon (lex between t) ≡ false
unfolding lex
comma_next [] is = refl
comma_next (y ∷ ys) is = let same : y ≡ 44 = is in rw same refl

-- and a brace that closes is none
pub brace_next : (t : List ℕ) → slice_index_or t 0 0 ≡ 125 → begins_colon (lex between t) ≡ false
unfolding lex
brace_next [] is = refl
brace_next (y ∷ ys) is = let same : y ≡ 125 = is in rw same refl

-- nothing follows the end
pub nothing_follows : (old new : List ℕ) → lex between new ≡ lex between old → new ≡ [] → later_tokens old ≡ []
unfolding lex punctuate
nothing_follows old new same over = ap (punctuate after_value) (sym same ∙ ap (lex between) over)

-- the bracket that opens an array, and perhaps white space
pub opens_array : (old mid new : List ℕ) → lex between old ≡ lex between (91 ∷ mid) → lex between new ≡ lex between mid
    → value_tokens old ≡ Token.begin_array ∷ fresh_tokens new
unfolding lex punctuate
opens_array old mid new is same = ap (punctuate after_comma) is
    ∙ ap (λ (ls : List Lexeme). Token.begin_array ∷ punctuate fresh ls) (sym same)

-- the brace that opens an object
pub opens_object : (old new : List ℕ) → lex between old ≡ lex between (123 ∷ new)
    → value_tokens old ≡ Token.begin_object ∷ fresh_tokens new
unfolding lex punctuate
opens_object old new is = ap (punctuate after_comma) is

-- the bracket that closes an array at once
pub closes_empty : (old new : List ℕ) → lex between old ≡ lex between (93 ∷ new)
    → after_end_array (fresh_tokens old) ≡ Some (later_tokens new)
unfolding lex punctuate
closes_empty old new is = ap (λ (ls : List Lexeme). after_end_array (punctuate fresh ls)) is

-- white space, and the bracket that closes an array after an item
pub closes_array : (old mid new : List ℕ) → lex between mid ≡ lex between old → lex between mid ≡ lex between (93 ∷ new)
    → after_end_array (later_tokens old) ≡ Some (later_tokens new)
unfolding lex punctuate
closes_array old mid new same is = ap (λ (ls : List Lexeme). after_end_array (punctuate after_value ls)) (sym same ∙ is)

-- white space, and the brace that closes an object after a member
pub closes_object : (old mid new : List ℕ) → lex between mid ≡ lex between old
    → lex between mid ≡ lex between (125 ∷ new) → read_key (later_tokens old) ≡ Some (None, later_tokens new)
unfolding lex punctuate
closes_object old mid new same is = ap (λ (ls : List Lexeme). read_key (punctuate after_value ls)) (sym same ∙ is)

-- a comma after a value
pub comma_follows : (old new : List ℕ) → lex between old ≡ lex between (44 ∷ new) → later_tokens old ≡ value_tokens new
unfolding lex punctuate
comma_follows old new is = ap (punctuate after_value) is

-- a key and its colon
pub key_read : (old mid new s : List ℕ) → lex between old ≡ token (Token.string s) ∷ lex between mid
    → lex between mid ≡ lex between (58 ∷ new) → read_key (value_tokens old) ≡ Some (Some s, fresh_tokens new)
unfolding lex punctuate
key_read old mid new s string sign = rw (string, sign) refl

-- a string that no colon follows
pub string_value : (old mid new s : List ℕ) → lex between old ≡ token (Token.string s) ∷ lex between mid
    → lex between new ≡ lex between mid → begins_colon (lex between new) ≡ false
    → value_tokens old ≡ Token.string s ∷ later_tokens new
unfolding punctuate
string_value old mid new s string same ends = rw (string, ← same, ends) refl

-- a string of one letter
pub letter_read : (x : ℕ) (rest : List ℕ) → (x ≡ 34 → ⊥) → (x ≡ 92 → ⊥) → 32 ≤ x
    → lex between (34 ∷ x ∷ 34 ∷ rest) ≡ token (Token.string (x ∷ [])) ∷ lex between rest
unfolding lex
letter_read x rest quote backslash plain =
    let is : escape (x ∷ []) ≡ x ∷ [] = rw (escape_byte_plain x quote backslash plain) refl in
    ap (λ (t : List ℕ). lex between (34 ∷ (t ++ 34 ∷ rest))) (sym is)
    ∙ ap₂ (λ o l. token (string_token o) ∷ l) (content-escape (x ∷ []) rest) (lex-escape (x ∷ []) rest)

-- a string of one letter that stands next
pub letter_found : (t new : List ℕ) → 3 ≤ length t → slice_index_or t 0 0 ≡ 34 → slice_index_or t 2 0 ≡ 34
    → (slice_index_or t 1 0 ≡ 34 → ⊥) → (slice_index_or t 1 0 ≡ 92 → ⊥) → 32 ≤ slice_index_or t 1 0
    → new ≡ take (length t - 3) (drop 3 t)
    → lex between t ≡ token (Token.string (slice_index_or t 1 0 ∷ [])) ∷ lex between new
letter_found [] new some first third quote backslash plain is = absurd (omega (arith, some))
letter_found (a ∷ []) new some first third quote backslash plain is = absurd (omega (arith, some))
letter_found (a ∷ b ∷ []) new some first third quote backslash plain is = absurd (omega (arith, some))
letter_found (a ∷ b ∷ c ∷ r) new some first third quote backslash plain is =
    let opens : a ≡ 34 = first in
    let closes : c ≡ 34 = third in
    let rest : new ≡ r = is ∙ take_all (length (a ∷ b ∷ c ∷ r) - 3) r (omega arith) in
    rw (opens, closes, rest) (letter_read b r quote backslash plain)

-- a number that ends
pub number_value : (old mid new : List ℕ) (n : ℕ) → lex between mid ≡ lex between old → mid ≡ decimal n ++ new
    → ends_word new ≡ true → n < 2 ^ 64 → value_tokens old ≡ Token.number (decimal n) ∷ later_tokens new
unfolding punctuate
number_value old mid new n same is ends fits =
    ap (punctuate after_comma) (sym same ∙ ap (lex between) is
    ∙ lex-number (decimal n) new (IsNumber-decimal n fits) ends)

-- `null` that ends
pub null_value : (old mid new : List ℕ) → lex between mid ≡ lex between old → mid ≡ codes "null" ++ new
    → ends_word new ≡ true → value_tokens old ≡ Token.null ∷ later_tokens new
unfolding lex word punctuate
null_value old mid new same is ends =
    ap (punctuate after_comma) (sym same ∙ ap (lex between) is) ∙ rw (ends, in_word-ended new ends) refl
