-- A newline after a JSON text that was printed changes nothing of what is read.
use Rattle.std.proofs.Common.{◌≡◌, ◌&&◌, ℕ, List, [], ◌∷◌, ◌++◌, Bool, true, false, cond, refl, sym, ap, ap₂, ◌∙◌}
use Rattle.std.proofs.Common.{append_assoc}
use Rattle.json.specs.Token.{Token, begin_object, end_object, begin_array, end_array, key, string, number}
use Rattle.json.specs.Token.{boolean, null, bad}
use Rattle.json.specs.Word.{ends_word, word}
use Rattle.json.specs.Lex.{token, string_token, lex, between, in_word, fresh, punctuate, tokens}
use Rattle.json.specs.Print.{escape, quoted, token_text, begins, ends, separator, print_from, print, IsPrintable}
use Rattle.json.specs.Print.{ArePrintable}
use Rattle.json.proofs.Printed.Strings.{content-escape, lex-escape}
use Rattle.json.proofs.Printed.Numbers.{lex-number, in_word-ended}

-- a newline ends a word, as the end does
ends_nl : (r : List ℕ) → ends_word (r ++ 10 ∷ []) ≡ ends_word r
ends_nl [] = refl
ends_nl (x ∷ xs) = refl

-- after a value stands a comma, a bracket that closes or nothing
value_ends : (ts : List Token) → ends_word (print_from true ts) ≡ true
unfolding print_from
value_ends [] = refl
value_ends (begin_object ∷ ts) = refl
value_ends (end_object ∷ ts) = refl
value_ends (begin_array ∷ ts) = refl
value_ends (end_array ∷ ts) = refl
value_ends (key s ∷ ts) = refl
value_ends (string s ∷ ts) = refl
value_ends (number s ∷ ts) = refl
value_ends (boolean b ∷ ts) = refl
value_ends (null ∷ ts) = refl
value_ends (bad ∷ ts) = refl

-- a string and what follows it
string_read : (s r : List ℕ) → lex between (quoted s ++ r) ≡ token (string s) ∷ lex between r
unfolding lex
string_read s r =
    ap (λ l. lex between (34 ∷ l)) (append_assoc (escape s) (34 ∷ []) r)
    ∙ ap₂ (λ o l. token (string_token o) ∷ l) (content-escape s r) (lex-escape s r)

-- a string before two rests that are read alike
string_same : (s p q : List ℕ) → lex between p ≡ lex between q
    → lex between (quoted s ++ p) ≡ lex between (quoted s ++ q)
string_same s p q same = string_read s p ∙ ap (λ l. token (string s) ∷ l) same ∙ sym (string_read s q)

-- a word that is no number, before two rests that are read alike
word_same : (t : Token) (p q : List ℕ) → (ends_word p ≡ true) × (ends_word q ≡ true)
    → lex between p ≡ lex between q
    → token (cond (ends_word p) t bad) ∷ lex in_word p ≡ token (cond (ends_word q) t bad) ∷ lex in_word q
word_same t p q ended same =
    ap₂ (λ b l. token (cond b t bad) ∷ l) (ended.0 ∙ sym ended.1)
    (in_word-ended p ended.0 ∙ same ∙ sym (in_word-ended q ended.1))

-- a token
token_same : (t : Token) (p q : List ℕ) → IsPrintable t
    → (ends t ≡ true → (ends_word p ≡ true) × (ends_word q ≡ true)) → lex between p ≡ lex between q
    → lex between (token_text t ++ p) ≡ lex between (token_text t ++ q)
unfolding lex word
token_same begin_object p q h ended same = rw same refl
token_same end_object p q h ended same = rw same refl
token_same begin_array p q h ended same = rw same refl
token_same end_array p q h ended same = rw same refl
token_same (key s) p q h ended same =
    ap (lex between) (append_assoc (quoted s) (58 ∷ []) p)
    ∙ string_same s (58 ∷ p) (58 ∷ q) (rw same refl) ∙ sym (ap (lex between) (append_assoc (quoted s) (58 ∷ []) q))
token_same (string s) p q h ended same = string_same s p q same
token_same (number s) p q h ended same =
    lex-number s p h (ended refl).0 ∙ ap (λ l. token (number s) ∷ l) same ∙ sym (lex-number s q h (ended refl).1)
token_same (boolean true) p q h ended same = word_same (boolean true) p q (ended refl) same
token_same (boolean false) p q h ended same = word_same (boolean false) p q (ended refl) same
token_same null p q h ended same = word_same null p q (ended refl) same
token_same bad p q h ended same = absurd h

-- what stands before a token
separator_same : (b : Bool) (p q : List ℕ) → lex between p ≡ lex between q
    → lex between (cond b (44 ∷ []) [] ++ p) ≡ lex between (cond b (44 ∷ []) [] ++ q)
unfolding lex
separator_same true p q same = rw same refl
separator_same false p q same = same

-- all tokens
printed_nl : (c : Bool) (ts : List Token) → ArePrintable ts
    → lex between (print_from c ts ++ 10 ∷ []) ≡ lex between (print_from c ts)
unfolding lex print_from ArePrintable
printed_nl c [] h = refl
printed_nl c (t ∷ ts) h =
    let rest = print_from (ends t) ts in
    let over : (b : Bool) → ends t ≡ b → b ≡ true → ends_word rest ≡ true =
    λ b is yes. ap (λ e. ends_word (print_from e ts)) (is ∙ yes) ∙ value_ends ts in
    ap (lex between) (append_assoc (separator c t) (token_text t ++ rest) (10 ∷ [])
    ∙ ap (λ l. separator c t ++ l) (append_assoc (token_text t) rest (10 ∷ [])))
    ∙ separator_same (c && begins t) (token_text t ++ (rest ++ 10 ∷ [])) (token_text t ++ rest)
    (token_same t (rest ++ 10 ∷ []) rest h.0
    (λ e. (ends_nl rest ∙ over true e refl, over true e refl)) (printed_nl (ends t) ts h.1))

-- a newline after a text that was printed changes none of its tokens
pub tokens_newline : (ts : List Token) → ArePrintable ts → tokens (print ts ++ 10 ∷ []) ≡ tokens (print ts)
tokens_newline ts h = ap (punctuate fresh) (printed_nl false ts h)
