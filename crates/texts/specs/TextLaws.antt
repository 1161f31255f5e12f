-- A text that is added piece by piece.
use Rattle.std.proofs.Common.{◌≡◌, ◌++◌, ◌∷◌, [], ◌+◌, ℕ, suc, List, Result, Ok, Err, take, ap, sym, arith, ◌∙◌}
use Rattle.std.specs.Prelude.{OnOk}
use Rattle.std.specs.List.{flat_map}
use Rattle.std.proofs.lemmas.Grind.{flat_map-append}
use Rattle.std.proofs.lemmas.List.{append_assoc, append-nil}
use Rattle.texts.specs.Below.{texts_below}

-- what follows for an `Ok`
pub on_ok : {X E : Type 0} (r : Result X E) (P Q : Type 0) → (P → Q) → OnOk r P → OnOk r Q
on_ok (Ok x) P Q f p = f p
on_ok (Err e) P Q f p = p

-- two pieces, and more
pub two : (o p q a b : List ℕ) → p ≡ o ++ a → q ≡ p ++ b → q ≡ o ++ (a ++ b)
two o p q a b h i = i ∙ ap (λ (t : List ℕ). t ++ b) h ∙ append_assoc o a b

pub three : (o p q r a b c : List ℕ) → p ≡ o ++ a → q ≡ p ++ b → r ≡ q ++ c → r ≡ o ++ (a ++ b ++ c)
three o p q r a b c h i j = two o q r (a ++ b) c (two o p q a b h i) j

pub four : (o p q r s a b c d : List ℕ) → p ≡ o ++ a → q ≡ p ++ b → r ≡ q ++ c → s ≡ r ++ d
    → s ≡ o ++ (a ++ b ++ c ++ d)
four o p q r s a b c d h i j k = two o r s (a ++ b ++ c) d (three o p q r a b c h i j) k

-- two pieces, of which the last is added at the end
pub two_last : {X E : Type 0} (x : Result X E) (o p q a b : List ℕ) → p ≡ o ++ a → OnOk x (q ≡ p ++ b)
    → OnOk x (q ≡ o ++ (a ++ b))
two_last x o p q a b h = on_ok x (q ≡ p ++ b) (q ≡ o ++ (a ++ b)) (two o p q a b h)

pub three_last : {X E : Type 0} (x : Result X E) (o p q r a b c : List ℕ) → p ≡ o ++ a → q ≡ p ++ b
    → OnOk x (r ≡ q ++ c) → OnOk x (r ≡ o ++ (a ++ b ++ c))
three_last x o p q r a b c h i = two_last x o q r (a ++ b) c (two o p q a b h i)

pub four_last : {X E : Type 0} (x : Result X E) (o p q r s a b c d : List ℕ) → p ≡ o ++ a → q ≡ p ++ b
    → r ≡ q ++ c → OnOk x (s ≡ r ++ d) → OnOk x (s ≡ o ++ (a ++ b ++ c ++ d))
four_last x o p q r s a b c d h i j = two_last x o r s (a ++ b ++ c) d (three o p q r a b c h i j)

pub five_last : {X E : Type 0} (x : Result X E) (o p q r s t a b c d e : List ℕ) → p ≡ o ++ a → q ≡ p ++ b
    → r ≡ q ++ c → s ≡ r ++ d → OnOk x (t ≡ s ++ e) → OnOk x (t ≡ o ++ (a ++ b ++ c ++ d ++ e))
five_last x o p q r s t a b c d e h i j k =
    two_last x o s t (a ++ b ++ c ++ d) e (four o p q r s a b c d h i j k)

-- the texts of one number more
pub next_text : (f : ℕ → List ℕ) (i : ℕ) (o p q : List ℕ) → p ≡ o ++ texts_below f i → q ≡ p ++ f i
    → q ≡ o ++ texts_below f (i + 1)
next_text f i o p q h k =
    let next : suc i ≡ i + 1 = omega arith in
    two o p q (texts_below f i) (f i) h k ∙ ap (λ (n : ℕ). o ++ texts_below f n) next

-- the texts of one item more
pub next_item : {X : Type 0} (f : X → List ℕ) (xs : List X) (i : ℕ) (x : X) (o p q : List ℕ)
    → take (i + 1) xs ≡ take i xs ++ x ∷ [] → p ≡ o ++ flat_map f (take i xs) → q ≡ p ++ f x
    → q ≡ o ++ flat_map f (take (i + 1) xs)
next_item {X} f xs i x o p q more h k =
    let texts : flat_map f (take (i + 1) xs) ≡ flat_map f (take i xs) ++ f x =
    ap (λ (items : List X). flat_map f items) more ∙ flat_map-append f (take i xs) (x ∷ [])
    ∙ ap (λ (t : List ℕ). flat_map f (take i xs) ++ t) (append-nil (f x)) in
    two o p q (flat_map f (take i xs)) (f x) h k ∙ ap (λ (t : List ℕ). o ++ t) (sym texts)
