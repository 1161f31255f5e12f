-- Initial values that are resized, and their text.
use Rattle.std.proofs.Common.{◌≡◌, ℕ, zero, suc, ◌+◌, ◌-◌, ◌<◌, ◌≤◌, List, [], ◌∷◌, ◌++◌, length, take}
use Rattle.std.proofs.Common.{get_or, replicate, refl, arith, ap, ◌∙◌}
use Rattle.std.proofs.lemmas.List.{length-append, append-nil, length-take-le, take_more}
use Rattle.program.specs.declared.name.Name.{Name}
use Rattle.litmus.specs.Drafts.{filled}
use Rattle.litmus.specs.Spelling.{init_text, value_text}
use Rattle.litmus.proofs.DraftLemmas.{init_append}

-- values that are filled up to some count are no more
pub few_filled : (a : ℕ) (init : List ℕ) → length (filled a init) ≡ a → length init ≤ a
few_filled a init e = omega (arith, e, length-append init (replicate (a - length init) 0))

-- a longer front of a list is the list
take_all : (xs : List ℕ) (n : ℕ) → length xs ≤ n → take n xs ≡ xs
take_all [] zero le = refl
take_all [] (suc n) le = refl
take_all (x ∷ xs) zero le = absurd (omega (arith, le))
take_all (x ∷ xs) (suc n) le = ap (λ (l : List ℕ). x ∷ l) (take_all xs n (omega (arith, le)))

-- values that are resized to be no fewer
pub resized_is : (init items : List ℕ) (m n a : ℕ) → m ≡ length init → length init ≤ a → n ≡ a →
    items ≡ take n init ++ replicate (n - m) 0 → items ≡ filled a init
resized_is init items m n a count le same is = is ∙ rw (count, same, take_all init a le) refl

-- the text with one value more
pub init_push : (names : List Name) (init : List ℕ) (i d : ℕ) → i < length init →
    init_text names 0 (take (i + 1) init)
    ≡ init_text names 0 (take i init) ++ value_text names i (get_or init i d)
init_push names init i d lt =
    let place : 0 + length (take i init) ≡ i = omega (arith, length-take-le i init (omega (arith, lt))) in
    rw (
      take_more init i d lt,
      init_append names 0 (take i init) (get_or init i d ∷ []),
      place,
      append-nil (value_text names i (get_or init i d)),
    ) refl
