-- One recording more is printed.
use Rattle.std.proofs.Common.{◌≡◌, ◌+◌, ◌<◌, ◌++◌, ℕ, List, [], ◌∷◌, arith, sym, ap, ◌∙◌, get_or, length, take}
use Rattle.std.proofs.lemmas.List.{append_assoc, append-nil, length-take, take_more}
use Rattle.ledger.specs.declared.finding.Finding.{Finding}
use Rattle.surveys.specs.Each.{each_line, each_text}

-- the lines of two lists
pub each_append : (first : ℕ) (xs ys : List Finding) → each_text first (xs ++ ys)
    ≡ each_text first xs ++ each_text (first + length xs) ys
each_append first [] ys = ap (λ (n : ℕ). each_text n ys) (omega arith)
each_append first (x ∷ xs) ys = ap (λ (text : List ℕ). each_line first x ++ text) (each_append (first + 1) xs ys
    ∙ ap (λ (n : ℕ). each_text (first + 1) xs ++ each_text n ys) (omega arith))
    ∙ sym (append_assoc (each_line first x) (each_text (first + 1) xs) (each_text (first + length (x ∷ xs)) ys))

-- of one recording more
pub each_more : (first i : ℕ) (fs : List Finding) (d : Finding) (old new : List ℕ) → i < length fs
    → old ≡ each_text first (take i fs) → new ≡ old ++ each_line (first + i) (get_or fs i d)
    → new ≡ each_text first (take (i + 1) fs)
each_more first i fs d old new low so_far with_it =
    let f : Finding = get_or fs i d in
    let size : first + length (take i fs) ≡ first + i = omega (arith, length-take i fs, low) in
    with_it ∙ (ap (λ (text : List ℕ). text ++ each_line (first + i) f) so_far
    ∙ (ap (λ (line : List ℕ). each_text first (take i fs) ++ line) (sym (append-nil (each_line (first + i) f))
    ∙ ap (λ (n : ℕ). each_text n (f ∷ [])) (sym size))
    ∙ (sym (each_append first (take i fs) (f ∷ []))
    ∙ ap (λ (list : List Finding). each_text first list) (sym (take_more fs i d low)))))
