-- Words of steps, tried place by place.
use Rattle.std.proofs.Common.{◌≡◌, ◌<◌, ◌+◌, ◌-◌, ℕ, suc, List, Option, Some, None, arith, ap, ◌∙◌}
use Rattle.explanation.specs.declared.diy.Step.{Step}
use Rattle.explanation.specs.Diy.{classic_of, named_words, told_by, told_from, words_from}

-- the words from one place more
next : (steps : List Step) (at n : ℕ) → at < n → told_from steps at (n - at)
    ≡ told_by (classic_of (words_from steps at)) (words_from steps at) (told_from steps (at + 1) (n - (at + 1)))
next steps at n h = let one : n - at ≡ suc (n - (at + 1)) = omega arith in ap (told_from steps at) one

-- where they are those of a classic test
pub told_named : (steps : List Step) (at n : ℕ) (name : List ℕ) → at < n
    → classic_of (words_from steps at) ≡ Some name
    → told_from steps at (n - at) ≡ named_words (words_from steps at) name
told_named steps at n name h is = next steps at n h
    ∙ ap (λ (o : Option (List ℕ)). told_by o (words_from steps at) (told_from steps (at + 1) (n - (at + 1)))) is

-- and where they are not
pub told_unnamed : (steps : List Step) (at n : ℕ) → at < n → classic_of (words_from steps at) ≡ None
    → told_from steps at (n - at) ≡ told_from steps (at + 1) (n - (at + 1))
told_unnamed steps at n h is = next steps at n h
    ∙ ap (λ (o : Option (List ℕ)). told_by o (words_from steps at) (told_from steps (at + 1) (n - (at + 1)))) is
