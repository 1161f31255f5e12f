-- One attempt more.
use Rattle.std.proofs.Common.{◌≡◌, ℕ, zero, suc, ◌+◌, List, [], ◌∷◌, ◌++◌, map, length, refl, arith, ap}
use Rattle.std.proofs.Common.{◌∙◌}
use Rattle.std.proofs.lemmas.List.{map-append}
use Rattle.rand_core.specs.Steps.{first_words}
use Rattle.rand_xoshiro.specs.Xoshiro256.{plus_plus}
use Rattle.litmus.specs.Random.{after_words}
use Rattle.machine.specs.declared.step.Step.{Step}
use Rattle.machine.specs.Configuration.{Configuration, state_after}
use Rattle.machine.specs.State.{State}
use Rattle.machine.specs.Step.{run}
use Rattle.machine.specs.RunLaws.{run_append}
use Rattle.trials.specs.Schedule.{configuration_after, schedule, step_of_word}

-- one word more
pub words_more : (n : ℕ) (s : List ℕ)
    → first_words plus_plus (n + 1) s ≡ first_words plus_plus n s ++ (plus_plus (after_words n s)).0 ∷ []
unfolding first_words
words_more zero s = refl
words_more (suc n) s = let e : suc n + 1 ≡ suc (n + 1) = omega arith in
    rw e (ap (λ (l : List ℕ). (plus_plus s).0 ∷ l) (words_more n (plus_plus s).1))

-- and the state after it
pub after_more : (n : ℕ) (s : List ℕ) → after_words (n + 1) s ≡ (plus_plus (after_words n s)).1
after_more zero s = refl
after_more (suc n) s = let e : suc n + 1 ≡ suc (n + 1) = omega arith in rw e (after_more n (plus_plus s).1)

-- the machine after one attempt more
pub configuration_more : (h : Configuration) (s : List ℕ) (n : ℕ) →
    configuration_after h s (n + 1) ≡ (let one : Configuration = record (configuration_after h s n) {
      state = state_after (configuration_after h s n)
          (step_of_word (length h.program.cores) (length h.program.names)
          (plus_plus (after_words n s)).0 ∷ []);
    } in one)
configuration_more h s n =
    let f = step_of_word (length h.program.cores) (length h.program.names) in
    let steps : schedule h (first_words plus_plus (n + 1) s)
    ≡ schedule h (first_words plus_plus n s) ++ f (plus_plus (after_words n s)).0 ∷ [] =
    ap (λ (l : List ℕ). map f l) (words_more n s)
    ∙ map-append f (first_words plus_plus n s) ((plus_plus (after_words n s)).0 ∷ []) in
    let states : state_after h (schedule h (first_words plus_plus (n + 1) s))
    ≡ run h.program.cores h.capacity h.fault (state_after h (schedule h (first_words plus_plus n s)))
    (f (plus_plus (after_words n s)).0 ∷ []) =
    ap (λ (l : List Step). state_after h l) steps
    ∙ run_append h.program.cores h.capacity h.fault h.state (schedule h (first_words plus_plus n s))
    (f (plus_plus (after_words n s)).0 ∷ []) in
    ap (λ (z : State). let one : Configuration = record h { state = z } in one) states
