-- Lemmas on drafts: initial values that are filled up with 0, and their text.
use Rattle.std.proofs.Common.{◌≡◌, ℕ, zero, suc, ◌+◌, ◌-◌, ◌≤◌, List, [], ◌∷◌, ◌++◌, length}
use Rattle.std.proofs.Common.{replicate, refl, arith, sym, ◌∙◌}
use Rattle.std.specs.List.{AllByRecursion}
use Rattle.std.proofs.lemmas.List.{length-append, append-nil, append_assoc, length-replicate}
use Rattle.std.proofs.lemmas.List.{replicate-append-replicate}
use Rattle.program.specs.declared.name.Name.{Name}
use Rattle.program.specs.Parts.{IsProgram, IsSmall}
use Rattle.litmus.specs.Drafts.{Draft, IsDraft, drafted_program, filled}
use Rattle.litmus.specs.Spelling.{init_text, value_text}

-- the values of some addresses and of those after them
pub init_append : (names : List Name) (a : ℕ) (front back : List ℕ) →
    init_text names a (front ++ back)
    ≡ init_text names a front ++ init_text names (a + length front) back
init_append names a [] back = let none : a + 0 ≡ a = omega arith in rw none refl
init_append names a (n ∷ front) back =
    let at : a + 1 + length front ≡ a + length (n ∷ front) = omega arith in
    rw (init_append names (a + 1) front back, at)
    (sym (append_assoc (value_text names a n) (init_text names (a + 1) front)
    (init_text names (a + length (n ∷ front)) back)))

-- values of 0 have no text
zeros_text : (names : List Name) (a k : ℕ) → init_text names a (replicate k 0) ≡ []
zeros_text names a zero = refl
zeros_text names a (suc k) = zeros_text names (a + 1) k

-- the text of values that are filled up
pub filled_text : (names : List Name) (a : ℕ) (init : List ℕ) →
    init_text names 0 (filled a init) ≡ init_text names 0 init
filled_text names a init =
    init_append names 0 init (replicate (a - length init) 0)
    ∙ rw (zeros_text names (0 + length init) (a - length init)) (append-nil (init_text names 0 init))

-- as many values as there are addresses
pub filled_length : (a : ℕ) (init : List ℕ) → length init ≤ a → length (filled a init) ≡ a
filled_length a init le = omega (
  arith,
  le,
  length-append init (replicate (a - length init) 0),
  length-replicate {A = ℕ} (a - length init) 0,
)

-- zeros are small
pub zeros_small : (init : List ℕ) (k : ℕ) → AllByRecursion IsSmall init →
    AllByRecursion IsSmall (init ++ replicate k 0)
zeros_small [] zero h = tt
zeros_small [] (suc k) h = (omega arith, zeros_small [] k tt)
zeros_small (n ∷ init) k h = (h.0, zeros_small init k h.1)

-- one address more
pub filled_more : (a : ℕ) (init : List ℕ) → length init ≤ a → filled (a + 1) init ≡ filled a init ++ 0 ∷ []
filled_more a init le =
    let more : a + 1 - length init ≡ a - length init + 1 = omega (arith, le) in
    rw (more, ← replicate-append-replicate {A = ℕ} (a - length init) 1 0)
    (sym (append_assoc init (replicate (a - length init) 0) (0 ∷ [])))

-- values that are all given
pub filled_whole : (init : List ℕ) → filled (length init) init ≡ init
filled_whole init = let none : length init - length init ≡ 0 = omega arith in rw none (append-nil init)

-- ---- the program of a draft

-- it is a program
pub program_is : (d : Draft) → IsDraft d → IsProgram (drafted_program d)
program_is d h = record {
  few_cores = h.body.few_cores;
  few_ops = h.body.few_ops;
  few_names = h.body.few_names;
  values = h.body.values;
  lawful = h.body.lawful;
  distinct = h.body.distinct;
  numbered = h.body.numbered;
  init_length = filled_length (length d.body.names) d.init h.few;
  init_values = zeros_small d.init (length d.body.names - length d.init) h.values;
}
