-- The next words of the generator, in turn.
use Rattle.std.proofs.Common.{◌≡◌, ℕ, zero, suc, ◌+◌, ◌*◌, List, ◌∷◌, take, drop, refl, arith}
use Rattle.std.proofs.Common.{ap}
use Rattle.rand_core.specs.Steps.{first_words}
use Rattle.rand_xoshiro.specs.Xoshiro256.{plus_plus}
use Rattle.program.specs.Parts.{Body}
use Rattle.litmus.specs.Random.{after_words, with_word, with_words, with_core, with_cores}
use Rattle.program.specs.Shapes.{Sizes}

-- the first of the next words
pub words_turn : (n : ℕ) (p : Body) (s : List ℕ) (k j : ℕ) → k ≡ suc j
    → with_words n p (first_words plus_plus k s)
    ≡ with_words n (with_word n p (plus_plus s).0) (first_words plus_plus j (plus_plus s).1)
unfolding first_words
words_turn n p s k j e = rw e refl

-- the state after it
pub after_turn : (s : List ℕ) (k j : ℕ) → k ≡ suc j → after_words k s ≡ after_words j (plus_plus s).1
after_turn s k j e = rw e refl

-- no word is left
pub words_end : (n : ℕ) (p : Body) (s : List ℕ) (k : ℕ) → k ≡ 0 → with_words n p (first_words plus_plus k s)
    ≡ p
unfolding first_words
words_end n p s k e = rw e refl

-- no state is left out
pub after_end : (s : List ℕ) (k : ℕ) → k ≡ 0 → after_words k s ≡ s
after_end s k e = rw e refl

-- the next words are some and then others
take_words : (a b : ℕ) (s : List ℕ) → take a (first_words plus_plus (a + b) s) ≡ first_words plus_plus a s
unfolding first_words
take_words zero b s = refl
take_words (suc a) b s = let e : suc a + b ≡ suc (a + b) = omega arith in
    rw e (ap (λ (l : List ℕ). (plus_plus s).0 ∷ l) (take_words a b (plus_plus s).1))

drop_words : (a b : ℕ) (s : List ℕ) → drop a (first_words plus_plus (a + b) s) ≡ first_words plus_plus b
    (after_words a s)
unfolding first_words
drop_words zero b s = let e : 0 + b ≡ b = omega arith in rw e refl
drop_words (suc a) b s = let e : suc a + b ≡ suc (a + b) = omega arith in
    rw e (drop_words a b (plus_plus s).1)

after_both : (a b : ℕ) (s : List ℕ) → after_words (a + b) s ≡ after_words b (after_words a s)
after_both zero b s = let e : 0 + b ≡ b = omega arith in rw e refl
after_both (suc a) b s = let e : suc a + b ≡ suc (a + b) = omega arith in
    rw e (after_both a b (plus_plus s).1)

-- the words of the next core
pub cores_turn : (z : Sizes) (p : Body) (s : List ℕ) (k j m l : ℕ) → k ≡ suc j → m ≡ z.ops + l
    → with_cores z k p (first_words plus_plus m s)
    ≡ with_cores z j (with_words z.addresses (with_core p) (first_words plus_plus z.ops s))
    (first_words plus_plus l (after_words z.ops s))
cores_turn z p s k j m l e f = rw (e, f) (rw (take_words z.ops l s, drop_words z.ops l s) refl)

-- the state after them
pub after_core : (ops : ℕ) (s : List ℕ) (m l : ℕ) → m ≡ ops + l → after_words m s ≡ after_words l
    (after_words ops s)
after_core ops s m l f = rw f (after_both ops l s)

-- no core is left
pub cores_end : (z : Sizes) (p : Body) (words : List ℕ) (k : ℕ) → k ≡ 0 → with_cores z k p words ≡ p
cores_end z p words k e = rw e refl

-- the words of one core more
pub more_words : (k j ops : ℕ) → k ≡ suc j → k * ops ≡ ops + j * ops
more_words k j ops e = rw e (grind arith)

-- no word is left where no core is
pub no_words : (k ops : ℕ) → k ≡ 0 → k * ops ≡ 0
no_words k ops e = rw e (grind arith)

-- as many as those of the cores so far and one more
pub so_many : (core ops : ℕ) → core * ops + ops ≡ (core + 1) * ops
so_many core ops = grind arith
