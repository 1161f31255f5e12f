use Rattle.std.proofs.Common.{◌≡◌, ◌<◌, ◌⊎◌, ◌∙◌, inl, inr, true, ℕ, Option, Some, None, sym, ap, arith}
use Rattle.std.proofs.Math.Dec.{ltb}
use Rattle.std.proofs.lemmas.Bool.{lt-ltb, ltb-true}
use Rattle.std.proofs.lemmas.Option.{same_Some}
use Rattle.recording.specs.Event.{read_address, written_address}
use Rattle.completion.proofs.room.is_below.Goals as goal

-- where an event uses one address alone, the test of it tells
below_is : (reads writes : Option ℕ) (k n : ℕ) → (reads ≡ Some k) ⊎ (writes ≡ Some k)
    → ((a : ℕ) → (reads ≡ Some a) ⊎ (writes ≡ Some a) → k ≡ a)
    → (ltb k n ≡ true → (a : ℕ) → (reads ≡ Some a) ⊎ (writes ≡ Some a) → a < n)
    × (((a : ℕ) → (reads ≡ Some a) ⊎ (writes ≡ Some a) → a < n) → ltb k n ≡ true)
below_is reads writes k n has one = (
  λ test a is. omega (arith, ltb-true k n test, one a is),
  λ all. lt-ltb k n (all k has),
)

-- two addresses of one event are one
both_one : (o : Option ℕ) (k a : ℕ) → o ≡ Some k → o ≡ Some a → k ≡ a
both_one o k a is also = same_Some k a (sym is ∙ also)

none_some : (o : Option ℕ) (k a : ℕ) → o ≡ None → o ≡ Some a → k ≡ a
none_some o k a none some = absurd (let clash : None ≡ Some a = sym none ∙ some in cc)

used_one : (reads writes : Option ℕ) (k a : ℕ) → ((reads ≡ Some k) ⊎ (reads ≡ None)) → ((writes ≡ Some k) ⊎ (writes ≡ None))
    → (reads ≡ Some a) ⊎ (writes ≡ Some a) → k ≡ a
used_one reads writes k a (inl r) w (inl is) = both_one reads k a r is
used_one reads writes k a (inr r) w (inl is) = none_some reads k a r is
used_one reads writes k a r (inl w) (inr is) = both_one writes k a w is
used_one reads writes k a r (inr w) (inr is) = none_some writes k a w is

pub returns-in-L : goal.returns-in-L
returns-in-L c = below_is _ _ c.in-L.a c.args.count (inl (ap read_address c.in-L.is))
    (λ a is. used_one (read_address c.args.event) (written_address c.args.event) c.in-L.a a
    (inl (ap read_address c.in-L.is)) (inr (ap written_address c.in-L.is)) is)

pub returns-in-S : goal.returns-in-S
returns-in-S c = below_is _ _ c.in-S.a c.args.count (inr (ap written_address c.in-S.is))
    (λ a is. used_one (read_address c.args.event) (written_address c.args.event) c.in-S.a a
    (inr (ap read_address c.in-S.is)) (inl (ap written_address c.in-S.is)) is)

pub returns-in-R : goal.returns-in-R
returns-in-R c = below_is _ _ c.in-R.a c.args.count (inl (ap read_address c.in-R.is))
    (λ a is. used_one (read_address c.args.event) (written_address c.args.event) c.in-R.a a
    (inl (ap read_address c.in-R.is)) (inl (ap written_address c.in-R.is)) is)

pub returns-in-C : goal.returns-in-C
returns-in-C c = below_is _ _ c.in-C.a c.args.count (inl (ap read_address c.in-C.is))
    (λ a is. used_one (read_address c.args.event) (written_address c.args.event) c.in-C.a a
    (inl (ap read_address c.in-C.is)) (inr (ap written_address c.in-C.is)) is)
