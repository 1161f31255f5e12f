use Rattle.std.proofs.Common.{◌<◌, inl, inr, ℕ, get_or, drop, arith, refl}
use Rattle.std.proofs.lemmas.Bool.{false≢true}
use Rattle.std.proofs.lemmas.List.{drop_all}
use Rattle.long.proofs.Listed.{listed_at, times_none, walk_each}
use Rattle.long.proofs.checking.all_follow.Goals as goal

pub bounds-positions-second : goal.bounds-positions-second
bounds-positions-second c =
    let p : ℕ × ℕ = get_or c.args.list.now c.loop-place.place (0, 0) in
    (c.requires p.0 p.1 (listed_at c.args.list.now c.loop-place.place c.loop-place-test.true)).1

pub bounds-positions-first : goal.bounds-positions-first
bounds-positions-first c =
    let p : ℕ × ℕ = get_or c.args.list.now c.loop-place.place (0, 0) in
    (c.requires p.0 p.1 (listed_at c.args.list.now c.loop-place.place c.loop-place-test.true)).0

pub returns-then-positions-second : goal.returns-then-positions-second
returns-then-positions-second c = (
  λ none. absurd (false≢true none),
  λ ordered. let p : ℕ × ℕ = get_or c.args.list.now c.loop-place.place (0, 0) in
      absurd (omega (
        arith,
        c.if-positions-second.true,
        ordered p.0 p.1 (listed_at c.args.list.now c.loop-place.place c.loop-place-test.true),
      )),
)

pub loop-place-preserved : goal.loop-place-preserved
loop-place-preserved c = λ d f some. elim (c.loop-place.invariant d f some) [
  | inl still ↦
      walk_each (λ (e g : ℕ). get_or c.args.positions.now e 0 < get_or c.args.positions.now g 0)
      c.args.list.now c.loop-place.place c.loop-place-test.true (omega (arith, c.if-positions-second.false)) d f still
  | inr done ↦ inr done
]

pub returns : goal.returns
returns c = (
  λ _. λ d f some. elim (c.loop-place.invariant d f some) [
    | inl still ↦ absurd (omega (
      arith,
      still,
      times_none (drop c.loop-place.place c.args.list.now)
          (drop_all c.loop-place.place c.args.list.now (omega (arith, c.loop-place-test.false))) d f,
    ))
    | inr done ↦ done
  ],
  λ _. refl,
)
