use Rattle.std.proofs.Common.{◌<◌, ◌++◌, ◌∷◌, [], List, length, refl, subst, suc}
use Rattle.json.specs.Token.{Token}
use Rattle.recorder.specs.ByTokens.{fresh_tokens, value_tokens, later_tokens}
use Rattle.recorder.proofs.ByTokens.{Came, came_empty, came_begun, came_more, came_shorter, came_all}
use Rattle.recorder.proofs.SpacedTokens.{opens_array, closes_empty, closes_array, comma_follows}
use Rattle.recorder.proofs.plain.lists.take_list_in.Goals as goal

pub returns-then-take_sign : goal.returns-then-take_sign
returns-then-take_sign g c depth = (
  [],
  came_empty g.K.Kind.held (suc depth) (fresh_tokens c.take_sign.new.rest) (later_tokens c.take_sign-2.new.rest)
      (value_tokens c.args.rest.now) (closes_empty c.take_sign.new.rest c.take_sign-2.new.rest
      (c.if-take_sign.ensures.found refl))
      (opens_array c.args.rest.now c.take_sign.new.rest c.take_sign.new.rest (c.if-not-take_sign.ensures.found refl)
      refl),
  rw c.new.ensures.items (g.met.K.Kind.holds_none c.args.size),
)

pub items-init : goal.items-init
items-init g c depth = (
  [],
  came_begun g.K.Kind.held (suc depth) c.take_sign-2.new.rest [] refl,
  rw c.in_ok-found.ensures.items (g.met.K.Kind.holds_none c.args.size),
)

pub items-preserved : goal.items-preserved
items-preserved g c depth =
    let before = c.items.invariant depth in
    let all = fresh_tokens c.take_sign-2.new.rest in
    let items = before.0 ++ c.in-Some.item ∷ [] in
    let more : Came g.K.Kind.held (suc depth) all items (later_tokens c.take.new.rest) =
    came_more g.K.Kind.held (suc depth) all (value_tokens c.items.rest) (later_tokens c.take.new.rest) before.0 items
    c.in-Some.item before.1 (c.in-Some.ensures depth) refl in (
      items,
      subst (λ (ts : List Token). Came g.K.Kind.held (suc depth) all items ts)
          (comma_follows c.take.new.rest c.take_sign-in-items.new.rest (c.if-not-take_sign-2.ensures.found refl)) more,
      c.in_ok-hold.ensures before.0 before.2,
    )

pub items-smaller : goal.items-smaller
items-smaller g c =
    subst (λ (ts : List Token). length ts < length (value_tokens c.items.rest))
    (comma_follows c.take.new.rest c.take_sign-in-items.new.rest (c.if-not-take_sign-2.ensures.found refl))
    (came_shorter g.K.Kind.held (suc 0) (value_tokens c.items.rest) (later_tokens c.take.new.rest) c.in-Some.item
    (c.in-Some.ensures 0))

pub returns-then-take_sign-2 : goal.returns-then-take_sign-2
returns-then-take_sign-2 g c depth =
    let before = c.items.invariant depth in
    let all = fresh_tokens c.take_sign-2.new.rest in
    let items = before.0 ++ c.in-Some.item ∷ [] in
    let more : Came g.K.Kind.held (suc depth) all items (later_tokens c.take.new.rest) =
    came_more g.K.Kind.held (suc depth) all (value_tokens c.items.rest) (later_tokens c.take.new.rest) before.0 items
    c.in-Some.item before.1 (c.in-Some.ensures depth) refl in (
      items,
      came_all g.K.Kind.held (suc depth) all (later_tokens c.take.new.rest)
          (later_tokens c.take_sign-then-not-take_sign-2.new.rest)
          (value_tokens c.args.rest.now) items more
          (closes_array c.take.new.rest c.take_sign-in-items.new.rest c.take_sign-then-not-take_sign-2.new.rest
          (c.if-not-take_sign-2.ensures.kept refl) (c.if-take_sign-2.ensures.found refl))
          (opens_array c.args.rest.now c.take_sign.new.rest c.take_sign-2.new.rest
          (c.if-not-take_sign.ensures.found refl) (c.if-take_sign.ensures.kept refl)),
      c.in_ok-hold.ensures before.0 before.2,
    )
