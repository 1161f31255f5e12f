use Rattle.std.proofs.Common.{◌<◌, ◌++◌, ◌∷◌, [], List, length, refl, subst, suc}
use Rattle.json.specs.Token.{Token}
use Rattle.recorder.specs.Reading.{list_in}
use Rattle.recorder.specs.ByTokens.{fresh_tokens, value_tokens, later_tokens}
use Rattle.recorder.proofs.Somes.{found_is}
use Rattle.recorder.proofs.ByTokens.{Came, came_empty, came_begun, came_more, came_shorter, came_all}
use Rattle.recorder.proofs.SpacedTokens.{opens_array, closes_empty, closes_array, comma_follows}
use Rattle.recorder.proofs.plain.lists.take_lists.Goals as goal

pub returns-then-take_sign : goal.returns-then-take_sign
returns-then-take_sign g c depth = (
  [],
  came_empty (list_in g.K.Kind.held) (suc (suc depth)) (fresh_tokens c.take_sign.new.rest)
      (later_tokens c.take_sign-2.new.rest) (value_tokens c.args.rest.now)
      (closes_empty c.take_sign.new.rest c.take_sign-2.new.rest (c.if-take_sign.ensures.found refl))
      (opens_array c.args.rest.now c.take_sign.new.rest c.take_sign.new.rest (c.if-not-take_sign.ensures.found refl)
      refl),
  rw c.in_ok-found.ensures.items (g.met.K.Kind.holds_no_list c.args.size),
)

pub items-init : goal.items-init
items-init g c depth = (
  [],
  came_begun (list_in g.K.Kind.held) (suc (suc depth)) c.take_sign-2.new.rest [] refl,
  rw c.in_ok-found.ensures.items (g.met.K.Kind.holds_no_list c.args.size),
)

pub items-preserved : goal.items-preserved
items-preserved g c depth =
    let before = c.items.invariant depth in
    let all = fresh_tokens c.take_sign-2.new.rest in
    let list = found_is _ c.in_ok-list.field-0 c.in-Some.list c.in-Some.is c.in_ok-list.ensures depth in
    let lists = before.0 ++ list.0 ∷ [] in
    let more : Came (list_in g.K.Kind.held) (suc (suc depth)) all lists (later_tokens c.take_list_in.new.rest) =
    came_more (list_in g.K.Kind.held) (suc (suc depth)) all (value_tokens c.items.rest)
    (later_tokens c.take_list_in.new.rest) before.0 lists list.0 before.1 list.1 refl in (
      lists,
      subst (λ (ts : List Token). Came (list_in g.K.Kind.held) (suc (suc depth)) all lists ts)
          (comma_follows c.take_list_in.new.rest c.take_sign-in-items.new.rest
          (c.if-not-take_sign-2.ensures.found refl)) more,
      c.in_ok-hold_list.ensures before.0 list.0 before.2 list.2,
    )

pub items-smaller : goal.items-smaller
items-smaller g c =
    let list = found_is _ c.in_ok-list.field-0 c.in-Some.list c.in-Some.is c.in_ok-list.ensures 0 in
    subst (λ (ts : List Token). length ts < length (value_tokens c.items.rest))
    (comma_follows c.take_list_in.new.rest c.take_sign-in-items.new.rest (c.if-not-take_sign-2.ensures.found refl))
    (came_shorter (list_in g.K.Kind.held) (suc (suc 0)) (value_tokens c.items.rest)
    (later_tokens c.take_list_in.new.rest) list.0 list.1)

pub returns-then-take_sign-2 : goal.returns-then-take_sign-2
returns-then-take_sign-2 g c depth =
    let before = c.items.invariant depth in
    let all = fresh_tokens c.take_sign-2.new.rest in
    let list = found_is _ c.in_ok-list.field-0 c.in-Some.list c.in-Some.is c.in_ok-list.ensures depth in
    let lists = before.0 ++ list.0 ∷ [] in
    let more : Came (list_in g.K.Kind.held) (suc (suc depth)) all lists (later_tokens c.take_list_in.new.rest) =
    came_more (list_in g.K.Kind.held) (suc (suc depth)) all (value_tokens c.items.rest)
    (later_tokens c.take_list_in.new.rest) before.0 lists list.0 before.1 list.1 refl in (
      lists,
      came_all (list_in g.K.Kind.held) (suc (suc depth)) all (later_tokens c.take_list_in.new.rest)
          (later_tokens c.take_sign-then-not-take_sign-2.new.rest) (value_tokens c.args.rest.now) lists more
          (closes_array c.take_list_in.new.rest c.take_sign-in-items.new.rest c.take_sign-then-not-take_sign-2.new.rest
          (c.if-not-take_sign-2.ensures.kept refl) (c.if-take_sign-2.ensures.found refl))
          (opens_array c.args.rest.now c.take_sign.new.rest c.take_sign-2.new.rest
          (c.if-not-take_sign.ensures.found refl) (c.if-take_sign.ensures.kept refl)),
      c.in_ok-hold_list.ensures before.0 list.0 before.2 list.2,
    )
