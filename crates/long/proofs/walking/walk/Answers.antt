use Rattle.std.proofs.Common.{◌≡◌, ◌<◌, ◌-◌, ℕ, Bool, true, false, List, get_or, set, replicate, length}
use Rattle.std.proofs.Common.{arith, sym, subst, ap, ◌∙◌}
use Rattle.std.proofs.lemmas.List.{get_or_read}
use Rattle.long.proofs.Back.{IsWalking, walking_start, walking_low, walking_room, walking_more, walking_over}
use Rattle.long.proofs.Lists.{length_push}
use Rattle.long.proofs.walking.walk.Goals as goal

pub back-init : goal.back-init
back-init c =
    subst (λ (seen : List Bool). IsWalking c.args.befores.now seen c.new-stack.result.items c.args.start)
    (sym (c.in_ok-seen.ensures.items_if_clones_equal (λ y h. h)))
    (subst (λ (stack : List ℕ). IsWalking c.args.befores.now (replicate (length c.args.befores.now) false) stack
    c.args.start) (sym c.new-stack.ensures.items) (walking_start c.args.befores.now c.args.start c.requires.start))

pub back-smaller : goal.back-smaller
back-smaller c =
    let befores = c.args.befores.now in
    let seen = c.back.seen.items in
    let stack = c.back.stack.items in
    let at = c.back.at in
    let low : at < length seen = walking_low befores seen stack at c.back.invariant in
    let unseen : get_or seen at false ≡ false =
    sym (get_or_read seen at c.index.result.now low c.index.ensures false) ∙ c.back-test.true in
    omega (
      arith,
      walking_room befores seen stack at c.back.invariant unseen,
      ap (λ (s : List ℕ). length s) c.in_ok-push.ensures.items,
      length_push stack at,
    )

pub back-preserved : goal.back-preserved
back-preserved c =
    let befores = c.args.befores.now in
    let seen = c.back.seen.items in
    let stack = c.back.stack.items in
    let at = c.back.at in
    let low : at < length seen = walking_low befores seen stack at c.back.invariant in
    let unseen : get_or seen at false ≡ false =
    sym (get_or_read seen at c.index.result.now low c.index.ensures false) ∙ c.back-test.true in
    subst (λ (s : List ℕ). IsWalking befores (set seen at true) s (get_or befores at 0 - 1))
    (sym c.in_ok-push.ensures.items) (walking_more befores seen stack at c.back.invariant unseen c.requires.back)

pub returns : goal.returns
returns c =
    let befores = c.args.befores.now in
    let seen = c.back.seen.items in
    let stack = c.back.stack.items in
    let at = c.back.at in
    let low : at < length seen = walking_low befores seen stack at c.back.invariant in
    walking_over befores seen stack at c.back.invariant
    (sym (get_or_read seen at c.index.result.now low c.index.ensures false) ∙ c.back-test.false)
