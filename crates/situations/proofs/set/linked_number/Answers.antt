use Rattle.std.proofs.Common.{◌≡◌, ◌≢◌, ◌<◌, ◌-◌, ◌∙◌, [], ℕ, List, Some, arith, get_or, length, subst, suc, sym, ap}
use Rattle.std.proofs.Common.{refl}
use Rattle.std.proofs.lemmas.Option.{slice_get-get_or}
use Rattle.std.specs.Cmp.Lexicographic.{other_text, same_text}
use Rattle.situations.specs.Chains.{bucket_of}
use Rattle.situations.proofs.ChainedLists.{IsWalk, last_few, walk_begun, walk_done, walk_on}
use Rattle.situations.proofs.set.linked_number.Goals as goal

pub loop-at-init : goal.loop-at-init
loop-at-init c =
    walk_begun c.args.lists.now.lists c.args.heads.now c.args.next.now c.args.list.now c.requires.chained
    (get_or c.args.heads.now c.bucket_of.result 0)
    (subst (λ (b : ℕ). b < length c.args.heads.now) c.bucket_of.ensures.value c.bucket_of.ensures.within)
    (ap (λ (b : ℕ). get_or c.args.heads.now b 0) c.bucket_of.ensures.value)

pub loop-at-smaller : goal.loop-at-smaller
loop-at-smaller c =
    let lists : List (List ℕ) = c.args.lists.now.lists in
    let i : ℕ = c.loop-at.at - 1 in
    let inside : i < length lists = omega (arith, c.loop-at.invariant.few, c.loop-at-test.true) in
    omega (
      arith,
      c.loop-at-test.true,
      c.requires.chained.before i inside,
      last_few (length c.args.heads.now) lists (bucket_of (length c.args.heads.now) (get_or lists i [])) i,
    )

pub loop-at-preserved : goal.loop-at-preserved
loop-at-preserved c =
    let lists : List (List ℕ) = c.args.lists.now.lists in
    let i : ℕ = c.loop-at.at - 1 in
    let here : c.loop-at.at ≡ suc i = omega (arith, c.loop-at-test.true) in
    let other : get_or lists i [] ≢ c.args.list.now =
    subst (λ (l : List ℕ). l ≢ c.args.list.now) (c.read.ensures ∙ c.list.ensures)
    (other_text c.read.new.words c.args.list.now (sym c.if-eq.false ∙ c.eq.ensures)) in
    walk_on lists c.args.heads.now c.args.next.now c.args.list.now c.requires.chained c.loop-at.at i
    (get_or c.args.next.now i 0) c.loop-at.invariant here other refl

pub returns-then-eq-clause-found : goal.returns-then-eq-clause-found
returns-then-eq-clause-found c =
    let lists : List (List ℕ) = c.args.lists.now.lists in
    let i : ℕ = c.loop-at.at - 1 in
    let inside : i < length lists = omega (arith, c.loop-at.invariant.few, c.loop-at-test.true) in
    slice_get-get_or lists i [] inside
    ∙ ap (λ (l : List ℕ). Some l)
    (sym c.list.ensures ∙ (sym c.read.ensures
    ∙ same_text c.read.new.words c.args.list.now (sym c.if-eq.true ∙ c.eq.ensures)))

pub returns-clause-none : goal.returns-clause-none
returns-clause-none c =
    let lists : List (List ℕ) = c.args.lists.now.lists in
    let none : c.loop-at.at ≡ 0 = omega (arith, c.loop-at-test.false) in
    walk_done lists c.args.heads.now c.args.next.now c.args.list.now c.requires.chained
    (subst (IsWalk lists (length c.args.heads.now) c.args.list.now) none c.loop-at.invariant)
