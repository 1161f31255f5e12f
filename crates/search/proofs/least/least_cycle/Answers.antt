use Rattle.std.proofs.Common.{◌≡◌, ◌-◌, ℕ, List, [], ◌∷◌, ◌++◌, length, arith, refl, subst, sym, ap, ◌∙◌}
use Rattle.relations.specs.Relation.{Related}
use Rattle.relations.specs.Cycle.{IsLeastCycle, IsCertificate}
use Rattle.labels.specs.Certified.{lists_of}
use Rattle.relations.specs.CycleLaws.{exact_certifies}
use Rattle.search.proofs.Choices.{first_exists, greedy_start, chosen_exists, chosen_more, greedy_end}
use Rattle.search.proofs.Choices.{cycle_long}
use Rattle.search.proofs.least.least_cycle.Goals as goal

pub overflow_sub-left : goal.overflow_sub-left
overflow_sub-left c = omega (arith, cycle_long (Related c.args.relation.now) c.args.size c.requires.size)

pub first_event-requires : goal.first_event-requires
first_event-requires c = record {
  one_each = c.requires.rows.one_each;
  lengths = λ v at. (c.requires.rows.exact v at).one_each;
}

pub next_event-requires-clause-rows : goal.next_event-requires-clause-rows
next_event-requires-clause-rows c = record {
  one_each = c.requires.rows.one_each;
  lengths = λ v at. (c.requires.rows.exact v at).one_each;
}

pub next_event-requires-clause-v : goal.next_event-requires-clause-v
next_event-requires-clause-v c = c.in-Some.ensures.0

pub unreachable-requires : goal.unreachable-requires
unreachable-requires c =
    first_exists (Related c.args.relation.now) (length c.args.relation.now) c.args.size
    (lists_of c.args.rows.now) c.sound.ensures.within c.requires.rows c.requires.size
    (c.args.size - 1) (omega (arith, cycle_long (Related c.args.relation.now) c.args.size c.requires.size))
    c.in_default.ensures

pub loop-left-init : goal.loop-left-init
loop-left-init c = (
  [],
  c.in_ok-push.ensures.items ∙ ap (λ (xs : List ℕ). xs ++ c.in-Some.first ∷ []) c.in_ok-cycle.ensures.items,
  omega (arith, cycle_long (Related c.args.relation.now) c.args.size c.requires.size),
  refl,
  c.in-Some.ensures.0,
  greedy_start (Related c.args.relation.now) (length c.args.relation.now) c.args.size
      (lists_of c.args.rows.now) c.sound.ensures.within c.requires.rows c.requires.size
      (c.args.size - 1) c.in-Some.first (omega
      (arith, cycle_long (Related c.args.relation.now) c.args.size c.requires.size)) c.in-Some.ensures,
)

pub unreachable-requires-in_default-next_event : goal.unreachable-requires-in_default-next_event
unreachable-requires-in_default-next_event c =
    chosen_exists (Related c.args.relation.now) (length c.args.relation.now) c.args.size
    (lists_of c.args.rows.now) c.sound.ensures.within c.requires.rows c.requires.size
    c.in-Some.first c.loop-left.last c.loop-left.left c.loop-left.cycle.items c.in-Some.ensures.0
    c.loop-left.invariant c.in_default-next_event.ensures

pub loop-left-preserved : goal.loop-left-preserved
loop-left-preserved c =
    chosen_more (Related c.args.relation.now) (length c.args.relation.now) c.args.size
    (lists_of c.args.rows.now) c.sound.ensures.within c.requires.rows c.requires.size
    c.in-Some.first c.loop-left.last c.loop-left.left c.in-Some-next_event.next c.loop-left.cycle.items
    c.push-in-loop-left.new.self.items c.in-Some.ensures.0 c.loop-left-test.true
    c.in_ok-push-2.ensures.items c.loop-left.invariant c.in-Some-next_event.ensures

pub returns-clause-least : goal.returns-clause-least
returns-clause-least c =
    let es : List ℕ = c.loop-left.invariant.0 in
    subst (λ (cycle : List ℕ). IsLeastCycle (Related c.args.relation.now) cycle) (sym c.loop-left.invariant.1)
    (greedy_end (Related c.args.relation.now) (length c.args.relation.now) c.args.size
    (lists_of c.args.rows.now) c.sound.ensures.within c.requires.rows c.requires.size c.in-Some.first es
    (omega (arith, c.loop-left.invariant.2)) c.loop-left.invariant.5)

pub returns-clause-size : goal.returns-clause-size
returns-clause-size c =
    ap (λ (cycle : List ℕ). length cycle) c.loop-left.invariant.1 ∙ omega (arith, c.loop-left.invariant.2)

pub returns-clause-certified : goal.returns-clause-certified
returns-clause-certified c =
    let R = Related c.args.relation.now in
    let n = length c.args.relation.now in
    let es : List ℕ = c.loop-left.invariant.0 in
    let long : length (c.in-Some.first ∷ es) ≡ c.args.size = omega (arith, c.loop-left.invariant.2) in
    let least : IsLeastCycle R (c.in-Some.first ∷ es) =
    greedy_end R n c.args.size (lists_of c.args.rows.now) c.sound.ensures.within c.requires.rows
    c.requires.size c.in-Some.first es (omega (arith, c.loop-left.invariant.2)) c.loop-left.invariant.5 in
    subst (λ (cycle : List ℕ). IsCertificate R n cycle (lists_of c.args.rows.now))
    (sym c.loop-left.invariant.1)
    (exact_certifies R n c.args.size (lists_of c.args.rows.now) (c.in-Some.first ∷ es) c.sound.ensures.within
    least.shortest long c.requires.rows)
