use Rattle.std.proofs.Common.{◌∙◌, List, ap, subst, sym}
use Rattle.std.proofs.lemmas.Option.{slice_get_within}
use Rattle.completion.specs.declared.moves.Turn.{Turn}
use Rattle.completion.specs.declared.seen.Seen.{Seen}
use Rattle.completion.specs.Reachable.{after_moves}
use Rattle.completion.specs.Seen.{AreSearched, Grows}
use Rattle.completion.specs.Situation.{beginning}
use Rattle.completion.proofs.Shapes.{led_fits}
use Rattle.completion.proofs.Vain.{grows_same, led_by, led_to, way_on}
use Rattle.completion.proofs.Rank.{beginning_fit, led_fit}
use Rattle.completion.proofs.search.reach.Goals as goal

pub after-requires-clause-cores : goal.after-requires-clause-cores
after-requires-clause-cores c =
    let v = c.args.values.now in
    (led_fit v (beginning v) c.args.row.now (beginning_fit v)
    (led_by v c.args.way.now.turns.items c.args.row.now c.requires.comes)).places

pub number-requires : goal.number-requires
number-requires c =
    led_fits c.args.values.now c.requires.room c.args.way.now.seen c.in-Some.next c.requires.searched
    (led_to c.args.values.now c.args.way.now.turns.items c.args.row.now c.in-Some.next c.args.turn c.requires.comes
    (sym c.in_ok-next.ensures ∙ c.in-Some.is))

pub returns-then-is_end-clause-next : goal.returns-then-is_end-clause-next
returns-then-is_end-clause-next c = (
  c.in-Some.next,
  ap (λ (l : List Turn). after_moves c.args.values.now (beginning c.args.values.now) l) c.in_ok-push-2.ensures.items
      ∙ way_on c.args.values.now c.args.way.now.turns.items c.args.row.now c.in-Some.next c.args.turn
      c.requires.comes (sym c.in_ok-next.ensures ∙ c.in-Some.is),
  c.is_end.ensures.0 c.if-is_end.true,
)

pub add-requires-clause-led : goal.add-requires-clause-led
add-requires-clause-led c =
    led_to c.args.values.now c.args.way.now.turns.items c.args.row.now c.in-Some.next c.args.turn c.requires.comes
    (sym c.in_ok-next.ensures ∙ c.in-Some.is)

pub returns-in-Some-2-clause-next : goal.returns-in-Some-2-clause-next
returns-in-Some-2-clause-next c =
    let added = rw c.in-Some-2.is at c.in_ok-number.ensures.row in (
      sym c.in_ok-next.ensures ∙ (c.in-Some.is ∙ sym added.0),
      slice_get_within c.add.new.way.seen.rows.keys c.in-Some-2.number c.in-Some.next added.0,
      added.1,
    )

pub returns-in_default-clause-searched : goal.returns-in_default-clause-searched
returns-in_default-clause-searched c = c.requires.searched

pub returns-in_default-clause-grows : goal.returns-in_default-clause-grows
returns-in_default-clause-grows c = grows_same c.args.way.now.seen

pub returns-then-is_dead-clause-searched : goal.returns-then-is_dead-clause-searched
returns-then-is_dead-clause-searched c =
    subst (AreSearched c.args.values.now) (sym c.number.ensures.kept) c.requires.searched

pub returns-then-is_dead-clause-grows : goal.returns-then-is_dead-clause-grows
returns-then-is_dead-clause-grows c =
    subst (Grows c.args.way.now.seen) (sym c.number.ensures.kept) (grows_same c.args.way.now.seen)

pub returns-in-Some-number-clause-searched : goal.returns-in-Some-number-clause-searched
returns-in-Some-number-clause-searched c =
    subst (AreSearched c.args.values.now) (sym c.number.ensures.kept) c.requires.searched

pub returns-in-Some-number-clause-grows : goal.returns-in-Some-number-clause-grows
returns-in-Some-number-clause-grows c =
    subst (Grows c.args.way.now.seen) (sym c.number.ensures.kept) (grows_same c.args.way.now.seen)

pub returns-then-is_end-clause-searched : goal.returns-then-is_end-clause-searched
returns-then-is_end-clause-searched c =
    subst (AreSearched c.args.values.now) (sym c.number.ensures.kept) c.requires.searched

pub returns-then-is_end-clause-grows : goal.returns-then-is_end-clause-grows
returns-then-is_end-clause-grows c =
    subst (Grows c.args.way.now.seen) (sym c.number.ensures.kept) (grows_same c.args.way.now.seen)

pub returns-then-loses-clause-searched : goal.returns-then-loses-clause-searched
returns-then-loses-clause-searched c =
    subst (AreSearched c.args.values.now) (sym c.number.ensures.kept) c.requires.searched

pub returns-then-loses-clause-grows : goal.returns-then-loses-clause-grows
returns-then-loses-clause-grows c =
    subst (Grows c.args.way.now.seen) (sym c.number.ensures.kept) (grows_same c.args.way.now.seen)

pub add-requires-clause-searched : goal.add-requires-clause-searched
add-requires-clause-searched c =
    subst (AreSearched c.args.values.now) (sym c.number.ensures.kept) c.requires.searched

pub returns-in-Some-2-clause-searched : goal.returns-in-Some-2-clause-searched
returns-in-Some-2-clause-searched c = c.in_ok-number.ensures.searched

pub returns-in-Some-2-clause-grows : goal.returns-in-Some-2-clause-grows
returns-in-Some-2-clause-grows c =
    subst (λ (seen : Seen). Grows seen c.add.new.way.seen) c.number.ensures.kept c.in_ok-number.ensures.grows

pub returns-clause-searched : goal.returns-clause-searched
returns-clause-searched c = c.in_ok-number.ensures.searched

pub returns-clause-grows : goal.returns-clause-grows
returns-clause-grows c =
    subst (λ (seen : Seen). Grows seen c.add.new.way.seen) c.number.ensures.kept c.in_ok-number.ensures.grows
