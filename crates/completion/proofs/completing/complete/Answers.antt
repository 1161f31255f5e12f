use Rattle.std.proofs.Common.{◌≡◌, true, false, Bool, List, Option, IfSome, Vec, Global, sym, subst}
use Rattle.completion.specs.declared.cause.Link.{Link}
use Rattle.completion.specs.Circle.{IsCircle}
use Rattle.completion.specs.Pairs.{AreForced}
use Rattle.completion.proofs.Caused.{shown_forced}
use Rattle.completion.proofs.Made.{allowed_room}
use Rattle.completion.proofs.completing.complete.Goals as goal

pub returns-in-Some : goal.returns-in-Some
returns-in-Some c =
    let v = c.args.values.now in
    let circle : IsCircle v c.in-Some.circle.items =
    subst (λ (o : Option (Vec Link Global)). IfSome o (λ (ls : Vec Link Global). IsCircle v ls.items)) c.in-Some.is
    c.in_ok-circle.ensures in (c.no_circle_is_allowed.ensures v c.in-Some.circle.items circle, circle)

pub returns-then-not-have_room : goal.returns-then-not-have_room
returns-then-not-have_room c = (
  λ allowed.
      let table : c.deref.result.now ≡ c.in_ok-table.table.items = c.deref.ensures.value in
      let yes_room : c.have_room.result ≡ true = c.have_room.ensures.1 (allowed_room c.args.values.now allowed) in
      let no_room : c.have_room.result ≡ false = c.if-not-have_room.true in absurd cc,
  tt,
)

pub search_answer-requires-clause-forced : goal.search_answer-requires-clause-forced
search_answer-requires-clause-forced c = subst (λ (l : List (List Bool)). AreForced c.args.values.now l)
    (sym c.deref-3.ensures.value)
    (λ e f pair. shown_forced c.args.values.now e f (c.in_ok-inferred.ensures.shown e f pair))
