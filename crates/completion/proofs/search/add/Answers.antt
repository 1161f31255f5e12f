use Rattle.std.proofs.Common.{◌≤◌, ℕ, subst, sym}
use Rattle.completion.specs.Seen.{HasNumber}
use Rattle.completion.proofs.Shapes.{led_fits}
use Rattle.completion.proofs.Vain.{one_too_many, added_grows, added_searched, added_number}
use Rattle.completion.proofs.search.add.Goals as goal

pub add-requires-clause-fits : goal.add-requires-clause-fits
add-requires-clause-fits c =
    led_fits c.args.values.now c.requires.room c.args.way.now.seen c.args.next.now c.requires.searched c.requires.led

pub returns-then-len-way-clause-full : goal.returns-then-len-way-clause-full
returns-then-len-way-clause-full c =
    one_too_many c.args.values.now c.args.way.now.seen c.args.next.now c.requires.searched c.requires.led c.requires.new
    c.args.way.now.limit
    (subst (λ (n : ℕ). c.args.way.now.limit ≤ n) c.len.ensures c.if-len-way.true)

pub returns-clause-searched : goal.returns-clause-searched
returns-clause-searched c =
    added_searched c.args.values.now c.args.way.now.seen c.args.next.now c.requires.searched c.requires.led
    c.requires.new c.add.new.self c.requires.before_end c.in_ok-number.ensures.rows c.in_ok-number.ensures.dead

pub returns-clause-grows : goal.returns-clause-grows
returns-clause-grows c =
    added_grows c.args.values.now c.args.way.now.seen c.args.next.now c.requires.searched c.requires.led
    c.requires.new c.add.new.self c.requires.before_end c.in_ok-number.ensures.rows c.in_ok-number.ensures.dead

pub returns-clause-row : goal.returns-clause-row
returns-clause-row c = (
  subst (λ (k : ℕ). HasNumber c.add.new.self c.args.next.now k) (sym c.in_ok-number.ensures.number)
      (added_number c.args.values.now c.args.way.now.seen c.args.next.now c.requires.searched c.requires.led
      c.requires.new c.add.new.self c.requires.before_end c.in_ok-number.ensures.rows c.in_ok-number.ensures.dead),
  c.in_ok-push.ensures.items,
)
