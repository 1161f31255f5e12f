use Rattle.std.proofs.Common.{◌≡◌, ◌∙◌, ◌<◌, ◌&&◌, ◌+◌, ◌-◌, Bool, List, ℕ, ap, false, length, sym, true}
use Rattle.std.specs.List.{list_all, range_with_len}
use Rattle.cycles.specs.Listing.{is_least, is_passed}
use Rattle.cycles.proofs.Ranges.{range_step}
use Rattle.cycles.proofs.listing.is_least.Goals as goal

-- the rotations from place i on, by whether that at i is passed
from_here : (bs : List ℕ) (i : ℕ) (b : Bool) → i < length bs → b ≡ is_passed bs i
    → is_least bs ≡ list_all (is_passed bs) (range_with_len i (length bs - i))
    → is_least bs ≡ (b && list_all (is_passed bs) (range_with_len (i + 1) (length bs - (i + 1))))
from_here bs i b low is before =
    before ∙ (ap (λ (l : List ℕ). list_all (is_passed bs) l) (range_step i (length bs) low)
    ∙ ap (λ (c : Bool). c && list_all (is_passed bs) (range_with_len (i + 1) (length bs - (i + 1)))) (sym is))

pub returns-then-not-branch : goal.returns-then-not-branch
returns-then-not-branch c =
    sym (from_here c.args.blocks.now c.loop-i.i false c.loop-i-test.true
    (sym c.if-not-branch.true ∙ c.in_ok-is_passed.ensures) c.loop-i.invariant)

pub loop-i-preserved : goal.loop-i-preserved
loop-i-preserved c =
    from_here c.args.blocks.now c.loop-i.i true c.loop-i-test.true (sym c.if-not-branch.false ∙ c.in_ok-is_passed.ensures)
    c.loop-i.invariant
