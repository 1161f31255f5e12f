use Rattle.std.proofs.Common.{◌≡◌, ◌<◌, ◌-◌, ◌^◌, ℕ, arith, subst}
use Rattle.completion.specs.Situation.{number_of}
use Rattle.completion.specs.Search.{IsForced, HasToWait}
use Rattle.completion.proofs.early.is_early.Goals as goal

pub returns-then-waits_for_core : goal.returns-then-waits_for_core
returns-then-waits_for_core c test =
    let v = c.args.values.now in
    let small : c.number_of-number.result < 2 ^ 64 - 1 = c.waits_for_core.ensures.small c.if-waits_for_core.true in
    let same : c.number_of-number.result ≡ number_of v.cores c.args.core c.in-Some.place =
    omega (arith, c.number_of-number.ensures, small) in
    let waits : HasToWait v c.args.row.now c.loop-other.other c.number_of-number.result =
    c.waits_for_core.ensures.waits c.if-waits_for_core.true in
    record {
      place = c.in-Some.place;
      performs = c.in-Some.ensures;
      core_before = c.loop-other.other;
      place_before = waits.0;
      left = waits.1;
      forced = subst (λ (k : ℕ). IsForced v (number_of v.cores c.loop-other.other waits.0) k) same waits.2;
    }
