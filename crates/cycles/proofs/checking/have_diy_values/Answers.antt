use Rattle.std.proofs.Common.{arith}
use Rattle.cycles.proofs.checking.have_diy_values.Goals as goal

pub overflow_cast-address : goal.overflow_cast-address
overflow_cast-address c =
    omega (arith, c.loop-address-test.true, c.addresses-address-end.ensures, c.sound.ensures.within.few_addresses)
