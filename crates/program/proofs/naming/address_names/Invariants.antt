use Rattle.std.proofs.Common.{◌≡◌}
use Rattle.program.specs.AddressNames.{address_names}
use Rattle.program.proofs.naming.address_names.Given as goal

abbrev pub invariant-loop-number : goal.invariant-loop-number
invariant-loop-number l = l.names.keys ≡ address_names l.number
