use Rattle.std.proofs.Common.{◌≡◌, map, take}
use Rattle.program.specs.Names.{name_at}
use Rattle.reduction.proofs.programs.names_of.Given as goal

abbrev pub invariant-loop-address : goal.invariant-loop-address
invariant-loop-address l = l.names.keys ≡ map (name_at l.program.names) (take l.address-index l.addresses)
