use Rattle.std.proofs.Common.{◌≡◌, map, take}
use Rattle.situations.specs.Numbers.{number_of}
use Rattle.situations.proofs.packed_list.read_codes.Given as goal

abbrev pub invariant-loop-i : goal.invariant-loop-i
invariant-loop-i l = take l.i l.words ≡ map (number_of l.large) (take l.i l.codes)
