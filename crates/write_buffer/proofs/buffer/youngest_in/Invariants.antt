use Rattle.std.proofs.Common.{◌≡◌, drop}
use Rattle.write_buffer.specs.Buffer.{or_else, youngest}
use Rattle.write_buffer.proofs.buffer.youngest_in.Given as goal

-- what is found, unless a younger entry is left to look at
abbrev pub invariant-loop-i : goal.invariant-loop-i
invariant-loop-i l = or_else (youngest (drop l.i l.ring.items) l.addr) l.found ≡ youngest l.ring.items l.addr
