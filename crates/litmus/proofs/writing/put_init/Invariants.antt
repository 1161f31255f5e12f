use Rattle.std.proofs.Common.{◌≡◌, ◌++◌, take}
use Rattle.litmus.specs.Spelling.{init_text}
use Rattle.litmus.proofs.writing.put_init.Given as goal

abbrev pub invariant-loop-addr : goal.invariant-loop-addr
invariant-loop-addr l = l.out.items ≡ l.fn.out.items ++ init_text l.names.keys 0 (take l.addr l.init)
