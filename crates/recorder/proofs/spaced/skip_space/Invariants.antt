use Rattle.std.proofs.Common.{◌≡◌, length}
use Rattle.json.specs.Lex.{lex, between}
use Rattle.recorder.proofs.spaced.skip_space.Given as goal

-- what is left writes the same
abbrev pub invariant-spaces : goal.invariant-spaces
invariant-spaces l = lex between l.rest ≡ lex between l.initial.rest

abbrev pub decreases-spaces : goal.decreases-spaces
decreases-spaces l = length l.rest
