use Rattle.std.proofs.Common.{◌≡◌, take}
use Rattle.surveys.specs.Found.{codes_of}
use Rattle.surveys.proofs.coded.codes_of.Given as goal

abbrev pub invariant-loop-finding : goal.invariant-loop-finding
invariant-loop-finding l = l.codes.items ≡ codes_of (take l.finding-index l.findings)
