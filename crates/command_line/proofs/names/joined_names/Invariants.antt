use Rattle.std.proofs.Common.{◌≡◌, [], drop, map}
use Rattle.std.specs.Prelude.{string_bytes}
use Rattle.command_line.specs.Entries.{joined_from}
use Rattle.command_line.proofs.names.joined_names.Given as goal

abbrev pub invariant-loop-text : goal.invariant-loop-text
invariant-loop-text l = joined_from [] (map (λ v. v.now) l.texts)
    ≡ joined_from (string_bytes l.words) (map (λ v. v.now) (drop l.text-index l.texts))
