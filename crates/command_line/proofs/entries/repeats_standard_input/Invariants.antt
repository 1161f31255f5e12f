use Rattle.std.proofs.Common.{◌≡◌, codes, count_by, map, take}
use Rattle.std.specs.Str.{bytes_eq}
use Rattle.command_line.proofs.entries.repeats_standard_input.Given as goal

abbrev pub invariant-loop-name : goal.invariant-loop-name
invariant-loop-name l =
    l.count ≡ count_by (λ name. bytes_eq name (codes "-")) (take l.name-index (map (λ v. v.now) l.names))
