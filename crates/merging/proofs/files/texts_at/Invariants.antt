use Rattle.std.proofs.Common.{◌≡◌, map, take}
use Rattle.std.specs.List.{AllZip}
use Rattle.std.specs.Prelude.{string_bytes}
use Rattle.inputs.specs.Inputs.{AreBytesOf, AreRead}
use Rattle.merging.proofs.files.texts_at.Given as goal

abbrev pub invariant-loop-i : goal.invariant-loop-i
invariant-loop-i g l = record {
  read : AreRead (take l.i (map string_bytes l.names)) (g.H.Host.log l.fn.host) (g.H.Host.log l.host);
  kept : g.H.Host.bytes l.host ≡ g.H.Host.bytes l.fn.host;
  given : AllZip (AreBytesOf (g.H.Host.bytes l.fn.host)) (take l.i (map string_bytes l.names))
      (map (λ v. v.items) l.texts.items);
}
