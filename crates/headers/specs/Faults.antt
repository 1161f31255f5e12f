-- Names of faults.
use Rattle.std.specs.Prelude.{◌∷◌, [], ℕ, List, Option, codes, find}
use Rattle.std.specs.Str.{bytes_eq}
use Rattle.program.specs.declared.fault.Fault.{Fault}
use Rattle.program.specs.declared.fault.Fault.TheVariants as fault

-- the name by which --fault asks for a fault
abbrev pub fault_name : Fault → List ℕ
fault_name fault.None = codes "none"
fault_name fault.NoBypass = codes "no-bypass"
fault_name fault.YoungestFirst = codes "youngest-first"
fault_name fault.OpenFence = codes "open-fence"
fault_name fault.StaleShare = codes "stale-share"
fault_name fault.EarlyRmw = codes "early-rmw"

-- the faults, in the order of the help
abbrev pub faults : List Fault
faults = fault.None ∷ fault.NoBypass ∷ fault.YoungestFirst ∷ fault.OpenFence ∷ fault.StaleShare
    ∷ fault.EarlyRmw ∷ []

-- the fault of a name
abbrev pub fault_named : List ℕ → Option Fault
fault_named name = find (λ f. bytes_eq name (fault_name f)) faults
