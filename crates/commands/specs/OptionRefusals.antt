-- The lines of refused options.
use Rattle.std.specs.Prelude.{◌++◌, ◌∷◌, [], ℕ, List, codes}
use Rattle.program.specs.declared.shape_error.ShapeError.TheVariants.{K1, K2, K3, K4, K5, K6, K7}
use Rattle.command_line.specs.declared.options.OptionRefusal.{OptionRefusal}
use Rattle.command_line.specs.declared.options.OptionRefusal.TheVariants as refused

-- the name of the refusal of options
abbrev pub option_refusal_name : OptionRefusal → List ℕ
option_refusal_name (refused.Shape K1) = codes "K1"
option_refusal_name (refused.Shape K2) = codes "K2"
option_refusal_name (refused.Shape K3) = codes "K3"
option_refusal_name (refused.Shape K4) = codes "K4"
option_refusal_name (refused.Shape K5) = codes "K5"
option_refusal_name (refused.Shape K6) = codes "K6"
option_refusal_name (refused.Shape K7) = codes "K7"
option_refusal_name refused.Workers = codes "K8"
option_refusal_name refused.Fault = codes "K9"
option_refusal_name refused.Show = codes "K10"
option_refusal_name refused.States = codes "K12"
option_refusal_name refused.Runs = codes "K13"
option_refusal_name refused.Cycles = codes "K14"
option_refusal_name refused.Shard = codes "K15"
option_refusal_name refused.Lines = codes "K16"

-- the line that is printed of refused options
abbrev pub option_line : OptionRefusal → List ℕ
option_line refusal = codes "refused: " ++ option_refusal_name refusal ++ 10 ∷ []
