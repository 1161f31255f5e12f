-- The names of the refusals of programs, and the lines of refused texts.
use Rattle.std.specs.Prelude.{ℕ, List, codes}
use Rattle.litmus.specs.declared.line_refusal.LineRefusal.{LineRefusal}
use Rattle.litmus.specs.declared.line_refusal.LineRefusal.TheVariants.{L1, L2, L3, L4, L5, L6, L7, L8}
pub use Rattle.refusals.specs.Lines.{refusal_line}

-- the name of the refusal of a program's line
abbrev pub line_refusal_name : LineRefusal → List ℕ
line_refusal_name L1 = codes "L1"
line_refusal_name L2 = codes "L2"
line_refusal_name L3 = codes "L3"
line_refusal_name L4 = codes "L4"
line_refusal_name L5 = codes "L5"
line_refusal_name L6 = codes "L6"
line_refusal_name L7 = codes "L7"
line_refusal_name L8 = codes "L8"
