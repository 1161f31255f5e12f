-- What a line does to what was read before it.
use Rattle.std.specs.Prelude.{◌≤◌, ℕ, List, [], ◌∷◌, ◌++◌, ◌-◌, ◌^◌, ◌==◌, nat_lt, nat_le, length, replicate}
use Rattle.std.specs.Prelude.{Option, None, Some, Result, Ok, Err, if◌then◌else◌}
use Rattle.std.specs.List.{AllByRecursion}
use Rattle.program.specs.declared.name.Name.{Name}
use Rattle.litmus.specs.declared.line_refusal.LineRefusal.{LineRefusal}
use Rattle.litmus.specs.declared.line_refusal.LineRefusal.TheVariants.{L1, L5, L6, L7, L8}
use Rattle.litmus.specs.Lines.{Line, core_line, fence_line, load_line, write_line, compare_line, init_line, parsed_line}
use Rattle.program.specs.Parts.{Body, Parts, IsBody, IsSmall, parts_of}
use Rattle.litmus.specs.Steps.{empty, core_step, fence_step, load_step, write_step, compare_step, unless}
use Rattle.program.specs.Names.{name_number}

-- what was read: names, operations, and the initial values up to that of the last `init` line
pub record Draft : Type 0 where
  pub body : Body
  pub init : List ℕ

-- names and operations without an `init` line
abbrev pub plain : Body → Draft
plain b = record { body = b; init = [] }

-- what is read from no line
abbrev pub blank : Draft
blank = plain empty

-- these initial values, and 0 for each address from there up to a
abbrev pub filled : ℕ → List ℕ → List ℕ
filled a init = init ++ replicate (a - length init) 0

-- names and operations of a program, and initial values of its first addresses
pub record IsDraft (d : Draft) : Type 0 where
  pub body : IsBody d.body
  pub few : length d.init ≤ length d.body.names
  pub values : AllByRecursion IsSmall d.init

-- the program of what was read: an address without an `init` line begins with 0
abbrev pub drafted_program : Draft → Parts
drafted_program d = parts_of d.body.names d.body.cores (filled (length d.body.names) d.init)

-- other names and operations, unless the line is refused
abbrev pub with_body : Draft → Result Body LineRefusal → Result Draft LineRefusal
with_body d (Ok b) = Ok (record d { body = b })
with_body d (Err f) = Err f

-- a core or an operation comes: no `init` line may stand before it
abbrev pub body_step : Draft → Result Body LineRefusal → Result Draft LineRefusal
body_step d r = if length d.init == 0 then with_body d r else Err L1

-- the refusal of an initial value of address a, which is new where no operation uses its name
abbrev pub init_refusal : Draft → ℕ → ℕ → Option LineRefusal
init_refusal d a n =
    if nat_le (2 ^ 32) n then Some L5
    else (if nat_le (length d.body.names) a then Some L6
    else (if nat_lt a (length d.init) then Some L7
    else (if n == 0 then Some L8 else None)))

-- an initial value of address a comes
abbrev pub init_at : Draft → ℕ → ℕ → Result Draft LineRefusal
init_at d a n = unless (init_refusal d a n) (Ok (record d { init = filled a d.init ++ n ∷ [] }))

-- an initial value comes
unfoldable pub init_step : Draft → Name → ℕ → Result Draft LineRefusal
init_step d name n = init_at d (name_number d.body.names name) n

-- what a line does, which may be outside the grammar
abbrev pub said_step : Draft → Option Line → Result Draft LineRefusal
said_step d None = Err L1
said_step d (Some core_line) = body_step d (core_step d.body)
said_step d (Some fence_line) = body_step d (fence_step d.body)
said_step d (Some (load_line name)) = body_step d (load_step d.body name)
said_step d (Some (write_line write name n)) = body_step d (write_step d.body write name n)
said_step d (Some (compare_line name e n)) = body_step d (compare_step d.body name e n)
said_step d (Some (init_line name n)) = init_step d name n

-- what the bytes of a line do
abbrev pub step : Draft → List ℕ → Result Draft LineRefusal
step d line = said_step d (parsed_line line)
