-- What a whole step script gives, its steps or the first line at fault with its number; and the text of steps.
use Rattle.std.specs.Prelude.{◌<◌, ◌++◌, ◌∷◌, [], ℕ, List, nat_lt, length, position, Option, None, Some}
use Rattle.std.specs.Prelude.{Result, Ok, Err, if◌then◌else◌, codes, decimal}
use Rattle.common.specs.declared.limits.TheConstants.{MAX_STEPS}
use Rattle.program.specs.declared.name.Name.{Name}
use Rattle.program.specs.Names.{name_eq, name_text, name_at}
use Rattle.std.specs.List.{flat_map}
use Rattle.program.specs.Parts.{Parts}
use Rattle.texts.specs.Reading.{Reading, read_from}
use Rattle.machine.specs.declared.step.Step.{Step}
use Rattle.machine.specs.declared.step.Step.TheVariants.{Exec, Drain, GetS, GetM, Put}
use Rattle.machine.specs.declared.script_refusal.StepRefusal.{StepRefusal}
use Rattle.machine.specs.declared.script_refusal.StepRefusal.TheVariants.{S1, S2, S3, S4}
use Rattle.machine.specs.ScriptLine.{ScriptLine, own_line, transaction_line, script_line_of, own_step, transaction_step}

-- the core of this number, if the program has it
abbrev pub core_in : Parts → ℕ → Option ℕ
core_in p c = if nat_lt c (length p.cores) then Some c else None

-- the number of the address of this name, if the program has it
abbrev pub address_in : Parts → Name → Option ℕ
address_in p name = position (name_eq name) p.names

-- the step is the next one
abbrev pub with_step : List Step → Step → Result (List Step) StepRefusal
with_step done step = if nat_lt (length done) MAX_STEPS then Ok (done ++ step ∷ []) else Err S4

-- what was found goes on, and where nothing was the line is refused
abbrev pub or_refused : StepRefusal → Option ℕ → (ℕ → Result (List Step) StepRefusal) → Result (List Step) StepRefusal
or_refused refusal None go_on = Err refusal
or_refused refusal (Some n) go_on = go_on n

-- what a line does to the steps before it
abbrev pub script_step : Parts → List Step → Option ScriptLine → Result (List Step) StepRefusal
script_step p done None = Err S1
script_step p done (Some (own_line own c)) = or_refused S2 (core_in p c) (λ d. with_step done (own_step own d))
script_step p done (Some (transaction_line kind c name)) =
    or_refused S2 (core_in p c)
    (λ d. or_refused S3 (address_in p name) (λ a. with_step done (transaction_step kind d a)))

-- what the bytes of a line do to the steps before it
abbrev pub line_step : Parts → List Step → List ℕ → Result (List Step) StepRefusal
line_step p done line = script_step p done (script_line_of line)

-- the steps of a script for the program, or its first line at fault
abbrev pub steps_of : Parts → List ℕ → Reading (List Step) StepRefusal
steps_of p text = read_from (line_step p) S1 1 [] [] text

-- the step's core is one of the program's, and so is its address
abbrev pub IsStepOf : Parts → Step → Type 0
IsStepOf p (Exec c) = c < length p.cores
IsStepOf p (Drain c) = c < length p.cores
IsStepOf p (GetS c a) = (c < length p.cores) × (a < length p.names)
IsStepOf p (GetM c a) = (c < length p.cores) × (a < length p.names)
IsStepOf p (Put c a) = (c < length p.cores) × (a < length p.names)

-- a core, a space and the name of an address
abbrev pub at_text : Parts → ℕ → ℕ → List ℕ
at_text p c a = decimal c ++ 32 ∷ name_text (name_at p.names a)

-- the text of a step, without its newline
abbrev pub step_text : Parts → Step → List ℕ
step_text p (Exec c) = codes "exec " ++ decimal c
step_text p (Drain c) = codes "drain " ++ decimal c
step_text p (GetS c a) = codes "gets " ++ at_text p c a
step_text p (GetM c a) = codes "getm " ++ at_text p c a
step_text p (Put c a) = codes "put " ++ at_text p c a

-- the text of steps, a line a step
abbrev pub script_text : Parts → List Step → List ℕ
script_text p steps = flat_map (λ step. step_text p step ++ 10 ∷ []) steps
