-- What one line of a step script says.
use Rattle.std.specs.Prelude.{◌≡◌, ℕ, List, ◌+◌, position, take, drop, codes, Option, None, option_map}
use Rattle.std.specs.Prelude.{option_and_then, if◌then◌else◌}
use Rattle.program.specs.declared.name.Name.{Name}
use Rattle.program.specs.Names.{name_of}
use Rattle.texts.specs.Words.{begins, is_space}
use Rattle.texts.specs.Decimals.{IsValue, decimal_of}
use Rattle.machine.specs.declared.script_line.ParsedLine.{ParsedLine}
use Rattle.machine.specs.declared.script_line.ParsedLine.TheVariants as parsed
use Rattle.machine.specs.declared.script_line.CoreStep.{CoreStep}
use Rattle.machine.specs.declared.script_line.CoreStep.TheVariants.{Exec, Drain}
use Rattle.machine.specs.declared.step.Transaction.{Transaction}
use Rattle.machine.specs.declared.step.Transaction.TheVariants.{GetS, GetM, Put}
use Rattle.machine.specs.declared.step.Step.{Step}
use Rattle.machine.specs.declared.step.Step.TheVariants as steps

-- a line, with its core and its name not yet looked up
pub data ScriptLine : Type 0 where
  own_line : CoreStep → ℕ → ScriptLine
  transaction_line : Transaction → ℕ → Name → ScriptLine

-- the number of a core
unfoldable pub own_of : CoreStep → List ℕ → Option ScriptLine
own_of own rest = option_map (λ c. own_line own c) (decimal_of rest)

-- the number of a core, one space and a name
unfoldable pub transaction_of : Transaction → List ℕ → Option ScriptLine
transaction_of kind rest =
    option_and_then (λ at.
    option_and_then (λ c.
    option_map (λ name. transaction_line kind c name) (name_of (drop (at + 1) rest)))
    (decimal_of (take at rest)))
    (position is_space rest)

-- what a line says, if it is in the grammar
unfoldable pub script_line_of : List ℕ → Option ScriptLine
script_line_of line =
    if begins (codes "exec ") line then own_of Exec (drop 5 line)
    else (if begins (codes "drain ") line then own_of Drain (drop 6 line)
    else (if begins (codes "gets ") line then transaction_of GetS (drop 5 line)
    else (if begins (codes "getm ") line then transaction_of GetM (drop 5 line)
    else (if begins (codes "put ") line then transaction_of Put (drop 4 line)
    else None))))

-- the step of this kind that core c takes
abbrev pub own_step : CoreStep → ℕ → Step
own_step Exec c = steps.Exec c
own_step Drain c = steps.Drain c

-- the transaction of this kind of core c at address a
abbrev pub transaction_step : Transaction → ℕ → ℕ → Step
transaction_step GetS c a = steps.GetS c a
transaction_step GetM c a = steps.GetM c a
transaction_step Put c a = steps.Put c a

-- a line as the code says it is this line
abbrev pub SaysScriptLine : ParsedLine → ScriptLine → Type 0
SaysScriptLine (parsed.CoreStep own number) (own_line how c) = (own ≡ how) × IsValue number c
SaysScriptLine (parsed.Transaction kind number name) (transaction_line how c other) = (kind ≡ how)
    × IsValue number c × (name ≡ other)
SaysScriptLine said line = ⊥
