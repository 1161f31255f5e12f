-- Counts after a header.
use Rattle.std.specs.Prelude.{◌≡◌, ◌++◌, Option, None, Some}
use Rattle.headers.specs.declared.header.Header.{Header}
use Rattle.headers.specs.Headers.{header_line}
use Rattle.verdicts.specs.declared.printed.Answer.{Answer}

-- an answer with counts, after a header where there is one
abbrev pub IsHeaded : Option Header → Answer → Answer → Type 0
IsHeaded None counts answer = answer ≡ counts
IsHeaded (Some header) counts answer = (answer.outcome ≡ counts.outcome)
    × (answer.text.items ≡ header_line header ++ counts.text.items)
