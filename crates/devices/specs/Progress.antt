-- When a line of progress is written.
use Rattle.std.specs.Prelude.{◌-◌, ◌&&◌, ℕ, Option, Some, None, if◌then◌else◌, nat_le}
use Rattle.devices.specs.declared.progress.Line.{Line}
use Rattle.devices.specs.declared.progress.Visibility.{Visibility}
use Rattle.devices.specs.declared.progress.Visibility.TheVariants.{Shown, Hidden}
use Rattle.devices.specs.declared.progress.TheConstants.{FIRST_LINE, BETWEEN_LINES}

-- where it is shown, and the campaign has lasted long enough, and so has the last line; in milliseconds
abbrev pub line_due : Visibility → ℕ → ℕ → Line → Option Line
line_due Shown elapsed last line =
    if nat_le FIRST_LINE elapsed && nat_le BETWEEN_LINES (elapsed - last) then Some line else None
line_due Hidden elapsed last line = None
