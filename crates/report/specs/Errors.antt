-- What failed where there is no answer.
use Rattle.std.specs.Prelude.{Bool, true, false}
use Rattle.report.specs.declared.error.ReportError.{ReportError}
use Rattle.report.specs.declared.error.ReportError.TheVariants.{ReadFailed, WriteFailed}

-- a read failed
abbrev pub is_read_failure : ReportError → Bool
is_read_failure ReadFailed = true
is_read_failure other = false

-- a write failed
abbrev pub is_write_failure : ReportError → Bool
is_write_failure WriteFailed = true
is_write_failure other = false
