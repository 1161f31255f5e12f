-- What options choose, by name.
use Rattle.std.specs.Prelude.{Bool, if◌then◌else◌}
use Rattle.program_answers.specs.declared.made_answers.CycleChoice.{CycleChoice}
use Rattle.program_answers.specs.declared.made_answers.CycleChoice.TheVariants.{Each, Forbidden}
use Rattle.answers.specs.declared.reduced.ViolationForm.{ViolationForm}
use Rattle.answers.specs.declared.reduced.ViolationForm.TheVariants.{Whole, Reduced}
use Rattle.devices.specs.declared.progress.Visibility.{Visibility}
use Rattle.devices.specs.declared.progress.Visibility.TheVariants.{Shown, Hidden}
use Rattle.outcome_texts.specs.declared.report.UnseenForm.{UnseenForm}
use Rattle.outcome_texts.specs.declared.report.UnseenForm.TheVariants.{Count, Lines}

-- how a violation is answered, by `--reduce`
abbrev pub violation_form : Bool → ViolationForm
violation_form reduce = if reduce then Reduced else Whole

-- which critical cycles are listed, by `--forbidden`
abbrev pub cycle_choice : Bool → CycleChoice
cycle_choice forbidden = if forbidden then Forbidden else Each

-- what is printed of the outcomes that no line of a log shows, by `--unseen`
abbrev pub unseen_form : Bool → UnseenForm
unseen_form unseen = if unseen then Lines else Count

-- whether progress is shown, by `--quiet`
abbrev pub progress_visibility : Bool → Visibility
progress_visibility quiet = if quiet then Hidden else Shown
