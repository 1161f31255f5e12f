use Rattle.std.proofs.Common.{◌∙◌, List, ap, sym}
use Rattle.outcomes.specs.Listed.{IsEnding}
use Rattle.outcomes.specs.Outcome.{Outcome}
use Rattle.outcomes.specs.Witness.{first_showing}
use Rattle.outcomes.proofs.Ways.{first_holds, first_none}
use Rattle.outcomes.proofs.witness.witness_among.Goals as goal

pub recording_of-requires-clause-ending : goal.recording_of-requires-clause-ending
recording_of-requires-clause-ending c =
    first_holds (IsEnding c.args.program.now.cores c.args.rows.now.keys) c.in_ok-found.found.keys c.args.seen.now
    c.in-Some.outcome.now c.in_ok-found.ensures.ending
    (ap (λ (l : List Outcome). first_showing l c.args.seen.now) (sym c.as_slice.ensures.keys) ∙ sym c.in-Some.ensures)

pub returns : goal.returns
returns c = λ limit explained.
    first_none c.in_ok-found.found.keys c.args.seen.now explained.0
    (ap (λ (l : List Outcome). first_showing l c.args.seen.now) (sym c.as_slice.ensures.keys)
    ∙ sym c.in-None.ensures)
    (c.in_ok-found.ensures.exact.complete explained.0 explained.1) explained.2
