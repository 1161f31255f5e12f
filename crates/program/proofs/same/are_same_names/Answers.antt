use Rattle.std.proofs.lemmas.Slice.Eq.{slice_eq-Decides}
use Rattle.program.specs.NameLaws.{name_decides}
use Rattle.program.proofs.same.are_same_names.Goals as goal

pub returns : goal.returns
returns c =
    rw (← c.as_slice.ensures.keys, ← c.as_slice-2.ensures.keys)
    (slice_eq-Decides name_decides c.as_slice.result.now c.as_slice-2.result.now c.eq.result c.eq.ensures)
