use Rattle.verification.proofs.text.check_text.Goals as goal

pub check_by-requires-clause-says : goal.check_by-requires-clause-says
check_by-requires-clause-says g c v r says = rw says.2 at says.1
