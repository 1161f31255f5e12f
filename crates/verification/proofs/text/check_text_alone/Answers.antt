use Rattle.verification.proofs.text.check_text_alone.Goals as goal

pub check_by-requires-clause-says : goal.check_by-requires-clause-says
check_by-requires-clause-says c v r says = rw says.2 at says.1
