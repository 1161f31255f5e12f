use Rattle.tsotest_library.proofs.rendering.rendered_answer_of.Goals as goal

pub rendered_by-requires : goal.rendered_by-requires
rendered_by-requires c = (rw c.in-Ok.is at c.in_ok-recording.ensures).3
