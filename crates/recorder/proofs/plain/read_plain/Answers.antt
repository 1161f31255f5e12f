use Rattle.recorder.proofs.Somes.{if_some}
use Rattle.recorder.proofs.RecordingMembers.{members_read}
use Rattle.recorder.proofs.plain.read_plain.Goals as goal

pub returns : goal.returns
returns c = if_some c.in_ok-found.found c.in_ok-found.ensures (λ q given.
    members_read c.args.size c.args.bytes.now c.new-rest.result given.0 q c.in-Ok.ensures.cases.1 c.new-rest.ensures
    given.1 given.2)
