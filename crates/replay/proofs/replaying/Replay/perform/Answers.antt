use Rattle.std.proofs.Common.{ap, inl, inr}
use Rattle.recording.specs.Event.{read_address, written_address}
use Rattle.replay.proofs.replaying.Replay.perform.Goals as goal

pub get_to_write-requires-clause-address : goal.get_to_write-requires-clause-address
get_to_write-requires-clause-address c = c.requires.addresses c.in-S.a (inr (ap written_address c.in-S.is))

pub get_to_read-requires-clause-address : goal.get_to_read-requires-clause-address
get_to_read-requires-clause-address c = c.requires.addresses c.in-L.a (inl (ap read_address c.in-L.is))

pub get_to_write-requires-in-R-clause-address : goal.get_to_write-requires-in-R-clause-address
get_to_write-requires-in-R-clause-address c = c.requires.addresses c.in-R.a (inl (ap read_address c.in-R.is))

pub get_to_write-requires-in-C-clause-address : goal.get_to_write-requires-in-C-clause-address
get_to_write-requires-in-C-clause-address c = c.requires.addresses c.in-C.a (inl (ap read_address c.in-C.is))
