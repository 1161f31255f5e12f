use Rattle.std.proofs.Common.{sym}
use Rattle.recording.specs.CoreLaws.{core_past}
use Rattle.recording.proofs.recording.Recording.core_of.Goals as goal

pub returns-in-None : goal.returns-in-None
returns-in-None c = sym (core_past c.args.self.now c.args.number c.in-None.ensures)
