use Rattle.std.proofs.Common.{arith}
use Rattle.program.specs.AddressNameLaws.{names_more}
use Rattle.program.proofs.naming.address_names.Goals as goal

pub loop-number-preserved : goal.loop-number-preserved
loop-number-preserved c =
    names_more c.loop-number.number c.loop-number.names.keys c.insert.new.self.keys c.address_name.result
    (omega (arith, c.loop-number-test.true, c.requires))
    c.loop-number.invariant c.address_name.ensures c.in_ok-_new.ensures.keys
