use Rattle.write_buffer.proofs.Popped.{is_cut}
use Rattle.write_buffer.proofs.buffer.WriteBuffer.pop_youngest.Goals as goal

pub returns-clause-some : goal.returns-clause-some
returns-clause-some c =
    let seen = c.self.view_is in
    rw (c.pop_back.ensures.value, c.pop_back.ensures.items, ← seen) (is_cut c.self.inside.ring.items)
