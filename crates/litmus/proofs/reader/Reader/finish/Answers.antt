use Rattle.std.proofs.Common.{List, ℕ, length, arith, sym, subst}
use Rattle.litmus.specs.Built.{draft}
use Rattle.program.specs.Parts.{IsProgram, parts_of}
use Rattle.litmus.proofs.Initial.{few_filled, resized_is}
use Rattle.litmus.proofs.reader.Reader.finish.Goals as goal

pub of_lawful-requires : goal.of_lawful-requires
of_lawful-requires c =
    let d = draft c.args.self in
    subst (λ (init : List ℕ). IsProgram (parts_of d.body.names d.body.cores init))
    (sym (resized_is d.init c.resize.new.self.items c.args.self.init.len c.len.result (length d.body.names)
    (omega (arith, c.args.self.init.ok))
    (few_filled (length d.body.names) d.init c.requires.init_length)
    c.len.ensures.len c.in_ok-resize.ensures.items))
    c.requires
