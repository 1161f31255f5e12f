use Rattle.std.proofs.Common.{ap, ◌∙◌}
use Rattle.program.specs.declared.op.Op.{Op}
use Rattle.litmus.specs.Built.{state}
use Rattle.litmus.specs.Steps.{with_op}
use Rattle.litmus.proofs.Drawn.{access_is}
use Rattle.litmus.proofs.random.add_word.Goals as goal

pub returns : goal.returns
returns c =
    record {
      ok = access_is c.args.addresses c.args.word c.args.event c.in_ok-addr.addr
          (state c.args.builder.now) _ _ c.address_name-name.result c.if-word-eq6.false
          c.address_name-name.ensures (ap (λ n. n.keys) c.in_ok-add.ensures.names ∙ c.in_ok-addr.ensures.keys)
          c.in_ok-addr.ensures.index c.requires.event.0 (c.in_ok-add.ensures.ok
          ∙ ap (λ (op : Op). with_op c.args.builder.now.cores.items op) c.drawn_op.ensures);
    }
