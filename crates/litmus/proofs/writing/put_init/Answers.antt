use Rattle.std.proofs.Common.{◌++◌, get_or, ap, sym, ◌∙◌}
use Rattle.std.proofs.lemmas.List.{append_assoc}
use Rattle.litmus.specs.Spelling.{value_text}
use Rattle.litmus.proofs.Initial.{init_push}
use Rattle.litmus.proofs.writing.put_init.Goals as goal

pub loop-addr-preserved : goal.loop-addr-preserved
loop-addr-preserved c =
    let names = c.args.names.now.keys in
    let init = c.args.init.now in
    let i = c.loop-addr.addr in
    c.in_ok-put_value.ensures
    ∙ (ap (λ t. t ++ value_text names i (get_or init i 0)) c.loop-addr.invariant
    ∙ (append_assoc c.args.out.now.items _ _
    ∙ ap (λ t. c.args.out.now.items ++ t) (sym (init_push names init i 0 c.loop-addr-test.true))))
