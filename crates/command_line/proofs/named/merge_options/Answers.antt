use Rattle.std.proofs.Common.{◌∙◌, ap, map}
use Rattle.std.specs.Prelude.{string_bytes}
use Rattle.command_line.proofs.Added.{copied_more}
use Rattle.command_line.proofs.named.merge_options.Goals as goal

pub loop-text-preserved : goal.loop-text-preserved
loop-text-preserved c = ap (map string_bytes) c.in_ok-push.ensures.items
    ∙ copied_more (λ v. v.now) string_bytes c.in-Some.texts.now c.loop-text.files.items c.in_ok-name.name
    c.loop-text.text-index _ c.loop-text-test.true c.loop-text.invariant c.in_ok-name.ensures.ok
