use Rattle.std.proofs.Common.{◌≡◌, ℕ, List, length, arith, ap, ◌∙◌}
use Rattle.std.proofs.lemmas.Bool.{eqb-true, eq-eqb}
use Rattle.recording.specs.Execution.{Execution}
use Rattle.recording.proofs.numbered.Numbered.has_sizes.Goals as goal

pub returns : goal.returns
returns c =
    let x = c.args.self.now in
    let cores : length c.cores.result.now ≡ length x.cores = c.cores.ensures.count
    ∙ ap (λ (y : Execution). length y.cores) c.parts-parts.ensures in
    let lists : length c.writes.result.now ≡ length x.write_lists = c.writes.ensures.count
    ∙ ap (λ (y : Execution). length y.write_lists) c.parts-parts.ensures in
    let lists_again : length c.writes-2.result.now ≡ length x.write_lists = c.writes-2.ensures.count
    ∙ ap (λ (y : Execution). length y.write_lists) c.parts-parts.ensures in
    let values : length c.init.result.now ≡ length x.initial =
    ap (λ (ns : List ℕ). length ns) c.init.ensures
    ∙ ap (λ (y : Execution). length y.initial) c.parts-parts.ensures in (
      λ yes. record {
        few_cores = omega (arith, cores, c.cores-2.ensures, c.if-cores.false);
        few_events = omega (arith, c.len.ensures, c.events.ensures, c.if-len-events.false);
        few_addresses = omega (arith, lists, c.addresses.ensures, c.if-writes-addresses.false);
        initial = omega (arith, values, eqb-true _ _ yes, lists_again);
      },
      λ has. eq-eqb _ _ (omega (arith, values, has.initial, lists_again)),
    )
