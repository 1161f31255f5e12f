use Rattle.std.proofs.Common.{◌≡◌, ◌∙◌, ℕ, Option, List, length, arith, sym, ap, Vec, Global}
use Rattle.std.proofs.lemmas.List.{length-map}
use Rattle.recording.specs.declared.event.Event.{Event}
use Rattle.values.proofs.values.Values.is_within_limits.Goals as goal

pub returns : goal.returns
returns c =
    let v = c.args.self.now in
    let cores : length c.cores.result.now ≡ length v.cores =
    sym (length-map c.cores.result.now (λ (w : Vec Event Global). w.items))
    ∙ ap (λ (cs : List (List Event)). length cs) c.cores.ensures in
    let values : length c.init.result.now ≡ length v.initial = ap (λ (ns : List ℕ). length ns) c.init.ensures in
    let again : length c.init-2.result.now ≡ length v.initial = ap (λ (ns : List ℕ). length ns) c.init-2.ensures in
    let ends : length c.final_values.result.now ≡ length v.final_values =
    ap (λ (ns : List (Option ℕ)). length ns) c.final_values.ensures in (
      λ yes. record {
        few_cores = omega (arith, cores, c.if-cores-gt-MAX_CORES.false);
        few_events = c.requires;
        few_addresses = omega (arith, values, c.if-init-gt-MAX_ADDRESSES.false);
        addresses = c.has_all_initial_values.ensures.0 yes;
        sources = ap (λ os. length os) (sym c.sources.ensures) ∙ (c.if-sources-len.false ∙ c.len.ensures);
        final_values = sym ends ∙ (c.if-final_values-init.false ∙ again);
      },
      λ within. c.has_all_initial_values.ensures.1 within.addresses,
    )
