use Rattle.std.proofs.Common.{◌≡◌, ◌∙◌, ℕ, List, map, take, get_or, ap}
use Rattle.program.specs.declared.name.Name.{Name}
use Rattle.program.specs.Names.{name_at, names_with}
use Rattle.reduction.proofs.Lawful.{name_more}
use Rattle.reduction.proofs.programs.names_of.Goals as goal

pub loop-address-preserved : goal.loop-address-preserved
loop-address-preserved c =
    let names : List Name = c.args.program.now.names in
    let us : List ℕ = c.args.addresses.now in
    let i : ℕ = c.loop-address.address-index in
    let name : c.name_at.result ≡ name_at names (get_or us i 0) =
    c.name_at.ensures ∙ ap (λ (l : List Name). name_at l (get_or us i 0)) c.names.ensures.keys in
    c.in_ok-_new.ensures.keys
    ∙ (ap (λ (l : List Name). names_with l c.name_at.result) c.loop-address.invariant
    ∙ (ap (λ (n : Name). names_with (map (name_at names) (take i us)) n) name
    ∙ name_more names us i c.requires c.loop-address-test.true))
