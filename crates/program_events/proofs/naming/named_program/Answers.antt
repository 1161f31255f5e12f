use Rattle.std.proofs.Common.{◌≡◌, ◌∙◌, ap, sym, subst, refl, length, ℕ, List}
use Rattle.std.specs.List.{AllByRecursion}
use Rattle.program.specs.declared.name.Name.{Name}
use Rattle.program.specs.declared.op.Op.{Op}
use Rattle.program.specs.Parts.{Parts, Small, IsSmall, parts_of}
use Rattle.program_events.specs.ProgramOf.{IsProgramOf}
use Rattle.recording.specs.Execution.{Execution}
use Rattle.program_events.specs.NamedProgram.{program_of, named_program}
use Rattle.program.specs.AddressNames.{address_names}
use Rattle.program_events.proofs.NamedProgram.{named_is_program, named_is_of}
use Rattle.program_events.proofs.naming.named_program.Goals as goal

pub unreachable-requires : goal.unreachable-requires
unreachable-requires c =
    let x : Execution = c.args.recording.now in
    let small : AllByRecursion (AllByRecursion Small) (program_of x) =
    rw (← c.in_ok-cores.ensures.cores) c.in_ok-cores.ensures.small in
    let names : c.in_ok-names.names.keys ≡ address_names (length x.write_lists) =
    c.in_ok-names.ensures ∙ ap address_names c.addresses.ensures in
    let init : c.in_ok-init.init.items ≡ x.initial = c.in_ok-init.ensures.values ∙ c.init.ensures.value in
    let small_init : AllByRecursion IsSmall x.initial =
    subst (λ (l : List ℕ). AllByRecursion IsSmall l) init c.in_ok-init.ensures.small in
    c.in-None.ensures.none refl
    (rw names (rw c.in_ok-cores.ensures.cores
    (rw init (named_is_program x c.requires.short c.requires.numbered small small_init))))

pub returns-clause-made : goal.returns-clause-made
returns-clause-made c =
    let x : Execution = c.args.recording.now in
    let cores : List (List Op) = c.in_ok-cores.cores.items in
    let init : List ℕ = c.in_ok-init.init.items in
    let names : c.in_ok-names.names.keys ≡ address_names (length x.write_lists) =
    c.in_ok-names.ensures ∙ ap address_names c.addresses.ensures in
    let values : init ≡ x.initial = c.in_ok-init.ensures.values ∙ c.init.ensures.value in
    let program : c.in-Some.program ≡ named_program x =
    c.in-Some.ensures.some
    ∙ (ap (λ (l : List Name). parts_of l cores init) names
    ∙ (ap (λ (p : List (List Op)). parts_of (address_names (length x.write_lists)) p init) c.in_ok-cores.ensures.cores
    ∙ ap (λ (l : List ℕ). parts_of (address_names (length x.write_lists)) (program_of x) l) values)) in
    subst (λ (p : Parts). IsProgramOf p x) (sym program) (named_is_of x)
