use Rattle.std.proofs.Common.{◌≡◌, ◌∙◌, ℕ, List, Vec, Global, map, length, arith, ap, sym, subst}
use Rattle.std.specs.List.{IsDistinct}
use Rattle.program.specs.Names.{name_eq, name_at}
use Rattle.program.specs.Parts.{Parts, IsProgram, parts_of}
use Rattle.program_events.specs.ProgramLaws.{short_of_program}
use Rattle.program_events.specs.ProgramOf.{IsProgramOf}
use Rattle.reduction.specs.Restriction.{restriction}
use Rattle.reduction.specs.RestrictedProgram.{restricted_program}
use Rattle.reduction.proofs.Lawful.{names_kept, restricted_from, restricted_is_program}
use Rattle.reduction.proofs.Made.{few_used}
use Rattle.reduction.proofs.Ops.{restricted_is_of}
use Rattle.reduction.proofs.programs.restricted_program.Goals as goal

pub cores_of-requires : goal.cores_of-requires
cores_of-requires c = omega (
  arith,
  few_used c.args.recording.now c.args.kept.now c.sound.ensures,
  ap (λ (l : List ℕ). length l) c.in_ok-addresses.ensures,
  ap (λ (l : List ℕ). length l) c.deref.ensures.value,
)

pub names_of-requires : goal.names_of-requires
names_of-requires c =
    subst (λ (l : List ℕ). IsDistinct name_eq (map (name_at c.args.program.now.names) l))
    (sym (c.deref-4.ensures.value ∙ c.in_ok-addresses.ensures))
    (names_kept c.args.program.now c.args.recording.now c.args.kept.now c.sound-2.ensures.lawful
    c.requires.program (short_of_program c.args.program.now c.args.recording.now c.sound-2.ensures.lawful
    c.requires.program c.sound.ensures) c.requires.closed)

pub of_lawful-requires : goal.of_lawful-requires
of_lawful-requires c =
    let made : parts_of c.in-Ok.names.keys c.in_ok-cores.cores.items c.in_ok-init.init.items
    ≡ restricted_program c.args.program.now c.args.recording.now c.args.kept.now =
    restricted_from c.args.program.now c.args.recording.now c.args.kept.now c.deref-4.result.now
    c.deref.result.now c.deref-3.result.now c.deref-2.result.now c.in-Ok.names.keys c.in_ok-cores.cores.items
    c.in_ok-init.init.items (c.deref-4.ensures.value ∙ c.in_ok-addresses.ensures)
    (c.deref.ensures.value ∙ c.in_ok-addresses.ensures) (c.deref-3.ensures.value ∙ c.in_ok-addresses.ensures)
    (ap (λ (l : List (Vec ℕ Global)). map (λ (v : Vec ℕ Global). v.items) l) c.deref-2.ensures.value
    ∙ c.in_ok-used.ensures) c.in-Ok.ensures c.in_ok-cores.ensures c.in_ok-init.ensures in
    subst (λ (p : Parts). IsProgram p) (sym made)
    (restricted_is_program c.args.program.now c.args.recording.now c.args.kept.now c.sound-2.ensures.lawful
    c.requires.program (short_of_program c.args.program.now c.args.recording.now c.sound-2.ensures.lawful
    c.requires.program c.sound.ensures) c.requires.closed)

pub returns-clause-program : goal.returns-clause-program
returns-clause-program c =
    c.of_lawful.ensures
    ∙ restricted_from c.args.program.now c.args.recording.now c.args.kept.now c.deref-4.result.now
    c.deref.result.now c.deref-3.result.now c.deref-2.result.now c.in-Ok.names.keys c.in_ok-cores.cores.items
    c.in_ok-init.init.items (c.deref-4.ensures.value ∙ c.in_ok-addresses.ensures)
    (c.deref.ensures.value ∙ c.in_ok-addresses.ensures) (c.deref-3.ensures.value ∙ c.in_ok-addresses.ensures)
    (ap (λ (l : List (Vec ℕ Global)). map (λ (v : Vec ℕ Global). v.items) l) c.deref-2.ensures.value
    ∙ c.in_ok-used.ensures) c.in-Ok.ensures c.in_ok-cores.ensures c.in_ok-init.ensures

pub returns-clause-made : goal.returns-clause-made
returns-clause-made c =
    subst (λ (p : Parts). IsProgramOf p (restriction c.args.recording.now c.args.kept.now))
    (sym (returns-clause-program c))
    (restricted_is_of c.args.program.now c.args.recording.now c.args.kept.now c.requires.program)
