-- The program of a recording is lawful, and what its building makes.
use Rattle.std.proofs.Common.{◌≡◌, ◌<◌, ◌≤◌, ◌^◌, ℕ, suc, List, [], map, length, Some}
use Rattle.std.proofs.Common.{None, IsTrue, nat_eq, get_or, drop, arith, refl, sym, ap, ◌∙◌, Vec}
use Rattle.std.proofs.Common.{Global, option_and_then, drop-cons, drop_of_length-le, eqb-true, eq-eqb, subst}
use Rattle.std.specs.List.{AllByRecursion}
use Rattle.std.proofs.lemmas.List.{length-map, get_or-map}
use Rattle.std.proofs.lemmas.Simd.{map-map}
use Rattle.common.specs.declared.limits.TheConstants.{MAX_ADDRESSES}
use Rattle.program.specs.declared.op.Op.{Op}
use Rattle.program.specs.declared.op.Op.TheVariants.{Fence}
use Rattle.program.specs.Parts.{Small, IsSmall, IsProgram, use_ops, use_cores}
use Rattle.recording.specs.declared.event.Event.{Event}
use Rattle.recording.specs.declared.event.Event.TheVariants.{F}
use Rattle.recording.specs.Execution.{Execution}
use Rattle.recording.specs.declared.size.RecordingSize.{RecordingSize}
use Rattle.recording.specs.Recording.{IsRecordingWithin, IsShortRecording}
use Rattle.program_events.specs.NamedProgram.{op_of, program_of, named_program}
use Rattle.recording.specs.FirstUse.{IsNumberedByFirstUse}
use Rattle.program.specs.AddressNames.{address_names}
use Rattle.recording.specs.PlacedLaws.{placed_total}
use Rattle.program_events.specs.ProgramOf.{AreOpsOf, IsProgramOf}
use Rattle.program_events.proofs.MadeAgain.{count_same, made_again}
use Rattle.std.proofs.lemmas.Option.{same_Some}
use Rattle.program_events.specs.FirstUseLaws.{HaveAddressesOf, numbered_counts, counts_numbered}
use Rattle.program_events.specs.ProgramLaws.{made_addresses}
use Rattle.program.specs.AddressNameLaws.{names_lawful, names_distinct, names_count}

-- the operations of events make these
made_ops : (es : List Event) → AreOpsOf (map op_of es) es
made_ops es = record {
  one_each = length-map es op_of;
  each = λ i h.
      let inside : i < length es = omega (arith, h, length-map es op_of) in
      rw (get_or-map op_of es i F Fence inside) (made_again (get_or es i F));
}

-- so a recording is one of its program
pub named_is_of : (x : Execution) → IsProgramOf (named_program x) x
named_is_of x = record {
  cores = length-map x.cores (λ es. map op_of es);
  ops = λ c h.
      let inside : c < length x.cores = omega (arith, h, length-map x.cores (λ (es : List Event). map op_of es)) in
      subst (λ (ops : List Op). AreOpsOf ops (get_or x.cores c []))
      (sym (get_or-map (λ (es : List Event). map op_of es) x.cores c [] [] inside)) (made_ops (get_or x.cores c []));
  values = refl;
}

-- and has the addresses of its events
have_addresses : (x : Execution) → HaveAddressesOf (program_of x) x
have_addresses x = made_addresses (named_program x) x (named_is_of x)

-- so it counts addresses that are numbered by first use
program_numbered : {size : RecordingSize} (x : Execution) → IsNumberedByFirstUse x → IsRecordingWithin size x
    → use_cores 0 (program_of x) ≡ Some (length x.write_lists)
program_numbered x numbered r = numbered_counts x (program_of x) (have_addresses x) numbered r.within.addresses

-- the names, the operations and the initial values of a recording are a program
pub named_is_program : (x : Execution) → IsShortRecording x → IsNumberedByFirstUse x
    → AllByRecursion (AllByRecursion Small) (program_of x) → AllByRecursion IsSmall x.initial
    → IsProgram (named_program x)
named_is_program x r numbered small small_init =
    let count : length (address_names (length x.write_lists)) ≡ length x.write_lists =
    names_count (length x.write_lists) in
    let limit : MAX_ADDRESSES ≤ 10 ^ 7 = omega arith in
    record {
      few_cores = omega (arith, r.within.few_cores, length-map x.cores (λ es. map op_of es));
      few_ops = omega (arith, r.within.few_events, count_same x, placed_total 0 (program_of x));
      few_names = omega (arith, r.within.few_addresses, count);
      values = small;
      lawful = names_lawful (length x.write_lists) (omega (arith, limit, r.within.few_addresses));
      distinct = names_distinct (length x.write_lists) (omega (arith, limit, r.within.few_addresses));
      numbered = program_numbered x numbered r ∙ ap Some (sym count);
      init_length = r.within.initial ∙ sym count;
      init_values = small_init;
    }

-- The test of a recording's addresses, over the lists of its events

-- the operations of each core, from its list
abbrev pub list_ops : Vec Event Global → List Op
list_ops v = map op_of v.items

module _ {size : RecordingSize} (x : Execution) (lists : List (Vec Event Global)) (are : map (λ v. v.items) lists ≡ x.cores)
    (r : IsRecordingWithin size x) (used i : ℕ)
    (so_far : use_cores used (map list_ops (drop i lists)) ≡ use_cores 0 (map list_ops lists)) where
  -- they are the program's
  list_program : map list_ops lists ≡ program_of x
  list_program =
      sym (map-map (λ (es : List Event). map op_of es) (λ (v : Vec Event Global). v.items) lists)
      ∙ ap (λ (cs : List (List Event)). map (λ es. map op_of es) cs) are

  -- at the end the count is that of the program
  all_used : length lists ≤ i → use_cores 0 (program_of x) ≡ Some used
  all_used past =
      ap (use_cores 0) (sym list_program) ∙
      (sym so_far ∙ ap (λ (l : List (Vec Event Global)). use_cores used (map list_ops l))
      (drop_of_length-le lists past))

  -- so the numbers are compared
  pub is_numbered_end : length lists ≤ i → (n : ℕ) → n ≡ length x.write_lists
      → (IsTrue (nat_eq used n) → IsNumberedByFirstUse x) × (IsNumberedByFirstUse x → IsTrue (nat_eq used n))
  is_numbered_end past n is = (
    λ same. counts_numbered x (program_of x) (have_addresses x) (all_used past ∙ ap Some (eqb-true used n same ∙ is)),
    λ numbered. eq-eqb used n (same_Some _ _
        (sym (all_used past) ∙ program_numbered x numbered r) ∙ sym is),
  )

  -- where an address is used before its turn they are not numbered
  pub is_not_numbered : (d : Vec Event Global) → i < length lists
      → use_ops used (map op_of (get_or lists i d).items) ≡ None → ¬ IsNumberedByFirstUse x
  is_not_numbered d inside early numbered =
      let none : use_cores used (map list_ops (drop i lists)) ≡ None =
      ap (λ (l : List (Vec Event Global)). use_cores used (map list_ops l)) (drop-cons lists i d inside)
      ∙ ap (option_and_then (λ k. use_cores k (map list_ops (drop (suc i) lists)))) early in
      let clash : None ≡ Some (length x.write_lists) =
      sym none ∙ (so_far ∙ (ap (use_cores 0) list_program
      ∙ program_numbered x numbered r)) in cc
