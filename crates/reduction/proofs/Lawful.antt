-- What is left of a program is one.
use Rattle.std.proofs.Common.{◌≡◌, ◌≢◌, ◌<◌, ◌≤◌, ◌+◌, inl, inr, ℕ, suc, false, Some, List, [], ◌∷◌, ◌++◌, map}
use Rattle.std.proofs.Common.{length, get_or, take, drop, drop-cons, arith, ap, sym, subst, refl, ◌∙◌, Vec, Global}
use Rattle.std.specs.List.{AllByRecursion, IsDistinct, list_any}
use Rattle.std.proofs.lemmas.Bool.{cases_order}
use Rattle.std.proofs.lemmas.List.{get_or-map, length-map, map-append, map_push, take-append-drop, take_more}
use Rattle.std.proofs.lemmas.List.Elements.{All-from_recursion}
use Rattle.std.proofs.lemmas.Map.Keys.{IsDistinct-from_apart, apart_from_distinct}
use Rattle.program.specs.declared.name.Name.{Name}
use Rattle.program.specs.declared.op.Op.{Op}
use Rattle.program.specs.NameLaws.{name_laws}
use Rattle.program.specs.NameListLaws.{not_before}
use Rattle.program.specs.Names.{names_with, AreLawful, name_eq, name_of, name_text, no_name, name_at}
use Rattle.program.specs.Parts.{Parts, Small, IsSmall, IsProgram, parts_of}
use Rattle.recording.specs.Execution.{Execution, write_list, initial_value}
use Rattle.recording.specs.FirstUse.{IsNumberedByFirstUse}
use Rattle.recording.specs.Order.{place, times}
use Rattle.recording.specs.OrderLaws.{times_here}
use Rattle.recording.specs.PlaceLaws.{place_at, times_at}
use Rattle.recording.specs.PlacedLaws.{placed_total}
use Rattle.recording.specs.Recording.{IsShortRecording}
use Rattle.program_events.specs.FirstUseLaws.{HaveAddressesOf, numbered_counts}
use Rattle.program_events.specs.Operations.{placed_op}
use Rattle.program_events.specs.ProgramLaws.{made_addresses, events_made}
use Rattle.program_events.specs.ProgramOf.{IsProgramOf}
use Rattle.reduction.specs.RestrictedProgram.{readdressed_op, restricted_program}
use Rattle.reduction.specs.Restriction.{AreClosed, addresses_of, kept_of, used_cores, restriction}
use Rattle.reduction.proofs.Faithful.{every_restriction_is_faithful}
use Rattle.reduction.proofs.Made.{few_used, used_within, restriction_recording}
use Rattle.reduction.proofs.Ops.{restricted_is_of, op_small, readdressed_small, value_small, all_mapped}
use Rattle.reduction.proofs.Parts.{rest_all, items_mapped}
use Rattle.reduction.proofs.Used.{used_once}

-- the names of addresses that have one are lawful
lawful_at : (names : List Name) → AreLawful names → (us : List ℕ)
    → ((a : ℕ) → 0 < times us a → a < length names) → AreLawful (map (name_at names) us)
lawful_at names lawful [] within = tt
lawful_at names lawful (a ∷ us) within = (
  All-from_recursion (λ (name : Name). name_of (name_text name) ≡ Some name) names lawful a no_name
      (within a (omega (arith, times_here us a a refl))),
  lawful_at names lawful us (rest_all (λ b. b < length names) a us within),
)

-- the names of two addresses differ
names_apart : (names : List Name) → IsDistinct name_eq names → (a b : ℕ) → a < length names → b < length names
    → a ≢ b → name_eq (name_at names a) (name_at names b) ≡ false
names_apart names distinct a b ha hb apart = elim (cases_order a b) [
  | inl same ↦ absurd (apart same)
  | inr other ↦ elim other [
    | inl less ↦ apart_from_distinct name_eq names a b no_name distinct less hb
    | inr more ↦ name_laws.symm (name_at names a) (name_at names b)
        ∙ apart_from_distinct name_eq names b a no_name distinct more ha
  ]
]

-- the names of addresses that have one are distinct where these are
distinct_at : (names : List Name) → IsDistinct name_eq names → (us : List ℕ)
    → ((a : ℕ) → 0 < times us a → a < length names) → ((a : ℕ) → times us a ≤ 1)
    → IsDistinct name_eq (map (name_at names) us)
distinct_at names distinct us within once =
    IsDistinct-from_apart name_eq (map (name_at names) us) (λ i j d less h.
    let hj : j < length us = omega (arith, h, length-map us (name_at names)) in
    let hi : i < length us = omega (arith, less, hj) in
    let a : ℕ = get_or us i 0 in
    let b : ℕ = get_or us j 0 in
    let apart : a ≢ b = λ same. omega (
      arith,
      less,
      place_at us i hi (once a),
      place_at us j hj (once b),
      ap (place us) same,
    ) in
    ap (λ (n : Name). name_eq n (get_or (map (name_at names) us) j d)) (get_or-map (name_at names) us i 0 d hi)
    ∙ (ap (λ (n : Name). name_eq (name_at names a) n) (get_or-map (name_at names) us j 0 d hj)
    ∙ names_apart names distinct a b (within a (times_at us i hi)) (within b (times_at us j hj)) apart))

-- one name more is new
pub name_more : (names : List Name) (us : List ℕ) (i : ℕ) → IsDistinct name_eq (map (name_at names) us)
    → i < length us → names_with (map (name_at names) (take i us)) (name_at names (get_or us i 0))
    ≡ map (name_at names) (take (i + 1) us)
name_more names us i distinct h =
    let front : List Name = map (name_at names) (take i us) in
    let name : Name = name_at names (get_or us i 0) in
    let back : List Name = map (name_at names) (drop (suc i) us) in
    let whole : map (name_at names) us ≡ front ++ name ∷ back =
    ap (map (name_at names)) (sym (take-append-drop i us))
    ∙ (map-append (name_at names) (take i us) (drop i us)
    ∙ ap (λ (l : List ℕ). front ++ map (name_at names) l) (drop-cons us i 0 h)) in
    let new : list_any (name_eq name) front ≡ false =
    not_before front name back (subst (λ (l : List Name). IsDistinct name_eq l) whole distinct) in
    let pushed : names_with front name ≡ front ++ name ∷ [] = rw new refl in
    pushed ∙ sym (ap (map (name_at names)) (take_more us i 0 h) ∙ map_push (name_at names) (take i us) (get_or us i 0))

-- names, operations and initial values of a program
parts_same : (a b : List Name) (c d : List (List Op)) (e f : List ℕ) → a ≡ b → c ≡ d → e ≡ f
    → parts_of a c e ≡ parts_of b d f
parts_same a b c d e f p q r = cc

-- what is left is made of the names, the operations and the initial values
pub restricted_from : (p : Parts) (x : Execution) (ks u v w : List ℕ) (used : List (Vec ℕ Global)) (names : List Name)
    (cores : List (List Op)) (init : List ℕ) → u ≡ addresses_of x ks → v ≡ addresses_of x ks
    → w ≡ addresses_of x ks → map (λ n. n.items) used ≡ used_cores x ks → names ≡ map (name_at p.names) u
    → cores ≡ map (λ n. map (readdressed_op p v) n.items) used → init ≡ map (initial_value x) w
    → parts_of names cores init ≡ restricted_program p x ks
unfolding restricted_program
restricted_from p x ks u v w used names cores init us vs ws is a b d = parts_same names _ cores _ init _
    (a ∙ ap (λ (l : List ℕ). map (name_at p.names) l) us)
    (b ∙ (ap (λ (l : List ℕ). map (λ (n : Vec ℕ Global). map (readdressed_op p l) n.items) used) vs
    ∙ items_mapped (readdressed_op p (addresses_of x ks)) used (used_cores x ks) is))
    (d ∙ ap (λ (l : List ℕ). map (initial_value x) l) ws)

module _ (p : Parts) (x : Execution) (ks : List ℕ) (program : IsProgram p) (is : IsProgramOf p x)
    (recording : IsShortRecording x) (closed : AreClosed x ks) where
  -- an address that is used has a name
  named : (a : ℕ) → 0 < times (addresses_of x ks) a → a < length p.names
  named a there = omega (
    arith,
    used_within x ks recording a there,
    recording.within.initial,
    ap (λ (l : List ℕ). length l) is.values,
    program.init_length,
  )

  -- the names of the addresses that are used differ
  pub names_kept : IsDistinct name_eq (map (name_at p.names) (addresses_of x ks))
  names_kept = distinct_at p.names program.distinct (addresses_of x ks) named (used_once x ks)

  -- its addresses are those that are used
  left_addresses : length (restriction x ks).write_lists ≡ length (addresses_of x ks)
  left_addresses =
      ap (λ (l : List (List ℕ)). length l)
      (every_restriction_is_faithful x ks recording.well_formed closed).part.write_lists
      ∙ length-map (addresses_of x ks) (λ (a : ℕ). kept_of ks (write_list x a))

  -- an initial value has 32 bits
  value_kept : (a : ℕ) → IsSmall (initial_value x a)
  value_kept a =
      value_small x.initial a (subst (λ (l : List ℕ). AllByRecursion IsSmall l) is.values program.init_values)

  -- the operations have the addresses of the events
  addresses_kept : HaveAddressesOf (restricted_program p x ks).cores (restriction x ks)
  addresses_kept =
      made_addresses (restricted_program p x ks) (restriction x ks) (restricted_is_of p x ks is)

  -- the program is one
  pub restricted_is_program : IsProgram (restricted_program p x ks)
  unfolding restricted_program
  restricted_is_program =
      let us : List ℕ = addresses_of x ks in
      let y : IsShortRecording (restriction x ks) = restriction_recording x ks closed recording in
      let numbered : IsNumberedByFirstUse (restriction x ks) =
      (every_restriction_is_faithful x ks recording.well_formed closed).numbered in
      let names : length (map (name_at p.names) us) ≡ length us = length-map us (name_at p.names) in
      record {
        few_cores = omega (arith, (restricted_is_of p x ks is).cores, y.within.few_cores);
        few_ops = omega (
          arith,
          events_made (restricted_program p x ks) (restriction x ks) (restricted_is_of p x ks is),
          placed_total 0 (restricted_program p x ks).cores,
          y.within.few_events,
        );
        few_names = omega (arith, names, few_used x ks recording);
        values = all_mapped (AllByRecursion Small) (λ es. map (readdressed_op p us) es)
            (λ es. all_mapped Small (readdressed_op p us)
            (λ k. readdressed_small (place us) (placed_op p.cores k).1 (op_small 0 p.cores k program.values)) es)
            (used_cores x ks);
        lawful = lawful_at p.names program.lawful us named;
        distinct = names_kept;
        numbered = numbered_counts (restriction x ks) (restricted_program p x ks).cores addresses_kept numbered
            y.within.addresses ∙ ap (λ (n : ℕ). Some n) (left_addresses ∙ sym names);
        init_length = length-map us (initial_value x) ∙ sym names;
        init_values = all_mapped IsSmall (initial_value x) value_kept us;
      }
