-- The operations of the events that are kept make these.
use Rattle.std.proofs.Common.{◌≡◌, ◌<◌, ◌+◌, ◌-◌, ◌==◌, inl, inr, ℕ, zero, suc, Bool, true, false, cond, Option}
use Rattle.std.proofs.Common.{List, [], ◌∷◌, map, option_map, length, get_or, arith, ap, sym, subst, refl, ◌∙◌}
use Rattle.std.specs.List.{AllByRecursion}
use Rattle.std.proofs.lemmas.Bool.{cases_lt}
use Rattle.std.proofs.lemmas.List.{get_or-map, length-map}
use Rattle.std.proofs.lemmas.List.Elements.{All-from_recursion}
use Rattle.program.specs.declared.op.Op.{Op}
use Rattle.program.specs.declared.op.Op.TheVariants.{St, Ld, Fence, Swap, Add, Cas}
use Rattle.program.specs.Parts.{Parts, Small, IsSmall}
use Rattle.recording.specs.declared.event.Event.{Event}
use Rattle.recording.specs.declared.event.Event.TheVariants.{R, C, F}
use Rattle.recording.specs.Event.{value_read, source}
use Rattle.recording.specs.Execution.{Execution, placed_from, event_at}
use Rattle.recording.specs.Order.{place}
use Rattle.program_events.specs.Operations.{placed_op}
use Rattle.program_events.specs.ProgramLaws.{event_made}
use Rattle.recording.specs.PlacedLaws.{placed_here, placed_after}
use Rattle.program_events.specs.ProgramOf.{Makes, AreOpsOf, IsProgramOf, event_of}
use Rattle.reduction.specs.RestrictedProgram.{readdressed, readdressed_op, restricted_program}
use Rattle.reduction.specs.Restriction.{addresses_of, renumbered, placed_event, used_cores, restriction}
use Rattle.reduction.proofs.Restricted.{source_renumbered, value_read_renumbered}

-- an operation with another address makes its event with that address and another source
readdressed_event : (f g : ℕ → ℕ) (op : Op) (r : ℕ) (s : Option ℕ)
    → event_of (readdressed f op) (r, option_map g s) ≡ renumbered f g (event_of op (r, s))
readdressed_event f g (St a v) r s = refl
readdressed_event f g (Ld a) r s = refl
readdressed_event f g Fence r s = refl
readdressed_event f g (Swap a v) r s = refl
readdressed_event f g (Add a v) r s = refl
readdressed_event f g (Cas a e v) r s = either (r == e)
  where
    either : (t : Bool) → cond t (R (f a) r (option_map g s) v) (C (f a) r (option_map g s))
        ≡ renumbered f g (cond t (R a r s v) (C a r s))
    either true = refl
    either false = refl

-- so it is with the event that it made
readdressed_makes : (f g : ℕ → ℕ) (op : Op) (ev : Event) → Makes op ev
    → Makes (readdressed f op) (renumbered f g ev)
readdressed_makes f g op ev h =
    ap (λ (r : ℕ). event_of (readdressed f op) (r, source (renumbered f g ev))) (value_read_renumbered f g ev)
    ∙ (ap (λ (s : Option ℕ). event_of (readdressed f op) (value_read ev, s)) (source_renumbered f g ev)
    ∙ (readdressed_event f g op (value_read ev) (source ev) ∙ ap (renumbered f g) h))

-- the operations of a list of events make these
listed_ops : (p : Parts) (x : Execution) → IsProgramOf p x → (us ks es : List ℕ)
    → AreOpsOf (map (readdressed_op p us) es) (map (placed_event x us ks) es)
listed_ops p x is us ks es = record {
  one_each = length-map es (readdressed_op p us) ∙ sym (length-map es (placed_event x us ks));
  each = λ i h.
      let inside : i < length es = omega (arith, h, length-map es (readdressed_op p us)) in
      let k : ℕ = get_or es i 0 in
      subst (λ (op : Op). Makes op (get_or (map (placed_event x us ks) es) i F))
      (sym (get_or-map (readdressed_op p us) es i 0 Fence inside))
      (subst (λ (ev : Event). Makes (readdressed_op p us k) ev)
      (sym (get_or-map (placed_event x us ks) es i 0 F inside))
      (readdressed_makes (place us) (place ks) (placed_op p.cores k).1 (event_at x k) (event_made p x is k)));
}

-- so the recording that is left is one of the program that is left
pub restricted_is_of : (p : Parts) (x : Execution) (ks : List ℕ) → IsProgramOf p x
    → IsProgramOf (restricted_program p x ks) (restriction x ks)
unfolding restricted_program restriction
restricted_is_of p x ks is =
    let us : List ℕ = addresses_of x ks in
    let lists : List (List ℕ) = used_cores x ks in
    let ops : List ℕ → List Op = λ es. map (readdressed_op p us) es in
    let events : List ℕ → List Event = λ es. map (placed_event x us ks) es in
    record {
      cores = length-map lists ops ∙ sym (length-map lists events);
      ops = λ c h.
          let inside : c < length lists = omega (arith, h, length-map lists ops) in
          subst (λ (l : List Op). AreOpsOf l (get_or (map events lists) c []))
          (sym (get_or-map ops lists c [] [] inside))
          (subst (λ (l : List Event). AreOpsOf (ops (get_or lists c [])) l)
          (sym (get_or-map events lists c [] [] inside)) (listed_ops p x is us ks (get_or lists c [])));
      values = refl;
    }

-- an operation of a program has values of 32 bits
pub op_small : (k : ℕ) (cores : List (List Op)) (i : ℕ) → AllByRecursion (AllByRecursion Small) cores
    → Small (get_or (placed_from k cores) i (0, Fence)).1
op_small k [] i all = tt
op_small k (ops ∷ rest) i all = elim (cases_lt i (length ops)) [
  | inl here ↦ subst (λ (z : ℕ × Op). Small z.1) (sym (placed_here k ops rest i (0, Fence) here))
      (All-from_recursion Small ops all.0 i Fence here)
  | inr after ↦ subst (λ (z : ℕ × Op). Small z.1) (sym (placed_after k ops rest i (0, Fence) after))
      (op_small (k + 1) rest (i - length ops) all.1)
]

-- and with another address, too
pub readdressed_small : (f : ℕ → ℕ) (op : Op) → Small op → Small (readdressed f op)
readdressed_small f (St a v) h = h
readdressed_small f (Ld a) h = h
readdressed_small f Fence h = h
readdressed_small f (Swap a v) h = h
readdressed_small f (Add a v) h = h
readdressed_small f (Cas a e v) h = h

-- a value of a list has 32 bits, and so has 0
pub value_small : (values : List ℕ) (a : ℕ) → AllByRecursion IsSmall values → IsSmall (get_or values a 0)
value_small [] a all = omega arith
value_small (v ∷ values) zero all = all.0
value_small (v ∷ values) (suc a) all = value_small values a all.1

-- what holds of all that a function gives holds of each of its list
pub all_mapped : {A B : Type 0} (P : B → Type 0) (f : A → B) → ((x : A) → P (f x)) → (xs : List A)
    → AllByRecursion P (map f xs)
all_mapped P f each [] = tt
all_mapped P f each (x ∷ xs) = (each x, all_mapped P f each xs)
