-- Laws of programs and the recordings of them: each operation makes the event of its number.
use Rattle.std.proofs.Common.{◌≡◌, ◌<◌, ◌+◌, ◌-◌, ◌==◌, inl, inr, ℕ, suc, false, Option, Some, List, []}
use Rattle.std.proofs.Common.{◌∷◌, map, length, length-append, get_or, arith, refl, subst, ap}
use Rattle.std.proofs.lemmas.Bool.{cases_lt, cond_both}
use Rattle.program.specs.declared.op.Op.{Op}
use Rattle.program.specs.declared.op.Op.TheVariants.{St, Fence, Cas}
use Rattle.program.specs.Parts.{Parts, IsProgram}
use Rattle.recording.specs.declared.event.Event.{Event}
use Rattle.recording.specs.declared.event.Event.TheVariants.{R, C, F}
use Rattle.recording.specs.Event.{read_address, value_read, source, is_plain_store, is_plain_load}
use Rattle.recording.specs.Execution.{Execution, placed_from, event_count, event_at}
use Rattle.recording.specs.PlacedLaws.{tagged, placed_here, placed_after, placed_total}
use Rattle.recording.specs.Recording.{IsRecording, IsShortRecording}
use Rattle.program_events.specs.ProgramOf.{event_of, Makes, AreOpsOf, IsProgramOf}
use Rattle.program_events.specs.Operations.{placed_op, is_st, is_ld, op_reads}
use Rattle.program_events.specs.FirstUseLaws.{HasAddressOf, HaveAddressesOf}

-- operations that make the events of each core make each event
made : (k : ℕ) (p : List (List Op)) (cores : List (List Event)) → length p ≡ length cores
    → ((c : ℕ) → c < length p → AreOpsOf (get_or p c []) (get_or cores c [])) → (e : ℕ)
    → Makes (get_or (placed_from k p) e (0, Fence)).1 (get_or (placed_from k cores) e (0, F)).1
made k [] [] size of e = refl
made k [] (es ∷ cores) size of e = absurd (omega arith)
made k (ops ∷ p) [] size of e = absurd (omega arith)
made k (ops ∷ p) (es ∷ cores) size of e =
    let first : AreOpsOf ops es = of 0 (omega arith) in
    elim (cases_lt e (length ops)) [
      | inl here ↦ rw (
        placed_here k ops p e (0, Fence) here,
        placed_here k es cores e (0, F) (omega (arith, first.one_each)),
      ) (first.each e here)
      | inr after ↦ rw (
        placed_after k ops p e (0, Fence) after,
        placed_after k es cores e (0, F) (omega (arith, first.one_each)),
        ← first.one_each,
      )
          (made (k + 1) p cores (omega arith) (λ c inside. of (suc c) (omega arith)) (e - length ops))
    ]

-- there are as many operations as events
made_count : (k : ℕ) (p : List (List Op)) (cores : List (List Event)) → length p ≡ length cores
    → ((c : ℕ) → c < length p → AreOpsOf (get_or p c []) (get_or cores c []))
    → length (placed_from k p) ≡ length (placed_from k cores)
made_count k [] [] size of = refl
made_count k [] (es ∷ cores) size of = absurd (omega arith)
made_count k (ops ∷ p) [] size of = absurd (omega arith)
made_count k (ops ∷ p) (es ∷ cores) size of =
    let first : AreOpsOf ops es = of 0 (omega arith) in
    omega (
      arith,
      made_count (k + 1) p cores (omega arith) (λ c inside. of (suc c) (omega arith)),
      first.one_each,
      tagged k ops,
      tagged k es,
      length-append (map (λ op. (k, op)) ops) (placed_from (k + 1) p),
      length-append (map (λ e. (k, e)) es) (placed_from (k + 1) cores),
    )

-- so it is with the recordings of a program
pub events_made : (p : Parts) (x : Execution) → IsProgramOf p x → length (placed_from 0 p.cores) ≡ event_count x
unfolding event_count
events_made p x is = made_count 0 p.cores x.cores is.cores is.ops

-- each operation makes the event of its number
pub event_made : (p : Parts) (x : Execution) → IsProgramOf p x → (e : ℕ)
    → Makes (placed_op p.cores e).1 (event_at x e)
unfolding event_at
event_made p x is = made 0 p.cores x.cores is.cores is.ops

-- an event reads, stores and loads as its operation says
pub same_kind : (op : Op) (d : ℕ × Option ℕ) → (read_address (event_of op d) ≡ op_reads op)
    × (is_plain_store (event_of op d) ≡ is_st op) × (is_plain_load (event_of op d) ≡ is_ld op)
same_kind (Cas a e v) d =
    cond_both (d.0 == e) (R a d.0 d.1 v) (C a d.0 d.1)
    (λ ev. (read_address ev ≡ Some a) × (is_plain_store ev ≡ false) × (is_plain_load ev ≡ false))
    (λ _. (refl, refl, refl)) (λ _. (refl, refl, refl))
same_kind op d = (refl, refl, refl)

-- an event read what it was given
pub value_same : (op : Op) (d : ℕ × Option ℕ) (a : ℕ) → op_reads op ≡ Some a
    → (source (event_of op d) ≡ d.1) × (value_read (event_of op d) ≡ d.0)
value_same (Cas b e v) d a h =
    cond_both (d.0 == e) (R b d.0 d.1 v) (C b d.0 d.1) (λ ev. (source ev ≡ d.1) × (value_read ev ≡ d.0))
    (λ _. (refl, refl)) (λ _. (refl, refl))
value_same op d a h = (cc, cc)

-- the event that an operation makes uses its address, and no other
pub has_address : (op : Op) (d : ℕ × Option ℕ) → HasAddressOf op (event_of op d)
has_address (St b v) d = λ a. (λ uses. elim uses [ inl h ↦ cc | inr h ↦ h ], λ h. inr h)
has_address (Cas b e v) d =
    cond_both (d.0 == e) (R b d.0 d.1 v) (C b d.0 d.1) (HasAddressOf (Cas b e v))
    (λ _ a. (λ uses. elim uses [ inl h ↦ h | inr h ↦ h ], λ h. inl h))
    (λ _ a. (λ uses. elim uses [ inl h ↦ h | inr h ↦ absurd cc ], λ h. inl h))
has_address op d = λ a. (λ uses. elim uses [ inl h ↦ cc | inr h ↦ cc ], λ h. inl cc)

-- so the operations of a recording's program have the addresses of its events
pub made_addresses : (p : Parts) (x : Execution) → IsProgramOf p x → HaveAddressesOf p.cores x
made_addresses p x is e =
    let op : Op = (placed_op p.cores e).1 in
    subst (λ (z : Event). HasAddressOf op z) (event_made p x is e)
    (has_address op (value_read (event_at x e), source (event_at x e)))

-- a recording of a program is no larger than a program
pub short_of_program : (p : Parts) (x : Execution) → IsProgram p → IsProgramOf p x → IsRecording x → IsShortRecording x
short_of_program p x lawful of is = record {
  well_formed = is.well_formed;
  within = record {
    few_cores = omega (arith, of.cores, lawful.few_cores);
    few_events = omega (arith, events_made p x of, placed_total 0 p.cores, lawful.few_ops);
    few_addresses = omega (
      arith,
      ap (λ (values : List ℕ). length values) of.values,
      lawful.init_length,
      lawful.few_names,
      is.within.initial,
    );
    addresses = is.within.addresses;
    initial = is.within.initial;
  };
}
