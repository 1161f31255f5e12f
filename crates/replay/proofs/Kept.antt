-- What every run leaves as it was: the initial values, and how many write lists there are.
use Rattle.std.proofs.Common.{◌≡◌, ◌<◌, ◌+◌, ◌==◌, ◌⊎◌, inl, inr, ℕ, Bool, true, false, cond, Option, Some}
use Rattle.std.proofs.Common.{None, Result, Ok, Err, List, [], ◌∷◌, length, get_or, slice_get, slice_index_or}
use Rattle.std.proofs.Common.{arith, refl, sym, ap, subst, ◌∙◌, length-set}
use Rattle.std.specs.List.{All}
use Rattle.std.proofs.lemmas.List.{get_or_default, length-replicate}
use Rattle.program.specs.declared.op.Op.{Op}
use Rattle.program.specs.declared.op.Op.TheVariants.{St, Ld, Fence, Swap, Add, Cas}
use Rattle.program.specs.Parts.{Parts, IsWithin}
use Rattle.recording.specs.declared.event.Event.{Event}
use Rattle.recording.specs.Event.{read_address, written_address}
use Rattle.recording.specs.Execution.{Execution, event_at}
use Rattle.recording.specs.Recording.{IsShortRecording}
use Rattle.recording.specs.PlacedLaws.{placed_at}
use Rattle.moesi.specs.declared.error.CacheError.{CacheError}
use Rattle.write_buffer.specs.declared.entry.Entry.{Entry}
use Rattle.program.specs.declared.fault.Fault.{Fault}
use Rattle.program.specs.declared.fault.Fault.TheVariants as fault
use Rattle.machine.specs.declared.step.Step.{Step}
use Rattle.machine.specs.declared.step.Step.TheVariants.{Exec, Drain, GetS, GetM, Put}
use Rattle.machine.specs.declared.blocked.Blocked.{Blocked}
use Rattle.machine.specs.declared.blocked.Blocked.TheVariants.{B1, B2, B3, B4, B5, B6, B7, B8}
use Rattle.machine.specs.Faults.{draining}
use Rattle.machine.specs.State.{State, first_event, place_of, buffer_of, line_copy, recorded}
use Rattle.program_events.specs.ProgramOf.{event_of}
use Rattle.machine.specs.Step.{exec, exec_next, drained_at, step_result, after, run, or_blocked}
use Rattle.machine.specs.Taken.{begun}
use Rattle.program_events.specs.Operations.{placed_op}
use Rattle.machine.specs.RecordedLaws.{event_is}
use Rattle.program_events.specs.ProgramLaws.{has_address}
use Rattle.replay.specs.OrderReplay.{led_to}

-- the initial values are the same, and the same number of write lists
abbrev pub IsKept : State → State → Type 0
IsKept s t = (t.initial ≡ s.initial) × (length t.write_lists ≡ length s.write_lists)

-- a step leaves them so, taken or blocked
record Keeps (s : State) (r : Result State Blocked) : Type 0 where
  kept : IsKept s (after s r)

-- one that is blocked does
keeps_blocked : (s : State) (b : Blocked) → Keeps s (Err b)
keeps_blocked s b = record { kept = (refl, refl) }

-- also after a guard
keeps_if : (b : Bool) (s : State) (r : Result State Blocked) (e : Blocked) → Keeps s r
    → Keeps s (cond b r (Err e))
keeps_if true s r e h = h
keeps_if false s r e h = keeps_blocked s e

-- a state with other parts
keeps_ok : (s t : State) → t.initial ≡ s.initial → length t.write_lists ≡ length s.write_lists
    → Keeps s (Ok t)
keeps_ok s t initial lists = record { kept = (initial, lists) }

-- and in one case or another
keeps_either : (b : Bool) (s : State) (r q : Result State Blocked) → Keeps s r → Keeps s q
    → Keeps s (cond b r q)
keeps_either true s r q h k = h
keeps_either false s r q h k = k

-- and where caches allow it
keeps_allowed : {A : Type 0} (e : Blocked) (s : State) (effect : A → State) (r : Result A CacheError)
    → ((x : A) → Keeps s (Ok (effect x))) → Keeps s (or_blocked e effect r)
keeps_allowed e s effect (Ok x) h = h x
keeps_allowed e s effect (Err c) h = keeps_blocked s e

-- so an operation does
keeps_exec : (capacity : ℕ) (f : Fault) (s : State) (c e : ℕ) (op : Op)
    → Keeps s (exec capacity f s c e op)
keeps_exec capacity f s c e (St a v) = keeps_if _ s _ B2 (keeps_ok s _ refl refl)
keeps_exec capacity f s c e (Ld a) = keeps_allowed B4 s _ _ (λ what. keeps_ok s _ refl refl)
keeps_exec capacity f s c e Fence = keeps_if _ s _ B3 (keeps_ok s _ refl refl)
keeps_exec capacity f s c e (Swap a v) =
    keeps_if _ s _ B3 (keeps_allowed B5 s _ _ (λ caches. keeps_ok s _ refl (length-set s.write_lists a _)))
keeps_exec capacity f s c e (Add a v) =
    keeps_if _ s _ B3 (keeps_allowed B5 s _ _ (λ caches. keeps_ok s _ refl (length-set s.write_lists a _)))
keeps_exec capacity f s c n (Cas a e v) =
    keeps_either ((line_copy s c a).0 == e) s _ _
    (keeps_if _ s _ B3 (keeps_allowed B5 s _ _ (λ caches. keeps_ok s _ refl (length-set s.write_lists a _))))
    (keeps_if _ s _ B3 (keeps_if _ s _ B5 (keeps_ok s _ refl refl)))

-- a core's next operation does
keeps_next : (p : List (List Op)) (capacity : ℕ) (f : Fault) (s : State) (c : ℕ) (o : Option Op)
    → Keeps s (exec_next p capacity f s c o)
keeps_next p capacity f s c None = keeps_blocked s B1
keeps_next p capacity f s c (Some op) = keeps_exec capacity f s c (first_event p c + place_of s c) op

-- a store that drains does
keeps_drained : (s : State) (c i : ℕ) (o : Option Entry) → Keeps s (drained_at s c i o)
keeps_drained s c i None = keeps_blocked s B6
keeps_drained s c i (Some x) =
    keeps_allowed B5 s _ _ (λ caches. keeps_ok s _ refl (length-set s.write_lists x.addr _))

-- each step does
keeps_taken : (p : List (List Op)) (capacity : ℕ) (f : Fault) (s : State) (step : Step)
    → Keeps s (step_result p capacity f s step)
keeps_taken p capacity f s (Exec c) =
    keeps_if _ s _ B8 (keeps_next p capacity f s c (slice_get (slice_index_or p c []) (place_of s c)))
keeps_taken p capacity f s (Drain c) =
    keeps_if _ s _ B8 (keeps_drained s c (draining f (buffer_of s c))
    (slice_get (buffer_of s c) (draining f (buffer_of s c))))
keeps_taken p capacity f s (GetS c a) = keeps_if _ s _ B8 (keeps_allowed B7 s _ _ (λ caches. keeps_ok s _ refl refl))
keeps_taken p capacity f s (GetM c a) = keeps_if _ s _ B8 (keeps_allowed B7 s _ _ (λ caches. keeps_ok s _ refl refl))
keeps_taken p capacity f s (Put c a) = keeps_if _ s _ B8 (keeps_allowed B7 s _ _ (λ caches. keeps_ok s _ refl refl))

-- so all of them do
pub run_keeps : (p : List (List Op)) (capacity : ℕ) (f : Fault) (s : State) (steps : List Step)
    → IsKept s (run p capacity f s steps)
run_keeps p capacity f s [] = (refl, refl)
run_keeps p capacity f s (step ∷ steps) =
    let one = (keeps_taken p capacity f s step).kept in
    let rest = run_keeps p capacity f (after s (step_result p capacity f s step)) steps in
    (rest.0 ∙ one.0, rest.1 ∙ one.1)

-- an operation has the address of its event
pub op_within : (n : ℕ) (op : Op) (d : ℕ × Option ℕ)
    → ((a : ℕ) → (read_address (event_of op d) ≡ Some a) ⊎ (written_address (event_of op d) ≡ Some a) → a < n)
    → IsWithin n op
op_within n (St a v) d h = h a (inr refl)
op_within n (Ld a) d h = h a (inl refl)
op_within n Fence d h = tt
op_within n (Swap a v) d h = h a (inl refl)
op_within n (Add a v) d h = h a (inl refl)
op_within n (Cas a e v) d h = h a ((has_address (Cas a e v) d a).1 refl)

-- operations that have such addresses by number have them on each core
pub all_within : (p : List (List Op)) (n : ℕ) → ((e : ℕ) → IsWithin n (placed_op p e).1)
    → All (λ ops. All (IsWithin n) ops) p
all_within p n each c other core i d inside =
    let ops : List Op = get_or p c [] in
    let same : get_or p c other ≡ ops = get_or_default p c other [] core in
    let here : i < length ops = omega (arith, inside, ap (λ (l : List Op). length l) same) in
    let op : get_or ops i Fence ≡ (placed_op p (first_event p c + i)).1 =
    ap (λ (z : ℕ × Op). z.1) (sym (placed_at 0 p c i Fence here).0) in
    subst (λ (l : List Op). IsWithin n (get_or l i d)) (sym same)
    (subst (λ (o : Op). IsWithin n o) (sym (get_or_default ops i d Fence here ∙ op)) (each (first_event p c + i)))

-- the operations of a program that makes a recording have addresses with initial values
pub made_fits : (p : Parts) (capacity : ℕ) (steps : List Step) (x : Execution)
    → recorded p.cores (led_to p capacity steps) ≡ x → IsShortRecording x
    → All (λ ops. All (IsWithin (length p.init)) ops) p.cores
made_fits p capacity steps x made r =
    let s : State = led_to p capacity steps in
    let n : ℕ = length p.init in
    let lists : length x.write_lists ≡ n =
    ap (λ (y : Execution). length y.write_lists) (sym made)
    ∙ ((run_keeps p.cores capacity fault.None (begun p) steps).1 ∙ length-replicate n []) in
    all_within p.cores n (λ e.
    let what : ℕ × Option ℕ = get_or s.reads e (0, None) in
    let event : event_at x e ≡ event_of (placed_op p.cores e).1 what =
    ap (λ (y : Execution). event_at y e) (sym made) ∙ event_is p.cores s e in
    op_within n (placed_op p.cores e).1 what (λ a uses. omega (
      arith,
      lists,
      r.within.addresses e a
          (subst (λ (ev : Event). (read_address ev ≡ Some a) ⊎ (written_address ev ≡ Some a)) (sym event) uses),
    )))
