-- The program of an execution has the cores of its events, and what they do but for what they read.
use Rattle.std.proofs.Common.{◌≡◌, ◌+◌, ◌%◌, ◌^◌, ◌==◌, ℕ, true, false, Option, Some, None, List, [], ◌∷◌, ◌++◌}
use Rattle.std.proofs.Common.{map, length, get_or, arith, refl, sym, ap, ◌∙◌}
use Rattle.std.proofs.lemmas.List.{map-append, length-map}
use Rattle.std.proofs.lemmas.Bool.{ne_eqb}
use Rattle.std.proofs.Math.ListN as lists
use Rattle.program.specs.declared.op.Op.{Op}
use Rattle.program.specs.declared.op.Op.TheVariants.{Fence}
use Rattle.recording.specs.declared.event.Event.{Event}
use Rattle.recording.specs.declared.event.Event.TheVariants.{S, C, F}
use Rattle.recording.specs.Event.{read_address, source, value_read, is_plain_store}
use Rattle.recording.specs.Execution.{Execution, placed_from, event_count, event_at, core_of}
use Rattle.program_events.specs.ProgramOf.{event_of}
use Rattle.program_events.specs.NamedProgram.{op_of, program_of}
use Rattle.program_events.specs.Operations.{placed_op, is_st}
use Rattle.program_events.specs.ProgramLaws.{same_kind, value_same}

-- no number is the next one modulo 2^32
never_next : (r : ℕ) → (r == (r + 1) % 2 ^ 32) ≡ false
never_next r = ne_eqb r ((r + 1) % 2 ^ 32) (λ same. absurd (omega (arith, same)))

-- an operation makes its event again from what that read
pub made_again : (ev : Event) → event_of (op_of ev) (value_read ev, source ev) ≡ ev
made_again (C a r s) = rw (never_next r) refl
made_again ev = refl

-- from anything, where it reads nothing
pub made_unread : (ev : Event) (d : ℕ × Option ℕ) → read_address ev ≡ None → event_of (op_of ev) d ≡ ev
made_unread F d h = refl
made_unread ev d h = cc

-- what it makes reads the same address
pub made_reads : (ev : Event) (d : ℕ × Option ℕ) → read_address (event_of (op_of ev) d) ≡ read_address ev
made_reads ev d = (same_kind (op_of ev) d).0 ∙ (sym (same_kind (op_of ev) (value_read ev, source ev)).0
    ∙ ap read_address (made_again ev))

-- and has the value and the source that it was given
pub made_given : (ev : Event) (d : ℕ × Option ℕ) (a : ℕ) → read_address ev ≡ Some a
    → (source (event_of (op_of ev) d) ≡ d.1) × (value_read (event_of (op_of ev) d) ≡ d.0)
made_given ev d a h = value_same (op_of ev) d a (sym (same_kind (op_of ev) d).0 ∙ (made_reads ev d ∙ h))

-- a plain store reads nothing
pub store_unread : (ev : Event) → is_plain_store ev ≡ true → read_address ev ≡ None
store_unread (S a w) h = refl
store_unread ev h = absurd cc

-- it is a plain store where its event is
pub store_same : (ev : Event) → is_st (op_of ev) ≡ is_plain_store ev
store_same F = refl
store_same ev = refl

-- a function of what stands beside the core
tag_map : {A B : Type 0} (f : A → B) (k : ℕ) (es : List A)
    → map {B = ℕ × B} (λ y. (k, y)) (map f es)
    ≡ map (λ (z : ℕ × A). let t : ℕ × B = (z.0, f z.1) in t) (map (λ y. (k, y)) es)
tag_map f k [] = refl
tag_map {A} {B} f k (e ∷ es) = ap (λ (l : List (ℕ × B)). (k, f e) ∷ l) (tag_map f k es)

-- a function of each item, on all cores
pub placed_map : {A B : Type 0} (f : A → B) (k : ℕ) (cores : List (List A))
    → placed_from k (map (λ es. map f es) cores)
    ≡ map (λ (z : ℕ × A). let t : ℕ × B = (z.0, f z.1) in t) (placed_from k cores)
placed_map f k [] = refl
placed_map {A} {B} f k (es ∷ rest) =
    ap (λ (l : List (ℕ × B)). l ++ placed_from (k + 1) (map (λ fs. map f fs) rest)) (tag_map f k es)
    ∙ (ap (λ (l : List (ℕ × B)). map (λ (z : ℕ × A). let t : ℕ × B = (z.0, f z.1) in t)
    (map (λ y. (k, y)) es) ++ l) (placed_map f (k + 1) rest)
    ∙ sym (map-append (λ (z : ℕ × A). let t : ℕ × B = (z.0, f z.1) in t) (map (λ y. (k, y)) es)
    (placed_from (k + 1) rest)))

-- operation e is that of event e, on its core
pub placed_is : (x : Execution) (e : ℕ) → placed_op (program_of x) e ≡ (core_of x e, op_of (event_at x e))
unfolding core_of event_at
placed_is x e =
    ap (λ (l : List (ℕ × Op)). get_or l e (0, Fence)) (placed_map op_of 0 x.cores)
    ∙ lists.get_or-map (λ (z : ℕ × Event). let t : ℕ × Op = (z.0, op_of z.1) in t) (placed_from 0 x.cores) e
    (0, F)

-- there are as many operations as events
pub count_same : (x : Execution) → length (placed_from 0 (program_of x)) ≡ event_count x
unfolding event_count
count_same x =
    ap (λ (l : List (ℕ × Op)). length l) (placed_map op_of 0 x.cores)
    ∙ length-map (placed_from 0 x.cores) (λ (z : ℕ × Event). let t : ℕ × Op = (z.0, op_of z.1) in t)
