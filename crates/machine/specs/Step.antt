-- One step of the machine: the first guard that is false, else one effect. The words of a fault
-- say what it changes.
use Rattle.std.specs.Prelude.{◌≡◌, ◌+◌, ◌<◌, ◌&&◌, ◌==◌, ℕ, Bool, nat_lt, if◌then◌else◌, Option, Some, None, Result, Ok}
use Rattle.std.specs.Prelude.{Err, List, [], ◌∷◌, ◌++◌, length, slice_index_or, slice_set, slice_get}
use Rattle.program.specs.declared.op.Op.{Op}
use Rattle.program.specs.declared.op.Op.TheVariants.{St, Ld, Fence, Swap, Add, Cas}
use Rattle.write_buffer.specs.declared.entry.Entry.{Entry}
use Rattle.machine.specs.declared.step.Step.{Step}
use Rattle.machine.specs.declared.step.Step.TheVariants.{Exec, Drain, GetS, GetM, Put}
use Rattle.machine.specs.declared.step.Transaction.TheVariants as transaction
use Rattle.machine.specs.declared.blocked.Blocked.{Blocked}
use Rattle.machine.specs.declared.blocked.Blocked.TheVariants.{B1, B2, B3, B4, B5, B6, B7, B8}
use Rattle.recording.specs.Event.{value_written}
use Rattle.moesi.specs.State as moesi
use Rattle.moesi.specs.Lines.{is_exclusive}
use Rattle.program.specs.declared.fault.Fault.{Fault}
use Rattle.machine.specs.Faults.{forwarded, draining, without, may_fence, may_rmw, transacted}
use Rattle.moesi.specs.declared.error.CacheError.{CacheError}
use Rattle.machine.specs.State.{State, place_of, buffer_of, line_copy, first_event}
use Rattle.program_events.specs.ProgramOf.{event_of}

-- Effects, each on its part of the state

-- core c goes on to its next operation
abbrev pub advanced : State → ℕ → State
advanced s c = record s { places = slice_set s.places c (place_of s c + 1) }

-- e is performed
abbrev pub performed : State → ℕ → State
performed s e = record s { performed = s.performed ++ e ∷ [] }

-- e reads a value with its source
abbrev pub with_read : State → ℕ → ℕ × Option ℕ → State
with_read s e what = record s { reads = slice_set s.reads e what }

-- e wrote address a, which left these caches
abbrev pub written : State → moesi.CacheState → ℕ → ℕ → State
written s caches a e = record s {
  caches = caches;
  write_lists = slice_set s.write_lists a (slice_index_or s.write_lists a [] ++ e ∷ []);
}

-- a transaction left these caches
abbrev pub with_caches : State → moesi.CacheState → State
with_caches s caches = record s { caches = caches }

-- core c has these waiting stores
abbrev pub with_buffer : State → ℕ → List Entry → State
with_buffer s c entries = record s { buffers = slice_set s.buffers c entries }

-- the value and the event of an entry, or else what the line gives
abbrev pub forwarded_or_read : Option Entry → Result (ℕ × Option ℕ) CacheError
    → Result (ℕ × Option ℕ) CacheError
forwarded_or_read None line = line
forwarded_or_read (Some entry) line = Ok (entry.value, Some entry.event)

-- what a load of address a by core c gets: from its own buffer, else from its line
abbrev pub looked_up : Fault → State → ℕ → ℕ → Result (ℕ × Option ℕ) CacheError
looked_up fault s c a = forwarded_or_read (forwarded fault (buffer_of s c) a) (moesi.read s.caches c a)

-- The guards and the effects

-- what the caches allow has its effect, and what they refuse is blocked
abbrev pub or_blocked : {A : Type 0} → Blocked → (A → State) → Result A CacheError → Result State Blocked
or_blocked b effect (Ok x) = Ok (effect x)
or_blocked b effect (Err e) = Err b

-- core c stores to address a: the entry waits in its buffer
abbrev pub stored : ℕ → State → ℕ → ℕ → ℕ → ℕ → Result State Blocked
stored capacity s c e a v =
    if nat_lt (length (buffer_of s c)) capacity
    then Ok (advanced (with_buffer s c (buffer_of s c ++ record { addr = a; value = v; event = e } ∷ [])) c)
    else Err B2

-- the value that op writes, from what the line has
abbrev pub rmw_value : State → ℕ → Op → ℕ → ℕ
rmw_value s c op a = value_written (event_of op (line_copy s c a))

-- core c reads address a and writes it at once, as op says, with an empty buffer and in a line
-- that is M or E
abbrev pub read_modify_written : Fault → State → ℕ → ℕ → Op → ℕ → Result State Blocked
read_modify_written fault s c e op a =
    if may_rmw fault (buffer_of s c)
    then or_blocked B5 (λ caches. advanced (performed (written (with_read s e (line_copy s c a)) caches a e) e) c)
    (moesi.write s.caches c a (rmw_value s c op a) e)
    else Err B3

-- core c reads address a and writes nothing, with an empty buffer and from a line that is M or E
abbrev pub read_unmodified : Fault → State → ℕ → ℕ → ℕ → Result State Blocked
read_unmodified fault s c n a =
    if may_rmw fault (buffer_of s c)
    then (if is_exclusive (moesi.line_of s.caches c a)
    then Ok (advanced (performed (with_read s n (line_copy s c a)) n) c) else Err B5)
    else Err B3

-- core c executes the operation op as event e: a load looks for a valid line where no store of its own waits, a
-- fence waits for an empty buffer, and a compare-and-swap writes where the line has the expected value
abbrev pub exec : ℕ → Fault → State → ℕ → ℕ → Op → Result State Blocked
exec capacity fault s c e (St a v) = stored capacity s c e a v
exec capacity fault s c e (Ld a) =
    or_blocked B4 (λ what. advanced (performed (with_read s e what) e) c) (looked_up fault s c a)
exec capacity fault s c e Fence = if may_fence fault (buffer_of s c) then Ok (advanced (performed s e) c) else Err B3
exec capacity fault s c e (Swap a v) = read_modify_written fault s c e (Swap a v) a
exec capacity fault s c e (Add a v) = read_modify_written fault s c e (Add a v) a
exec capacity fault s c n (Cas a e v) =
    if (line_copy s c a).0 == e then read_modify_written fault s c n (Swap a v) a else read_unmodified fault s c n a

-- the next operation of core c, where one is left
abbrev pub exec_next : List (List Op) → ℕ → Fault → State → ℕ → Option Op → Result State Blocked
exec_next p capacity fault s c None = Err B1
exec_next p capacity fault s c (Some op) = exec capacity fault s c (first_event p c + place_of s c) op

-- the store x at place i of core c's buffer goes to its line, which is M or E
abbrev pub drained_at : State → ℕ → ℕ → Option Entry → Result State Blocked
drained_at s c i None = Err B6
drained_at s c i (Some x) =
    or_blocked B5 (λ caches. performed
    (written (with_buffer s c (without i (buffer_of s c))) caches x.addr x.event) x.event)
    (moesi.write s.caches c x.addr x.value x.event)

-- a waiting store of core c goes to its line
abbrev pub drained : Fault → State → ℕ → Result State Blocked
drained fault s c =
    drained_at s c (draining fault (buffer_of s c))
    (slice_get (buffer_of s c) (draining fault (buffer_of s c)))

-- core c and address a are there
abbrev pub has : List (List Op) → State → ℕ → ℕ → Bool
has p s c a = nat_lt c (length p) && nat_lt a (length s.caches.blocks)

-- one step of the machine, or why it is blocked
abbrev pub step_result : List (List Op) → ℕ → Fault → State → Step → Result State Blocked
step_result p capacity fault s (Exec c) =
    if nat_lt c (length p) then exec_next p capacity fault s c
    (slice_get (slice_index_or p c []) (place_of s c)) else Err B8
step_result p capacity fault s (Drain c) = if nat_lt c (length p) then drained fault s c else Err B8
step_result p capacity fault s (GetS c a) =
    if has p s c a then or_blocked B7 (with_caches s) (moesi.get_s s.caches c a) else Err B8
step_result p capacity fault s (GetM c a) =
    if has p s c a then or_blocked B7 (with_caches s) (transacted fault transaction.GetM s.caches c a) else Err B8
step_result p capacity fault s (Put c a) =
    if has p s c a then or_blocked B7 (with_caches s) (moesi.put s.caches c a) else Err B8

-- a blocked step leaves the state
abbrev pub after : State → Result State Blocked → State
after s (Ok t) = t
after s (Err b) = s

-- the state after a list of steps
abbrev pub run : List (List Op) → ℕ → Fault → State → List Step → State
run p capacity fault s [] = s
run p capacity fault s (step ∷ steps) = run p capacity fault (after s (step_result p capacity fault s step)) steps

-- core c is there, its next operation is op, and the event of that has number e
pub record IsAt (p : List (List Op)) (s : State) (c : ℕ) (op : Op) (e : ℕ) : Type 0 where
  pub core : c < length p
  pub operation : slice_get (slice_index_or p c []) (place_of s c) ≡ Some op
  pub number : e ≡ first_event p c + place_of s c
