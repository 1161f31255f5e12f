-- A machine with store buffers over one memory, without caches and without events. A note of a situation is what an
-- event read.
use Rattle.std.specs.Prelude.{◌≡◌, ◌+◌, ◌%◌, ◌^◌, ◌==◌, ℕ, suc, Bool, true, false, if◌then◌else◌, Option, Some, None}
use Rattle.std.specs.Prelude.{List, [], ◌∷◌, map, length, drop, replicate, slice_index, slice_index_or, is_some}
use Rattle.std.specs.Prelude.{slice_get}
use Rattle.program.specs.declared.op.Op.{Op}
use Rattle.program.specs.declared.op.Op.TheVariants.{St, Ld, Swap, Add, Cas}
use Rattle.program.specs.Parts.{Parts, op_count}
use Rattle.machine.specs.State.{first_event}
use Rattle.program_events.specs.Operations.{is_st, op_reads}
use Rattle.outcomes.specs.declared.moves.Move.{Move}
use Rattle.outcomes.specs.declared.moves.Move.TheVariants.{Exec, Drain}
use Rattle.situations.specs.Situation.{Situation, drained_of, place_of, waiting, with_drained, with_note, with_place}
use Rattle.situations.specs.Situation.{with_value}
use Rattle.situations.specs.Step.{stored_by_op}
use Rattle.situations.specs.Waiting.{forwarded, none_waits, oldest}
use Rattle.situations.specs.declared.waiting.Waiting.{Waiting}

-- an operation reads
abbrev pub does_read : Op → Bool
does_read op = is_some (op_reads op)

-- how many plain stores come first
abbrev pub stores_first : List Op → ℕ
stores_first [] = 0
stores_first (op ∷ ops) = if is_st op then suc (stores_first ops) else 0

-- the first place from k on where no plain store stands
abbrev pub past_stores : List Op → ℕ → ℕ
past_stores ops k = k + stores_first (drop k ops)

-- the operations of core c
abbrev pub ops_of : List (List Op) → ℕ → List Op
ops_of p c = slice_index_or p c []

-- Effects

-- core c goes on past the operation at place k, and executes the stores after it
abbrev pub gone_on : List (List Op) → Situation → ℕ → ℕ → Situation
gone_on p r c k = with_place r c (past_stores (ops_of p c) (k + 1))

-- Moves

-- the value that a read-modify-write leaves where it reads v
abbrev pub left_by : Op → ℕ → ℕ
left_by (Swap a w) v = w
left_by (Add a w) v = (v + w) % 2 ^ 32
left_by (Cas a x w) v = if v == x then w else v
left_by op v = v

-- event e reads address a and writes it at once, as op says
abbrev pub modified : Situation → ℕ → ℕ → Op → Situation
modified r e a op = with_value (with_note r e (slice_index r.memory a)) a (left_by op (slice_index r.memory a))

-- what op does to values as event e, where these stores wait before it
abbrev pub performed : Situation → List Op → ℕ → Op → Situation
performed r ops e (Ld a) = with_note r e (forwarded stored_by_op a (slice_index r.memory a) ops)
performed r ops e (Swap a w) = modified r e a (Swap a w)
performed r ops e (Add a w) = modified r e a (Add a w)
performed r ops e (Cas a x w) = modified r e a (Cas a x w)
performed r ops e op = r

-- whether op may be executed where these stores wait before it; a plain store never stands there
abbrev pub may_go : List Op → Op → Bool
may_go ops (St a v) = false
may_go ops (Ld a) = true
may_go ops op = none_waits stored_by_op ops

-- what op of core c, at place k and with the number e, leads to
abbrev pub executed : List (List Op) → Situation → ℕ → ℕ → ℕ → Op → Option Situation
executed p r c k e op =
    if may_go (waiting p r c) op then Some (gone_on p (performed r (waiting p r c) e op) c k) else None

-- what the next operation of core c does, where one is left
abbrev pub executed_next : List (List Op) → Situation → ℕ → Option Op → Option Situation
executed_next p r c None = None
executed_next p r c (Some op) = executed p r c (place_of r c) (first_event p c + place_of r c) op

-- a store of core c comes to memory
abbrev pub drained_by : Situation → ℕ → Option Waiting → Option Situation
drained_by r c None = None
drained_by r c (Some x) = Some (with_value (with_drained r c (x.place + 1)) x.address x.value)

-- what a move of core c leads to; none where it cannot be made
abbrev pub moved : List (List Op) → Situation → Move → ℕ → Option Situation
moved p r Exec c = executed_next p r c (slice_get (ops_of p c) (place_of r c))
moved p r Drain c = drained_by r c (oldest stored_by_op (drained_of r c) (waiting p r c))

-- where a program begins
abbrev pub beginning : Parts → Situation
beginning p = record {
  places = map stores_first p.cores;
  drained = replicate (length p.cores) 0;
  memory = p.init;
  notes = replicate (op_count p.cores) 0;
}

-- core c has come to its end
abbrev pub IsOver : List (List Op) → Situation → ℕ → Type 0
IsOver p r c = (slice_get (ops_of p c) (place_of r c) ≡ None)
    × (oldest stored_by_op (drained_of r c) (waiting p r c) ≡ None)

-- every core of the program has
abbrev pub IsEnd : List (List Op) → Situation → Type 0
IsEnd p r = (c : ℕ) → IsOver p r c
