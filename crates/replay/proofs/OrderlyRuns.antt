-- Runs that go on, of which every state is orderly, and the stores that a core executes.
use Rattle.std.proofs.Common.{◌≡◌, ◌<◌, ◌+◌, inl, inr, ℕ, Bool, true, cond, Result, Ok, List}
use Rattle.std.proofs.Common.{[], ◌∷◌, map, length, arith, refl, sym, ap, subst, ◌∙◌}
use Rattle.std.specs.List.{All, count_by}
use Rattle.std.proofs.lemmas.List.Sums.{sum_by-cons}
use Rattle.std.proofs.lemmas.Bool.{cases_eq}
use Rattle.program.specs.declared.op.Op.{Op}
use Rattle.program.specs.declared.op.Op.TheVariants.{St}
use Rattle.program.specs.Parts.{IsWithin}
use Rattle.recording.specs.declared.event.Event.{Event}
use Rattle.recording.specs.Event.{is_plain_store}
use Rattle.recording.specs.Order.{times}
use Rattle.recording.specs.OrderLaws.{times_nil, times_there, times_append}
use Rattle.write_buffer.specs.declared.entry.Entry.{Entry}
use Rattle.program.specs.declared.fault.Fault.TheVariants as fault
use Rattle.machine.specs.declared.step.Step.{Step}
use Rattle.machine.specs.declared.blocked.Blocked.{Blocked}
use Rattle.machine.specs.State.{State, buffer_of, opening}
use Rattle.machine.specs.Step.{step_result, after, run}
use Rattle.program_events.specs.Operations.{placed_op, is_st}
use Rattle.machine.specs.Orderly.{AreStores, seen_by, IsExecuted, IsOrderly, EveryStateIsOrderly}
use Rattle.program_events.specs.NamedProgram.{op_of}
use Rattle.program_events.proofs.MadeAgain.{store_same}

-- whatever steps go on from a state lead to one that is orderly
pub record StaysOrderly (p : List (List Op)) (n capacity : ℕ) (s : State) : Type 0 where
  pub on : (steps : List Step) → IsOrderly p n (run p capacity fault.None s steps)

-- so it is at first
pub begun_going : (p : List (List Op)) (init : List ℕ) (capacity : ℕ)
    → ((steps : List Step) → EveryStateIsOrderly p init capacity steps)
    → All (λ ops. All (IsWithin (length init)) ops) p → StaysOrderly p (length init) capacity (opening p init)
begun_going p init capacity law fits = record { on = λ steps. law steps fits }

-- and after a step that is taken
pub goes_further : (p : List (List Op)) (n capacity : ℕ) (s t : State) (step : Step) → StaysOrderly p n capacity s
    → step_result p capacity fault.None s step ≡ Ok t → StaysOrderly p n capacity t
goes_further p n capacity s t step f took =
    record {
      on =
          λ steps. subst
          (λ (r : Result State Blocked). IsOrderly p n (run p capacity fault.None (after s r) steps))
          took (f.on (step ∷ steps));
    }

-- a core has as many plain stores as its operations
pub stores_same : (es : List Event) → count_by is_st (map op_of es) ≡ count_by is_plain_store es
stores_same [] = refl
stores_same (ev ∷ es) = omega (
  arith,
  ap {B = ℕ} (λ (b : Bool). cond b 1 0) (store_same ev),
  stores_same es,
  sum_by-cons {X = Event} (λ e. cond (is_plain_store e) 1 0) ev es,
  sum_by-cons {X = Op} (λ o. cond (is_st o) 1 0) (op_of ev) (map op_of es),
)

-- the events that wait in a buffer
abbrev pub waiting : State → ℕ → List ℕ
waiting s c = map (λ (y : Entry). y.event) (buffer_of s c)

-- what waits is a plain store of its core
pub stores_wait : (p : List (List Op)) (c e : ℕ) (b : List Entry) → AreStores p c b
    → 0 < times (map (λ (y : Entry). y.event) b) e
    → ((placed_op p e).0 ≡ c) × (is_st (placed_op p e).1 ≡ true)
stores_wait p c e [] h there = absurd (omega (arith, there, times_nil e))
stores_wait p c e (y ∷ ys) h there = elim (cases_eq y.event e) [
  | inl one ↦
      let at : placed_op p e ≡ (c, St y.addr y.value) = ap (placed_op p) (sym one) ∙ h.0 in
      (ap (λ (z : ℕ × Op). z.0) at, ap (λ (z : ℕ × Op). is_st z.1) at)
  | inr other ↦ stores_wait p c e ys h.1
      (omega (arith, there, times_there (map (λ (z : Entry). z.event) ys) y.event e other))
]

-- it was not performed, and waits once
pub waits_once : (p : List (List Op)) (n : ℕ) (s : State) → IsOrderly p n s → (c e : ℕ)
    → 0 < times (waiting s c) e → times s.performed e + times (waiting s c) e ≡ 1
waits_once p n s o c e there =
    let core : (placed_op p e).0 ≡ c = (stores_wait p c e (buffer_of s c) (o.stores c) there).0 in
    let was : IsExecuted p s e =
    o.executed c e (omega (arith, there, times_append s.performed (waiting s c) e)) in
    let one : times (seen_by s c) e ≡ 1 = subst (λ (d : ℕ). times (seen_by s d) e ≡ 1) core (o.once e was) in
    omega (arith, one, times_append s.performed (waiting s c) e)
