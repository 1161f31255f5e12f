-- What a load gets is the newest write that its core sees.
use Rattle.std.proofs.Common.{◌≡◌, ◌≢◌, ◌<◌, ◌≤◌, ◌⊎◌, inl, inr, ℕ, false, cond, Option, Some, None}
use Rattle.std.proofs.Common.{List, [], ◌∷◌, ◌++◌, map, get_or, arith, refl, sym, ap, ◌∙◌}
use Rattle.std.specs.Prelude.{◌==◌}
use Rattle.std.proofs.lemmas.Bool.{cases_eq, eq-eqb}
use Rattle.std.proofs.lemmas.Bool.Decides.{nat_tests}
use Rattle.std.proofs.lemmas.Option.{same_Some}
use Rattle.recording.specs.Order.{times, Before}
use Rattle.recording.specs.OrderLaws.{times_here, times_there, times_nil}
use Rattle.recording.specs.OrderLaws.{times_append, cases_times, before_in_right, left_before_right}
use Rattle.program.specs.declared.op.Op.{Op}
use Rattle.write_buffer.specs.declared.entry.Entry.{Entry}
use Rattle.write_buffer.specs.Buffer.{youngest, or_else}
use Rattle.machine.specs.State.{State}
use Rattle.program_events.specs.ProgramOf.{event_of}
use Rattle.machine.proofs.Seen.{IsNewest}
use Rattle.recording.specs.Event.{written_address}
use Rattle.machine.proofs.Static.{static_of, done_by}
use Rattle.machine.proofs.Newest.{before_more}
use Rattle.machine.proofs.DrainEvents.{AreStores}

-- what the buffer says of an address: nothing, or its last store
abbrev pub IsYoungestOf : List (List Op) → State → List Entry → ℕ → Option Entry → Type 0
IsYoungestOf p s b a None = (w : ℕ) → 0 < times (map (λ (x : Entry). x.event) b) w
    → ¬ (written_address (done_by p s w) ≡ Some a)
IsYoungestOf p s b a (Some y) =
    (0 < times (map (λ (x : Entry). x.event) b) y.event) × (written_address (done_by p s y.event) ≡ Some a)
    × ((w : ℕ) → 0 < times (map (λ (x : Entry). x.event) b) w → written_address (done_by p s w) ≡ Some a
    → (w ≡ y.event) ⊎ Before (map (λ (x : Entry). x.event) b) w y.event)

-- a test of two different numbers
pub not_equal : (a b : ℕ) → (a ≡ b → ⊥) → (a == b) ≡ false
not_equal a b h = grind (arith, nat_tests)

-- the youngest entry of an address is its last store
pub youngest_says : (p : List (List Op)) (s : State) (c : ℕ) (b : List Entry) (a : ℕ) → AreStores p c b
    → ((e : ℕ) → times (map (λ (x : Entry). x.event) b) e ≤ 1) → IsYoungestOf p s b a (youngest b a)
youngest_says p s c [] a stores once = λ w there. absurd (omega (arith, there, times_nil w))
youngest_says p s c (x ∷ xs) a stores once =
    go (youngest xs a) (youngest_says p s c xs a stores.1
    (λ e. omega (arith, once e, times_append (x.event ∷ []) (map (λ (y : Entry). y.event) xs) e)))
  where
    writes : written_address (done_by p s x.event) ≡ Some x.addr
    writes = ap (λ (z : ℕ × Op). written_address (event_of z.1 (get_or s.reads x.event (0, None)))) stores.0

    go : (found : Option Entry) → IsYoungestOf p s xs a found
        → IsYoungestOf p s (x ∷ xs) a (or_else found (cond (x.addr == a) (Some x) None))
    go (Some y) says =
        let rest : List ℕ = map (λ (z : Entry). z.event) xs in
        let apart : x.event ≢ y.event =
        λ one. omega (arith, once y.event, times_here rest x.event y.event one, says.0) in (
          omega (arith, says.0, times_there rest x.event y.event apart),
          says.1,
          λ w there wa. before_more x.event rest y.event w apart says.0 (λ inside. says.2 w inside wa) there,
        )
    go None says = elim (cases_eq x.addr a) [
      | inl is ↦ rw (eq-eqb x.addr a is) (
        omega (arith, times_here (map (λ (z : Entry). z.event) xs) x.event x.event refl),
        writes ∙ ap Some is,
        λ w there wa. elim (cases_eq x.event w) [
          | inl here ↦ inl (sym here)
          | inr after ↦ absurd (says w (omega
              (arith, there, times_there (map (λ (z : Entry). z.event) xs) x.event w after)) wa)
        ],
      )
      | inr isnt ↦ rw (not_equal x.addr a isnt) (λ w there wa. elim (cases_eq x.event w) [
        | inl here ↦ isnt (same_Some x.addr a (sym writes
            ∙ (ap (λ (e : ℕ). written_address (done_by p s e)) here ∙ wa)))
        | inr after ↦ says w (omega (
          arith,
          there,
          times_there (map (λ (z : Entry). z.event) xs) x.event w after,
        )) wa
      ])
    ]

-- a store of the own buffer is newer than all that was performed
pub newest_in_buffer : (p : List (List Op)) (s : State) (m : List ℕ) (b : List Entry) (a : ℕ) (y : Entry)
    → ((e : ℕ) → 0 < times (map (λ (x : Entry). x.event) b) e → times m e ≡ 0)
    → IsYoungestOf p s b a (Some y) → IsNewest (static_of p s) (m ++ map (λ (x : Entry). x.event) b) a
    (Some y.event)
newest_in_buffer p s m b a y apart says = (
  omega (arith, says.0, times_append m (map (λ (x : Entry). x.event) b) y.event),
  says.1,
  λ w there wa. elim (cases_times m w) [
    | inl none ↦ elim (says.2 w (omega (
      arith,
      there,
      none,
      times_append m (map (λ (x : Entry). x.event) b) w,
    )) wa) [
      | inl one ↦ inl one
      | inr before ↦ inr (before_in_right m (map (λ (x : Entry). x.event) b) w y.event none
          (apart y.event says.0) before)
    ]
    | inr there_left ↦ inr (left_before_right m (map (λ (x : Entry). x.event) b) w y.event there_left
        (apart y.event says.0) says.0)
  ],
)
