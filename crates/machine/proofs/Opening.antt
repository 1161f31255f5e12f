-- The opening state keeps all that a step keeps, and where the events of a core stand.
use Rattle.std.proofs.Common.{◌≡◌, ◌<◌, inl, inr, ℕ, Option, Some, None, List, []}
use Rattle.std.proofs.Common.{map, length, get_or, replicate, arith, refl, sym, ap, subst, ◌∙◌}
use Rattle.std.specs.List.{All, sum_by}
use Rattle.std.proofs.lemmas.List.{length-replicate, get_or-replicate, get_or_past, length-map}
use Rattle.std.proofs.lemmas.Bool.{cases_lt}
use Rattle.recording.specs.Execution.{placed_from}
use Rattle.recording.specs.Order.{times}
use Rattle.recording.specs.OrderLaws.{times_nil}
use Rattle.program.specs.declared.op.Op.{Op}
use Rattle.program.specs.declared.op.Op.TheVariants.{St, Ld, Fence, Swap, Add, Cas}
use Rattle.write_buffer.specs.declared.entry.Entry.{Entry}
use Rattle.machine.specs.State.{opening}
use Rattle.program.specs.Parts.{IsWithin, addr_of}
use Rattle.moesi.specs.Block.{block_with}
use Rattle.moesi.proofs.CacheLemmas.{opening_with_is_coherent}
use Rattle.recording.specs.PlacedLaws.{located, placed_total}
use Rattle.machine.proofs.PlaceLemmas.{event_after, event_op}
use Rattle.program_events.specs.ProgramLaws.{same_kind, has_address}
use Rattle.std.proofs.lemmas.Option.{same_Some}
use Rattle.machine.proofs.Static.{static_of, snapshot_of, placed_op}
use Rattle.machine.proofs.Newest.{last_of, last_nil}
use Rattle.machine.proofs.DrainEvents.{AreStores}
use Rattle.machine.proofs.Steady.{IsSteady}
use Rattle.machine.proofs.InOrder.{IsInOrder}

-- a list of one item has it everywhere
pub get_or_same : {A : Type 0} (n i : ℕ) (x : A) → get_or (replicate n x) i x ≡ x
get_or_same n i x = elim (cases_lt i n) [
  | inl inside ↦ get_or-replicate n i x x inside
  | inr past ↦ get_or_past (replicate n x) i x (omega (arith, past, length-replicate n x))
]

-- the address of an operation is within the program's
address_within : (n : ℕ) (o : Op) (a : ℕ) → IsWithin n o → addr_of o ≡ Some a → a < n
address_within n (St b v) a h is = omega (arith, h, same_Some b a is)
address_within n (Ld b) a h is = omega (arith, h, same_Some b a is)
address_within n Fence a h is = absurd cc
address_within n (Swap b v) a h is = omega (arith, h, same_Some b a is)
address_within n (Add b v) a h is = omega (arith, h, same_Some b a is)
address_within n (Cas b e v) a h is = omega (arith, h, same_Some b a is)

module _ (p : List (List Op)) (init : List ℕ) (fits : All (λ ops. All (IsWithin (length init)) ops) p) where
  -- nothing was executed
  pub nothing_executed : (e : ℕ) → e < (static_of p (opening p init)).count
      → ¬ (e < (snapshot_of p (opening p init)).next ((static_of p (opening p init)).core e))
  nothing_executed e event done =
      omega (
        arith,
        done,
        event_after p e event,
        get_or_same {A = ℕ} (length p) ((static_of p (opening p init)).core e) 0,
      )

  -- nothing waits
  nothing_waits : (c e : ℕ) → times (map (λ (x : Entry). x.event) (get_or (replicate (length p) []) c [])) e
      ≡ 0
  nothing_waits c e =
      ap (λ (b : List Entry). times (map (λ (x : Entry). x.event) b) e) (get_or_same (length p) c [])
      ∙ times_nil e

  -- each operation has an address of the program
  pub op_within : (e : ℕ) → IsWithin (length init) (placed_op p e).1
  op_within e = elim (cases_lt e (length (placed_from 0 p))) [
    | inl event ↦
        let at = located 0 p e event in
        rw (event_op p e event) (fits at.0 [] at.2 at.1 Fence at.3)
    | inr past ↦ rw (get_or_past (placed_from 0 p) e (0, Fence) past) tt
  ]

  -- the opening state is steady
  pub opening_steady : IsSteady p (opening p init)
  opening_steady = record {
    counted = record {
      listed = λ e event done. absurd (nothing_executed e event done);
      executed = λ c e there. absurd (omega (arith, there, nothing_waits c e));
      waiting = λ c e there. absurd (omega (arith, there, nothing_waits c e));
    };
    listed = record {
      cells = length-replicate (length init) [] ∙ sym (length-map init (λ v. block_with (length p) v));
      lists = λ a inside. get_or_same (length init) a [];
    };
    stores = λ c. subst (λ (b : List Entry). AreStores p c b) (sym (get_or_same (length p) c [])) tt;
    places = length-replicate (length p) 0;
    cores = (let same : length p ≡ length p = refl in same);
    buffers = length-replicate (length p) [];
    reads = length-replicate (sum_by (λ ops. length ops) p) (0, None) ∙ sym (placed_total 0 p);
    writes_within =
        λ e a d is. omega (
          arith,
          address_within (length init) (placed_op p e).1 a (op_within e)
              ((has_address (placed_op p e).1 d a).0 (inr is)),
          length-map init (λ v. block_with (length p) v),
        );
    reads_within =
        λ e a is. omega (
          arith,
          address_within (length init) (placed_op p e).1 a (op_within e)
              ((has_address (placed_op p e).1 (0, None) a).0 (inl ((same_kind (placed_op p e).1 (0, None)).0 ∙ is))),
          length-map init (λ v. block_with (length p) v),
        );
  }

  -- and in order
  pub opening_in_order : IsInOrder p (opening p init)
  opening_in_order = record {
    steady = opening_steady;
    ordered = record {
      kept = λ e f own done strong. absurd (nothing_executed f own.1 done);
      values = λ e a reads there. absurd (omega (arith, there, times_nil e));
    };
    coherent = (opening_with_is_coherent (length p) init).0;
    latest = λ a inside. ap (λ (z : ℕ × Option ℕ). z.1) ((opening_with_is_coherent (length p) init).1 a)
        ∙ (sym last_nil ∙ ap last_of (sym (get_or_same (length init) a [])));
  }
