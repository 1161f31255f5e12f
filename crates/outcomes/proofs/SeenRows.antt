-- What moves lead to has as many cores, addresses and notes.
use Rattle.std.proofs.Common.{◌≡◌, ◌+◌, ◌∙◌, ℕ, Bool, true, false, cond, Option, Some, None, List}
use Rattle.std.proofs.Common.{length, refl, sym, ap, subst, slice_get, length-set}
use Rattle.std.proofs.Common.{IfSome}
use Rattle.std.proofs.lemmas.Option.{same_Some}
use Rattle.program.specs.declared.op.Op.{Op}
use Rattle.program.specs.declared.op.Op.TheVariants.{Ld, Swap, Add, Cas}
use Rattle.machine.specs.State.{first_event}
use Rattle.outcomes.specs.declared.moves.Move.{Move}
use Rattle.outcomes.specs.declared.moves.Move.TheVariants.{Exec, Drain}
use Rattle.situations.specs.declared.waiting.Waiting.{Waiting}
use Rattle.situations.specs.Row.{FitsAmong, SeenRows}
use Rattle.outcomes.specs.Situation.{gone_on, drained_by, executed_next, may_go, moved, ops_of, performed}
use Rattle.situations.specs.Situation.{Situation}
use Rattle.situations.specs.Step.{stored_by_op}
use Rattle.situations.specs.Waiting.{oldest}
use Rattle.situations.specs.Situation.{waiting}
use Rattle.situations.specs.Situation as row

-- what an operation does keeps how many addresses and events there are
performed_size : (r : Situation) (w : List Op) (e : ℕ) (op : Op)
    → (length (performed r w e op).places ≡ length r.places)
    × (length (performed r w e op).memory ≡ length r.memory) × (length (performed r w e op).notes ≡ length r.notes)
performed_size r w e (Ld a) = (refl, refl, length-set r.notes e _)
performed_size r w e (Swap a v) = (refl, length-set r.memory a _, length-set r.notes e _)
performed_size r w e (Add a v) = (refl, length-set r.memory a _, length-set r.notes e _)
performed_size r w e (Cas a x v) = (refl, length-set r.memory a _, length-set r.notes e _)
performed_size r w e op = (refl, refl, refl)

-- so does a move
pub move_fits : (p : List (List Op)) (rows : SeenRows) (r s : Situation) (move : Move) (c : ℕ) → FitsAmong rows r
    → moved p r move c ≡ Some s → FitsAmong rows s
move_fits p rows r s Exec c fits is = go (slice_get (ops_of p c) (row.place_of r c)) is
  where
    by : (op : Op) (b : Bool) → cond b (Some (gone_on p (performed r (waiting p r c)
        (first_event p c + row.place_of r c) op) c (row.place_of r c))) None ≡ Some s → FitsAmong rows s
    by op false none = absurd cc
    by op true done =
        let e : ℕ = first_event p c + row.place_of r c in
        let size = performed_size r (waiting p r c) e op in
        subst (FitsAmong rows) (same_Some _ s done) (record {
          cores = length-set (performed r (waiting p r c) e op).places c _ ∙ (size.0 ∙ fits.cores);
          addresses = size.1 ∙ fits.addresses;
          notes = size.2 ∙ fits.notes;
        })

    go : (o : Option Op) → executed_next p r c o ≡ Some s → FitsAmong rows s
    go None none = absurd (let clash : None ≡ Some s = none in cc)
    go (Some op) done = by op (may_go (waiting p r c) op) done
move_fits p rows r s Drain c fits is = go (oldest stored_by_op (row.drained_of r c) (waiting p r c)) is
  where
    go : (o : Option Waiting) → drained_by r c o ≡ Some s → FitsAmong rows s
    go None none = absurd (let clash : None ≡ Some s = none in cc)
    go (Some x) done = subst (FitsAmong rows) (same_Some _ s done) (record {
      cores = fits.cores;
      addresses = length-set r.memory x.address x.value ∙ fits.addresses;
      notes = fits.notes;
    })

-- also where a move can't be made
pub next_fits : (p : List (List Op)) (rows : SeenRows) (r : Situation) (next : Option Situation) (move : Move) (c : ℕ)
    → FitsAmong rows r → moved p r move c ≡ next → IfSome next (FitsAmong rows)
next_fits p rows r None move c fits is = tt
next_fits p rows r (Some s) move c fits is = move_fits p rows r s move c fits is

-- where only the rows are others, a situation still fits
pub fits_still : (old new : SeenRows) (r : Situation) → FitsAmong old r → new ≡ record old { keys = new.keys }
    → FitsAmong new r
fits_still old new r fits is = record {
  cores = fits.cores ∙ sym (ap (λ (x : SeenRows). x.cores) is);
  addresses = fits.addresses ∙ sym (ap (λ (x : SeenRows). x.addresses) is);
  notes = fits.notes ∙ sym (ap (λ (x : SeenRows). x.notes) is);
}

-- and after others again
pub rest_twice : (a b d : SeenRows) → b ≡ record a { keys = b.keys } → d ≡ record b { keys = d.keys }
    → d ≡ record a { keys = d.keys }
rest_twice a b d first second = second ∙ ap (λ (x : SeenRows). let y : SeenRows = record x { keys = d.keys } in y) first
