-- Situations that moves lead to: how many numbers they have, and that none is large.
use Rattle.std.proofs.Common.{◌≡◌, ◌<◌, ◌≤◌, ◌-◌, ◌^◌, ◌∙◌, inl, inr, ℕ, Bool, true, false, cond, None, Some}
use Rattle.std.proofs.Common.{arith, length, length-set, refl, subst, sym}
use Rattle.std.specs.List.{list_any}
use Rattle.std.proofs.lemmas.Bool.{cases_lt}
use Rattle.std.proofs.lemmas.List.{length-replicate}
use Rattle.recording.specs.Execution.{event_count}
use Rattle.values.specs.Refused.{events_alone}
use Rattle.values.specs.Values.{Values}
use Rattle.completion.specs.declared.moves.Move.{Move}
use Rattle.completion.specs.declared.moves.Move.TheVariants.{Modify, Drain}
use Rattle.completion.specs.declared.seen.Seen.{Seen}
use Rattle.completion.specs.Performed.{HaveRoom}
use Rattle.completion.specs.Reachable.{Leads, here, further}
use Rattle.situations.specs.Row.{FitsAmong}
use Rattle.completion.specs.Seen.{AreSearched}
use Rattle.completion.specs.Situation.{beginning, events_of, has_mark, mark, mark_of, marked, moved}
use Rattle.situations.specs.Situation.{Situation}
use Rattle.situations.specs.Situation.{place_of}
use Rattle.completion.specs.Situation.{with_write}
use Rattle.completion.proofs.Moved.{Drains, Modifies, moved_drain, moved_modify}
use Rattle.completion.proofs.Numbered.{inside_here}
use Rattle.completion.proofs.Places.{IsFit}
use Rattle.completion.proofs.Rank.{beginning_fit, led_fit}

-- memory has a value and a mark of each address
record IsKept (v : Values) (s : Situation) : Type 0 where
  values : length s.memory ≡ length v.initial
  marks : length s.notes ≡ length v.initial

-- where a mark is left out, 0 stands
marked_less : (v : Values) (k : ℕ) → marked v k ≤ k
marked_less v k = go (list_any (has_mark k) v.sources)
  where
    go : (b : Bool) → cond b k 0 ≤ k
    go true = omega arith
    go false = omega arith

module _ (v : Values) (room : HaveRoom v) where
  few : event_count (events_alone v) < 2 ^ 31
  few = omega (arith, room.few_events)

  -- a core has no more events than there are
  pub core_small : (c : ℕ) → length (events_of v.cores c) < 2 ^ 32
  core_small c = elim (cases_lt 0 (length (events_of v.cores c))) [
    | inr none ↦ omega (arith, none)
    | inl some ↦ omega (arith, some, few, inside_here v c (length (events_of v.cores c) - 1) (omega (arith, some)))
  ]

  pub mark_small : (c j : ℕ) → j < length (events_of v.cores c) → marked v (mark_of v c j) < 2 ^ 32
  mark_small c j inside = omega (arith, marked_less v (mark_of v c j), few, inside_here v c j inside)

  -- what a write leaves
  written_kept : (s : Situation) (a w k : ℕ) → IsKept v s → IsKept v (with_write s a w k)
  written_kept s a w k h = record {
    values = length-set s.memory a w ∙ h.values;
    marks = length-set s.notes a k ∙ h.marks;
  }

  -- so a move
  moved_kept : (s t : Situation) (move : Move) (c : ℕ) → IsKept v s → moved v s move c ≡ Some t → IsKept v t
  moved_kept s t Modify c h is =
      let m : Modifies v s c t = moved_modify v s c t is in
      let kept = written_kept s m.a m.w (marked v (mark_of v c (place_of s c))) h in
      subst (IsKept v) (sym m.is) (record { values = kept.values; marks = kept.marks })
  moved_kept s t Drain c h is =
      let m : Drains v s c t = moved_drain v s c t is in
      let kept = written_kept s m.store.address m.store.value (marked v (mark_of v c m.store.place)) h in
      subst (IsKept v) (sym m.is) (record { values = kept.values; marks = kept.marks })

  beginning_kept : IsKept v (beginning v)
  beginning_kept = record {
    values = refl;
    marks = length-replicate (length v.initial) (marked v (mark None));
  }

  led_kept : (r z : Situation) → IsKept v r → Leads v r z → IsKept v z
  led_kept r z h here = h
  led_kept r z h (further s t move c led is) = moved_kept s t move c (led_kept r s h led) is

  -- and it has as many as what was seen
  pub led_fits : (seen : Seen) (s : Situation) → AreSearched v seen → Leads v (beginning v) s → FitsAmong seen.rows s
  led_fits seen s all led =
      let fit : IsFit v s = led_fit v (beginning v) s (beginning_fit v) led in
      let kept : IsKept v s = led_kept (beginning v) s beginning_kept led in
      record {
        cores = fit.places ∙ sym all.cores;
        addresses = kept.values ∙ sym all.addresses;
        notes = kept.marks ∙ sym all.notes;
      }
