-- The values that addresses end with.
use Rattle.std.proofs.Common.{◌≡◌, ◌≤◌, ◌<◌, ◌-◌, inl, inr, ℕ, Option, Some, None, List, length, get_or, arith}
use Rattle.std.proofs.Common.{sym, ap, ◌∙◌}
use Rattle.std.proofs.lemmas.Bool.{cases_lt, cases_eq}
use Rattle.std.proofs.lemmas.List.{get_or_past}
use Rattle.recording.specs.Event.{value_written}
use Rattle.recording.specs.Execution.{Execution, event_at, write_list}
use Rattle.recording.specs.Execution.{Writes}
use Rattle.recording.specs.EventLaws.{Writes-event}
use Rattle.recording.specs.Order.{place, times, Before}
use Rattle.recording.specs.OrderLaws.{place_in, place_one}
use Rattle.recording.specs.PlaceLaws.{times_at, place_at}
use Rattle.recording.specs.Tso.{IsTsoOrder, IsWellFormed}
use Rattle.values.specs.Final.{final_value}
use Rattle.values.specs.FinalLaws.{final_unwritten, final_written}
use Rattle.values.specs.Values.{Values}
use Rattle.completion.proofs.Covers.{IsCurrent}

-- nothing is known past the end
pub known_past : (l : List (Option ℕ)) (a n : ℕ) → length l ≤ a → get_or l a None ≡ Some n → 1 ≤ 0
known_past l a n past known =
    let none : get_or l a None ≡ None = get_or_past l a None past in
    let clash : None ≡ Some n = sym none ∙ known in
    absurd cc

-- what memory has after all events is what addresses end with
pub current_final : (vs : Values) (x : Execution) (m : List ℕ) → IsTsoOrder x m → IsWellFormed x → (a v k : ℕ)
    → IsCurrent vs x m m a v k → v ≡ final_value x a
current_final vs x m tso well a v k (inl (unwritten, initial, mark_is)) =
    initial ∙ sym (final_unwritten x a (elim (cases_lt 0 (length (write_list x a))) [
      | inr none ↦ omega (arith, none)
      | inl some ↦
          let w : ℕ = get_or (write_list x a) 0 0 in
          let writes : Writes x w a = (well.write_lists a).nothing_else w (times_at (write_list x a) 0 some) in
          absurd (omega (arith, unwritten w writes, tso.total.once w (Writes-event x w a writes)))
    ]))
current_final vs x m tso well a v k (inr (w, l, mark_is)) = sym l.value ∙ (same ∙ sym (final_written x a some))
  where
    list : List ℕ
    list = write_list x a

    n : ℕ
    n = length list - 1

    u : ℕ
    u = get_or list n 0

    there : place list w < length list
    there = place_in list w (omega (arith, (well.write_lists a).once w l.writes))

    some : 0 < length list
    some = omega (arith, there)

    last_in : 0 < times list u
    last_in = times_at list n (omega (arith, some))

    writes : Writes x u a
    writes = (well.write_lists a).nothing_else u last_in

    place_last : place list u ≡ n
    place_last = place_at list n (omega (arith, some)) (omega (arith, (well.write_lists a).once u writes))

    same : value_written (event_at x w) ≡ value_written (event_at x (get_or list (length list - 1) 0))
    same = elim (l.last u writes (omega (arith, tso.total.once u (Writes-event x u a writes)))) [
      | inl one ↦ ap (λ (e : ℕ). value_written (event_at x e)) (sym one)
      | inr before ↦ elim (cases_eq (place list w) n) [
        | inl one ↦
            let equal : w ≡ u = place_one list w u (one ∙ sym place_last) there in
            ap (λ (e : ℕ). value_written (event_at x e)) equal
        | inr apart ↦
            let back : Before m w u = tso.write_order a w u (
              omega (arith, there, apart, place_last),
              omega (arith, place_last, some),
            ) in
            absurd (omega (arith, before, back))
      ]
    ]
