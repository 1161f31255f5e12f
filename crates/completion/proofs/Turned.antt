-- What a turn performs is right.
use Rattle.std.proofs.Common.{◌≡◌, ◌<◌, ◌+◌, ◌^◌, ℕ, Option, None, List, [], ◌∷◌, ◌++◌, length, slice_set, arith}
use Rattle.std.proofs.Common.{refl, sym, subst, get_or-set_same, get_or-set_other}
use Rattle.recording.specs.Execution.{event_count}
use Rattle.values.specs.Refused.{events_alone}
use Rattle.values.specs.Values.{Values}
use Rattle.situations.specs.declared.waiting.Waiting.{Waiting}
use Rattle.completion.specs.Situation.{memory_of}
use Rattle.completion.specs.Performed.{HaveRoom, IsTrail, Settles, last_of, writers}
use Rattle.completion.specs.Situation.{mark_of, marked, number_of, settled}
use Rattle.situations.specs.Situation.{Situation, drained_of, place_of, with_drained}
use Rattle.completion.specs.Situation.{written}
use Rattle.situations.specs.Situation.{with_place}
use Rattle.completion.specs.Situation.{with_write}
use Rattle.completion.proofs.Carried.{drain_on, past_modify}
use Rattle.completion.proofs.Moved.{IsNextStore, Modifies}
use Rattle.completion.proofs.Places.{IsFit, settles}
use Rattle.completion.proofs.Rank.{core_there, drained_fit, placed_fit}

-- free steps are
pub settles_from : (v : Values) (u : Situation) → IsFit v u → Settles v u (settled v u)
settles_from v u fit = record {
  low = λ c. (settles v u fit c).from;
  within = λ c. (settles v u fit c).within;
  free = λ c j from to. (settles v u fit c).passed j from to;
}

module _ (v : Values) (order : List ℕ) (sources : List (Option ℕ)) (s t : Situation) (c : ℕ) (fit : IsFit v s)
    (room : HaveRoom v) (h : IsTrail v order sources (place_of s) (drained_of s) (memory_of s)) where
  few : event_count (events_alone v) < 2 ^ 32
  few = omega (arith, room.few_events)

  -- a store that comes to memory
  pub drained_right : (x : Waiting) → IsNextStore v s c x
      → t ≡ written v (with_drained s c (x.place + 1)) c x.place x.address x.value
      → Settles v s t × IsTrail v (order ++ number_of v.cores c x.place ∷ [])
      (slice_set sources (number_of v.cores c x.place) None) (place_of s) (drained_of t) (memory_of t)
  drained_right x next is =
      let k : ℕ = marked v (mark_of v c x.place) in
      let u : Situation = with_write (with_drained s c (x.place + 1)) x.address x.value k in
      let at : c < length s.drained = omega (arith, core_there v c x.place next.inside, fit.drained) in
      subst (λ (z : Situation). Settles v s z × IsTrail v (order ++ number_of v.cores c x.place ∷ [])
      (slice_set sources (number_of v.cores c x.place) None) (place_of s) (drained_of z) (memory_of z)) (sym is) (
        record {
          low = λ d. (settles_from v u (drained_fit v s c fit x.address x.value k x.place next.to next.inside)).low d;
          within =
              λ d. (settles_from v u (drained_fit v s c fit x.address x.value k x.place next.to next.inside)).within d;
          free = λ d j from to.
              (settles_from v u (drained_fit v s c fit x.address x.value k x.place next.to next.inside)).free d j from to;
        },
        drain_on v order sources (place_of s) (drained_of s) (memory_of s) h few room.addresses c x.place x.address x.value
            (drained_of u) next.inside next.from next.to next.event next.first
            (get_or-set_same s.drained c (x.place + 1) 0 at)
            (λ d apart. get_or-set_other s.drained c d (x.place + 1) 0 apart),
      )

  -- a read-modify-write
  pub modified_right : (m : Modifies v s c t)
      → Settles v (with_place s c (place_of s c + 1)) t
      × IsTrail v (order ++ number_of v.cores c (place_of s c) ∷ [])
      (slice_set sources (number_of v.cores c (place_of s c)) (last_of (writers v m.a order)))
      (place_of (with_place s c (place_of s c + 1))) (drained_of t) (memory_of t)
  modified_right m =
      let k : ℕ = marked v (mark_of v c (place_of s c)) in
      let u : Situation = with_write (with_place s c (place_of s c + 1)) m.a m.w k in
      let at : c < length s.places = omega (arith, core_there v c (place_of s c) m.inside, fit.places) in
      subst (λ (z : Situation). Settles v (with_place s c (place_of s c + 1)) z
      × IsTrail v (order ++ number_of v.cores c (place_of s c) ∷ [])
      (slice_set sources (number_of v.cores c (place_of s c)) (last_of (writers v m.a order)))
      (place_of (with_place s c (place_of s c + 1))) (drained_of z) (memory_of z)) (sym m.is) (
        record {
          low = λ d. (settles_from v u (placed_fit v s c fit m.a m.w k m.inside)).low d;
          within = λ d. (settles_from v u (placed_fit v s c fit m.a m.w k m.inside)).within d;
          free = λ d j from to. (settles_from v u (placed_fit v s c fit m.a m.w k m.inside)).free d j from to;
        },
        past_modify v order sources (place_of s) (drained_of s) (memory_of s) h few room.addresses c (place_of s c) m.inside
            refl (place_of u) (get_or-set_same s.places c (place_of s c + 1) 0 at)
            (λ d apart. get_or-set_other s.places c d (place_of s c + 1) 0 apart) m.a m.r m.w m.o m.event m.none m.value
            m.may,
      )
