-- Where ways begin and end.
use Rattle.std.proofs.Common.{◌≡◌, ◌<◌, ◌≤◌, ◌+◌, ◌-◌, ◌∙◌, ℕ, Option, Some, None, List, [], length, get_or, drop}
use Rattle.std.proofs.Common.{option_and_then, arith, refl, sym, ap, subst}
use Rattle.std.proofs.lemmas.List.{get_or_past, get_or-replicate, length-replicate, drop_all, drop_more}
use Rattle.std.proofs.lemmas.Option.{same_Some, slice_get_past}
use Rattle.recording.specs.Execution.{event_count}
use Rattle.recording.specs.Order.{times}
use Rattle.recording.specs.OrderLaws.{times_nil}
use Rattle.values.specs.Final.{value_by}
use Rattle.values.specs.Refused.{events_alone}
use Rattle.values.specs.Values.{Values}
use Rattle.completion.specs.Situation.{memory_of}
use Rattle.completion.specs.declared.moves.Turn.{Turn}
use Rattle.completion.specs.Performed.{IsTrail, Settles, last_of, writers}
use Rattle.completion.specs.Reachable.{after_moves}
use Rattle.completion.specs.Situation.{beginning, mark, marked, moved, number_of}
use Rattle.situations.specs.Situation.{Situation, drained_of, place_of}
use Rattle.completion.proofs.Places.{blank, blank_fit, zero_at}
use Rattle.completion.proofs.Turned.{settles_from}

-- The beginning

module _ (v : Values) (none first : Situation) (empty : none.places ≡ []) (is : first ≡ beginning v) where
  none_at : (c : ℕ) → place_of none c ≡ 0
  none_at c = get_or_past none.places c 0 (omega (arith, ap (λ (l : List ℕ). length l) empty))

  pub begun_settles : Settles v none first
  begun_settles = subst (Settles v none) (sym is) (record {
    low = λ c. omega (arith, none_at c);
    within = λ c. (settles_from v (blank v) (blank_fit v)).within c;
    free = λ c j from to.
        (settles_from v (blank v) (blank_fit v)).free c j (omega (arith, zero_at (length v.cores) c)) to;
  })

  pub begun_trail : (order : List ℕ) (sources : List (Option ℕ)) → order ≡ []
      → length sources ≡ event_count (events_alone v) → IsTrail v order sources (place_of none) (drained_of first) (memory_of first)
  begun_trail order sources no_order count =
      subst (λ (z : Situation). IsTrail v order sources (place_of none) (drained_of z) (memory_of z)) (sym is) (record {
        performed = record {
          size = count;
          events = λ e there. absurd (omega (arith, nothing e, there));
          once = λ e. omega (arith, nothing e);
          kept = λ e f pair there. absurd (omega (arith, nothing f, there));
          reads = λ e a reads there. absurd (omega (arith, nothing e, there));
        };
        come = record {
          low = λ c. omega (arith, zero_at (length v.cores) c);
          within = λ c. omega (arith, none_at c);
          stores = λ c j there store. (
            λ some. absurd (omega (arith, nothing (number_of v.cores c j), some)),
            λ less. absurd (omega (arith, less, zero_at (length v.cores) c)),
          );
          others = λ c j there other. (
            λ some. absurd (omega (arith, nothing (number_of v.cores c j), some)),
            λ less. absurd (omega (arith, less, none_at c)),
          );
          values_size = refl;
          marks_size = length-replicate (length v.initial) (marked v (mark None));
          values = λ a there. sym (ap (value_by (events_alone v) a) (unwritten a));
          marks = λ a there. get_or-replicate (length v.initial) a (marked v (mark None)) 0 there
              ∙ sym (ap (λ (o : Option ℕ). marked v (mark o)) (unwritten a));
        };
      })
    where
      nothing : (e : ℕ) → times order e ≡ 0
      nothing e = ap (λ (l : List ℕ). times l e) no_order ∙ times_nil e

      unwritten : (a : ℕ) → last_of (writers v a order) ≡ None
      unwritten a =
          ap (λ (l : List ℕ). last_of (writers v a l)) no_order ∙ slice_get_past {X = ℕ} [] (0 - 1) (omega arith)

-- A turn of a way to the end

-- what is there where something follows
goes_through : (f : Situation → Option Situation) (o : Option Situation) (s : Situation) → option_and_then f o ≡ Some s
    → (y : Situation) × (o ≡ Some y) × (f y ≡ Some s)
goes_through f None s none = absurd (let clash : None ≡ Some s = none in cc)
goes_through f (Some y) s some = (y, refl, some)

module _ (v : Values) (turns : List Turn) (i : ℕ) (d : Turn) (row end : Situation) (inside : i < length turns)
    (rest : after_moves v row (drop i turns) ≡ Some end) where
  pub turn_goes : (y : Situation) × (moved v row (get_or turns i d).step (get_or turns i d).core ≡ Some y)
      × (after_moves v y (drop (i + 1) turns) ≡ Some end)
  turn_goes = goes_through (λ z. after_moves v z (drop (i + 1) turns))
      (moved v row (get_or turns i d).step (get_or turns i d).core) end
      (sym (ap (after_moves v row) (drop_more turns i d inside)) ∙ rest)

-- the last situation of a way
pub way_over : (v : Values) (turns : List Turn) (i : ℕ) (row end : Situation) → length turns ≤ i
    → after_moves v row (drop i turns) ≡ Some end → row ≡ end
way_over v turns i row end past rest =
    same_Some row end (sym (ap (after_moves v row) (drop_all i turns past)) ∙ rest)
