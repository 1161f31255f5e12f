-- Values that leave no choice.
use Rattle.std.proofs.Common.{◌≡◌, ◌<◌, ◌≤◌, ◌+◌, inl, inr, ℕ, Option, Some, None, List, length, arith, sym, ap, subst}
use Rattle.std.proofs.Common.{◌∙◌}
use Rattle.std.proofs.lemmas.Bool.{cases_lt}
use Rattle.std.proofs.lemmas.Option.{same_Some}
use Rattle.recording.specs.EventLaws.{Reads-event}
use Rattle.values.specs.Values.{Values}
use Rattle.values.specs.Refused.{events_alone}
use Rattle.completion.specs.declared.table.Placed.{Placed}
use Rattle.completion.specs.Only.{HasNoChoice, MayGiveValue}
use Rattle.completion.specs.Pairs.{IsTable}
use Rattle.completion.specs.Part.{IsAmong, MayFeed}
use Rattle.completion.proofs.Alone.{table_size, write_inside}

-- what feeds an event is among all
pub all_among : (v : Values) (items : List Placed) (e n : ℕ) → IsTable v items → length items ≤ n → (s : Option ℕ)
    → MayFeed v e s → IsAmong (λ w. w < n) s
all_among v items e n h most None may = tt
all_among v items e n h most (Some w) may =
    omega (arith, most, write_inside v items w may.address h may.gives.0)

-- what feeds an event and is not n is among those below n
among_before : (v : Values) (e n : ℕ) → ¬ MayFeed v e (Some n) → (s : Option ℕ) → MayFeed v e s
    → IsAmong (λ w. w < n + 1) s → IsAmong (λ w. w < n) s
among_before v e n unfed None may h = tt
among_before v e n unfed (Some w) may h = elim (cases_lt w n) [
  | inl before ↦ before
  | inr last ↦
      let at : w ≡ n = omega (arith, h, last) in
      absurd (unfed (subst (λ (k : ℕ). MayFeed v e (Some k)) at may))
]

-- where nothing below n feeds an event, what does below n + 1 is n
is_last : (v : Values) (e n : ℕ) → ((s : Option ℕ) → IsAmong (λ w. w < n) s → ¬ MayFeed v e s) → (s : Option ℕ)
    → MayFeed v e s → IsAmong (λ w. w < n + 1) s → s ≡ Some n
is_last v e n none None may h = absurd (none None tt may)
is_last v e n none (Some w) may h = elim (cases_lt w n) [
  | inl before ↦ absurd (none (Some w) before may)
  | inr last ↦ ap (λ (k : ℕ). Some k) (omega (arith, h, last))
]

-- one more that does not feed the event
pub none_more : (v : Values) (e n : ℕ) → ((s : Option ℕ) → IsAmong (λ w. w < n) s → ¬ MayFeed v e s)
    → ¬ MayFeed v e (Some n) → (s : Option ℕ) → IsAmong (λ w. w < n + 1) s → ¬ MayFeed v e s
none_more v e n none unfed s h may = none s (among_before v e n unfed s may h) may

pub one_more : (v : Values) (e n : ℕ)
    → ((s t : Option ℕ) → IsAmong (λ w. w < n) s → IsAmong (λ w. w < n) t → MayFeed v e s → MayFeed v e t → s ≡ t)
    → ¬ MayFeed v e (Some n) → (s t : Option ℕ) → IsAmong (λ w. w < n + 1) s → IsAmong (λ w. w < n + 1) t
    → MayFeed v e s → MayFeed v e t → s ≡ t
one_more v e n one unfed s t hs ht ms mt =
    one s t (among_before v e n unfed s ms hs) (among_before v e n unfed t mt ht) ms mt

-- the first that does
pub one_first : (v : Values) (e n : ℕ) → ((s : Option ℕ) → IsAmong (λ w. w < n) s → ¬ MayFeed v e s)
    → (s t : Option ℕ) → IsAmong (λ w. w < n + 1) s → IsAmong (λ w. w < n + 1) t → MayFeed v e s → MayFeed v e t
    → s ≡ t
one_first v e n none s t hs ht ms mt = is_last v e n none s ms hs ∙ sym (is_last v e n none t mt ht)

-- what gives an event its value feeds it, where it does not do so itself
pub feeds : (v : Values) (e : ℕ) → ¬ MayGiveValue v e (Some e) → (s : Option ℕ) → MayGiveValue v e s → MayFeed v e s
feeds v e own s gives = record {
  address = gives.address;
  reads = gives.reads;
  gives = gives.gives;
  other = λ same. own (subst (λ (o : Option ℕ). MayGiveValue v e o) same gives);
  known = gives.known;
}

-- what feeds it gives it its value
pub gives : (v : Values) (e : ℕ) (s : Option ℕ) → MayFeed v e s → MayGiveValue v e s
gives v e s may = record {
  address = may.address;
  reads = may.reads;
  gives = may.gives;
  known = may.known;
}

-- so it is one thing
pub gives_once : (v : Values) (e : ℕ) → ¬ MayGiveValue v e (Some e)
    → ((s t : Option ℕ) → MayFeed v e s → MayFeed v e t → s ≡ t)
    → (s t : Option ℕ) → MayGiveValue v e s → MayGiveValue v e t → s ≡ t
gives_once v e own once s t gs gt = once s t (feeds v e own s gs) (feeds v e own t gt)

-- what reads stands in the table
pub read_inside : (v : Values) (items : List Placed) (e : ℕ) (s : Option ℕ) → IsTable v items → MayGiveValue v e s
    → e < length items
read_inside v items e s h gives =
    omega (arith, Reads-event (events_alone v) e gives.address gives.reads, table_size v items h)

-- What leaves a choice

-- one number more
pub still_among : (n : ℕ) (s : Option ℕ) → IsAmong (λ w. w < n) s → IsAmong (λ w. w < n + 1) s
still_among n None h = tt
still_among n (Some w) h = omega (arith, h)

-- what feeds an event is among the numbers below n
abbrev pub IsFedBelow : Values → ℕ → ℕ → Type 0
IsFedBelow v e n = (s : Option ℕ) × IsAmong (λ w. w < n) s × MayFeed v e s

pub still_fed : (v : Values) (e n : ℕ) → IsFedBelow v e n → IsFedBelow v e (n + 1)
still_fed v e n (s, among, may) = (s, still_among n s among, may)

-- where n feeds it, too, it is fed twice
pub fed_twice : (v : Values) (e n : ℕ) → IsFedBelow v e n → MayFeed v e (Some n)
    → ¬ ((s t : Option ℕ) → MayFeed v e s → MayFeed v e t → s ≡ t)
fed_twice v e n (None, among, may) fed once = absurd (let clash : None ≡ Some n = once None (Some n) may fed in cc)
fed_twice v e n (Some w, among, may) fed once =
    absurd (omega (arith, among, same_Some w n (once (Some w) (Some n) may fed)))

-- what is no event has no choice
pub no_event : (v : Values) (items : List Placed) (e : ℕ) → IsTable v items → length items ≤ e → HasNoChoice v e
no_event v items e h past = record {
  sources = λ s t ours theirs. absurd (omega (arith, past, read_inside v items e s h ours));
  other = λ own. absurd (omega (arith, past, read_inside v items e (Some e) h own));
  writes = λ a u ours theirs. absurd (omega (arith, past, write_inside v items e a h ours));
}
