-- Recordings of what was performed, and room for them.
use Rattle.std.proofs.Common.{◌≡◌, ◌<◌, ◌+◌, ◌-◌, ◌^◌, ◌⊎◌, ◌∙◌, inl, inr, ℕ, Option, Some, None, List, [], map, length}
use Rattle.std.proofs.Common.{get_or, arith}
use Rattle.std.proofs.Common.{sym, ap, subst}
use Rattle.std.proofs.Math.ListN as lists
use Rattle.std.proofs.lemmas.List.{length-map}
use Rattle.recording.specs.declared.event.Event.{Event}
use Rattle.recording.specs.declared.event.Event.TheVariants.{F}
use Rattle.recording.specs.Event.{read_address, source}
use Rattle.recording.specs.EventLaws.{Reads-event, source-Reads}
use Rattle.recording.specs.Execution.{Execution, event_at, placed_from, source_of, write_list, Reads, Writes}
use Rattle.recording.specs.PlacedLaws.{placed_at}
use Rattle.values.specs.Refused.{events_alone}
use Rattle.values.specs.Values.{IsCompletion, Values, unsourced, AreAllowed}
use Rattle.completion.specs.Only.{HasValues}
use Rattle.completion.specs.Performed.{AreSourced, HaveRoom, LeadsToEnd, writers}
use Rattle.completion.specs.Situation.{events_of, number_of}
use Rattle.completion.proofs.Alone.{count_with, reads_with, with_reads, writes_with}
use Rattle.completion.proofs.Completes.{IsMade, completes}
use Rattle.completion.proofs.Numbered.{found, inside_here}
use Rattle.completion.proofs.Rank.{core_there}
use Rattle.completion.proofs.Reached.{first_of, number_same}

module _ (v : Values) (sources : List (Option ℕ)) (x : Execution) (cores : map (map unsourced) x.cores ≡ v.cores)
    (room : HaveRoom v)
    (sourced : (c : ℕ) → c < length v.cores → AreSourced v sources c (get_or x.cores c [])) where
  -- each read has its source
  pub source_right : (e a : ℕ) → Reads x e a → source_of x e ≡ get_or sources e None
  unfolding event_at
  source_right e a reads = go (found v e (omega (arith, Reads-event x e a reads, count_with v x cores)))
    where
      go : (c : ℕ) × (j : ℕ) × (j < length (events_of v.cores c)) × (number_of v.cores c j ≡ e)
          → source_of x e ≡ get_or sources e None
      go (c, j, inside, is) =
          let few : number_of v.cores c j < 2 ^ 64 - 1 = omega (arith, inside_here v c j inside, room.few_events) in
          ap source event ∙ (sourced c (core_there v c j inside) j a there few (sym (ap read_address event) ∙ reads)
          ∙ ap (λ (k : ℕ). get_or sources k None) is)
        where
          size : length (events_of v.cores c) ≡ length (get_or x.cores c [])
          size = ap (λ (l : List (List Event)). length (get_or l c [])) (sym cores)
              ∙ (ap (λ (l : List Event). length l) (lists.get_or-map (λ (es : List Event). map unsourced es) x.cores c [])
              ∙ length-map (get_or x.cores c []) unsourced)

          there : j < length (get_or x.cores c [])
          there = omega (arith, inside, size)

          number : first_of x c + j ≡ e
          number = sym (number_same x c j) ∙ (ap (λ (l : List (List Event)). number_of l c j) cores ∙ is)

          event : event_at x e ≡ get_or (get_or x.cores c []) j F
          event = ap (λ (k : ℕ). (get_or (placed_from 0 x.cores) k (0, F)).1) (sym number)
              ∙ ap (λ (z : ℕ × Event). z.1) (placed_at 0 x.cores c j F there).0

  -- so it is what was performed
  pub made_of : (order : List ℕ) → x.initial ≡ v.initial → length x.write_lists ≡ length v.initial
      → ((a : ℕ) → a < length v.initial → get_or x.write_lists a [] ≡ writers v a order) → IsMade v order sources x
  unfolding write_list
  made_of order initial size lists_are = record {
    cores = cores;
    initial = initial;
    source = source_right;
    lists = size;
    writes = λ a there. list_is a there;
  }
    where
      list_is : (a : ℕ) → a < length v.initial → write_list x a ≡ writers v a order
      list_is a there = lists_are a there

-- values that a recording has have room
pub has_room : (v : Values) (x : Execution) → HasValues v x → HaveRoom v
has_room v x h = record {
  few_cores = omega (
    arith,
    h.recording.within.few_cores,
    ap (λ (l : List (List Event)). length l) h.cores,
    length-map x.cores (map unsourced),
  );
  few_events = omega (arith, h.recording.within.few_events, count_with v x h.cores);
  few_addresses = omega (
    arith,
    h.recording.within.few_addresses,
    h.recording.within.initial,
    ap (λ (l : List ℕ). length l) h.initial,
  );
  addresses = λ e a is. uses e a is;
  sources = λ e w is. reads e w (source-Reads x e w (h.sources e (Some w) is));
}
  where
    uses : (e a : ℕ) → Reads (events_alone v) e a ⊎ Writes (events_alone v) e a → a < length v.initial
    uses e a (inl r) = omega (
      arith,
      h.recording.within.addresses e a (inl (reads_with v x h.cores e a r)),
      h.recording.within.initial,
      ap (λ (l : List ℕ). length l) h.initial,
    )
    uses e a (inr w) = omega (
      arith,
      h.recording.within.addresses e a (inr (writes_with v x h.cores e a w)),
      h.recording.within.initial,
      ap (λ (l : List ℕ). length l) h.initial,
    )

    reads : (e w : ℕ) → (a : ℕ) × Reads x e a → (a : ℕ) × Reads (events_alone v) e a
    reads e w (a, r) = (a, with_reads v x h.cores e a r)

-- so have those that TSO allows
pub allowed_room : (v : Values) → AreAllowed v → HaveRoom v
allowed_room v (x, m, h) = has_room v x (record {
  cores = h.cores;
  initial = h.initial;
  sources = h.sources;
  final_values = h.final_values;
  recording = h.recording;
})

-- so what leads to the end is a completion
pub completion_made : (v : Values) (order : List ℕ) (sources given : List (Option ℕ)) (listed : List ℕ) (x : Execution)
    → LeadsToEnd v order sources → HaveRoom v → given ≡ sources → listed ≡ order
    → map (λ es. map unsourced es) x.cores ≡ v.cores → x.initial ≡ v.initial
    → ((c : ℕ) → c < length v.cores → AreSourced v given c (get_or x.cores c []))
    → length x.write_lists ≡ length v.initial
    → ((a : ℕ) → a < length v.initial → get_or x.write_lists a [] ≡ writers v a listed) → IsCompletion v x order
completion_made v order sources given listed x (r, end, h) room same also cores initial sourced size lists_are =
    completes v order sources r h end room x (made_of v sources x cores room
    (λ c inside. subst (λ (l : List (Option ℕ)). AreSourced v l c (get_or x.cores c [])) same (sourced c inside)) order
    initial size (λ a there. lists_are a there ∙ ap (writers v a) also))
