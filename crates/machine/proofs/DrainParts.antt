-- What a drain does to the parts of a machine.
use Rattle.std.proofs.Common.{◌≡◌, ◌<◌, ◌+◌, ℕ, Option, Some, Ok, List, [], ◌∷◌, ◌++◌, length, slice_get}
use Rattle.std.proofs.Common.{slice_index_or, slice_set, arith, refl, sym, ap, subst, ◌∙◌, length-set, length-append}
use Rattle.std.specs.List.{All, sum_by}
use Rattle.std.proofs.lemmas.List.Elements.{All-set}
use Rattle.std.proofs.lemmas.List.Sums.{sum_by-set}
use Rattle.std.proofs.lemmas.List.{map-set, length-map, get_or_default}
use Rattle.std.proofs.lemmas.Option.{slice_get_within, get_or_from_slice_get}
use Rattle.std.proofs.lemmas.Bool.{lt-ltb}
use Rattle.moesi.specs.State as moesi
use Rattle.program.specs.Parts.{Parts, op_count}
use Rattle.write_buffer.specs.declared.entry.Entry.{Entry}
use Rattle.write_buffer.specs.Buffer.{Buffer}
use Rattle.core_unit.specs.Progress.{Progress}
use Rattle.program.specs.declared.fault.Fault.{Fault}
use Rattle.machine.specs.Faults.{draining, without}
use Rattle.machine.specs.declared.step.Step.TheVariants.{Drain}
use Rattle.machine.specs.Step.{step_result}
use Rattle.machine.specs.Configuration.{BoundedItems, IsSound, IsEntry, state_from, places_of}
use Rattle.machine.proofs.Removed.{length_without, all_without}
use Rattle.machine.proofs.PlaceLemmas.{places_within}
use Rattle.machine.proofs.Parts.{rooms_pushed, lengths_pushed, list_seen, list_short, list_room, buffer_there}
use Rattle.machine.proofs.Parts.{buffer_seen, capacity_is, waiting_within}

module _ {p : Parts} {capacity : ℕ} {units : List Progress} {buffers : List Buffer} {caches : moesi.CacheState}
    {writes : List (BoundedItems ℕ)} {reads : List (ℕ × Option ℕ)} {done : BoundedItems ℕ}
    (sound : IsSound p capacity units buffers caches writes reads done) {core : ℕ} (at : core < length p.cores)
    {old : Buffer} (is : old ≡ slice_index_or buffers core old) (fault : Fault) {entry : Entry}
    (here : Some entry ≡ slice_get old.entries (draining fault old.entries)) where
  -- the store that drains has an address of the program
  pub entry_within : IsEntry (length p.names) entry
  entry_within = subst (IsEntry (length p.names))
      (get_or_from_slice_get old.entries (draining fault old.entries) entry entry (sym here))
      (waiting_within sound at is (draining fault old.entries) entry
      (slice_get_within old.entries (draining fault old.entries) entry (sym here)))

  -- the buffer, borrowed again, loses it
  module _ {now new : Buffer} (now_is : now ≡ slice_index_or buffers core now)
      (popped : new.entries ≡ without (draining fault now.entries) now.entries)
      (same : new.capacity ≡ now.capacity) where
    -- it is the same buffer
    again : old ≡ now
    again = is ∙ (get_or_default buffers core old now (buffer_there sound at) ∙ sym now_is)

    -- so the entry stands in it
    here_again : slice_get now.entries (draining fault now.entries) ≡ Some entry
    here_again = subst (λ (b : Buffer). slice_get b.entries (draining fault b.entries) ≡ Some entry) again (sym here)

    -- one store less waits
    counted : sum_by (λ b. length b.entries) (slice_set buffers core new) + 1 ≡ sum_by
        (λ b. length b.entries) buffers
    counted = omega (
      arith,
      sum_by-set (λ b. length b.entries) buffers core new now (buffer_there sound at),
      ap (λ (b : Buffer). length b.entries) (sym now_is),
      ap (λ (l : List Entry). length l) popped,
      length_without now.entries (draining fault now.entries) entry here_again,
    )

    -- one more can be performed
    room_left : length done.items < op_count p.cores
    room_left = omega (
      arith,
      counted,
      sound.counted,
      places_within (places_of units) p.cores
          (length-map units (λ (u : Progress). u.place) ∙ sound.units_length) sound.place,
    )

    -- the performed list has room for it
    pub has_room : length done.items < done.room
    has_room = omega (arith, room_left, sound.performed_room)

    module _ {list : BoundedItems ℕ} (list_is : list ≡ slice_index_or writes entry.addr list) where
      -- and so has the write list of its address
      pub list_has_room : length list.items < list.room
      list_has_room = omega (
        arith,
        list_room sound entry_within.0 list_is,
        list_short sound entry_within.0 list_is,
        room_left,
      )

      module _ {list' : BoundedItems ℕ}
          (pushed : list' ≡ record { items = list.items ++ entry.event ∷ []; room = list.room })
          {done' : BoundedItems ℕ}
          (done_is : done' ≡ record { items = done.items ++ entry.event ∷ []; room = done.room }) where
        -- the performed list grows by one
        longer : length done'.items ≡ length done.items + 1
        longer = ap (λ (r : BoundedItems ℕ). length r.items) done_is ∙ length-append done.items
            (entry.event ∷ [])

        -- the parts still fit together
        pub drained_sound : {caches' : moesi.CacheState} → caches'.cores ≡ caches.cores
            → length caches'.blocks ≡ length caches.blocks
            → IsSound p capacity units (slice_set buffers core new) caches' (slice_set writes entry.addr list')
            reads done'
        drained_sound same_cores same_blocks = record {
          operations = sound.operations;
          few = sound.few;
          initials = sound.initials;
          units_length = sound.units_length;
          buffers_length = length-set buffers core new ∙ sound.buffers_length;
          cache_cores = same_cores ∙ sound.cache_cores;
          cache_blocks = same_blocks ∙ sound.cache_blocks;
          writes_length = length-set writes entry.addr list' ∙ sound.writes_length;
          events = sound.events;
          first = sound.first;
          place = sound.place;
          capacities = All-set (λ b. b.capacity ≡ capacity) buffers core new
              (same ∙ capacity_is sound at now_is) sound.capacities;
          entries = All-set (λ b. All (IsEntry (length p.names)) b.entries) buffers core new
              (rw popped (all_without (IsEntry (length p.names)) now.entries (draining fault now.entries)
              (waiting_within sound at now_is))) sound.entries;
          write_rooms = rooms_pushed sound entry_within.0 list_is entry.event pushed;
          write_lengths = rw longer (lengths_pushed sound entry_within.0 list_is entry.event pushed);
          performed_room = ap (λ (r : BoundedItems ℕ). r.room) done_is ∙ sound.performed_room;
          counted = omega (arith, counted, longer, sound.counted);
        }

        -- the row of a drain
        pub drain_taken : {caches' : moesi.CacheState}
            → moesi.write caches core entry.addr entry.value entry.event ≡ Ok caches'
            → step_result p.cores capacity fault
            (state_from p.init units buffers caches writes reads done.items) (Drain core)
            ≡ Ok (state_from p.init units (slice_set buffers core new) caches'
            (slice_set writes entry.addr list') reads done'.items)
        drain_taken wrote = rw (
          lt-ltb core (length p.cores) at,
          map-set (λ (b : Buffer). b.entries) buffers core new,
          map-set (λ (b : BoundedItems ℕ). b.items) writes entry.addr list',
          buffer_seen sound at now_is,
          popped,
          here_again,
          wrote,
          buffer_seen sound at now_is,
          list_seen sound entry_within.0 list_is,
          pushed,
          done_is,
        ) refl
