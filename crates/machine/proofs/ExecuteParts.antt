-- What the execution of an operation does to the parts of a machine.
use Rattle.std.proofs.Common.{◌≡◌, ◌<◌, ◌≤◌, ◌+◌, inl, inr, ℕ, true, Option, Ok, List, [], ◌∷◌, ◌++◌, length}
use Rattle.std.proofs.Common.{slice_index, slice_index_or, slice_set, arith, refl, sym, ap, subst, ◌∙◌, length-set}
use Rattle.std.proofs.Common.{length-append, get_or-set_same, get_or-set_other}
use Rattle.std.specs.List.{All, sum, sum_by}
use Rattle.std.proofs.lemmas.List.Elements.{All-set, All-push}
use Rattle.std.proofs.lemmas.List.Sums.{sum_by-set}
use Rattle.std.proofs.lemmas.List.{map-set, length-map}
use Rattle.std.proofs.lemmas.Option.{slice_get_within, get_or_from_slice_get}
use Rattle.std.proofs.lemmas.Bool.{cases_eq, lt-ltb}
use Rattle.common.specs.declared.limits.TheConstants.{MAX_EVENTS}
use Rattle.program.specs.declared.op.Op.{Op}
use Rattle.program.specs.declared.op.Op.TheVariants.{St, Ld, Fence}
use Rattle.program.specs.Parts.{Parts, IsWithin, op_count}
use Rattle.write_buffer.specs.declared.entry.Entry.{Entry}
use Rattle.write_buffer.specs.Buffer.{Buffer}
use Rattle.core_unit.specs.Progress.{Progress}
use Rattle.recording.specs.Event.{value_written}
use Rattle.moesi.specs.State as moesi
use Rattle.moesi.specs.Lines.{is_exclusive}
use Rattle.program.specs.declared.fault.Fault.{Fault}
use Rattle.machine.specs.Faults.{forwarded, may_fence, may_rmw}
use Rattle.machine.specs.State.{first_event}
use Rattle.program_events.specs.ProgramOf.{event_of}
use Rattle.machine.specs.Step.{exec, read_modify_written, read_unmodified, IsAt, forwarded_or_read}
use Rattle.machine.specs.Configuration.{BoundedItems, IsSound, IsEntry, state_from, places_of}
use Rattle.recording.specs.PlacedLaws.{placed_at, placed_total}
use Rattle.machine.proofs.PlaceLemmas.{places_within}
use Rattle.machine.proofs.Transacted.{transacted_sound}
use Rattle.machine.proofs.Parts.{lengths_more, rooms_pushed, lengths_pushed, list_seen, list_short, list_room}
use Rattle.machine.proofs.Parts.{unit_there, buffer_there, place_at, first_at, buffer_seen, capacity_is, waiting_within}

-- the places, where a core went on
abbrev pub places_on : List Progress → ℕ → List ℕ
places_on units core = slice_set (places_of units) core (slice_index (places_of units) core + 1)

module _ {p : Parts} {capacity : ℕ} {units : List Progress} {buffers : List Buffer} {caches : moesi.CacheState}
    {writes : List (BoundedItems ℕ)} {reads : List (ℕ × Option ℕ)} {done : BoundedItems ℕ}
    (sound : IsSound p capacity units buffers caches writes reads done) {core : ℕ} {op : Op} {event : ℕ}
    (at : IsAt p.cores (state_from p.init units buffers caches writes reads done.items) core op event) where
  -- the core has an operation left
  below : slice_index (places_of units) core < length (slice_index_or p.cores core [])
  below = slice_get_within (slice_index_or p.cores core []) (slice_index (places_of units) core)
      op at.operation

  -- the event's number is among those of the program
  pub number : event < length reads
  number = omega (
    arith,
    at.number,
    (placed_at 0 p.cores core (slice_index (places_of units) core) Fence below).1,
    placed_total 0 p.cores,
    sound.events,
  )

  -- and within the limit
  pub number_few : event < MAX_EVENTS
  number_few = omega (arith, number, sound.events, sound.few)

  -- its address is one of the program's
  pub within : IsWithin (length p.names) op
  within = subst (λ (o : Op). IsWithin (length p.names) o)
      (get_or_from_slice_get (slice_index_or p.cores core []) (slice_index (places_of units) core)
      op Fence at.operation)
      (sound.operations core [] at.core (slice_index (places_of units) core) Fence below)

  -- the core has a place
  place_there : core < length (places_of units)
  place_there = omega (arith, unit_there sound at.core, length-map units (λ (u : Progress). u.place))

  -- each core is within its operations
  place_up : (c : ℕ) → slice_index (places_on units core) c ≤ length (slice_index_or p.cores c [])
  place_up c = elim (cases_eq c core) [
    | inl same ↦ rw same (omega (
      arith,
      get_or-set_same (places_of units) core (slice_index (places_of units) core + 1) 0 place_there,
      below,
    ))
    | inr other ↦ omega (
      arith,
      get_or-set_other (places_of units) core c (slice_index (places_of units) core + 1) 0 other,
      sound.place c,
    )
  ]

  -- one more operation was executed
  sum_up : sum (places_on units core) ≡ sum (places_of units) + 1
  sum_up = omega (
    arith,
    sum_by-set (λ (x : ℕ). x) (places_of units) core (slice_index (places_of units) core + 1) 0 place_there,
  )

  -- one more than what was performed and waits has room
  room_left : length done.items + sum_by (λ b. length b.entries) buffers < op_count p.cores
  room_left = omega (
    arith,
    sound.counted,
    sum_up,
    places_within (places_on units core) p.cores
        (length-set (places_of units) core (slice_index (places_of units) core + 1)
        ∙ (length-map units (λ (u : Progress). u.place) ∙ sound.units_length)) place_up,
  )

  -- the performed list has room for one more
  pub has_room : length done.items < done.room
  has_room = omega (arith, room_left, sound.performed_room)

  -- and so has each write list
  pub list_has_room : {addr : ℕ} → addr < length p.names → {list : BoundedItems ℕ}
      → list ≡ slice_index_or writes addr list → length list.items < list.room
  list_has_room addressed list_is =
      omega (arith, list_room sound addressed list_is, list_short sound addressed list_is, room_left)

  -- the core's unit, before and after it goes on
  module _ {unit : Progress} (unit_is : unit ≡ slice_index_or units core unit) where
    -- an operation is left to the unit
    pub left : {ops : List Op} → ops ≡ slice_index_or p.cores core [] → unit.place < length ops
    left ops_is = omega (arith, place_at sound at.core unit_is, below, ap (λ (os : List Op). length os) ops_is)

    module _ {moved : Progress} (moved_is : moved ≡ record unit { place = unit.place + 1 }) where
      -- the state's places, where the unit went on
      places_set : places_of (slice_set units core moved) ≡ places_on units core
      places_set = map-set (λ (u : Progress). u.place) units core moved
          ∙ ap (λ (n : ℕ). slice_set (places_of units) core n)
          (ap (λ (u : Progress). u.place) moved_is ∙ ap (λ (n : ℕ). n + 1) (place_at sound at.core unit_is))

      -- the first events of the units stay
      first_up : (c : ℕ) (d : Progress) → c < length p.cores
          → (slice_index_or (slice_set units core moved) c d).first ≡ first_event p.cores c
      first_up c d inside = elim (cases_eq c core) [
        | inl same ↦ rw same (ap (λ (u : Progress). u.first)
            (get_or-set_same units core moved d (unit_there sound at.core) ∙ moved_is)
            ∙ first_at sound at.core unit_is)
        | inr other ↦ ap (λ (u : Progress). u.first) (get_or-set_other units core c moved d other)
            ∙ sound.first c d inside
      ]

      -- an event is performed; the reads and the write lists are others of the same number
      performed_with : {reads' : List (ℕ × Option ℕ)} → length reads' ≡ length reads → {new : BoundedItems ℕ}
          → new ≡ record { items = done.items ++ event ∷ []; room = done.room } → {writes' : List (BoundedItems ℕ)}
          → length writes' ≡ length writes → All (λ l. l.room ≡ op_count p.cores) writes'
          → All (λ l. length l.items ≤ length done.items + 1) writes'
          → IsSound p capacity (slice_set units core moved) buffers caches writes' reads' new
      performed_with same {new} is {writes'} as_many rooms lengths =
          let longer : length new.items ≡ length done.items + 1 =
          ap (λ (r : BoundedItems ℕ). length r.items) is ∙ length-append done.items (event ∷ []) in
          record {
            operations = sound.operations;
            few = sound.few;
            initials = sound.initials;
            units_length = length-set units core moved ∙ sound.units_length;
            buffers_length = sound.buffers_length;
            cache_cores = sound.cache_cores;
            cache_blocks = sound.cache_blocks;
            writes_length = as_many ∙ sound.writes_length;
            events = same ∙ sound.events;
            first = first_up;
            place = λ c. rw places_set (place_up c);
            capacities = sound.capacities;
            entries = sound.entries;
            write_rooms = rooms;
            write_lengths = rw longer lengths;
            performed_room = ap (λ (r : BoundedItems ℕ). r.room) is ∙ sound.performed_room;
            counted = omega (arith, longer, ap (λ (l : List ℕ). sum l) places_set, sum_up, sound.counted);
          }

      -- an event is performed that writes nothing
      pub performed_sound : {reads' : List (ℕ × Option ℕ)} → length reads' ≡ length reads → {new : BoundedItems ℕ}
          → new ≡ record { items = done.items ++ event ∷ []; room = done.room }
          → IsSound p capacity (slice_set units core moved) buffers caches writes reads' new
      performed_sound same is = performed_with same is refl sound.write_rooms (lengths_more sound)

      module _ (fault : Fault) {old : Buffer} (is : old ≡ slice_index_or buffers core old) where
        -- the row of a fence
        pub fence_taken : may_fence fault old.entries ≡ true
            → exec capacity fault (state_from p.init units buffers caches writes reads done.items)
            core event Fence
            ≡ Ok (state_from p.init (slice_set units core moved) buffers caches writes reads
            (done.items ++ event ∷ []))
        fence_taken may = rw (buffer_seen sound at.core is, may, places_set) refl

        -- the row of a load
        pub load_taken : (addr : ℕ) (entry : Option Entry) → entry ≡ forwarded fault old.entries addr
            → (what : ℕ × Option ℕ) → forwarded_or_read entry (moesi.read caches core addr) ≡ Ok what
            → exec capacity fault (state_from p.init units buffers caches writes reads done.items)
            core event (Ld addr)
            ≡ Ok (state_from p.init (slice_set units core moved) buffers caches writes
            (slice_set reads event what) (done.items ++ event ∷ []))
        load_taken addr entry entry_is what got =
            rw (buffer_seen sound at.core is, ← entry_is, got, places_set) refl

        module _ (may : may_rmw fault old.entries ≡ true) (addr : ℕ) (what : ℕ × Option ℕ)
            (what_is : moesi.copy_of caches core addr ≡ what) where
          -- the row of a read-modify-write that only reads
          pub compare_taken : is_exclusive (moesi.line_of caches core addr) ≡ true
              → read_unmodified fault (state_from p.init units buffers caches writes reads done.items)
              core event addr
              ≡ Ok (state_from p.init (slice_set units core moved) buffers caches writes
              (slice_set reads event what) (done.items ++ event ∷ []))
          compare_taken owned = rw (buffer_seen sound at.core is, may, owned, what_is, places_set) refl

          -- the row of a read-modify-write
          pub rmw_taken : addr < length p.names → (caches' : moesi.CacheState)
              → moesi.write caches core addr (value_written (event_of op what)) event ≡ Ok caches'
              → (list new : BoundedItems ℕ) → list ≡ slice_index_or writes addr list
              → new ≡ record { items = list.items ++ event ∷ []; room = list.room }
              → read_modify_written fault (state_from p.init units buffers caches writes reads done.items)
              core event op addr
              ≡ Ok (state_from p.init (slice_set units core moved) buffers caches' (slice_set writes addr new)
              (slice_set reads event what) (done.items ++ event ∷ []))
          rmw_taken addressed caches' wrote list new list_is pushed =
              rw (
                map-set (λ (b : BoundedItems ℕ). b.items) writes addr new,
                pushed,
                buffer_seen sound at.core is,
                may,
                what_is,
                wrote,
                list_seen sound addressed list_is,
                places_set,
              ) refl

      -- the parts still fit together after a read-modify-write
      pub rmw_sound : {addr : ℕ} → addr < length p.names → {list : BoundedItems ℕ}
          → list ≡ slice_index_or writes addr list → {caches' : moesi.CacheState} → caches'.cores ≡ caches.cores
          → length caches'.blocks ≡ length caches.blocks → {reads' : List (ℕ × Option ℕ)}
          → length reads' ≡ length reads → {list' new : BoundedItems ℕ}
          → list' ≡ record { items = list.items ++ event ∷ []; room = list.room }
          → new ≡ record { items = done.items ++ event ∷ []; room = done.room }
          → IsSound p capacity (slice_set units core moved) buffers caches' (slice_set writes addr list')
          reads' new
      rmw_sound {addr} addressed list_is same_cores same_blocks same {list'} pushed is = transacted_sound
          (performed_with same is (length-set writes addr list') (rooms_pushed sound addressed list_is event pushed)
          (lengths_pushed sound addressed list_is event pushed)) same_cores same_blocks

      -- a store goes to the back of the buffer
      module _ {old new : Buffer} (is : old ≡ slice_index_or buffers core old) (entry : Entry)
          (pushed : new ≡ record old { entries = old.entries ++ entry ∷ [] }) where
        -- the parts still fit together after a store
        pub stored_sound : IsEntry (length p.names) entry
            → IsSound p capacity (slice_set units core moved) (slice_set buffers core new) caches writes reads done
        stored_sound addressed = record {
          operations = sound.operations;
          few = sound.few;
          initials = sound.initials;
          units_length = length-set units core moved ∙ sound.units_length;
          buffers_length = length-set buffers core new ∙ sound.buffers_length;
          cache_cores = sound.cache_cores;
          cache_blocks = sound.cache_blocks;
          writes_length = sound.writes_length;
          events = sound.events;
          first = first_up;
          place = λ c. rw places_set (place_up c);
          capacities =
              All-set (λ b. b.capacity ≡ capacity) buffers core new
              (ap (λ (b : Buffer). b.capacity) pushed ∙ capacity_is sound at.core is) sound.capacities;
          entries = All-set (λ b. All (IsEntry (length p.names)) b.entries) buffers core new
              (subst (λ (b : Buffer). All (IsEntry (length p.names)) b.entries) (sym pushed)
              (All-push (IsEntry (length p.names)) old.entries entry (waiting_within sound at.core is) addressed))
              sound.entries;
          write_rooms = sound.write_rooms;
          write_lengths = sound.write_lengths;
          performed_room = sound.performed_room;
          counted = omega (
            arith,
            sum_by-set (λ b. length b.entries) buffers core new old (buffer_there sound at.core),
            ap (λ (b : Buffer). length b.entries) is,
            ap (λ (b : Buffer). length b.entries) pushed,
            length-append old.entries (entry ∷ []),
            ap (λ (l : List ℕ). sum l) places_set,
            sum_up,
            sound.counted,
          );
        }

        -- the row of a store
        pub store_taken : (fault : Fault) → entry.event ≡ event → length old.entries < old.capacity
            → exec capacity fault (state_from p.init units buffers caches writes reads done.items) core event
            (St entry.addr entry.value)
            ≡ Ok (state_from p.init (slice_set units core moved) (slice_set buffers core new)
            caches writes reads done.items)
        store_taken fault event_is room =
            let entry_is : entry ≡ record { addr = entry.addr; value = entry.value; event = event } =
            ap (λ (e : ℕ). record { addr = entry.addr; value = entry.value; event = e }) event_is in
            let free : length old.entries < capacity = omega (arith, room, capacity_is sound at.core is) in
            rw (
              map-set (λ (b : Buffer). b.entries) buffers core new,
              pushed,
              buffer_seen sound at.core is,
              lt-ltb (length old.entries) capacity free,
              places_set,
              ← entry_is,
            ) refl
