-- What is known of the parts of a machine that fit together.
use Rattle.std.proofs.Common.{◌++◌, ◌∷◌, [], slice_set, length-append}
use Rattle.std.proofs.Common.{◌≡◌, ◌<◌, ◌≤◌, ◌+◌, ℕ, Option, List, [], length, map, slice_index}
use Rattle.std.proofs.Common.{slice_index_or, arith, sym, ap, ◌∙◌}
use Rattle.std.specs.List.{All}
use Rattle.std.proofs.lemmas.List.{get_or-map}
use Rattle.std.proofs.lemmas.List.Elements.{All-set, All-weaker}
use Rattle.common.specs.declared.limits.TheConstants.{MAX_EVENTS}
use Rattle.program.specs.declared.op.Op.{Op}
use Rattle.program.specs.Parts.{Parts, op_count}
use Rattle.write_buffer.specs.Buffer.{Buffer}
use Rattle.core_unit.specs.Progress.{Progress}
use Rattle.moesi.specs.State as moesi
use Rattle.machine.specs.State.{first_event}
use Rattle.machine.specs.Configuration.{BoundedItems, IsSound, IsEntry, places_of}
use Rattle.machine.proofs.Static.{first_within}

module _ {p : Parts} {capacity : ℕ} {units : List Progress} {buffers : List Buffer} {caches : moesi.CacheState}
    {writes : List (BoundedItems ℕ)} {reads : List (ℕ × Option ℕ)} {done : BoundedItems ℕ}
    (sound : IsSound p capacity units buffers caches writes reads done) where
  -- each write list is no longer than one more than what was performed
  pub lengths_more : All (λ l. length l.items ≤ length done.items + 1) writes
  lengths_more = All-weaker (λ l. length l.items ≤ length done.items) (λ l. length l.items ≤ length done.items + 1)
      (λ l h. omega (arith, h)) writes sound.write_lengths

  module _ {addr : ℕ} (addressed : addr < length p.names) {list : BoundedItems ℕ}
      (list_is : list ≡ slice_index_or writes addr list) where
    -- an address has a write list
    pub list_there : addr < length writes
    list_there = omega (arith, addressed, sound.writes_length)

    -- what it holds
    pub list_seen : slice_index_or (map (λ b. b.items) writes) addr [] ≡ list.items
    list_seen = get_or-map (λ (b : BoundedItems ℕ). b.items) writes addr list [] list_there
        ∙ ap (λ (b : BoundedItems ℕ). b.items) (sym list_is)

    -- it is no longer than the performed list
    pub list_short : length list.items ≤ length done.items
    list_short =
        omega (arith, ap (λ (l : BoundedItems ℕ). length l.items) list_is, sound.write_lengths addr list list_there)

    -- and has room for every event
    pub list_room : list.room ≡ op_count p.cores
    list_room = ap (λ (l : BoundedItems ℕ). l.room) list_is ∙ sound.write_rooms addr list list_there

    module _ (event : ℕ) {list' : BoundedItems ℕ}
        (pushed : list' ≡ record { items = list.items ++ event ∷ []; room = list.room }) where
      -- with one event more each has room for every event
      pub rooms_pushed : All (λ l. l.room ≡ op_count p.cores) (slice_set writes addr list')
      rooms_pushed = All-set (λ l. l.room ≡ op_count p.cores) writes addr list'
          (ap (λ (r : BoundedItems ℕ). r.room) pushed ∙ list_room) sound.write_rooms

      -- and is no longer than what is performed with it
      pub lengths_pushed : All (λ l. length l.items ≤ length done.items + 1) (slice_set writes addr list')
      lengths_pushed = All-set (λ l. length l.items ≤ length done.items + 1) writes addr list'
          (omega (
            arith,
            list_short,
            ap (λ (r : BoundedItems ℕ). length r.items) pushed,
            length-append list.items (event ∷ []),
          )) lengths_more

  module _ {core : ℕ} (there : core < length p.cores) where
    -- a core has a unit
    pub unit_there : core < length units
    unit_there = omega (arith, there, sound.units_length)

    -- a buffer
    pub buffer_there : core < length buffers
    buffer_there = omega (arith, there, sound.buffers_length)

    -- and lines
    pub lines_there : core < caches.cores
    lines_there = omega (arith, there, sound.cache_cores)

    module _ {unit : Progress} (unit_is : unit ≡ slice_index_or units core unit) where
      -- the unit's place is the state's
      pub place_at : unit.place ≡ slice_index (places_of units) core
      place_at = ap (λ (u : Progress). u.place) unit_is
          ∙ sym (get_or-map (λ (u : Progress). u.place) units core unit 0 unit_there)

      -- the unit's first event is the core's
      pub first_at : unit.first ≡ first_event p.cores core
      first_at = ap (λ (u : Progress). u.first) unit_is ∙ sound.first core unit there

      -- all events of the core are within the limit
      pub few : {ops : List Op} → ops ≡ slice_index_or p.cores core [] → unit.first + length ops ≤ MAX_EVENTS
      few ops_is = omega (
        arith,
        first_at,
        ap (λ (os : List Op). length os) ops_is,
        first_within p.cores core there,
        sound.few,
      )

    module _ {old : Buffer} (is : old ≡ slice_index_or buffers core old) where
      -- what the buffer holds
      pub buffer_seen : slice_index_or (map (λ b. b.entries) buffers) core [] ≡ old.entries
      buffer_seen = get_or-map (λ (b : Buffer). b.entries) buffers core old [] buffer_there
          ∙ ap (λ (b : Buffer). b.entries) (sym is)

      -- its capacity is the machine's
      pub capacity_is : old.capacity ≡ capacity
      capacity_is = ap (λ (b : Buffer). b.capacity) is ∙ sound.capacities core old buffer_there

      -- all waiting stores have addresses of the program
      pub waiting_within : All (IsEntry (length p.names)) old.entries
      waiting_within = rw is (sound.entries core old buffer_there)
