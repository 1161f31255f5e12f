-- What a new machine holds.
use Rattle.std.proofs.Common.{◌≡◌, ◌<◌, ◌≤◌, ◌+◌, ◌-◌, inl, inr, ℕ, zero, suc, Option, None, List, [], ◌∷◌, ◌++◌, map}
use Rattle.std.proofs.Common.{length, get_or, slice_index_or, replicate, arith, refl, sym, ap, subst, ◌∙◌}
use Rattle.std.specs.List.{All, sum_by}
use Rattle.std.proofs.lemmas.List.{length-replicate, get_or_append_left, length-map, get_or-append_right}
use Rattle.std.proofs.lemmas.List.Elements.{All-replicate}
use Rattle.std.proofs.lemmas.List.Folds.{sum_by-replicate}
use Rattle.std.proofs.lemmas.Bool.{cases_lt}
use Rattle.common.specs.declared.limits.TheConstants.{MAX_EVENTS}
use Rattle.program.specs.declared.op.Op.{Op}
use Rattle.program.specs.Parts.{Parts, IsWithin, op_count}
use Rattle.write_buffer.specs.Buffer.{Buffer}
use Rattle.core_unit.specs.Progress.{Progress}
use Rattle.machine.specs.Configuration.{BoundedItems, AreUnits, BlankSize, IsSound, IsEntry, IsMachine, state_from}
use Rattle.machine.specs.Configuration.{places_of}
use Rattle.program.specs.declared.fault.Fault.{Fault}
use Rattle.machine.specs.State.{first_event, opening}
use Rattle.moesi.specs.State as moesi
use Rattle.moesi.specs.Block.{block_with}
use Rattle.machine.proofs.Opening.{get_or_same}

-- a function of all copies
map_same : {X Y : Type 0} (f : X → Y) (n : ℕ) (x : X) → map f (replicate n x) ≡ replicate n (f x)
map_same f zero x = refl
map_same f (suc n) x = ap (λ (ys : List _). f x ∷ ys) (map_same f n x)

-- units of which each is at its start have executed nothing
places_none : (units : List Progress) (n : ℕ) → length units ≡ n
    → ((c : ℕ) (d : Progress) → c < n → (slice_index_or units c d).place ≡ 0)
    → places_of units ≡ replicate n 0
places_none [] zero l h = refl
places_none [] (suc n) l h = absurd (omega (arith, l))
places_none (u ∷ units) zero l h = absurd (omega (arith, l))
places_none (u ∷ units) (suc n) l h =
    ap (λ (k : ℕ). k ∷ places_of units) (h 0 u (omega arith)) ∙ ap (λ (ks : List ℕ). 0 ∷ ks)
    (places_none units n (omega (arith, l)) (λ c d inside. h (suc c) d (omega (arith, inside))))

module _ (p : Parts) (capacity : ℕ) {cores total : ℕ} {init : List ℕ} {lists : List (List Op)} {units : List Progress}
    (cores_is : cores ≡ length p.cores) (init_is : init ≡ p.init) (count : length init ≡ length p.names)
    (lists_are : lists ≡ p.cores) (units_are : AreUnits lists units total)
    (fits : All (λ ops. All (IsWithin (length p.names)) ops) p.cores) (few : op_count p.cores ≤ MAX_EVENTS)
    {buffers : List Buffer} {caches : moesi.CacheState} {writes : List (BoundedItems ℕ)}
    {reads : List (ℕ × Option ℕ)} {done : BoundedItems ℕ} {blank : BlankSize}
    (buffers_are : buffers ≡ replicate cores (record { entries = []; capacity = capacity }))
    (caches_are : caches ≡ moesi.opening_with cores init)
    (writes_are : writes ≡ replicate (length init) (record { items = []; room = total }))
    (reads_are : reads ≡ replicate total (0, None)) (done_is : done ≡ record { items = []; room = total })
    (blank_is : blank ≡ record { cores = cores; events = total; addresses = length init; initial = init })
  where
    -- the units are those of the program
    are : AreUnits p.cores units total
    are = subst (λ (l : List (List Op)). AreUnits l units total) lists_are units_are

    -- no core has executed anything
    places_are : places_of units ≡ replicate (length p.cores) 0
    places_are = places_none units (length p.cores) are.one_each
        (λ c d inside. ap (λ (u : Progress). u.place) (are.begun c d inside))

    -- the parts make the opening state
    pub opening_held : state_from p.init units buffers caches writes reads done.items ≡ opening p.cores p.init
    opening_held = rw (
      places_are,
      buffers_are,
      caches_are,
      writes_are,
      reads_are,
      done_is,
      cores_is,
      init_is,
      map_same (λ (b : Buffer). b.entries) (length p.cores) (record { entries = []; capacity = capacity }),
      map_same (λ (b : BoundedItems ℕ). b.items) (length p.init) (record { items = []; room = total }),
      are.events,
    ) refl

    -- there are as many initial values as names
    initials : length p.init ≡ length p.names
    initials = ap (λ (l : List ℕ). length l) (sym init_is) ∙ count

    -- the parts fit together
    sound : IsSound p capacity units buffers caches writes reads done
    sound =
        let buffer : Buffer = record { entries = []; capacity = capacity } in
        let list : BoundedItems ℕ = record { items = []; room = total } in
        rw (buffers_are, caches_are, writes_are, reads_are, done_is) (record {
          operations = fits;
          few = few;
          initials = initials;
          units_length = are.one_each;
          buffers_length = length-replicate cores buffer ∙ cores_is;
          cache_cores = cores_is;
          cache_blocks = length-map init (λ v. block_with cores v) ∙ count;
          writes_length = length-replicate (length init) list ∙ count;
          events = length-replicate total (0, None) ∙ are.events;
          first = λ c d inside. ap (λ (u : Progress). u.first) (are.begun c d inside);
          place = λ c. omega (
            arith,
            ap (λ (l : List ℕ). get_or l c 0) places_are,
            get_or_same {A = ℕ} (length p.cores) c 0,
          );
          capacities = All-replicate (λ (b : Buffer). b.capacity ≡ capacity) cores buffer refl;
          entries = All-replicate (λ (b : Buffer). All (IsEntry (length p.names)) b.entries) cores buffer
              (λ k d h. absurd (omega (arith, h)));
          write_rooms = All-replicate (λ (b : BoundedItems ℕ). b.room ≡ op_count p.cores) (length init) list
              are.events;
          write_lengths = All-replicate (λ (b : BoundedItems ℕ). length b.items ≤ 0) (length init) list (omega arith);
          performed_room = are.events;
          counted = omega (
            arith,
            sum_by-replicate (λ (b : Buffer). length b.entries) cores buffer,
            ap (λ (l : List ℕ). sum_by (λ (x : ℕ). x) l) places_are,
            sum_by-replicate (λ (x : ℕ). x) (length p.cores) 0,
          );
        })

    -- so they are a machine
    pub is_machine : (fault : Fault) → IsMachine p capacity fault units buffers caches writes reads done blank
    is_machine fault = record {
      sound = sound;
      reached = record {
        steps = [];
        leads = sym opening_held;
        operations = subst (λ (k : ℕ). All (λ ops. All (IsWithin k) ops) p.cores) (sym initials) fits;
      };
      blank_is = rw (blank_is, cores_is, are.events, init_is, initials) refl;
    }

-- one core more
pub unit_more : (p : List (List Op)) (units units' : List Progress) (i next : ℕ) → length units ≡ i
    → next ≡ first_event p i
    → ((c : ℕ) (d : Progress) → c < i → get_or units c d ≡ record { first = first_event p c; place = 0 })
    → units' ≡ units ++ record { first = next; place = 0 } ∷ [] → (c : ℕ) (d : Progress) → c < i + 1
    → get_or units' c d ≡ record { first = first_event p c; place = 0 }
unit_more p units units' i next long next_is begun is c d inside = ap (λ (l : List Progress). get_or l c d) is
    ∙ (elim (cases_lt c i) [
      | inl before ↦ get_or_append_left units (record { first = next; place = 0 } ∷ []) d c
          (omega (arith, before, long)) ∙ begun c d before
      | inr after ↦
          let last : c ≡ i = omega (arith, inside, after) in
          get_or-append_right units (record { first = next; place = 0 } ∷ []) i c d long after
          ∙ (ap (λ (n : ℕ). get_or (record { first = next; place = 0 } ∷ []) n d)
          (let e : c - i ≡ 0 = omega (arith, last) in e)
          ∙ ap (λ (n : ℕ). record { first = n; place = 0 }) (next_is ∙ ap (first_event p) (sym last)))
    ])
