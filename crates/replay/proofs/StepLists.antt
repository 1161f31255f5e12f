-- Lists of steps of which none is blocked.
use Rattle.std.proofs.Common.{◌≡◌, ◌<◌, ◌≤◌, ◌+◌, ℕ, nat_lt, zero, suc, Bool, true, false, cond, Option, Some, None}
use Rattle.std.proofs.Common.{Result, Ok, Err, List, [], ◌∷◌, ◌++◌, length, get_or, slice_get, slice_index_or}
use Rattle.std.proofs.Common.{replicate, arith, refl, sym, ap, subst, ◌∙◌, get_or-set_same, length-set}
use Rattle.std.specs.Prelude.{⊤}
use Rattle.std.specs.List.{sum, count_by}
use Rattle.std.proofs.lemmas.Bool.{lt-ltb, ltb-true}
use Rattle.std.proofs.lemmas.List.{length-map}
use Rattle.std.proofs.lemmas.Option.{slice_get-get_or}
use Rattle.std.proofs.lemmas.List.Sums.{sum_by-set, sum_by_more, sum_by-take-le}
use Rattle.program.specs.declared.op.Op.{Op}
use Rattle.program.specs.declared.op.Op.TheVariants.{St, Fence}
use Rattle.moesi.specs.declared.line.Line.TheVariants as line
use Rattle.moesi.specs.Lines.{is_valid, is_exclusive, lowered}
use Rattle.moesi.specs.declared.line.Line.{Line}
use Rattle.moesi.specs.Block.{Block, cell_of, invalid, with_line, block_by, has_copy, supplied}
use Rattle.moesi.specs.State as moesi
use Rattle.write_buffer.specs.declared.entry.Entry.{Entry}
use Rattle.program.specs.declared.fault.Fault.TheVariants as fault
use Rattle.machine.specs.declared.step.Step.{Step}
use Rattle.machine.specs.declared.step.Step.TheVariants.{Exec, GetS, GetM}
use Rattle.machine.specs.declared.blocked.Blocked.{Blocked}
use Rattle.machine.specs.declared.blocked.Blocked.TheVariants.{B2, B8}
use Rattle.machine.specs.State.{State, place_of, buffer_of, first_event}
use Rattle.machine.specs.Step.{exec, exec_next, step_result, after, run, advanced, with_buffer, with_caches}
use Rattle.machine.specs.Step.{forwarded_or_read, has, IsAt}
use Rattle.replay.specs.Steps.{get_to_write, get_to_read}
use Rattle.machine.specs.Taken.{all_taken, unless_blocked}
use Rattle.program_events.specs.Operations.{is_st}
use Rattle.machine.specs.RunLaws.{at_taken, guarded}
use Rattle.replay.proofs.OrderlyRuns.{StaysOrderly, goes_further}

-- the step is taken
abbrev pub IsTaken : List (List Op) → ℕ → State → Step → Type 0
IsTaken p capacity s step = (t : State) × (step_result p capacity fault.None s step ≡ Ok t)

-- each step of the list is taken: none is blocked
abbrev pub AreTaken : List (List Op) → ℕ → State → List Step → Type 0
AreTaken p capacity s [] = ⊤
AreTaken p capacity s (step ∷ steps) =
    IsTaken p capacity s step × AreTaken p capacity (after s (step_result p capacity fault.None s step)) steps

-- so says the machine's word for them
pub all_of : (p : List (List Op)) (capacity : ℕ) (steps : List Step) (s t : State)
    → AreTaken p capacity s steps
    → run p capacity fault.None s steps ≡ t → all_taken p capacity fault.None s steps ≡ Ok t
all_of p capacity [] s t are led = ap (λ (z : State). Ok z) led
all_of p capacity (x ∷ xs) s t are led =
    ap (λ (r : Result State Blocked). unless_blocked r (λ v. all_taken p capacity fault.None v xs)) are.0.1
    ∙ subst (λ (r : Result State Blocked). all_taken p capacity fault.None (after s r) xs ≡ Ok t) are.0.1
    (all_of p capacity xs (after s (step_result p capacity fault.None s x)) t are.1 led)

-- the steps are all taken, and lead from s to t
abbrev pub StepsLead : List (List Op) → ℕ → State → List Step → State → Type 0
StepsLead p capacity s steps t = AreTaken p capacity s steps × (run p capacity fault.None s steps ≡ t)

-- a step that is taken, before others
pub goes_first : (p : List (List Op)) (capacity : ℕ) (s u t : State) (step : Step) (steps : List Step)
    → step_result p capacity fault.None s step ≡ Ok u → StepsLead p capacity u steps t
    → StepsLead p capacity s (step ∷ steps) t
goes_first p capacity s u t step steps took rest = (
  ((u, took), subst (λ (r : Result State Blocked). AreTaken p capacity (after s r) steps) (sym took) rest.0),
  ap (λ (r : Result State Blocked). run p capacity fault.None (after s r) steps) took ∙ rest.1,
)

-- a single step
pub goes_one : (p : List (List Op)) (capacity : ℕ) (s t : State) (step : Step)
    → step_result p capacity fault.None s step ≡ Ok t → StepsLead p capacity s (step ∷ []) t
goes_one p capacity s t step took = goes_first p capacity s t t step [] took (tt, refl)

-- steps in two parts
pub goes_on : (p : List (List Op)) (capacity : ℕ) (s t u : State) (xs ys : List Step) → StepsLead p capacity s xs t
    → StepsLead p capacity t ys u → StepsLead p capacity s (xs ++ ys) u
goes_on p capacity s t u [] ys front back = subst (λ (z : State). StepsLead p capacity z ys u) (sym front.1) back
goes_on p capacity s t u (x ∷ xs) ys front back =
    let rest : StepsLead p capacity (after s (step_result p capacity fault.None s x)) (xs ++ ys) u = goes_on p capacity
    (after s (step_result p capacity fault.None s x)) t u xs ys (front.0.1, front.1) back in
    ((front.0.0, rest.0), rest.1)

-- a test that only grows
more_room : (k capacity larger : ℕ) (r t : State) → capacity ≤ larger → cond (nat_lt k capacity) (Ok r)
    (Err B2) ≡ Ok t → cond (nat_lt k larger) (Ok r) (Err B2) ≡ Ok t
more_room k capacity larger r t h took =
    let g = guarded (nat_lt k capacity) (Ok r) B2 t took in
    rw (lt-ltb k larger (omega (arith, h, ltb-true k capacity g.0))) g.1

-- what is executed in small buffers is executed in larger ones
exec_more : (capacity larger : ℕ) (s t : State) (c e : ℕ) (op : Op) → capacity ≤ larger
    → exec capacity fault.None s c e op ≡ Ok t → exec larger fault.None s c e op ≡ Ok t
exec_more capacity larger s t c e (St a v) h took = more_room (length (buffer_of s c)) capacity larger _ t h
    took
exec_more capacity larger s t c e op h took = took

-- so is what comes next
next_more : (p : List (List Op)) (capacity larger : ℕ) (s t : State) (c : ℕ) (o : Option Op)
    → capacity ≤ larger → exec_next p capacity fault.None s c o ≡ Ok t → exec_next p larger fault.None s c o
    ≡ Ok t
next_more p capacity larger s t c None h took = took
next_more p capacity larger s t c (Some op) h took = exec_more capacity larger s t c
    (first_event p c + place_of s c) op h took

-- so is what is guarded
guard_more : (b : Bool) (r q : Result State Blocked) (t : State) → (r ≡ Ok t → q ≡ Ok t)
    → cond b r (Err B8) ≡ Ok t → cond b q (Err B8) ≡ Ok t
guard_more true r q t h took = h took
guard_more false r q t h took = took

-- a step that is taken with small buffers is taken with larger ones
step_more : (p : List (List Op)) (capacity larger : ℕ) (s t : State) (step : Step) → capacity ≤ larger
    → step_result p capacity fault.None s step ≡ Ok t → step_result p larger fault.None s step ≡ Ok t
step_more p capacity larger s t (Exec c) h took =
    guard_more (nat_lt c (length p)) _ _ t
    (next_more p capacity larger s t c (slice_get (slice_index_or p c []) (place_of s c)) h) took
step_more p capacity larger s t step h took = took

-- steps that are taken with small buffers are taken with larger ones, and lead to the same state
pub goes_more : (p : List (List Op)) (capacity larger : ℕ) → capacity ≤ larger → (steps : List Step)
    (s t : State) → StepsLead p capacity s steps t → StepsLead p larger s steps t
goes_more p capacity larger h [] s t g = g
goes_more p capacity larger h (step ∷ steps) s t g =
    let took : step_result p capacity fault.None s step ≡ Ok g.0.0.0 = g.0.0.1 in
    let rest : StepsLead p capacity g.0.0.0 steps t =
    subst (λ (r : Result State Blocked). StepsLead p capacity (after s r) steps t) took (g.0.1, g.1) in
    goes_first p larger s g.0.0.0 t step steps (step_more p capacity larger s g.0.0.0 step h took)
    (goes_more p capacity larger h steps g.0.0.0 t rest)

-- a plain store has an address and a value
store_is : (op : Op) → is_st op ≡ true → (a : ℕ) × (v : ℕ) × (op ≡ St a v)
store_is (St a v) h = (a, v, refl)
store_is op h = absurd cc

-- where core c is, if it has not come to its end
pub is_at : (p : List (List Op)) (s : State) (c : ℕ) → c < length p → place_of s c < length (get_or p c [])
    → IsAt p s c (get_or (get_or p c []) (place_of s c) Fence) (first_event p c + place_of s c)
is_at p s c core there = record {
  core = core;
  operation = slice_get-get_or (get_or p c []) (place_of s c) Fence there;
  number = refl;
}

-- core c has executed j stores more
pub record HasStored (p : List (List Op)) (n capacity : ℕ) (s t : State) (c j : ℕ) : Type 0 where
  pub fits : StaysOrderly p n capacity t
  pub performed : t.performed ≡ s.performed
  pub place : place_of t c ≡ place_of s c + j
  pub caches : t.caches ≡ s.caches
  pub sum : sum t.places ≡ sum s.places + j

-- a core with room for all its stores executes one
store_one : (p : List (List Op)) (n capacity : ℕ) (s : State) (c : ℕ) → StaysOrderly p n capacity s → c < length p
    → place_of s c < length (get_or p c []) → count_by is_st (get_or p c []) ≤ capacity
    → is_st (get_or (get_or p c []) (place_of s c) Fence) ≡ true → (t : State)
    × (step_result p capacity fault.None s (Exec c) ≡ Ok t) × HasStored p n capacity s t c 1
store_one p n capacity s c f core there room store =
    go (store_is (get_or (get_or p c []) (place_of s c) Fence) store)
  where
    fewer : length (buffer_of s c) < capacity
    fewer = omega (
      arith,
      (f.on []).few c,
      room,
      sum_by_more (λ o. cond (is_st o) 1 0) (get_or p c []) (place_of s c) Fence there,
      ap {B = ℕ} (λ (b : Bool). cond b 1 0) store,
      sum_by-take-le (λ o. cond (is_st o) 1 0) (get_or p c []) (place_of s c + 1),
    )

    within : c < length s.places
    within = omega (arith, core, (f.on []).places)

    go : (is : (a : ℕ) × (v : ℕ) × (get_or (get_or p c []) (place_of s c) Fence ≡ St a v)) → (t : State)
        × (step_result p capacity fault.None s (Exec c) ≡ Ok t) × HasStored p n capacity s t c 1
    go (a, v, is) =
        let b : ℕ = first_event p c + place_of s c in
        let t : State = advanced (with_buffer s c
        (buffer_of s c ++ record { addr = a; value = v; event = b } ∷ [])) c in
        let did : exec capacity fault.None s c b (St a v) ≡ Ok t =
        rw (lt-ltb (length (buffer_of s c)) capacity fewer) refl in
        let took : step_result p capacity fault.None s (Exec c) ≡ Ok t = at_taken p capacity fault.None s c
        (get_or (get_or p c []) (place_of s c) Fence) b (is_at p s c core there)
        ∙ (ap (exec capacity fault.None s c b) is ∙ did) in (
          t,
          took,
          record {
            fits = goes_further p n capacity s t (Exec c) f took;
            performed = refl;
            place = get_or-set_same s.places c (place_of s c + 1) 0 within;
            caches = refl;
            sum = omega (arith, sum_by-set (λ (x : ℕ). x) s.places c (place_of s c + 1) 0 within);
          },
        )

-- one store, and then more
stored_more : (p : List (List Op)) (n capacity : ℕ) (s u t : State) (c j : ℕ) → HasStored p n capacity s u c 1
    → HasStored p n capacity u t c j → HasStored p n capacity s t c (suc j)
stored_more p n capacity s u t c j one rest = record {
  fits = rest.fits;
  performed = rest.performed ∙ one.performed;
  place = omega (arith, rest.place, one.place);
  caches = rest.caches ∙ one.caches;
  sum = omega (arith, rest.sum, one.sum);
}

-- and any number of them
pub store_all : (p : List (List Op)) (n capacity c j : ℕ) (s : State) → StaysOrderly p n capacity s → c < length p
    → place_of s c + j ≤ length (get_or p c []) → count_by is_st (get_or p c []) ≤ capacity
    → ((i : ℕ) → place_of s c ≤ i → i < place_of s c + j → is_st (get_or (get_or p c []) i Fence) ≡ true)
    → (t : State) × StepsLead p capacity s (replicate j (Exec c)) t × HasStored p n capacity s t c j
store_all p n capacity c zero s f core there room stores = (
  s,
  (tt, refl),
  record {
    fits = f;
    performed = refl;
    place = omega arith;
    caches = refl;
    sum =
        omega arith;
  },
)
store_all p n capacity c (suc j) s f core there room stores =
    let one = store_one p n capacity s c f core (omega (arith, there)) room
    (stores (place_of s c) (omega arith) (omega arith)) in
    let rest = store_all p n capacity c j one.0 one.2.fits core (omega (arith, one.2.place, there)) room
    (λ i from to. stores i (omega (arith, one.2.place, from)) (omega (arith, one.2.place, to))) in (
      rest.0,
      goes_first p capacity s one.0 rest.0 (Exec c) (replicate j (Exec c)) one.1 rest.1,
      stored_more p n capacity s one.0 rest.0 c j one.2 rest.2,
    )

-- Lines

-- a core and an address that are there
has_line : (p : List (List Op)) (s : State) (c a : ℕ) → c < length p → a < length s.caches.blocks
    → has p s c a ≡ true
has_line p s c a core within = rw (lt-ltb c (length p) core, lt-ltb a (length s.caches.blocks) within) refl

-- the steps lead from s to a state with these caches, and nothing else is changed
abbrev pub Fetches : List (List Op) → ℕ → ℕ → State → List Step → moesi.CacheState → Type 0
Fetches p n capacity s steps caches = StepsLead p capacity s steps (with_caches s caches) × StaysOrderly p n capacity
    (with_caches s caches) × (length caches.blocks ≡ length s.caches.blocks)

-- a line of either kind is valid
shared_valid : (q : Bool) → is_valid (cond q line.S line.E) ≡ true
shared_valid true = refl
shared_valid false = refl

module _ (p : List (List Op)) (n capacity : ℕ) (s : State) (f : StaysOrderly p n capacity s) (c a : ℕ)
    (core : c < length p) (within : a < length s.caches.blocks) where
  -- the address has a line for the core
  line_within : c < length (moesi.block_of s.caches a).lines
  line_within = omega (arith, core, (f.on []).lines a (omega (arith, within, (f.on []).blocks)))

  -- a core's new line is that line
  line_new : (k : Block) (l : Line) (d : ℕ × Option ℕ) → length k.lines ≡ length (moesi.block_of s.caches a).lines
      → moesi.line_of (moesi.with_block s.caches a (with_line k c (record { line = l; copy = d }))) c a ≡ l
  line_new k l d size =
      ap (λ (b : Block). (cell_of b c).line) (get_or-set_same s.caches.blocks a
      (with_line k c (record { line = l; copy = d })) (record { lines = []; memory = (0, None) }) within)
      ∙ rw (get_or-set_same k.lines c (record { line = l; copy = d }) invalid (omega (arith, line_within))) refl

  -- a step that is a transaction of the line
  fetched : (step : Step) (u : Block)
      → step_result p capacity fault.None s step ≡ Ok (with_caches s (moesi.with_block s.caches a u))
      → Fetches p n capacity s (step ∷ []) (moesi.with_block s.caches a u)
  fetched step u took = (
    goes_one p capacity s _ step took,
    goes_further p n capacity s _ step f took,
    length-set s.caches.blocks a u,
  )

  -- a core that wants to write a line gets it
  pub fetch_write : (caches : moesi.CacheState) × Fetches p n capacity s (get_to_write s c a) caches
      × (is_exclusive (moesi.line_of caches c a) ≡ true)
  fetch_write = go (is_exclusive (moesi.line_of s.caches c a)) refl
    where
      go : (b : Bool) → is_exclusive (moesi.line_of s.caches c a) ≡ b
          → (caches : moesi.CacheState) × Fetches p n capacity s (cond b [] (GetM c a ∷ [])) caches
          × (is_exclusive (moesi.line_of caches c a) ≡ true)
      go true is = (s.caches, ((tt, refl), f, refl), is)
      go false is =
          let b : Block = moesi.block_of s.caches a in
          let k : Block = block_by (λ x. invalid) b in
          let u : Block = with_line k c (record { line = line.M; copy = supplied b }) in
          let made : moesi.get_m s.caches c a ≡ Ok (moesi.with_block s.caches a u) = rw is refl in (
            moesi.with_block s.caches a u,
            fetched (GetM c a) u (rw (has_line p s c a core within, made) refl),
            ap is_exclusive (line_new k line.M (supplied b) (length-map b.lines (λ x. invalid))),
          )

  -- a core that wants to read a line gets it, unless a store of its own waits
  pub fetch_read : (o : Option Entry) → (caches : moesi.CacheState) × Fetches p n capacity s
      (get_to_read s c a o) caches × ((what : ℕ × Option ℕ)
      × (forwarded_or_read o (moesi.read caches c a) ≡ Ok what))
  fetch_read (Some entry) = (s.caches, ((tt, refl), f, refl), ((entry.value, Some entry.event), refl))
  fetch_read None = go (is_valid (moesi.line_of s.caches c a)) refl
    where
      go : (b : Bool) → is_valid (moesi.line_of s.caches c a) ≡ b
          → (caches : moesi.CacheState) × Fetches p n capacity s (cond b [] (GetS c a ∷ [])) caches
          × ((what : ℕ × Option ℕ) × (moesi.read caches c a ≡ Ok what))
      go true is = (s.caches, ((tt, refl), f, refl), (moesi.copy_of s.caches c a, rw is refl))
      go false is =
          let b : Block = moesi.block_of s.caches a in
          let k : Block = block_by (λ x. record { line = lowered x.line; copy = x.copy }) b in
          let l : Line = cond (has_copy b) line.S line.E in
          let u : Block = with_line k c (record { line = l; copy = supplied b }) in
          let made : moesi.get_s s.caches c a ≡ Ok (moesi.with_block s.caches a u) = rw is refl in
          let valid : is_valid (moesi.line_of (moesi.with_block s.caches a u) c a) ≡ true =
          ap is_valid (line_new k l (supplied b)
          (length-map b.lines (λ x. record { line = lowered x.line; copy = x.copy })))
          ∙ shared_valid (has_copy b) in (
            moesi.with_block s.caches a u,
            fetched (GetS c a) u (rw (has_line p s c a core within, made) refl),
            (moesi.copy_of (moesi.with_block s.caches a u) c a, rw valid refl),
          )

-- a line that may be written takes what is written
pub write_made : (s : moesi.CacheState) (c a value event : ℕ) → is_exclusive (moesi.line_of s c a) ≡ true
    → (caches : moesi.CacheState) × (moesi.write s c a value event ≡ Ok caches)
write_made s c a value event is = (
  moesi.with_block s a (with_line (moesi.block_of s a) c (record { line = line.M; copy = (value, Some event) })),
  rw is refl,
)

-- at most one step gets a line
pub few_write : (s : State) (c a : ℕ) → length (get_to_write s c a) ≤ 1
few_write s c a = go (is_exclusive (moesi.line_of s.caches c a))
  where
    go : (b : Bool) → length (cond b [] (GetM c a ∷ [])) ≤ 1
    go true = omega arith
    go false = omega arith

-- the same to read
pub few_read : (s : State) (c a : ℕ) (o : Option Entry) → length (get_to_read s c a o) ≤ 1
few_read s c a (Some entry) = omega arith
few_read s c a None = go (is_valid (moesi.line_of s.caches c a))
  where
    go : (b : Bool) → length (cond b [] (GetS c a ∷ [])) ≤ 1
    go true = omega arith
    go false = omega arith
