-- The greedy choice of the least shortest cycle.
use Rattle.std.proofs.Common.{◌≡◌, ◌<◌, ◌≤◌, ◌+◌, ◌-◌, inl, inr, ℕ, suc, List, [], ◌∷◌, ◌++◌, Some, None}
use Rattle.std.proofs.Common.{length, get_or, arith, refl, sym, ap, subst, ◌∙◌, length-append}
use Rattle.std.specs.Prelude.{⊤}
use Rattle.std.proofs.lemmas.Bool.{cases_eq, cases_lt}
use Rattle.relations.specs.Cycle.{Leads, IsCycle, IsShortest, ComesFirst, IsLeastCycle, Walk}
use Rattle.relations.specs.Cycle.{IsCappedDistance, AreExactRows}
use Rattle.relations.specs.CycleLaws.{cycle_of_walk, first_more, walk_more}
use Rattle.search.specs.Cycles.{IsShortestLength, IsLeastWith, ClosesAt, IsNextOnCycle}
use Rattle.search.proofs.Walks.{walk_of, walk_of_path, last_step}

-- the last event of a path
abbrev pub last_of : ℕ → List ℕ → ℕ
last_of e [] = e
last_of e (f ∷ fs) = last_of f fs

-- neighbours are related
abbrev pub IsPath : (ℕ → ℕ → Type 0) → ℕ → List ℕ → Type 0
IsPath R e [] = ⊤
IsPath R e (f ∷ fs) = R e f × IsPath R f fs

-- a path and its last pair lead on
leads_of : (R : ℕ → ℕ → Type 0) (e : ℕ) (es : List ℕ) (x : ℕ) → IsPath R e es → R (last_of e es) x
    → Leads R e es x
leads_of R e [] x path r = r
leads_of R e (f ∷ fs) x path r = (path.0, leads_of R f fs x path.1 r)

-- one event more on a path
path_snoc : (R : ℕ → ℕ → Type 0) (e : ℕ) (es : List ℕ) (x : ℕ) → IsPath R e es → R (last_of e es) x
    → IsPath R e (es ++ x ∷ [])
path_snoc R e [] x path r = (r, tt)
path_snoc R e (f ∷ fs) x path r = (path.0, path_snoc R f fs x path.1 r)

-- it is the last then
last_snoc : (e : ℕ) (es : List ℕ) (x : ℕ) → last_of e (es ++ x ∷ []) ≡ x
last_snoc e [] x = refl
last_snoc e (f ∷ fs) x = last_snoc f fs x

-- what leads over an event, in two parts
leads_split : (R : ℕ → ℕ → Type 0) (e : ℕ) (es : List ℕ) (y : ℕ) (ys : List ℕ) (back : ℕ)
    → Leads R e (es ++ y ∷ ys) back → R (last_of e es) y × Leads R y ys back
leads_split R e [] y ys back h = h
leads_split R e (f ∷ fs) y ys back h = leads_split R f fs y ys back h.1

-- a walk, and then along a path
walk_path : (R : ℕ → ℕ → Type 0) (m w e : ℕ) (es : List ℕ) → Walk R m w e → IsPath R e es
    → Walk R (m + length es) w (last_of e es)
walk_path R m w e [] walk path = walk_of R m (m + 0) w e (omega arith) walk
walk_path R m w e (f ∷ fs) walk path =
    walk_of R (suc m + length fs) (m + length (f ∷ fs)) w (last_of f fs) (omega arith)
    (walk_path R (suc m) w f fs (walk_more R m w e f walk path.0) path.1)

-- the events from v that were chosen so far: a way back of what is left, and no shortest cycle comes before
pub record IsGreedy (R : ℕ → ℕ → Type 0) (k v : ℕ) (es : List ℕ) : Type 0 where
  pub path : IsPath R v es
  pub back : (j : ℕ) → j + length es ≡ k → Walk R j (last_of v es) v
  pub first : (d : List ℕ) → IsShortest R d → ComesFirst (v ∷ es) d

module _ (R : ℕ → ℕ → Type 0) (n k : ℕ) (rows : List (List ℕ)) (within : (e f : ℕ) → R e f
    → (e < n) × (f < n)) (exact : AreExactRows R n k rows) (size : IsShortestLength R k) where
  -- no cycle is shorter than the length
  none_shorter : (d : List ℕ) → IsCycle R d → k ≤ length d
  none_shorter d cycle = omega (arith, size.1.shortest d cycle, size.2)

  -- a shortest cycle has the length
  shortest_length : (d : List ℕ) → IsShortest R d → length d ≡ k
  shortest_length d h = omega (arith, none_shorter d h.cycle, h.shortest size.0 size.1.cycle, size.2)

  -- a shortest cycle's first event closes it
  starts : (label v : ℕ) (es : List ℕ) → label + 1 ≡ k → IsShortest R (v ∷ es)
      → (v < n) × ClosesAt R v (get_or rows v []) label
  starts label v es is h =
      let last : (l : ℕ) × Walk R (length es) v l × R l v = last_step R v es v h.cycle in
      let v_in : v < n = (within last.0 v last.2).1 in
      let d : IsCappedDistance R k v last.0 (get_or (get_or rows v []) last.0 0) =
      (exact.exact v v_in).labels last.0 (within last.0 v last.2).0 in
      let upper : get_or (get_or rows v []) last.0 0 ≤ label =
      omega (arith, d.least (length es) last.1, shortest_length (v ∷ es) h, is) in
      let c : (c : List ℕ) × IsCycle R c × (length c ≡ get_or (get_or rows v []) last.0 0 + 1) =
      cycle_of_walk R (get_or (get_or rows v []) last.0 0) v last.0 (d.walk (omega (arith, upper, is)))
      last.2 in
      (v_in, (last.0, last.2, omega (arith, upper, is, c.2, none_shorter c.0 c.1)))

  -- some event closes a cycle
  pub first_exists : (label : ℕ) → label + 1 ≡ k
      → IsLeastWith (λ v. ClosesAt R v (get_or rows v []) label) n None → ⊥
  first_exists label is none = go size.0 size.1
    where
      go : (d : List ℕ) → IsShortest R d → ⊥
      go [] h = elim h.cycle [ ]
      go (v ∷ es) h = let s : (v < n) × ClosesAt R v (get_or rows v []) label = starts label v es is h in
          none v s.0 s.1

  -- the least such event begins
  pub greedy_start : (label v : ℕ) → label + 1 ≡ k
      → IsLeastWith (λ v. ClosesAt R v (get_or rows v []) label) n (Some v) → IsGreedy R k v []
  greedy_start label v is least = record { path = tt; back = back; first = first }
    where
      back : (j : ℕ) → j + 0 ≡ k → Walk R j v v
      back j all =
          let e : ℕ = least.1.0 in
          let d : IsCappedDistance R k v e (get_or (get_or rows v []) e 0) =
          (exact.exact v least.0).labels e (within e v least.1.1).0 in
          walk_of R (suc (get_or (get_or rows v []) e 0)) j v v (omega (arith, all, is, least.1.2))
          (walk_more R (get_or (get_or rows v []) e 0) v e v (d.walk (omega (arith, is, least.1.2)))
          least.1.1)

      first : (d : List ℕ) → IsShortest R d → ComesFirst (v ∷ []) d
      first [] h = elim h.cycle [ ]
      first (w ∷ ws) h =
          let s : (w < n) × ClosesAt R w (get_or rows w []) label = starts label w ws is h in
          elim (cases_lt w v) [
            | inl smaller ↦ absurd (least.2 w smaller s.1)
            | inr more ↦ elim (cases_eq v w) [
              | inl same ↦ inr (same, tt)
              | inr other ↦ inl (omega (arith, more, other))
            ]
          ]

  -- what goes on along a shortest cycle is exactly what is left away from the first event
  goes_on : (v : ℕ) (es : List ℕ) (left f : ℕ) → suc left + length es ≡ k → IsPath R v es → v < n
      → R (last_of v es) f → Walk R left f v → IsNextOnCycle R rows (last_of v es) v left f
  goes_on v es left f is path v_in r w =
      let d : IsCappedDistance R k f v (get_or (get_or rows f []) v 0) =
      (exact.exact f (within (last_of v es) f r).1).labels v v_in in
      let upper : get_or (get_or rows f []) v 0 ≤ left = d.least left w in
      let c : (c : List ℕ) × IsCycle R c × (length c ≡ (get_or (get_or rows f []) v 0 + length es) + 1) =
      cycle_of_walk R (get_or (get_or rows f []) v 0 + length es) f (last_of v es)
      (walk_path R (get_or (get_or rows f []) v 0) f v es (d.walk (omega (arith, upper, is))) path) r in
      (r, omega (arith, upper, is, c.2, none_shorter c.0 c.1))

  -- some event goes on
  pub next_exists : (v : ℕ) (es : List ℕ) (left : ℕ) → v < n → suc left + length es ≡ k → IsGreedy R k v es
      → IsLeastWith (IsNextOnCycle R rows (last_of v es) v left) n None → ⊥
  next_exists v es left v_in is g none =
      let w : Walk R (suc left) (last_of v es) v = g.back (suc left) is in
      none w.0 (within (last_of v es) w.0 w.1).1 (goes_on v es left w.0 is g.path v_in w.1 w.2)

  -- the least such event goes on
  pub greedy_more : (v : ℕ) (es : List ℕ) (left f : ℕ) → v < n → 0 < left → suc left + length es ≡ k
      → IsGreedy R k v es → IsLeastWith (IsNextOnCycle R rows (last_of v es) v left) n (Some f)
      → IsGreedy R k v (es ++ f ∷ [])
  greedy_more v es left f v_in some is g least = record {
    path = path_snoc R v es f g.path least.1.0;
    back = back;
    first = λ d h. first_more (v ∷ es) f d (g.first d h) (omega (arith, shortest_length d h, is, some))
        (λ y ys split. smallest d h y ys split);
  }
    where
      back : (j : ℕ) → j + length (es ++ f ∷ []) ≡ k → Walk R j (last_of v (es ++ f ∷ [])) v
      back j all =
          let d : IsCappedDistance R k f v (get_or (get_or rows f []) v 0) =
          (exact.exact f least.0).labels v v_in in
          subst (λ (x : ℕ). Walk R j x v) (sym (last_snoc v es f))
          (walk_of R (get_or (get_or rows f []) v 0) j f v
          (omega (arith, all, is, least.1.1, length-append es (f ∷ [])))
          (d.walk (omega (arith, is, least.1.1))))

      smallest : (d : List ℕ) → IsShortest R d → (y : ℕ) (ys : List ℕ) → d ≡ (v ∷ es) ++ y ∷ ys → f ≤ y
      smallest d h y ys split =
          let parts : R (last_of v es) y × Leads R y ys v =
          leads_split R v es y ys v (subst (λ (c : List ℕ). IsCycle R c) split h.cycle) in
          let long : length ys + 1 ≡ left =
          omega (
            arith,
            shortest_length d h,
            is,
            ap (λ (c : List ℕ). length c) split,
            length-append (v ∷ es) (y ∷ ys),
          ) in
          elim (cases_lt y f) [
            | inl smaller ↦ absurd (least.2 y smaller
                (goes_on v es left y is g.path v_in parts.0
                (walk_of R (suc (length ys)) left y v (omega (arith, long)) (walk_of_path R y ys v parts.1))))
            | inr more ↦ more
          ]

  -- with the last event chosen it is the least cycle
  pub greedy_end : (v : ℕ) (es : List ℕ) → 1 + length es ≡ k → IsGreedy R k v es → IsLeastCycle R (v ∷ es)
  greedy_end v es is g =
      let w : Walk R (suc 0) (last_of v es) v = g.back 1 is in
      record {
        shortest = record {
          cycle =
              leads_of R v es v g.path (subst (λ (x : ℕ). R (last_of v es) x) w.2 w.1);
          shortest =
              λ d cycle. omega (arith, none_shorter d cycle, is);
        };
        least = g.first;
      }

-- a cycle has an event
pub cycle_long : (R : ℕ → ℕ → Type 0) (k : ℕ) → IsShortestLength R k → 0 < k
cycle_long R k size = go size.0 size.1 size.2
  where
    go : (d : List ℕ) → IsShortest R d → length d ≡ k → 0 < k
    go [] h is = elim h.cycle [ ]
    go (v ∷ es) h is = omega (arith, is)

-- the list so far, its last event, and how many more are to come
abbrev pub IsChosen : (ℕ → ℕ → Type 0) → ℕ → ℕ → ℕ → ℕ → ℕ → List ℕ → Type 0
IsChosen R n k first last left items =
    (es : List ℕ) × (items ≡ first ∷ es) × (suc left + length es ≡ k) × (last ≡ last_of first es) × (last < n)
    × IsGreedy R k first es

-- some event goes on after the list
pub chosen_exists : (R : ℕ → ℕ → Type 0) (n k : ℕ) (rows : List (List ℕ))
    → ((e f : ℕ) → R e f → (e < n) × (f < n)) → AreExactRows R n k rows → IsShortestLength R k
    → (first last left : ℕ) (items : List ℕ) → first < n → IsChosen R n k first last left items
    → IsLeastWith (IsNextOnCycle R rows last first left) n None → ⊥
chosen_exists R n k rows within exact size first last left items in_n h none =
    next_exists R n k rows within exact size first h.0 left in_n h.2 h.5
    (subst (λ (l : ℕ). IsLeastWith (IsNextOnCycle R rows l first left) n None) h.3 none)

-- the least such event after the list
pub chosen_more : (R : ℕ → ℕ → Type 0) (n k : ℕ) (rows : List (List ℕ))
    → ((e f : ℕ) → R e f → (e < n) × (f < n)) → AreExactRows R n k rows → IsShortestLength R k
    → (first last left f : ℕ) (items more : List ℕ) → first < n → 0 < left → more ≡ items ++ f ∷ []
    → IsChosen R n k first last left items → IsLeastWith (IsNextOnCycle R rows last first left) n (Some f)
    → IsChosen R n k first f (left - 1) more
chosen_more R n k rows within exact size first last left f items more in_n some is h least = (
  h.0 ++ f ∷ [],
  is ∙ ap (λ (xs : List ℕ). xs ++ f ∷ []) h.1,
  omega (arith, h.2, some, length-append h.0 (f ∷ [])),
  sym (last_snoc first h.0 f),
  least.0,
  greedy_more R n k rows within exact size first h.0 left f in_n some h.2 h.5
      (subst (λ (l : ℕ). IsLeastWith (IsNextOnCycle R rows l first left) n (Some f)) h.3 least),
)
