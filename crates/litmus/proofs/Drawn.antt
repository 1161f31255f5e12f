-- What random words make keeps the limits of a program.
use Rattle.std.proofs.Common.{◌≡◌, ℕ, ◌+◌, ◌/◌, ◌%◌, ◌<◌, ◌≤◌, ◌==◌, ◌^◌, ◌⊎◌, ◌||◌, ◌≢◌, ne_eqb, nat_lt, nat_eq, List}
use Rattle.std.proofs.Common.{[], ◌∷◌, ◌++◌, map, length, codes, decimal, Bool, true, false, cond, Some, inl, inr, refl}
use Rattle.std.proofs.Common.{arith, sym, ap, ◌∙◌, subst, eqb-true}
use Rattle.std.specs.List.{AllByRecursion, IsDistinct, list_any}
use Rattle.std.specs.Cmp.{nat_eq_equiv}
use Rattle.std.proofs.lemmas.Bool.{cases_Bool, false≢true}
use Rattle.std.proofs.lemmas.List.{length-append, append-nil, length-map}
use Rattle.std.proofs.lemmas.Map.Keys.{IsDistinct-push}
use Rattle.std.proofs.lemmas.Map.Steps.{length-le_from_distinct_below}
use Rattle.program.specs.declared.name.Name.{Name}
use Rattle.program.specs.declared.op.Op.{Op}
use Rattle.program.specs.declared.op.Op.TheVariants.{St, Ld, Fence, Swap, Add}
use Rattle.common.specs.declared.limits.TheConstants.{MAX_CORES, MAX_EVENTS, MAX_ADDRESSES}
use Rattle.program.specs.AddressNames.{address_name}
use Rattle.program.specs.Names.{name_eq, name_of, name_text, names_with, name_number}
use Rattle.program.specs.Parts.{Small, Body, op_count, addr_of, use_addr}
use Rattle.litmus.specs.Steps.{empty, with_op}
use Rattle.litmus.specs.Random.{IsDrawn, drawn_op, with_fence, with_access, with_word, with_core}
use Rattle.program.specs.AddressNameLaws.{name_is}
use Rattle.program.specs.NameLaws.{name_again, name_laws}
use Rattle.program.specs.NameListLaws.{all_push}
use Rattle.litmus.proofs.OneName.{one_name}
use Rattle.litmus.proofs.OneMore.{count-append, grown, last_core, use_cores-push, with_op-is}
use Rattle.program.proofs.CoreLemmas.{Cores}

-- ---- the addresses that are drawn

-- neither this nor a later one
none_in : (a b : Bool) → (a || b) ≡ false → (a ≡ false) × (b ≡ false)
none_in true b h = absurd cc
none_in false b h = (refl, h)

-- this or a later one
some_in : (a b : Bool) → (a || b) ≡ true → (a ≡ true) ⊎ (b ≡ true)
some_in true b h = inl refl
some_in false b h = inr h

-- the name of a number is not another's, so the number is not
not_same : (d e : ℕ) → name_eq (address_name d) (address_name e) ≡ false → nat_eq d e ≡ false
not_same d e h = elim (cases_Bool (nat_eq d e)) [
  | inr other ↦ other
  | inl same ↦ absurd (false≢true (sym h
      ∙ subst (λ (k : ℕ). name_eq (address_name d) (address_name k) ≡ true) (eqb-true d e same)
      (name_laws.refl (address_name d))))
]

-- a number whose name is not among the names is not among the numbers
not_drawn : (ds : List ℕ) (d : ℕ) → list_any (name_eq (address_name d)) (map address_name ds) ≡ false
    → list_any (nat_eq d) ds ≡ false
not_drawn [] d h = refl
not_drawn (e ∷ ds) d h =
    let both = none_in (name_eq (address_name d) (address_name e))
    (list_any (name_eq (address_name d)) (map address_name ds)) h in
    rw (not_same d e both.0) (not_drawn ds d both.1)

-- numbers below a limit
is_below : (ds : List ℕ) (n q : ℕ) → AllByRecursion (λ d. d < n) ds → list_any (nat_eq q) ds ≡ true → q < n
is_below [] n q h there = absurd (false≢true there)
is_below (e ∷ ds) n q h there = elim (some_in (nat_eq q e) (list_any (nat_eq q) ds) there) [
  | inl this ↦ let same : q ≡ e = eqb-true q e this in omega (arith, same, h.0)
  | inr later ↦ is_below ds n q h.1 later
]

-- there are no more names than addresses
few_drawn : (n : ℕ) (ds : List ℕ) → IsDistinct nat_eq ds → AllByRecursion (λ d. d < n) ds
    → length (map address_name ds) ≤ n
few_drawn n ds distinct below =
    omega (
      arith,
      length-map ds address_name,
      length-le_from_distinct_below ds n distinct (λ q. is_below ds n q below),
    )

-- the name of a small number is the name of a text
named : (d : ℕ) → d < MAX_ADDRESSES → name_of (name_text (address_name d)) ≡ Some (address_name d)
named d small = name_again (codes "a" ++ decimal d) (address_name d) (name_is d (omega (arith, small)))

-- the numbers with one more that may be new
record More (n : ℕ) (names : List Name) : Type 0 where
  drawn : List ℕ
  names_are : names ≡ map address_name drawn
  distinct : IsDistinct nat_eq drawn
  below : AllByRecursion (λ d. d < n) drawn

-- names at the end
map_push : (ds : List ℕ) (d : ℕ) → map address_name (ds ++ d ∷ [])
    ≡ map address_name ds ++ address_name d ∷ []
map_push [] d = refl
map_push (e ∷ ds) d = ap (λ (l : List Name). address_name e ∷ l) (map_push ds d)

-- one address more is drawn
one_more : (n d : ℕ) (ds : List ℕ) → IsDistinct nat_eq ds → AllByRecursion (λ k. k < n) ds → d < n
    → More n (names_with (map address_name ds) (address_name d))
one_more n d ds distinct below small = by (list_any (name_eq (address_name d)) (map address_name ds)) refl
  where
    by : (b : Bool) → list_any (name_eq (address_name d)) (map address_name ds) ≡ b
        → More n (names_with (map address_name ds) (address_name d))
    by true there = rw there (record { drawn = ds; names_are = refl; distinct = distinct; below = below })
    by false new = rw new (record {
      drawn = ds ++ d ∷ [];
      names_are = sym (map_push ds d);
      distinct = IsDistinct-push nat_eq_equiv ds d distinct (not_drawn ds d new);
      below = all_push (λ k. k < n) ds d below small;
    })

-- ---- an operation that is drawn

-- the address of a drawn operation
addr_drawn : (word e a : ℕ) → addr_of (drawn_op word e a) ≡ Some a
addr_drawn word e a = by (nat_lt (word % 8) 3) (nat_lt (word % 8) 6) (word / 8 % 2 == 0)
  where
    by : (p q r : Bool) → addr_of (cond p (Ld a)
        (cond q (St a (e + 1)) (cond r (Swap a (e + 1)) (Add a (e + 1))))) ≡ Some a
    by true q r = refl
    by false true r = refl
    by false false true = refl
    by false false false = refl

-- the value of a drawn operation
small_drawn : (word e a : ℕ) → e < MAX_EVENTS → Small (drawn_op word e a)
small_drawn word e a less = by (nat_lt (word % 8) 3) (nat_lt (word % 8) 6) (word / 8 % 2 == 0)
  where
    fits : e + 1 < 2 ^ 32
    fits = omega (arith, less)

    by : (p q r : Bool) → Small (cond p (Ld a)
        (cond q (St a (e + 1)) (cond r (Swap a (e + 1)) (Add a (e + 1)))))
    by true q r = tt
    by false true r = fits
    by false false true = fits
    by false false false = fits

-- ---- one word more

-- a fence keeps it
keeps_fence : (n : ℕ) (p : Body) → IsDrawn n p → 0 < length p.cores → op_count p.cores < MAX_EVENTS
    → IsDrawn n (with_fence p)
keeps_fence n p h some room =
    let g = grown p.names p.names [] p.cores Fence h.body some room (sym (append-nil p.names))
    refl h.body.few_names h.body.lawful h.body.distinct tt in
    record { body = g.body; drawn = h.drawn; names = h.names; distinct = h.distinct; below = h.below }

-- an access keeps it
keeps_access : (n : ℕ) (p : Body) (word d : ℕ) → n ≤ MAX_ADDRESSES → IsDrawn n p → 0 < length p.cores
    → op_count p.cores < MAX_EVENTS → d < n → IsDrawn n (with_access p word d)
keeps_access n p word d limit h some room low =
    let name = address_name d in
    let more = names_with p.names name in
    let a = name_number p.names name in
    let op = drawn_op word (op_count p.cores) a in
    let drawn : More n more =
    subst (λ (names : List Name). More n (names_with names name)) (sym h.names)
    (one_more n d h.drawn h.distinct h.below low) in
    let few : length more ≤ n =
    subst (λ (names : List Name). length names ≤ n) (sym drawn.names_are)
    (few_drawn n drawn.drawn drawn.distinct drawn.below) in
    let m = one_name p.names name h.body.lawful h.body.distinct (named d (omega (arith, low, limit))) in
    let used : use_addr (length p.names) (addr_of op) ≡ Some (length more) =
    rw (addr_drawn word (op_count p.cores) a) m.used in
    let g = grown p.names more m.extra p.cores op h.body some room m.kept used (omega (arith, few, limit))
    m.lawful m.distinct (small_drawn word (op_count p.cores) a room) in
    record {
      body = g.body;
      drawn = drawn.drawn;
      names = drawn.names_are;
      distinct =
          drawn.distinct;
      below = drawn.below;
    }

-- one word keeps it
pub keeps_word : (n : ℕ) (p : Body) (word : ℕ) → 0 < n → n ≤ MAX_ADDRESSES → IsDrawn n p → 0 < length p.cores
    → op_count p.cores < MAX_EVENTS → IsDrawn n (with_word n p word)
keeps_word n p word some_address limit h some room = by (word % 8 == 6)
  where
    by : (b : Bool) → IsDrawn n (cond b (with_fence p) (with_access p word (word / 16 % n)))
    by true = keeps_fence n p h some room
    by false = keeps_access n p word (word / 16 % n) limit h some room (omega (arith, some_address))

-- one core more keeps it
pub keeps_core : (n : ℕ) (p : Body) → IsDrawn n p → length p.cores < MAX_CORES → IsDrawn n (with_core p)
keeps_core n p h few = record {
  body = record {
    few_cores = omega (arith, few, length-append p.cores ([] ∷ []));
    few_ops = omega (arith, h.body.few_ops, count-append p.cores []);
    few_names = h.body.few_names;
    values = all_push (AllByRecursion Small) p.cores [] h.body.values tt;
    lawful = h.body.lawful;
    distinct = h.body.distinct;
    numbered = use_cores-push 0 p.cores [] ∙ rw h.body.numbered refl;
  };
  drawn = h.drawn;
  names = h.names;
  distinct = h.distinct;
  below = h.below;
}

-- nothing is drawn at first
pub keeps_empty : (n : ℕ) → IsDrawn n empty
unfolding IsDistinct
keeps_empty n = record {
  body = record {
    few_cores = omega arith;
    few_ops = omega arith;
    few_names = omega arith;
    values = tt;
    lawful = tt;
    distinct = tt;
    numbered = refl;
  };
  drawn = [];
  names = refl;
  distinct = tt;
  below = tt;
}

-- ---- how many operations and cores there are

-- one operation more
count_with : (cores : Cores) (op : Op) → 0 < length cores
    → (op_count (with_op cores op) ≡ op_count cores + 1) × (length (with_op cores op) ≡ length cores)
count_with cores op some =
    let parts = last_core cores some in
    let front = parts.0 in
    let last = parts.1 in
    let after : with_op cores op ≡ front ++ (last ++ op ∷ []) ∷ [] =
    ap (λ (cs : Cores). with_op cs op) parts.2 ∙ with_op-is front last op in
    let old : op_count cores ≡ op_count front + length last =
    ap (λ (cs : Cores). op_count cs) parts.2 ∙ count-append front last in
    let new : op_count (with_op cores op) ≡ op_count front + length (last ++ op ∷ []) =
    ap (λ (cs : Cores). op_count cs) after ∙ count-append front (last ++ op ∷ []) in
    let some_front : length cores ≡ length (front ++ last ∷ []) = ap (λ (cs : Cores). length cs) parts.2 in
    let new_front : length (with_op cores op) ≡ length (front ++ (last ++ op ∷ []) ∷ []) =
    ap (λ (cs : Cores). length cs) after in (
      omega (arith, old, new, length-append last (op ∷ [])),
      omega (
        arith,
        some_front,
        new_front,
        length-append front (last ∷ []),
        length-append front ((last ++ op ∷ []) ∷ []),
      ),
    )

-- after one word
pub count_word : (n : ℕ) (p : Body) (word : ℕ) → 0 < length p.cores
    → (op_count (with_word n p word).cores ≡ op_count p.cores + 1)
    × (length (with_word n p word).cores ≡ length p.cores)
count_word n p word some = by (word % 8 == 6)
  where
    by : (b : Bool) → (op_count (cond b (with_fence p) (with_access p word (word / 16 % n))).cores
        ≡ op_count p.cores + 1) × (length (cond b (with_fence p) (with_access p word (word / 16 % n))).cores
        ≡ length p.cores)
    by true = count_with p.cores Fence some
    by false = count_with p.cores (drawn_op word (op_count p.cores)
        (name_number p.names (address_name (word / 16 % n)))) some

-- after one core
pub count_core : (p : Body) → (op_count (with_core p).cores ≡ op_count p.cores)
    × (length (with_core p).cores ≡ length p.cores + 1)
count_core p = (omega (arith, count-append p.cores []), length-append p.cores ([] ∷ []))

-- an access, part by part
pub access_is : (n word e a : ℕ) (old : Body) (names : List Name) (cores : Cores) (name : Name)
    → word % 8 ≢ 6
    → name ≡ address_name (word / 16 % n) → names ≡ names_with old.names name → a ≡ name_number old.names name
    → e ≡ op_count old.cores
    → cores ≡ with_op old.cores (drawn_op word e a)
    → (let p : Body = record { names = names; cores = cores } in p) ≡ with_word n old word
access_is n word e a old names cores name other this more number event after =
    let no_fence : (word % 8 == 6) ≡ false = ne_eqb (word % 8) 6 other in
    rw (no_fence, more, after, number, event, this) refl
