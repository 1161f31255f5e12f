-- What a search has seen, as it goes on.
use Rattle.std.proofs.Common.{◌≡◌, ◌<◌, ◌≤◌, ◌+◌, ◌⊎◌, ◌∙◌, inl, inr, ℕ, Bool, true, false, Option, Some, None, List}
use Rattle.std.proofs.Common.{[], ◌∷◌, ◌++◌, length, get_or, slice_get, slice_set, arith, refl, sym, ap, subst}
use Rattle.std.proofs.Common.{option_and_then, take, ◌-◌, length-append, length-set, get_or-set_same, get_or-set_other}
use Rattle.std.specs.List.{All, Contains, IsDistinct, list_any}
use Rattle.std.proofs.lemmas.Bool.{cases_lt, cases_eq}
use Rattle.std.proofs.lemmas.List.{get_or_append_left, get_or_push, get_or_past, take-append-le, take_all}
use Rattle.std.proofs.lemmas.List.Elements.{All-nil, All-push, All-contains, Contains-get_or}
use Rattle.std.proofs.lemmas.Map.Keys.{IsDistinct-from_apart, IsDistinct-push}
use Rattle.std.proofs.lemmas.Option.{same_Some, slice_get-get_or, slice_get_within, get_or_from_slice_get}
use Rattle.recording.specs.declared.event.Event.{Event}
use Rattle.recording.specs.declared.event.Event.TheVariants.{L, S, R, C, F}
use Rattle.recording.specs.Event.{written_address}
use Rattle.completion.specs.declared.moves.Move.{Move}
use Rattle.completion.specs.declared.moves.Move.TheVariants.{Modify, Drain}
use Rattle.completion.specs.declared.moves.Turn.{Turn}
use Rattle.completion.specs.declared.seen.Seen.{Seen}
use Rattle.values.specs.Values.{Values}
use Rattle.completion.specs.Situation.{moved, beginning, modified_next, IsEnd}
use Rattle.situations.specs.Situation.{Situation}
use Rattle.situations.specs.Row.{SeenRows, same_situation}
use Rattle.completion.specs.Search.{IsHopeless}
use Rattle.completion.specs.Reachable.{Leads, here, further, after_moves, HasMore}
use Rattle.completion.specs.Seen.{HasNumber, IsDead, IsTaken, IsVain, AreSearched, Grows, turn_of}
use Rattle.completion.proofs.Rank.{rank, most_rank, further_on}
use Rattle.situations.proofs.SeenRows.{same_equiv}
use Rattle.completion.proofs.SameRows.{moved_past}

-- Moves that are listed

-- an event that writes nothing is no read-modify-write
pub no_write : (v : Values) (r : Situation) (c : ℕ) (ev : Event) → written_address ev ≡ None
    → modified_next v r c (Some ev) ≡ None
no_write v r c (L a x s) h = refl
no_write v r c (S a w) h = refl
no_write v r c (R a x s w) h = absurd cc
no_write v r c (C a x s) h = refl
no_write v r c F h = refl

-- what is among some is among more
pub taken_more : (v : Values) (r : Situation) (old new : List Turn) (move : Move) (c : ℕ)
    → ((t : Turn) → Contains old t → Contains new t) → IsTaken v r old move c → IsTaken v r new move c
taken_more v r old new move c more (inl early) = inl early
taken_more v r old new move c more (inr (inl never)) = inr (inl never)
taken_more v r old new move c more (inr (inr there)) = inr (inr (more (turn_of move c) there))

-- the moves of one core more
pub last_taken : (v : Values) (r : Situation) (turns : List Turn) (core : ℕ)
    → ((move : Move) (c : ℕ) → c < core → IsTaken v r turns move c) → IsTaken v r turns Modify core
    → IsTaken v r turns Drain core → (move : Move) (c : ℕ) → c < core + 1 → IsTaken v r turns move c
last_taken v r turns core before modify drain move c low = elim (cases_eq c core) [
  | inl own ↦ subst (λ (k : ℕ). IsTaken v r turns move k) (sym own) (go move)
  | inr other ↦ before move c (omega (arith, low, other))
]
  where
    go : (m : Move) → IsTaken v r turns m core
    go Modify = modify
    go Drain = drain

-- What was seen grows

pub grows_same : (seen : Seen) → Grows seen seen
grows_same seen = record { rows = λ r i h. h; dead = λ i h. h }

pub grows_on : (a b d : Seen) → Grows a b → Grows b d → Grows a d
grows_on a b d g h = record { rows = λ r i at. h.rows r i (g.rows r i at); dead = λ i at. h.dead i (g.dead i at) }

-- what is dead stays dead
pub dead_still : (old new : Seen) (r : Situation) → Grows old new → IsDead old r → IsDead new r
dead_still old new r g (i, at, flag) = (i, g.rows r i at, g.dead i flag)

-- what is vain stays vain
pub vain_still : (v : Values) (old new : Seen) (r : Situation) (move : Move) (c : ℕ) → Grows old new
    → IsVain v old r move c → IsVain v new r move c
vain_still v old new r move c g (inl early) = inl early
vain_still v old new r move c g (inr leads) = inr (λ s is. go s (leads s is))
  where
    go : (s : Situation) → IsHopeless v.cores s ⊎ IsDead old s → IsHopeless v.cores s ⊎ IsDead new s
    go s (inl hopeless) = inl hopeless
    go s (inr dead) = inr (dead_still old new s g dead)

-- a move that can't be made is vain
pub vain_never : (v : Values) (seen : Seen) (r : Situation) (move : Move) (c : ℕ) → moved v r move c ≡ None
    → IsVain v seen r move c
vain_never v seen r move c none = inr (λ s is. let clash : None ≡ Some s = sym none ∙ is in absurd cc)

-- where those that are listed are vain, all are
pub all_vain : (v : Values) (seen : Seen) (r : Situation) (turns : List Turn)
    → ((move : Move) (c : ℕ) → c < length v.cores → IsTaken v r turns move c)
    → ((t : Turn) → Contains turns t → IsVain v seen r t.step t.core) → (move : Move) (c : ℕ)
    → IsVain v seen r move c
all_vain v seen r turns taken vain move c = elim (cases_lt c (length v.cores)) [
  | inl core ↦ go (taken move c core)
  | inr past ↦ inr (λ s is. absurd (omega (arith, moved_past v r s move c past is)))
]
  where
    go : IsTaken v r turns move c → IsVain v seen r move c
    go (inl early) = inl early
    go (inr (inl never)) = vain_never v seen r move c never
    go (inr (inr there)) = vain (turn_of move c) there

-- Ways

-- turns lead on
pub leads_on : (v : Values) (b r s : Situation) (turns : List Turn) → Leads v b r → after_moves v r turns ≡ Some s
    → Leads v b s
leads_on v b r s [] led is = subst (λ (z : Situation). Leads v b z) (same_Some r s is) led
leads_on v b r s (t ∷ ts) led is =
    go (moved v r t.step t.core) refl is (λ u step. leads_on v b u s ts (further r u t.step t.core led step))
  where
    go : (o : Option Situation) → moved v r t.step t.core ≡ o → option_and_then (λ z. after_moves v z ts) o ≡ Some s
        → ((u : Situation) → moved v r t.step t.core ≡ Some u → after_moves v u ts ≡ Some s → Leads v b s) → Leads v b s
    go None step none rest = let clash : None ≡ Some s = none in absurd cc
    go (Some u) step some rest = rest u step some

-- with one turn more
pub after_more : (v : Values) (r s : Situation) (turns : List Turn) (t : Turn) → after_moves v r turns ≡ Some s
    → after_moves v r (turns ++ t ∷ []) ≡ moved v s t.step t.core
after_more v r s [] t is =
    ap (λ (z : Situation). option_and_then (λ y. Some y) (moved v z t.step t.core)) (same_Some r s is)
    ∙ whole (moved v s t.step t.core)
  where
    whole : (o : Option Situation) → option_and_then (λ y. Some y) o ≡ o
    whole None = refl
    whole (Some y) = refl
after_more v r s (u ∷ ts) t is = go (moved v r u.step u.core) is (λ y. after_more v y s ts t)
  where
    go : (o : Option Situation) → option_and_then (λ z. after_moves v z ts) o ≡ Some s
        → ((y : Situation) → after_moves v y ts ≡ Some s → after_moves v y (ts ++ t ∷ []) ≡ moved v s t.step t.core)
        → option_and_then (λ z. after_moves v z (ts ++ t ∷ [])) o ≡ moved v s t.step t.core
    go None none rest = let clash : None ≡ Some s = none in absurd cc
    go (Some y) some rest = rest y some

-- A situation that was not seen

module _ (v : Values) (seen : Seen) (r : Situation) (old : AreSearched v seen) (led : Leads v (beginning v) r)
    (fresh : list_any (same_situation r) seen.rows.keys ≡ false) where
  -- as many as the limit, and one more
  pub one_too_many : (limit : ℕ) → limit ≤ length seen.rows.keys → HasMore v limit
  one_too_many limit full = record {
    rows = seen.rows.keys ++ r ∷ [];
    reached = All-push (Leads v (beginning v)) seen.rows.keys r old.reached led;
    different = IsDistinct-push same_equiv seen.rows.keys r old.different fresh;
    many = omega (arith, full, length-append seen.rows.keys (r ∷ []));
  }

  module _ (new : Seen) (no_end : ¬ IsEnd v r) (is : new.rows ≡ record seen.rows { keys = seen.rows.keys ++ r ∷ [] })
      (dead : new.dead.items ≡ seen.dead.items ++ false ∷ []) where
    rows : new.rows.keys ≡ seen.rows.keys ++ r ∷ []
    rows = ap (λ (z : SeenRows). z.keys) is

    -- what was seen keeps its number
    number_still : (s : Situation) (i : ℕ) → HasNumber seen s i → HasNumber new s i
    number_still s i at =
        let inside : i < length seen.rows.keys = slice_get_within seen.rows.keys i s at in
        ap (λ (l : List Situation). slice_get l i) rows
        ∙ (slice_get-get_or (seen.rows.keys ++ r ∷ []) i s
        (omega (arith, inside, length-append seen.rows.keys (r ∷ [])))
        ∙ ap (λ (z : Situation). Some z) (get_or_append_left seen.rows.keys (r ∷ []) s i inside
        ∙ get_or_from_slice_get seen.rows.keys i s s at))

    -- and its mark
    mark_still : (i : ℕ) → get_or seen.dead.items i false ≡ true → get_or new.dead.items i false ≡ true
    mark_still i flag = elim (cases_lt i (length seen.dead.items)) [
      | inl inside ↦ ap (λ (l : List Bool). get_or l i false) dead
          ∙ (get_or_append_left seen.dead.items (false ∷ []) false i inside ∙ flag)
      | inr past ↦ absurd (let clash : false ≡ true =
          sym (get_or_past seen.dead.items i false past) ∙ flag in cc)
    ]

    pub added_grows : Grows seen new
    added_grows = record { rows = number_still; dead = mark_still }

    -- what is dead was dead
    was_dead : (s : Situation) → IsDead new s → IsDead seen s
    was_dead s (i, at, flag) = elim (cases_lt i (length seen.dead.items)) [
      | inl inside ↦
          let there : i < length seen.rows.keys = omega (arith, inside, old.size) in (
            i,
            slice_get-get_or seen.rows.keys i s there
                ∙ ap (λ (z : Situation). Some z) (sym (get_or_append_left seen.rows.keys (r ∷ []) s i there)
                ∙ (ap (λ (l : List Situation). get_or l i s) (sym rows)
                ∙ get_or_from_slice_get new.rows.keys i s s at)),
            sym (get_or_append_left seen.dead.items (false ∷ []) false i inside)
                ∙ (ap (λ (l : List Bool). get_or l i false) (sym dead) ∙ flag),
          )
      | inr past ↦ absurd (go past (cases_eq i (length seen.dead.items)))
    ]
      where
        go : length seen.dead.items ≤ i → (i ≡ length seen.dead.items) ⊎ (i ≡ length seen.dead.items → ⊥) → ⊥
        go past (inl last) =
            let clash : false ≡ true =
            sym (ap (λ (l : List Bool). get_or l i false) dead
            ∙ get_or_push seen.dead.items false false i (sym last)) ∙ flag in absurd cc
        go past (inr other) =
            let clash : false ≡ true =
            sym (ap (λ (l : List Bool). get_or l i false) dead
            ∙ get_or_past (seen.dead.items ++ false ∷ []) i false
            (omega (arith, past, other, length-append seen.dead.items (false ∷ [])))) ∙ flag in absurd cc

    pub added_searched : AreSearched v new
    added_searched = record {
      cores = ap (λ (z : SeenRows). z.cores) is ∙ old.cores;
      addresses = ap (λ (z : SeenRows). z.addresses) is ∙ old.addresses;
      notes = ap (λ (z : SeenRows). z.notes) is ∙ old.notes;
      size = ap (λ (l : List Bool). length l) dead
          ∙ omega (
            arith,
            old.size,
            ap (λ (l : List Situation). length l) rows,
            length-append seen.dead.items (false ∷ []),
            length-append seen.rows.keys (r ∷ []),
          );
      reached = subst (All (Leads v (beginning v))) (sym rows)
          (All-push (Leads v (beginning v)) seen.rows.keys r old.reached led);
      different = subst (IsDistinct same_situation) (sym rows)
          (IsDistinct-push same_equiv seen.rows.keys r old.different fresh);
      no_end = subst (All (λ (z : Situation). ¬ IsEnd v z)) (sym rows)
          (All-push (λ (z : Situation). ¬ IsEnd v z) seen.rows.keys r old.no_end no_end);
      vain = λ s d move c. vain_still v seen new s move c added_grows (old.vain s (was_dead s d) move c);
    }

    -- it has the next number
    pub added_number : HasNumber new r (length seen.rows.keys)
    added_number =
        ap (λ (l : List Situation). slice_get l (length seen.rows.keys)) rows
        ∙ (slice_get-get_or (seen.rows.keys ++ r ∷ []) (length seen.rows.keys) r
        (omega (arith, length-append seen.rows.keys (r ∷ [])))
        ∙ ap (λ (z : Situation). Some z) (get_or_push seen.rows.keys r r (length seen.rows.keys) refl))

-- A situation from which all moves are vain

module _ (v : Values) (seen new : Seen) (n : ℕ) (old : AreSearched v seen) (rows : new.rows ≡ seen.rows)
    (dead : new.dead.items ≡ slice_set seen.dead.items n true) (there : n < length seen.rows.keys) where
  keys_same : new.rows.keys ≡ seen.rows.keys
  keys_same i = (rows i).keys

  pub buried_grows : Grows seen new
  buried_grows = record {
    rows = λ r i at. ap (λ (l : List Situation). slice_get l i) keys_same ∙ at;
    dead = λ i flag. ap (λ (l : List Bool). get_or l i false) dead ∙ elim (cases_eq i n) [
      | inl own ↦ ap (λ (k : ℕ). get_or (slice_set seen.dead.items n true) k false) own
          ∙ get_or-set_same seen.dead.items n true false (omega (arith, there, old.size))
      | inr other ↦ get_or-set_other seen.dead.items n i true false other ∙ flag
    ];
  }

  pub buried_dead : (r : Situation) → HasNumber seen r n → IsDead new r
  buried_dead r at = (
    n,
    ap (λ (l : List Situation). slice_get l n) keys_same ∙ at,
    ap (λ (l : List Bool). get_or l n false) dead
        ∙ get_or-set_same seen.dead.items n true false (omega (arith, there, old.size)),
  )

  pub buried_searched : ((r : Situation) → HasNumber seen r n → (move : Move) (c : ℕ) → IsVain v seen r move c)
      → AreSearched v new
  buried_searched vain = record {
    cores = ap (λ (z : SeenRows). z.cores) rows ∙ old.cores;
    addresses = ap (λ (z : SeenRows). z.addresses) rows ∙ old.addresses;
    notes = ap (λ (z : SeenRows). z.notes) rows ∙ old.notes;
    size = ap (λ (l : List Bool). length l) dead ∙ (length-set seen.dead.items n true
        ∙ (old.size ∙ sym (ap (λ (l : List Situation). length l) keys_same)));
    reached = subst (All (Leads v (beginning v))) (sym keys_same) old.reached;
    different = subst (IsDistinct same_situation) (sym keys_same) old.different;
    no_end = subst (All (λ (z : Situation). ¬ IsEnd v z)) (sym keys_same) old.no_end;
    vain = λ r d move c. vain_still v seen new r move c buried_grows (go r d move c);
  }
    where
      go : (r : Situation) → IsDead new r → (move : Move) (c : ℕ) → IsVain v seen r move c
      go r (i, at, flag) move c =
          let number : HasNumber seen r i = ap (λ (l : List Situation). slice_get l i) (sym keys_same) ∙ at in
          elim (cases_eq i n) [
            | inl own ↦ vain r (subst (λ (k : ℕ). HasNumber seen r k) own number) move c
            | inr other ↦ old.vain r (
              i,
              number,
              sym (get_or-set_other seen.dead.items n i true false other)
                  ∙ (ap (λ (l : List Bool). get_or l i false) (sym dead) ∙ flag),
            ) move c
          ]

-- where turns lead, moves lead
pub led_by : (v : Values) (turns : List Turn) (row : Situation) → after_moves v (beginning v) turns ≡ Some row
    → Leads v (beginning v) row
led_by v turns row comes = leads_on v (beginning v) (beginning v) row turns here comes

-- The way to what a move leads to

module _ (v : Values) (turns : List Turn) (row next : Situation) (t : Turn)
    (comes : after_moves v (beginning v) turns ≡ Some row) (leads : moved v row t.step t.core ≡ Some next) where
  pub way_on : after_moves v (beginning v) (turns ++ t ∷ []) ≡ Some next
  way_on = after_more v (beginning v) row turns t comes ∙ leads

  pub led_to : Leads v (beginning v) next
  led_to = leads_on v (beginning v) (beginning v) next (turns ++ t ∷ []) here way_on

-- One step of a way

module _ (v : Values) (old seen new : Seen) (number next : ℕ) (t : Turn) (all : AreSearched v old)
    (there : number < length old.rows.keys) (grows : Grows old seen)
    (leads : (r : Situation) → HasNumber seen r number → moved v r t.step t.core ≡ slice_get new.rows.keys next) where
  from : Situation
  from = get_or old.rows.keys number (beginning v)

  has_from : HasNumber old from number
  unfolding from
  has_from = slice_get-get_or old.rows.keys number (beginning v) there

  -- it leads to the next situation
  pub step_comes : (turns now after : List Turn) → after_moves v (beginning v) turns ≡ slice_get old.rows.keys number
      → now ≡ turns → after ≡ now ++ t ∷ [] → after_moves v (beginning v) after ≡ slice_get new.rows.keys next
  step_comes turns now after comes same is =
      ap (after_moves v (beginning v)) (is ∙ ap (λ (l : List Turn). l ++ t ∷ []) same)
      ∙ (after_more v (beginning v) from turns t (comes ∙ has_from) ∙ leads from (grows.rows from number has_from))

  -- which is further
  pub step_falls : next < length new.rows.keys
      → most_rank v + 1 - rank (get_or new.rows.keys next (beginning v))
      < most_rank v + 1 - rank (get_or old.rows.keys number (beginning v))
  unfolding from
  step_falls inside =
      let led : Leads v (beginning v) from =
      All-contains (Leads v (beginning v)) old.rows.keys from all.reached
      (Contains-get_or old.rows.keys number (beginning v) there) in
      further_on v from (get_or new.rows.keys next (beginning v)) t.step t.core led
      (leads from (grows.rows from number has_from) ∙ slice_get-get_or new.rows.keys next (beginning v) inside)

-- without its last turn a way is as before
pub popped : (old before after : List Turn) (t : Turn) (n : ℕ) → before ≡ old ++ t ∷ [] → n ≡ length before
    → after ≡ take (n - 1) before → after ≡ old
popped old before after t n is size left =
    let most : n - 1 ≡ length old =
    omega (arith, size, ap (λ (l : List Turn). length l) is, length-append old (t ∷ [])) in
    left ∙ (ap (λ (k : ℕ). take k before) most ∙ (ap (take (length old)) is
    ∙ (take-append-le (length old) old (t ∷ []) (omega arith) ∙ take_all (length old) old (omega arith))))

-- The beginning

module _ (v : Values) (seen : Seen) (n a : ℕ) (cores : n ≡ length v.cores) (addresses : a ≡ length v.initial)
    (is : seen.rows ≡ record { cores = n; addresses = a; notes = a; keys = [] }) (dead : seen.dead.items ≡ []) where
  pub no_keys : seen.rows.keys ≡ []
  no_keys = ap (λ (z : SeenRows). z.keys) is

  pub none_searched : AreSearched v seen
  none_searched = record {
    cores = ap (λ (z : SeenRows). z.cores) is ∙ cores;
    addresses = ap (λ (z : SeenRows). z.addresses) is ∙ addresses;
    notes = ap (λ (z : SeenRows). z.notes) is ∙ addresses;
    size = ap (λ (l : List Bool). length l) dead ∙ sym (ap (λ (l : List Situation). length l) no_keys);
    reached = subst (All (Leads v (beginning v))) (sym no_keys) (All-nil (Leads v (beginning v)));
    different = subst (IsDistinct same_situation) (sym no_keys)
        (IsDistinct-from_apart same_situation [] (λ i j d low inside. absurd (omega (arith, inside))));
    no_end = subst (All (λ (z : Situation). ¬ IsEnd v z)) (sym no_keys) (All-nil (λ (z : Situation). ¬ IsEnd v z));
    vain = λ r d move c. absurd (let clash : false ≡ true =
        sym (ap (λ (l : List Bool). get_or l d.0 false) dead) ∙ d.2 in cc);
  }

  pub none_known : (r : Situation) → list_any (same_situation r) seen.rows.keys ≡ false
  none_known r = ap (list_any (same_situation r)) no_keys
