-- The events that stand right before others.
use Rattle.std.proofs.Common.{◌≡◌, ◌≢◌, ◌<◌, ◌≤◌, ◌+◌, ◌⊎◌, inl, inr, ℕ, Bool, true, false, List}
use Rattle.std.proofs.Common.{Option, Some, None, get_or, length, arith, refl, sym, ap, subst, ◌∙◌}
use Rattle.std.proofs.lemmas.Bool.{cases_eq, cases_lt}
use Rattle.std.proofs.lemmas.List.{get_or_default, get_or_past}
use Rattle.recording.specs.Event.{is_plain_load, is_plain_store}
use Rattle.recording.specs.Execution.{Execution, event_count, event_at, write_list, ProgramOrder, Reads, Writes}
use Rattle.recording.specs.Execution.{source_of}
use Rattle.recording.specs.Order.{place}
use Rattle.recording.specs.OrderLaws.{place_in}
use Rattle.recording.specs.PlaceLaws.{at_place, times_at, place_at}
use Rattle.recording.specs.EventLaws.{Writes-event}
use Rattle.recording.specs.Tso.{IsWellFormed}
use Rattle.relations.specs.declared.indexed.IndexedEvent.{IndexedEvent}
use Rattle.relations.specs.Direct.{is_passed, IsFirstNewer, IsNextWrite}
use Rattle.relations.specs.declared.reason.Reason.{Reason}
use Rattle.relations.specs.declared.reason.Reason.TheVariants.{Po, Wo, Rf, Fr}
use Rattle.relations.specs.Forced.{Forced, Holds, IsCoreStart, IsNewerFrom, IsOlder}
use Rattle.relations.specs.Indexed.{IsIndexed}
use Rattle.long.specs.Steps.{IsLast, IsLastFrom, MayBeLastOther, MayBeLastStore}

-- before its first event a core has none
pub last_store_none : (x : Execution) (start : ℕ) → MayBeLastStore x start None start
last_store_none x start d h = omega (arith, h.0.0, h.0.1)

pub last_other_none : (x : Execution) (start : ℕ) → MayBeLastOther x start None start
last_other_none x start d h = omega (arith, h.0, h.1)

-- the last event before the next is this one, or it was the last before this one, which is passed over
last_split : (x : Execution) (start : ℕ) (loads : Bool) (d e : ℕ) → IsLastFrom x start loads d (e + 1)
    → ((d ≡ e) × (is_passed loads (event_at x e) ≡ false))
    ⊎ ((is_passed loads (event_at x e) ≡ true) × IsLastFrom x start loads d e)
last_split x start loads d e h = elim (cases_eq d e) [
  | inl one ↦ inl (one, subst (λ (g : ℕ). is_passed loads (event_at x g) ≡ false) one h.2)
  | inr other ↦
      let low : d < e = (let l : d < e + 1 = h.1 in omega (arith, l, other)) in
      inr (h.3 e low (omega arith), (h.0, low, h.2, (λ g after before. h.3 g after (omega (arith, before)))))
]

-- an event that is passed over leaves the last one
last_passed : (x : Execution) (start : ℕ) (loads : Bool) (d e : ℕ) → is_passed loads (event_at x e) ≡ true
    → IsLastFrom x start loads d e → IsLastFrom x start loads d (e + 1)
last_passed x start loads d e passed h = (
  h.0,
  (let l : d < e = h.1 in omega (arith, l)),
  h.2,
  λ g after before. elim (cases_eq g e) [
    | inl one ↦ subst (λ (k : ℕ). is_passed loads (event_at x k) ≡ true) (sym one) passed
    | inr other ↦ h.3 g after (omega (arith, before, other))
  ],
)

-- any other is the last before the next
last_here : (x : Execution) (start : ℕ) (loads : Bool) (e : ℕ) → start ≤ e → is_passed loads (event_at x e) ≡ false
    → IsLastFrom x start loads e (e + 1)
last_here x start loads e from kept = (from, omega arith, kept, (λ g after before. absurd (omega (arith, after, before))))

-- with an event that is a plain load the last store stays
pub last_store_passed : (x : Execution) (start : ℕ) (last : Option ℕ) (e : ℕ) → is_plain_load (event_at x e) ≡ true
    → MayBeLastStore x start last e → MayBeLastStore x start last (e + 1)
last_store_passed x start None e load none = λ d h. elim (last_split x start true d e h.0) [
  | inl here ↦ absurd (let no : true ≡ false = sym load ∙ here.1 in cc)
  | inr before ↦ none d (before.1, h.1)
]
last_store_passed x start (Some s) e load last = (last_passed x start true s e load last.0, last.1)

-- a plain store is the last
pub last_store_here : (x : Execution) (start e : ℕ) → start ≤ e → is_plain_load (event_at x e) ≡ false
    → is_plain_store (event_at x e) ≡ true → MayBeLastStore x start (Some e) (e + 1)
last_store_here x start e from free store = (last_here x start true e from free, store)

-- with any other there is none
pub last_store_gone : (x : Execution) (start e : ℕ) → is_plain_load (event_at x e) ≡ false
    → is_plain_store (event_at x e) ≡ false → MayBeLastStore x start None (e + 1)
last_store_gone x start e free other = λ d h. elim (last_split x start true d e h.0) [
  | inl here ↦ absurd (let no : true ≡ false =
      sym h.1 ∙ (ap (λ (k : ℕ). is_plain_store (event_at x k)) here.0 ∙ other) in cc)
  | inr before ↦ absurd (let no : true ≡ false = sym before.0 ∙ free in cc)
]

-- with a plain store the last other event stays
pub last_other_passed : (x : Execution) (start : ℕ) (last : Option ℕ) (e : ℕ) → is_plain_store (event_at x e) ≡ true
    → MayBeLastOther x start last e → MayBeLastOther x start last (e + 1)
last_other_passed x start None e store none = λ d h. elim (last_split x start false d e h) [
  | inl here ↦ absurd (let no : true ≡ false = sym store ∙ here.1 in cc)
  | inr before ↦ none d before.1
]
last_other_passed x start (Some s) e store last = last_passed x start false s e store last

-- any other event is the last
pub last_other_here : (x : Execution) (start e : ℕ) → start ≤ e → is_plain_store (event_at x e) ≡ false
    → MayBeLastOther x start (Some e) (e + 1)
last_other_here x start e from other = last_here x start false e from other

-- there is one last event
pub last_one : (x : Execution) (start : ℕ) (loads : Bool) (d g e : ℕ) → IsLastFrom x start loads d e
    → IsLastFrom x start loads g e → d ≡ g
last_one x start loads d g e hd hg = elim (cases_eq d g) [
  | inl one ↦ one
  | inr other ↦ elim (cases_lt d g) [
    | inl before ↦ absurd (let no : true ≡ false = sym (hd.3 g before hg.1) ∙ hg.2 in cc)
    | inr past ↦ absurd (let no : true ≡ false = sym (hg.3 d (omega (arith, past, other)) hd.1) ∙ hd.2 in cc)
  ]
]

-- it is the last from the first event of its core on
pub last_from : (x : Execution) (start : ℕ) (loads : Bool) (d e : ℕ) → IsCoreStart x start e → IsLast x loads d e
    → IsLastFrom x start loads d e
last_from x start loads d e core h = let own = (core d).0 h.0 in (own.0, own.1, h.1, h.2)

-- which is in program order
pub last_own : (x : Execution) (start : ℕ) (loads : Bool) (d e : ℕ) → IsCoreStart x start e
    → IsLastFrom x start loads d e → ProgramOrder x d e
last_own x start loads d e core h = (core d).1 (h.0, h.1)

-- each read has one first newer write, which is an event
pub one_newer : (x : Execution) → IsWellFormed x → (r v w : ℕ) → IsFirstNewer x r v → IsFirstNewer x r w → v ≡ w
one_newer x wf r v w hv hw =
    let one : hv.0 ≡ hw.0 = (let both : Some hv.0 ≡ Some hw.0 = sym hv.1 ∙ hw.1 in cc) in
    let b : ℕ = hw.0 in
    let ws : List ℕ = write_list x b in
    let wv : Writes x v b = subst (λ (a : ℕ). Writes x v a) one hv.2 in
    let fv : IsNewerFrom ws (source_of x r) (place ws v) =
    subst (λ (a : ℕ). IsNewerFrom (write_list x a) (source_of x r) (place (write_list x a) v)) one hv.3 in
    let fw : IsNewerFrom ws (source_of x r) (place ws w) = hw.3 in
    let iv : place ws v < length ws = place_in ws v (omega (arith, (wf.write_lists b).once v wv)) in
    let iw : place ws w < length ws = place_in ws w (omega (arith, (wf.write_lists b).once w hw.2)) in
    let low : place ws v ≤ place ws w = (fv w iw).0 ((fw w iw).1 (omega arith)) in
    let high : place ws w ≤ place ws v = (fw v iv).0 ((fv v iv).1 (omega arith)) in
    let same : place ws v ≡ place ws w = omega (arith, low, high) in
    sym (at_place ws v iv) ∙ (ap (λ (i : ℕ). get_or ws i 0) same ∙ at_place ws w iw)

-- the write at the first newer place is the first newer one
pub newer_at : (x : Execution) (p : IndexedEvent) (a : ℕ) (ws : List ℕ) → IsIndexed x p → p.reads ≡ Some a
    → ws ≡ write_list x a → p.newer < length ws
    → IsFirstNewer x p.number (get_or ws p.newer 0) × (get_or ws p.newer 0 < event_count x)
newer_at x p a ws hp is list low =
    subst (λ (vs : List ℕ). p.newer < length vs → IsFirstNewer x p.number (get_or vs p.newer 0)
    × (get_or vs p.newer 0 < event_count x)) (sym list) there low
  where
    there : p.newer < length (write_list x a) → IsFirstNewer x p.number (get_or (write_list x a) p.newer 0)
        × (get_or (write_list x a) p.newer 0 < event_count x)
    there h =
        let reads : Reads x p.number a = sym hp.reads ∙ is in
        let lists = hp.well_formed.write_lists a in
        let writes : Writes x (get_or (write_list x a) p.newer 0) a =
        lists.nothing_else (get_or (write_list x a) p.newer 0) (times_at (write_list x a) p.newer h) in
        let at : place (write_list x a) (get_or (write_list x a) p.newer 0) ≡ p.newer =
        place_at (write_list x a) p.newer h
        (omega (arith, lists.once (get_or (write_list x a) p.newer 0) writes)) in (
          (
            a,
            reads,
            writes,
            subst (λ (n : ℕ). IsNewerFrom (write_list x a) (source_of x p.number) n) (sym at)
                (hp.newer a reads),
          ),
          Writes-event x (get_or (write_list x a) p.newer 0) a writes,
        )

-- where there is a first newer write, the first newer place is one of its list
pub newer_there : (x : Execution) (p : IndexedEvent) (a w : ℕ) (ws : List ℕ) → IsIndexed x p → p.reads ≡ Some a
    → ws ≡ write_list x a → IsFirstNewer x p.number w → p.newer < length ws
newer_there x p a w ws hp is list h =
    let one : h.0 ≡ a = (let both : Some h.0 ≡ Some a = sym h.1 ∙ (sym hp.reads ∙ is) in cc) in
    let writes : Writes x w a = subst (λ (b : ℕ). Writes x w b) one h.2 in
    let from : IsNewerFrom (write_list x a) (source_of x p.number) (place (write_list x a) w) =
    subst (λ (b : ℕ). IsNewerFrom (write_list x b) (source_of x p.number) (place (write_list x b) w)) one h.3 in
    let inside : place (write_list x a) w < length (write_list x a) =
    place_in (write_list x a) w (omega (arith, (hp.well_formed.write_lists a).once w writes)) in
    let low : p.newer ≤ place (write_list x a) w =
    (hp.newer a (sym hp.reads ∙ is) w inside).0 ((from w inside).1 (omega arith)) in
    omega (arith, low, inside, ap (λ (vs : List ℕ). length vs) list)

-- where the first newer write is said to be another event, it is that one
pub newer_found : (x : Execution) (p : IndexedEvent) (a : ℕ) → IsIndexed x p → p.reads ≡ Some a
    → p.first_newer ≢ p.number → IsFirstNewer x p.number p.first_newer
newer_found x p a hp is other =
    let ws : List ℕ = write_list x a in
    let said : p.first_newer ≡ get_or ws p.newer p.number = hp.first_newer a (sym hp.reads ∙ is) in
    elim (cases_lt p.newer (length ws)) [
      | inl low ↦ subst (λ (w : ℕ). IsFirstNewer x p.number w)
          (get_or_default ws p.newer 0 p.number low ∙ sym said) (newer_at x p a ws hp is refl low).0
      | inr past ↦ absurd (other (said ∙ get_or_past ws p.newer p.number past))
    ]

-- a first newer write is said to be one
pub newer_said : (x : Execution) (p : IndexedEvent) (a w : ℕ) → IsIndexed x p → p.reads ≡ Some a
    → IsFirstNewer x p.number w → w ≡ p.first_newer
newer_said x p a w hp is h =
    let ws : List ℕ = write_list x a in
    let low = newer_there x p a w ws hp is refl h in
    one_newer x hp.well_formed p.number w (get_or ws p.newer 0) h (newer_at x p a ws hp is refl low).0
    ∙ (get_or_default ws p.newer 0 p.number low ∙ sym (hp.first_newer a (sym hp.reads ∙ is)))

-- a read that is its own first newer write is not forced before itself
newer_itself_by : (x : Execution) → IsWellFormed x → (e : ℕ) → IsFirstNewer x e e → (reason : Reason)
    → Holds x reason e e → ⊥
newer_itself_by x wf e h Po holds = omega (arith, holds.0.0)
newer_itself_by x wf e h Wo holds = omega (arith, holds.1.0)
newer_itself_by x wf e h Rf holds =
    let inside = place_in (write_list x h.0) e (omega (arith, (wf.write_lists h.0).once e h.2)) in
    let older : IsOlder (write_list x h.0) (source_of x e) e = (h.3 e inside).1 (omega arith) in
    let before : IsOlder (write_list x h.0) (Some e) e =
    subst (λ (s : Option ℕ). IsOlder (write_list x h.0) s e) holds.0 older in omega (arith, before.0)
newer_itself_by x wf e h Fr holds = absurd (holds.3 refl)

-- for no reason
pub newer_itself : (x : Execution) → IsWellFormed x → (e : ℕ) → IsFirstNewer x e e → Forced x e e → ⊥
newer_itself x wf e h forced = newer_itself_by x wf e h forced.0 forced.1

-- what does not read has no first newer write
pub newer_none : (x : Execution) (p : IndexedEvent) (w : ℕ) → IsIndexed x p → p.reads ≡ None
    → IsFirstNewer x p.number w → ⊥
newer_none x p w hp is h = let no : None ≡ Some h.0 = sym is ∙ (hp.reads ∙ h.1) in cc

-- the write at the next place is the next one
pub next_write_at : (x : Execution) (p : IndexedEvent) (a : ℕ) (ws : List ℕ) → IsIndexed x p → p.writes ≡ Some a
    → ws ≡ write_list x a → p.place + 1 < length ws → IsNextWrite x p.number (get_or ws (p.place + 1) 0)
next_write_at x p a ws hp is list low =
    let here : Writes x p.number a = sym hp.writes ∙ is in
    let lists = hp.well_formed.write_lists a in
    let next : p.place + 1 < length (write_list x a) = omega (arith, low, ap (λ (vs : List ℕ). length vs) list) in
    let w : ℕ = get_or (write_list x a) (p.place + 1) 0 in
    let writes : Writes x w a = lists.nothing_else w (times_at (write_list x a) (p.place + 1) next) in
    let at : place (write_list x a) w ≡ p.place + 1 =
    place_at (write_list x a) (p.place + 1) next (omega (arith, lists.once w writes)) in
    subst (λ (vs : List ℕ). IsNextWrite x p.number (get_or vs (p.place + 1) 0)) (sym list)
    (a, here, writes, omega (arith, hp.place a here, at))

-- and it alone, where its place is one of the list
pub next_write_is : (x : Execution) (p : IndexedEvent) (a d : ℕ) (ws : List ℕ) → IsIndexed x p → p.writes ≡ Some a
    → ws ≡ write_list x a → IsNextWrite x p.number d → (p.place + 1 < length ws) × (d ≡ get_or ws (p.place + 1) 0)
next_write_is x p a d ws hp is list h =
    let here : Writes x p.number a = sym hp.writes ∙ is in
    let one : h.0 ≡ a = (let both : Some h.0 ≡ Some a = sym h.1 ∙ here in cc) in
    let writes : Writes x d a = subst (λ (b : ℕ). Writes x d b) one h.2 in
    let next : place (write_list x a) d ≡ place (write_list x a) p.number + 1 =
    subst (λ (b : ℕ). place (write_list x b) d ≡ place (write_list x b) p.number + 1) one h.3 in
    let inside : place (write_list x a) d < length (write_list x a) =
    place_in (write_list x a) d (omega (arith, (hp.well_formed.write_lists a).once d writes)) in
    let at : p.place + 1 ≡ place (write_list x a) d = omega (arith, hp.place a here, next) in (
      omega (arith, at, inside, ap (λ (vs : List ℕ). length vs) list),
      sym (ap (λ (vs : List ℕ). get_or vs (p.place + 1) 0) list
          ∙ (ap (λ (i : ℕ). get_or (write_list x a) i 0) at ∙ at_place (write_list x a) d inside)),
    )

-- where the next write is said to be another event, it is that one
pub next_write_found : (x : Execution) (p : IndexedEvent) (a : ℕ) → IsIndexed x p → p.writes ≡ Some a
    → p.next ≢ p.number → IsNextWrite x p.number p.next
next_write_found x p a hp is other =
    let ws : List ℕ = write_list x a in
    let said : p.next ≡ get_or ws (p.place + 1) p.number = hp.next a (sym hp.writes ∙ is) in
    elim (cases_lt (p.place + 1) (length ws)) [
      | inl low ↦ subst (λ (w : ℕ). IsNextWrite x p.number w)
          (get_or_default ws (p.place + 1) 0 p.number low ∙ sym said) (next_write_at x p a ws hp is refl low)
      | inr past ↦ absurd (other (said ∙ get_or_past ws (p.place + 1) p.number past))
    ]

-- a next write is said to be one
pub next_write_said : (x : Execution) (p : IndexedEvent) (a d : ℕ) → IsIndexed x p → p.writes ≡ Some a
    → IsNextWrite x p.number d → d ≡ p.next
next_write_said x p a d hp is h =
    let ws : List ℕ = write_list x a in
    let at = next_write_is x p a d ws hp is refl h in
    at.1 ∙ (get_or_default ws (p.place + 1) 0 p.number at.0 ∙ sym (hp.next a (sym hp.writes ∙ is)))

-- and is another event
pub next_write_other : (x : Execution) (d e : ℕ) → IsNextWrite x e d → d ≡ e → ⊥
next_write_other x d e h same =
    let twice : place (write_list x h.0) e ≡ place (write_list x h.0) e + 1 =
    ap (λ (k : ℕ). place (write_list x h.0) k) (sym same) ∙ h.3 in omega (arith, twice)

-- what does not write has no next write
pub no_next_write : (x : Execution) (p : IndexedEvent) (d : ℕ) → IsIndexed x p → p.writes ≡ None
    → IsNextWrite x p.number d → ⊥
no_next_write x p d hp is h = let no : None ≡ Some h.0 = sym is ∙ (hp.writes ∙ h.1) in cc

-- the write before another in their write list is before it in every memory order
pub next_write_forced : (x : Execution) → IsWellFormed x → (d e : ℕ) → IsNextWrite x d e → Forced x d e
next_write_forced x wf d e h = (
  Wo,
  (
    h.0,
    (omega (arith, h.3), place_in (write_list x h.0) e (omega (arith, (wf.write_lists h.0).once e h.2))),
  ),
)

-- the source of a read that is not earlier on its core is before it in every memory order
pub source_forced : (x : Execution) (s e : ℕ) → source_of x e ≡ Some s → ¬ ProgramOrder x s e → Forced x s e
source_forced x s e from other = (Rf, (from, other))

-- a read is before the first write that is newer than its source, but for itself and what is earlier on its core
pub newer_forced : (x : Execution) → IsWellFormed x → (e w : ℕ) → IsFirstNewer x e w → w ≢ e → ¬ ProgramOrder x w e
    → Forced x e w
newer_forced x wf e w h other own =
    let inside = place_in (write_list x h.0) w (omega (arith, (wf.write_lists h.0).once w h.2)) in
    (Fr, (h.0, h.1, h.2, other, own, (h.3 w inside).1 (omega arith)))
