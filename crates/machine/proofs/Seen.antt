-- Store buffers over one memory, seen as lists of event numbers: the order of events as each core sees it.
use Rattle.std.proofs.Common.{◌≡◌, ◌≢◌, ◌<◌, ◌≤◌, ◌⊎◌, inl, inr, ℕ, Bool, true, false, ◌&&◌, Option}
use Rattle.std.proofs.Common.{Some, None, List, ◌∷◌, ◌++◌, arith, refl, sym, ap, subst}
use Rattle.std.proofs.lemmas.Bool.{cases_eq}
use Rattle.recording.specs.Order.{times, Before}
use Rattle.recording.specs.OrderLaws.{place_in, times_in, times_append}
use Rattle.recording.specs.OrderLaws.{place_append_left, place_append_right, cases_times}
use Rattle.machine.proofs.OrderLemmas.{inserted, removed}

-- what is known of the events: their number, their cores, what they write and read, and which are plain
-- stores or loads
pub record Static : Type 0 where
  pub count : ℕ
  pub core : ℕ → ℕ
  pub writes : ℕ → Option ℕ
  pub reads : ℕ → Option ℕ
  pub store : ℕ → Bool
  pub load : ℕ → Bool

-- the performed events, each core's buffer, the number after each core's last executed event, and the sources
pub record Snapshot : Type 0 where
  pub performed : List ℕ
  pub buffer : ℕ → List ℕ
  pub next : ℕ → ℕ
  pub source : ℕ → Option ℕ

-- the order of events as core c sees it
abbrev pub seen : Snapshot → ℕ → List ℕ
seen s c = s.performed ++ s.buffer c

-- w is earlier than e on one core
abbrev pub Own : Static → ℕ → ℕ → Type 0
Own p w e = (w < e) × (e < p.count) × (p.core w ≡ p.core e)

-- w is a write to a, other than e, that is earlier in the order or on the core
abbrev pub CanSee : Static → List ℕ → ℕ → ℕ → ℕ → Type 0
CanSee p o e a w = (p.writes w ≡ Some a) × (w ≢ e) × (Before o w e ⊎ Own p w e)

-- the last write to a that e can see, or none
abbrev pub IsLast : Static → List ℕ → ℕ → ℕ → Option ℕ → Type 0
IsLast p o e a None = (w : ℕ) → ¬ CanSee p o e a w
IsLast p o e a (Some s) = CanSee p o e a s × ((w : ℕ) → CanSee p o e a w → (w ≡ s) ⊎ Before o w s)

-- the last write to a in an order, or none
abbrev pub IsNewest : Static → List ℕ → ℕ → Option ℕ → Type 0
IsNewest p o a None = (w : ℕ) → 0 < times o w → ¬ (p.writes w ≡ Some a)
IsNewest p o a (Some s) =
    (0 < times o s) × (p.writes s ≡ Some a)
    × ((w : ℕ) → 0 < times o w → p.writes w ≡ Some a → (w ≡ s) ⊎ Before o w s)

-- what counts: an executed event stands once in its core's order, nothing else stands there, and plain
-- stores alone wait
pub record IsCounted (p : Static) (s : Snapshot) : Type 0 where
  pub listed : (e : ℕ) → e < p.count → e < s.next (p.core e) → times (seen s (p.core e)) e ≡ 1
  pub executed : (c e : ℕ) → 0 < times (seen s c) e → (e < p.count) × (e < s.next (p.core e))
  pub waiting : (c e : ℕ) → 0 < times (s.buffer c) e → (p.core e ≡ c) × (p.store e ≡ true)

-- what orders: each core's order keeps what TSO keeps, and each performed read has the last write that
-- it can see
pub record IsOrdered (p : Static) (s : Snapshot) : Type 0 where
  pub kept : (e f : ℕ) → Own p e f → f < s.next (p.core f) → (p.store e && p.load f) ≡ false
      → Before (seen s (p.core f)) e f
  pub values : (e a : ℕ) → p.reads e ≡ Some a → 0 < times s.performed e
      → IsLast p (seen s (p.core e)) e a (s.source e)

-- what was performed is seen by every core
pub performed_is_seen : (s : Snapshot) (d e : ℕ) → 0 < times s.performed e → 0 < times (seen s d) e
performed_is_seen s d e h = omega (arith, times_append s.performed (s.buffer d) e)

-- what is not executed is seen nowhere
pub not_seen : (p : Static) (s : Snapshot) → IsCounted p s → (b d : ℕ) → s.next (p.core b) ≤ b
    → times (seen s d) b ≡ 0
not_seen p s counted b d new = elim (cases_times (seen s d) b) [
  | inl none ↦ none
  | inr some ↦ absurd (omega (arith, (counted.executed d b some).1))
]

-- what a core does not see was not performed
pub not_performed : (s : Snapshot) (d b : ℕ) → times (seen s d) b ≡ 0 → times s.performed b ≡ 0
not_performed s d b none = omega (arith, times_append s.performed (s.buffer d) b)

-- what an executed read sees is executed
pub seen_is_listed : (p : Static) (s : Snapshot) → IsCounted p s → (e a w : ℕ) → e < s.next (p.core e)
    → CanSee p (seen s (p.core e)) e a w → 0 < times (seen s (p.core e)) w
seen_is_listed p s counted e a w executed h = elim h.2 [
  | inl before ↦ times_in (seen s (p.core e)) w (omega (arith, before))
  | inr own ↦
      let one : times (seen s (p.core w)) w ≡ 1 =
      counted.listed w (omega (arith, own))
      (subst (λ (c : ℕ). w < s.next c) (sym own.2) (omega (arith, own.0, executed))) in
      subst (λ (c : ℕ). 0 < times (seen s c) w) own.2 (omega (arith, one))
]

-- a source is a write that can be seen
pub last_seen : (p : Static) (o : List ℕ) (e a : ℕ) (s : Option ℕ) (w : ℕ) → s ≡ Some w → IsLast p o e a s
    → CanSee p o e a w
last_seen p o e a s w is h = (subst (λ (z : Option ℕ). IsLast p o e a z) is h).0

-- What an event does not change: b goes between two parts of an order, and e was there before

-- what e sees in an order it sees where w is before it again
can_see_by : (p : Static) (l m : List ℕ) (e a w : ℕ) → (Before l w e → Before m w e) → CanSee p l e a w
    → CanSee p m e a w
can_see_by p l m e a w moves h = (
  h.0,
  h.1,
  elim h.2 [
    | inl before ↦ inl (moves before)
    | inr own ↦ inr own
  ],
)

-- e stands in the left part, and b is not earlier on its core: so e does not see b
b_unseen : (p : Static) (u v : List ℕ) (b e a : ℕ) → e ≢ b → times (u ++ v) b ≡ 0 → 0 < times u e
    → ¬ Own p b e → ¬ CanSee p (u ++ b ∷ v) e a b
b_unseen p u v b e a eb fresh e_left not_own h = elim h.2 [
  | inl before ↦ omega (
    arith,
    before,
    place_append_left u (b ∷ v) e e_left,
    place_append_right u (b ∷ v) b (omega (arith, fresh, times_append u v b)),
    place_in u e e_left,
  )
  | inr own ↦ not_own own
]

-- its last write stays
is_last_same : (p : Static) (u v : List ℕ) (b e a : ℕ) → e ≢ b → times (u ++ v) b ≡ 0 → 0 < times u e
    → ¬ Own p b e
    → (o : Option ℕ) → ((s : ℕ) → o ≡ Some s → s ≢ b) → IsLast p (u ++ v) e a o → IsLast p (u ++ b ∷ v) e a o
is_last_same p u v b e a eb fresh e_left not_own None others h = λ w seen. elim (cases_eq w b) [
  | inl same ↦ b_unseen p u v b e a eb fresh e_left not_own
      (subst (λ (z : ℕ). CanSee p (u ++ b ∷ v) e a z) same seen)
  | inr other ↦ h w (can_see_by p (u ++ b ∷ v) (u ++ v) e a w (removed u v b w e other eb) seen)
]
is_last_same p u v b e a eb fresh e_left not_own (Some s) others h =
    let sb : s ≢ b = others s refl in (
      can_see_by p (u ++ v) (u ++ b ∷ v) e a s (inserted u v b s e sb eb) h.0,
      λ w seen. elim (cases_eq w b) [
        | inl same ↦ absurd (b_unseen p u v b e a eb fresh e_left not_own
            (subst (λ (z : ℕ). CanSee p (u ++ b ∷ v) e a z) same seen))
        | inr other ↦ elim (h.1 w (can_see_by p (u ++ b ∷ v) (u ++ v) e a w (removed u v b w e other eb) seen)) [
          | inl is ↦ inl is
          | inr before ↦ inr (inserted u v b w s other sb before)
        ]
      ],
    )

-- core d sees the order as before, or with b put in after all that was performed, where it was not, and
-- where no performed read of d is later on its core
pub data Grows (p : Static) (b : ℕ) (performed : List ℕ) (d : ℕ) : List ℕ → List ℕ → Type 0 where
  unmoved : {o : List ℕ} → Grows p b performed d o o
  moved : (u v : List ℕ) → times (u ++ v) b ≡ 0 → ((e : ℕ) → 0 < times performed e → 0 < times u e)
      → ((e : ℕ) → 0 < times performed e → p.core e ≡ d → ¬ Own p b e)
      → Grows p b performed d (u ++ v) (u ++ b ∷ v)

-- the others stay in order
pub before_grown : (p : Static) (d : ℕ) {b : ℕ} {performed o o' : List ℕ} → Grows p b performed d o o'
    → (e f : ℕ) → e ≢ b → f ≢ b → Before o e f → Before o' e f
before_grown p d unmoved e f eb fb h = h
before_grown p d (moved u v fresh left hidden) e f eb fb h = inserted u v _ e f eb fb h

-- and their last writes stay
pub is_last_grown : (p : Static) {b : ℕ} {performed o o' : List ℕ} (e a : ℕ)
    → Grows p b performed (p.core e) o o' → e ≢ b → 0 < times performed e
    → (s : Option ℕ) → ((w : ℕ) → s ≡ Some w → 0 < times o w) → IsLast p o e a s → IsLast p o' e a s
is_last_grown p e a unmoved eb there s old h = h
is_last_grown p {b} e a (moved u v fresh left hidden) eb there s old h =
    is_last_same p u v b e a eb fresh (left e there) (hidden e there refl) s
    (λ w is wb. omega (arith, old w is, fresh, ap (times (u ++ v)) wb)) h
