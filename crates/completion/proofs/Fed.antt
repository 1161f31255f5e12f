-- Sets of events that are fed among themselves.
use Rattle.std.proofs.Common.{◌≡◌, ◌≢◌, ◌<◌, ◌==◌, ◌&&◌, inl, inr, ℕ, Bool, true, false, not, Option, Some, None}
use Rattle.std.proofs.Common.{List, length, arith, refl, sym, ap, subst, ◌∙◌, ◌+◌, ◌↔◌}
use Rattle.std.specs.Prelude.{IsTrue}
use Rattle.std.proofs.lemmas.Bool.{cases_eq, cases_lt}
use Rattle.std.proofs.lemmas.Bool.Decides.{nat_tests}
use Rattle.std.proofs.lemmas.List.{get_or_past}
use Rattle.bitrow.specs.Bits.{is_in}
use Rattle.bitrow.specs.Rows.{AreNumbers}
use Rattle.recording.specs.Execution.{event_count}
use Rattle.recording.specs.Order.{place}
use Rattle.recording.specs.OrderLaws.{place_in}
use Rattle.recording.specs.PlaceLaws.{at_place, times_at}
use Rattle.values.specs.Refused.{events_alone}
use Rattle.values.specs.Values.{AreAllowed, Values}
use Rattle.completion.specs.declared.left.Left.{Left}
use Rattle.completion.specs.declared.table.Placed.{Placed}
use Rattle.completion.specs.declared.part.Tried.{Tried}
use Rattle.completion.specs.declared.part.Tried.TheVariants.{Allowed}
use Rattle.completion.specs.Left.{IsAllowedWith, IsInRow, IsLeft, IsRefuted, IsTried, LeavesFed}
use Rattle.completion.specs.Pairs.{IsTable}
use Rattle.completion.specs.Part.{AreFed, AreMostFed, IsAmong, IsFedAmong, IsMember, IsNeeded, IsPart, MayFeed}
use Rattle.completion.proofs.Alone.{write_inside}

-- what is in a row is below its length
pub row_below : (row : List Bool) (e : ℕ) → IsInRow row e → e < length row
row_below row e h = elim (cases_lt e (length row)) [
  | inl here ↦ here
  | inr past ↦ absurd (let no : false ≡ true = sym (get_or_past row e false past) ∙ h in cc)
]

-- what stands among the numbers of a row is in it
pub numbers_same : (row : List Bool) (ks : List ℕ) → AreNumbers row ks → (e : ℕ) → IsMember ks e ↔ IsInRow row e
numbers_same row ks t e = (
  λ there.
      let at = place_in ks e there in
      ap (λ (z : ℕ). is_in row z) (sym (at_place ks e at)) ∙ t.members (place ks e) at,
  λ is. let at = t.all e (row_below row e is) is in subst (λ (z : ℕ). IsMember ks z) at.2 (times_at ks at.0 at.1),
)

-- what is among some events is among more
among_more : (P Q : ℕ → Type 0) → ((e : ℕ) → P e → Q e) → (s : Option ℕ) → IsAmong P s → IsAmong Q s
among_more P Q more None h = h
among_more P Q more (Some w) h = more w h

-- what is fed among some events is fed among more
pub fed_more : (v : Values) (P Q : ℕ → Type 0) → ((e : ℕ) → P e → Q e) → (e : ℕ) → IsFedAmong v P e
    → IsFedAmong v Q e
fed_more v P Q more e h = (h.0, h.1, among_more P Q more h.0 h.2)

-- events that are fed among themselves are so however the set is named
pub fed_same : (v : Values) (P Q : ℕ → Type 0) → ((e : ℕ) → P e → Q e) → ((e : ℕ) → Q e → P e) → AreFed v P
    → AreFed v Q
fed_same v P Q to from fed e s h may = fed_more v P Q to e (fed e s (from e h) may)

-- and so are the most of them
pub most_same : (v : Values) (P Q : ℕ → Type 0) (ks : List ℕ) → ((e : ℕ) → P e → Q e) → ((e : ℕ) → Q e → P e)
    → AreMostFed v P ks → AreMostFed v Q ks
most_same v P Q ks to from most = record {
  these = λ e h. to e (most.these e h);
  fed = most.fed;
  most = λ es fed those. most.most es fed (λ e h. from e (those e h));
}

-- a row leaves itself
pub leaves_all : (v : Values) (row : List Bool) → LeavesFed v row row
leaves_all v row = record { fewer = λ e h. h; all = λ es fed those e h. those e h }

-- what is left of what is left
pub leaves_twice : (v : Values) (a b c : List Bool) → LeavesFed v a b → LeavesFed v b c → LeavesFed v a c
leaves_twice v a b c first second = record {
  fewer = λ e h. first.fewer e (second.fewer e h);
  all = λ es fed those e h. second.all es fed (first.all es fed those) e h;
}

-- a number that was taken out of a row
pub removed_before : (old new : List Bool) (e f : ℕ) → is_in new f ≡ (is_in old f && not (f == e)) → IsInRow new f
    → IsInRow old f × (f ≢ e)
removed_before old new e f is h = go (is_in old f) (sym is ∙ h)
  where
    go : (b : Bool) → (b && not (f == e)) ≡ true → (b ≡ true) × (f ≢ e)
    go true both = (refl, λ same. grind (arith, nat_tests, both, same))
    go false both = absurd cc

pub removed_after : (old new : List Bool) (e f : ℕ) → is_in new f ≡ (is_in old f && not (f == e)) → IsInRow old f
    → f ≢ e → IsInRow new f
removed_after old new e f is h other = is ∙ (ap (λ (b : Bool). b && not (f == e)) h ∙ grind (arith, nat_tests, other))

-- an event that is not fed among those of a row, though something may feed it, can be taken out
pub leaves_unfed : (v : Values) (old new : List Bool) (e : ℕ) → ((s : Option ℕ) × MayFeed v e s)
    → ¬ IsFedAmong v (IsInRow old) e → ((j : ℕ) → is_in new j ≡ (is_in old j && not (j == e)))
    → LeavesFed v old new
leaves_unfed v old new e may unfed numbers = record {
  fewer = λ f h. (removed_before old new e f (numbers f) h).0;
  all = λ es fed those f h. elim (cases_eq f e) [
    | inl same ↦ absurd (unfed (fed_more v (IsMember es) (IsInRow old) those e
        (fed e may.0 (subst (λ (k : ℕ). IsMember es k) same h) may.1)))
    | inr other ↦ removed_after old new e f (numbers f) (those f h) other
  ];
}

-- what is left of a row are the most of its events that are fed among themselves
pub most_left : (v : Values) (row : List Bool) (l : Left) → IsLeft v l → LeavesFed v row l.row
    → AreMostFed v (IsInRow row) l.events.items
most_left v row l is leaves = record {
  these = λ e h. leaves.fewer e ((is.same e).0 h);
  fed = fed_same v (IsInRow l.row) (IsMember l.events.items) (λ e h. (is.same e).1 h) (λ e h. (is.same e).0 h) is.fed;
  most = λ es fed those e h. (is.same e).1 (leaves.all es fed those e h);
}

-- nothing feeds an event where neither the initial value nor a write does
pub not_fed : (v : Values) (items : List Placed) (e : ℕ) → IsTable v items → ¬ MayFeed v e None
    → ((w : ℕ) → w < length items → ¬ MayFeed v e (Some w)) → (s : Option ℕ) → ¬ MayFeed v e s
not_fed v items e h initial writes None may = initial may
not_fed v items e h initial writes (Some w) may =
    writes w (write_inside v items w may.address h may.gives.0) may

-- one event more that stays
pub stays_more : (v : Values) (old new : List Bool) (n : ℕ) → new ≡ old
    → ((e : ℕ) (s : Option ℕ) → e < n → IsInRow old e → MayFeed v e s → IsFedAmong v (IsInRow old) e)
    → (IsInRow new n → (s : Option ℕ) → MayFeed v n s → IsFedAmong v (IsInRow new) n)
    → (e : ℕ) (s : Option ℕ) → e < n + 1 → IsInRow new e → MayFeed v e s → IsFedAmong v (IsInRow new) e
stays_more v old new n same before here e s less inside may = elim (cases_lt e n) [
  | inl first ↦ subst (λ (r : List Bool). IsFedAmong v (IsInRow r) e) (sym same)
      (before e s first (subst (λ (r : List Bool). IsInRow r e) same inside) may)
  | inr last ↦
      let at : n ≡ e = omega (arith, less, last) in
      subst (λ (k : ℕ). IsFedAmong v (IsInRow new) k) at
      (here (subst (λ (k : ℕ). IsInRow new k) (sym at) inside) s
      (subst (λ (k : ℕ). MayFeed v k s) (sym at) may))
]

-- a test that failed
pub true_not : (b : Bool) → IsTrue (not b) → b ≡ false
true_not true h = absurd cc
true_not false h = refl

-- TSO allows what is left of a row
pub allowed_left : (v : Values) (row : List Bool) (l : Left) → IsLeft v l → LeavesFed v row l.row → AreAllowed l.values
    → IsAllowedWith v row
allowed_left v row l is leaves allowed =
    (l.events.items, l.values, is.events, most_left v row l is leaves, is.values, allowed)

-- an event without which TSO allows what is left is needed
pub needed_without : (v : Values) (l : Left) (e : ℕ) (row : List Bool) → IsLeft v l
    → ((j : ℕ) → is_in row j ≡ (is_in l.row j && not (j == e))) → IsAllowedWith v row → IsNeeded v l.events.items e
needed_without v l e row is numbers with = (
  with.0,
  with.1,
  record {
    events = with.2;
    most = most_same v (IsInRow row) (λ f. IsMember l.events.items f × (f ≢ e)) with.0
        (λ f h. let was = removed_before l.row row e f (numbers f) h in ((is.same f).1 was.0, was.1))
        (λ f h. removed_after l.row row e f (numbers f) ((is.same f).0 h.0) h.1) with.3;
    values = with.4;
  },
  with.5,
)

-- what is left is a part, where TSO does not allow it and each event is needed
pub part_left : (v : Values) (l : Left) → IsRefuted v l
    → ((e : ℕ) → e < event_count (events_alone v) → IsInRow l.row e → IsNeeded v l.events.items e)
    → IsPart v (record { events = l.events; values = l.values })
part_left v l is needed = record {
  events = is.left.events;
  fed = fed_same v (IsInRow l.row) (IsMember l.events.items) (λ e h. (is.left.same e).1 h)
      (λ e h. (is.left.same e).0 h) is.left.fed;
  values = is.left.values;
  refuted = is.refuted;
  needed = λ e h. needed e (is.left.events.events e h) ((is.left.same e).0 h);
}

-- what was tried and is allowed
tried_allowed : (v : Values) (row : List Bool) (limit : ℕ) (t : Tried) → t ≡ Allowed → IsTried v row limit t
    → IsAllowedWith v row
tried_allowed v row limit t same is = subst (λ (z : Tried). IsTried v row limit z) same is

-- so the event that was taken away is needed
pub tried_needed : (v : Values) (l : Left) (e : ℕ) (row : List Bool) (limit : ℕ) (t : Tried) → IsLeft v l
    → ((j : ℕ) → is_in row j ≡ (is_in l.row j && not (j == e))) → t ≡ Allowed → IsTried v row limit t
    → IsNeeded v l.events.items e
tried_needed v l e row limit t is numbers same tried =
    needed_without v l e row is numbers (tried_allowed v row limit t same tried)

-- one event more that is needed, or is not in the row
pub needed_more : (v : Values) (l : Left) (n : ℕ)
    → ((e : ℕ) → e < n → IsInRow l.row e → IsNeeded v l.events.items e)
    → (IsInRow l.row n → IsNeeded v l.events.items n)
    → (e : ℕ) → e < n + 1 → IsInRow l.row e → IsNeeded v l.events.items e
needed_more v l n before here e less inside = elim (cases_lt e n) [
  | inl first ↦ before e first inside
  | inr last ↦
      let at : n ≡ e = omega (arith, less, last) in
      subst (λ (k : ℕ). IsNeeded v l.events.items k) at (here (subst (λ (k : ℕ). IsInRow l.row k) (sym at) inside))
]
