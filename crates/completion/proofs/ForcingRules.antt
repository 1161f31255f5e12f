-- The rules by which values force pairs of events.
use Rattle.std.proofs.Common.{◌≡◌, ◌≢◌, ◌<◌, ◌≤◌, ◌&&◌, ◌⊎◌, inl, inr, ℕ, Bool, true, false, Option, Some, None, List}
use Rattle.std.proofs.Common.{arith, refl, sym, ap, subst, ◌∙◌}
use Rattle.recording.specs.declared.event.Event.{Event}
use Rattle.recording.specs.declared.event.Event.TheVariants.{L, S, R, C, F}
use Rattle.recording.specs.Event.{is_plain_store, is_plain_load, read_address, value_read}
use Rattle.recording.specs.Execution.{Execution, event_count, event_at, initial_value, Reads, Writes, source_of}
use Rattle.recording.specs.Execution.{ProgramOrder, Kept}
use Rattle.recording.specs.Order.{Before}
use Rattle.recording.specs.OrderLaws.{compare_places}
use Rattle.recording.specs.EventLaws.{Reads-event, Writes-event}
use Rattle.recording.specs.Tso.{IsTsoOrder, IsLastVisible, Visible, Gives}
use Rattle.values.specs.Values.{Values, IsCompletion, AreAllowed}
use Rattle.values.specs.Refused.{events_alone}
use Rattle.completion.specs.Search.{IsForced}
use Rattle.completion.specs.Sources.{MayGive}
use Rattle.completion.proofs.Alone.{reads_alone, writes_alone, alone_writes, value_alone, written_alone, initial_alone}
use Rattle.completion.proofs.Alone.{order_alone, alone_order, kept_alone}

-- whatever completes the values, this is the source of event e
abbrev pub IsSource : Values → ℕ → Option ℕ → Type 0
IsSource v e s = (x : Execution) (m : List ℕ) → IsCompletion v x m → source_of x e ≡ s

-- Before is an order
before_twice : (m : List ℕ) (e f g : ℕ) → Before m e f → Before m f g → Before m e g
before_twice m e f g first second = (omega (arith, first, second), second.1)

-- what reads is no plain store
reads_no_store : (ev : Event) (a : ℕ) → read_address ev ≡ Some a → is_plain_store ev ≡ false
reads_no_store (L b r o) a h = refl
reads_no_store (S b w) a h = absurd cc
reads_no_store (R b r o w) a h = refl
reads_no_store (C b r o) a h = refl
reads_no_store F a h = refl

-- so it is kept before what comes later on its core
no_store_kept : (b d : Bool) → b ≡ false → (b && d) ≡ false
no_store_kept true d h = absurd cc
no_store_kept false d h = refl

module _ (x : Execution) (m : List ℕ) (tso : IsTsoOrder x m) where
  -- of two events one stands before the other
  one_first : (e f : ℕ) → e < event_count x → f < event_count x → e ≢ f → Before m e f ⊎ Before m f e
  one_first e f he hf apart =
      pick (compare_places m e f (omega (arith, tso.total.once e he)) (omega (arith, tso.total.once f hf)))
    where
      pick : Before m e f ⊎ ((e ≡ f) ⊎ Before m f e) → Before m e f ⊎ Before m f e
      pick (inl before) = inl before
      pick (inr (inl one)) = absurd (apart one)
      pick (inr (inr after)) = inr after

  -- a read stands before what comes later on its core
  read_kept : (e u a : ℕ) → Reads x e a → ProgramOrder x e u → Before m e u
  read_kept e u a reads order = tso.kept e u (
    order,
    no_store_kept (is_plain_store (event_at x e)) (is_plain_load (event_at x u)) (reads_no_store (event_at x e) a reads),
  )

  -- a write that a read sees is not later on its core
  not_later : (e u a : ℕ) → Reads x e a → Visible x m e a u → ProgramOrder x e u → 1 ≤ 0
  not_later e u a reads seen order = go seen.2
    where
      go : Before m u e ⊎ ProgramOrder x u e → 1 ≤ 0
      go (inl back) = omega (arith, back, read_kept e u a reads order)
      go (inr back) = omega (arith, back.0, order.0)

-- Sources

module _ (v : Values) (x : Execution) (m : List ℕ) (h : IsCompletion v x m) where
  -- the source of a read may give its value
  source_gives : (e a u : ℕ) → Reads (events_alone v) e a → source_of x e ≡ Some u → MayGive v e a u
  source_gives e a u reads is = go (gives (h.recording.well_formed.sources e a own)) (last (h.tso.values e a own))
    where
      own : Reads x e a
      own = reads_alone v x m h e a reads

      gives : Gives x a (source_of x e) (value_read (event_at x e)) → Gives x a (Some u) (value_read (event_at x e))
      gives g = subst (λ (o : Option ℕ). Gives x a o (value_read (event_at x e))) is g

      last : IsLastVisible x m e a (source_of x e) → IsLastVisible x m e a (Some u)
      last l = subst (λ (o : Option ℕ). IsLastVisible x m e a o) is l

      go : Gives x a (Some u) (value_read (event_at x e)) → IsLastVisible x m e a (Some u) → MayGive v e a u
      go g l = record {
        writes = alone_writes v x m h u a g.0;
        value = written_alone v x m h u ∙ (g.1 ∙ sym (value_alone v x m h e));
        other = l.0.1;
        earlier = λ order. absurd (omega
            (arith, not_later x m h.tso e u a own l.0 (order_alone v x m h e u order)));
      }

  -- a read of the initial value
  initial_gives : (e a : ℕ) → Reads (events_alone v) e a → source_of x e ≡ None
      → value_read (event_at (events_alone v) e) ≡ initial_value (events_alone v) a
  initial_gives e a reads is =
      let gives : Gives x a None (value_read (event_at x e)) =
      subst (λ (o : Option ℕ). Gives x a o (value_read (event_at x e))) is
      (h.recording.well_formed.sources e a (reads_alone v x m h e a reads)) in
      value_alone v x m h e ∙ (gives ∙ sym (initial_alone v x m h a))

  -- what a known source makes visible
  last_of : (e a : ℕ) (s : Option ℕ) → Reads (events_alone v) e a → source_of x e ≡ s → IsLastVisible x m e a s
  last_of e a s reads is = subst (λ (o : Option ℕ). IsLastVisible x m e a o) is
      (h.tso.values e a (reads_alone v x m h e a reads))

-- one write alone may give the value, which is not the initial one
pub only_source : (v : Values) (e a w : ℕ) → Reads (events_alone v) e a
    → value_read (event_at (events_alone v) e) ≢ initial_value (events_alone v) a
    → ((u : ℕ) → MayGive v e a u → u ≡ w) → IsSource v e (Some w)
only_source v e a w reads other only x m h = go (source_of x e) refl
  where
    go : (o : Option ℕ) → source_of x e ≡ o → source_of x e ≡ Some w
    go None is = absurd (other (initial_gives v x m h e a reads is))
    go (Some u) is = is ∙ ap (λ (k : ℕ). Some k) (only u (source_gives v x m h e a u reads is))

-- none may
pub no_source : (v : Values) (e a : ℕ) → Reads (events_alone v) e a → ((u : ℕ) → ¬ MayGive v e a u) → IsSource v e None
no_source v e a reads none x m h = go (source_of x e) refl
  where
    go : (o : Option ℕ) → source_of x e ≡ o → source_of x e ≡ None
    go None is = is
    go (Some u) is = absurd (none u (source_gives v x m h e a u reads is))

-- Rules

-- kept pairs
pub kept_rule : (v : Values) (e f : ℕ) → Kept (events_alone v) e f → IsForced v e f
kept_rule v e f kept x m h = h.tso.kept e f (kept_alone v x m h e f kept)

-- two pairs that meet
pub between_rule : (v : Values) (e f g : ℕ) → IsForced v e f → IsForced v f g → IsForced v e g
between_rule v e f g first second x m h = before_twice m e f g (first x m h) (second x m h)

-- reads-from: a source that is not earlier on the core of its read
pub source_rule : (v : Values) (e a w : ℕ) → Reads (events_alone v) e a → IsSource v e (Some w)
    → (¬ ProgramOrder (events_alone v) w e) → IsForced v w e
source_rule v e a w reads source apart x m h = pick (last_of v x m h e a (Some w) reads (source x m h)).0.2
  where
    pick : Before m w e ⊎ ProgramOrder x w e → Before m w e
    pick (inl before) = before
    pick (inr order) = absurd (apart (alone_order v x m h w e order))

-- write order: another write that the read sees stands before the source
pub earlier_rule : (v : Values) (e a w z : ℕ) → Reads (events_alone v) e a → IsSource v e (Some w)
    → Writes (events_alone v) z a → z ≢ w → z ≢ e → IsForced v z e ⊎ ProgramOrder (events_alone v) z e
    → IsForced v z w
earlier_rule v e a w z reads source writes apart other seen x m h =
    pick ((last_of v x m h e a (Some w) reads (source x m h)).1 z (writes_alone v x m h z a writes, other, go seen))
  where
    go : IsForced v z e ⊎ ProgramOrder (events_alone v) z e → Before m z e ⊎ ProgramOrder x z e
    go (inl before) = inl (before x m h)
    go (inr order) = inr (order_alone v x m h z e order)

    pick : (z ≡ w) ⊎ Before m z w → Before m z w
    pick (inl one) = absurd (apart one)
    pick (inr before) = before

-- from-read: a write after the source stands after the read
pub later_rule : (v : Values) (e a w z : ℕ) → Reads (events_alone v) e a → IsSource v e (Some w)
    → Writes (events_alone v) z a → z ≢ e → IsForced v w z → IsForced v e z
later_rule v e a w z reads source writes other after x m h =
    pick (one_first x m h.tso e z (Reads-event x e a (reads_alone v x m h e a reads))
    (Writes-event x z a (writes_alone v x m h z a writes)) (λ one. other (sym one)))
  where
    clash : Before m z e → (z ≡ w) ⊎ Before m z w → 1 ≤ 0
    clash before (inl one) =
        let self : Before m w w = subst (λ (k : ℕ). Before m w k) one (after x m h) in omega (arith, self)
    clash before (inr back) = omega (arith, back, after x m h)

    pick : Before m e z ⊎ Before m z e → Before m e z
    pick (inl before) = before
    pick (inr before) = absurd (omega (
      arith,
      clash before
          ((last_of v x m h e a (Some w) reads (source x m h)).1 z
          (writes_alone v x m h z a writes, other, inl before)),
    ))

-- a read of the initial value stands before each other write to the address
pub initial_rule : (v : Values) (e a z : ℕ) → Reads (events_alone v) e a → IsSource v e None
    → Writes (events_alone v) z a → z ≢ e → IsForced v e z
initial_rule v e a z reads source writes other x m h =
    pick (one_first x m h.tso e z (Reads-event x e a (reads_alone v x m h e a reads))
    (Writes-event x z a (writes_alone v x m h z a writes)) (λ one. other (sym one)))
  where
    pick : Before m e z ⊎ Before m z e → Before m e z
    pick (inl before) = before
    pick (inr before) = absurd (last_of v x m h e a None reads (source x m h) z
        (writes_alone v x m h z a writes, other, inl before))

-- it has no earlier write on its core; where it has, nothing completes the values, and each pair is forced
pub overlook_rule : (v : Values) (e a z : ℕ) → Reads (events_alone v) e a → IsSource v e None
    → Writes (events_alone v) z a → z ≢ e → ProgramOrder (events_alone v) z e → IsForced v e e
overlook_rule v e a z reads source writes other order x m h =
    absurd (last_of v x m h e a None reads (source x m h) z
    (writes_alone v x m h z a writes, other, inr (order_alone v x m h z e order)))

-- where an event stands before itself, nothing completes the values
pub circle_rule : (v : Values) (e : ℕ) → IsForced v e e → ¬ AreAllowed v
circle_rule v e circle (x, m, h) = let self : Before m e e = circle x m h in absurd (omega (arith, self))
