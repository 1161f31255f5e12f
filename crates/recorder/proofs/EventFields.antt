-- What the members of an event give by those that were read.
use Rattle.std.proofs.Common.{◌≡◌, ◌+◌, ◌==◌, ◌&&◌, ◌∷◌, [], ℕ, List, Bool, true, false, bytes_eq, Option, Some, None}
use Rattle.std.proofs.Common.{option_map, option_and_then}
use Rattle.std.proofs.Common.{codes, refl, sym, ap, ◌∙◌, arith}
use Rattle.json.specs.Token.{Token}
use Rattle.serde_json.specs.Data.{Data, Members, object}
use Rattle.serde_json.specs.Find.{get, as_str, as_object}
use Rattle.recording.specs.declared.event.Event.TheVariants.{L, S, R, C}
use Rattle.recorder.specs.declared.plain.events.Fields.{Fields}
use Rattle.recording.specs.declared.event.Event.{Event}
use Rattle.recorder.specs.Reading.{natural, value_in, source_in, at_key, read_of, member_event, count_members}
use Rattle.recorder.specs.Clipped.{clip, clip_event, clipped_number, clipped_event}
use Rattle.recorder.specs.ByTokens.{clipped_source, GivesValue, Adds}
use Rattle.recorder.specs.ReadMembers.{count_of, single, AreFields}
use Rattle.recorder.proofs.ClippedLists.{value_clipped}
use Rattle.recorder.proofs.Somes.{map_if}
use Rattle.recorder.proofs.AtKeys.{adds, at_new, at_other, at_key_is, count_new}

-- ---- one member more

-- the kind
pub kind_added : (f : Fields) (o : Option ℕ) {k : ℕ} {depth : ℕ} {ts rest : List Token}
    → GivesValue as_str depth ts (k ∷ []) rest → f.k ≡ None → o ≡ Some k
    → Adds AreFields (codes "k") depth ts rest f (record f { k = o })
kind_added f o g none is = adds g (λ ms d gives h. record {
  kind = at_new ms d gives (ap (option_map (λ l. l ∷ [])) is);
  address = at_other (codes "k") d refl h.address;
  value_read = at_other (codes "k") d refl h.value_read;
  source = at_other (codes "k") d refl h.source;
  value_written = at_other (codes "k") d refl h.value_written;
  count = omega (
    arith,
    count_new d h.kind (ap (option_map (λ l. l ∷ [])) none),
    h.count,
    ap count_of none,
    ap count_of is,
  );
})

-- the address
pub address_added : (f : Fields) (o : Option ℕ) {a : ℕ} {depth : ℕ} {ts rest : List Token}
    → GivesValue clipped_number depth ts a rest → f.a ≡ None → o ≡ Some a
    → Adds AreFields (codes "a") depth ts rest f (record f { a = o })
address_added f o g none is = adds g (λ ms d gives h. record {
  kind = at_other (codes "a") d refl h.kind;
  address = at_new ms d gives is;
  value_read = at_other (codes "a") d refl h.value_read;
  source = at_other (codes "a") d refl h.source;
  value_written = at_other (codes "a") d refl h.value_written;
  count = omega (arith, count_new d h.address none, h.count, ap count_of none, ap count_of is);
})

-- the value that is read
pub value_read_added : (f : Fields) (o : Option ℕ) {r : ℕ} {depth : ℕ} {ts rest : List Token}
    → GivesValue value_in depth ts r rest → f.r ≡ None → o ≡ Some r
    → Adds AreFields (codes "r") depth ts rest f (record f { r = o })
value_read_added f o g none is = adds g (λ ms d gives h. record {
  kind = at_other (codes "r") d refl h.kind;
  address = at_other (codes "r") d refl h.address;
  value_read = at_new ms d gives is;
  source = at_other (codes "r") d refl h.source;
  value_written = at_other (codes "r") d refl h.value_written;
  count = omega (arith, count_new d h.value_read none, h.count, ap count_of none, ap count_of is);
})

-- the source
pub source_added : (f : Fields) (o : Option (Option ℕ)) {s : Option ℕ} {depth : ℕ} {ts rest : List Token}
    → GivesValue clipped_source depth ts s rest → f.s ≡ None → o ≡ Some s
    → Adds AreFields (codes "s") depth ts rest f (record f { s = o })
source_added f o g none is = adds g (λ ms d gives h. record {
  kind = at_other (codes "s") d refl h.kind;
  address = at_other (codes "s") d refl h.address;
  value_read = at_other (codes "s") d refl h.value_read;
  source = at_new ms d gives is;
  value_written = at_other (codes "s") d refl h.value_written;
  count = omega (arith, count_new d h.source none, h.count, ap count_of none, ap count_of is);
})

-- the value that is written
pub value_written_added : (f : Fields) (o : Option ℕ) {w : ℕ} {depth : ℕ} {ts rest : List Token}
    → GivesValue value_in depth ts w rest → f.w ≡ None → o ≡ Some w
    → Adds AreFields (codes "w") depth ts rest f (record f { w = o })
value_written_added f o g none is = adds g (λ ms d gives h. record {
  kind = at_other (codes "w") d refl h.kind;
  address = at_other (codes "w") d refl h.address;
  value_read = at_other (codes "w") d refl h.value_read;
  source = at_other (codes "w") d refl h.source;
  value_written = at_new ms d gives is;
  count = omega (arith, count_new d h.value_written none, h.count, ap count_of none, ap count_of is);
})

-- ---- the event

-- what is clipped of what reads
read_clipped : (make : ℕ → ℕ → Option ℕ → Event)
    → ((x y : ℕ) (z : Option ℕ) → clip_event (make x y z) ≡ make (clip x) y (option_map clip z))
    → (a r : Option ℕ) (s : Option (Option ℕ)) → option_map clip_event (read_of make a r s)
    ≡ read_of make (option_map clip a) r (option_map (option_map clip) s)
read_clipped make is None r s = refl
read_clipped make is (Some x) None s = refl
read_clipped make is (Some x) (Some y) None = refl
read_clipped make is (Some x) (Some y) (Some z) = ap Some (is x y z)

-- of a store
store_clipped : (a w : Option ℕ) → option_map clip_event (option_and_then (λ x. option_map (λ v. S x v) w) a)
    ≡ option_and_then (λ x. option_map (λ v. S x v) w) (option_map clip a)
store_clipped None w = refl
store_clipped (Some x) None = refl
store_clipped (Some x) (Some v) = refl

-- of a read-modify-write
rmw_clipped : (a r : Option ℕ) (s : Option (Option ℕ)) (w : Option ℕ)
    → option_map clip_event (option_and_then (λ v. read_of (λ x y z. R x y z v) a r s) w)
    ≡ option_and_then (λ v. read_of (λ x y z. R x y z v) (option_map clip a) r (option_map (option_map clip) s)) w
rmw_clipped a r s None = refl
rmw_clipped a r s (Some v) = read_clipped (λ x y z. R x y z v) (λ x y z. refl) a r s

-- of an event of a kind
kind_clipped : (k : List ℕ) (n : ℕ) (a r : Option ℕ) (s : Option (Option ℕ)) (w : Option ℕ)
    → option_map clip_event (member_event k n a r s w)
    ≡ member_event k n (option_map clip a) r (option_map (option_map clip) s) w
unfolding member_event
kind_clipped k n a r s w = simp (
  map_if,
  read_clipped L (λ x y z. refl) a r s,
  store_clipped a w,
  rmw_clipped a r s w,
  read_clipped C (λ x y z. refl) a r s,
) refl

-- a longer text is none of one byte
longer : (x y : ℕ) (ys : List ℕ) (c : ℕ) → bytes_eq (x ∷ y ∷ ys) (c ∷ []) ≡ false
longer x y ys c = go (x == c)
  where
    go : (b : Bool) → b && false ≡ false
    go true = refl
    go false = refl

-- an event of a kind is one of a kind of one letter
single_kind : (k : List ℕ) (n : ℕ) (a r : Option ℕ) (s : Option (Option ℕ)) (w : Option ℕ)
    → member_event k n a r s w ≡ option_and_then (λ l. member_event (l ∷ []) n a r s w) (single k)
unfolding member_event
single_kind [] n a r s w = refl
single_kind (x ∷ []) n a r s w = refl
single_kind (x ∷ y ∷ ys) n a r s w =
    rw (longer x y ys 76, longer x y ys 83, longer x y ys 82, longer x y ys 67, longer x y ys 70) refl

-- what a value's members give is the event of what was read of them
pub event_given : (f : Fields) (n : ℕ) (d : Data) → option_map count_members (as_object d) ≡ Some n
    → option_and_then single (at_key as_str (codes "k") d) ≡ f.k → at_key clipped_number (codes "a") d ≡ f.a
    → at_key value_in (codes "r") d ≡ f.r → at_key clipped_source (codes "s") d ≡ f.s
    → at_key value_in (codes "w") d ≡ f.w
    → clipped_event d ≡ option_and_then (λ k. member_event (k ∷ []) n f.a f.r f.s f.w) f.k
event_given f n d count k a r s w =
    ap (option_map clip_event) (rw (count, r, w) refl) ∙ go (at_key as_str (codes "k") d)
    ∙ ap (option_and_then (λ l. member_event (l ∷ []) n f.a f.r f.s f.w)) k
  where
    number : Option ℕ
    number = at_key natural (codes "a") d

    from : Option (Option ℕ)
    from = at_key source_in (codes "s") d

    address_is : option_map clip number ≡ f.a
    address_is = sym (value_clipped clipped_number natural clip (λ e. refl) (get (codes "a") d)) ∙ a

    source_is : option_map (option_map clip) from ≡ f.s
    source_is = sym (value_clipped clipped_source source_in (option_map clip) (λ e. refl) (get (codes "s") d)) ∙ s

    go : (o : Option (List ℕ))
        → option_map clip_event (option_and_then (λ q. member_event q n number f.r from f.w) o)
        ≡ option_and_then (λ l. member_event (l ∷ []) n f.a f.r f.s f.w) (option_and_then single o)
    go None = refl
    go (Some q) = kind_clipped q n number f.r from f.w ∙ rw (address_is, source_is) refl
        ∙ single_kind q n f.a f.r f.s f.w

-- the letter of a text of one letter
letter_again : (o : Option ℕ) → option_and_then single (option_map (λ l. l ∷ []) o) ≡ o
letter_again None = refl
letter_again (Some l) = refl

-- so it is with the members that were read
pub members_give : (f : Fields) (n : ℕ) (ms : Members) → AreFields f ms
    → n ≡ count_of f.k + count_of f.a + count_of f.r + count_of f.s + count_of f.w
    → clipped_event (object ms) ≡ option_and_then (λ k. member_event (k ∷ []) n f.a f.r f.s f.w) f.k
members_give f n ms h is =
    event_given f n (object ms) (ap Some (h.count ∙ sym is))
    (ap (option_and_then single) (at_key_is as_str (codes "k") ms _ h.kind) ∙ letter_again f.k)
    (at_key_is clipped_number (codes "a") ms _ h.address)
    (at_key_is value_in (codes "r") ms _ h.value_read) (at_key_is clipped_source (codes "s") ms _ h.source)
    (at_key_is value_in (codes "w") ms _ h.value_written)
