-- What members have at a key when another is put among them.
use Rattle.std.proofs.Common.{◌≡◌, ℕ, suc, List, Option, Some, None, option_map, option_and_then, Ordering}
use Rattle.std.proofs.Common.{Less, Equal, Greater, nat_cmp, bytes_eq, false, true≢false, refl, sym, ap, ◌∙◌}
use Rattle.std.proofs.lemmas.Slice.Eq.{bytes_eq-Decides}
use Rattle.std.specs.Cmp.Lexicographic.{slice_cmp}
use Rattle.std.specs.Ordering.{match_ordering}
use Rattle.serde_json.specs.Data.{Data, Members, no_members, member, put}
use Rattle.serde_json.specs.Find.{get_member}
use Rattle.serde_json.proofs.Views.{get_member-put, get_member-put_other}
use Rattle.recorder.specs.Reading.{count_members}
use Rattle.json.specs.Token.{Token}
use Rattle.recorder.specs.ByTokens.{AtKey, Adds, GivesValue}

-- a value that gives x
pub at_new : {A : Type 0} {f : Data → Option A} {key : List ℕ} (ms : Members) (d : Data) {x : A} {o : Option A}
    → f d ≡ Some x → o ≡ Some x → AtKey f key (put key d ms) o
at_new {A} {f} {key} ms d gives is = record { gives = rw (get_member-put key d ms, is, gives) refl }

-- texts that a test tells apart
apart : (xs ys : List ℕ) → bytes_eq xs ys ≡ false → xs ≡ ys → ⊥
apart xs ys test same = true≢false (sym ((bytes_eq-Decides xs ys).1 same) ∙ test)

-- another key changes nothing
pub at_other : {A : Type 0} {f : Data → Option A} {key : List ℕ} (other : List ℕ) {ms : Members} (d : Data)
    {o : Option A} → bytes_eq key other ≡ false → AtKey f key ms o → AtKey f key (put other d ms) o
at_other {A} {f} {key} other {ms} d test h = record {
  gives = ap (option_map f) (get_member-put_other key other d ms (apart key other test)) ∙ h.gives;
}

-- what was read is what the members give
joined : {A : Type 0} (f : Data → Option A) (m : Option Data) (o : Option A)
    → option_map f m ≡ option_map Some o → option_and_then f m ≡ o
joined f None None h = refl
joined f None (Some x) h = absurd cc
joined f (Some d) None h = absurd cc
joined f (Some d) (Some x) h = cc

pub at_key_is : {A : Type 0} (f : Data → Option A) (key : List ℕ) (ms : Members) (o : Option A)
    → AtKey f key ms o → option_and_then f (get_member key ms) ≡ o
at_key_is f key ms o h = joined f (get_member key ms) o h.gives

-- where nothing was read there is nothing
none_there : {A : Type 0} (f : Data → Option A) (m : Option Data) → option_map f m ≡ None → m ≡ None
none_there f None h = refl
none_there f (Some d) h = absurd cc

-- a new key is one member more
count_put_at : (o : Ordering) (key l : List ℕ) (d e : Data) (ms : Members)
    → match_ordering o (get_member key ms) (Some e) (get_member key ms) ≡ None
    → (get_member key ms ≡ None → count_members (put key d ms) ≡ suc (count_members ms))
    → count_members (match_ordering o (member key d (member l e ms)) (member l d ms)
    (member l e (put key d ms)))
    ≡ suc (suc (count_members ms))
count_put_at Less key l d e ms none later = refl
count_put_at Equal key l d e ms none later = absurd cc
count_put_at Greater key l d e ms none later = ap suc (later none)

count_put : (key : List ℕ) (d : Data) (ms : Members) → get_member key ms ≡ None
    → count_members (put key d ms) ≡ suc (count_members ms)
count_put key d no_members none = refl
count_put key d (member l e ms) none =
    count_put_at (slice_cmp nat_cmp key l) key l d e ms none (count_put key d ms)

pub count_new : {A : Type 0} {f : Data → Option A} {key : List ℕ} (d : Data) {ms : Members} {o : Option A}
    → AtKey f key ms o → o ≡ None → count_members (put key d ms) ≡ suc (count_members ms)
count_new {A} {f} {key} d {ms} h none =
    count_put key d ms (none_there f (get_member key ms) (h.gives ∙ ap (option_map Some) none))

-- a value that was read is put at a new key
pub adds : {S A : Type 0} {Are : S → Members → Type 0} {f : Data → Option A} {key : List ℕ} {depth : ℕ}
    {ts rest : List Token} {x : A} {old new : S} → GivesValue f depth ts x rest
    → ((ms : Members) (d : Data) → f d ≡ Some x → Are old ms → Are new (put key d ms))
    → Adds Are key depth ts rest old new
adds g put_in = record {
  datum = g.datum;
  read = g.read;
  adds = λ ms h. put_in ms g.datum g.gives h;
}
