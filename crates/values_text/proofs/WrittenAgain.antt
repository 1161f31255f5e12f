-- What the text of values has is what is read of it.
use Rattle.std.proofs.Common.{◌≡◌, ◌^◌, ◌+◌, ℕ, List, [], ◌∷◌, ◌++◌, Option, Some, None, map, codes}
use Rattle.std.proofs.Common.{false, refl, ap, ◌∙◌, arith}
use Rattle.std.proofs.lemmas.Bool.{lt-ltb}
use Rattle.std.specs.List.{AllByRecursion}
use Rattle.serde_json.specs.Data.{Data, object}
use Rattle.serde_json.specs.Written.{compact_text, has_float}
use Rattle.recording.specs.declared.event.Event.TheVariants.{L, S, R, C, F}
use Rattle.recorder.specs.Reading.{source_in, list_in}
use Rattle.recorder.specs.Text.{number_data, list_data, source_data, members}
use Rattle.recorder.specs.Written.{IsWord}
use Rattle.recorder.proofs.WrittenAgain.{Rereads, number_rereads, source_rereads, list_rereads, fitting_again, init_again}
use Rattle.values.specs.Values.{Values}
use Rattle.values_text.specs.Reading.{KnownEvent, known_event, known_event_in, final_in, values_contents, values_shape}
use Rattle.values_text.specs.Text.{known_cores, known_members, known_data, final_data, contents_data_3, values_data}
use Rattle.values_text.specs.Text.{written_finals, IsWordKnown, IsFittingKnown, IsFittingFinal, AreFittingFinals}
use Rattle.values_text.specs.Text.{AreFittingNumbers}

-- ---- the value is read of its text

-- a final value
final_rereads : (o : Option ℕ) → IsFittingFinal o → Rereads 0 (final_data o)
final_rereads None h = record { same = refl; numbers = tt; shallow = omega arith; no_float = refl }
final_rereads (Some n) h = number_rereads n (omega (arith, h))

-- an event that reads, of this kind
reading_rereads : (kind : List ℕ) (a r : ℕ) (o : Option (Option ℕ)) → IsWord a → IsWord r → IsWordKnown o
    → Rereads 1 (object (members (known_members kind a r o)))
reading_rereads kind a r None short word known =
    let x = number_rereads a (omega (arith, short)) in
    let y = number_rereads r (omega (arith, word)) in
    record {
      same = rw (x.same, y.same) refl;
      numbers = (x.numbers, (tt, (y.numbers, tt)));
      shallow = omega arith;
      no_float = refl;
    }
reading_rereads kind a r (Some s) short word known =
    let x = number_rereads a (omega (arith, short)) in
    let y = number_rereads r (omega (arith, word)) in
    let z = source_rereads s known in
    record {
      same = rw (x.same, y.same, z.same) refl;
      numbers = (x.numbers, (tt, (y.numbers, (z.numbers, tt))));
      shallow = omega (arith, z.shallow);
      no_float = rw z.no_float refl;
    }

-- a read-modify-write
rmw_rereads : (a r w : ℕ) (s : Option ℕ) (o : Option (Option ℕ)) → IsWord a → IsWord r → IsWordKnown o → IsWord w
    → Rereads 1 (known_data (R a r s w, o))
rmw_rereads a r w t None short word known written =
    let x = number_rereads a (omega (arith, short)) in
    let y = number_rereads r (omega (arith, word)) in
    let u = number_rereads w (omega (arith, written)) in
    record {
      same = rw (x.same, y.same, u.same) refl;
      numbers = (x.numbers, (tt, (y.numbers, (u.numbers, tt))));
      shallow = omega arith;
      no_float = refl;
    }
rmw_rereads a r w t (Some s) short word known written =
    let x = number_rereads a (omega (arith, short)) in
    let y = number_rereads r (omega (arith, word)) in
    let z = source_rereads s known in
    let u = number_rereads w (omega (arith, written)) in
    record {
      same = rw (x.same, y.same, z.same, u.same) refl;
      numbers = (x.numbers, (tt, (y.numbers, (z.numbers, (u.numbers, tt)))));
      shallow = omega (arith, z.shallow);
      no_float = rw z.no_float refl;
    }

-- an event
known_rereads : (p : KnownEvent) → IsFittingKnown p → Rereads 1 (known_data p)
known_rereads (L a r s, o) h = reading_rereads (codes "L") a r o h.0 h.1 h.2
known_rereads (S a w, o) h =
    let x = number_rereads a (omega (arith, h.0)) in
    let y = number_rereads w (omega (arith, h.1)) in
    record {
      same = rw (x.same, y.same) refl;
      numbers = (x.numbers, (tt, (y.numbers, tt)));
      shallow = omega arith;
      no_float = refl;
    }
known_rereads (R a r s w, o) h = rmw_rereads a r w s o h.0 h.1 h.2 h.3
known_rereads (C a r s, o) h = reading_rereads (codes "C") a r o h.0 h.1 h.2
known_rereads (F, o) h = record { same = refl; numbers = (tt, tt); shallow = omega arith; no_float = refl }

-- the events of each core
cores_reread : (cores : List (List KnownEvent)) → AllByRecursion (AllByRecursion IsFittingKnown) cores
    → Rereads 3 (list_data (list_data known_data) cores)
cores_reread = list_rereads (list_data known_data) (AllByRecursion IsFittingKnown) 2
    (list_rereads known_data IsFittingKnown 1 known_rereads)

-- the initial values
init_reread : (values : List ℕ) → AllByRecursion IsWord values → Rereads 1 (list_data number_data values)
init_reread = list_rereads number_data IsWord 0 (λ n h. number_rereads n (omega (arith, h)))

-- the final values
finals_reread : (fs : List (Option ℕ)) → AllByRecursion IsFittingFinal fs → Rereads 1 (list_data final_data fs)
finals_reread = list_rereads final_data IsFittingFinal 0 final_rereads

-- the contents
contents_reread : (cores : List (List KnownEvent)) (fs : Option (List (Option ℕ))) (values : List ℕ)
    → AllByRecursion (AllByRecursion IsFittingKnown) cores → AreFittingFinals fs → AllByRecursion IsWord values
    → Rereads 4 (contents_data_3 cores fs values)
contents_reread cores None values events finals words =
    let x = cores_reread cores events in
    let y = init_reread values words in
    let z = number_rereads 3 (omega arith) in
    record {
      same = rw (x.same, y.same, z.same) refl;
      numbers = (x.numbers, (y.numbers, (z.numbers, tt)));
      shallow = omega (arith, x.shallow, y.shallow);
      no_float = rw (x.no_float, y.no_float) refl;
    }
contents_reread cores (Some fs) values events finals words =
    let x = cores_reread cores events in
    let u = finals_reread fs finals in
    let y = init_reread values words in
    let z = number_rereads 3 (omega arith) in
    record {
      same = rw (x.same, u.same, y.same, z.same) refl;
      numbers = (x.numbers, (u.numbers, (y.numbers, (z.numbers, tt))));
      shallow = omega (arith, x.shallow, u.shallow, y.shallow);
      no_float = rw (x.no_float, u.no_float, y.no_float) refl;
    }

-- of values
pub values_reread : (v : Values) → AreFittingNumbers v → Rereads 4 (values_data v)
values_reread v h =
    contents_reread (known_cores v.cores v.sources) (written_finals v.final_values) v.initial h.events h.finals h.words

-- their text and a newline
pub values_written : (v : Values) (bytes text : List ℕ) (d : Data) → AreFittingNumbers v → d ≡ values_data v
    → (has_float d ≡ false → text ≡ compact_text d) → bytes ≡ text ++ 10 ∷ []
    → bytes ≡ compact_text (values_data v) ++ 10 ∷ []
values_written v bytes text d fits is written whole =
    let none : has_float d ≡ false = rw is (values_reread v fits).no_float in
    whole ∙ ap (λ (t : List ℕ). t ++ 10 ∷ []) (written none ∙ ap compact_text is)

-- ---- the value has the contents

-- what is read of an event that was written with this source, if one is known: its own is not written
abbrev pub resourced : KnownEvent → KnownEvent
resourced (L a r s, None) = (L a r None, None)
resourced (L a r s, Some t) = (L a r t, Some t)
resourced (S a w, o) = (S a w, None)
resourced (R a r s w, None) = (R a r None w, None)
resourced (R a r s w, Some t) = (R a r t w, Some t)
resourced (C a r s, None) = (C a r None, None)
resourced (C a r s, Some t) = (C a r t, Some t)
resourced (F, o) = (F, None)

-- a source
source_again : (s : Option ℕ) → source_in (source_data s) ≡ Some s
source_again None = refl
source_again (Some n) = refl

-- an event
known_again : (p : KnownEvent) → IsFittingKnown p → known_event_in (known_data p) ≡ Some (resourced p)
unfolding known_event
known_again (L a r s, None) h = rw (lt-ltb r (2 ^ 32) h.1) refl
known_again (L a r s, Some t) h = rw (lt-ltb r (2 ^ 32) h.1, source_again t) refl
known_again (S a w, o) h = rw (lt-ltb w (2 ^ 32) h.1) refl
known_again (R a r s w, None) h = rw (lt-ltb r (2 ^ 32) h.1, lt-ltb w (2 ^ 32) h.3) refl
known_again (R a r s w, Some t) h = rw (lt-ltb r (2 ^ 32) h.1, source_again t, lt-ltb w (2 ^ 32) h.3) refl
known_again (C a r s, None) h = rw (lt-ltb r (2 ^ 32) h.1) refl
known_again (C a r s, Some t) h = rw (lt-ltb r (2 ^ 32) h.1, source_again t) refl
known_again (F, o) h = refl

-- a final value
final_again : (o : Option ℕ) → IsFittingFinal o → final_in (final_data o) ≡ Some o
final_again None h = refl
final_again (Some n) h = rw (lt-ltb n (2 ^ 32) h) refl

-- all items of a list, each as h makes it
list_again : {A : Type 0} (f : Data → Option A) (g : A → Data) (h : A → A) (Fits : A → Type 0)
    → ((x : A) → Fits x → f (g x) ≡ Some (h x)) → (xs : List A) → AllByRecursion Fits xs
    → list_in f (list_data g xs) ≡ Some (map h xs)
list_again f g h Fits each [] all = refl
list_again f g h Fits each (x ∷ xs) all = rw (each x all.0, list_again f g h Fits each xs all.1) refl

-- the events of each core
cores_again : (cores : List (List KnownEvent)) → AllByRecursion (AllByRecursion IsFittingKnown) cores
    → list_in (list_in known_event_in) (list_data (list_data known_data) cores) ≡ Some (map (map resourced) cores)
cores_again = list_again (list_in known_event_in) (list_data known_data) (map resourced) (AllByRecursion IsFittingKnown)
    (list_again known_event_in known_data resourced IsFittingKnown known_again)

-- the final values
finals_again : (fs : List (Option ℕ)) → AllByRecursion IsFittingFinal fs
    → list_in final_in (list_data final_data fs) ≡ Some fs
finals_again = fitting_again final_in final_data IsFittingFinal final_again

-- the contents
pub shape_again : (cores : List (List KnownEvent)) (fs : Option (List (Option ℕ))) (values : List ℕ)
    → AllByRecursion (AllByRecursion IsFittingKnown) cores → AreFittingFinals fs → AllByRecursion IsWord values
    → values_shape (contents_data_3 cores fs values)
    ≡ Some (record { version = 3; cores = map (map resourced) cores; initial = values; final_values = fs })
unfolding values_shape values_contents
shape_again cores None values events finals words = rw (cores_again cores events, init_again values words) refl
shape_again cores (Some fs) values events finals words =
    rw (cores_again cores events, init_again values words, finals_again fs finals) refl
