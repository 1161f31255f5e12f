-- What `write_recording` writes is read back.
use Rattle.std.proofs.Common.{◌≡◌, ◌<◌, ◌≤◌, ◌^◌, ◌+◌, ℕ, List, [], ◌∷◌, ◌++◌, Option, Some, None, map}
use Rattle.std.proofs.Common.{option_and_then, false, length, codes}
use Rattle.std.proofs.Common.{inl, inr, ◌⊎◌, refl, sym, ap, ◌∙◌, arith, append-nil}
use Rattle.std.specs.List.{AllByRecursion}
use Rattle.json.specs.Token.{Token}
use Rattle.json.specs.Lex.{tokens}
use Rattle.json.specs.Print.{print}
use Rattle.json.specs.Json as json
use Rattle.json.specs.Tree as tree
use Rattle.json.specs.Tree.{json_tokens, HasNumbers, ItemsHaveNumbers}
use Rattle.json.proofs.Printed.Decimals.{IsNumber-decimal}
use Rattle.json.proofs.Printed.Tokens.{tokens-print}
use Rattle.json.proofs.Printed.Trees.{value-json_tokens, ArePrintable-json_tokens}
use Rattle.serde_json.specs.Data.{Data, Items, object}
use Rattle.serde_json.specs.Read.{of_json, of_items, read, max_depth}
use Rattle.serde_json.specs.View.{items_of}
use Rattle.serde_json.specs.Written.{outline, items_outline, compact_text, has_float, items_have_float}
use Rattle.serde_json.proofs.Numbers.{number_of-decimal}
use Rattle.serde_json.proofs.Texts.{print-outline}
use Rattle.recording.specs.declared.event.Event.{Event}
use Rattle.recording.specs.declared.event.Event.TheVariants.{L, S, R, C, F}
use Rattle.recording.specs.Execution.{Execution}
use Rattle.recording.specs.Recording.{executed}
use Rattle.recorder.specs.Reading.{natural, value_in, event_in, list_in, contents_of, shape_in, Decodes}
use Rattle.recorder.specs.Text.{number_data, list_data, source_data, members, read_members, event_data, data_of}
use Rattle.recorder.specs.Text.{contents_data, values_of, is_of_version_1}
use Rattle.recorder.specs.Written.{IsWord, IsWordSource, IsFitting, AreFitting, version_of}
use Rattle.recorder.proofs.Again.{number_again, value_again, event_again}
use Rattle.recorder.proofs.Newline.{tokens_newline}
use Rattle.recorder.proofs.Decoded.{tells}

-- ---- the value is read of its text

-- the value as JSON is read as the value, its numbers are numbers and no floats, and it nests at most so deep
pub record Rereads (k : ℕ) (d : Data) : Type 0 where
  pub same : of_json (outline d) ≡ Some d
  pub numbers : HasNumbers (outline d)
  pub shallow : tree.depth (outline d) ≤ k
  pub no_float : has_float d ≡ false

-- the same of items
record ItemsReread (k : ℕ) (ds : Items) : Type 0 where
  pub same : of_items (items_outline ds) ≡ Some ds
  pub numbers : ItemsHaveNumbers (items_outline ds)
  pub shallow : tree.items_depth (items_outline ds) ≤ k
  pub no_float : items_have_float ds ≡ false

-- a number
pub number_rereads : (n : ℕ) → n < 2 ^ 64 → Rereads 0 (number_data n)
number_rereads n h = record {
  same = rw (number_of-decimal n h) refl;
  numbers = IsNumber-decimal n h;
  shallow = omega arith;
  no_float = refl;
}

-- a source
pub source_rereads : (s : Option ℕ) → IsWordSource s → Rereads 0 (source_data s)
source_rereads None h = record { same = refl; numbers = tt; shallow = omega arith; no_float = refl }
source_rereads (Some s) h = number_rereads s (omega (arith, h))

-- items
items_reread : {A : Type 0} (f : A → Data) (Fits : A → Type 0) (k : ℕ) → ((x : A) → Fits x → Rereads k (f x))
    → (xs : List A) → AllByRecursion Fits xs → ItemsReread k (items_of (map f xs))
items_reread f Fits k each [] all = record { same = refl; numbers = tt; shallow = omega arith; no_float = refl }
items_reread f Fits k each (x ∷ xs) all =
    let one = each x all.0 in
    let rest = items_reread f Fits k each xs all.1 in
    record {
      same = rw (one.same, rest.same) refl;
      numbers = (one.numbers, rest.numbers);
      shallow = omega (arith, one.shallow, rest.shallow);
      no_float = rw one.no_float rest.no_float;
    }

-- a list
pub list_rereads : {A : Type 0} (f : A → Data) (Fits : A → Type 0) (k : ℕ) → ((x : A) → Fits x → Rereads k (f x))
    → (xs : List A) → AllByRecursion Fits xs → Rereads (k + 1) (list_data f xs)
list_rereads f Fits k each xs all =
    let items = items_reread f Fits k each xs all in
    record {
      same = rw items.same refl;
      numbers = items.numbers;
      shallow = omega (arith, items.shallow);
      no_float = items.no_float;
    }

-- an event that reads, of this kind
read_rereads : (kind : List ℕ) (a r : ℕ) (s : Option ℕ) → IsWord a → IsWord r → IsWordSource s
    → Rereads 1 (object (members (read_members kind a r s)))
read_rereads kind a r s short word source =
    let x = number_rereads a (omega (arith, short)) in
    let y = number_rereads r (omega (arith, word)) in
    let z = source_rereads s source in
    record {
      same = rw (x.same, y.same, z.same) refl;
      numbers = (x.numbers, (tt, (y.numbers, (z.numbers, tt))));
      shallow = omega (arith, z.shallow);
      no_float = rw z.no_float refl;
    }

-- an event
pub event_rereads : (e : Event) → IsFitting e → Rereads 1 (event_data e)
event_rereads (L a r s) h = read_rereads (codes "L") a r s h.0 h.1 h.2
event_rereads (S a w) h =
    let x = number_rereads a (omega (arith, h.0)) in
    let y = number_rereads w (omega (arith, h.1)) in
    record {
      same = rw (x.same, y.same) refl;
      numbers = (x.numbers, (tt, (y.numbers, tt)));
      shallow = omega arith;
      no_float = refl;
    }
event_rereads (R a r s w) h =
    let x = number_rereads a (omega (arith, h.0)) in
    let y = number_rereads r (omega (arith, h.1)) in
    let z = source_rereads s h.2 in
    let u = number_rereads w (omega (arith, h.3)) in
    record {
      same = rw (x.same, y.same, z.same, u.same) refl;
      numbers = (x.numbers, (tt, (y.numbers, (z.numbers, (u.numbers, tt)))));
      shallow = omega (arith, z.shallow);
      no_float = rw z.no_float refl;
    }
event_rereads (C a r s) h = read_rereads (codes "C") a r s h.0 h.1 h.2
event_rereads F h = record { same = refl; numbers = (tt, tt); shallow = omega arith; no_float = refl }

-- the events of each core
cores_reread : (cores : List (List Event)) → AllByRecursion (AllByRecursion IsFitting) cores
    → Rereads 3 (list_data (list_data event_data) cores)
cores_reread = list_rereads (list_data event_data) (AllByRecursion IsFitting) 2
    (list_rereads event_data IsFitting 1 event_rereads)

-- the write lists
lists_reread : (lists : List (List ℕ)) → AllByRecursion (AllByRecursion IsWord) lists
    → Rereads 2 (list_data (list_data number_data) lists)
lists_reread = list_rereads (list_data number_data) (AllByRecursion IsWord) 1
    (list_rereads number_data IsWord 0 (λ n h. number_rereads n (omega (arith, h))))

-- the initial values
values_reread : (values : List ℕ) → AllByRecursion IsWord values → Rereads 1 (list_data number_data values)
values_reread = list_rereads number_data IsWord 0 (λ n h. number_rereads n (omega (arith, h)))

-- the contents
contents_reread : (values : Option (List ℕ)) (cores : List (List Event)) (lists : List (List ℕ))
    → AreFitting values cores lists → Rereads 4 (contents_data values cores lists)
contents_reread None cores lists h =
    let x = cores_reread cores h.events in
    let y = number_rereads 1 (omega arith) in
    let z = lists_reread lists h.numbers in
    record {
      same = rw (x.same, y.same, z.same) refl;
      numbers = (x.numbers, (y.numbers, (z.numbers, tt)));
      shallow = omega (arith, x.shallow, z.shallow);
      no_float = rw (x.no_float, z.no_float) refl;
    }
contents_reread (Some values) cores lists h =
    let x = cores_reread cores h.events in
    let u = values_reread values h.words in
    let y = number_rereads 2 (omega arith) in
    let z = lists_reread lists h.numbers in
    record {
      same = rw (x.same, u.same, y.same, z.same) refl;
      numbers = (x.numbers, (u.numbers, (y.numbers, (z.numbers, tt))));
      shallow = omega (arith, x.shallow, u.shallow, z.shallow);
      no_float = rw (x.no_float, u.no_float, z.no_float) refl;
    }

-- the value of a whole text
abbrev whole : Option (json.Json × List Token) → Option Data
whole o = option_and_then of_json (option_and_then (λ p. json.if_last p.0 p.1) o)

-- what is read of the text, and of the text with the newline that may follow it
pub read_bytes : (bytes rest : List ℕ) (d : Data) → Rereads 4 d → bytes ≡ compact_text d ++ rest
    → (rest ≡ []) ⊎ (rest ≡ 10 ∷ []) → read bytes ≡ Some d
read_bytes bytes rest d h is ends =
    let ts = json_tokens (outline d) in
    let fine = ArePrintable-json_tokens (outline d) h.numbers in
    let text : (r : List ℕ) → compact_text d ++ r ≡ print ts ++ r =
    λ r. ap (λ (t : List ℕ). t ++ r) (sym (print-outline d)) in
    let same : tokens bytes ≡ tokens (print ts) = elim ends [
      | inl over ↦ ap tokens (is ∙ text rest ∙ ap (λ (r : List ℕ). print ts ++ r) over ∙ append-nil (print ts))
      | inr newline ↦ ap tokens (is ∙ text rest ∙ ap (λ (r : List ℕ). print ts ++ r) newline)
          ∙ tokens_newline ts fine
    ] in
    ap whole (ap (json.value max_depth) (same ∙ tokens-print ts fine ∙ sym (append-nil ts))
    ∙ value-json_tokens (outline d) max_depth [] (omega (arith, h.shallow))) ∙ h.same

-- ---- the value has the contents

-- all items of a list
pub fitting_again : {A : Type 0} (f : Data → Option A) (g : A → Data) (Fits : A → Type 0)
    → ((x : A) → Fits x → f (g x) ≡ Some x) → (xs : List A) → AllByRecursion Fits xs
    → list_in f (list_data g xs) ≡ Some xs
fitting_again f g Fits each [] all = refl
fitting_again f g Fits each (x ∷ xs) all = rw (each x all.0, fitting_again f g Fits each xs all.1) refl

-- the events of each core
cores_again : (cores : List (List Event)) → AllByRecursion (AllByRecursion IsFitting) cores
    → list_in (list_in event_in) (list_data (list_data event_data) cores) ≡ Some cores
cores_again = fitting_again (list_in event_in) (list_data event_data) (AllByRecursion IsFitting)
    (fitting_again event_in event_data IsFitting event_again)

-- the write lists
lists_again : (lists : List (List ℕ)) → AllByRecursion (AllByRecursion IsWord) lists
    → list_in (list_in natural) (list_data (list_data number_data) lists) ≡ Some lists
lists_again = fitting_again (list_in natural) (list_data number_data) (AllByRecursion IsWord)
    (fitting_again natural number_data IsWord (λ n h. number_again n))

-- and the initial values
pub init_again : (values : List ℕ) → AllByRecursion IsWord values
    → list_in value_in (list_data number_data values) ≡ Some values
init_again = fitting_again value_in number_data IsWord value_again

-- the contents
shape_again : (values : Option (List ℕ)) (cores : List (List Event)) (lists : List (List ℕ))
    → AreFitting values cores lists → shape_in (contents_data values cores lists)
    ≡ Some (record { version = version_of values; cores = cores; write_lists = lists; values = values })
unfolding shape_in contents_of
shape_again None cores lists h = rw (cores_again cores h.events, lists_again lists h.numbers) refl
shape_again (Some values) cores lists h =
    rw (init_again values h.words, cores_again cores h.events, lists_again lists h.numbers) refl

-- ---- the whole text

-- the numbers of an execution fit
abbrev pub FitsText : Execution → Type 0
FitsText x = AreFitting (values_of x) x.cores x.write_lists

-- the value of an execution whose numbers fit is read of its text
pub execution_rereads : (x : Execution) → FitsText x → Rereads 4 (data_of x)
execution_rereads x h = contents_reread (values_of x) x.cores x.write_lists h

-- its text and a newline
pub execution_written : (x : Execution) (bytes text : List ℕ) (d : Data) → FitsText x
    → d ≡ data_of x → (has_float d ≡ false → text ≡ compact_text d) → bytes ≡ text ++ 10 ∷ []
    → bytes ≡ compact_text (data_of x) ++ 10 ∷ []
execution_written x bytes text d fits is written whole =
    let none : has_float d ≡ false = rw is (execution_rereads x fits).no_float in
    whole ∙ ap (λ (t : List ℕ). t ++ 10 ∷ []) (written none ∙ ap compact_text is)

-- and tells it
pub execution_told : (x : Execution) → FitsText x → length x.initial ≡ length x.write_lists → Decodes (data_of x) x
execution_told x h size =
    let told = tells x size (is_of_version_1 x) refl in
    record {
      contents = record {
        version = version_of (values_of x);
        cores = x.cores;
        write_lists = x.write_lists;
        values = values_of x;
      };
      shape = shape_again (values_of x) x.cores x.write_lists h;
      versioned = told.0;
      same = ap (λ (values : List ℕ). executed x.cores x.write_lists values) told.1;
    }
