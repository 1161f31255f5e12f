-- What merge answers to texts, and why it stops.
use Rattle.std.proofs.Common.{◌≡◌, ◌<◌, ◌∷◌, [], ℕ, Bool, List, Result, Ok, Err, arith, length, map, refl, subst, sym}
use Rattle.std.specs.List.{AllZip}
use Rattle.std.specs.Prelude.{IfErr, IfOk, string_bytes}
use Rattle.std.proofs.lemmas.List.{length-map}
use Rattle.command_line.specs.declared.options.MergeOptions.{MergeOptions}
use Rattle.inputs.specs.declared.command_error.CommandError.{CommandError}
use Rattle.inputs.specs.declared.command_stop.CommandStop.{CommandStop}
use Rattle.inputs.specs.declared.command_stop.CommandStop.TheVariants.{Refused, Failed}
use Rattle.inputs.specs.Inputs.{AreBytesOf, Inputs}
use Rattle.verdicts.specs.declared.printed.Answer.{Answer}
use Rattle.merging.specs.Merge.{AreRefused, IsAnswerOfTexts, IsErrorAmong, IsMerged, IsMergeStop, IsTextsStop}
use Rattle.merging.specs.Merge.{gaps_of, is_headed}

-- the lists are as long
pub zip_length : {A B : Type 0} (R : A → B → Type 0) (xs : List A) (ys : List B) → AllZip R xs ys
    → length ys ≡ length xs
zip_length R [] [] all = refl
zip_length R [] (b ∷ ys) all = absurd all
zip_length R (a ∷ xs) [] all = absurd all
zip_length R (a ∷ xs) (b ∷ ys) all = omega (arith, zip_length R xs ys all.1)

-- the inputs are these texts
abbrev pub AreGiven : Inputs → MergeOptions → List (List ℕ) → Type 0
AreGiven inputs o texts = AllZip (AreBytesOf inputs) (map string_bytes o.files.items) texts

-- what is answered
pub answered : (inputs : Inputs) (o : MergeOptions) (texts : List (List ℕ)) (headed : Bool)
    (r : Result Answer CommandStop) → AreGiven inputs o texts → is_headed o.partial texts ≡ headed
    → IfOk r (IsAnswerOfTexts headed (gaps_of o.partial) texts) → IfOk r (IsMerged inputs o)
answered inputs o texts headed (Ok answer) given same is = (
  texts,
  given,
  subst (λ (b : Bool). IsAnswerOfTexts b (gaps_of o.partial) texts answer) (sym same) is,
)
answered inputs o texts headed (Err stop) given same is = is

-- why it stops
pub stopped : (inputs : Inputs) (o : MergeOptions) (texts : List (List ℕ)) (headed : Bool)
    (r : Result Answer CommandStop) → AreGiven inputs o texts → 0 < length o.files.items
    → is_headed o.partial texts ≡ headed → IfErr r (IsTextsStop headed (map string_bytes o.files.items) texts)
    → IfErr r (IsMergeStop inputs o)
stopped inputs o texts headed (Ok answer) given some same is = is
stopped inputs o texts headed (Err (Refused refusal)) given some same is = (
  texts,
  given,
  subst (λ (b : Bool). AreRefused b (map string_bytes o.files.items) texts (string_bytes refusal.line)) (sym same) is,
)
stopped inputs o texts headed (Err (Failed error)) given some same is =
    subst (λ (e : CommandError). IsErrorAmong inputs (map string_bytes o.files.items) e) (sym is) (
      0,
      omega (arith, some, length-map o.files.items string_bytes),
      tt,
    )
