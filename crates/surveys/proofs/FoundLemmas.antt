-- Lemmas on what is found: one thing in each line, so bytes have one survey.
use Rattle.std.proofs.Common.{◌≡◌, ◌≢◌, ◌++◌, ℕ, List, [], ◌∷◌, Option, None, Some, Result, Ok, Err, arith, refl, sym}
use Rattle.std.proofs.Common.{ap}
use Rattle.std.proofs.Common.{◌∙◌, subst, inl, inr, Bool, true, false, if◌then◌else◌, option_map, option_and_then}
use Rattle.std.proofs.Common.{codes}
use Rattle.std.proofs.lemmas.Bool.{cases_lt}
use Rattle.std.proofs.lemmas.Option.{none-some}
use Rattle.serde_json.specs.Data.{Data}
use Rattle.serde_json.specs.Find.{as_object}
use Rattle.recording.specs.declared.event.Event.{Event}
use Rattle.recording.specs.Execution.{Execution}
use Rattle.recording.specs.declared.size.RecordingSize.TheVariants.{Short}
use Rattle.recording.specs.Recording.{IsShortRecording}
use Rattle.recording.specs.Tso.{Gives, IsValueOf}
use Rattle.recording.specs.declared.fault.RecError.{RecError}
use Rattle.recording.specs.declared.fault.RecError.TheVariants.{NotJson, Shape, Version, Limits, Source, Value}
use Rattle.recording.specs.declared.fault.RecError.TheVariants.{WriteList, OutOfMemory}
use Rattle.recording.specs.Refusals.{HasSource, HasValue, HasWriteList, IsLeastWithout, IsRefusal}
use Rattle.recording.specs.RefusalLaws.{source_of_recording}
use Rattle.recorder.specs.ParsedModel.{ParsedModel, execution_of, IsVersioned}
use Rattle.recorder.specs.Text.{IsReadAs}
use Rattle.recorder.specs.Reading.{natural, value_in, event_in, list_in, at_key, count_members, parsed_parts}
use Rattle.recorder.specs.Reading.{contents_of}
use Rattle.recorder.specs.Reading.{shape_in, Decodes, IsValuesAlone, HasOtherVersion, IsReadingResult}
use Rattle.verdicts.specs.declared.verdict.Verdict.{Verdict}
use Rattle.verdicts.specs.Judgement.{IsVerdict}
use Rattle.ledger.specs.declared.finding.Finding.{Finding}
use Rattle.ledger.specs.declared.finding.Finding.TheVariants.{Refused}
use Rattle.ledger.specs.Counts.{IsLedger}
use Rattle.ledger.specs.FindingLaws.{one_finding}
use Rattle.ledger.specs.LedgerLaws.{one_ledger}
use Rattle.surveys.specs.declared.kind.LineKind.TheVariants.{Recording}
use Rattle.surveys.specs.Found.{IsLineResult, given_finding, AreFindings, codes_of}
use Rattle.surveys.specs.Lines.{lines}
use Rattle.surveys.specs.OneSurvey.{EveryLineHasOneFinding, EverySurveyCountsTheSame, EverySurveyTellsTheSame}
use Rattle.surveys.specs.Surveys.{told_text}

-- the least number without P is one
one_least : (P : ℕ → Type 0) (m n : ℕ) → IsLeastWithout P m → IsLeastWithout P n → m ≡ n
one_least P m n a b = elim (cases_lt m n) [
  | inl less ↦ absurd (a.0 (b.1 m less))
  | inr most ↦ elim (cases_lt n m) [
    | inl less ↦ absurd (b.0 (a.1 n less))
    | inr least ↦ omega (arith, most, least)
  ]
]

-- an execution has one refusal
one_refusal : (x : Execution) (r s : RecError) → IsRefusal Short x r → IsRefusal Short x s → r ≡ s
one_refusal x NotJson s a b = absurd a
one_refusal x Shape s a b = absurd a
one_refusal x Version s a b = absurd a
one_refusal x Limits NotJson a b = absurd b
one_refusal x Limits Shape a b = absurd b
one_refusal x Limits Version a b = absurd b
one_refusal x Limits Limits a b = refl
one_refusal x Limits (Source f) a b = absurd (a b.0)
one_refusal x Limits (Value f) a b = absurd (a b.0)
one_refusal x Limits (WriteList f) a b = absurd (a b.0)
one_refusal x Limits OutOfMemory a b = absurd b
one_refusal x (Source e) NotJson a b = absurd b
one_refusal x (Source e) Shape a b = absurd b
one_refusal x (Source e) Version a b = absurd b
one_refusal x (Source e) Limits a b = absurd (b a.0)
one_refusal x (Source e) (Source f) a b = ap Source (one_least (HasSource x) e f a.1 b.1)
one_refusal x (Source e) (Value f) a b = absurd (a.1.0 (b.1 e))
one_refusal x (Source e) (WriteList f) a b = absurd (a.1.0 (b.1 e))
one_refusal x (Source e) OutOfMemory a b = absurd b
one_refusal x (Value e) NotJson a b = absurd b
one_refusal x (Value e) Shape a b = absurd b
one_refusal x (Value e) Version a b = absurd b
one_refusal x (Value e) Limits a b = absurd (b a.0)
one_refusal x (Value e) (Source f) a b = absurd (b.1.0 (a.1 f))
one_refusal x (Value e) (Value f) a b = ap Value (one_least (HasValue x) e f a.2 b.2)
one_refusal x (Value e) (WriteList f) a b = absurd (a.2.0 (b.2 e))
one_refusal x (Value e) OutOfMemory a b = absurd b
one_refusal x (WriteList e) NotJson a b = absurd b
one_refusal x (WriteList e) Shape a b = absurd b
one_refusal x (WriteList e) Version a b = absurd b
one_refusal x (WriteList e) Limits a b = absurd (b a.0)
one_refusal x (WriteList e) (Source f) a b = absurd (b.1.0 (a.1 f))
one_refusal x (WriteList e) (Value f) a b = absurd (b.2.0 (a.2 f))
one_refusal x (WriteList e) (WriteList f) a b = ap WriteList (one_least (HasWriteList x) e f a.3 b.3)
one_refusal x (WriteList e) OutOfMemory a b = absurd b
one_refusal x OutOfMemory s a b = absurd a

-- what gives a value has it
value_given : (x : Execution) (a : ℕ) (o : Option ℕ) (v : ℕ) → Gives x a o v → IsValueOf x a o v
value_given x a None v is = is
value_given x a (Some w) v is = is.1

-- a recording has none
no_refusal : (x : Execution) (r : RecError) → IsShortRecording x → IsRefusal Short x r → ⊥
no_refusal x NotJson is a = a
no_refusal x Shape is a = a
no_refusal x Version is a = a
no_refusal x Limits is a = a is.within
no_refusal x (Source e) is a = a.1.0 (source_of_recording x is e)
no_refusal x (Value e) is a = a.2.0 (λ b reads. value_given x b _ _ (is.well_formed.sources e b reads))
no_refusal x (WriteList b) is a = a.3.0 (is.well_formed.write_lists b)
no_refusal x OutOfMemory is a = a

-- an execution is a recording, or is refused
IsOutcome : Execution → Option RecError → Type 0
IsOutcome x None = IsShortRecording x
IsOutcome x (Some r) = IsRefusal Short x r

-- what is then answered
answer : Execution → Option RecError → Result Execution RecError
answer x None = Ok x
answer x (Some r) = Err r

-- one of both
one_outcome : (x : Execution) (o p : Option RecError) → IsOutcome x o → IsOutcome x p → o ≡ p
unfolding IsOutcome
one_outcome x None None a b = refl
one_outcome x None (Some r) a b = absurd (no_refusal x r a b)
one_outcome x (Some r) None a b = absurd (no_refusal x r b a)
one_outcome x (Some r) (Some s) a b = ap (λ (t : RecError). Some t) (one_refusal x r s a b)

-- how far a reading came
data Stage (bytes : List ℕ) (r : Result Execution RecError) : Type 0 where
  unread : ((d : Data) → IsReadAs bytes d → ⊥) → r ≡ Err NotJson → Stage bytes r
  shapeless : (d : Data) → IsReadAs bytes d → shape_in d ≡ None → (IsValuesAlone d → ⊥) → r ≡ Err Shape
      → Stage bytes r
  unversioned : (d : Data) → IsReadAs bytes d → HasOtherVersion d → r ≡ Err Version → Stage bytes r
  told_it : (d : Data) → IsReadAs bytes d → (x : Execution) → Decodes d x → (o : Option RecError)
      → IsOutcome x o → r ≡ answer x o → Stage bytes r

-- each reading came so far
staged : (bytes : List ℕ) (r : Result Execution RecError) → IsReadingResult bytes r → r ≢ Err OutOfMemory
    → Stage bytes r
unfolding IsOutcome answer
staged bytes (Ok x) a known = told_it a.0 a.1 x a.2 None a.3 refl
staged bytes (Err NotJson) a known = unread a refl
staged bytes (Err Shape) a known = shapeless a.0 a.1 a.2 a.3 refl
staged bytes (Err Version) a known = unversioned a.0 a.1 a.2 refl
staged bytes (Err Limits) a known = told_it a.0 a.1 a.2.0 a.2.1 (Some Limits) a.2.2 refl
staged bytes (Err (Source e)) a known = told_it a.0 a.1 a.2.0 a.2.1 (Some (Source e)) a.2.2 refl
staged bytes (Err (Value e)) a known = told_it a.0 a.1 a.2.0 a.2.1 (Some (Value e)) a.2.2 refl
staged bytes (Err (WriteList e)) a known = told_it a.0 a.1 a.2.0 a.2.1 (Some (WriteList e)) a.2.2 refl
staged bytes (Err OutOfMemory) a known = absurd (known refl)

-- what is in Some is one
same_some : {X : Type 0} (x y : X) → Some x ≡ Some y → x ≡ y
same_some x y e = cc

-- bytes are read as one value
one_value : (bytes : List ℕ) (d e : Data) → IsReadAs bytes d → IsReadAs bytes e → d ≡ e
one_value bytes d e a b = same_some d e (sym a.1 ∙ b.1)

-- which has one shape
one_shape : (bytes : List ℕ) (d e : Data) → IsReadAs bytes d → IsReadAs bytes e → shape_in d ≡ shape_in e
one_shape bytes d e a b = ap shape_in (one_value bytes d e a b)

-- and one contents
one_contents : (bytes : List ℕ) (d e : Data) (c f : ParsedModel) → IsReadAs bytes d → IsReadAs bytes e
    → shape_in d ≡ Some c → shape_in e ≡ Some f → c ≡ f
one_contents bytes d e c f a b u v = same_some c f (sym u ∙ (one_shape bytes d e a b ∙ v))

-- none and some
none_and_some : (bytes : List ℕ) (d e : Data) (c : ParsedModel) → IsReadAs bytes d → IsReadAs bytes e
    → shape_in d ≡ None → shape_in e ≡ Some c → ⊥
none_and_some bytes d e c a b u v = none-some c (sym u ∙ (one_shape bytes d e a b ∙ v))

-- with a version and without
versioned_and_not : (bytes : List ℕ) (d e : Data) (c : ParsedModel) (x : Execution) → IsReadAs bytes d
    → IsReadAs bytes e → shape_in d ≡ Some c → (IsVersioned c → ⊥) → Decodes e x → ⊥
versioned_and_not bytes d e c x a b u un tells = un (subst (λ (f : ParsedModel). IsVersioned f)
    (one_contents bytes e d tells.contents c b a tells.shape u) tells.versioned)

-- the same either way
same_either : {A : Type 0} (b : Bool) (x : A) → (if b then x else x) ≡ x
same_either true x = refl
same_either false x = refl

-- contents without write lists are none
no_lists : (v : Option ℕ) (cs : Option (List (List Event))) (values : Option (List ℕ))
    → parsed_parts v cs None values ≡ None
no_lists None cs values = refl
no_lists (Some v) None values = refl
no_lists (Some v) (Some cs) values = refl

-- with initial values or without
no_contents : (n : ℕ) (v : Option ℕ) (cs : Option (List (List Event))) (init : Option (List ℕ))
    → contents_of n v cs None init ≡ None
unfolding contents_of
no_contents n v cs None = simp (no_lists v cs None, same_either) refl
no_contents n v cs (Some values) = simp (no_lists v cs (Some values), same_either) refl

-- values alone have not the shape of a recording
alone_shapeless : (d : Data) → IsValuesAlone d → shape_in d ≡ None
unfolding shape_in
alone_shapeless d alone = rw alone.1 (go (option_map count_members (as_object d)))
  where
    go : (o : Option ℕ) → option_and_then (λ n. contents_of n (at_key natural (codes "version") d)
        (at_key (list_in (list_in event_in)) (codes "cores") d) None (at_key (list_in value_in) (codes "init") d)) o
        ≡ None
    go None = refl
    go (Some n) = no_contents n _ _ _

-- another version and no shape
shapeless_and_other : (bytes : List ℕ) (d e : Data) → IsReadAs bytes d → IsReadAs bytes e → shape_in d ≡ None
    → (IsValuesAlone d → ⊥) → HasOtherVersion e → ⊥
shapeless_and_other bytes d e a b none absent (inl alone) =
    absent (subst (λ (f : Data). IsValuesAlone f) (one_value bytes e d b a) alone)
shapeless_and_other bytes d e a b none absent (inr (c, shape, un)) = none_and_some bytes d e c a b none shape

-- another version and a right one
other_and_told : (bytes : List ℕ) (d e : Data) (x : Execution) → IsReadAs bytes d → IsReadAs bytes e
    → HasOtherVersion d → Decodes e x → ⊥
other_and_told bytes d e x a b (inl alone) tells =
    none_and_some bytes d e tells.contents a b (alone_shapeless d alone) tells.shape
other_and_told bytes d e x a b (inr (c, shape, un)) tells = versioned_and_not bytes d e c x a b shape un tells

-- two readings came equally far
same_stage : (bytes : List ℕ) (r s : Result Execution RecError) → Stage bytes r → Stage bytes s → r ≡ s
same_stage bytes r s (unread n e) (unread m f) = e ∙ sym f
same_stage bytes r s (unread n e) (shapeless d a u v f) = absurd (n d a)
same_stage bytes r s (unread n e) (unversioned d a u f) = absurd (n d a)
same_stage bytes r s (unread n e) (told_it d a x t o i f) = absurd (n d a)
same_stage bytes r s (shapeless d a u v e) (unread n f) = absurd (n d a)
same_stage bytes r s (shapeless d a u v e) (shapeless k b w z f) = e ∙ sym f
same_stage bytes r s (shapeless d a u v e) (unversioned k b w f) = absurd (shapeless_and_other bytes d k a b u v w)
same_stage bytes r s (shapeless d a u v e) (told_it k b x t o i f) =
    absurd (none_and_some bytes d k t.contents a b u t.shape)
same_stage bytes r s (unversioned d a u e) (unread n f) = absurd (n d a)
same_stage bytes r s (unversioned d a u e) (shapeless k b w z f) = absurd (shapeless_and_other bytes k d b a w z u)
same_stage bytes r s (unversioned d a u e) (unversioned k b w f) = e ∙ sym f
same_stage bytes r s (unversioned d a u e) (told_it k b x t o i f) = absurd (other_and_told bytes d k x a b u t)
same_stage bytes r s (told_it d a x t o i e) (unread n f) = absurd (n d a)
same_stage bytes r s (told_it d a x t o i e) (shapeless k b v w f) =
    absurd (none_and_some bytes k d t.contents b a v t.shape)
same_stage bytes r s (told_it d a x t o i e) (unversioned k b w f) = absurd (other_and_told bytes k d x b a w t)
same_stage bytes r s (told_it d a x t o i e) (told_it k b y z p j f) =
    let same : x ≡ y = sym t.same
    ∙ (ap execution_of (one_contents bytes d k t.contents z.contents a b t.shape z.shape) ∙ z.same) in
    let outcome : o ≡ p = one_outcome y o p (subst (λ (w : Execution). IsOutcome w o) same i) j in
    e ∙ (ap (λ (w : Execution). answer w o) same ∙ (ap (λ (q : Option RecError). answer y q) outcome ∙ sym f))

-- bytes have one reading, unless memory ran out
one_reading : (bytes : List ℕ) (r s : Result Execution RecError) → IsReadingResult bytes r
    → IsReadingResult bytes s → r ≢ Err OutOfMemory → s ≢ Err OutOfMemory → r ≡ s
one_reading bytes r s a b known there = same_stage bytes r s (staged bytes r a known) (staged bytes s b there)

-- a reading that gives an execution
abbrev gives : Execution → Result Execution RecError
gives x = Ok x

-- a reading that refuses
abbrev refuses : RecError → Result Execution RecError
refuses r = Err r

-- a recording is not the error of memory that ran out
read_well : (x : Execution) → gives x ≡ refuses OutOfMemory → ⊥
read_well x e = absurd cc

-- nor is another refusal
refused_well : (r : RecError) → r ≢ OutOfMemory → refuses r ≡ refuses OutOfMemory → ⊥
refused_well r known e = known cc

-- the two executions are one
same_ok : (x y : Execution) → gives x ≡ gives y → x ≡ y
same_ok x y e = cc

-- the two refusals are one
same_err : (r s : RecError) → refuses r ≡ refuses s → r ≡ s
same_err r s e = cc

-- no recording is refused
ok_and_err : (x : Execution) (r : RecError) → gives x ≡ refuses r → ⊥
ok_and_err x r e = absurd cc

-- what a line gives finds one thing
one_given : (bytes : List ℕ) (f g : Result Verdict RecError) → IsLineResult bytes f → IsLineResult bytes g
    → given_finding f ≡ given_finding g
one_given bytes (Ok v) (Ok w) a b =
    let same : a.recording ≡ b.recording = same_ok _ _ (one_reading bytes (Ok a.recording) (Ok b.recording) a.read
    b.read (read_well _) (read_well _)) in
    one_finding b.recording v w (subst (λ (x : Execution). IsVerdict x v) same a.found) b.found
one_given bytes (Ok v) (Err s) a b = absurd (ok_and_err _ _ (one_reading bytes (Ok a.recording) (Err s) a.read
    b.read (read_well _) (refused_well s b.known)))
one_given bytes (Err r) (Ok w) a b = absurd (ok_and_err _ _ (one_reading bytes (Ok b.recording) (Err r) b.read
    a.read (read_well _) (refused_well r a.known)))
one_given bytes (Err r) (Err s) a b = ap Refused (same_err r s (one_reading bytes (Err r) (Err s) a.read
    b.read (refused_well r a.known) (refused_well s b.known)))

-- one thing is found in a line
pub one_finding_of_line : EveryLineHasOneFinding
one_finding_of_line bytes f g a b = a.finds ∙ (one_given bytes a.given b.given a.is_given b.is_given ∙ sym b.finds)

-- one list in lines
pub one_list : (ls : List (List ℕ)) (xs ys : List Finding) → AreFindings Recording ls xs
    → AreFindings Recording ls ys → xs ≡ ys
one_list [] [] [] a b = refl
one_list [] [] (y ∷ ys) a b = absurd b
one_list [] (x ∷ xs) ys a b = absurd a
one_list (l ∷ ls) [] ys a b = absurd a
one_list (l ∷ ls) (x ∷ xs) [] a b = absurd b
one_list (l ∷ ls) (x ∷ xs) (y ∷ ys) a b =
    ap (λ (z : Finding). z ∷ xs) (one_finding_of_line l x y a.0 b.0)
    ∙ ap (λ (zs : List Finding). y ∷ zs) (one_list ls xs ys a.1 b.1)

-- so bytes have one ledger
pub one_ledger_of_bytes : EverySurveyCountsTheSame
one_ledger_of_bytes bytes l m reports other s t u v a b = one_ledger (codes_of b.findings) l.ledger m.ledger
    (subst (λ (fs : List Finding). IsLedger (codes_of fs) l.ledger)
    (one_list (lines bytes) a.findings b.findings a.found b.found) a.counted.ledger) b.counted.ledger

-- and one text
pub one_text_of_survey : EverySurveyTellsTheSame
one_text_of_survey bytes l m reports start said told a b = a.told
    ∙ (ap (λ (fs : List Finding). start ++ told_text reports 0 fs)
    (one_list (lines bytes) a.findings b.findings a.found b.found) ∙ sym b.told)
