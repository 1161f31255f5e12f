-- What was read by parts of a command.
use Rattle.std.proofs.Common.{◌≡◌, ◌+◌, ◌++◌, ◌∙◌, ◌<◌, ◌||◌, [], ◌∷◌, ℕ, List, Option, Some, None, Result, Ok, Err, ap}
use Rattle.std.proofs.Common.{IfErr, IsErrAnd, append_assoc, drop, get_or, length, map, refl, subst, sym, take}
use Rattle.std.proofs.lemmas.List.{append-nil, get_or-map, take-append-drop, take_more}
use Rattle.devices.specs.declared.host.Tally.{Tally}
use Rattle.devices.specs.Host.{Notes, HostLog, IsIdle}
use Rattle.inputs.specs.declared.command_error.CommandError.{CommandError}
use Rattle.inputs.specs.declared.command_error.CommandError.TheVariants.{OutOfMemory}
use Rattle.inputs.specs.declared.command_stop.CommandStop.{CommandStop}
use Rattle.inputs.specs.declared.command_stop.CommandStop.TheVariants.{Failed, Refused}
use Rattle.inputs.specs.declared.command_stop.PrintedRefusal.{PrintedRefusal}
use Rattle.inputs.specs.Inputs.{AreRead, AreStopped, AreTakenBack, IsStoppedBy, ReadsNamed, is_read_failure}

-- an input that was taken back leaves none lent
idle_kept : (a b : Tally) → AreTakenBack a b → IsIdle a → IsIdle b
idle_kept a b taken idle = subst (λ (t : Tally). IsIdle t) (sym (taken idle)) idle

-- inputs were taken back, and then others
taken_then : (a b c : Tally) → AreTakenBack a b → AreTakenBack b c → AreTakenBack a c
taken_then a b c first then idle = then (idle_kept a b first idle) ∙ first idle

-- inputs were taken back, and then others, up to a stop
stopped_then : (stop : CommandStop) (a b c : Tally) → AreTakenBack a b → IsStoppedBy stop b c → IsStoppedBy stop a c
stopped_then (Refused refusal) a b c first then = taken_then a b c first then
stopped_then (Failed error) a b c first then = λ idle.
    subst (λ (t : Tally). IsIdle c × (c.has_failed ≡ (is_read_failure error || t.has_failed))) (first idle)
    (then (idle_kept a b first idle))

-- nothing was read
pub read_none : (a : HostLog) → AreRead [] a a
read_none a = (go a.asked, λ idle. refl)
  where
    go : (told : Option (List (List ℕ))) → Notes told told []
    go None = tt
    go (Some names) = sym (append-nil names)

-- some names were asked for, then others
notes_then : (a b c : Option (List (List ℕ))) (xs ys : List (List ℕ)) → Notes a b xs → Notes b c ys
    → Notes a c (xs ++ ys)
notes_then None b c xs ys first then = tt
notes_then (Some a) None c xs ys first then = absurd first
notes_then (Some a) (Some b) None xs ys first then = absurd then
notes_then (Some a) (Some b) (Some c) xs ys first then =
    then ∙ ap (λ (l : List (List ℕ)). l ++ ys) first ∙ append_assoc a xs ys

-- some inputs were read, then others
pub read_then : (xs ys : List (List ℕ)) (a b c : HostLog) → AreRead xs a b → AreRead ys b c → AreRead (xs ++ ys) a c
read_then xs ys a b c first then = (
  notes_then a.asked b.asked c.asked xs ys first.0 then.0,
  taken_then a.tally b.tally c.tally first.1 then.1,
)

-- out of memory where all was read, before more names would be asked for
pub stopped_before : (xs ys : List (List ℕ)) (a b : HostLog) → AreRead xs a b
    → AreStopped (xs ++ ys) (Failed OutOfMemory) a b
stopped_before xs ys a b read = record {
  front = xs;
  rest = ys;
  parts = refl;
  asked = read.0;
  stopped = λ idle. (
    idle_kept a.tally b.tally read.1 idle,
    ap (λ (t : Tally). t.has_failed) (read.1 idle),
  );
}

-- out of memory all was read
pub memory_stopped : {X : Type 0} (r : Result X CommandStop) (names : List (List ℕ)) (a b : HostLog)
    → AreRead names a b → IsErrAnd r (λ stop. stop ≡ Failed OutOfMemory) → ReadsNamed names a b r
memory_stopped (Ok x) names a b read wanting = absurd wanting
memory_stopped (Err stop) names a b read wanting =
    subst (λ (t : CommandStop). AreStopped names t a b) (sym wanting)
    (subst (λ (l : List (List ℕ)). AreStopped l (Failed OutOfMemory) a b) (append-nil names)
    (stopped_before names [] a b read))

-- out of memory nothing was to be read
pub none_read : {X : Type 0} (r : Result X CommandStop) (a : HostLog)
    → IfErr r (λ stop. stop ≡ Failed OutOfMemory) → ReadsNamed [] a a r
none_read {X} (Ok x) a wanting = read_none a
none_read {X} (Err stop) a wanting = memory_stopped {X = X} (Err stop) [] a a (read_none a) wanting

-- a refusal for which nothing was to be read
pub refused_unread : (refusal : PrintedRefusal) (a : HostLog) → AreStopped [] (Refused refusal) a a
refused_unread refusal a = record {
  front = [];
  rest = [];
  parts = refl;
  asked = (read_none a).0;
  stopped = λ idle. refl;
}

-- an error for which nothing was to be read: there is no memory
pub failed_unread : (error : CommandError) (a : HostLog) → error ≡ OutOfMemory → AreStopped [] (Failed error) a a
failed_unread error a is = subst (λ (e : CommandError). AreStopped [] (Failed e) a a) (sym is)
    (stopped_before [] [] a a (read_none a))

-- what stops after some were read, before others
pub stopped_after : (xs ys zs : List (List ℕ)) (stop : CommandStop) (a b c : HostLog)
    → AreRead xs a b → AreStopped ys stop b c → AreStopped (xs ++ (ys ++ zs)) stop a c
stopped_after xs ys zs stop a b c read h = record {
  front = xs ++ h.front;
  rest = h.rest ++ zs;
  parts = ap (λ (l : List (List ℕ)). xs ++ l)
      (ap (λ (l : List (List ℕ)). l ++ zs) h.parts ∙ append_assoc h.front h.rest zs)
      ∙ sym (append_assoc xs h.front (h.rest ++ zs));
  asked = notes_then a.asked b.asked c.asked xs h.front read.0 h.asked;
  stopped = stopped_then stop a.tally b.tally c.tally read.1 h.stopped;
}

-- what hands on the stop of the first
pub stopped_again : {X : Type 0} (r : Result X CommandStop) (xs ys : List (List ℕ)) (stop : CommandStop)
    (a b : HostLog) → AreStopped xs stop a b → IsErrAnd r (λ e. e ≡ stop) → ReadsNamed (xs ++ ys) a b r
stopped_again (Ok x) xs ys stop a b h same = absurd same
stopped_again (Err e) xs ys stop a b h same = subst (λ (t : CommandStop). AreStopped (xs ++ ys) t a b) (sym same)
    (stopped_after [] xs ys stop a a b (read_none a) h)

-- what hands on the stop of the last
pub stopped_last : {X : Type 0} (r : Result X CommandStop) (xs : List (List ℕ)) (stop : CommandStop) (a b : HostLog)
    → AreStopped xs stop a b → IsErrAnd r (λ e. e ≡ stop) → ReadsNamed xs a b r
stopped_last (Ok x) xs stop a b h same = absurd same
stopped_last (Err e) xs stop a b h same = subst (λ (t : CommandStop). AreStopped xs t a b) (sym same) h

-- some were read, then others or not
pub reads_then : {X : Type 0} (r : Result X CommandStop) (xs ys : List (List ℕ)) (a b c : HostLog)
    → AreRead xs a b → ReadsNamed ys b c r → ReadsNamed (xs ++ ys) a c r
reads_then (Ok x) xs ys a b c read h = read_then xs ys a b c read h
reads_then (Err stop) xs ys a b c read h =
    subst (λ (l : List (List ℕ)). AreStopped (xs ++ l) stop a c) (append-nil ys)
    (stopped_after xs ys [] stop a b c read h)

-- the names up to one more
pub names_more : (names : List (List ℕ)) (i : ℕ) (name : List ℕ) → i < length names → name ≡ get_or names i []
    → take i names ++ name ∷ [] ≡ take (i + 1) names
names_more names i name low is = ap (λ (n : List ℕ). take i names ++ n ∷ []) is ∙ sym (take_more names i [] low)

-- and then the others
pub names_whole : (names : List (List ℕ)) (i : ℕ) (name : List ℕ) → i < length names → name ≡ get_or names i []
    → take i names ++ (name ∷ [] ++ drop (i + 1) names) ≡ names
names_whole names i name low is = sym (append_assoc (take i names) (name ∷ []) (drop (i + 1) names))
    ∙ ap (λ (l : List (List ℕ)). l ++ drop (i + 1) names) (names_more names i name low is)
    ∙ take-append-drop (i + 1) names

-- a name among others
pub name_at : {X : Type 0} (f : X → List ℕ) (names : List X) (i : ℕ) (name : X) → i < length names
    → name ≡ get_or names i name → f name ≡ get_or (map f names) i []
name_at f names i name low is = ap f is ∙ sym (get_or-map f names i name [] low)
