-- A cycle in the words of the tool diy, and the classic test that has it.
use Rattle.std.specs.Prelude.{◌≡◌, ◌++◌, ◌∷◌, ◌==◌, ◌+◌, ◌||◌, [], ℕ, zero, suc, Bool, true, false, not, List}
use Rattle.std.specs.Prelude.{Option, Some, None, codes, filter, find, take, drop, length, option_map}
use Rattle.std.specs.Prelude.{if◌then◌else◌, slice_index}
use Rattle.std.specs.List.{flat_map, list_all}
use Rattle.std.specs.Str.{bytes_eq}
use Rattle.recording.specs.declared.event.Event.{Event}
use Rattle.recording.specs.declared.event.Event.TheVariants.{L, S, R, C, F}
use Rattle.recording.specs.Execution.{Execution, event_at, core_of}
use Rattle.relations.specs.declared.reason.Reason.{Reason}
use Rattle.relations.specs.declared.reason.Reason.TheVariants.{Po, Wo, Rf, Fr}
use Rattle.relations.specs.Cycle.{next_in_cycle}
use Rattle.relations.specs.Forced.{IsReason}
use Rattle.explanation.specs.declared.diy.Access.{Access}
use Rattle.explanation.specs.declared.diy.Access.TheVariants.{Load, Store, Atomic}
use Rattle.explanation.specs.declared.diy.Step.{Step}

-- whether an event has a word: each but a compare-and-swap that failed
abbrev pub has_word : Event → Bool
has_word (L a r s) = true
has_word (S a w) = true
has_word (R a r s w) = true
has_word (C a r s) = false
has_word F = true

-- what an event is called: a load, a store, or an atomic access
abbrev pub access_of : Event → Access
access_of (L a r s) = Load
access_of (S a w) = Store
access_of (R a r s w) = Atomic
access_of (C a r s) = Load
access_of F = Load

-- whether an event is a fence
abbrev pub is_fence : Event → Bool
is_fence (L a r s) = false
is_fence (S a w) = false
is_fence (R a r s w) = false
is_fence (C a r s) = false
is_fence F = true

-- the address of a load or a store
abbrev pub accessed : Event → ℕ
accessed (L a r s) = a
accessed (S a w) = a
accessed (R a r s w) = a
accessed (C a r s) = a
accessed F = 0

-- the events of a cycle that are no fence
abbrev pub accesses : Execution → List ℕ → List ℕ
accesses x c = filter (λ e. not (is_fence (event_at x e))) c

-- the step from one access of a cycle to the next
pub record IsStep (x : Execution) (e f : ℕ) (s : Step) : Type 0 where
  pub reason : IsReason x e f s.reason
  pub address : s.same_address ≡ (accessed (event_at x e) == accessed (event_at x f))
  pub core : s.same_core ≡ (core_of x e == core_of x f)
  pub from : s.from ≡ access_of (event_at x e)
  pub to : s.to ≡ access_of (event_at x f)

-- the steps from the first n accesses, each to the access after it
abbrev pub AreWordSteps : Execution → List ℕ → ℕ → List Step → Type 0
AreWordSteps x es zero steps = steps ≡ []
AreWordSteps x es (suc i) steps = (before : List Step) × (step : Step) × AreWordSteps x es i before
    × IsStep x (slice_index es i) (next_in_cycle es i) step × (steps ≡ before ++ step ∷ [])

-- the letters of an access
abbrev pub letters : Access → List ℕ
letters Load = codes "R"
letters Store = codes "W"
letters Atomic = codes "RA"

-- whether the address is the same or a different one, and the letters of both accesses
abbrev pub pair_text : Step → List ℕ
pair_text s = (if s.same_address then codes "s" else codes "d") ++ (letters s.from ++ letters s.to)

-- whether the step stays inside its core or goes outside
abbrev pub side_text : Bool → List ℕ
side_text true = codes "i"
side_text false = codes "e"

-- the word of a step for this reason; a step without one goes over a fence
abbrev pub word_by : Option Reason → Step → List ℕ
word_by None s = codes " MFence" ++ pair_text s
word_by (Some Po) s = codes " Po" ++ pair_text s
word_by (Some Wo) s = codes " Co" ++ side_text s.same_core
word_by (Some Rf) s = codes " Rf" ++ side_text s.same_core
word_by (Some Fr) s = codes " Fr" ++ side_text s.same_core

-- the word of a step, after a space
unfoldable pub word : Step → List ℕ
word s = word_by s.reason s

-- the words of all steps of a cycle, from place i on
unfoldable pub words_from : List Step → ℕ → List ℕ
words_from steps i = flat_map word (drop i steps) ++ flat_map word (take i steps)

-- the words of the cycles of classic tests, each with its test
unfoldable pub classics : List (List ℕ × List ℕ)
classics =
    (codes " PodWW Rfe PodRR Fre", codes "MP")
    ∷ (codes " PodRW Rfe PodRW Rfe", codes "LB")
    ∷ (codes " PodWW Rfe PodRW Coe", codes "S")
    ∷ (codes " PodWW Coe PodWW Coe", codes "2+2W")
    ∷ (codes " MFencedWR Fre MFencedWR Fre", codes "SB+mfences")
    ∷ (codes " PodWW Coe MFencedWR Fre", codes "R+po+mfence")
    ∷ (codes " Rfe PodRW Rfe PodRR Fre", codes "WRC")
    ∷ (codes " Rfe PodRW Rfe PodRW Coe", codes "WWC")
    ∷ (codes " Rfe PodRR Fre MFencedWR Fre", codes "RWC+po+mfence")
    ∷ (codes " Rfe PodRW Coe MFencedWR Fre", codes "WRW+WR+po+mfence")
    ∷ (codes " Rfe PodRW Coe PodWW Coe", codes "WRW+2W")
    ∷ (codes " Rfe PodRR Fre PodWW Coe", codes "WRR+2W")
    ∷ (codes " Rfe PodRR Fre Rfe PodRR Fre", codes "IRIW")
    ∷ (codes " Rfe PodRR Fre Rfe PodRW Coe", codes "IRRWIW")
    ∷ (codes " Rfe PodRW Coe Rfe PodRW Coe", codes "IRWIW")
    ∷ (codes " PodWW Rfe PodRW Rfe PodRR Fre", codes "ISA2")
    ∷ (codes " PodWW Rfe PodRR Fre MFencedWR Fre", codes "W+RWC+po+po+mfence")
    ∷ (codes " MFencedWR Fre MFencedWR Fre MFencedWR Fre", codes "3.SB+mfences")
    ∷ (codes " PodRW Rfe PodRW Rfe PodRW Rfe", codes "3.LB")
    ∷ (codes " PodWW Coe PodWW Coe PodWW Coe", codes "3.2W")
    ∷ (codes " PodWW Rfe PodRW Coe MFencedWR Fre", codes "Z6.0+po+po+mfence")
    ∷ (codes " PodWW Coe PodWW Rfe PodRW Coe", codes "Z6.1")
    ∷ (codes " PodWW Rfe PodRW Rfe PodRW Coe", codes "Z6.2")
    ∷ (codes " PodWW Coe PodWW Rfe PodRR Fre", codes "Z6.3")
    ∷ (codes " PodWW Coe MFencedWR Fre MFencedWR Fre", codes "Z6.4+po+mfence+mfence")
    ∷ (codes " PodWW Coe PodWW Coe MFencedWR Fre", codes "Z6.5+po+po+mfence")
    ∷ (codes " Rfe PosRR Fre", codes "CoRR")
    ∷ (codes " PosWW Coi", codes "CoWW")
    ∷ (codes " PosRW Rfi", codes "CoRW")
    ∷ (codes " Rfe PosRW Coe", codes "CoRW") ∷ []

-- what the first row with these words has beside them
abbrev pub named_by : List (List ℕ × List ℕ) → List ℕ → Option (List ℕ)
named_by rows words = option_map (λ r. r.1) (find (λ r. bytes_eq words r.0) rows)

-- the classic test that has the cycle of these words
unfoldable pub classic_of : List ℕ → Option (List ℕ)
classic_of words = named_by classics words

-- words with the name of a classic test after them
abbrev pub named_words : List ℕ → List ℕ → List ℕ
named_words words name = words ++ (codes " (" ++ (name ++ codes ")"))

-- the words with the name of their classic test where they are those of one, else the rest
abbrev pub told_by : Option (List ℕ) → List ℕ → List ℕ → List ℕ
told_by None words rest = rest
told_by (Some name) words rest = named_words words name

-- the words from the least of n places, from i on, at which they are those of a classic test, and its
-- name; where there is none those from place 0
abbrev pub told_from : List Step → ℕ → ℕ → List ℕ
told_from steps i zero = words_from steps 0
told_from steps i (suc n) =
    told_by (classic_of (words_from steps i)) (words_from steps i) (told_from steps (i + 1) n)

-- words were put after a text with the name of their classic test, or they are those of none
abbrev pub IsNamedAfter : List ℕ → List ℕ → Bool → List ℕ → Type 0
IsNamedAfter old words true new =
    (name : List ℕ) × (classic_of words ≡ Some name) × (new ≡ old ++ named_words words name)
IsNamedAfter old words false new = (classic_of words ≡ None) × (new ≡ old)

-- the line of steps
abbrev pub diy_line : List Step → List ℕ
diy_line steps = codes "In diy's words:" ++ (told_from steps 0 (length steps) ++ 10 ∷ [])

-- the line of a cycle, if each of its events has a word
abbrev pub IsDiyLineBy : Bool → Execution → List ℕ → List ℕ → Type 0
IsDiyLineBy true x c text = (steps : List Step) × AreWordSteps x (accesses x c) (length (accesses x c)) steps
    × (text ≡ diy_line steps)
IsDiyLineBy false x c text = text ≡ []

abbrev pub IsDiyLine : Execution → List ℕ → List ℕ → Type 0
IsDiyLine x c text = IsDiyLineBy (list_all (λ e. has_word (event_at x e)) c) x c text

-- the end of the line of a load that overlooks a store, with the name of the classic test where both are plain
abbrev pub overlook_end : Access → Access → List ℕ
overlook_end Load Store = codes " (CoWR)" ++ 10 ∷ []
overlook_end _ _ = 10 ∷ []

-- the words of a load that overlooks a store
abbrev pub overlook_words : Access → Access → List ℕ
overlook_words load store =
    codes "In diy's words: Pos" ++ (letters store ++ (letters load ++ (codes " Fri" ++ overlook_end load store)))

-- the line of a load that overlooks a store, if both have words
unfoldable pub diy_overlook_line : Event → Event → List ℕ
diy_overlook_line load store = if not (has_word load) || not (has_word store) then []
    else overlook_words (access_of load) (access_of store)
