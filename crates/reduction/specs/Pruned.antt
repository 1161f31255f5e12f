-- An execution of which some events alone keep what they read.
use Rattle.std.specs.Prelude.{◌+◌, ℕ, cond, List, [], ◌∷◌, length}
use Rattle.recording.specs.declared.event.Event.{Event}
use Rattle.recording.specs.declared.event.Event.TheVariants.{L, S, R, C, F}
use Rattle.recording.specs.Execution.{Execution}
use Rattle.reduction.specs.Restriction.{stands_in}

-- event e, which as a read-modify-write is the store of what it wrote where it is none of these
abbrev pub pruned_event : List ℕ → ℕ → Event → Event
pruned_event es e (L a r s) = L a r s
pruned_event es e (S a w) = S a w
pruned_event es e (R a r s w) = cond (stands_in es e) (R a r s w) (S a w)
pruned_event es e (C a r s) = C a r s
pruned_event es e F = F

-- the events of a core, the first of which is event n
abbrev pub pruned_events : List ℕ → ℕ → List Event → List Event
pruned_events es n [] = []
pruned_events es n (event ∷ rest) = pruned_event es n event ∷ pruned_events es (n + 1) rest

-- the events of cores, the first of which is event n
abbrev pub pruned_cores : List ℕ → ℕ → List (List Event) → List (List Event)
pruned_cores es n [] = []
pruned_cores es n (core ∷ rest) = pruned_events es n core ∷ pruned_cores es (n + length core) rest

-- x in which each read-modify-write that is none of these events is the store of what it wrote
unfoldable pub pruned : Execution → List ℕ → Execution
pruned x es = record { cores = pruned_cores es 0 x.cores; write_lists = x.write_lists; initial = x.initial }
