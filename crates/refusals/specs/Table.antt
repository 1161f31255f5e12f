-- The table of all refusals.
use Rattle.std.specs.Prelude.{List, [], ◌∷◌, ℕ, Option, None, map, option_map}
use Rattle.std.specs.Borrow.{Bor}
use Rattle.std.specs.List.{find}
use Rattle.std.specs.Option.{option_or}
use Rattle.std.specs.Str.{bytes_eq}
use Rattle.refusals.specs.declared.refusal.Refusal.{Refusal}
use Rattle.refusals.specs.declared.table.Kind.{Kind}
use Rattle.refusals.specs.declared.table.Kind.TheVariants as kind
use Rattle.refusals.specs.declared.table.TheConstants.{KINDS}
use Rattle.refusals.specs.declared.cycle_words.TheConstants.{CYCLES}
use Rattle.refusals.specs.declared.event_labels.TheConstants.{LABELS}
use Rattle.refusals.specs.declared.merges.TheConstants.{MERGES}
use Rattle.refusals.specs.declared.observations.TheConstants.{OBSERVATIONS}
use Rattle.refusals.specs.declared.options.TheConstants.{OPTIONS}
use Rattle.refusals.specs.declared.programs.TheConstants.{PROGRAMS}
use Rattle.refusals.specs.declared.recordings.TheConstants.{RECORDINGS}
use Rattle.refusals.specs.declared.scripts.TheConstants.{SCRIPTS}

-- a refusal by its texts, of which each is seen as these bytes
abbrev pub seen_texts : {T : Type 0} → (T → List ℕ) → Refusal T → Refusal (List ℕ)
seen_texts text r = record {
  name = text r.name;
  counts = option_map text r.counts;
  said = text r.said;
  advice = text r.advice;
}

-- a refusal by its texts
abbrev pub texts_of : Refusal (Bor (List ℕ)) → Refusal (List ℕ)
texts_of r = seen_texts (λ text. text.now) r

-- the refusals of a kind, under what they are of
abbrev pub group_of : Bor (List ℕ) × Bor (List (Refusal (Bor (List ℕ)))) → List ℕ × List (Refusal (List ℕ))
group_of g = (g.0.now, map texts_of g.1.now)

-- the refusals of programs
unfoldable pub of_programs : List ℕ × List (Refusal (List ℕ))
of_programs = (PROGRAMS.0.now, map (seen_texts (λ text. text.now)) PROGRAMS.1.now)

-- the refusals of scripts
unfoldable pub of_scripts : List ℕ × List (Refusal (List ℕ))
of_scripts = (SCRIPTS.0.now, map (seen_texts (λ text. text.now)) SCRIPTS.1.now)

-- the refusals of recordings
unfoldable pub of_recordings : List ℕ × List (Refusal (List ℕ))
of_recordings = (RECORDINGS.0.now, map (seen_texts (λ text. text.now)) RECORDINGS.1.now)

-- the refusals of texts that are added up
unfoldable pub of_merges : List ℕ × List (Refusal (List ℕ))
of_merges = (MERGES.0.now, map (seen_texts (λ text. text.now)) MERGES.1.now)

-- the refusals of labels
unfoldable pub of_labels : List ℕ × List (Refusal (List ℕ))
of_labels = (LABELS.0.now, map (seen_texts (λ text. text.now)) LABELS.1.now)

-- the refusals of what was observed, and of conditions
unfoldable pub of_observations : List ℕ × List (Refusal (List ℕ))
of_observations = (OBSERVATIONS.0.now, map (seen_texts (λ text. text.now)) OBSERVATIONS.1.now)

-- the refusals of the words of a cycle
unfoldable pub of_cycles : List ℕ × List (Refusal (List ℕ))
of_cycles = (CYCLES.0.now, map (seen_texts (λ text. text.now)) CYCLES.1.now)

-- the refusals of options
unfoldable pub of_options : List ℕ × List (Refusal (List ℕ))
of_options = (OPTIONS.0.now, map (seen_texts (λ text. text.now)) OPTIONS.1.now)

-- the refusals of a kind, under what they are of
abbrev pub kind_group : Kind → List ℕ × List (Refusal (List ℕ))
kind_group kind.Program = of_programs
kind_group kind.Script = of_scripts
kind_group kind.Recording = of_recordings
kind_group kind.Merge = of_merges
kind_group kind.Labels = of_labels
kind_group kind.Observation = of_observations
kind_group kind.Cycle = of_cycles
kind_group kind.Options = of_options

-- the first of these refusals with this name
abbrev pub named_in : List ℕ → List (Refusal (List ℕ)) → Option (Refusal (List ℕ))
named_in name = find (λ r. bytes_eq r.name name)

-- the first refusal of these kinds with this name
abbrev pub named_among : List ℕ → List Kind → Option (Refusal (List ℕ))
named_among name [] = None
named_among name (k ∷ kinds) = option_or (named_in name (kind_group k).1) (named_among name kinds)

-- the refusal with this name; none where no refusal has it
abbrev pub refusal_named : List ℕ → Option (Refusal (List ℕ))
refusal_named name = named_among name KINDS.now
