-- The line of a refused recording.
use Rattle.std.specs.Prelude.{◌++◌, ◌∷◌, [], ℕ, List, Option, Some, None, codes, decimal}
use Rattle.recording.specs.declared.fault.RecError.{RecError}
use Rattle.recording.specs.declared.fault.RecError.TheVariants.{NotJson, Shape, Version, Limits, Source, Value}
use Rattle.recording.specs.declared.fault.RecError.TheVariants.{WriteList, OutOfMemory}

-- the line that is printed of a refused recording
abbrev pub refused_as : List ℕ → Option (List ℕ)
refused_as name = Some (codes "refused: " ++ name ++ 10 ∷ [])

-- the line that is printed for each refusal of a recording; none where memory ran out
abbrev pub recording_line : RecError → Option (List ℕ)
recording_line NotJson = refused_as (codes "N1")
recording_line Shape = refused_as (codes "N2")
recording_line Version = refused_as (codes "N3")
recording_line Limits = refused_as (codes "N4")
recording_line (Source e) = refused_as (codes "N5 event " ++ decimal e)
recording_line (Value e) = refused_as (codes "N6 event " ++ decimal e)
recording_line (WriteList a) = refused_as (codes "N7 address " ++ decimal a)
recording_line OutOfMemory = None
