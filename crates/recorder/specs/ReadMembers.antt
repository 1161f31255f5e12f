-- What was read of the members of an event or of a recording, and what they are.
use Rattle.std.specs.Prelude.{◌≡◌, ◌+◌, ◌∷◌, [], ℕ, List, Option, Some, None, codes, map, option_map}
use Rattle.serde_json.specs.Data.{Data, Members}
use Rattle.serde_json.specs.Find.{as_str}
use Rattle.recording.specs.declared.event.Event.{Event}
use Rattle.recording.specs.declared.size.RecordingSize.{RecordingSize}
use Rattle.recorder.specs.declared.plain.events.Fields.{Fields}
use Rattle.recorder.specs.declared.plain.ReadMembers.{ReadMembers}
use Rattle.recorder.specs.declared.reading.Parsed.{Parsed}
use Rattle.recorder.specs.Text.{IsReadAs}
use Rattle.recorder.specs.ParsedModel.{ParsedModel, model_of}
use Rattle.recorder.specs.Reading.{count_members, natural, value_in, list_in, shape_in}
use Rattle.recorder.specs.Clipped.{clipped_number, clipped_event, clipped_shape}
use Rattle.recorder.specs.ByTokens.{clipped_source, AtKey}
use Rattle.recorder.specs.Held.{HoldsCores, HoldsLists, HoldsSome, StandsFor}

-- 1 for what was read
abbrev pub count_of : {A : Type 0} → Option A → ℕ
count_of None = 0
count_of (Some x) = 1

-- the byte of a text of one byte
abbrev pub single : List ℕ → Option ℕ
single [] = None
single (x ∷ []) = Some x
single (x ∷ y ∷ ys) = None

-- the members of an event have what was read, and nothing else
pub record AreFields (f : Fields) (ms : Members) : Type 0 where
  pub kind : AtKey as_str (codes "k") ms (option_map (λ k. k ∷ []) f.k)
  pub address : AtKey clipped_number (codes "a") ms f.a
  pub value_read : AtKey value_in (codes "r") ms f.r
  pub source : AtKey clipped_source (codes "s") ms f.s
  pub value_written : AtKey value_in (codes "w") ms f.w
  pub count : count_members ms ≡ count_of f.k + count_of f.a + count_of f.r + count_of f.s + count_of f.w

-- the members of a recording of a size have what was read, or what that stands for, and nothing else
pub record AreParts (size : RecordingSize) (p : ReadMembers) (ms : Members) : Type 0 where
  pub version : AtKey natural (codes "version") ms p.version
  pub cores : (o : Option (List (List Event))) × AtKey (list_in (list_in clipped_event)) (codes "cores") ms o
      × HoldsSome (HoldsCores size) (option_map (λ v. map (λ w. w.items) v.items) p.cores) o
  pub writes : (o : Option (List (List ℕ))) × AtKey (list_in (list_in clipped_number)) (codes "writes") ms o
      × HoldsSome (HoldsLists size) (option_map (λ v. map (λ w. w.items) v.items) p.writes) o
  pub init : AtKey (list_in value_in) (codes "init") ms (option_map (λ v. v.items) p.init)
  pub count : count_members ms ≡ count_of p.version + count_of p.cores + count_of p.writes + count_of p.init

-- what is held of the contents of a text
abbrev pub clipped_contents : Data → Option ParsedModel
clipped_contents d = option_map clipped_shape (shape_in d)

-- the bytes are read as a value for whose contents what was found stands
abbrev pub IsParsedFrom : RecordingSize → List ℕ → Parsed → Type 0
IsParsedFrom size bytes q = (d : Data) × IsReadAs bytes d × (c : ParsedModel) × (clipped_contents d ≡ Some c)
    × StandsFor size (model_of q) c
