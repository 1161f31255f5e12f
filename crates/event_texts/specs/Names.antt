-- What the addresses and the events of a recording are called.
use Rattle.std.specs.Prelude.{ℕ, List}
use Rattle.program.specs.declared.name.Name.{Name}
use Rattle.event_texts.specs.Labels.{label_at}

-- the name of each address, and the label of each event by its number
pub record Names : Type 0 where
  pub addresses : List Name
  pub labels : List (List ℕ)

-- the label of event e
abbrev pub label_of : Names → ℕ → List ℕ
label_of names e = label_at names.labels e
