-- The keys of a recording.
use Rattle.std.specs.Prelude.{ℕ, List, codes}
use Rattle.recorder.specs.declared.plain.Name.{Name}
use Rattle.recorder.specs.declared.plain.Name.TheVariants.{Version, Cores, Writes, Init}

-- the text of a key
abbrev pub name_of : Name → List ℕ
name_of Version = codes "version"
name_of Cores = codes "cores"
name_of Writes = codes "writes"
name_of Init = codes "init"
