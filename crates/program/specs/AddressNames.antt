-- Names that programs without a text give their addresses.
use Rattle.std.specs.Prelude.{ℕ, zero, suc, List, [], ◌∷◌, ◌++◌, codes, decimal}
use Rattle.program.specs.declared.name.Name.{Name}
use Rattle.program.specs.Names.{padded}

-- the name of address n: the letter a, and n
abbrev pub address_name : ℕ → Name
address_name n = record { bytes = padded (codes "a" ++ decimal n) }

-- the names of the first n addresses
abbrev pub address_names : ℕ → List Name
address_names zero = []
address_names (suc n) = address_names n ++ address_name n ∷ []
