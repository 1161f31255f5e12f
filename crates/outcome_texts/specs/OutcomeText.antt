-- The text of outcomes: a line for each, with what each operation read, core by core, and what each address ends
-- with, as `0:r0=1; 1:r0=0; [x]=1; [y]=1;`.
use Rattle.std.specs.Prelude.{◌+◌, ◌++◌, ◌∷◌, ℕ, suc, if◌then◌else◌, List, [], decimal, codes, length}
use Rattle.std.specs.Prelude.{slice_index}
use Rattle.std.specs.List.{flat_map}
use Rattle.program.specs.declared.op.Op.{Op}
use Rattle.program.specs.declared.name.Name.{Name}
use Rattle.program.specs.Names.{name_text}
use Rattle.program.specs.Parts.{Parts}
use Rattle.outcomes.specs.Outcome.{Outcome}
use Rattle.outcomes.specs.Situation.{does_read}

-- a line with a space at its end, unless it is empty
abbrev pub begun : List ℕ → List ℕ
begun [] = []
begun (b ∷ line) = (b ∷ line) ++ 32 ∷ []

-- the line after what the reading operation k of core c read: `c:rk=v;`
abbrev pub with_read : List ℕ → ℕ → ℕ → ℕ → List ℕ
with_read line c k v =
    begun line ++ (decimal c ++ ((58 ∷ 114 ∷ [] ++ decimal k) ++ ((61 ∷ [] ++ decimal v) ++ 59 ∷ [])))

-- the line after what the operations of core c read, of which the next event is e, and k have read before
abbrev pub with_reads : List ℕ → ℕ → ℕ → ℕ → List Op → List ℕ → List ℕ
with_reads line c k e [] reads = line
with_reads line c k e (op ∷ ops) reads =
    with_reads (if does_read op then with_read line c k (slice_index reads e) else line) c
    (if does_read op then suc k else k) (suc e) ops reads

-- the line after what the cores from c on read, of which the first event is e
abbrev pub with_cores : List ℕ → ℕ → ℕ → List (List Op) → List ℕ → List ℕ
with_cores line c e [] reads = line
with_cores line c e (ops ∷ cores) reads =
    with_cores (with_reads line c 0 e ops reads) (suc c) (e + length ops) cores reads

-- the line after what an address ends with: `[x]=v;`
abbrev pub with_value : List ℕ → Name → ℕ → List ℕ
with_value line name v =
    begun line ++ (91 ∷ [] ++ (name_text name ++ ((93 ∷ 61 ∷ [] ++ decimal v) ++ 59 ∷ [])))

-- the line after what the addresses from a on end with
abbrev pub with_values : List ℕ → ℕ → List Name → List ℕ → List ℕ
with_values line a [] memory = line
with_values line a (name ∷ names) memory =
    with_values (with_value line name (slice_index memory a)) (suc a) names memory

-- the items of an outcome
abbrev pub items_text : Parts → Outcome → List ℕ
items_text p o = with_values (with_cores [] 0 0 p.cores o.reads) 0 p.names o.memory

-- the line of an outcome
abbrev pub outcome_text : Parts → Outcome → List ℕ
outcome_text p o = items_text p o ++ 10 ∷ []

-- how many outcomes there are, and a line for each
abbrev pub outcomes_text : Parts → List Outcome → List ℕ
outcomes_text p os =
    (codes "outcomes: " ++ decimal (length os)) ++ 10 ∷ flat_map (outcome_text p) os
