-- What refusals mean, as the help prints it.
use Rattle.std.specs.Prelude.{◌++◌, ◌∷◌, [], ◌-◌, ℕ, List, Option, Some, None, codes, length}
use Rattle.std.specs.List.{flat_map}
use Rattle.texts.specs.Numbers.{spaces}
use Rattle.refusals.specs.declared.help.TheConstants.{INTRODUCTION, NAME_WIDTH}
use Rattle.refusals.specs.declared.refusal.Refusal.{Refusal}
use Rattle.refusals.specs.declared.table.Kind.{Kind}
use Rattle.refusals.specs.Table.{kind_group}
use Rattle.refusals.specs.declared.table.TheConstants.{KINDS}

-- what a number counts, where there is one
abbrev pub numbered : Option (List ℕ) → List ℕ
numbered None = []
numbered (Some counts) = counts ++ codes " N "

-- what is wrong, and between parentheses what to know about it
abbrev pub said_text : List ℕ → List ℕ → List ℕ
said_text said advice = said ++ codes " (" ++ advice ++ codes ")" ++ 10 ∷ []

-- the line that says what a refusal means
abbrev pub meaning : Refusal (List ℕ) → List ℕ
meaning r = (r.name ++ spaces (NAME_WIDTH - length r.name)) ++ numbered r.counts ++ said_text r.said r.advice

-- what the refusals of a kind of text mean, under what they are of
abbrev pub group_text : List ℕ × List (Refusal (List ℕ)) → List ℕ
group_text g = (10 ∷ g.0 ++ codes ":" ++ 10 ∷ []) ++ flat_map meaning g.1

-- what the refusals of this kind mean
abbrev pub kind_text : Kind → List ℕ
kind_text kind = group_text (kind_group kind)

-- what all refusals mean
abbrev pub meanings : List ℕ
meanings = INTRODUCTION.now ++ flat_map kind_text KINDS.now
