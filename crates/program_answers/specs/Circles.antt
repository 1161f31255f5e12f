-- The text of a circle of events, of which each comes before the next.
use Rattle.std.specs.Prelude.{◌++◌, ◌∷◌, [], ℕ, Option, Some, None, List, codes, decimal}
use Rattle.std.specs.List.{flat_map}
use Rattle.completion.specs.declared.cause.Cause.{Cause}
use Rattle.completion.specs.declared.cause.Cause.TheVariants.{Po, Rf, Wo, Fr}
use Rattle.completion.specs.declared.cause.Link.{Link}

-- a text and two numbers after it
abbrev pub two_numbers_text : List ℕ → ℕ → ℕ → List ℕ
two_numbers_text text e f = text ++ decimal e ++ codes " " ++ decimal f

-- the cause of a from-read by the source of the read: the source, and the later event
abbrev pub from_read_text : Option ℕ → ℕ → List ℕ
from_read_text None f = codes "Fr"
from_read_text (Some w) f = two_numbers_text (codes "Fr ") w f

-- the cause of a link that leads from event e to event f, and the two events that it comes from: for write order the
-- earlier write and the read
abbrev pub link_cause_text : ℕ → ℕ → Cause → List ℕ
link_cause_text e f Po = codes "Po"
link_cause_text e f Rf = codes "Rf"
link_cause_text e f (Wo r) = two_numbers_text (codes "Wo ") e r
link_cause_text e f (Fr s) = from_read_text s f

abbrev pub cause_text : Link → List ℕ
cause_text l = link_cause_text l.first l.second l.cause

-- the line of a link
abbrev pub link_line : Link → List ℕ
link_line l = decimal l.first ++ codes " -> " ++ decimal l.second ++ codes " " ++ cause_text l ++ 10 ∷ []

-- the lines of a circle
abbrev pub circle_text : List Link → List ℕ
circle_text ls = flat_map link_line ls
