-- What words say of the accesses at their ends, and which accesses can stand between two words.
use Rattle.std.specs.Prelude.{Bool, true, false, not, Option, Some, None, if◌then◌else◌, option_and_then}
use Rattle.cycles.specs.declared.word.End.{End}
use Rattle.cycles.specs.declared.word.Kind.{Kind}
use Rattle.cycles.specs.declared.word.Kind.TheVariants.{Load, Store, Atomic}
use Rattle.cycles.specs.declared.word.Letter.{Letter}
use Rattle.cycles.specs.declared.word.Link.{Link}
use Rattle.cycles.specs.declared.word.Link.TheVariants.{Rf, Fr, Co}
use Rattle.cycles.specs.declared.word.Word.{Word}
use Rattle.cycles.specs.declared.word.Word.TheVariants.{Pair, Side}

-- at an end of a word in program order, and of another one
abbrev pub by_letter : Letter → End
by_letter l = record { is_store = l.is_store; is_atomic = Some l.is_atomic }

abbrev pub by_link : Bool → End
by_link is_store = record { is_store = is_store; is_atomic = None }

-- the first access of a link is a store, and the second
abbrev pub starts_with_store : Link → Bool
starts_with_store Rf = true
starts_with_store Fr = false
starts_with_store Co = true

abbrev pub ends_with_store : Link → Bool
ends_with_store Rf = false
ends_with_store Fr = true
ends_with_store Co = true

-- what a word says of its first access
abbrev pub start : Word → End
start (Pair p) = by_letter p.first
start (Side s) = by_link (starts_with_store s.link)

-- what a word says of its second access
abbrev pub ending : Word → End
ending (Pair p) = by_letter p.second
ending (Side s) = by_link (ends_with_store s.link)

-- two truth values differ
abbrev pub differ : Bool → Bool → Bool
differ true b = not b
differ false b = b

-- whether an access is atomic of which two words speak, where they agree: an access that is a store to one of them and
-- a load to the other is, unless a word says that it is not
abbrev pub agreed : Option Bool → Option Bool → Bool → Option Bool
agreed None None d = Some d
agreed None (Some b) d = Some b
agreed (Some a) None d = Some a
agreed (Some a) (Some b) d = if differ a b then None else Some a

-- the access that one word calls a store or a load, and the other too
abbrev pub kind_by : Bool → Bool → Bool → Option Kind
kind_by true one other = Some Atomic
kind_by false one other = if differ one other then None else (if one then Some Store else Some Load)

-- the access in which a word ends and another starts, if it can be one
abbrev pub meeting : Word → Word → Option Kind
meeting w v = option_and_then (λ atomic. kind_by atomic (ending w).is_store (start v).is_store)
    (agreed (ending w).is_atomic (start v).is_atomic (differ (ending w).is_store (start v).is_store))

-- the word leads to another core, or to another address; a fence stands between its accesses
abbrev pub is_external : Word → Bool
is_external (Pair p) = false
is_external (Side s) = not s.same_core

abbrev pub is_other_address : Word → Bool
is_other_address (Pair p) = not p.same_address
is_other_address (Side s) = false

abbrev pub is_fenced : Word → Bool
is_fenced (Pair p) = p.fenced
is_fenced (Side s) = false

-- the writes of an address may begin anew between a word and the next
abbrev pub is_turn : Word → Word → Bool
is_turn (Pair p) v = true
is_turn (Side s) v = differ (ends_with_store s.link) (start v).is_store
