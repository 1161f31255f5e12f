-- Names: a letter, then at most 7 letters and digits; and lists of them.
use Rattle.std.specs.Prelude.{◌≡◌, ℕ, List, ◌++◌, ◌&&◌, ◌||◌, ◌==◌, Bool, nat_lt, nat_le, nat_eq, slice_index}
use Rattle.std.specs.Prelude.{slice_index_or, length, drop, replicate, Option, None, Some, if◌then◌else◌}
use Rattle.std.specs.List.{list_all, before_first, position_or_len, AllByRecursion}
use Rattle.std.specs.Cmp.Lexicographic.{pointwise}
use Rattle.indexmap.specs.IndexSet.{insert_key}
use Rattle.program.specs.declared.name.Name.{Name}

-- a byte from a to z
abbrev pub is_letter : ℕ → Bool
is_letter b = nat_le 97 b && nat_le b 122

-- a byte from a to z or 0 to 9
abbrev pub is_letter_or_digit : ℕ → Bool
is_letter_or_digit b = is_letter b || (nat_le 48 b && nat_le b 57)

-- from one to eight letters and digits, of which the first is a letter
abbrev pub is_name : List ℕ → Bool
is_name text =
    nat_lt 0 (length text) && is_letter (slice_index text 0) && list_all is_letter_or_digit text
    && nat_le (length text) 8

-- a name's bytes, and then zeros
abbrev pub padded : List ℕ → List ℕ
padded text = text ++ drop (length text) (replicate 8 0)

-- the name that a text is
unfoldable pub name_of : List ℕ → Option Name
name_of text = if is_name text then Some (record { bytes = padded text }) else None

-- a byte that fills a name up
abbrev pub is_zero : ℕ → Bool
is_zero b = b == 0

-- the text of a name: its bytes before the zeros
abbrev pub name_text : Name → List ℕ
name_text name = before_first is_zero name.bytes

-- whether two names are one
abbrev pub name_eq : Name → Name → Bool
name_eq a b = pointwise nat_eq a.bytes b.bytes

-- what stands where there is no name
abbrev pub no_name : Name
no_name = record { bytes = replicate 8 0 }

-- the name of an address, by its number
abbrev pub name_at : List Name → ℕ → Name
name_at names a = slice_index_or names a no_name

-- the names, with one that may be new at the end
abbrev pub names_with : List Name → Name → List Name
names_with names name = insert_key name_eq names name

-- the number of a name, or how many there are
abbrev pub name_number : List Name → Name → ℕ
name_number names name = position_or_len (name_eq name) names

-- each name is that of a text
abbrev pub AreLawful : List Name → Type 0
AreLawful names = AllByRecursion (λ name. name_of (name_text name) ≡ Some name) names
