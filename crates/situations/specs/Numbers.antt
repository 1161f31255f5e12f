-- Numbers as they lie in memory: each in a byte, perhaps as a code, or each in a word.
use Rattle.std.specs.Prelude.{◌-◌, ℕ, List, if◌then◌else◌, map, nat_lt, slice_index}
use Rattle.situations.specs.declared.packed_list.PackedList.{PackedList}
use Rattle.situations.specs.declared.packed_list.PackedList.TheVariants.{Bytes, Codes, Words}

-- the number of a code, beside the large numbers, for which codes from 128 on stand
abbrev pub number_of : List ℕ → ℕ → ℕ
number_of large code = if nat_lt code 128 then code else slice_index large (code - 128)

-- the numbers of a list
abbrev pub numbers_of : PackedList → List ℕ
numbers_of (Bytes bytes) = bytes.now
numbers_of (Codes codes large) = map (number_of large.now) codes.now
numbers_of (Words words) = words.now
