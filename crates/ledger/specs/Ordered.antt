-- Texts with headers as one: in the order of their seeds or lines.
use Rattle.std.specs.Prelude.{◌≡◌, ◌⊎◌, ◌+◌, ◌-◌, ◌<◌, ◌≤◌, ◌^◌, [], ◌∷◌, ℕ, zero, suc, List, Option, None, length, map}
use Rattle.std.specs.Prelude.{option_map, All, slice_index_or, IsPermutation, IsSortedByKey, ⊤}
use Rattle.std.specs.List.{sum_by}
use Rattle.std.specs.Option.{option_or}
use Rattle.std.specs.Ordering.{nat_cmp}
use Rattle.headers.specs.declared.header.Counted.{Counted}
use Rattle.headers.specs.declared.header.Counted.TheVariants as counted
use Rattle.headers.specs.declared.header.Header.{Header}
use Rattle.ledger.specs.declared.ledger.Ledger.{Ledger}
use Rattle.ledger.specs.declared.merge_error.MergeError.{MergeError}
use Rattle.ledger.specs.declared.merge_error.MergeError.TheVariants as errors
use Rattle.ledger.specs.declared.merge_error.MergeRefusal.{MergeRefusal}
use Rattle.ledger.specs.declared.joined.Gaps.{Gaps}
use Rattle.ledger.specs.declared.joined.Gaps.TheVariants.{Refuse, Count}
use Rattle.ledger.specs.declared.joined.Joined.{Joined}
use Rattle.ledger.specs.declared.text_kind.Kind.{Kind}
use Rattle.ledger.specs.Merges.{IsMerge, IsMergingError}
use Rattle.ledger.specs.Sections.{AreOf, AreSections, Section, end_of, kind_of}
use Rattle.ledger.specs.Unread.{IsUnread}

-- the sections by their first seeds or lines
pub record AreOrdered (sections order : List Section) : Type 0 where
  pub all : IsPermutation sections order
  pub sorted : IsSortedByKey (λ s. s.header.first) nat_cmp order

-- a section begins right after another, or, where gaps are counted, no earlier
abbrev pub Follows : Gaps → Section → Section → Type 0
Follows Refuse one next = next.header.first ≡ end_of one
Follows Count one next = end_of one ≤ next.header.first

-- so does each after the one before it
abbrev pub FollowEachOther : Gaps → List Section → Type 0
FollowEachOther gaps order = (i : ℕ) (d : Section) → i + 1 < length order
    → Follows gaps (slice_index_or order i d) (slice_index_or order (i + 1) d)

-- how many seeds or lines the headers have
abbrev pub count_of : List Section → ℕ
count_of order = sum_by (λ s. s.header.count) order

-- the header of all of them: from the first of the first to the last of the last
pub record IsHeaderOf (order : List Section) (h : Header) : Type 0 where
  pub counted : AreOf h.counted order
  pub first : (d : Section) → h.first ≡ (slice_index_or order 0 d).header.first
  pub few : h.count < 2 ^ 64
  pub end : (d : Section) → h.first + h.count ≡ end_of (slice_index_or order (length order - 1) d)

-- what is missing among sections that follow each other
pub record IsMissing (gaps : Gaps) (order : List Section) (missing : ℕ) : Type 0 where
  pub follow : FollowEachOther gaps order
  pub count : (d : Section) → (slice_index_or order 0 d).header.first + count_of order + missing
      ≡ end_of (slice_index_or order (length order - 1) d)
  pub none : gaps ≡ Refuse → missing ≡ 0

-- no section begins before the first
abbrev pub FirstIsLeast : List Section → Type 0
FirstIsLeast order = (i : ℕ) (d : Section) → i < length order
    → (slice_index_or order 0 d).header.first ≤ (slice_index_or order i d).header.first

-- they have 2^64 seeds or lines or more
abbrev pub AreTooLong : List Section → Type 0
AreTooLong order = (d : Section) → (slice_index_or order 0 d).header.first + 2 ^ 64
    ≤ end_of (slice_index_or order (length order - 1) d)

-- they stand in 2^64 numbers from this one on
abbrev pub AreWithin : ℕ → List Section → Type 0
AreWithin base order = All (λ s. (base ≤ s.header.first) × (end_of s < base + 2 ^ 64)) order

-- the first violation that a section tells, counted from the first seed of all
abbrev pub place_from : ℕ → Section → Option ℕ
place_from base s = option_map (λ k. (s.header.first - base) + k) s.violation

-- that of the first section that tells one
abbrev pub first_from : ℕ → List Section → Option ℕ
first_from base [] = None
first_from base (s ∷ order) = option_or (place_from base s) (first_from base order)

-- what is told of the ledger of texts: where some trials are missing, the first violation by its seed
abbrev pub by_seed : Counted → ℕ → List Section → Ledger → Ledger
by_seed (counted.Campaign setup) base order l = record l { first = first_from base order }
by_seed counted.Survey base order l = l
by_seed counted.LongSurvey base order l = l

abbrev pub told : ℕ → Header → List Section → Ledger → Ledger
told zero h order l = l
told (suc missing) h order l = by_seed h.counted h.first order l

-- sections in order follow each other; what is told is the ledger of their texts
pub record IsJoinedOrder (gaps : Gaps) (order : List Section) (j : Joined) : Type 0 where
  pub follow : FollowEachOther gaps order
  pub header : IsHeaderOf order j.header
  pub missing : count_of order + j.missing ≡ j.header.count
  pub none : gaps ≡ Refuse → j.missing ≡ 0
  pub kind : Kind
  pub whole : Ledger
  pub merge : IsMerge (map (λ s. s.text) order) (record { kind = kind; ledger = whole })
  pub ledger : j.ledger ≡ told j.missing j.header order whole

-- the sections of files in order
pub record AreInOrder (files : List (List ℕ)) (order : List Section) : Type 0 where
  pub sections : List Section
  pub are : AreSections files sections
  pub ordered : AreOrdered sections order

-- the files are such sections
abbrev pub AreJoined : Gaps → List (List ℕ) → Joined → Type 0
AreJoined gaps files j = (order : List Section) × AreInOrder files order × IsJoinedOrder gaps order j

-- a section and the next one are no neighbours
abbrev pub IsSeam : Section → Section → MergeError → Type 0
IsSeam one next (errors.Gap seam) = (seam.from ≤ seam.to) × (seam.from ≡ end_of one)
    × (seam.to + 1 ≡ next.header.first) × (seam.kind ≡ kind_of one.header.counted)
IsSeam one next (errors.Overlap seam) = (seam.from ≤ seam.to) × (seam.from ≡ next.header.first)
    × (seam.to < end_of one) × (seam.to < end_of next) × (seam.kind ≡ kind_of one.header.counted)
IsSeam one next other = ⊥

-- so it is of two that stand beside each other
pub record HasSeam (order : List Section) (error : MergeError) : Type 0 where
  pub place : ℕ
  pub within : place + 1 < length order
  pub seam : (d : Section) → IsSeam (slice_index_or order place d) (slice_index_or order (place + 1) d) error

-- they have 2^64 seeds or lines or more, or their texts are not added up
abbrev pub AreTooMany : List Section → Type 0
AreTooMany order = AreTooLong order ⊎ ((refusal : MergeRefusal) × (text : ℕ) × (line : ℕ)
    × IsMergingError (map (λ s. s.text) order) (errors.Refused refusal text line))

-- why sections in order are not joined
abbrev pub IsNoOrderedJoin : List Section → MergeError → Type 0
IsNoOrderedJoin order errors.OutOfMemory = ⊤
IsNoOrderedJoin order (errors.Refused refusal file line) = AreTooMany order
IsNoOrderedJoin order error = HasSeam order error

-- why files are not joined: they are no sections, or these are not
abbrev pub IsNoJoin : List (List ℕ) → MergeError → Type 0
IsNoJoin files error = IsUnread files error
    ⊎ ((order : List Section) × AreInOrder files order × IsNoOrderedJoin order error)
