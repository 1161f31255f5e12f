-- Sections in order.
use Rattle.std.proofs.Common.{◌≡◌, ◌+◌, ◌-◌, ◌<◌, ◌≤◌, [], ℕ, zero, suc, List, ap, arith, get_or, length}
use Rattle.std.proofs.Common.{IsSortedByKey, None}
use Rattle.headers.specs.declared.header.Counted.TheVariants.{Survey}
use Rattle.std.specs.Ordering.{nat_cmp}
use Rattle.std.proofs.lemmas.Map.Keys.{ge_from_not_lt}
use Rattle.ledger.specs.declared.merge_error.MergeError.{MergeError}
use Rattle.ledger.specs.declared.merge_error.MergeError.TheVariants as errors
use Rattle.ledger.specs.declared.joined.Gaps.{Gaps}
use Rattle.ledger.specs.declared.joined.Gaps.TheVariants.{Refuse, Count}
use Rattle.ledger.specs.Ordered.{FirstIsLeast, FollowEachOther, Follows, HasSeam, IsNoOrderedJoin}
use Rattle.ledger.specs.Sections.{Section, end_of}

-- a section is no earlier than the first
pub ascends : (order : List Section) → IsSortedByKey (λ s. s.header.first) nat_cmp order → FirstIsLeast order
ascends order sorted zero d low = omega arith
ascends order sorted (suc i) d low =
    let next : i + 1 ≡ suc i = omega arith in
    let before = ascends order sorted i d (omega (arith, low)) in
    let step = ge_from_not_lt (get_or order (i + 1) d).header.first (get_or order i d).header.first
    (sorted i d (omega arith) (omega (arith, low))) in
    omega (arith, before, step, ap (λ (k : ℕ). (get_or order k d).header.first) next)

-- a section ends no later than one that comes after it follows
follow_ends : (gaps : Gaps) (one next : Section) → Follows gaps one next → end_of one ≤ end_of next
follow_ends Refuse one next follows = omega (arith, follows)
follow_ends Count one next follows = omega (arith, follows)

ends_before : (gaps : Gaps) (order : List Section) (d : Section) (i n : ℕ) → FollowEachOther gaps order
    → i + n < length order → end_of (get_or order i d) ≤ end_of (get_or order (i + n) d)
ends_before gaps order d i zero follow low =
    let same : i + 0 ≡ i = omega arith in omega (arith, ap (λ (k : ℕ). end_of (get_or order k d)) same)
ends_before gaps order d i (suc n) follow low =
    let next : i + n + 1 ≡ i + suc n = omega arith in
    let before = ends_before gaps order d i n follow (omega (arith, low)) in
    let step = follow_ends gaps (get_or order (i + n) d) (get_or order (i + n + 1) d)
    (follow (i + n) d (omega (arith, low))) in
    omega (arith, before, step, ap (λ (k : ℕ). end_of (get_or order k d)) next)

-- and so no later than the last
pub ends_last : (gaps : Gaps) (order : List Section) (d : Section) (i : ℕ) → FollowEachOther gaps order
    → i < length order → end_of (get_or order i d) ≤ end_of (get_or order (length order - 1) d)
ends_last gaps order d i follow low =
    let last : i + (length order - 1 - i) ≡ length order - 1 = omega (arith, low) in
    omega (
      arith,
      ends_before gaps order d i (length order - 1 - i) follow (omega (arith, low)),
      ap (λ (k : ℕ). end_of (get_or order k d)) last,
    )

-- some section
abbrev any_section : Section
any_section = record { header = record { counted = Survey; first = 1; count = 1 }; text = []; violation = None }

-- sections with a seam are not joined
pub seam_no_join : (order : List Section) (error : MergeError) → HasSeam order error → IsNoOrderedJoin order error
seam_no_join order errors.OutOfMemory h = tt
seam_no_join order (errors.Refused refusal file line) h = absurd (h.seam any_section)
seam_no_join order (errors.Gap seam) h = h
seam_no_join order (errors.Overlap seam) h = h
