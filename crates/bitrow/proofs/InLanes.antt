-- Bits of lanes.
use Rattle.std.proofs.Common.{◌≡◌, ◌<◌, ◌^◌, ℕ, ◌||◌, ◌&&◌, not, List, length, map, get_or, arith, ap, w64, ◌∙◌}
use Rattle.std.specs.Prelude.{bit_or, bit_and}
use Rattle.std.specs.Int.{bit_not}
use Rattle.std.specs.Simd.Lanes.{zip2}
use Rattle.std.proofs.lemmas.List.{get_or-map, length-map}
use Rattle.std.proofs.lemmas.Simd.{length-zip2, get_or-zip2}
use Rattle.bitrow.specs.Bits.{bit_of}
use Rattle.bitrow.proofs.Bits.{or_all, and_not_all}

-- of both
pub lanes_or : (lanes other : List ℕ) (n : ℕ) → length lanes ≡ n → length other ≡ n → (j : ℕ)
    → bit_of (zip2 (λ a b. bit_or a b) lanes other) j ≡ (bit_of lanes j || bit_of other j)
lanes_or lanes other n long also = or_all lanes (zip2 (λ a b. bit_or a b) lanes other) other n
    (length-zip2 (λ a b. bit_or a b) lanes other (omega (arith, long, also))) (omega (arith, long, also))
    (omega (arith, long))
    (λ m below. get_or-zip2 (λ a b. bit_or a b) lanes other m 0 0 0 (omega (arith, below, long))
    (omega (arith, below, also)))

-- of the ones that the others lack
pub lanes_without : (lanes other : List ℕ) (n : ℕ) → length lanes ≡ n → length other ≡ n
    → ((m : ℕ) → get_or other m 0 < 2 ^ 64) → (j : ℕ)
    → bit_of (zip2 (λ a b. bit_and a b) lanes (map (bit_not w64) other)) j ≡ (bit_of lanes j && not (bit_of other j))
lanes_without lanes other n long also fits =
    let out : List ℕ = map (bit_not w64) other in
    let size : length out ≡ n = length-map other (bit_not w64) ∙ also in
    and_not_all lanes (zip2 (λ a b. bit_and a b) lanes out) other n
    (length-zip2 (λ a b. bit_and a b) lanes out (omega (arith, long, size))) (omega (arith, long, also))
    (omega (arith, long)) fits
    (λ m below. get_or-zip2 (λ a b. bit_and a b) lanes out m 0 0 0 (omega (arith, below, long))
    (omega (arith, below, size))
    ∙ ap (λ (w : ℕ). bit_and (get_or lanes m 0) w) (get_or-map (bit_not w64) other m 0 0 (omega (arith, below, also))))
