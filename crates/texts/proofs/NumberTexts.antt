-- Texts of numbers that are written with what is after them.
use Rattle.std.proofs.Common.{◌≡◌, ◌≤◌, ◌+◌, ◌++◌, ℕ, List, length, take, drop, arith, ap, sym, ◌∙◌}
use Rattle.std.proofs.Math.Seq.{take-append-add}
use Rattle.std.proofs.lemmas.List.{length-take-le, take-append-le}
use Rattle.std.proofs.lemmas.Simd.{put_chunk_is}
use Rattle.std.specs.Simd.Lanes.{put_chunk}

-- the first of four bytes that are put, after those before them
pub text_put : (places bytes : List ℕ) (at size : ℕ) → length bytes ≡ 4 → size ≤ 4 → at + 4 ≤ length places
    → take (at + size) (put_chunk at places bytes) ≡ take at places ++ take size bytes
text_put places bytes at size four within room =
    let rest : List ℕ = drop (length bytes) (drop at places) in
    let front : length (take at places) ≡ at = length-take-le at places (omega (arith, room)) in
    ap (λ (all : List ℕ). take (at + size) all) (put_chunk_is at places bytes (omega (arith, four, room)))
    ∙ ap (λ (k : ℕ). take (k + size) (take at places ++ (bytes ++ rest))) (sym front)
    ∙ take-append-add (take at places) (bytes ++ rest) size
    ∙ ap (λ (text : List ℕ). take at places ++ text) (take-append-le size bytes rest (omega (arith, four, within)))
