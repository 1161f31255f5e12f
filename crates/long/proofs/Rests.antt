-- Chains as they are followed.
use Rattle.std.proofs.Common.{◌≡◌, ◌≢◌, ◌≤◌, ◌+◌, inl, inr, ℕ, List, ◌∷◌, length, arith, refl, ap, ◌∙◌}
use Rattle.std.proofs.lemmas.Bool.{cases_eq}
use Rattle.recording.specs.Order.{times}
use Rattle.recording.specs.OrderLaws.{times_here, times_there, times_nil}
use Rattle.long.specs.Chains.{Chains, rest_from}
use Rattle.long.proofs.Chained.{chain_ends}

-- the first of a list stands once more than in the rest
pub first_here : (s rest : List ℕ) (v : ℕ) → s ≡ v ∷ rest → times s v ≡ times rest v + 1
first_here s rest v is = ap (λ (l : List ℕ). times l v) is ∙ times_here rest v v refl

-- others stand as often
pub first_other : (s rest : List ℕ) (v f : ℕ) → s ≡ v ∷ rest → v ≢ f → times s f ≡ times rest f
first_other s rest v f is apart = ap (λ (l : List ℕ). times l f) is ∙ times_there rest v f apart

-- none stands more often in the rest
pub rest_less : (s rest : List ℕ) (v f : ℕ) → s ≡ v ∷ rest → times rest f ≤ times s f
rest_less s rest v f is = elim (cases_eq v f) [
  | inl one ↦ omega (
    arith,
    first_here s rest v is,
    ap (λ (k : ℕ). times s k) one,
    ap (λ (k : ℕ). times rest k) one,
  )
  | inr apart ↦ omega (arith, first_other s rest v f is apart)
]

-- a chain that is over has none
pub rest_over : (p : Chains) (head f : ℕ) → head ≡ 0 → times (rest_from p head) f ≡ 0
rest_over p head f over =
    ap (λ (h : ℕ). times (rest_from p h) f) over
    ∙ ap (λ (l : List ℕ). times l f) (chain_ends p.links (length p.links))
    ∙ times_nil f
