-- The codes of a desk, with those of the trials that no worker filed.
use Rattle.std.proofs.Common.{◌≡◌, ℕ, ◌+◌, ◌<◌, ◌≤◌, List, length, set, sym, ap, ◌∙◌, subst}
use Rattle.std.proofs.Common.{inr, ⊎_elim, arith}
use Rattle.std.specs.Prelude.{slice_index}
use Rattle.std.proofs.lemmas.List.{get_or-set_same, get_or-set_other}
use mathlib.Core.Logic.{dite}
use native.Mathlib.Decide.{ℕ_discrete}
use borrow.Author.Count.{below_more}
use Rattle.trials.specs.declared.desk_table.SeatKnowledge.{SeatKnowledge}
use Rattle.trials.specs.Campaigns.{Plan}
use Rattle.trials.specs.Codes.{IsCode}
use Rattle.trials.specs.LegalDesk.{IsDeskWord, AreDeskWords}

-- a word that is neither open nor claimed is a code
pub is_code : (p : Plan) (k n : ℕ) → IsDeskWord p k n → 2 ≤ n → IsCode p k n
is_code p k n word big = ⊎_elim (λ e. absurd (omega (arith, e, big)))
    (λ x. ⊎_elim (λ e. absurd (omega (arith, e, big))) (λ code. code) x) word

-- a closed desk has a word for each trial
pub closed_size : (p : Plan) (v : SeatKnowledge) (ws : List ℕ) → v.campaign ≡ p → AreDeskWords v ws
    → length ws ≡ p.trials
closed_size p v ws same h = ap (λ (l : List ℕ). length l) (sym h.4)
    ∙ (h.2.size ∙ ap (λ (q : Plan). q.trials) same)

-- and each is lawful
pub closed_words : (p : Plan) (v : SeatKnowledge) (ws : List ℕ) → v.campaign ≡ p → AreDeskWords v ws → (k : ℕ)
    → IsDeskWord p k (slice_index ws k)
closed_words p v ws same h k = subst (λ (l : List ℕ). IsDeskWord p k (slice_index l k)) h.4
    (subst (λ (q : Plan). IsDeskWord q k (slice_index h.0.words k)) same (h.2.words k))

-- one code more is written
pub one_written : (p : Plan) (ws : List ℕ) (k n : ℕ) → k < length ws → IsCode p k n
    → ((j : ℕ) → j < k → IsCode p j (slice_index ws j)) → (j : ℕ) → j < k + 1
    → IsCode p j (slice_index (set ws k n) j)
one_written p ws k n low code done = below_more (λ (j : ℕ). IsCode p j (slice_index (set ws k n) j)) k
    (λ j less. subst (IsCode p j) (sym (get_or-set_other ws k j n 0 (λ e. omega (arith, e, less))))
    (done j less))
    (subst (IsCode p k) (sym (get_or-set_same ws k n 0 low)) code)

-- and the words are lawful still
pub words_written : (p : Plan) (ws : List ℕ) (k n : ℕ) → k < length ws → IsCode p k n
    → ((j : ℕ) → j < p.trials → IsDeskWord p j (slice_index ws j)) → (j : ℕ) → j < p.trials
    → IsDeskWord p j (slice_index (set ws k n) j)
words_written p ws k n low code words j less = dite (ℕ_discrete j k)
    (λ is. subst (λ (i : ℕ). IsDeskWord p i (slice_index (set ws k n) i)) (sym is)
    (subst (IsDeskWord p k) (sym (get_or-set_same ws k n 0 low)) (inr (inr code))))
    (λ ne. subst (IsDeskWord p j) (sym (get_or-set_other ws k j n 0 ne)) (words j less))
