-- A trial has one code.
use Rattle.std.proofs.Common.{◌≡◌, ◌<◌, ◌≤◌, inl, inr, ℕ, List, get_or, refl, sym, ap, ◌∙◌, subst}
use Rattle.std.proofs.Common.{◌+◌, arith, length, sum}
use Rattle.std.specs.Prelude.{Option, Some, None}
use Rattle.std.proofs.lemmas.Bool.{cases_lt}
use Rattle.std.proofs.lemmas.Bool.Decides.{nat_tests}
use Rattle.std.proofs.lemmas.List.{ext_get_or}
use Rattle.machine.specs.Configuration.{Configuration, IsAtEnd, recording_of}
use Rattle.verdicts.specs.declared.verdict.Verdict.{Verdict}
use Rattle.verdicts.specs.declared.verdict.Verdict.TheVariants.{Ordered, Overlook, Cycle}
use Rattle.ledger.specs.declared.code.TheConstants.{CYCLE, LONG_CYCLE, OVERLOOK}
use Rattle.ledger.specs.declared.ledger.Ledger.{Ledger}
use Rattle.ledger.specs.FindingLaws.{one_finding}
use Rattle.ledger.specs.Findings.{counted_length, finding_code}
use Rattle.ledger.specs.Counts.{IsLedger, IsSameLedger}
use Rattle.ledger.specs.LedgerLaws as laws
use Rattle.trials.specs.Campaigns.{Plan}
use Rattle.trials.specs.Codes.{IsCode, AreCodes, IsShortEnd, end_code}
use Rattle.trials.specs.Judged.{IsEndVerdict}
use Rattle.trials.specs.OneLedger.{HasItsKind}
use Rattle.trials.specs.Schedule.{IsRandomRun, configuration_after}

module _ (attempts : ℕ) (h : Configuration) (rng : List ℕ) where
  -- no run ends before another
  no_shorter : (e f : Configuration) (r s : List ℕ) (x : IsRandomRun attempts h rng e r)
      (y : IsRandomRun attempts h rng f s) → x.taken < y.taken → ⊥
  no_shorter e f r s x y less = elim x.ended [
    | inl end ↦ y.before x.taken less (subst IsAtEnd x.leads end)
    | inr full ↦ absurd (omega (arith, full, less, y.within))
  ]

  -- two runs take the same number of words
  one_length : (e f : Configuration) (r s : List ℕ) (x : IsRandomRun attempts h rng e r)
      (y : IsRandomRun attempts h rng f s) → x.taken ≡ y.taken
  one_length e f r s x y = elim (cases_lt x.taken y.taken) [
    | inl less ↦ absurd (no_shorter e f r s x y less)
    | inr most ↦ elim (cases_lt y.taken x.taken) [
      | inl less ↦ absurd (no_shorter f e s r y x less)
      | inr least ↦ omega (arith, most, least)
    ]
  ]

  -- and end in one machine
  pub one_end : (e f : Configuration) (r s : List ℕ) → IsRandomRun attempts h rng e r
      → IsRandomRun attempts h rng f s → e ≡ f
  one_end e f r s x y = x.leads ∙ (ap (configuration_after h rng) (one_length e f r s x y) ∙ sym y.leads)

-- so has what is judged of a machine
one_judged : (h : Configuration) (v w : Option Verdict) → IsEndVerdict h v → IsEndVerdict h w
    → end_code v ≡ end_code w
one_judged h None None one two = refl
one_judged h None (Some w) one two = absurd (one two.0)
one_judged h (Some v) None one two = absurd (two one.0)
one_judged h (Some v) (Some w) one two = ap finding_code (one_finding (recording_of h) v w one.1 two.1)

-- and a trial
pub one_code : (p : Plan) (k n m : ℕ) → IsCode p k n → IsCode p k m → n ≡ m
one_code p k n m x y =
    let same : x.end ≡ y.end = one_end _ _ _ x.end y.end x.ends.0 y.ends.0 x.ends.1 y.ends.1 in
    x.code ∙ (one_judged y.end x.verdict y.verdict
    (subst (λ (h : Configuration). IsEndVerdict h x.verdict) same x.judged) y.judged ∙ sym y.code)

-- a campaign's trials have one list of codes
one_list : (p : Plan) (codes others : List ℕ) → AreCodes p codes → AreCodes p others → codes ≡ others
one_list p codes others x y = ext_get_or 0 codes others (x.size ∙ sym y.size)
    (λ k low. one_code p k (get_or codes k 0) (get_or others k 0) (x.each k (omega (arith, low, x.size)))
    (y.each k (omega (arith, low, x.size))))

-- and one ledger
pub one_ledger : (p : Plan) (codes others : List ℕ) (l m : Ledger) → AreCodes p codes → IsLedger codes l
    → AreCodes p others → IsLedger others m → IsSameLedger l m
one_ledger p codes others l m x one y two = laws.one_ledger codes l m one (subst (λ (list : List ℕ). IsLedger list m)
    (sym (one_list p codes others x y)) two)

-- an overlook is a violation
overlook_kind : (n : ℕ) → OVERLOOK ≤ n → HasItsKind n
overlook_kind n high = (grind (arith, nat_tests, high), grind (arith, nat_tests, high))

-- and a cycle of any length
cycle_kind : (k : ℕ) → k ≤ LONG_CYCLE → HasItsKind (CYCLE + k)
cycle_kind k short = (grind (arith, nat_tests, short), grind (arith, nat_tests, short))

-- so has every end of a run its kind
end_kind : (verdict : Option Verdict) → IsShortEnd verdict → HasItsKind (end_code verdict)
end_kind None short = (refl, refl)
end_kind (Some (Ordered order)) short = (refl, refl)
end_kind (Some (Overlook load store)) short = overlook_kind _ (omega arith)
end_kind (Some (Cycle certificate)) short =
    cycle_kind (counted_length (length certificate.cycle.items)) (omega arith)

-- and every trial
pub one_kind : (p : Plan) (k n : ℕ) → IsCode p k n → HasItsKind n
one_kind p k n is = subst HasItsKind (sym is.code) (end_kind is.verdict is.short)

-- and the counts add up to the trials
pub adds_up : (p : Plan) (codes : List ℕ) (l : Ledger) → AreCodes p codes → IsLedger codes l
    → l.ordered + l.unjudged + l.overlook + sum l.cycles.items ≡ p.trials
adds_up p codes l are is = omega (arith, laws.adds_up codes l is, is.total, are.size)
