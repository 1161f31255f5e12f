-- Pairs that causes show.
use Rattle.std.proofs.Common.{◌≡◌, ◌≤◌, ◌⊎◌, inl, inr, ◌+◌, ℕ, zero, suc, Some, None, arith, subst}
use Rattle.std.proofs.lemmas.Bool.{cases_lt}
use Rattle.recording.specs.Execution.{ProgramOrder}
use Rattle.values.specs.Values.{Values}
use Rattle.values.specs.Refused.{events_alone}
use Rattle.completion.specs.declared.cause.Cause.{Cause}
use Rattle.completion.specs.declared.cause.Cause.TheVariants.{Po, Rf, Wo, Fr}
use Rattle.completion.specs.Inferred.{IsOlderWrite, IsCause, ShownIn, IsShown}

-- what rounds show, more rounds show
shown_later : (v : Values) (n m e f : ℕ) → n ≤ m → ShownIn v n e f → ShownIn v m e f
shown_later v n zero e f le h =
    let none : n ≡ zero = omega (arith, le) in subst (λ (k : ℕ). ShownIn v k e f) none h
shown_later v n (suc m) e f le h = elim (cases_lt n (suc m)) [
  | inl less ↦ inl (shown_later v n m e f (omega (arith, less)) h)
  | inr most ↦ let same : n ≡ suc m = omega (arith, le, most) in subst (λ (k : ℕ). ShownIn v k e f) same h
]

-- two pairs that meet
pub shown_through : (v : Values) (e g f : ℕ) → IsShown v e g → IsShown v g f → IsShown v e f
shown_through v e g f first second = (
  suc (first.0 + second.0),
  inr (inr (
    g,
    shown_later v first.0 (first.0 + second.0) e g (omega arith) first.1,
    shown_later v second.0 (first.0 + second.0) g f (omega arith) second.1,
  )),
)

-- what a cause by some rounds shows
by_cause : (v : Values) (n e f : ℕ) (cause : Cause) → IsCause v (ShownIn v n) e f cause → IsShown v e f
by_cause v n e f cause h = (suc n, inr (inl (cause, h)))

-- what a cause shows
pub shown_by : (v : Values) (e f : ℕ) (cause : Cause) → IsCause v (IsShown v) e f cause → IsShown v e f
shown_by v e f Po h = by_cause v zero e f Po h
shown_by v e f Rf h = by_cause v zero e f Rf h
shown_by v e f (Wo r) h = go h.sees
  where
    older : (n : ℕ) → ShownIn v n e r ⊎ ProgramOrder (events_alone v) e r → IsOlderWrite v (ShownIn v n) e f r
    older n sees = record {
      address = h.address;
      reads = h.reads;
      source = h.source;
      writes = h.writes;
      other = h.other;
      not_itself = h.not_itself;
      sees = sees;
    }

    go : IsShown v e r ⊎ ProgramOrder (events_alone v) e r → IsShown v e f
    go (inl shown) = by_cause v shown.0 e f (Wo r) (older shown.0 (inl shown.1))
    go (inr order) = by_cause v zero e f (Wo r) (older zero (inr order))
shown_by v e f (Fr None) h = by_cause v zero e f (Fr None) h
shown_by v e f (Fr (Some w)) h = by_cause v h.after.0 e f (Fr (Some w)) (record {
  address = h.address;
  reads = h.reads;
  source = h.source;
  writes = h.writes;
  not_itself = h.not_itself;
  after = h.after.1;
})
