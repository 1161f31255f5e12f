-- Laws of what is found: the verdicts on a recording find the same, and no cycle that is too long.
use Rattle.common.specs.declared.limits.TheConstants.{MAX_EVENTS}
use Rattle.std.proofs.Common.{◌≡◌, ◌<◌, ◌≤◌, ℕ, Option, Some, arith, refl, ap, inl, inr, length, subst, ◌∙◌}
use Rattle.recording.specs.Event.{value_read}
use Rattle.recording.specs.Execution.{Execution, event_count, event_at, write_list, Reads}
use Rattle.recording.specs.Order.{times}
use Rattle.recording.specs.OrderLaws.{times_in}
use Rattle.recording.specs.EventLaws.{Reads-event, Writes-event, source-Reads}
use Rattle.recording.specs.Recording.{IsRecording}
use Rattle.recording.specs.Tso.{Gives, IsWellFormed}
use Rattle.relations.specs.declared.reason.Reason.{Reason}
use Rattle.relations.specs.declared.reason.Reason.TheVariants.{Po, Wo, Rf, Fr}
use Rattle.relations.specs.CycleLaws.{short_cycle}
use Rattle.relations.specs.Forced.{Holds, Forced, IsLeastOverlook}
use Rattle.verdicts.specs.declared.verdict.Verdict.{Verdict}
use Rattle.verdicts.specs.declared.verdict.Verdict.TheVariants.{Ordered, Overlook, Cycle}
use Rattle.verdicts.specs.Judgement.{IsVerdict}
use Rattle.ledger.specs.declared.finding.Finding.TheVariants as finding
use Rattle.ledger.specs.Findings.{IsShortVerdict, finding_of}

-- the least overlook is one
one_overlook : (x : Execution) (l s k t : ℕ) → IsLeastOverlook x l s → IsLeastOverlook x k t → (l ≡ k)
    × (s ≡ t)
one_overlook x l s k t one two = elim (one.least k t two.overlooks) [
  | inl less ↦ elim (two.least l s one.overlooks) [
    | inl more ↦ absurd (omega (arith, less, more))
    | inr same ↦ absurd (omega (arith, less, same.0))
  ]
  | inr same ↦ elim (two.least l s one.overlooks) [
    | inl more ↦ absurd (omega (arith, more, same.0))
    | inr back ↦ (same.0, omega (arith, same.1, back.1))
  ]
]

-- so its verdicts find the same
pub one_finding : (x : Execution) (v w : Verdict) → IsVerdict x v → IsVerdict x w → finding_of v ≡ finding_of w
one_finding x (Ordered m) (Ordered n) one two = refl
one_finding x (Ordered m) (Overlook k t) one two = absurd (two.no_order m.items one.order)
one_finding x (Ordered m) (Cycle d) one two = absurd (two.no_order m.items one.order)
one_finding x (Overlook l s) (Ordered n) one two = absurd (one.no_order n.items two.order)
one_finding x (Overlook l s) (Overlook k t) one two =
    let same = one_overlook x l s k t one.least two.least in
    ap (λ (e : ℕ). finding.Overlook e s) same.0 ∙ ap (λ (e : ℕ). finding.Overlook k e) same.1
one_finding x (Overlook l s) (Cycle d) one two = absurd (two.no_overlook l s one.least.overlooks)
one_finding x (Cycle c) (Ordered n) one two = absurd (one.no_order n.items two.order)
one_finding x (Cycle c) (Overlook k t) one two = absurd (one.no_overlook k t two.least.overlooks)
one_finding x (Cycle c) (Cycle d) one two =
    let same : length c.cycle.items ≡ length d.cycle.items = omega (
      arith,
      one.least.shortest.shortest d.cycle.items two.least.shortest.cycle,
      two.least.shortest.shortest c.cycle.items one.least.shortest.cycle,
    ) in
    ap (λ (n : ℕ). finding.Cycle n) same

-- what stands in a write list is an event
listed : (x : Execution) → IsWellFormed x → (a e : ℕ) → 0 < times (write_list x a) e → e < event_count x
listed x wf a e there = Writes-event x e a ((wf.write_lists a).nothing_else e there)

-- what forces a pair is among events
holds_within : (x : Execution) → IsWellFormed x → (reason : Reason) (e f : ℕ) → Holds x reason e f
    → (e < event_count x) × (f < event_count x)
holds_within x wf Po e f h = let own = h.0 in (omega (arith, own.0, own.1), own.1)
holds_within x wf Wo e f h = (
  listed x wf h.0 e (times_in (write_list x h.0) e (omega (arith, h.1))),
  listed x wf h.0 f (times_in (write_list x h.0) f h.1.1),
)
holds_within x wf Rf e f h =
    let reads : (a : ℕ) × Reads x f a = source-Reads x f e h.0 in
    let gives : Gives x reads.0 (Some e) (value_read (event_at x f)) =
    subst (λ (o : Option ℕ). Gives x reads.0 o (value_read (event_at x f))) h.0
    (wf.sources f reads.0 reads.1) in
    (Writes-event x e reads.0 gives.0, Reads-event x f reads.0 reads.1)
holds_within x wf Fr e f h = (Reads-event x e h.0 h.1, Writes-event x f h.0 h.2)

-- so no least cycle is longer than a recording may be
pub short_verdict : (x : Execution) (v : Verdict) → IsRecording x → event_count x ≤ MAX_EVENTS → IsVerdict x v
    → IsShortVerdict v
short_verdict x (Ordered order) recording few is = tt
short_verdict x (Overlook load store) recording few is = tt
short_verdict x (Cycle certificate) recording few is =
    let least = is.least.shortest in
    let short = short_cycle (Forced x) (event_count x)
    (λ e f h. holds_within x recording.well_formed h.0 e f h.1) certificate.cycle.items least.cycle in
    omega (arith, least.shortest short.0 short.1, short.2, few)
