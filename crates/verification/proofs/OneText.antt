-- A verdict that holds has one text, and so has what has the same numbers.
use Rattle.std.proofs.Common.{◌≡◌, ◌<◌, ◌+◌, ◌-◌, ◌++◌, ◌∷◌, ℕ, List, zero, suc, Some, Vec, Global, arith, ap, refl}
use Rattle.std.proofs.Common.{sym, subst, ◌∙◌, codes, decimal, get_or, length}
use Rattle.std.proofs.lemmas.List.{get_or_default, get_or_past}
use Rattle.recording.specs.Execution.{Execution, event_count}
use Rattle.recording.specs.Tso.{IsTsoOrder}
use Rattle.relations.specs.declared.reason.Reason.{Reason}
use Rattle.relations.specs.declared.reason.Reason.TheVariants.{Po, Wo, Rf, Fr}
use Rattle.relations.specs.Cycle.{IsCertificate, IsCycle, next_in_cycle}
use Rattle.relations.specs.Forced.{Forced, IsReason}
use Rattle.labels.specs.Certified.{lists_of}
use Rattle.labels.specs.declared.certificate.Certificate.{Certificate}
use Rattle.verdicts.specs.declared.verdict.Verdict.{Verdict}
use Rattle.verdicts.specs.declared.verdict.Verdict.TheVariants as verdict
use Rattle.verdicts.specs.VerdictText.{ArePairLines, IsCycleText, IsPairLine, IsVerdictText, labels_text, order_line}
use Rattle.verdicts.specs.VerdictText.{pair_line}
use Rattle.verdicts.specs.Verified.{Verifies}
use Rattle.long.specs.declared.answer.LongAnswer.{LongAnswer}
use Rattle.long.specs.declared.answer.LongAnswer.TheVariants.{Order, Overlook, Cycle}
use Rattle.long.specs.Answer.{IsWitness}
use Rattle.long.specs.Texts.{ArePairs, IsLongText}
use Rattle.long.proofs.Lists.{cycle_of_items}
use Rattle.verification.specs.Faults.{IsOneLine}
use Rattle.verification.specs.Spelled.{IsSameAnswer, IsSameVerdict}

-- a pair has one first reason
pub one_reason : (x : Execution) (e f : ℕ) (q r : Reason) → IsReason x e f (Some q) → IsReason x e f (Some r) → q ≡ r
one_reason x e f Po Po a b = refl
one_reason x e f Po Wo a b = absurd (b.1 a)
one_reason x e f Po Rf a b = absurd (b.1 a)
one_reason x e f Po Fr a b = absurd (b.1 a)
one_reason x e f Wo Po a b = absurd (a.1 b)
one_reason x e f Wo Wo a b = refl
one_reason x e f Wo Rf a b = absurd (b.2 a.0)
one_reason x e f Wo Fr a b = absurd (b.2 a.0)
one_reason x e f Rf Po a b = absurd (a.1 b)
one_reason x e f Rf Wo a b = absurd (a.2 b.0)
one_reason x e f Rf Rf a b = refl
one_reason x e f Rf Fr a b = absurd (b.3 a.0)
one_reason x e f Fr Po a b = absurd (a.1 b)
one_reason x e f Fr Wo a b = absurd (a.2 b.0)
one_reason x e f Fr Rf a b = absurd (a.3 b.0)
one_reason x e f Fr Fr a b = refl

-- a pair has one line
line_one : (x : Execution) (e f : ℕ) (l m : List ℕ) → IsPairLine x e f l → IsPairLine x e f m → l ≡ m
line_one x e f l m a b = a.text
    ∙ ap (λ (r : Reason). pair_line e f r) (one_reason x e f a.reason b.reason a.first b.first) ∙ sym b.text

-- pairs have one text
lines_one : (x : Execution) (c : List ℕ) (n : ℕ) (l m : List ℕ) → ArePairLines x c n l → ArePairLines x c n m
    → l ≡ m
lines_one x c zero l m a b = a ∙ sym b
lines_one x c (suc n) l m a b = a.4 ∙ ap (λ (t : List ℕ). t ++ a.1) (lines_one x c n a.0 b.0 a.2 b.2)
    ∙ ap (λ (t : List ℕ). b.0 ++ t) (line_one x (get_or c n 0) (next_in_cycle c n) a.1 b.1 a.3 b.3) ∙ sym b.4

-- and so has a verdict
pub verdict_one : (x : Execution) (v : Verdict) (s t : List ℕ) → IsVerdictText x v s → IsVerdictText x v t → s ≡ t
verdict_one x (verdict.Ordered m) s t a b = a ∙ sym b
verdict_one x (verdict.Overlook l k) s t a b = a ∙ sym b
verdict_one x (verdict.Cycle c) s t a b =
    let rows = lists_of c.rows.items in
    a.whole ∙ ap (λ (pairs : List ℕ). codes "cycle of " ++ decimal (length c.cycle.items) ++ 10 ∷ (pairs
    ++ labels_text rows (length rows)))
    (lines_one x c.cycle.items (length c.cycle.items) a.pairs b.pairs a.lines b.lines) ∙ sym b.whole

-- and an answer
pub answer_one : (x : Execution) (a : LongAnswer) (s t : List ℕ) → IsLongText x a s → IsLongText x a t → s ≡ t
answer_one x (Order m) s t a b = a ∙ sym b
answer_one x (Overlook l k) s t a b = a ∙ sym b
answer_one x (Cycle c) s t a b =
    a.whole ∙ ap (λ (pairs : List ℕ). codes "cycle of " ++ decimal (length c.items) ++ 10 ∷ pairs)
    (lines_one x c.items (length c.items) a.pairs b.pairs a.lines b.lines) ∙ sym b.whole

-- what holds of one verdict, by its numbers, holds of another with the same
by_numbers : (P : Verdict → Type 0)
    → ((m k : Vec ℕ Global) → m.items ≡ k.items → P (verdict.Ordered m) → P (verdict.Ordered k))
    → ((l s k t : ℕ) → l ≡ k → s ≡ t → P (verdict.Overlook l s) → P (verdict.Overlook k t))
    → ((c d : Certificate) → c.cycle.items ≡ d.cycle.items → lists_of c.rows.items ≡ lists_of d.rows.items
    → P (verdict.Cycle c) → P (verdict.Cycle d)) → (v w : Verdict) → IsSameVerdict v w → P v → P w
by_numbers P orders overlooks cycles (verdict.Ordered m) (verdict.Ordered k) same p = orders m k same p
by_numbers P orders overlooks cycles (verdict.Ordered m) (verdict.Overlook k t) same p = absurd same
by_numbers P orders overlooks cycles (verdict.Ordered m) (verdict.Cycle d) same p = absurd same
by_numbers P orders overlooks cycles (verdict.Overlook l s) (verdict.Ordered k) same p = absurd same
by_numbers P orders overlooks cycles (verdict.Overlook l s) (verdict.Overlook k t) same p =
    overlooks l s k t same.0 same.1 p
by_numbers P orders overlooks cycles (verdict.Overlook l s) (verdict.Cycle d) same p = absurd same
by_numbers P orders overlooks cycles (verdict.Cycle c) (verdict.Ordered k) same p = absurd same
by_numbers P orders overlooks cycles (verdict.Cycle c) (verdict.Overlook k t) same p = absurd same
by_numbers P orders overlooks cycles (verdict.Cycle c) (verdict.Cycle d) same p = cycles c d same.0 same.1 p

-- a verdict with the numbers of one that holds does so
pub same_verifies : (x : Execution) (v w : Verdict) → IsSameVerdict v w → Verifies x v → Verifies x w
same_verifies x = by_numbers (Verifies x) (λ m k is p. subst (λ (o : List ℕ). IsTsoOrder x o) is p)
    (λ l s k t one other p. rw (sym one, sym other) p)
    (λ c d one other p.
    subst (λ (rows : List (List ℕ)). IsCertificate (Forced x) (event_count x) d.cycle.items rows) other
    (subst (λ (e : List ℕ). IsCertificate (Forced x) (event_count x) e (lists_of c.rows.items)) one p))

-- and has its text
pub same_text : (x : Execution) (text : List ℕ) (v w : Verdict) → IsSameVerdict v w → IsVerdictText x v text
    → IsVerdictText x w text
same_text x text = by_numbers (λ (v : Verdict). IsVerdictText x v text)
    (λ m k is p. subst (λ (o : List ℕ). text ≡ order_line o) is p)
    (λ l s k t one other p. rw (sym one, sym other) p)
    (λ c d one other p. subst (λ (rows : List (List ℕ)). IsCycleText x d.cycle.items rows text) other
    (subst (λ (e : List ℕ). IsCycleText x e (lists_of c.rows.items) text) one p))

-- the same of answers
by_events : (P : LongAnswer → Type 0) → ((m k : Vec ℕ Global) → m.items ≡ k.items → P (Order m) → P (Order k))
    → ((l s k t : ℕ) → l ≡ k → s ≡ t → P (Overlook l s) → P (Overlook k t))
    → ((c d : Vec ℕ Global) → c.items ≡ d.items → P (Cycle c) → P (Cycle d)) → (a b : LongAnswer) → IsSameAnswer a b
    → P a → P b
by_events P orders overlooks cycles (Order m) (Order k) same p = orders m k same p
by_events P orders overlooks cycles (Order m) (Overlook k t) same p = absurd same
by_events P orders overlooks cycles (Order m) (Cycle d) same p = absurd same
by_events P orders overlooks cycles (Overlook l s) (Order k) same p = absurd same
by_events P orders overlooks cycles (Overlook l s) (Overlook k t) same p = overlooks l s k t same.0 same.1 p
by_events P orders overlooks cycles (Overlook l s) (Cycle d) same p = absurd same
by_events P orders overlooks cycles (Cycle c) (Order k) same p = absurd same
by_events P orders overlooks cycles (Cycle c) (Overlook k t) same p = absurd same
by_events P orders overlooks cycles (Cycle c) (Cycle d) same p = cycles c d same p

pub same_witness : (x : Execution) (a b : LongAnswer) → IsSameAnswer a b → IsWitness x a → IsWitness x b
same_witness x = by_events (IsWitness x) (λ m k is p. subst (λ (o : List ℕ). IsTsoOrder x o) is p)
    (λ l s k t one other p. rw (sym one, sym other) p) (λ c d is p. subst (λ (e : List ℕ). IsCycle (Forced x) e) is p)

pub same_long_text : (x : Execution) (text : List ℕ) (a b : LongAnswer) → IsSameAnswer a b → IsLongText x a text
    → IsLongText x b text
same_long_text x text = by_events (λ (a : LongAnswer). IsLongText x a text)
    (λ m k is p. subst (λ (o : List ℕ). text ≡ order_line o) is p)
    (λ l s k t one other p. rw (sym one, sym other) p) (λ c d is p. subst (λ (e : List ℕ). ArePairs x e text) is p)

pub same_one_line : (a b : LongAnswer) → IsSameAnswer a b → IsOneLine a → IsOneLine b
same_one_line = by_events IsOneLine (λ m k is one. tt) (λ l s k t first second one. tt) (λ c d is one. absurd one)

-- a pair with a first reason is forced
pub reason_forces : (x : Execution) (e f : ℕ) (r : Reason) → IsReason x e f (Some r) → Forced x e f
reason_forces x e f Po is = (Po, is)
reason_forces x e f Wo is = (Wo, is.0)
reason_forces x e f Rf is = (Rf, is.0)
reason_forces x e f Fr is = (Fr, is.0)

-- events of which all pairs are forced are a cycle
pub cycle_of_pairs : (x : Execution) (c : List ℕ) → 0 < length c
    → ((i : ℕ) → i < length c → Forced x (get_or c i 0) (next_in_cycle c i)) → IsCycle (Forced x) c
cycle_of_pairs x c some forced = cycle_of_items (Forced x) c some
    (λ i low. subst (λ (f : ℕ). Forced x (get_or c i 0) f) (get_or_default c (i + 1) (get_or c 0 0) 0 low)
    (forced i (omega (arith, low))))
    (subst (λ (f : ℕ). Forced x (get_or c (length c - 1) 0) f)
    (get_or_past c (length c - 1 + 1) (get_or c 0 0) (omega (arith, some)))
    (forced (length c - 1) (omega (arith, some))))
