-- The random runs of a program have one histogram.
use Rattle.std.proofs.Common.{◌≡◌, ◌<◌, ◌+◌, ◌∙◌, ℕ, zero, suc, Bool, true, false, List, [], ◌∷◌, Option, Some, None}
use Rattle.std.proofs.Common.{ap, arith, get_or, length, map, refl, rules, subst, sym}
use Rattle.std.specs.Cmp.{IsTotalOrder}
use Rattle.std.specs.Cmp.Rules.{comparing}
use Rattle.std.specs.List.{Contains, IsDistinct}
use Rattle.std.specs.List.Sorted.{IsSorted}
use Rattle.std.specs.Ordering.{eq_by_cmp, is_eq, is_lt, nat_cmp, ordering_then, ordering_reverse}
use Rattle.std.specs.declared.cmp.Ordering.{Ordering}
use Rattle.std.specs.declared.cmp.Ordering.TheVariants.{Less, Equal, Greater}
use Rattle.std.proofs.lemmas.List.{ext_get_or, get_or-map, length-map}
use Rattle.std.proofs.lemmas.List.Sorted.{ranks_by, sorted_far}
use Rattle.std.proofs.lemmas.Map.Keys.{IsDistinct-tail, apart_from_distinct}
use Rattle.std.proofs.lemmas.Map.Views.{Contains-from_lookup, lookup-from_Contains}
use Rattle.recording.specs.Execution.{Execution}
use Rattle.machine.specs.Configuration.{Configuration, recording_of}
use Rattle.program.specs.Parts.{Parts}
use Rattle.outcomes.specs.Outcome.{IsOutcomeOf, Outcome}
use Rattle.outcomes.specs.Listed.{compared, same_outcome}
use Rattle.trials.proofs.OneCode.{one_end}
use Rattle.histograms.specs.declared.seen.Seen.{Seen}
use Rattle.histograms.specs.declared.seeded_runs.SeededRuns.{SeededRuns}
use Rattle.histograms.specs.Histogram.{Bar, Histogram, IsHistogram, IsRanked, ranked}
use Rattle.histograms.specs.OneHistogram.{IsHistogramOf}
use Rattle.histograms.specs.Runs.{AreSeededRuns, IsSeededRun}
use Rattle.histograms.specs.Seen.{IsSeen, IsSeenOf}
use Rattle.histograms.proofs.Same.{equivalence, same_is, same_itself}

-- Runs

-- an execution comes to one outcome
one_outcome : (x : Execution) (o q : Outcome) → IsOutcomeOf x o → IsOutcomeOf x q → o ≡ q
one_outcome x o q one two =
    let reads : o.reads ≡ q.reads = ext_get_or 0 o.reads q.reads (one.events ∙ sym two.events)
    (λ e inside. one.reads e ∙ sym (two.reads e)) in
    let memory : o.memory ≡ q.memory = ext_get_or 0 o.memory q.memory (one.addresses ∙ sym two.addresses)
    (λ a inside. let there : a < length x.initial = omega (arith, inside, one.addresses) in
    one.memory a there ∙ sym (two.memory a there)) in
    λ i. record { reads = reads i; memory = memory i }

-- and is a violation or none
one_kind : (h : Configuration) (s t : Seen) → IsSeenOf h s → IsSeenOf h t → s.violation ≡ t.violation
one_kind h s t one two = go s.violation t.violation refl refl
  where
    go : (a b : Bool) → s.violation ≡ a → t.violation ≡ b → a ≡ b
    go true true is no_more = refl
    go false false is no_more = refl
    go true false is other = let order = two.allowed other in absurd (one.forbidden is order.0 order.1)
    go false true other is = let order = one.allowed other in absurd (two.forbidden is order.0 order.1)

-- so one thing is seen of a machine
one_seen : (h : Configuration) (s t : Option Seen) → IsSeen h s → IsSeen h t → s ≡ t
one_seen h None None one two = refl
one_seen h None (Some t) one two = absurd (one two.complete)
one_seen h (Some s) None one two = absurd (two one.complete)
one_seen h (Some s) (Some t) one two =
    let outcome : s.outcome ≡ t.outcome = one_outcome (recording_of h) s.outcome t.outcome one.outcome two.outcome in
    let violation : s.violation ≡ t.violation = one_kind h s t one two in
    λ i. Some (record { outcome = outcome i; violation = violation i })

-- of a run
one_run : (p : Parts) (o : SeededRuns) (workers run : ℕ) (s t : Option Seen) → IsSeededRun p o run s
    → IsSeededRun p (record o { workers = workers }) run t → s ≡ t
one_run p o workers run s t one two =
    let same : one.end ≡ two.end = one_end _ _ _ one.end two.end one.rest two.rest one.ran two.ran in
    one_seen two.end s t (subst (λ (h : Configuration). IsSeen h s) same one.seen) two.seen

-- and of all runs
one_list : (p : Parts) (o : SeededRuns) (workers : ℕ) (runs others : List (Option Seen)) → AreSeededRuns p o runs
    → AreSeededRuns p (record o { workers = workers }) others → runs ≡ others
one_list p o workers runs others one two = ext_get_or None runs others (one.count ∙ sym two.count)
    (λ k inside. one_run p o workers (0 + k) (get_or runs k None) (get_or others k None) (one.each k inside)
    (two.each k (omega (arith, inside, one.count, two.count))))

-- Histograms

ranks : IsTotalOrder ranked
ranks = search (comparing, rules)

-- outcomes of which none comes first are one
ties : (a b : Outcome) → same_outcome a b ≡ eq_by_cmp compared a b
ties = search (comparing, rules)

abbrev keys : List Bar → List Outcome
keys bars = map (λ b. b.0) bars

-- of two answers of which neither is less, both are equal
neither : (r q : Ordering) → r ≡ ordering_reverse q → is_lt r ≡ false → is_lt q ≡ false → r ≡ Equal
neither Less q back first second = absurd (let clash : true ≡ false = first in cc)
neither Equal q back first second = refl
neither Greater Less back first second = absurd (let clash : true ≡ false = second in cc)
neither Greater Equal back first second = absurd (let clash : Greater ≡ Equal = back in cc)
neither Greater Greater back first second = absurd (let clash : Greater ≡ Less = back in cc)

-- what is equal by two orders is equal by the second
by_second : (r q : Ordering) → ordering_then r q ≡ Equal → q ≡ Equal
by_second Less q is = absurd (let clash : Less ≡ Equal = is in cc)
by_second Equal q is = is
by_second Greater q is = absurd (let clash : Greater ≡ Equal = is in cc)

-- bars of which none comes before the other are of one outcome
tied : (a b : Bar) → is_lt (ranked a b) ≡ false → is_lt (ranked b a) ≡ false → same_outcome a.0 b.0 ≡ true
tied a b first second =
    let equal : ranked a b ≡ Equal = neither (ranked a b) (ranked b a) (ranks.antisymm a b) first second in
    ties a.0 b.0 ∙ ap is_eq (by_second (nat_cmp b.1.count a.1.count) (compared a.0 b.0) equal)

-- a list has its first bar, and those of the rest
has_first : (b : Bar) (bs : List Bar) → Contains (b ∷ bs) b
has_first b bs = (0, omega arith, refl)

has_rest : (b x : Bar) (bs : List Bar) → Contains bs x → Contains (b ∷ bs) x
has_rest b x bs (i, inside, at) = (suc i, omega (arith, inside), at)

-- the first bar of a ranked list comes after none
none_before : (b x : Bar) (bs : List Bar) → IsSorted ranked (b ∷ bs) → Contains (b ∷ bs) x
    → is_lt (ranked x b) ≡ false
none_before b x bs sorted (i, inside, at) =
    subst (λ (z : Bar). is_lt (ranked z b) ≡ false) at
    (sorted_far (λ y z. is_lt (ranked y z)) (ranks_by ranks (λ (z : Bar). z)) (b ∷ bs) sorted 0 i x (omega arith) inside)

-- a bar with the outcome of the first is the first
is_first : (b x : Bar) (bs : List Bar) → IsDistinct same_outcome (keys (b ∷ bs)) → Contains (b ∷ bs) x
    → same_outcome b.0 x.0 ≡ true → x ≡ b
is_first b x bs once (zero, inside, at) same = sym at
is_first b x bs once (suc i, inside, at) same =
    let apart : same_outcome b.0 (get_or (keys bs) i b.0) ≡ false =
    apart_from_distinct same_outcome (keys (b ∷ bs)) 0 (suc i) b.0 once (omega arith)
    (omega (arith, inside, length-map (b ∷ bs) (λ (z : Bar). z.0))) in
    let key : get_or (keys bs) i b.0 ≡ x.0 =
    get_or-map (λ (z : Bar). z.0) bs i x b.0 (omega (arith, inside)) ∙ ap (λ (z : Bar). z.0) at in
    absurd (let clash : false ≡ true = sym apart ∙ (ap (same_outcome b.0) key ∙ same) in cc)

-- what is in a list and is not its first bar is in the rest
in_rest : (b x : Bar) (bs : List Bar) → Contains (b ∷ bs) x → (x ≡ b → ⊥) → Contains bs x
in_rest b x bs (zero, inside, at) other = absurd (other (sym at))
in_rest b x bs (suc i, inside, at) other = (i, omega (arith, inside), at)

-- the first bar is not in the rest
not_in_rest : (b : Bar) (bs : List Bar) → IsDistinct same_outcome (keys (b ∷ bs)) → Contains bs b → ⊥
not_in_rest b bs once (i, inside, at) =
    let apart : same_outcome b.0 (get_or (keys bs) i b.0) ≡ false =
    apart_from_distinct same_outcome (keys (b ∷ bs)) 0 (suc i) b.0 once (omega arith)
    (omega (arith, inside, length-map bs (λ (z : Bar). z.0))) in
    let key : get_or (keys bs) i b.0 ≡ b.0 =
    get_or-map (λ (z : Bar). z.0) bs i b b.0 inside ∙ ap (λ (z : Bar). z.0) at in
    let clash : false ≡ true = sym apart ∙ (ap (same_outcome b.0) key ∙ same_itself b.0) in absurd cc

-- a ranked list without its first bar is ranked
rest_sorted : (b : Bar) (bs : List Bar) → IsSorted ranked (b ∷ bs) → IsSorted ranked bs
rest_sorted b bs sorted k d low high =
    let next : suc k + 1 ≡ suc (k + 1) = omega arith in
    subst (λ (n : ℕ). is_lt (ranked (get_or (b ∷ bs) n d) (get_or bs k d)) ≡ false) next
    (sorted (suc k) d (omega arith) (omega (arith, high)))

-- ranked lists with the same bars, each once, are one
one_order : (xs ys : List Bar) → IsSorted ranked xs → IsSorted ranked ys → IsDistinct same_outcome (keys xs)
    → IsDistinct same_outcome (keys ys) → ((b : Bar) → Contains xs b → Contains ys b)
    → ((b : Bar) → Contains ys b → Contains xs b) → xs ≡ ys
one_order [] [] up_x up_y once_x once_y to from = refl
one_order [] (y ∷ ys) up_x up_y once_x once_y to from =
    absurd (omega (arith, (from y (has_first y ys)).1))
one_order (x ∷ xs) [] up_x up_y once_x once_y to from =
    absurd (omega (arith, (to x (has_first x xs)).1))
one_order (x ∷ xs) (y ∷ ys) up_x up_y once_x once_y to from =
    let there : Contains (y ∷ ys) x = to x (has_first x xs) in
    let back : Contains (x ∷ xs) y = from y (has_first y ys) in
    let same : same_outcome y.0 x.0 ≡ true =
    tied y x (none_before x y xs up_x back) (none_before y x ys up_y there) in
    let first : x ≡ y = is_first y x ys once_y there same in
    let rest : xs ≡ ys =
    one_order xs ys (rest_sorted x xs up_x) (rest_sorted y ys up_y) (IsDistinct-tail same_outcome x.0 (keys xs) once_x)
    (IsDistinct-tail same_outcome y.0 (keys ys) once_y)
    (λ b at. in_rest y b ys (to b (has_rest x b xs at))
    (λ is. not_in_rest x xs once_x (subst (Contains xs) (is ∙ sym first) at)))
    (λ b at. in_rest x b xs (from b (has_rest y b ys at))
    (λ is. not_in_rest y ys once_y (subst (Contains ys) (is ∙ first) at))) in
    λ i. first i ∷ rest i

-- what one histogram has, another of the same runs has
same_bars : (runs : List (Option Seen)) (h k : Histogram) → IsHistogram runs h → IsHistogram runs k → (b : Bar)
    → Contains h.bars b → Contains k.bars b
same_bars runs h k one two b there =
    Contains-from_lookup same_is b.0 b.1 k.bars
    (two.tallies b.0 ∙ (sym (one.tallies b.0) ∙ lookup-from_Contains equivalence b.0 b.1 h.bars one.once there))

-- a list of runs has one histogram
one_of_list : (runs : List (Option Seen)) (h k : Histogram) → IsHistogram runs h → IsHistogram runs k → IsRanked h
    → IsRanked k → h ≡ k
one_of_list runs h k one two up down =
    let bars : h.bars ≡ k.bars =
    one_order h.bars k.bars up down one.once two.once (same_bars runs h k one two) (same_bars runs k h two one) in
    let unfinished : h.unfinished ≡ k.unfinished = one.unfinished ∙ sym two.unfinished in
    λ i. record { bars = bars i; unfinished = unfinished i }

-- so have all random runs of a program
pub one_histogram : (p : Parts) (o : SeededRuns) (workers : ℕ) (h k : Histogram) → IsHistogramOf p o h
    → IsHistogramOf p (record o { workers = workers }) k → h ≡ k
one_histogram p o workers h k (runs, are, counts, up) (others, are_others, count_others, down) =
    let same : others ≡ runs = sym (one_list p o workers runs others are are_others) in
    one_of_list runs h k counts (subst (λ (l : List (Option Seen)). IsHistogram l k) same count_others) up down
