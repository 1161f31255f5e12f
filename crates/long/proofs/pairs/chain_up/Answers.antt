use Rattle.std.proofs.Common.{◌≡◌, ◌<◌, ◌≤◌, ◌+◌, inl, inr, ℕ, List, [], take, get_or, set, length, arith, refl, sym}
use Rattle.std.proofs.Common.{ap, subst, ◌∙◌, length-set, get_or-set_same, get_or-set_other}
use Rattle.std.proofs.lemmas.Bool.{cases_eq, cases_lt}
use Rattle.std.proofs.lemmas.List.{get_or_past, take_all}
use Rattle.recording.specs.Order.{times}
use Rattle.recording.specs.OrderLaws.{times_nil}
use Rattle.order.specs.Open.{waits}
use Rattle.order.proofs.Waits.{waits_none}
use Rattle.long.specs.Chains.{times_listed}
use Rattle.long.proofs.Chained.{AreChained, chained_none, chained_more, chained_each, first_next, second_next}
use Rattle.long.proofs.Counted.{open_all, open_same}
use Rattle.long.proofs.Listed.{first_below, listed_none, second_below}
use Rattle.long.proofs.Waited.{wait_once, wait_other}
use Rattle.long.proofs.pairs.chain_up.Goals as goal

pub loop-place-init : goal.loop-place-init
loop-place-init c =
    let n = length c.args.heads.now in
    let counts = c.args.counts.now in
    record {
      chained = chained_none c.args.list.now c.args.heads.now c.requires.none;
      size = refl;
      room = c.requires.size;
      waiting = λ f low. omega (
        arith,
        c.requires.ones f (omega (arith, low, c.requires.size)),
        waits_none (times_listed []) [] n f (λ d under some.
            absurd (omega (arith, some, ap (λ (s : List ℕ). times s f) (listed_none d), times_nil f))),
      );
      low = λ f. elim (cases_lt f (length counts)) [
        | inl low ↦ omega (arith, c.requires.ones f low)
        | inr past ↦ omega (arith, get_or_past counts f 0 (omega (arith, past)))
      ];
    }

pub bounds-heads-first : goal.bounds-heads-first
bounds-heads-first c =
    let was = c.loop-place.invariant in
    let next = first_next c.args.list.now c.loop-place.place c.loop-place.heads c.loop-place.list was.chained
    (length c.args.heads.now) c.loop-place-test.true c.requires.firsts in
    omega (arith, next, was.size)

pub bounds-heads-first-in-loop-place : goal.bounds-heads-first-in-loop-place
bounds-heads-first-in-loop-place c =
    let was = c.loop-place.invariant in
    let next = first_next c.args.list.now c.loop-place.place c.loop-place.heads c.loop-place.list was.chained
    (length c.args.heads.now) c.loop-place-test.true c.requires.firsts in
    omega (arith, next, was.size)

pub bounds-counts-second : goal.bounds-counts-second
bounds-counts-second c =
    let was = c.loop-place.invariant in
    let next = second_next c.args.list.now c.loop-place.place c.loop-place.heads c.loop-place.list was.chained
    (length c.args.counts.now) c.loop-place-test.true c.requires.seconds in
    omega (arith, next, was.room, c.requires.size)

pub bounds-counts-second-in-loop-place : goal.bounds-counts-second-in-loop-place
bounds-counts-second-in-loop-place c =
    let was = c.loop-place.invariant in
    let next = second_next c.args.list.now c.loop-place.place c.loop-place.heads c.loop-place.list was.chained
    (length c.args.counts.now) c.loop-place-test.true c.requires.seconds in
    omega (arith, next, was.room, c.requires.size)

pub loop-place-preserved : goal.loop-place-preserved
loop-place-preserved c =
    let list = c.args.list.now in
    let n = length c.args.heads.now in
    let i = c.loop-place.place in
    let now = c.loop-place.list in
    let heads = c.loop-place.heads in
    let counts = c.loop-place.counts in
    let was = c.loop-place.invariant in
    let same : get_or now i (0, 0) ≡ get_or list i (0, 0) = was.chained.others i (omega arith) in
    let first : (get_or list i (0, 0)).0 < n = first_below list i n c.loop-place-test.true c.requires.firsts in
    let second : (get_or list i (0, 0)).1 < length c.args.counts.now =
    second_below list i (length c.args.counts.now) c.loop-place-test.true c.requires.seconds in
    let a : ℕ = (get_or now i (0, 0)).1 in
    let one_is : a ≡ (get_or list i (0, 0)).1 = ap (λ (p : ℕ × ℕ). p.1) same in
    let here : a < length counts = omega (arith, one_is, second, was.room, c.requires.size) in
    let more : ℕ = get_or counts a 0 + 1 in
    record {
      chained = subst (λ (p : ℕ × ℕ). AreChained list (i + 1) (set heads p.0 (i + 1))
          (set now i (p.1, get_or heads p.0 0))) (sym same)
          (chained_more list i heads now was.chained c.loop-place-test.true (omega (arith, first, was.size)));
      size = length-set heads (get_or now i (0, 0)).0 (i + 1) ∙ was.size;
      room = length-set counts a more ∙ was.room;
      waiting = λ f low. elim (cases_eq a f) [
        | inl one ↦ subst (λ (k : ℕ). get_or (set counts a more) k 0
            ≡ waits (times_listed (take (i + 1) list)) [] (length c.args.heads.now) k + 1) one (omega (
              arith,
              get_or-set_same counts a more 0 here,
              was.waiting a (omega (arith, here, was.room)),
              subst (λ (k : ℕ). waits (times_listed (take (i + 1) list)) [] n k
                  ≡ waits (times_listed (take i list)) [] n k + 1) (sym one_is)
                  (wait_once list i n c.loop-place-test.true first),
            ))
        | inr apart ↦ omega (
          arith,
          get_or-set_other counts a f more 0 (λ it. apart (sym it)),
          was.waiting f low,
          wait_other list i n c.loop-place-test.true first f (λ it. apart (one_is ∙ it)),
        )
      ];
      low = λ f. elim (cases_eq a f) [
        | inl one ↦ subst (λ (k : ℕ). get_or (set counts a more) k 0 ≤ i + 1 + 1) one
            (omega (arith, get_or-set_same counts a more 0 here, was.low a))
        | inr apart ↦ omega (arith, get_or-set_other counts a f more 0 (λ it. apart (sym it)), was.low f)
      ];
    }

pub returns-clause-each : goal.returns-clause-each
returns-clause-each c = chained_each c.args.list.now c.loop-place.place c.loop-place.heads c.loop-place.list
    c.loop-place.invariant.chained (omega (arith, c.loop-place-test.false, c.loop-place.auto.place-end))

pub returns-clause-open : goal.returns-clause-open
returns-clause-open c =
    let list = c.args.list.now in
    let i = c.loop-place.place in
    let was = c.loop-place.invariant in
    open_same (times_listed (take i list)) (times_listed list) (length c.args.heads.now) c.loop-place.counts
    (λ d f. ap (λ (ps : List (ℕ × ℕ)). times_listed ps d f) (take_all i list (omega (arith, c.loop-place-test.false))))
    (open_all (times_listed (take i list)) (length c.args.heads.now) c.loop-place.counts was.room was.waiting)
