use Rattle.std.proofs.Common.{◌≡◌, ◌++◌, ◌∷◌, [], inl, inr, None, length, arith, sym, subst}
use Rattle.std.proofs.lemmas.Bool.{cases_lt}
use Rattle.std.proofs.lemmas.List.{get_or_append_left, get_or_push, length_push}
use Rattle.histograms.specs.Runs.{IsLiveRun}
use Rattle.histograms.proofs.live_runs.live_histogram.Goals as goal

pub loop-run-preserved : goal.loop-run-preserved
loop-run-preserved g c =
    let known = c.loop-run.invariant in record {
      seen = known.seen ++ c.in_ok-seen.seen ∷ [];
      count = omega (arith, length_push known.seen c.in_ok-seen.seen, known.count);
      each = λ k low. elim (cases_lt k (length known.seen)) [
        | inl before ↦ subst (IsLiveRun c.args.program.now c.args.runs.now)
            (sym (get_or_append_left known.seen (c.in_ok-seen.seen ∷ []) None k before)) (known.each k before)
        | inr past ↦
            let last : k ≡ length known.seen =
            omega (arith, past, low, length_push known.seen c.in_ok-seen.seen) in
            subst (IsLiveRun c.args.program.now c.args.runs.now)
            (sym (get_or_push known.seen c.in_ok-seen.seen None k (sym last))) c.in_ok-seen.ensures.ok
      ];
      counted = c.in_ok-add.ensures known.seen known.counted known.count;
    }
