use Rattle.std.proofs.Common.{◌≡◌, ◌+◌, ◌++◌, ◌∷◌, [], inl, inr, Some, None, arith, refl, sym, subst, ap, ◌∙◌}
use Rattle.std.specs.Prelude.{is_none}
use Rattle.std.specs.Map.{lookup}
use Rattle.std.proofs.lemmas.Bool.{cases_Bool}
use Rattle.outcomes.specs.Listed.{same_outcome}
use Rattle.histograms.specs.Histogram.{tally_of, with_run}
use Rattle.histograms.proofs.Counts.{count_more}
use Rattle.histograms.proofs.Same.{same_back, same_is, same_itself}
use Rattle.histograms.proofs.Tallies.{tally_stays, tally_grows}
use Rattle.histograms.proofs.histogram.Histogram.add.Goals as goal

pub returns-in_ok-_before-in-Some : goal.returns-in_ok-_before-in-Some
returns-in_ok-_before-in-Some c runs is size =
    let was = rw (← c.self.view_is) at is in
    let s = c.in-Some.field-0 in
    let put = c.in_ok-_before-in-Some.ensures.updates.0 in
    let known = c.copied-known.ensures ∙ (c.get.ensures.value ∙ was.tallies s.outcome) in
    let value = c.with_run.ensures
    ∙ (ap (λ k. with_run k c.args.run s.violation) known
    ∙ ap (λ n. with_run (tally_of runs s.outcome) n s.violation) (sym size)) in
    let here = put s.outcome ∙ ((rw (same_itself s.outcome) refl)
    ∙ (ap Some value ∙ sym (tally_grows runs s s.outcome (same_itself s.outcome)))) in
    rw c.in-Some.is (record {
      tallies = λ o. elim (cases_Bool (same_outcome s.outcome o)) [
        | inl same ↦ subst (λ q. lookup (same_outcome q) c.insert.new.self.entries ≡ tally_of (runs ++ Some s ∷ []) q)
            (same_is s.outcome o same) here
        | inr other ↦ put o ∙ ((rw other (was.tallies o))
            ∙ sym (tally_stays runs (Some s) o (same_back o s.outcome ∙ other)))
      ];
      once = c.in_ok-_before-in-Some.ensures.unique;
      unfinished = omega (arith, was.unfinished, count_more is_none runs (Some s));
    })

pub returns-in-None : goal.returns-in-None
returns-in-None c runs is size =
    let was = rw (← c.self.view_is) at is in
    rw c.in-None.is (record {
      tallies = λ o. was.tallies o ∙ sym (tally_stays runs None o refl);
      once = was.once;
      unfinished = ap (λ n. n + 1) was.unfinished ∙ sym (count_more is_none runs None);
    })
