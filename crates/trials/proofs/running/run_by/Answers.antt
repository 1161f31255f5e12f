use Rattle.std.proofs.Common.{◌≡◌, ℕ, List, [], ◌∷◌, length, true, false, inl, inr, refl, arith}
use Rattle.std.proofs.Common.{sym, ap, ◌∙◌, subst}
use borrow.Author.Count.{below_more}
use Rattle.rand_core.specs.Steps.{first_words}
use Rattle.rand_xoshiro.specs.Xoshiro256.{plus_plus}
use Rattle.program.specs.declared.name.Name.{Name}
use Rattle.program.specs.Parts.{Parts}
use Rattle.litmus.specs.Random.{after_words}
use Rattle.machine.specs.declared.step.Step.{Step}
use Rattle.machine.specs.Configuration.{Configuration, IsAtEnd}
use Rattle.trials.specs.Judged.{ran}
use Rattle.trials.specs.Schedule.{configuration_after, step_of_word}
use Rattle.trials.proofs.RandomRuns.{after_more, configuration_more}
use Rattle.trials.proofs.running.run_by.Goals as goal

pub attempts-init : goal.attempts-init
unfolding first_words
attempts-init c = record {
  leads = refl;
  words = refl;
  before = λ n less. absurd (omega (arith, less));
  within = omega arith;
  still = λ no. absurd (let clash : true ≡ false = no in cc);
}

pub attempts-preserved : goal.attempts-preserved
attempts-preserved c =
    let m = c.args.machine.now in
    let g = c.args.rng.now in
    let n = c.attempts._taken in
    let h = c.attempts.invariant in
    let cores : c.cores-cores.result ≡ length m.program.cores = c.cores-cores.ensures.count
    ∙ ap (λ (p : Parts). length p.cores) c.program.ensures in
    let addresses : c.len-addresses.result ≡ length m.program.names =
    c.len-addresses.ensures.len ∙ (ap (λ (names : List Name). length names) c.names.ensures.keys
    ∙ ap (λ (p : Parts). length p.names) c.program-2.ensures) in
    let word : c.next_word.result ≡ (plus_plus (after_words n g)).0 =
    ap (λ (x : ℕ × List ℕ). x.0) c.next_word.ensures ∙ ap (λ (r : List ℕ). (plus_plus r).0) h.words in
    let named : c.step_of_word-step.result ≡ step_of_word (length m.program.cores) (length m.program.names)
    (plus_plus (after_words n g)).0 =
    c.step_of_word-step.ensures ∙ (ap (λ (k : ℕ). step_of_word k c.len-addresses.result c.next_word.result)
    cores
    ∙ (ap (λ (k : ℕ). step_of_word (length m.program.cores) k c.next_word.result) addresses
    ∙ ap (λ (w : ℕ). step_of_word (length m.program.cores) (length m.program.names) w) word)) in
    record {
      leads = c.attempt-went_on.ensures.ran
          ∙ (ap (λ (x : Configuration). ran x (c.step_of_word-step.result ∷ [])) h.leads
          ∙ (ap (λ (s : Step). ran (configuration_after m g n) (s ∷ [])) named ∙ sym (configuration_more m g n)));
      words = ap (λ (x : ℕ × List ℕ). x.1) c.next_word.ensures
          ∙ (ap (λ (r : List ℕ). (plus_plus r).1) h.words ∙ sym (after_more n g));
      before = below_more (λ (k : ℕ). IsAtEnd (configuration_after m g k) → ⊥) n h.before
          (λ end. absurd (let clash : true ≡ false =
          sym (c.is_at_end.ensures.1 (subst IsAtEnd (sym h.leads) end)) ∙ c.if-is_at_end.false in cc));
      within = omega (arith, c.attempts-test.true);
      still = λ blocked end. absurd (let clash : true ≡ false =
          sym (c.is_at_end.ensures.1 (c.attempt-went_on.ensures.still blocked end))
          ∙ c.if-is_at_end.false in cc);
    }

pub returns-then-is_at_end : goal.returns-then-is_at_end
returns-then-is_at_end c =
    let h = c.attempts.invariant in
    record {
      taken = c.attempts._taken;
      within = h.within;
      leads = h.leads;
      words = h.words;
      ended = inl (c.is_at_end.ensures.0 c.if-is_at_end.true);
      before = h.before;
    }

pub returns : goal.returns
returns c =
    let h = c.attempts.invariant in
    record {
      taken = c.attempts._taken;
      within = h.within;
      leads = h.leads;
      words = h.words;
      ended = inr (omega (arith, h.within, c.attempts-test.false));
      before = h.before;
    }
