-- Parts of a campaign are one.
use Rattle.std.proofs.Common.{◌≡◌, ◌∙◌, ◌+◌, ◌-◌, ◌<◌, ◌≤◌, ◌%◌, ◌^◌, ◌++◌, ℕ, List, ap, arith, get_or, inl, inr}
use Rattle.std.proofs.Common.{length, length-append, refl, subst, sym, zero, suc}
use Rattle.std.proofs.lemmas.Bool.{cases_lt}
use Rattle.std.proofs.lemmas.List.{get_or-append-add, get_or_append_left}
use Rattle.std.proofs.Math.Nat.{mod-add-mod}
use Rattle.rand_core.specs.Steps.{first_words}
use Rattle.rand_xoshiro.specs.SplitMix64.{splitmix_seed}
use Rattle.rand_xoshiro.specs.Xoshiro256.{plus_plus, of_seed}
use Rattle.program.specs.Campaigns.{Plan}
use Rattle.program.specs.Shards.{AllShardsHaveAllTrials, EveryShardEndsAfterItsBeginning, trials_of_first}
use Rattle.litmus.specs.Random.{after_words, program_of_words}
use Rattle.machine.specs.Configuration.{Configuration}
use Rattle.trials.specs.Codes.{AreCodes, IsCode, event_words}
use Rattle.trials.specs.Judged.{begun_machine}
use Rattle.trials.specs.Schedule.{IsRandomRun}
use Rattle.trials.specs.Parts.{AllShardsAreTheCampaign, AreShardCodes, EveryTwoPartsAreOne, part_plan}

-- the trial of a seed ends in this machine
abbrev EndsFrom : Plan → ℕ → Configuration → Type 0
EndsFrom p seed h = (rest : List ℕ) × IsRandomRun p.attempts
    (begun_machine
    (program_of_words p.shape (first_words plus_plus (event_words p) (of_seed (splitmix_seed 32 seed))))
    p.capacity p.fault)
    (after_words (event_words p) (of_seed (splitmix_seed 32 seed))) h rest

-- the code of a trial goes by its seed
code_again : (p : Plan) (base other n m k j code : ℕ) → (base + k) % 2 ^ 64 ≡ (other + j) % 2 ^ 64
    → IsCode (record p { base = base; trials = n }) k code → IsCode (record p { base = other; trials = m }) j code
code_again p base other n m k j code same is = record {
  end = is.end;
  ends = subst (λ (seed : ℕ). EndsFrom p seed is.end) same is.ends;
  verdict = is.verdict;
  judged = is.judged;
  short = is.short;
  code = is.code;
}

-- the seed of trial k of a part
part_seed : (base first k : ℕ) → ((base + first) % 2 ^ 64 + k) % 2 ^ 64 ≡ (base + (first + k)) % 2 ^ 64
part_seed base first k = mod-add-mod (base + first) (2 ^ 64) k ∙ ap (λ (s : ℕ). s % 2 ^ 64) (omega arith)

pub parts_are_one : EveryTwoPartsAreOne
parts_are_one p first n m xs ys a b = record {
  size = length-append xs ys ∙ omega (arith, a.size, b.size);
  each = λ k low. elim (cases_lt k n) [
    | inl front ↦ subst (λ (code : ℕ). IsCode (part_plan p first (n + m)) k code)
        (sym (get_or_append_left xs ys 0 k (omega (arith, front, a.size))))
        (code_again p ((p.base + first) % 2 ^ 64) ((p.base + first) % 2 ^ 64) n (n + m) k k (get_or xs k 0) refl
        (a.each k front))
    | inr after ↦ let j : ℕ = k - n in
        let at : k ≡ length xs + j = omega (arith, after, a.size) in
        let is : get_or (xs ++ ys) k 0 ≡ get_or ys j 0 =
        ap (λ (i : ℕ). get_or (xs ++ ys) i 0) at ∙ get_or-append-add xs ys j 0 in
        let here : first + n + j ≡ first + k = omega (arith, after) in
        let same : ((p.base + (first + n)) % 2 ^ 64 + j) % 2 ^ 64 ≡ ((p.base + first) % 2 ^ 64 + k) % 2 ^ 64 =
        part_seed p.base (first + n) j ∙ ap (λ (s : ℕ). (p.base + s) % 2 ^ 64) here ∙ sym (part_seed p.base first k) in
        subst (λ (code : ℕ). IsCode (part_plan p first (n + m)) k code) (sym is)
        (code_again p ((p.base + (first + n)) % 2 ^ 64) ((p.base + first) % 2 ^ 64) m (n + m) j k (get_or ys j 0) same
        (b.each j (omega (arith, low, after))))
  ];
}

-- a part from the first trial on, of all trials, is the campaign
whole : (p : Plan) (codes : List ℕ) → AreCodes (part_plan p 0 p.trials) codes → AreCodes p codes
whole p codes a = record {
  size = a.size;
  each = λ k low. code_again p ((p.base + 0) % 2 ^ 64) p.base p.trials p.trials k k (get_or codes k 0)
      (part_seed p.base 0 k ∙ ap (λ (s : ℕ). (p.base + s) % 2 ^ 64) (omega arith)) (a.each k low);
}

-- the codes of the first shards are those of as many trials
first_shards : EveryShardEndsAfterItsBeginning → (p : Plan) (n k : ℕ) (codes : List ℕ) → 0 < n → k ≤ n
    → AreShardCodes p n k codes → AreCodes (part_plan p 0 (trials_of_first k n p.trials)) codes
first_shards ends p n zero codes some few are =
    let none : 0 ≡ trials_of_first 0 n p.trials = omega arith in
    subst (λ (t : ℕ). AreCodes (part_plan p 0 t) codes) none record {
      size = ap length are;
      each = λ k low. absurd (omega (low, arith));
    }
first_shards ends p n (suc k) codes some few (before, last, is, front, back) =
    let up : trials_of_first k n p.trials ≤ trials_of_first (k + 1) n p.trials = ends k n p.trials some few in
    let more : ℕ = trials_of_first (k + 1) n p.trials - trials_of_first k n p.trials in
    let next : k + 1 ≡ suc k = omega arith in
    let first : trials_of_first k n p.trials ≡ 0 + trials_of_first k n p.trials = omega arith in
    let sum : trials_of_first k n p.trials + more ≡ trials_of_first (suc k) n p.trials =
    omega (arith, up) ∙ ap (λ (m : ℕ). trials_of_first m n p.trials) next in
    subst (λ (t : ℕ). AreCodes (part_plan p 0 t) codes) sum
    (subst (λ (cs : List ℕ). AreCodes (part_plan p 0 (trials_of_first k n p.trials + more)) cs) (sym is)
    (parts_are_one p 0 (trials_of_first k n p.trials) more before last
    (first_shards ends p n k before some (omega (few, arith)) front)
    (subst (λ (f : ℕ). AreCodes (part_plan p f more) last) first back)))

pub shards_are_the_campaign : EveryShardEndsAfterItsBeginning → AllShardsHaveAllTrials → AllShardsAreTheCampaign
shards_are_the_campaign ends all p n codes some are =
    whole p codes (subst (λ (t : ℕ). AreCodes (part_plan p 0 t) codes) (all n p.trials some)
    (first_shards ends p n n codes some (omega arith) are))
