-- What moves come to, TSO allows.
use Rattle.std.proofs.Common.{◌≡◌, ◌<◌, ◌≤◌, ◌+◌, ◌-◌, inl, inr, ℕ, zero, suc, true, false, Some, None, List, []}
use Rattle.std.proofs.Common.{length, get_or, slice_get, take, drop, arith, refl, sym, ap, subst, ◌∙◌}
use Rattle.std.specs.List.{All}
use Rattle.std.proofs.lemmas.Bool.{cases_lt}
use Rattle.std.proofs.lemmas.List.{length-replicate, get_or-drop, get_or-take, get_or_past}
use Rattle.std.proofs.lemmas.Option.{slice_get-get_or}
use Rattle.program.specs.declared.op.Op.{Op}
use Rattle.program.specs.declared.op.Op.TheVariants.{Fence}
use Rattle.program.specs.Parts.{Parts, IsProgram, IsWithin, op_count}
use Rattle.program.proofs.Soundness.{cores_within}
use Rattle.recording.specs.Event.{value_read}
use Rattle.recording.specs.Recording.{IsShortRecording}
use Rattle.recording.specs.Tso.{IsTsoOrder}
use Rattle.program.specs.declared.fault.Fault.TheVariants as fault
use Rattle.machine.specs.State.{State, place_of, first_event, recorded, opening, IsComplete, IsDone}
use Rattle.program_events.specs.Operations.{is_st}
use Rattle.program_events.specs.FirstUseLaws.{counts_numbered}
use Rattle.program_events.specs.ProgramLaws.{made_addresses}
use Rattle.program_events.specs.ProgramOf.{IsProgramOf}
use Rattle.machine.specs.RecordedLaws.{event_is, count_is}
use Rattle.machine.proofs.Complete.{every_run_is_tso}
use Rattle.machine.proofs.Data.{IsData, run_data}
use Rattle.machine.proofs.MadeLemmas.{recorded_is_of}
use Rattle.machine.proofs.Recorded.{complete_recording}
use Rattle.machine.proofs.Static.{first_within}
use Rattle.replay.proofs.Kept.{run_keeps}
use Rattle.outcomes.specs.Outcome.{Outcome, IsAllowed, IsOutcomeOf}
use Rattle.outcomes.specs.Situation.{stores_first, ops_of, beginning, IsOver, IsEnd}
use Rattle.situations.specs.Situation.{Situation, waiting}
use Rattle.situations.specs.Waiting.{between}
use Rattle.situations.specs.Situation as row
use Rattle.outcomes.specs.Reachable.{ComesTo, outcome_in}
use Rattle.outcomes.specs.Follow.{entries, Follows}
use Rattle.outcomes.proofs.Stores.{none_oldest, none_stands, store_stands}
use Rattle.outcomes.proofs.Ends.{opening_followed, final_current}
use Rattle.outcomes.specs.Witness.{IsRecordingOf}
use Rattle.outcomes.proofs.Machine.{IsRun, IsSeen, in_order, all_seen}

-- what stands between two places
at_between : (ops : List Op) (low k l : ℕ) → low ≤ k → k < l
    → get_or (between ops low l) (k - low) Fence ≡ get_or ops k Fence
at_between ops low k l le lt =
    let same : low + (k - low) ≡ k = omega arith in
    get_or-drop low (take l ops) (k - low) Fence
    ∙ (ap (λ (i : ℕ). get_or (take l ops) i Fence) same ∙ get_or-take l ops k Fence lt)

-- no operation is left at a place past the end
none_left : (ops : List Op) (k : ℕ) → slice_get ops k ≡ None → length ops ≤ k
none_left ops k h = elim (cases_lt k (length ops)) [
  | inr past ↦ past
  | inl there ↦ absurd (let clash : Some (get_or ops k Fence) ≡ None =
      sym (slice_get-get_or ops k Fence there) ∙ h in cc)
]

-- where a situation is at its end, so is the state that it follows
over : (cs : List (List Op)) (n : ℕ) (s : State) (r : Situation) → Follows cs n s r → (c : ℕ) → IsOver cs r c
    → IsDone cs s c
over cs n s r f c h = go (stores_first (drop (place_of s c) (ops_of cs c))) refl
  where
    low : row.drained_of r c ≤ place_of s c
    low = (f.cores c).drained

    go : (j : ℕ) → stores_first (drop (place_of s c) (ops_of cs c)) ≡ j → IsDone cs s c
    go (suc j) first =
        let stands = store_stands (ops_of cs c) (place_of s c) j first in
        let later : place_of s c < row.place_of r c = omega (arith, (f.cores c).place, first) in
        let clash : true ≡ false = sym stands.1
        ∙ (sym (ap is_st (at_between (ops_of cs c) (row.drained_of r c) (place_of s c) (row.place_of r c)
        (f.cores c).drained later))
        ∙ none_stands (waiting cs r c) (row.drained_of r c) (place_of s c - row.drained_of r c) h.1) in
        absurd cc
    go zero first =
        let same : row.place_of r c ≡ place_of s c = omega (arith, (f.cores c).place, first) in (
          omega (arith, same, none_left (ops_of cs c) (row.place_of r c) h.0, (f.cores c).within),
          (f.cores c).buffer
              ∙ (ap (λ (k : ℕ). entries (first_event cs c + row.drained_of r c)
              (between (ops_of cs c) (row.drained_of r c) k)) (sym same)
              ∙ none_oldest (waiting cs r c) (row.drained_of r c) (first_event cs c + row.drained_of r c) h.1),
        )

-- a core has no more operations than there are
pub core_few : (cs : List (List Op)) (c : ℕ) → length (get_or cs c []) ≤ op_count cs
core_few cs c = elim (cases_lt c (length cs)) [
  | inl core ↦ omega (arith, first_within cs c core)
  | inr past ↦ omega (arith, ap (λ (l : List Op). length l) (get_or_past cs c [] past))
]

module _ (p : Parts) (lawful : IsProgram p) where
  -- its operations have addresses
  pub fits : All (λ ops. All (IsWithin (length p.init)) ops) p.cores
  fits = subst (λ (k : ℕ). All (λ ops. All (IsWithin k) ops) p.cores) (sym lawful.init_length)
      (cores_within p.cores 0 (length p.names) (length p.names) lawful.numbered (omega arith))

  -- a machine that has come to the end
  module _ (capacity : ℕ) (room : (c : ℕ) → length (get_or p.cores c []) ≤ capacity) (s : State)
      (is_run : IsRun p.cores p.init capacity fits room s) (r : Situation)
      (f : Follows p.cores (length p.init) s r) (ends : IsEnd p.cores r) where
    -- is complete
    pub complete_there : IsComplete p.cores s
    complete_there c = over p.cores (length p.init) s r f c (ends c)

    -- with the initial values of the program
    initial_there : s.initial ≡ p.init
    initial_there = ap (λ (z : State). z.initial) (sym is_run.leads)
        ∙ (run_keeps p.cores capacity fault.None (opening p.cores p.init) is_run.steps).0

    -- and a write list for each
    lists_there : length s.write_lists ≡ length p.init
    lists_there = ap (λ (z : State). length z.write_lists) (sym is_run.leads)
        ∙ ((run_keeps p.cores capacity fault.None (opening p.cores p.init) is_run.steps).1
        ∙ length-replicate (length p.init) [])

    -- what was given to each event is known
    data_there : IsData p.cores s
    data_there = subst (IsData p.cores) is_run.leads (run_data p.cores p.init capacity fault.None is_run.steps fits)

    -- it makes a recording of the program
    pub well_recorded : IsShortRecording (recorded p.cores s)
    well_recorded = complete_recording p s lawful.few_cores lawful.few_ops
        (omega (arith, lists_there, lawful.init_length, lawful.few_names))
        (ap (λ (l : List ℕ). length l) initial_there ∙ sym lists_there) data_there complete_there

    -- which comes to the outcome
    outcome_there : IsOutcomeOf (recorded p.cores s) (outcome_in r)
    outcome_there = record {
      events = f.reads_size ∙ sym (count_is p.cores s);
      reads = λ e. f.reads e ∙ sym (ap value_read (event_is p.cores s e));
      addresses = f.memory_size ∙ sym (ap (λ (l : List ℕ). length l) initial_there);
      memory = λ a inside.
          let within : a < length p.init = omega (arith, inside, ap (λ (l : List ℕ). length l) initial_there) in
          f.memory a within ∙ final_current p.cores s (in_order p.cores p.init capacity fits room s is_run) data_there a
          (omega (arith, within, f.blocks));
    }

    -- and has a TSO order
    pub recorded_there : IsRecordingOf p (outcome_in r) (recorded p.cores s)
    recorded_there =
        let is : IsProgramOf p (recorded p.cores s) = recorded_is_of p s (sym initial_there) in
        let names : length p.names ≡ length s.write_lists = sym lawful.init_length ∙ sym lists_there in
        record {
          program = is;
          outcome = outcome_there;
          order = s.performed;
          tso = subst (λ (z : State). IsComplete p.cores z → IsTsoOrder (recorded p.cores z) z.performed) is_run.leads
              (every_run_is_tso p.cores p.init capacity is_run.steps fits) complete_there;
          numbered = counts_numbered (recorded p.cores s) p.cores (made_addresses p (recorded p.cores s) is)
              (lawful.numbered ∙ ap (λ (k : ℕ). Some k) names);
        }

  -- what moves come to is allowed
  pub reached_allowed : (o : Outcome) → ComesTo p o → IsAllowed p o
  reached_allowed o comes =
      let capacity : ℕ = op_count p.cores in
      let origin : IsSeen p.cores p.init capacity fits (core_few p.cores) (beginning p) = record {
        state = opening p.cores p.init;
        is_run = record { steps = []; leads = refl };
        follows = opening_followed p p.cores p.init refl refl refl;
      } in
      let seen = all_seen p.cores p.init capacity fits (core_few p.cores) (beginning p) comes.0 origin comes.1 in
      let made = recorded_there capacity (core_few p.cores) seen.state seen.is_run comes.0 seen.follows comes.2 in
      record {
        execution = recorded p.cores seen.state;
        recording = well_recorded capacity (core_few p.cores) seen.state seen.is_run comes.0 seen.follows comes.2;
        program = made.program;
        order = made.order;
        tso = made.tso;
        outcome = subst (IsOutcomeOf (recorded p.cores seen.state)) comes.3 made.outcome;
      }
