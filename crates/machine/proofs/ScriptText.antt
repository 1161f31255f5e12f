-- What holds of the steps of a script.
use Rattle.std.proofs.Common.{◌≡◌, ℕ, ◌<◌, ◌≤◌, nat_lt, List, [], ◌∷◌, ◌++◌, length, Option, Some, None}
use Rattle.std.proofs.Common.{Result, Ok, Err, refl, arith, subst, inl, inr}
use Rattle.std.specs.Prelude.{All}
use Rattle.std.specs.List.{position_or_len}
use Rattle.std.proofs.lemmas.Bool.{ltb-true}
use Rattle.std.proofs.lemmas.List.{length-append}
use Rattle.std.proofs.lemmas.List.Elements.{All-nil, All-push}
use Rattle.std.proofs.lemmas.Option.{cond_some}
use Rattle.common.specs.declared.limits.TheConstants.{MAX_STEPS}
use Rattle.program.specs.declared.name.Name.{Name}
use Rattle.program.specs.Names.{name_eq}
use Rattle.program.specs.Parts.{Parts}
use Rattle.texts.specs.TestLaws.{cases_of}
use Rattle.texts.specs.ReadingLaws.{kept}
use Rattle.machine.specs.declared.script_line.CoreStep.{CoreStep}
use Rattle.machine.specs.declared.script_line.CoreStep.TheVariants.{Exec, Drain}
use Rattle.machine.specs.declared.step.Transaction.{Transaction}
use Rattle.machine.specs.declared.step.Transaction.TheVariants.{GetS, GetM, Put}
use Rattle.machine.specs.declared.script_refusal.StepRefusal.{StepRefusal}
use Rattle.machine.specs.declared.script_refusal.StepRefusal.TheVariants.{S1, S2, S3, S4}
use Rattle.machine.specs.declared.step.Step.{Step}
use Rattle.machine.specs.ScriptLine.{ScriptLine, own_line, transaction_line, script_line_of, own_step, transaction_step}
use Rattle.machine.specs.Script.{core_in, address_in, with_step, or_refused, script_step, line_step, steps_of, IsStepOf}

-- what every line keeps
record IsScript (p : Parts) (steps : List Step) : Type 0 where
  cores : All (IsStepOf p) steps
  few : length steps ≤ MAX_STEPS

-- a line that was read
abbrev done : List Step → Result (List Step) StepRefusal
done s = Ok s

-- two lists that are one answer
same : (s t : List Step) → done s ≡ done t → s ≡ t
same s t e = cc

-- one step more
step_kept : (p : Parts) (s t : List Step) (step : Step) → IsScript p s → IsStepOf p step →
    with_step s step ≡ done t → IsScript p t
step_kept p s t step h of e =
    elim (cases_of (nat_lt (length s) MAX_STEPS) (done (s ++ step ∷ [])) (Err S4) (done t) e) [
      | inl said ↦ subst (IsScript p) (same (s ++ step ∷ []) t said.1) (record {
        cores = All-push (IsStepOf p) s step h.cores of;
        few = let room = ltb-true (length s) MAX_STEPS said.0 in
            omega (arith, room, length-append s (step ∷ []));
      })
      | inr full ↦ absurd cc
    ]

-- a core that was found is one of the program's
core_within : (p : Parts) (c d : ℕ) → core_in p c ≡ Some d → d < length p.cores
core_within p c d e = let found = cond_some (nat_lt c (length p.cores)) c d e in
    rw (← found.1) (ltb-true _ _ found.0)

-- so is an address
address_within : (p : Parts) (name : Name) (a : ℕ) → address_in p name ≡ Some a →
    a < length p.names
address_within p name a e =
    let first = position_or_len (name_eq name) p.names in
    let found = cond_some (nat_lt first (length p.names)) first a e in
    rw (← found.1) (ltb-true _ _ found.0)

-- a step of one of the program's cores
own_kept : (p : Parts) (own : CoreStep) (c : ℕ) → c < length p.cores → IsStepOf p (own_step own c)
own_kept p Exec c h = h
own_kept p Drain c h = h

-- a transaction of one of the program's cores at one of its addresses
transaction_kept : (p : Parts) (kind : Transaction) (c a : ℕ) → c < length p.cores →
    a < length p.names → IsStepOf p (transaction_step kind c a)
transaction_kept p GetS c a h k = (h, k)
transaction_kept p GetM c a h k = (h, k)
transaction_kept p Put c a h k = (h, k)

-- what went on was found
found : (refusal : StepRefusal) (o : Option ℕ) (go_on : ℕ → Result (List Step) StepRefusal) (t : List Step)
    → or_refused refusal o go_on ≡ done t → (n : ℕ) × (o ≡ Some n) × (go_on n ≡ done t)
found refusal None go_on t e = absurd cc
found refusal (Some n) go_on t e = (n, refl, e)

-- one line more
said_kept : (p : Parts) (s t : List Step) (said : Option ScriptLine) → IsScript p s →
    script_step p s said ≡ done t → IsScript p t
said_kept p s t None h e = absurd cc
said_kept p s t (Some (own_line own c)) h e =
    let core = found S2 (core_in p c) (λ d. with_step s (own_step own d)) t e in
    step_kept p s t (own_step own core.0) h (own_kept p own core.0 (core_within p c core.0 core.1)) core.2
said_kept p s t (Some (transaction_line kind c name)) h e =
    let core = found S2 (core_in p c)
    (λ d. or_refused S3 (address_in p name) (λ a. with_step s (transaction_step kind d a))) t e in
    let at = found S3 (address_in p name) (λ a. with_step s (transaction_step kind core.0 a)) t core.2 in
    step_kept p s t (transaction_step kind core.0 at.0) h
    (transaction_kept p kind core.0 at.0 (core_within p c core.0 core.1) (address_within p name at.0 at.1)) at.2

-- what holds after a script
script_kept : (p : Parts) (text : List ℕ) (t : List Step) → steps_of p text ≡ Ok t → IsScript p t
script_kept p text t e =
    kept (line_step p) S1 (IsScript p)
    (λ s u line h f. said_kept p s u (script_line_of line) h f) 1 [] t [] text (record {
      cores =
          All-nil (IsStepOf p);
      few = omega arith;
    }) e

-- the cores and addresses of a script's steps are the program's
pub script_cores : (p : Parts) (text : List ℕ) (t : List Step) → steps_of p text ≡ Ok t →
    All (IsStepOf p) t
script_cores p text t e = (script_kept p text t e).cores

-- a script has at most this many steps
pub script_few : (p : Parts) (text : List ℕ) (t : List Step) → steps_of p text ≡ Ok t →
    length t ≤ MAX_STEPS
script_few p text t e = (script_kept p text t e).few
