-- After each line there is a draft, and what was read so far is its text.
use Rattle.std.proofs.Common.{◌≡◌, ℕ, ◌+◌, ◌-◌, ◌<◌, ◌≤◌, ◌==◌, ◌^◌, nat_lt, nat_le, List, [], ◌∷◌, ◌++◌}
use Rattle.std.proofs.Common.{length, Bool, true, false, cond, Option, Some, None, Result, Ok, Err, refl}
use Rattle.std.proofs.Common.{arith, sym, ap, ◌∙◌, subst, inl, inr}
use Rattle.std.specs.List.{list_any}
use Rattle.std.proofs.lemmas.Bool.{cases_Bool, ltb-false, leb-false, eqb-true}
use Rattle.std.proofs.lemmas.List.{length-append, append-nil, append_assoc}
use Rattle.program.specs.declared.name.Name.{Name}
use Rattle.litmus.specs.declared.line_refusal.LineRefusal.{LineRefusal}
use Rattle.litmus.specs.declared.line_refusal.LineRefusal.TheVariants.{L1, L5, L6, L7, L8}
use Rattle.litmus.specs.Lines.{Line, core_line, fence_line, load_line, write_line, compare_line, init_line, parsed_line}
use Rattle.program.specs.Names.{name_eq, name_number, name_at}
use Rattle.program.specs.Parts.{Body, IsSmall}
use Rattle.litmus.specs.Steps.{core_step, fence_step, load_step, write_step, compare_step, unless}
use Rattle.litmus.specs.Drafts.{Draft, IsDraft, body_step, filled, init_refusal, init_step, plain}
use Rattle.litmus.specs.Drafts.{drafted_program, said_step, step, with_body}
use Rattle.litmus.specs.Spelling.{body_text, init_text, line_text, spelling, value_text}
use Rattle.program.specs.NameListLaws.{all_push}
use Rattle.litmus.proofs.OneName.{is_new, is_there}
use Rattle.texts.specs.TestLaws.{same_ok, no_ok}
use Rattle.litmus.proofs.DraftLemmas.{filled_length, filled_text, init_append, zeros_small}
use Rattle.litmus.proofs.OneLine.{Reads, line_reads}
use Rattle.litmus.proofs.OneStep.{Keeps, keeps_core, keeps_fence, keeps_load, keeps_write, keeps_compare}

-- the text of what was read so far
abbrev pub draft_text : Draft → List ℕ
draft_text d = body_text d.body ++ init_text d.body.names 0 d.init

-- what holds after a line
pub record KeepsDraft (d : Draft) (line : List ℕ) (e : Draft) : Type 0 where
  pub draft : IsDraft e
  pub text : draft_text e ≡ draft_text d ++ (line ++ 10 ∷ [])

-- a line that was read
abbrev pub taken : Draft → Result Draft LineRefusal
taken d = Ok d

-- ---- lines of cores

-- no initial value
no_values : (init : List ℕ) → (length init == 0) ≡ true → init ≡ []
no_values [] e = refl
no_values (n ∷ init) e = absurd (let h = eqb-true _ _ e in omega (arith, h))

-- where no `init` line stood, what a line keeps of the names and operations is all that it keeps
keeps_plain : (b : Body) (line : List ℕ) (r : Result Body LineRefusal) (e : Draft) →
    ((q : Body) → r ≡ Ok q → Keeps b line q) → with_body (plain b) r ≡ Ok e → KeepsDraft (plain b) line e
keeps_plain b line (Err f) e keeps h = absurd cc
keeps_plain b line (Ok q) e keeps h =
    let k = keeps q refl in
    rw (← same_ok (plain q) e h) (record {
      draft = record { body = k.body; few = omega arith; values = tt };
      text = append-nil (body_text q) ∙ (k.text
          ∙ ap (λ t. t ++ (line ++ 10 ∷ [])) (sym (append-nil (body_text b))));
    })

-- the same where there is no initial value
keeps_still : (b : Body) (init line : List ℕ) (r : Result Body LineRefusal) (e : Draft) → init ≡ [] →
    ((q : Body) → r ≡ Ok q → Keeps b line q) →
    with_body (record { body = b; init = init }) r ≡ Ok e →
    KeepsDraft (record { body = b; init = init }) line e
keeps_still b init line r e none keeps =
    subst (λ (i : List ℕ). with_body (record { body = b; init = i }) r ≡ Ok e →
    KeepsDraft (record { body = b; init = i }) line e) (sym none) (keeps_plain b line r e keeps)

-- what is kept by the line of a core or an operation
keeps_body : (d e : Draft) (line : List ℕ) (r : Result Body LineRefusal) →
    ((q : Body) → r ≡ Ok q → Keeps d.body line q) → body_step d r ≡ Ok e → KeepsDraft d line e
keeps_body d e line r keeps h = by (length d.init == 0) refl
  where
    by : (b : Bool) → (length d.init == 0) ≡ b → KeepsDraft d line e
    by true none = keeps_still d.body d.init line r e (no_values d.init none) keeps
        (sym (rw none refl) ∙ h)
    by false some = absurd (no_ok L1 e (sym (rw some refl) ∙ h))

-- ---- lines of initial values

-- no fault of an initial value
record NoFault (d : Draft) (a n : ℕ) : Type 0 where
  small : n < 2 ^ 32
  named : a < length d.body.names
  above : length d.init ≤ a
  some : (n == 0) ≡ false

-- what is known where there is no fault
no_fault : (d : Draft) (a n : ℕ) → init_refusal d a n ≡ None → NoFault d a n
no_fault d a n h = by (nat_le (2 ^ 32) n) (nat_le (length d.body.names) a) (nat_lt a (length d.init))
    (n == 0) refl refl refl refl h
  where
    by : (p q r s : Bool) → nat_le (2 ^ 32) n ≡ p → nat_le (length d.body.names) a ≡ q →
        nat_lt a (length d.init) ≡ r → (n == 0) ≡ s →
        cond p (Some L5) (cond q (Some L6) (cond r (Some L7) (cond s (Some L8) None))) ≡ None →
        NoFault d a n
    by true q r s one two three four f = absurd cc
    by false true r s one two three four f = absurd cc
    by false false true s one two three four f = absurd cc
    by false false false true one two three four f = absurd cc
    by false false false false one two three four f = record {
      small = let h = leb-false _ _ one in omega (arith, h);
      named = let h = leb-false _ _ two in omega (arith, h);
      above = let h = ltb-false _ _ three in omega (arith, h);
      some = four;
    }

-- a name whose number is that of an address is its name
named_at : (names : List Name) (name : Name) → name_number names name < length names →
    name_at names (name_number names name) ≡ name
named_at names name lt = elim (cases_Bool (list_any (name_eq name) names)) [
  | inl there ↦ (is_there names name there).1
  | inr new ↦ absurd (let h = is_new names name new in omega (arith, lt, h))
]

-- what is kept by the line of an initial value
keeps_init : (d e : Draft) (line : List ℕ) (name : Name) (n : ℕ) → IsDraft d →
    (n < 2 ^ 32 → line_text (init_line name n) ≡ line) → init_step d name n ≡ Ok e →
    KeepsDraft d line e
unfolding init_step
keeps_init d e line name n h is f = by (init_refusal d a n) refl
  where
    a : ℕ
    a = name_number d.body.names name

    after : Draft
    after = record { body = d.body; init = filled a d.init ++ n ∷ [] }

    kept : NoFault d a n → KeepsDraft d line after
    kept o =
        let long : length (filled a d.init) ≡ a = filled_length a d.init o.above in
        let value : value_text d.body.names a n ≡ line ++ 10 ∷ [] =
        rw o.some (ap (λ (m : Name). line_text (init_line m n) ++ 10 ∷ [])
        (named_at d.body.names name o.named)
        ∙ ap (λ t. t ++ 10 ∷ []) (is o.small)) in
        let text : init_text d.body.names 0 (filled a d.init ++ n ∷ [])
        ≡ init_text d.body.names 0 d.init ++ (line ++ 10 ∷ []) =
        let first : 0 + a ≡ a = omega arith in
        init_append d.body.names 0 (filled a d.init) (n ∷ [])
        ∙ rw (long, first, filled_text d.body.names a d.init, append-nil (value_text d.body.names a n))
        (ap (λ t. init_text d.body.names 0 d.init ++ t) value) in
        record {
          draft = record {
            body = h.body;
            few = omega (arith, o.named, long, length-append (filled a d.init) (n ∷ []));
            values = all_push IsSmall (filled a d.init) n
                (zeros_small d.init (a - length d.init) h.values) o.small;
          };
          text = rw text (sym (append_assoc (body_text d.body) (init_text d.body.names 0 d.init)
              (line ++ 10 ∷ [])));
        }

    by : (o : Option LineRefusal) → init_refusal d a n ≡ o → KeepsDraft d line e
    by None none = rw (← same_ok after e (sym (ap (λ (o : Option LineRefusal). unless o (taken after)) none)
        ∙ f)) (kept (no_fault d a n none))
    by (Some g) some = absurd (no_ok g e (sym (ap (λ (o : Option LineRefusal). unless o (taken after)) some)
        ∙ f))

-- ---- each line

-- after a line of the grammar there is a draft
keeps_said : (d e : Draft) (line : List ℕ) (l : Line) → IsDraft d → Reads l line →
    said_step d (Some l) ≡ Ok e → KeepsDraft d line e
keeps_said d e line core_line h r f =
    keeps_body d e line (core_step d.body) (λ q is. keeps_core d.body q line h.body (r.text_is tt) is) f
keeps_said d e line fence_line h r f =
    keeps_body d e line (fence_step d.body) (λ q is. keeps_fence d.body q line h.body (r.text_is tt) is) f
keeps_said d e line (load_line name) h r f =
    keeps_body d e line (load_step d.body name)
    (λ q is. keeps_load d.body q line name h.body r.named (r.text_is tt) is) f
keeps_said d e line (write_line write name n) h r f =
    keeps_body d e line (write_step d.body write name n)
    (λ q is. keeps_write d.body q line write name n h.body r.named r.text_is is) f
keeps_said d e line (compare_line name v n) h r f =
    keeps_body d e line (compare_step d.body name v n)
    (λ q is. keeps_compare d.body q line name v n h.body r.named r.text_is is) f
keeps_said d e line (init_line name n) h r f = keeps_init d e line name n h r.text_is f

-- after a line that is read there is a draft, and its text is one line longer
pub step_keeps : (d e : Draft) (line : List ℕ) → IsDraft d → step d line ≡ Ok e → KeepsDraft d line e
step_keeps d e line h f = by (parsed_line line) refl
  where
    by : (o : Option Line) → parsed_line line ≡ o → KeepsDraft d line e
    by None is = absurd (no_ok L1 e (sym (ap (λ (o : Option Line). said_step d o) is) ∙ f))
    by (Some l) is = keeps_said d e line l h (line_reads line l is)
        (sym (ap (λ (o : Option Line). said_step d o) is) ∙ f)

-- ---- the program of a draft

-- its text is what was read
pub program_text : (d : Draft) → spelling (drafted_program d) ≡ draft_text d
program_text d =
    ap (λ t. body_text d.body ++ t) (filled_text d.body.names (length d.body.names) d.init)
