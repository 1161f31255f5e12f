-- The text of a program is read as it.
use Rattle.std.proofs.Common.{◌≡◌, ℕ, ◌+◌, ◌<◌, ◌≤◌, ◌==◌, ◌^◌, List, [], ◌∷◌, ◌++◌, length}
use Rattle.std.proofs.Common.{Bool, true, false, Some, Ok, refl, arith, ap, ◌∙◌}
use Rattle.std.specs.List.{AllByRecursion, IsDistinct}
use Rattle.std.proofs.lemmas.Bool.{eqb-true, le-ltb, lt-leb}
use Rattle.std.proofs.lemmas.List.{length-append, append-nil, append_assoc}
use Rattle.std.proofs.lemmas.List.Elements.{All-from_recursion}
use Rattle.program.specs.declared.name.Name.{Name}
use Rattle.litmus.specs.declared.line_refusal.LineRefusal.{LineRefusal}
use Rattle.litmus.specs.declared.line_refusal.LineRefusal.TheVariants.{L1}
use Rattle.program.specs.Names.{name_eq, name_of, name_text, no_name, name_at}
use Rattle.litmus.specs.Lines.{init_line}
use Rattle.program.specs.Parts.{Body, Parts, IsProgram, IsSmall, body_of, parts_of}
use Rattle.litmus.specs.Drafts.{Draft, filled, init_step, plain, step}
use Rattle.texts.specs.Reading.{Reading, read_from}
use Rattle.litmus.specs.Text.{drafting, finished, reading}
use Rattle.litmus.specs.Spelling.{spelling, init_text}
use Rattle.program.specs.NameListLaws.{name_at_place}
use Rattle.litmus.proofs.DraftLemmas.{filled_more, filled_whole}
use Rattle.litmus.proofs.CoresAgain.{AreNames, all_of_it, cores_read}
use Rattle.litmus.proofs.OneText.{said_again}

-- what was read of names, operations and initial values
abbrev with_init : Body → List ℕ → Draft
with_init b init = record { body = b; init = init }

-- an initial value is read
init_so : (b : Body) (init : List ℕ) (a n : ℕ) → IsDistinct name_eq b.names → a < length b.names →
    length init ≤ a → n < 2 ^ 32 → (n == 0) ≡ false →
    init_step (with_init b init) (name_at b.names a) n ≡ Ok (with_init b (filled a init ++ n ∷ []))
unfolding init_step
init_so b init a n distinct within above small some =
    rw (
      (name_at_place b.names a distinct within).1,
      lt-leb (2 ^ 32) n small,
      lt-leb (length b.names) a within,
      le-ltb a (length init) above,
      some,
    ) refl

-- some initial values are read, in line k and on
record InitRead (b : Body) (init : List ℕ) (a : ℕ) (back whole : List ℕ) (k : ℕ) : Type 0 where
  after : List ℕ
  text : read_from step L1 k (with_init b init) [] (init_text b.names a back) ≡ Ok (with_init b after)
  filled_is : filled (length b.names) after ≡ whole

-- the initial values of the addresses from a on are read
init_read : (b : Body) → AreNames b.names → (back front init : List ℕ) (a k : ℕ) → length front ≡ a →
    filled a init ≡ front → length init ≤ a → a + length back ≡ length b.names →
    AllByRecursion IsSmall back → InitRead b init a back (front ++ back) k
init_read b h [] front init a k long so_far le all small =
    let end : a ≡ length b.names = omega (arith, all) in
    record {
      after = init;
      text = refl;
      filled_is = rw (← end, append-nil front) so_far;
    }
init_read b h (n ∷ back) front init a k long so_far le all small =
    by (λ init' k' so le'. init_read b h back (front ++ n ∷ []) init' (a + 1) k' longer so le' left small.1)
    (n == 0) refl
  where
    longer : length (front ++ n ∷ []) ≡ a + 1
    longer = omega (arith, long, length-append front (n ∷ []))

    left : a + 1 + length back ≡ length b.names
    left = omega (arith, all)

    within : a < length b.names
    within = omega (arith, all)

    by : ((init' : List ℕ) (k' : ℕ) → filled (a + 1) init' ≡ front ++ n ∷ [] → length init' ≤ a + 1 →
        InitRead b init' (a + 1) back ((front ++ n ∷ []) ++ back) k') →
        (z : Bool) → (n == 0) ≡ z → InitRead b init a (n ∷ back) (front ++ n ∷ back) k
    by next true none =
        let zero_is : n ≡ 0 = eqb-true n 0 none in
        let r = next init k (filled_more a init le ∙ rw (so_far, zero_is) refl) (omega (arith, le)) in
        record {
          after = r.after;
          text = rw none r.text;
          filled_is = r.filled_is ∙ append_assoc front (n ∷ []) back;
        }
    by next false some =
        let taken = filled a init ++ n ∷ [] in
        let this : taken ≡ front ++ n ∷ [] = ap (λ (l : List ℕ). l ++ n ∷ []) so_far in
        let same : a + 1 ≡ length taken = omega (arith, longer, ap length this) in
        let r = next taken (k + 1) (rw same (filled_whole taken ∙ this)) (omega (arith, same)) in
        let first = said_again k (with_init b init) (with_init b taken) (init_line (name_at b.names a) n)
        (init_text b.names (a + 1) back)
        (All-from_recursion (λ (o : Name). name_of (name_text o) ≡ Some o) b.names h.lawful a no_name within)
        small.0 (init_so b init a n h.distinct within le small.0 some) in
        record {
          after = r.after;
          text = rw some (first ∙ r.text);
          filled_is = r.filled_is ∙ append_assoc front (n ∷ []) back;
        }

-- a program's text is read as it
pub again : (p : Parts) → IsProgram p → reading (spelling p) ≡ Ok p
again p h =
    let names : AreNames p.names =
    record { lawful = h.lawful; distinct = h.distinct; few = h.few_names } in
    let rest = init_text p.names 0 p.init in
    let c = cores_read p.names names p.cores [] p.names [] rest 1 (length p.names) refl h.numbered
    (omega arith) (omega (arith, h.few_cores)) (omega (arith, h.few_ops)) h.values in
    let v = init_read (body_of p) names p.init [] [] 0 c.line refl refl (omega arith)
    (omega (arith, h.init_length)) h.init_values in
    let read : drafting (spelling p) ≡ Ok (with_init (body_of p) v.after) =
    c.text
    ∙ ap (λ (ns : List Name). read_from step L1 c.line
    (plain (record { names = ns; cores = p.cores })) [] rest)
    (all_of_it p.names c.more c.back c.parts c.long)
    ∙ v.text in
    ap (λ (r : Reading Draft LineRefusal). finished r) read
    ∙ ap (λ (init : List ℕ). let r : Reading Parts LineRefusal =
    Ok (parts_of p.names p.cores init) in r) v.filled_is
