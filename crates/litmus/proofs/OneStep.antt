-- After each line of a core there are the names and operations of a program, and the line is their text.
use Rattle.std.proofs.Common.{◌≡◌, ℕ, ◌<◌, ◌==◌, ◌^◌, ◌&&◌, nat_lt, List, [], ◌∷◌, ◌++◌, length, Bool, true, false}
use Rattle.std.proofs.Common.{cond, Option, Some, None, Result, Ok, Err, refl, arith, sym, ap, ◌∙◌, codes}
use Rattle.std.specs.List.{AllByRecursion}
use Rattle.std.proofs.lemmas.Bool.{and_parts, ltb-true, ltb-false, eqb-false}
use Rattle.std.proofs.lemmas.List.{length-append, append-nil}
use Rattle.std.proofs.lemmas.Grind.{flat_map-append}
use Rattle.program.specs.declared.name.Name.{Name}
use Rattle.program.specs.declared.op.Op.{Op}
use Rattle.program.specs.declared.op.Op.TheVariants.{Ld, Fence, Cas}
use Rattle.litmus.specs.declared.write_kind.WriteKind.{WriteKind}
use Rattle.litmus.specs.declared.write_kind.WriteKind.TheVariants as writes
use Rattle.litmus.specs.declared.line_refusal.LineRefusal.{LineRefusal}
use Rattle.litmus.specs.declared.line_refusal.LineRefusal.TheVariants.{L1, L2, L3, L4, L5}
use Rattle.common.specs.declared.limits.TheConstants.{MAX_CORES, MAX_EVENTS, MAX_ADDRESSES}
use Rattle.program.specs.Names.{name_of, name_text, names_with, name_number, name_at}
use Rattle.litmus.specs.Lines.{load_line, write_line, compare_line}
use Rattle.program.specs.Parts.{Small, Body, IsBody, op_count, addr_of, use_addr}
use Rattle.litmus.specs.Steps.{with_op, write_op, op_refusal, unless, core_step}
use Rattle.litmus.specs.Steps.{at_name, fence_step, load_step, write_step, compare_step}
use Rattle.litmus.specs.Spelling.{body_text, core_text, op_text, line_text}
use Rattle.program.specs.NameListLaws.{all_push}
use Rattle.litmus.proofs.OneName.{one_name}
use Rattle.texts.specs.TestLaws.{same_ok}
use Rattle.litmus.proofs.OneMore.{Grown, grown, count-append, use_cores-push}

-- a line that was read
abbrev pub done : Body → Result Body LineRefusal
done p = Ok p

-- a test that was passed
test_ok : (b : Bool) (p : Body) (f : LineRefusal) (q : Body) → cond b (done p) (Err f) ≡ done q →
    (b ≡ true) × (p ≡ q)
test_ok true p f q e = (refl, same_ok p q e)
test_ok false p f q e = absurd cc

-- a fault that was not met
guard_ok : (b : Bool) (r : Result Body LineRefusal) (f : LineRefusal) (q : Body) → cond b (Err f) r
    ≡ done q → (b ≡ false) × (r ≡ done q)
guard_ok true r f q e = absurd cc
guard_ok false r f q e = (refl, e)

-- no fault came first
unless_ok : (o : Option LineRefusal) (r : Result Body LineRefusal) (q : Body) → unless o r ≡ done q →
    (o ≡ None) × (r ≡ done q)
unless_ok None r q e = (refl, e)
unless_ok (Some f) r q e = absurd cc

-- both tests for an operation were passed
room_in : (a b : Bool) (f g : LineRefusal) → cond a (Some f) (cond b None (Some g)) ≡ None →
    (a ≡ false) × (b ≡ true)
room_in true b f g e = absurd cc
room_in false true f g e = (refl, refl)
room_in false false f g e = absurd cc

-- where an operation may come there is a core, and room
pub op_room : (p : Body) → op_refusal p ≡ None → (0 < length p.cores) ×
    (op_count p.cores < MAX_EVENTS)
op_room p e =
    let r = room_in (length p.cores == 0) (nat_lt (op_count p.cores) MAX_EVENTS) L1 L3 e in
    let other = eqb-false (length p.cores) 0 r.0 in (omega (arith, other), ltb-true _ _ r.1)

-- what holds after a line
pub record Keeps (p : Body) (line : List ℕ) (q : Body) : Type 0 where
  pub body : IsBody q
  pub text : body_text q ≡ body_text p ++ (line ++ 10 ∷ [])

-- one operation more is one line more
keeps_op : (p : Body) (line : List ℕ) (op : Op) (more : List Name) (text : List ℕ) →
    Grown p.names p.cores op more (with_op p.cores op) → op_text more op ≡ text ++ 10 ∷ [] → text
    ≡ line →
    Keeps p line (record { names = more; cores = with_op p.cores op })
keeps_op p line op more text g this is =
    record { body = g.body; text = g.text ∙ rw this (rw is refl) }

-- after the line of a core there is a body
pub keeps_core : (p q : Body) (line : List ℕ) → IsBody p → codes "core" ≡ line → core_step p
    ≡ Ok q → Keeps p line q
unfolding core_step
keeps_core p q line h is e =
    let t = test_ok (nat_lt (length p.cores) MAX_CORES)
    (record p { cores = p.cores ++ [] ∷ [] }) L2 q e in
    let few = ltb-true _ _ t.0 in
    rw (← t.1) (record {
      body = record {
        few_cores = omega (arith, few, length-append p.cores ([] ∷ []));
        few_ops = omega (arith, h.few_ops, count-append p.cores []);
        few_names = h.few_names;
        values = all_push (AllByRecursion Small) p.cores [] h.values tt;
        lawful = h.lawful;
        distinct = h.distinct;
        numbered = use_cores-push 0 p.cores [] ∙ rw h.numbered refl;
      };
      text = flat_map-append (core_text p.names) p.cores ([] ∷ [])
          ∙ ap (λ t'. body_text p ++ (t' ++ 10 ∷ [])) is;
    })

-- after the line of a fence there is a body
pub keeps_fence : (p q : Body) (line : List ℕ) → IsBody p → codes "fence" ≡ line → fence_step p
    ≡ Ok q → Keeps p line q
unfolding fence_step
keeps_fence p q line h is e =
    let u = unless_ok (op_refusal p) (done (record p { cores = with_op p.cores Fence })) q e in
    let room = op_room p u.0 in
    let g = grown p.names p.names [] p.cores Fence h room.0 room.1 (sym (append-nil p.names)) refl
    h.few_names h.lawful h.distinct tt in
    rw (← same_ok _ _ u.1) (keeps_op p line Fence p.names (codes "fence") g refl is)

-- after the line of an operation with a name there is a body
keeps_named : (p q : Body) (line : List ℕ) (name : Name) (op : Op) (spell : Name → List ℕ)
    (r : Result Body LineRefusal) → IsBody p → name_of (name_text name) ≡ Some name →
    addr_of op ≡ Some (name_number p.names name) →
    ((names : List Name) → op_text names op ≡ spell (name_at names (name_number p.names name)) ++ 10 ∷ []) →
    (r ≡ done q → (record { names = names_with p.names name; cores = with_op p.cores op } ≡ q) × Small op ×
    (spell name ≡ line)) → at_name p name r ≡ done q → Keeps p line q
keeps_named p q line name op spell r h named address texts reads e =
    let more = names_with p.names name in
    let u = unless_ok (op_refusal p) (cond (nat_lt MAX_ADDRESSES (length more)) (Err L4) r) q e in
    let room = op_room p u.0 in
    let few = guard_ok (nat_lt MAX_ADDRESSES (length more)) r L4 q u.1 in
    let is = reads few.1 in
    let m = one_name p.names name h.lawful h.distinct named in
    let used : use_addr (length p.names) (addr_of op) ≡ Some (length more) = rw address m.used in
    let g = grown p.names more m.extra p.cores op h room.0 room.1 m.kept used (ltb-false _ _ few.0)
    m.lawful m.distinct is.1 in
    let this : op_text more op ≡ spell name ++ 10 ∷ [] =
    texts more ∙ ap (λ (n : Name). spell n ++ 10 ∷ []) m.there in
    rw (← is.0) (keeps_op p line op more (spell name) g this is.2)

-- what is read where an operation with a name comes
abbrev with_named : Body → Name → Op → Body
with_named p name op = record { names = names_with p.names name; cores = with_op p.cores op }

-- after the line of a load there is a body
pub keeps_load : (p q : Body) (line : List ℕ) (name : Name) → IsBody p → name_of (name_text name)
    ≡ Some name → line_text (load_line name) ≡ line → load_step p name ≡ Ok q → Keeps p line q
unfolding load_step
keeps_load p q line name h named is e =
    let op = Ld (name_number p.names name) in
    keeps_named p q line name op (λ m. line_text (load_line m)) (done (with_named p name op)) h named refl
    (λ names. refl) (λ ok. (same_ok (with_named p name op) q ok, tt, is)) e

-- the address, the text and the value of a write
written : (write : WriteKind) (a n : ℕ) → (addr_of (write_op write a n) ≡ Some a) × ((names : List Name) →
    op_text names (write_op write a n) ≡ line_text (write_line write (name_at names a) n) ++ 10 ∷ []) ×
    (n < 2 ^ 32 → Small (write_op write a n))
written writes.Store a n = (refl, λ names. refl, λ h. h)
written writes.Swap a n = (refl, λ names. refl, λ h. h)
written writes.Add a n = (refl, λ names. refl, λ h. h)

-- after the line of a write there is a body
pub keeps_write : (p q : Body) (line : List ℕ) (write : WriteKind) (name : Name) (n : ℕ) → IsBody p →
    name_of (name_text name) ≡ Some name →
    (n < 2 ^ 32 → line_text (write_line write name n) ≡ line) →
    write_step p write name n ≡ Ok q → Keeps p line q
unfolding write_step
keeps_write p q line write name n h named is e =
    let op = write_op write (name_number p.names name) n in
    let after = with_named p name op in
    let w = written write (name_number p.names name) n in
    keeps_named p q line name op (λ m. line_text (write_line write m n))
    (cond (nat_lt n (2 ^ 32)) (done after) (Err L5)) h named w.0 w.1 (λ ok.
    let fits = test_ok (nat_lt n (2 ^ 32)) after L5 q ok in
    let small : n < 2 ^ 32 = ltb-true _ _ fits.0 in
    (fits.1, w.2 small, is small)) e

-- after the line of a compare-and-swap there is a body
pub keeps_compare : (p q : Body) (line : List ℕ) (name : Name) (v n : ℕ) → IsBody p →
    name_of (name_text name) ≡ Some name →
    ((v < 2 ^ 32) × (n < 2 ^ 32) → line_text (compare_line name v n) ≡ line) →
    compare_step p name v n ≡ Ok q → Keeps p line q
unfolding compare_step
keeps_compare p q line name v n h named is e =
    let op = Cas (name_number p.names name) v n in
    let after = with_named p name op in
    let fit = nat_lt v (2 ^ 32) && nat_lt n (2 ^ 32) in
    keeps_named p q line name op (λ m. line_text (compare_line m v n)) (cond fit (done after) (Err L5)) h named
    refl (λ names. refl) (λ ok.
    let fits = test_ok fit after L5 q ok in
    let both = and_parts (nat_lt v (2 ^ 32)) (nat_lt n (2 ^ 32)) fits.0 in
    let small : (v < 2 ^ 32) × (n < 2 ^ 32) = (ltb-true _ _ both.0, ltb-true _ _ both.1) in
    (fits.1, small, is small)) e
