-- The text of the cores of a program is read as they.
use Rattle.std.proofs.Common.{◌≡◌, ℕ, ◌+◌, ◌<◌, ◌≤◌, ◌==◌, ◌^◌, nat_lt, List, [], ◌∷◌, ◌++◌, length, false, Some, None}
use Rattle.std.proofs.Common.{Result, Ok, refl, arith, sym, ap, ◌∙◌, subst, codes}
use Rattle.std.specs.List.{AllByRecursion, IsDistinct, flat_map}
use Rattle.std.proofs.lemmas.Bool.{lt-ltb, le-ltb}
use Rattle.std.proofs.lemmas.Option.{same_Some}
use Rattle.std.proofs.lemmas.List.{length-append, append-nil, append_assoc}
use Rattle.std.proofs.lemmas.List.Elements.{All-from_recursion}
use Rattle.std.proofs.lemmas.List.Sums.{sum_by-cons}
use Rattle.program.specs.declared.name.Name.{Name}
use Rattle.program.specs.declared.op.Op.{Op}
use Rattle.program.specs.declared.op.Op.TheVariants.{St, Ld, Fence, Swap, Add, Cas}
use Rattle.litmus.specs.declared.write_kind.WriteKind.{WriteKind}
use Rattle.litmus.specs.declared.write_kind.WriteKind.TheVariants as writes
use Rattle.litmus.specs.declared.line_refusal.LineRefusal.{LineRefusal}
use Rattle.litmus.specs.declared.line_refusal.LineRefusal.TheVariants.{L1}
use Rattle.common.specs.declared.limits.TheConstants.{MAX_CORES, MAX_EVENTS, MAX_ADDRESSES}
use Rattle.program.specs.Names.{AreLawful, name_eq, name_of, name_text, no_name, names_with, name_number, name_at}
use Rattle.litmus.specs.Lines.{Line, core_line, fence_line, load_line, write_line, compare_line}
use Rattle.program.specs.Parts.{Small, Body, op_count, addr_of, use_addr, use_ops, use_cores}
use Rattle.litmus.specs.Steps.{with_op, write_op, op_refusal, core_step, fence_step}
use Rattle.litmus.specs.Steps.{load_step, write_step, compare_step}
use Rattle.litmus.specs.Drafts.{Draft, plain, said_step, step}
use Rattle.texts.specs.Reading.{read_from}
use Rattle.litmus.specs.Spelling.{core_text, op_text, op_line}
use Rattle.texts.specs.TestLaws.{bind_some}
use Rattle.litmus.proofs.OneLine.{IsNamed, Fits}
use Rattle.program.proofs.CoreLemmas.{Cores, ops_grow, cores_grow, use_below}
use Rattle.litmus.proofs.OneMore.{with_op-is, count-append}
use Rattle.litmus.proofs.Cuts.{cut_at, used_so}
use Rattle.litmus.proofs.OneText.{said_again}

-- a number above 0 is not 0
is_zero_no : (n : ℕ) → 0 < n → (n == 0) ≡ false
is_zero_no n h = grind (arith, h)

-- where there is a core and room, an operation may come
fault_none : (p : Body) → 0 < length p.cores → op_count p.cores < MAX_EVENTS → op_refusal p ≡ None
fault_none p some room =
    rw (is_zero_no (length p.cores) some, lt-ltb (op_count p.cores) MAX_EVENTS room) refl

-- what lines do to names and operations without an `init` line
abbrev Does : Body → Line → Body → Type 0
Does p l q = said_step (plain p) (Some l) ≡ Ok (plain q)

-- what a new core does
core_so : (p : Body) → length p.cores < MAX_CORES → Does p core_line (record p { cores = p.cores ++ [] ∷ [] })
unfolding core_step
core_so p few = rw (lt-ltb (length p.cores) MAX_CORES few) refl

-- what a fence does
fence_so : (p : Body) → op_refusal p ≡ None → Does p fence_line (record p { cores = with_op p.cores Fence })
unfolding fence_step
fence_so p none = rw none refl

-- where an operation may come, the address of its name is this, and these are the names with it
record Takes (p : Body) (name : Name) (more : List Name) (a : ℕ) : Type 0 where
  none : op_refusal p ≡ None
  next : names_with p.names name ≡ more
  number : name_number p.names name ≡ a
  few : nat_lt MAX_ADDRESSES (length more) ≡ false

-- what a load does
load_so : (p : Body) (name : Name) (more : List Name) (a : ℕ) → Takes p name more a
    → Does p (load_line name) (record { names = more; cores = with_op p.cores (Ld a) })
unfolding load_step
load_so p name more a t = rw (t.none, t.next, t.number, t.few) refl

-- what a write does
write_so : (p : Body) (write : WriteKind) (name : Name) (n : ℕ) (more : List Name) (a : ℕ) → n < 2 ^ 32
    → Takes p name more a
    → Does p (write_line write name n) (record { names = more; cores = with_op p.cores (write_op write a n) })
unfolding write_step
write_so p write name n more a small t = rw (t.none, t.next, t.number, t.few, lt-ltb n (2 ^ 32) small) refl

-- what a compare-and-swap does
compare_so : (p : Body) (name : Name) (v n : ℕ) (more : List Name) (a : ℕ) → v < 2 ^ 32 → n < 2 ^ 32
    → Takes p name more a
    → Does p (compare_line name v n) (record { names = more; cores = with_op p.cores (Cas a v n) })
unfolding compare_step
compare_so p name v n more a first second t =
    rw (t.none, t.next, t.number, t.few, lt-ltb v (2 ^ 32) first, lt-ltb n (2 ^ 32) second) refl

-- an operation is read
record Next (all : List Name) (p : Body) (op : Op) (n : ℕ) : Type 0 where
  more : List Name
  back : List Name
  parts : all ≡ more ++ back
  long : length more ≡ n
  named : IsNamed (op_line all op)
  fits : Fits (op_line all op)
  step_is : Does p (op_line all op) (record { names = more; cores = with_op p.cores op })

-- the names of a program that is read
pub record AreNames (all : List Name) : Type 0 where
  pub lawful : AreLawful all
  pub distinct : IsDistinct name_eq all
  pub few : length all ≤ MAX_ADDRESSES

-- an operation with a name is read
named_next : (all : List Name) (p : Body) (back : List Name) (a n : ℕ) (op : Op) → AreNames all → all
    ≡ p.names ++ back → op_refusal p ≡ None → use_addr (length p.names) (Some a) ≡ Some n →
    n ≤ length all → (name_of (name_text (name_at all a)) ≡ Some (name_at all a) → IsNamed (op_line all op)) →
    Fits (op_line all op) → ((more : List Name) → Takes p (name_at all a) more a →
    Does p (op_line all op) (record { names = more; cores = with_op p.cores op })) → Next all p op n
named_next all p back a n op h parts none used le named fits does =
    let c = cut_at all p.names back a n parts h.distinct (used_so (length p.names) a n used) le in
    let within : a < length all = omega (arith, le, (use_below (length p.names) a n used).0) in
    let few : nat_lt MAX_ADDRESSES (length c.more) ≡ false =
    le-ltb _ _ (omega (arith, h.few, ap length c.parts, length-append c.more c.back)) in
    record {
      more = c.more;
      back = c.back;
      parts = c.parts;
      long = c.long;
      named = named (All-from_recursion (λ (m : Name). name_of (name_text m) ≡ Some m) all h.lawful a no_name within);
      fits = fits;
      step_is = does c.more (record { none = none; next = c.next; number = c.number; few = few });
    }

-- an operation is read
op_next : (all : List Name) (p : Body) (back : List Name) (op : Op) (n : ℕ) → AreNames all → all
    ≡ p.names ++ back → op_refusal p ≡ None → use_addr (length p.names) (addr_of op) ≡ Some n →
    n ≤ length all → Small op → Next all p op n
op_next all p back Fence n h parts none used le small =
    record {
      more = p.names;
      back = back;
      parts = parts;
      long = same_Some (length p.names) n used;
      named = tt;
      fits = tt;
      step_is = fence_so p none;
    }
op_next all p back (Ld a) n h parts none used le small =
    named_next all p back a n (Ld a) h parts none used le (λ m. m) tt
    (λ more. load_so p (name_at all a) more a)
op_next all p back (St a v) n h parts none used le small =
    named_next all p back a n (St a v) h parts none used le (λ m. m) small
    (λ more. write_so p writes.Store (name_at all a) v more a small)
op_next all p back (Swap a v) n h parts none used le small =
    named_next all p back a n (Swap a v) h parts none used le (λ m. m) small
    (λ more. write_so p writes.Swap (name_at all a) v more a small)
op_next all p back (Add a v) n h parts none used le small =
    named_next all p back a n (Add a v) h parts none used le (λ m. m) small
    (λ more. write_so p writes.Add (name_at all a) v more a small)
op_next all p back (Cas a v m) n h parts none used le small =
    named_next all p back a n (Cas a v m) h parts none used le (λ o. o) small
    (λ more. compare_so p (name_at all a) v m more a small.0 small.1)

-- some operations are read, in line k and on
record OpsRead (all names : List Name) (cores : Cores) (ops : List Op) (after : Cores) (n k : ℕ)
    (rest : List ℕ) : Type 0 where
  more : List Name
  back : List Name
  line : ℕ
  parts : all ≡ more ++ back
  long : length more ≡ n
  text : read_from step L1 k (plain (record {
    names = names;
    cores = cores;
  })) [] (flat_map (op_text all) ops ++ rest)
      ≡ read_from step L1 line (plain (record { names = more; cores = after })) [] rest

-- the operations of a core are read
ops_read : (all : List Name) → AreNames all → (ops : List Op) (names back : List Name)
    (front : Cores) (before : List Op) (rest : List ℕ) (k n : ℕ) → all ≡ names ++ back →
    use_ops (length names) ops ≡ Some n → n ≤ length all →
    op_count front + length before + length ops ≤ MAX_EVENTS → AllByRecursion Small ops →
    OpsRead all names (front ++ before ∷ []) ops (front ++ (before ++ ops) ∷ []) n k rest
ops_read all h [] names back front before rest k n parts used le room small =
    rw (append-nil before)
    (record {
      more = names;
      back = back;
      line = k;
      parts = parts;
      long = same_Some (length names) n used;
      text = refl;
    })
ops_read all h (op ∷ ops) names back front before rest k n parts used le room small =
    let p : Body = record { names = names; cores = front ++ before ∷ [] } in
    let b = bind_some (use_addr (length names) (addr_of op)) (λ m. use_ops m ops) n used in
    let grows = ops_grow b.0 ops n b.2 in
    let none = fault_none p (omega (arith, length-append front (before ∷ [])))
    (omega (arith, room, count-append front before)) in
    let x = op_next all p back op b.0 h parts none b.1 (omega (arith, grows, le)) small.0 in
    let q : Body = record { names = x.more; cores = front ++ (before ++ op ∷ []) ∷ [] } in
    let step_is : said_step (plain p) (Some (op_line all op)) ≡ Ok (plain q) = x.step_is
    ∙ ap (λ (cs : Cores). let r : Result Draft LineRefusal =
    Ok (plain (record { names = x.more; cores = cs })) in r) (with_op-is front before op) in
    let later = ops_read all h ops x.more x.back front (before ++ op ∷ []) rest (k + 1) n x.parts
    (rw x.long b.2) le (omega (arith, room, length-append before (op ∷ []))) small.1 in
    let first = said_again k (plain p) (plain q) (op_line all op)
    (flat_map (op_text all) ops ++ rest) x.named x.fits step_is in
    let whole : OpsRead all names (front ++ before ∷ []) (op ∷ ops)
    (front ++ ((before ++ op ∷ []) ++ ops) ∷ []) n k rest = record {
      more = later.more;
      back = later.back;
      line = later.line;
      parts = later.parts;
      long = later.long;
      text = ap (λ t. read_from step L1 k (plain p) [] t)
          (append_assoc (op_text all op) (flat_map (op_text all) ops) rest) ∙ first ∙ later.text;
    } in
    subst (λ (os : List Op). OpsRead all names (front ++ before ∷ []) (op ∷ ops)
    (front ++ os ∷ []) n k rest) (append_assoc before (op ∷ []) ops) whole

-- some cores are read, in line k and on
pub record CoresRead (all names : List Name) (front cores : Cores) (n k : ℕ) (rest : List ℕ) : Type 0 where
  pub more : List Name
  pub back : List Name
  pub line : ℕ
  pub parts : all ≡ more ++ back
  pub long : length more ≡ n
  pub text : read_from step L1 k (plain (record {
    names = names;
    cores = front;
  })) [] (flat_map (core_text all) cores ++ rest)
      ≡ read_from step L1 line (plain (record { names = more; cores = front ++ cores })) [] rest

-- the cores of a program are read
pub cores_read : (all : List Name) → AreNames all → (cores : Cores) (names back : List Name)
    (front : Cores) (rest : List ℕ) (k n : ℕ) → all ≡ names ++ back →
    use_cores (length names) cores ≡ Some n → n ≤ length all →
    length front + length cores ≤ MAX_CORES → op_count front + op_count cores ≤ MAX_EVENTS →
    AllByRecursion (AllByRecursion Small) cores →
    CoresRead all names front cores n k rest
cores_read all h [] names back front rest k n parts used le few room small =
    record {
      more = names;
      back = back;
      line = k;
      parts = parts;
      long = same_Some (length names) n used;
      text = rw (append-nil front) refl;
    }
cores_read all h (ops ∷ cores) names back front rest k n parts used le few room small =
    let p : Body = record { names = names; cores = front } in
    let q : Body = record { names = names; cores = front ++ [] ∷ [] } in
    let beyond = flat_map (core_text all) cores ++ rest in
    let b = bind_some (use_ops (length names) ops) (λ m. use_cores m cores) n used in
    let grows = cores_grow b.0 cores n b.2 in
    let first = said_again k (plain p) (plain q) core_line (flat_map (op_text all) ops ++ beyond) tt tt
    (core_so p (omega (arith, few))) in
    let inner = ops_read all h ops names back front [] beyond (k + 1) b.0 parts b.1
    (omega (arith, grows, le)) (omega (arith, room, sum_by-cons (λ (os : List Op). length os) ops cores))
    small.0 in
    let later = cores_read all h cores inner.more inner.back (front ++ ops ∷ []) rest inner.line n
    inner.parts (rw inner.long b.2) le
    (omega (arith, few, length-append front (ops ∷ [])))
    (omega (arith, room, count-append front ops, sum_by-cons (λ (os : List Op). length os) ops cores))
    small.1 in
    let start : (core_text all ops ++ flat_map (core_text all) cores) ++ rest
    ≡ (codes "core" ++ 10 ∷ []) ++ (flat_map (op_text all) ops ++ beyond) =
    append_assoc (core_text all ops) (flat_map (core_text all) cores) rest
    ∙ append_assoc (codes "core" ++ 10 ∷ []) (flat_map (op_text all) ops) beyond in
    record {
      more = later.more;
      back = later.back;
      line = later.line;
      parts = later.parts;
      long = later.long;
      text = ap (λ t. read_from step L1 k (plain p) [] t) start ∙ first ∙ inner.text ∙ later.text
          ∙ ap (λ (cs : Cores). read_from step L1 later.line
          (plain (record { names = later.more; cores = cs })) [] rest)
          (append_assoc front (ops ∷ []) cores);
    }

-- names as many as all are all
pub all_of_it : (all more back : List Name) → all ≡ more ++ back → length more ≡ length all → more ≡ all
all_of_it all more [] parts long = sym (parts ∙ append-nil more)
all_of_it all more (x ∷ back) parts long =
    absurd (omega (arith, long, ap length parts, length-append more (x ∷ back)))
