-- Lemmas of one operation more.
use Rattle.std.proofs.Common.{◌≡◌, ℕ, ◌+◌, ◌-◌, ◌<◌, ◌≤◌, List, [], ◌∷◌, ◌++◌, length, Option, Some, None}
use Rattle.std.proofs.Common.{refl, arith, sym, ap, ◌∙◌, subst, codes}
use Rattle.std.specs.Prelude.{option_and_then}
use Rattle.std.specs.List.{AllByRecursion, IsDistinct, flat_map}
use Rattle.std.proofs.lemmas.List.{length-append, append-nil, append_assoc, get_or_append_left}
use Rattle.std.proofs.lemmas.List.Sums.{sum_by_push}
use Rattle.std.proofs.lemmas.Grind.{flat_map-append}
use Rattle.std.proofs.Math.Seq.{get_or-append_seam, set-append_seam}
use Rattle.program.specs.declared.name.Name.{Name}
use Rattle.program.specs.declared.op.Op.{Op}
use Rattle.program.specs.declared.op.Op.TheVariants.{St, Ld, Fence, Swap, Add, Cas}
use Rattle.program.specs.Parts.{Small, IsBody, op_count, addr_of, use_addr, use_ops, use_cores}
use Rattle.litmus.specs.Steps.{with_op}
use Rattle.common.specs.declared.limits.TheConstants.{MAX_EVENTS, MAX_ADDRESSES}
use Rattle.program.specs.Names.{AreLawful, name_eq, no_name}
use Rattle.litmus.specs.Spelling.{body_text, op_text, core_text}
use Rattle.texts.specs.TestLaws.{bind_some}
use Rattle.program.specs.NameListLaws.{all_push}
use Rattle.program.proofs.CoreLemmas.{Cores, use_below, ops_grow, cores_grow}

-- the cores before the last one, and its operations
pub last_core : (cores : Cores) → 0 < length cores → (front : Cores) × (last : List Op) ×
    (cores ≡ front ++ last ∷ [])
last_core [] lt = absurd (omega (arith, lt))
last_core (ops ∷ []) lt = ([], ops, refl)
last_core (ops ∷ next ∷ cores) lt = let h = last_core (next ∷ cores) (omega arith) in
    (ops ∷ h.0, h.1, ap (λ cs. ops ∷ cs) h.2)

-- one operation more, in the last core
pub with_op-is : (front : Cores) (last : List Op) (op : Op) → with_op (front ++ last ∷ []) op
    ≡ front ++ (last ++ op ∷ []) ∷ []
with_op-is front last op =
    let at : length (front ++ last ∷ []) - 1 ≡ length front =
    omega (arith, length-append front (last ∷ [])) in
    rw (at, get_or-append_seam front last [] []) (set-append_seam front last [] (last ++ op ∷ []))

-- the count of operations with one core more
pub count-append : (front : Cores) (ops : List Op) → op_count (front ++ ops ∷ [])
    ≡ op_count front + length ops
count-append front ops = sum_by_push (λ (os : List Op). length os) front ops

-- ---- the addresses that were used

-- the addresses used after one operation more
pub use_ops-push : (m : ℕ) (ops : List Op) (op : Op) → use_ops m (ops ++ op ∷ [])
    ≡ option_and_then (λ k. use_addr k (addr_of op)) (use_ops m ops)
use_ops-push m [] op = whole (use_addr m (addr_of op))
  where
    whole : (o : Option ℕ) → option_and_then (λ k. Some k) o ≡ o
    whole None = refl
    whole (Some k) = refl
use_ops-push m (first ∷ ops) op = by (λ k. use_ops-push k ops op) (use_addr m (addr_of first))
  where
    by : ((k : ℕ) → use_ops k (ops ++ op ∷ []) ≡ option_and_then (λ j. use_addr j (addr_of op))
        (use_ops k ops)) → (o : Option ℕ) →
        option_and_then (λ k. use_ops k (ops ++ op ∷ [])) o
        ≡ option_and_then (λ k. use_addr k (addr_of op))
        (option_and_then (λ k. use_ops k ops) o)
    by go None = refl
    by go (Some k) = go k

-- the addresses used after one core more
pub use_cores-push : (m : ℕ) (front : Cores) (ops : List Op) → use_cores m (front ++ ops ∷ [])
    ≡ option_and_then (λ k. use_ops k ops) (use_cores m front)
use_cores-push m [] ops = whole (use_ops m ops)
  where
    whole : (o : Option ℕ) → option_and_then (λ k. Some k) o ≡ o
    whole None = refl
    whole (Some k) = refl
use_cores-push m (first ∷ front) ops = by (λ k. use_cores-push k front ops) (use_ops m first)
  where
    by : ((k : ℕ) → use_cores k (front ++ ops ∷ []) ≡ option_and_then (λ j. use_ops j ops)
        (use_cores k front)) → (o : Option ℕ) →
        option_and_then (λ k. use_cores k (front ++ ops ∷ [])) o
        ≡ option_and_then (λ k. use_ops k ops) (option_and_then (λ k. use_cores k front) o)
    by go None = refl
    by go (Some k) = go k

-- the addresses used after one operation more in the last core
pub use_with_op : (front : Cores) (last : List Op) (op : Op) →
    use_cores 0 (front ++ (last ++ op ∷ []) ∷ []) ≡ option_and_then (λ k. use_addr k (addr_of op))
    (use_cores 0 (front ++ last ∷ []))
use_with_op front last op =
    rw (use_cores-push 0 front (last ++ op ∷ []), use_cores-push 0 front last)
    (by (use_cores 0 front))
  where
    by : (o : Option ℕ) → option_and_then (λ k. use_ops k (last ++ op ∷ [])) o
        ≡ option_and_then (λ k. use_addr k (addr_of op)) (option_and_then (λ k. use_ops k last) o)
    by None = refl
    by (Some k) = use_ops-push k last op

-- ---- more names don't change the text of what was written with fewer

-- an operation's text needs the names up to its own alone
op_kept : (names extra : List Name) (op : Op) (m j : ℕ) → use_addr m (addr_of op) ≡ Some j →
    j ≤ length names → op_text (names ++ extra) op ≡ op_text names op
op_kept names extra (St a n) m j e le =
    rw (get_or_append_left names extra no_name a (omega (arith, le, (use_below m a j e).0))) refl
op_kept names extra (Ld a) m j e le =
    rw (get_or_append_left names extra no_name a (omega (arith, le, (use_below m a j e).0))) refl
op_kept names extra Fence m j e le = refl
op_kept names extra (Swap a n) m j e le =
    rw (get_or_append_left names extra no_name a (omega (arith, le, (use_below m a j e).0))) refl
op_kept names extra (Add a n) m j e le =
    rw (get_or_append_left names extra no_name a (omega (arith, le, (use_below m a j e).0))) refl
op_kept names extra (Cas a r n) m j e le =
    rw (get_or_append_left names extra no_name a (omega (arith, le, (use_below m a j e).0))) refl

-- the same for a core's operations
pub ops_kept : (names extra : List Name) (ops : List Op) (m k : ℕ) → use_ops m ops ≡ Some k →
    k ≤ length names → flat_map (op_text (names ++ extra)) ops ≡ flat_map (op_text names) ops
ops_kept names extra [] m k e le = refl
ops_kept names extra (op ∷ ops) m k e le =
    let b = bind_some (use_addr m (addr_of op)) (λ j. use_ops j ops) k e in
    let later = ops_grow b.0 ops k b.2 in
    rw (
      op_kept names extra op m b.0 b.1 (omega (arith, later, le)),
      ops_kept names extra ops b.0 k b.2 le,
    ) refl

-- the same for cores
pub cores_kept : (names extra : List Name) (cores : Cores) (m k : ℕ) → use_cores m cores ≡ Some k →
    k ≤ length names → flat_map (core_text (names ++ extra)) cores
    ≡ flat_map (core_text names) cores
cores_kept names extra [] m k e le = refl
cores_kept names extra (ops ∷ cores) m k e le =
    let b = bind_some (use_ops m ops) (λ j. use_cores j cores) k e in
    let later = cores_grow b.0 cores k b.2 in
    rw (
      ops_kept names extra ops m b.0 b.1 (omega (arith, later, le)),
      cores_kept names extra cores b.0 k b.2 le,
    ) refl

-- the text of one operation more
pub text_more : (names : List Name) (front : Cores) (last : List Op) (op : Op) →
    flat_map (core_text names) (front ++ (last ++ op ∷ []) ∷ []) ≡ flat_map (core_text names)
    (front ++ last ∷ []) ++ op_text names op
text_more names front last op =
    let f = core_text names in
    let one : core_text names (last ++ op ∷ []) ≡ core_text names last ++ op_text names op =
    rw (flat_map-append (op_text names) last (op ∷ []), append-nil (op_text names op))
    (sym (append_assoc (codes "core" ++ 10 ∷ []) (flat_map (op_text names) last)
    (op_text names op))) in
    rw (
      flat_map-append f front ((last ++ op ∷ []) ∷ []),
      flat_map-append f front (last ∷ []),
      append-nil (core_text names (last ++ op ∷ [])),
      append-nil (core_text names last),
      one,
    )
    (sym (append_assoc (flat_map f front) (core_text names last) (op_text names op)))

-- ---- the values

-- one small value more
pub small_more : (front : Cores) (last : List Op) (op : Op) → AllByRecursion (AllByRecursion Small)
    (front ++ last ∷ []) → Small op → AllByRecursion (AllByRecursion Small)
    (front ++ (last ++ op ∷ []) ∷ [])
small_more [] last op h s = (all_push Small last op h.0 s, tt)
small_more (ops ∷ front) last op h s = (h.0, small_more front last op h.1 s)

-- ---- names and operations with one operation more

-- what is known of them
pub record Grown (names : List Name) (cores : Cores) (op : Op) (more : List Name)
    (after : Cores) : Type 0 where
  pub body : IsBody (record { names = more; cores = after })
  pub text : body_text (record { names = more; cores = after })
      ≡ body_text (record { names = names; cores = cores }) ++ op_text more op

-- one operation more in the last core keeps it
grown_at : (names more extra : List Name) (front : Cores) (last : List Op) (op : Op) →
    IsBody (record { names = names; cores = front ++ last ∷ [] }) →
    op_count (front ++ last ∷ []) < MAX_EVENTS → more ≡ names ++ extra → use_addr (length names)
    (addr_of op) ≡ Some (length more) → length more ≤ MAX_ADDRESSES →
    AreLawful more → IsDistinct name_eq more → Small op →
    Grown names (front ++ last ∷ []) op more (front ++ (last ++ op ∷ []) ∷ [])
grown_at names more extra front last op h room kept used few lawful distinct small =
    let cores = front ++ last ∷ [] in
    record {
      body = record {
        few_cores = omega (
          arith,
          h.few_cores,
          length-append front (last ∷ []),
          length-append front ((last ++ op ∷ []) ∷ []),
        );
        few_ops = omega (
          arith,
          room,
          count-append front last,
          count-append front (last ++ op ∷ []),
          length-append last (op ∷ []),
        );
        few_names = few;
        values = small_more front last op h.values small;
        lawful = lawful;
        distinct = distinct;
        numbered = use_with_op front last op ∙ rw h.numbered used;
      };
      text =
          let old : flat_map (core_text more) cores ≡ flat_map (core_text names) cores =
          rw kept (cores_kept names extra cores 0 (length names) h.numbered (omega arith)) in
          text_more more front last op ∙ ap (λ t. t ++ op_text more op) old;
    }

-- one operation more keeps it
pub grown : (names more extra : List Name) (cores : Cores) (op : Op) →
    IsBody (record { names = names; cores = cores }) →
    0 < length cores → op_count cores < MAX_EVENTS → more ≡ names ++ extra → use_addr (length names)
    (addr_of op) ≡ Some (length more) → length more ≤ MAX_ADDRESSES →
    AreLawful more → IsDistinct name_eq more → Small op →
    Grown names cores op more (with_op cores op)
grown names more extra cores op h some room kept used few lawful distinct small =
    let parts = last_core cores some in
    let front = parts.0 in
    let last = parts.1 in
    let there : IsBody (record { names = names; cores = front ++ last ∷ [] }) =
    subst (λ (cs : Cores). IsBody (record { names = names; cores = cs })) parts.2 h in
    let count : op_count (front ++ last ∷ []) < MAX_EVENTS =
    subst (λ (cs : Cores). op_count cs < MAX_EVENTS) parts.2 room in
    let at = grown_at names more extra front last op there count kept used few lawful distinct
    small in
    let after : front ++ (last ++ op ∷ []) ∷ [] ≡ with_op cores op =
    sym (ap (λ (cs : Cores). with_op cs op) parts.2 ∙ with_op-is front last op) in
    let one : Grown names (front ++ last ∷ []) op more (with_op cores op) =
    subst (λ (cs : Cores). Grown names (front ++ last ∷ []) op more cs) after at in
    subst (λ (cs : Cores). Grown names cs op more (with_op cores op)) (sym parts.2) one
