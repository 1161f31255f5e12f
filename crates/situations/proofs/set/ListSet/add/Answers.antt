use Rattle.std.proofs.Common.{◌≡◌, ◌∙◌, ◌<◌, ◌+◌, ◌++◌, ◌∷◌, [], ℕ, List, ap, arith, length, get_or, mod-lt, refl}
use Rattle.std.proofs.Common.{slice_set, subst, sym}
use Rattle.std.proofs.Common.{length-append}
use Rattle.std.proofs.Math.Seq.{get_or-append_seam}
use Rattle.situations.specs.Chains.{AreChained, bucket_of}
use Rattle.situations.specs.Packed.{PackedLists}
use Rattle.situations.proofs.ChainedLists.{chained_before, more_room, one_linked}
use Rattle.situations.proofs.set.ListSet.add.Goals as goal
use Rattle.situations.proofs.set.ListSet.add.Goals.{then-len-number+in_ok-push, else-len-number}

pub invariant_of-self-2 : goal.invariant_of-self-2
invariant_of-self-2 c =
    let old : List (List ℕ) = c.self.inside.lists.lists in
    let n : ℕ = length old in
    let list : List ℕ = c.args.list.now in
    let ready : AreChained old n c.if-len-number.self-inside.heads.items c.if-len-number.self-inside.next.items
    × (n < length c.if-len-number.self-inside.next.items) × (c.if-len-number.self-inside.lists.lists ≡ old)
    × (length c.if-len-number.self-inside.words.items ≡ c.if-len-number.self-inside.lists.width) =
    elim c.if-len-number.branch [
      | then-len-number+in_ok-push w ↦ rw w.self-inside-is (
        more_room old n 0 c.self.inside.heads.items c.self.inside.next.items w.push.new.self.items c.self.invariant.chained
            w.in_ok-push.ensures.items,
        omega (
          arith,
          c.self.invariant.chained.room,
          ap (λ (l : List ℕ). length l) w.in_ok-push.ensures.items,
          length-append c.self.inside.next.items (0 ∷ []),
        ),
        refl,
        c.self.invariant.room,
      )
      | else-len-number w ↦ rw w.self-inside-is (
        c.self.invariant.chained,
        omega (arith, c.self.invariant.chained.room, w.if-len-number.false, c.len.ensures, c.len-number.ensures),
        refl,
        c.self.invariant.room,
      )
    ] in
    let heads : List ℕ = c.if-len-number.self-inside.heads.items in
    let lists : c.push-2.new.self.lists ≡ old ++ list ∷ [] =
    ap (λ (p : PackedLists). p.lists) c.in_ok-push-2.ensures.ok
    ∙ ap (λ (ls : List (List ℕ)). ls ++ list ∷ []) ready.2 in
    let size : length c.push-2.new.self.lists ≡ n + 1 =
    ap (λ (ls : List (List ℕ)). length ls) lists ∙ length-append old (list ∷ []) in
    let linked = one_linked (old ++ list ∷ []) n list heads c.if-len-number.self-inside.next.items
    c.link.new.heads.items c.link.new.next.items
    (chained_before old (list ∷ []) heads c.if-len-number.self-inside.next.items ready.0)
    (get_or-append_seam old list [] []) ready.1 (mod-lt _ ready.0.some)
    (c.link.ensures.heads ∙ ap (λ (k : ℕ). slice_set heads (bucket_of (length heads) list) (k + 1))
    c.len-number.ensures)
    (c.link.ensures.next ∙ ap (λ (k : ℕ). slice_set c.if-len-number.self-inside.next.items k
    (get_or heads (bucket_of (length heads) list) 0)) c.len-number.ensures) in
    record {
      chained = subst (λ (k : ℕ). AreChained c.push-2.new.self.lists k c.link.new.heads.items c.link.new.next.items)
          (sym size)
          (subst (λ (ls : List (List ℕ)). AreChained ls (n + 1) c.link.new.heads.items c.link.new.next.items)
          (sym lists) linked);
      room = ready.3 ∙ sym (ap (λ (p : PackedLists). p.width) c.in_ok-push-2.ensures.ok);
    }
