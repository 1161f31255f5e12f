use Rattle.std.proofs.Common.{◌≡◌, ◌≢◌, ◌∙◌, ◌+◌, ◌*◌, ◌<◌, ◌^◌, ◌++◌, ◌∷◌, [], ℕ, List, ap, arith, length, map, sym}
use Rattle.std.proofs.Common.{refl}
use Rattle.std.proofs.Common.{length-append}
use Rattle.std.proofs.lemmas.List.{length-map}
use Rattle.std.proofs.lemmas.List.FromFn.{length-map-range_with_len}
use Rattle.situations.specs.Packed.{AreFull, PackedLists, list_at, lists_in, numbers_in}
use Rattle.situations.proofs.PackedLists.{added_full, added_lists, closed_full, closed_lists, one_list_more}
use Rattle.situations.proofs.packed.Packed.push.Goals as goal
use Rattle.situations.proofs.packed.Packed.push.Goals.{then-self-len+in_ok-close, else-self-len}

-- there is room for a list more after these blocks, in which the same lists are
record IsReady (w n : ℕ) (before : List (List ℕ)) (width count : ℕ) (blocks : List (List ℕ)) (last : List ℕ) : Type 0 where
  pub width_is : width ≡ w
  pub count_is : count ≡ n
  pub full : AreFull width count blocks last
  pub more : count < 64 * length blocks + 64
  pub same : lists_in width count blocks last ≡ before

-- so where a full block was closed
after_closing : (w n : ℕ) (blocks newer : List (List ℕ)) (last none : List ℕ) → AreFull w n blocks last
    → n ≡ 64 * length blocks + 64 → newer ≡ blocks ++ last ∷ [] → none ≡ []
    → IsReady w n (lists_in w n blocks last) w n newer none
after_closing w n blocks newer last none full there is empty = rw (is, empty) (record {
  width_is = refl;
  count_is = refl;
  full = closed_full w n blocks last full there;
  more = omega (arith, there, length-append blocks (last ∷ []));
  same = closed_lists w n blocks last full there;
})

-- and where none was
as_it_was : (w n : ℕ) (blocks : List (List ℕ)) (last : List ℕ) → AreFull w n blocks last
    → n ≢ 64 * length blocks + 64 → IsReady w n (lists_in w n blocks last) w n blocks last
as_it_was w n blocks last full other = record {
  width_is = refl;
  count_is = refl;
  full = full;
  more = omega (arith, full.few, other);
  same = refl;
}

-- then it is the lists with one more
made : (w n width count : ℕ) (before blocks : List (List ℕ)) (first last newer list : List ℕ) (p : PackedLists)
    → (let old : PackedLists = record { width = w; lists = lists_in w n before first } in old ≡ p)
    → IsReady w n (lists_in w n before first) width count blocks last → length list ≡ p.width
    → length p.lists < 2 ^ 32 → newer ≡ last ++ list
    → AreFull width (count + 1) blocks newer
    × (let new : PackedLists = record { width = width; lists = lists_in width (count + 1) blocks newer } in
    new ≡ record { width = p.width; lists = p.lists ++ list ∷ [] })
made w n width count before blocks first last newer list p is ready fits few added =
    let wide : width ≡ p.width = ready.width_is ∙ ap (λ (q : PackedLists). q.width) is in
    let size : length (lists_in w n before first) ≡ n =
    length-map-range_with_len (list_at w (before ++ first ∷ [])) 0 n in
    let room : count < 2 ^ 32 =
    omega (arith, few, ap (λ (q : PackedLists). length q.lists) is, size, ready.count_is) in
    let same : lists_in width count blocks last ≡ p.lists = ready.same ∙ ap (λ (q : PackedLists). q.lists) is in
    rw added (
      added_full width count blocks last ready.full list (fits ∙ sym wide) room ready.more,
      one_list_more width count blocks last (last ++ list) p list wide same
          (added_lists width count blocks last ready.full list (fits ∙ sym wide) room ready.more),
    )

pub invariant_of-self-2 : goal.invariant_of-self-2
invariant_of-self-2 c =
    let w : ℕ = c.self.inside.width in
    let n : ℕ = c.self.inside.count in
    let blocks : List (List ℕ) = map numbers_in c.self.inside.blocks.items in
    let last : List ℕ = c.self.inside.last.items in
    let size : length blocks ≡ length c.self.inside.blocks.items = length-map c.self.inside.blocks.items numbers_in in
    let ready : IsReady w n (lists_in w n blocks last) c.if-self-len.self-inside.width c.if-self-len.self-inside.count
    (map numbers_in c.if-self-len.self-inside.blocks.items) c.if-self-len.self-inside.last.items =
    elim c.if-self-len.branch [
      | then-self-len+in_ok-close v ↦ rw v.self-inside-is (after_closing w n blocks (map numbers_in v.close.new.blocks.items)
          last v.close.new.last.items c.self.invariant (omega (arith, v.if-self-len.true, c.len.ensures, size))
          v.in_ok-close.ensures.blocks v.in_ok-close.ensures.last)
      | else-self-len v ↦ rw v.self-inside-is (as_it_was w n blocks last c.self.invariant
          (λ is. v.if-self-len.false (omega (arith, is, c.len.ensures, size))))
    ] in
    (made w n c.if-self-len.self-inside.width c.if-self-len.self-inside.count blocks
    (map numbers_in c.if-self-len.self-inside.blocks.items) last c.if-self-len.self-inside.last.items
    c.extend_from_slice.new.self.items c.args.list.now c.args.self.now c.self.view_is ready c.requires.width
    c.requires.room c.in_ok-extend_from_slice.ensures.items).0

pub returns-clause-ok : goal.returns-clause-ok
returns-clause-ok c =
    let w : ℕ = c.self.inside.width in
    let n : ℕ = c.self.inside.count in
    let blocks : List (List ℕ) = map numbers_in c.self.inside.blocks.items in
    let last : List ℕ = c.self.inside.last.items in
    let size : length blocks ≡ length c.self.inside.blocks.items = length-map c.self.inside.blocks.items numbers_in in
    let ready : IsReady w n (lists_in w n blocks last) c.if-self-len.self-inside.width c.if-self-len.self-inside.count
    (map numbers_in c.if-self-len.self-inside.blocks.items) c.if-self-len.self-inside.last.items =
    elim c.if-self-len.branch [
      | then-self-len+in_ok-close v ↦ rw v.self-inside-is (after_closing w n blocks (map numbers_in v.close.new.blocks.items)
          last v.close.new.last.items c.self.invariant (omega (arith, v.if-self-len.true, c.len.ensures, size))
          v.in_ok-close.ensures.blocks v.in_ok-close.ensures.last)
      | else-self-len v ↦ rw v.self-inside-is (as_it_was w n blocks last c.self.invariant
          (λ is. v.if-self-len.false (omega (arith, is, c.len.ensures, size))))
    ] in
    (made w n c.if-self-len.self-inside.width c.if-self-len.self-inside.count blocks
    (map numbers_in c.if-self-len.self-inside.blocks.items) last c.if-self-len.self-inside.last.items
    c.extend_from_slice.new.self.items c.args.list.now c.args.self.now c.self.view_is ready c.requires.width
    c.requires.room c.in_ok-extend_from_slice.ensures.items).1
