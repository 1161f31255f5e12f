use Rattle.std.proofs.Common.{◌≡◌, ℕ, List, IsPermutation, IsSortedByKey, ap, arith, inr, length, map, subst, sym}
use Rattle.std.specs.Ordering.{nat_cmp}
use Rattle.std.proofs.lemmas.List.{length-map}
use Rattle.std.proofs.lemmas.List.Sorted.{All-permutation, answers_always, length_permutation}
use Rattle.ledger.specs.Ordered.{AreInOrder, IsNoJoin, IsNoOrderedJoin}
use Rattle.ledger.specs.Sections.{AreAlike, Section}
use Rattle.ledger.proofs.SectionFiles.{if_err, sections_some}
use Rattle.ledger.proofs.joined.join.Goals as goal

pub join_ordered-requires-clause-sorted : goal.join_ordered-requires-clause-sorted
join_ordered-requires-clause-sorted c =
    subst (λ (l : List Section). IsSortedByKey (λ s. s.header.first) nat_cmp l) (sym c.as_slice.ensures.value)
    (c.in-Ok-sort_by_key.ensures.sorted (λ s. s.header.first) (answers_always _ _ _ (λ f a r f' k. k.met)))

pub join_ordered-requires-clause-some : goal.join_ordered-requires-clause-some
join_ordered-requires-clause-some c =
    let files : List (List ℕ) = map (λ v. v.items) c.args.files.now in
    let some : length files ≡ length c.args.files.now = length-map c.args.files.now (λ v. v.items) in
    let found = sections_some files c.in-Ok.order.items (omega (arith, c.requires, some)) (c.in-Ok.ensures.ok).are in
    let size = length_permutation c.in-Ok.order.items c.sort_by_key.new.self.items
    c.in-Ok-sort_by_key.ensures.permutation in
    omega (arith, found, size, ap (λ (l : List Section). length l) c.as_slice.ensures.value)

pub join_ordered-requires-clause-alike : goal.join_ordered-requires-clause-alike
join_ordered-requires-clause-alike c =
    let a = (c.in-Ok.ensures.ok).alike in
    subst AreAlike (sym c.as_slice.ensures.value) (
      a.0,
      All-permutation (λ s. s.header.counted ≡ a.0) c.in-Ok.order.items c.sort_by_key.new.self.items
          c.in-Ok-sort_by_key.ensures.permutation a.1,
    )

pub returns-clause-err : goal.returns-clause-err
returns-clause-err c =
    let files : List (List ℕ) = map (λ v. v.items) c.args.files.now in
    if_err (IsNoOrderedJoin c.as_slice.result.now) (IsNoJoin files) c.join_ordered.result
    (λ e no. inr (c.as_slice.result.now, in_order, no)) c.join_ordered.ensures.err
  where
    in_order : AreInOrder (map (λ v. v.items) c.args.files.now) c.as_slice.result.now
    in_order = record {
      sections = c.in-Ok.order.items;
      are = c.in-Ok.ensures.ok;
      ordered = record {
        all = subst (λ (l : List Section). IsPermutation c.in-Ok.order.items l) (sym c.as_slice.ensures.value)
            c.in-Ok-sort_by_key.ensures.permutation;
        sorted = subst (λ (l : List Section). IsSortedByKey (λ s. s.header.first) nat_cmp l)
            (sym c.as_slice.ensures.value)
            (c.in-Ok-sort_by_key.ensures.sorted (λ s. s.header.first) (answers_always _ _ _ (λ f a r f' k. k.met)));
      };
    }
