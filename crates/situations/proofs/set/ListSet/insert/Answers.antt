use Rattle.std.proofs.Common.{◌∙◌, ◌++◌, ◌∷◌, [], ℕ, List, ap, sym}
use Rattle.std.specs.List.{Contains}
use Rattle.std.proofs.lemmas.Option.{get_or_from_slice_get, slice_get_within}
use Rattle.situations.specs.Packed.{PackedLists}
use Rattle.situations.proofs.ChainedLists.{with_known, with_new}
use Rattle.situations.proofs.PackedLists.{on_ok}
use Rattle.situations.proofs.set.ListSet.insert.Goals as goal

pub returns-in-Some-clause-ok : goal.returns-in-Some-clause-ok
returns-in-Some-clause-ok c =
    let lists : List (List ℕ) = c.args.self.now.lists in
    let list : List ℕ = c.args.list.now in
    let i : ℕ = c.in-Some.field-0 in
    let there : Contains lists list = (
      i,
      slice_get_within lists i list c.in-Some.ensures.found,
      get_or_from_slice_get lists i list list c.in-Some.ensures.found,
    ) in
    let known = with_known lists list there in
    c.number.ensures.kept ∙ (λ i. record { width = c.args.self.now.width; lists = sym known i })

pub returns-in-None-clause-ok : goal.returns-in-None-clause-ok
returns-in-None-clause-ok c =
    let new = with_new c.args.self.now.lists c.args.list.now c.in-None.ensures.none in
    let same = c.number.ensures.kept in
    let wide = ap (λ (p : PackedLists). p.width) same in
    let long = ap (λ (p : PackedLists). p.lists ++ c.args.list.now ∷ []) same ∙ sym new in
    on_ok _ _ c.push.result (λ took. took ∙ (λ i. record { width = wide i; lists = long i })) c.push.ensures.ok
