use Rattle.std.proofs.Common.{◌∙◌, ℕ, List, Vec, Global, ap, arith, false, length, map, sym, true}
use Rattle.std.specs.Prelude.{string_bytes}
use Rattle.std.proofs.lemmas.List.{length-map}
use Rattle.merging.specs.Merge.{is_headed}
use Rattle.merging.proofs.Merging.{answered, stopped, zip_length}
use Rattle.merging.proofs.files.merge_command.Goals as goal

pub returns-then-is_headed-clause-ok : goal.returns-then-is_headed-clause-ok
returns-then-is_headed-clause-ok g c =
    let texts : List (List ℕ) = map (λ v. v.items) c.in-Ok.texts.items in
    answered (g.H.Host.bytes c.args.host.now) c.args.options.now texts true c.joined_texts.result
    (rw c.deref.ensures.value at c.in-Ok.ensures.ok)
    (sym (c.is_headed.ensures ∙ ap (λ l. is_headed c.args.options.now.partial (map (λ v. v.items) l))
    c.deref-2.ensures.value) ∙ c.if-is_headed.true)
    (rw (c.gaps_of.ensures, c.deref-then-is_headed-2.ensures.value) at c.joined_texts.ensures.ok)

pub returns-then-is_headed-clause-err : goal.returns-then-is_headed-clause-err
returns-then-is_headed-clause-err g c =
    let texts : List (List ℕ) = map (λ v. v.items) c.in-Ok.texts.items in
    stopped (g.H.Host.bytes c.args.host.now) c.args.options.now texts true c.joined_texts.result
    (rw c.deref.ensures.value at c.in-Ok.ensures.ok) c.requires.some
    (sym (c.is_headed.ensures ∙ ap (λ l. is_headed c.args.options.now.partial (map (λ v. v.items) l))
    c.deref-2.ensures.value) ∙ c.if-is_headed.true)
    (rw (c.deref-then-is_headed.ensures.value, c.deref-then-is_headed-2.ensures.value) at c.joined_texts.ensures.err)

pub merged_texts-requires-clause-some : goal.merged_texts-requires-clause-some
merged_texts-requires-clause-some g c =
    omega (
      arith,
      c.requires.some,
      ap (λ (l : List (Vec ℕ Global)). length l) c.deref-4.ensures.value,
      zip_length _ _ _ c.in-Ok.ensures.ok,
      length-map c.deref.result.now string_bytes,
      length-map c.in-Ok.texts.items (λ v. v.items),
      c.deref.ensures.len,
    )

pub merged_texts-requires-clause-named : goal.merged_texts-requires-clause-named
merged_texts-requires-clause-named g c =
    omega (
      arith,
      ap (λ (l : List (Vec ℕ Global)). length l) c.deref-4.ensures.value,
      zip_length _ _ _ c.in-Ok.ensures.ok,
      length-map c.deref.result.now string_bytes,
      length-map c.in-Ok.texts.items (λ v. v.items),
      c.deref.ensures.len,
      c.deref-3.ensures.len,
    )

pub returns-clause-ok : goal.returns-clause-ok
returns-clause-ok g c =
    let texts : List (List ℕ) = map (λ v. v.items) c.in-Ok.texts.items in
    answered (g.H.Host.bytes c.args.host.now) c.args.options.now texts false c.merged_texts.result
    (rw c.deref.ensures.value at c.in-Ok.ensures.ok)
    (sym (c.is_headed.ensures ∙ ap (λ l. is_headed c.args.options.now.partial (map (λ v. v.items) l))
    c.deref-2.ensures.value) ∙ c.if-is_headed.false)
    (rw c.deref-4.ensures.value at c.merged_texts.ensures.ok)

pub returns-clause-err : goal.returns-clause-err
returns-clause-err g c =
    let texts : List (List ℕ) = map (λ v. v.items) c.in-Ok.texts.items in
    stopped (g.H.Host.bytes c.args.host.now) c.args.options.now texts false c.merged_texts.result
    (rw c.deref.ensures.value at c.in-Ok.ensures.ok) c.requires.some
    (sym (c.is_headed.ensures ∙ ap (λ l. is_headed c.args.options.now.partial (map (λ v. v.items) l))
    c.deref-2.ensures.value) ∙ c.if-is_headed.false)
    (rw (c.deref-3.ensures.value, c.deref-4.ensures.value) at c.merged_texts.ensures.err)
