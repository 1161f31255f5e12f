use Rattle.std.proofs.Common.{◌≡◌, ◌↔◌, ◌++◌, ◌-◌, ◌∙◌, ℕ, Bool, IsTrue, List, ap, drop, eqb, length, sym, take}
use Rattle.std.proofs.lemmas.Bool.Decides.{Decides-eqb}
use Rattle.std.proofs.lemmas.List.{append_cancel_left}
use Rattle.std.proofs.lemmas.Slice.Eq.{ends_is, strip_prefix_is}
use Rattle.std.specs.Cmp.Lexicographic.{pointwise}
use Rattle.case_files.proofs.case.is_around.Goals as goal

-- a text after its head ends with the tail exactly where the text is the head, any bytes and the tail
around : (head tail text rest : List ℕ) (ends : Bool) → text ≡ head ++ rest
    → ends ≡ pointwise eqb tail (drop (length rest - length tail) rest)
    → IsTrue ends ↔ ((between : List ℕ) × (text ≡ head ++ (between ++ tail)))
around head tail text rest ends begins test =
    let is = ends_is Decides-eqb rest tail ends test in (
      λ yes. (take (length rest - length tail) rest, begins ∙ ap (λ (t : List ℕ). head ++ t) (is.0 yes)),
      λ (between, same). is.1 between (append_cancel_left head rest (between ++ tail) (sym begins ∙ same)),
    )

pub returns-in-Some : goal.returns-in-Some
returns-in-Some c =
    let begins = strip_prefix_is Decides-eqb c.args.text.now c.args.head.now c.strip_prefix.result
    (rw c.as_bytes.ensures.value at c.strip_prefix.ensures.cases) in
    around c.args.head.now c.args.tail.now c.args.text.now c.in-Some.rest.now c.ends_with.result
    (rw c.in-Some.is at begins)
    (rw c.as_bytes-in-Some.ensures.value at c.ends_with.ensures.value)

pub returns-in-None : goal.returns-in-None
returns-in-None c =
    let begins = strip_prefix_is Decides-eqb c.args.text.now c.args.head.now c.strip_prefix.result
    (rw c.as_bytes.ensures.value at c.strip_prefix.ensures.cases) in
    let none = rw c.in-None.is at begins in
    ((λ no. cc), λ (between, same). absurd (none (between ++ c.args.tail.now) same))
