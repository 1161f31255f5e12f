use Rattle.std.proofs.Common.{◌∙◌, ℕ, List, ap, drop, map, sym, take}
use Rattle.std.proofs.lemmas.List.{drop-map, take-map}
use Rattle.situations.specs.Numbers.{number_of}
use Rattle.situations.proofs.codes.Coded.part.Goals as goal

pub returns : goal.returns
returns c =
    let k : ℕ = c.args.from in
    let n : ℕ = c.args.count in
    let codes : List ℕ = c.self.inside.codes.items in
    let large : List ℕ = c.self.inside.large.items in
    ap (λ (l : List ℕ). map (number_of l) c.part.result.now) c.deref-2.ensures.value
    ∙ (ap (map (number_of large)) (c.part.ensures ∙ ap (λ (l : List ℕ). take n (drop k l)) c.deref.ensures.value)
    ∙ (sym (take-map (number_of large) n (drop k codes))
    ∙ (ap (take n) (sym (drop-map (number_of large) k codes))
    ∙ ap (λ (l : List ℕ). take n (drop k l)) c.self.view_is)))
