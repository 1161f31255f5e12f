-- Events without their sources.
use Rattle.std.proofs.Common.{◌≡◌, ◌∙◌, List, [], ◌∷◌, map, refl, ap}
use Rattle.recording.specs.declared.event.Event.{Event}
use Rattle.recording.specs.declared.event.Event.TheVariants.{L, S, R, C, F}
use Rattle.values.specs.Values.{unsourced}

-- an event has its source taken away once
once : (ev : Event) → unsourced (unsourced ev) ≡ unsourced ev
once (L a r o) = refl
once (S a w) = refl
once (R a r o w) = refl
once (C a r o) = refl
once F = refl

-- so have those of a core
core_once : (es : List Event) → map unsourced (map unsourced es) ≡ map unsourced es
core_once [] = refl
core_once (ev ∷ es) =
    ap (λ (z : Event). z ∷ map unsourced (map unsourced es)) (once ev)
    ∙ ap (λ (l : List Event). unsourced ev ∷ l) (core_once es)

-- and of all
pub stripped_twice : (cores : List (List Event))
    → map (map unsourced) (map (map unsourced) cores) ≡ map (map unsourced) cores
stripped_twice [] = refl
stripped_twice (es ∷ cores) =
    ap (λ (z : List Event). z ∷ map (map unsourced) (map (map unsourced) cores)) (core_once es)
    ∙ ap (λ (l : List (List Event)). map unsourced es ∷ l) (stripped_twice cores)
