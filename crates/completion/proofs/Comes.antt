-- What a row comes to, by one way and by another.
use Rattle.std.proofs.Common.{◌≡◌, ◌<◌, ◌-◌, ◌^◌, ℕ, List, refl, subst}
use Rattle.completion.specs.declared.moves.Turn.{Turn}
use Rattle.completion.specs.declared.search.Came.{Came}
use Rattle.completion.specs.declared.search.Came.TheVariants as came
use Rattle.values.specs.Values.{Values}
use Rattle.completion.specs.Reachable.{HasMore}
use Rattle.completion.specs.Tries.{IsCome}

-- it is the same by a way that began elsewhere, with the same limit
pub come_by : (v : Values) (D E : Type 0) (limit most same last : ℕ) (turns : List Turn) (c : Came)
    → (c ≡ came.Dead → D → E) → (c ≡ came.Stopped → most < 2 ^ 64 - 1 → last < 2 ^ 64 - 1) → limit ≡ same
    → IsCome D v limit most turns c → IsCome E v same last turns c
come_by v D E limit most same last turns came.End dead stopped is come = come
come_by v D E limit most same last turns came.Dead dead stopped is come = dead refl come
come_by v D E limit most same last turns came.Stopped dead stopped is come = stopped refl come
come_by v D E limit most same last turns came.Full dead stopped is come = subst (HasMore v) is come
