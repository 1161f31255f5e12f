-- What a format wrote to a text.
use Rattle.std.proofs.Common.{List, ℕ, Option, Some, None, Result, Ok, Err, refl}
use Rattle.std.specs.Prelude.{OnOk, IfSome, IsOk}

-- what follows from an `Ok`, for a text that is known
pub on_ok_some : {X E : Type 0} (r : Result X E) (o : Option (List ℕ)) (P Q : List ℕ → Type 0)
    → ((bs : List ℕ) → P bs → IsOk r → Q bs) → IfSome o P → OnOk r (IfSome o Q)
on_ok_some (Ok x) (Some bs) P Q f p = f bs p refl
on_ok_some (Ok x) None P Q f p = tt
on_ok_some (Err e) o P Q f p = tt
