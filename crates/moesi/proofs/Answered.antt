-- What a call answers on the state that the words stand for.
use Rattle.std.proofs.Common.{◌≡◌, ℕ, Result, Ok, Err, refl, sym, ap, subst}
use Rattle.std.proofs.Common.{length-set}
use Rattle.moesi.specs.declared.error.CacheError.{CacheError}
use Rattle.moesi.specs.Block.{Block}
use Rattle.moesi.specs.State.{CacheState, at_address, with_block, IsRowAnswer}

-- a row that is taken
pub taken : {A : Type 0} {x : A} {r : Result Block CacheError} {s t : CacheState} (a : ℕ) {u : Block}
    → r ≡ Ok u → t ≡ with_block s a u → IsRowAnswer (at_address s a r) s t (Ok x)
taken {A} {x} {r} {s} {t} a {u} h is = rw (h, is) (record {
  ok = refl;
  refused = tt;
  unchanged = tt;
  cores = refl;
  addresses = length-set s.blocks a u;
})

-- a row that is refused
pub refused : {A : Type 0} {r : Result Block CacheError} {s : CacheState} (a : ℕ) {e : CacheError} → r ≡ Err e
    → IsRowAnswer {A = A} (at_address s a r) s s (Err e)
refused {A} {r} {s} a {e} h =
    record { ok = tt; refused = ap (at_address s a) h; unchanged = refl; cores = refl; addresses = refl }

-- what holds before, and wherever the row leads, holds after
pub answer_keeps : {A : Type 0} {row : Result CacheState CacheError} {s t : CacheState} (result : Result A CacheError)
    (P : CacheState → Type 0) → IsRowAnswer row s t result → P s → ((u : CacheState) → row ≡ Ok u → P u) → P t
answer_keeps {A} {row} {s} {t} (Ok x) P h before leads = leads t h.ok
answer_keeps {A} {row} {s} {t} (Err e) P h before leads = subst P (sym h.unchanged) before
