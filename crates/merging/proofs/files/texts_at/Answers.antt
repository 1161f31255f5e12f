use Rattle.std.proofs.Common.{◌≡◌, ◌<◌, ◌+◌, ◌++◌, ◌∷◌, ◌∙◌, [], ℕ, List, Vec, Global, arith, drop, get_or}
use Rattle.std.proofs.Common.{length, map, refl, subst, sym, take}
use Rattle.std.specs.Prelude.{string_bytes}
use Rattle.std.proofs.lemmas.List.{length-map, map-append, take-append-drop, take_all}
use Rattle.inputs.specs.declared.command_error.CommandError.TheVariants.{OutOfMemory}
use Rattle.inputs.specs.declared.command_stop.CommandStop.TheVariants.{Failed}
use Rattle.inputs.specs.Inputs.{AreBytesOf, AreRead, AreStopped, Inputs, IsInputError}
use Rattle.std.specs.List.{AllZip}
use Rattle.inputs.proofs.Asking.{name_at, names_more, names_whole, read_none, read_then, stopped_after}
use Rattle.inputs.proofs.Asking.{stopped_before}
use Rattle.merging.proofs.files.texts_at.Goals as goal

-- one more of each list
zip_more : {A B : Type 0} (R : A → B → Type 0) (xs : List A) (ys : List B) (x : A) (y : B) → AllZip R xs ys → R x y
    → AllZip R (xs ++ x ∷ []) (ys ++ y ∷ [])
zip_more R [] [] x y all one = (one, tt)
zip_more R [] (b ∷ ys) x y all one = absurd all
zip_more R (a ∷ xs) [] x y all one = absurd all
zip_more R (a ∷ xs) (b ∷ ys) x y all one = (all.0, zip_more R xs ys x y all.1 one)

pub loop-i-init : goal.loop-i-init
loop-i-init g c = record {
  read = read_none (g.H.Host.log c.args.host.now);
  kept = refl;
  given = rw c.new-texts.ensures.items tt;
}

pub returns-in-Err-clause-err : goal.returns-in-Err-clause-err
returns-in-Err-clause-err g c =
    let name : c.as_str.result.now ≡ get_or (map string_bytes c.args.names.now) c.loop-i.i [] = c.as_str.ensures.value
    ∙ name_at string_bytes c.args.names.now c.loop-i.i c.index-names-i.result (omega arith) c.index-names-i.is in (
      c.loop-i.i,
      omega (arith, length-map c.args.names.now string_bytes),
      rw (← name) (subst (λ (f : Inputs). IsInputError f c.as_str.result.now c.in-Err.error)
          c.loop-i.invariant.kept c.in-Err.ensures.error),
    )

pub returns-in_default-clause-err : goal.returns-in_default-clause-err
returns-in_default-clause-err g c = (c.loop-i.i, omega (arith, length-map c.args.names.now string_bytes), tt)

pub returns-clause-ok : goal.returns-clause-ok
returns-clause-ok g c =
    rw (sym (take_all c.loop-i.i (map string_bytes c.args.names.now)
    (omega (arith, length-map c.args.names.now string_bytes)))) c.loop-i.invariant.given

pub returns-clause-reads : goal.returns-clause-reads
returns-clause-reads g c =
    subst (λ (l : List (List ℕ)). AreRead l (g.H.Host.log c.args.host.now) (g.H.Host.log c.loop-i.host))
    (take_all c.loop-i.i (map string_bytes c.args.names.now)
    (omega (arith, length-map c.args.names.now string_bytes))) c.loop-i.invariant.read

pub returns-in-Err-clause-reads : goal.returns-in-Err-clause-reads
returns-in-Err-clause-reads g c =
    let names : List (List ℕ) = map string_bytes c.args.names.now in
    let low : c.loop-i.i < length names = omega (arith, length-map c.args.names.now string_bytes) in
    subst (λ (l : List (List ℕ)). AreStopped l (Failed c.in-Err.error) (g.H.Host.log c.args.host.now)
    (g.H.Host.log c.text_at.new.host))
    (names_whole names c.loop-i.i c.as_str.result.now low (c.as_str.ensures.value
    ∙ name_at string_bytes c.args.names.now c.loop-i.i c.index-names-i.result (omega arith) c.index-names-i.is))
    (stopped_after (take c.loop-i.i names) (c.as_str.result.now ∷ []) (drop (c.loop-i.i + 1) names)
    (Failed c.in-Err.error) _ _ _
    c.loop-i.invariant.read c.in-Err.ensures.reads)

pub returns-in_default-clause-reads : goal.returns-in_default-clause-reads
returns-in_default-clause-reads g c =
    let names : List (List ℕ) = map string_bytes c.args.names.now in
    let low : c.loop-i.i < length names = omega (arith, length-map c.args.names.now string_bytes) in
    subst (λ (l : List (List ℕ)). AreStopped l (Failed OutOfMemory) (g.H.Host.log c.args.host.now)
    (g.H.Host.log c.text_at.new.host)) (take-append-drop (c.loop-i.i + 1) names)
    (stopped_before (take (c.loop-i.i + 1) names) (drop (c.loop-i.i + 1) names) _ _
    (rw (← names_more names c.loop-i.i c.as_str.result.now low (c.as_str.ensures.value
    ∙ name_at string_bytes c.args.names.now c.loop-i.i c.index-names-i.result (omega arith) c.index-names-i.is))
    (read_then _ _ _ _ _ c.loop-i.invariant.read c.in-Ok.ensures.reads)))

pub loop-i-preserved : goal.loop-i-preserved
loop-i-preserved g c =
    let h = c.loop-i.invariant in
    let names : List (List ℕ) = map string_bytes c.args.names.now in
    let low : c.loop-i.i < length names = omega (arith, length-map c.args.names.now string_bytes) in
    let more : take c.loop-i.i names ++ c.as_str.result.now ∷ [] ≡ take (c.loop-i.i + 1) names =
    names_more names c.loop-i.i c.as_str.result.now low (c.as_str.ensures.value
    ∙ name_at string_bytes c.args.names.now c.loop-i.i c.index-names-i.result (omega arith) c.index-names-i.is) in
    let given = subst (λ (f : Inputs). AreBytesOf f c.as_str.result.now c.in-Ok.text.items) h.kept
    c.in-Ok.ensures.given in record {
      read = subst (λ (l : List (List ℕ)). AreRead l (g.H.Host.log c.args.host.now)
          (g.H.Host.log c.text_at.new.host)) more (read_then _ _ _ _ _ h.read c.in-Ok.ensures.reads);
      kept = c.text_at.ensures.kept ∙ h.kept;
      given = rw (
        sym more,
        c.in-Ok-push.ensures.items,
        map-append (λ (v : Vec ℕ Global). v.items) c.loop-i.texts.items (c.in-Ok.text ∷ []),
      )
          (zip_more _ _ _ _ _ h.given given);
    }
