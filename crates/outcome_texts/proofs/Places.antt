-- Lists of texts from a place on.
use Rattle.std.proofs.Common.{◌≡◌, ◌<◌, ◌+◌, ◌++◌, ◌∙◌, ◌∷◌, [], ℕ, List, Vec, Global, ap, arith, append_assoc, drop}
use Rattle.std.proofs.Common.{Bool, cond, false, get_or, length, map, sym, true}
use Rattle.std.proofs.lemmas.List.{drop_more, get_or-map, length-map}

-- the texts from one of them on are this one and those after it
pub texts_from : (ws : List (Vec ℕ Global)) (i : ℕ) (w : Vec ℕ Global) (text : List ℕ) → i < length ws
    → w ≡ get_or ws i w → text ≡ w.items
    → drop i (map (λ w. w.items) ws) ≡ text ∷ drop (i + 1) (map (λ w. w.items) ws)
texts_from ws i w text low at is =
    let texts : List (List ℕ) = map (λ (v : Vec ℕ Global). v.items) ws in
    let inside : i < length texts = omega (arith, low, length-map ws (λ (v : Vec ℕ Global). v.items)) in
    let one : get_or texts i [] ≡ text =
    get_or-map (λ (v : Vec ℕ Global). v.items) ws i w [] low ∙ sym (is ∙ ap (λ (v : Vec ℕ Global). v.items) at) in
    drop_more texts i [] inside ∙ ap (λ (t : List ℕ). t ∷ drop (i + 1) texts) one

-- four parts, one after another
pub joined : (lines a b u out0 out1 out2 out3 : List ℕ) → out0 ≡ lines → out1 ≡ out0 ++ a → out2 ≡ out1 ++ b
    → out3 ≡ out2 ++ u → out3 ≡ lines ++ (a ++ (b ++ u))
joined lines a b u out0 out1 out2 out3 e0 e1 e2 e3 =
    e3 ∙ (ap (λ (l : List ℕ). l ++ u) (e2 ∙ ap (λ (l : List ℕ). l ++ b) (e1 ∙ ap (λ (l : List ℕ). l ++ a) e0))
    ∙ (append_assoc (lines ++ a) b u ∙ append_assoc lines a (b ++ u)))

-- a test that passes, and one that fails
pub passed : {A : Type 0} (test told : Bool) (x y : A) → told ≡ test → told ≡ true → cond test x y ≡ x
passed test told x y is so = ap (λ (b : Bool). cond b x y) (sym is ∙ so)

pub failed : {A : Type 0} (test told : Bool) (x y : A) → told ≡ test → told ≡ false → cond test x y ≡ y
failed test told x y is so = ap (λ (b : Bool). cond b x y) (sym is ∙ so)
