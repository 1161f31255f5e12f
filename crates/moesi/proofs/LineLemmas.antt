-- Lemmas on what the states of a line allow.
use Rattle.std.proofs.Common.{◌≡◌, true, false, refl, ap}
use Rattle.moesi.specs.declared.line.Line.{Line}
use Rattle.moesi.specs.declared.line.Line.TheVariants.{I, S, E, O, M}
use Rattle.moesi.specs.Lines.{is_valid, is_exclusive, is_owned, supplies, lowered, compatible}

-- a line that is not valid is I
pub invalid_line : (l : Line) → is_valid l ≡ false → l ≡ I
invalid_line I h = refl
invalid_line l h = cc (h)

-- it is not owned
pub not_valid : (l : Line) → is_valid l ≡ false → is_owned l ≡ false
not_valid l h = ap is_owned (invalid_line l h)

-- a line that supplies data is valid
pub supplier_valid : (l : Line) → supplies l ≡ true → is_valid l ≡ true
supplier_valid I h = h
supplier_valid l h = refl

-- a line that supplies none is not owned
pub not_supplier : (l : Line) → supplies l ≡ false → is_owned l ≡ false
not_supplier O h = h
not_supplier M h = h
not_supplier l h = refl

-- an exclusive line is valid
pub exclusive_valid : (l : Line) → is_exclusive l ≡ true → is_valid l ≡ true
exclusive_valid I h = h
exclusive_valid l h = refl

-- beside an exclusive line the other is I
pub alone : (l k : Line) → is_exclusive l ≡ true → compatible l k ≡ true → k ≡ I
alone E I g h = refl
alone M I g h = refl
alone l k g h = cc (g, h)

-- each of two lines may stand beside the other
pub compatible_both : (l k : Line) → compatible l k ≡ compatible k l
compatible_both I I = refl
compatible_both S S = refl
compatible_both E E = refl
compatible_both O O = refl
compatible_both M M = refl
compatible_both l k = refl

-- sharing leaves a line owned, or not
pub lowered_owned : (l : Line) → is_owned (lowered l) ≡ is_owned l
lowered_owned I = refl
lowered_owned l = refl

-- sharing leaves a line valid, or not
pub lowered_valid : (l : Line) → is_valid (lowered l) ≡ is_valid l
lowered_valid I = refl
lowered_valid l = refl

-- a line may stand beside shared ones
pub beside_lowered : (l : Line) → compatible S (lowered l) ≡ true
beside_lowered I = refl
beside_lowered l = refl

-- lines that may stand beside each other may also once they are shared
pub both_lowered : (l k : Line) → compatible l k ≡ true → compatible (lowered l) (lowered k) ≡ true
both_lowered O O h = h
both_lowered O M h = h
both_lowered M O h = h
both_lowered M M h = h
both_lowered S I h = refl
both_lowered E I h = refl
both_lowered l k h = refl
