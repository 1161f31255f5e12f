use Rattle.std.proofs.Common.{arith, refl}
use Rattle.bitrow.proofs.row.width.Goals as goal

pub returns-then-len-le64 : goal.returns-then-len-le64
returns-then-len-le64 c = record {
  one = λ _. refl;
  two = λ h _. absurd (omega (arith, h, c.if-len-le64.true));
  four = λ h _. absurd (omega (arith, h, c.if-len-le64.true));
  eights = λ h. absurd (omega (arith, h, c.if-len-le64.true));
}

pub returns-then-len-le128 : goal.returns-then-len-le128
returns-then-len-le128 c = record {
  one = λ h. absurd (omega (arith, h, c.if-len-le64.false));
  two = λ _ _. refl;
  four = λ h _. absurd (omega (arith, h, c.if-len-le128.true));
  eights = λ h. absurd (omega (arith, h, c.if-len-le128.true));
}

pub returns-then-len-le256 : goal.returns-then-len-le256
returns-then-len-le256 c = record {
  one = λ h. absurd (omega (arith, h, c.if-len-le64.false));
  two = λ _ h. absurd (omega (arith, h, c.if-len-le128.false));
  four = λ _ _. refl;
  eights = λ h. absurd (omega (arith, h, c.if-len-le256.true));
}

pub returns-else-len-le256 : goal.returns-else-len-le256
returns-else-len-le256 c = record {
  one = λ h. absurd (omega (arith, h, c.if-len-le64.false));
  two = λ _ h. absurd (omega (arith, h, c.if-len-le128.false));
  four = λ _ h. absurd (omega (arith, h, c.if-len-le256.false));
  eights = λ _. omega (arith, c.div_ceil.ensures);
}
