use Rattle.completion.proofs.Same.{recordings_same}
use Rattle.completion.proofs.only.determined_have_one_recording.Goals as goal

pub returns : goal.returns
returns c v x is has = record {
  has = has;
  only = λ y other. recordings_same v x y is has other;
}
