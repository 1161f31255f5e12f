use Rattle.std.proofs.lemmas.Bool.{ltb-true, lt-ltb}
use Rattle.long.proofs.linking.is_earlier.Goals as goal

pub returns-then-start-first : goal.returns-then-start-first
returns-then-start-first c = λ x start. (
  λ low. (start c.args.first).1 (c.if-start-first.true, ltb-true _ _ low),
  λ own. lt-ltb _ _ ((start c.args.first).0 own).1,
)
