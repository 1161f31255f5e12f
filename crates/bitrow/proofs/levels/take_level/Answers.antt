use Rattle.std.proofs.Common.{◌&&◌, not, Bool, length, ap, ◌∙◌}
use Rattle.bitrow.specs.Bits.{is_in, bits_of}
use Rattle.bitrow.proofs.Unions.{union_below}
use Rattle.bitrow.proofs.levels.take_level.Goals as goal

pub returns-clause-within : goal.returns-clause-within
returns-clause-within g c j past = c.without.ensures j
    ∙ ap (λ (b : Bool). b && not (is_in (bits_of c.both.result) j))
    (union_below c.args.rows.now (bits_of c.args.level.now) (length c.args.rows.now) (bits_of c.union_rows-union.result)
    c.requires.square c.union_rows-union.ensures.union j past)
