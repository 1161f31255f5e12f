use Rattle.std.proofs.Common.{rules, ◌*◌, length, arith, refl, sym, ◌∙◌}
use Rattle.std.proofs.lemmas.Bool.{true≢false}
use Rattle.bitrow.specs.Bits.{bits_of}
use Rattle.bitrow.specs.Rows.{Marked}
use Rattle.bitrow.proofs.RowLemmas.{wide_enough}
use Rattle.bitrow.proofs.Unions.{labels_on, joins_on}
use Rattle.bitrow.proofs.rows.union_rows.Goals as goal

pub loop-word-init : goal.loop-word-init
loop-word-init g c = record {
  labels = record { labelled = λ e at is. absurd (omega (arith, at)); left = λ e apart. refl };
  joined = record {
    joined = λ e f at is r. absurd (omega (arith, at));
    only = λ f is. absurd (true≢false (sym is ∙ c.no_number-union.ensures f));
  };
}

pub join_word-union-requires : goal.join_word-union-requires
join_word-union-requires g c = (
  search rules,
  (
    c.requires.square,
    (
      c.requires.width,
      (
        c.requires.set,
        (
          omega (arith, c.requires.labels),
          (
            omega (arith, c.loop-word-test.true, c.fits-set.0),
            c.loop-word.invariant.joined,
          ),
        ),
      ),
    ),
  ),
)

pub loop-word-preserved : goal.loop-word-preserved
loop-word-preserved g c = record {
  labels = c.join_word-union.ensures.labels c.args.labels.now c.loop-word.invariant.labels;
  joined = c.join_word-union.ensures.union;
}

pub returns-clause-labels : goal.returns-clause-labels
returns-clause-labels g c = labels_on (bits_of c.args.set) (64 * c.loop-word.word) (length c.args.rows.now) c.args.label
    c.args.labels.now c.loop-word.labels
    (λ e above below. absurd (omega (
      arith,
      above,
      below,
      c.loop-word-test.false,
      wide_enough g.row.N (length c.args.rows.now) c.requires.width,
    ))) (λ e past _. c.requires.set e past)
    c.loop-word.invariant.labels

pub returns-clause-union : goal.returns-clause-union
returns-clause-union g c = joins_on (Marked c.args.rows.now) (bits_of c.args.set) (64 * c.loop-word.word)
    (length c.args.rows.now) (bits_of c.loop-word.union)
    (λ e above below. absurd (omega (
      arith,
      above,
      below,
      c.loop-word-test.false,
      wide_enough g.row.N (length c.args.rows.now) c.requires.width,
    ))) c.loop-word.invariant.joined
