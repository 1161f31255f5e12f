use Rattle.std.proofs.Common.{rules, ◌+◌, inl, inr, IsTrue, length, refl, arith, sym, ◌∙◌}
use Rattle.std.proofs.lemmas.Bool.{eq-eqb, ne_eqb}
use Rattle.bitrow.specs.Bits.{bits_of}
use Rattle.bitrow.proofs.RowLemmas.{marked_within, wide_enough}
use Rattle.bitrow.specs.Rows.{Marked}
use Rattle.search.proofs.Marks.{one_alone}
use Rattle.search.proofs.Levels.{reached_none, reached_more, closes_more, reached_exact, closed_nearest}
use Rattle.search.proofs.row.row_in_words.Goals as goal

pub one_number-level-requires : goal.one_number-level-requires
one_number-level-requires g c = (
  search rules,
  omega (arith, c.requires.source, wide_enough g.row.N (length c.args.rows.now) c.requires.width),
)

pub loop-label-init : goal.loop-label-init
loop-label-init g c =
    let n = length c.args.rows.now in
    let seen = bits_of c.no_number-seen.result in
    let level = bits_of c.one_number-level.result in
    record {
      within = λ e past. c.one_number-level.ensures e ∙ ne_eqb e c.args.source (λ is. omega (
        arith,
        is,
        past,
        c.requires.source,
      ));
      reached = reached_none (Marked c.args.rows.now) n c.args.cap c.args.source c.fill.new.self seen level
          (omega (arith, c.requires.labels, c.fill.ensures.len))
          (λ e at. c.fill.ensures.clones e 0 (omega (arith, at, c.requires.labels)) refl) c.no_number-seen.ensures
          (c.one_number-level.ensures c.args.source ∙ eq-eqb c.args.source c.args.source refl)
          (λ e is. one_alone c.args.source e (sym (c.one_number-level.ensures e) ∙ is));
      closed = record {
        early = inr refl;
        reached = inl refl;
        nearest = λ e r below. absurd
            (omega (arith, below));
      };
    }

pub loop-label-preserved : goal.loop-label-preserved
loop-label-preserved g c =
    let take = c.take_level-closes.ensures in
    let within = marked_within c.args.rows.now c.requires.square in
    let reached = c.loop-label.invariant.reached in
    record {
      within = take.within;
      reached = reached_more _ _ _ _ _ within c.requires.source _ _ _ reached c.take_level-closes.new.labels
          c.loop-label-test.true (omega arith) take.labels (bits_of c.take_level-closes.new.seen)
          (bits_of c.take_level-closes.new.level) take.seen take.level;
      closed = closes_more _ _ _ _ _ within c.requires.source _ _ _ reached c.take_level-closes.new.labels
          c.loop-label-test.true (omega arith) take.labels (IsTrue c.take_level-closes.result.0) c.loop-label.closing
          c.closing_with-closing.result take.closes c.loop-label.invariant.closed c.closing_with-closing.ensures;
    }

pub returns-then-not-more-clause-exact : goal.returns-then-not-more-clause-exact
returns-then-not-more-clause-exact g c =
    let take = c.take_level-closes.ensures in
    let within = marked_within c.args.rows.now c.requires.square in
    reached_exact _ _ _ _ (c.loop-label.label + 1) within c.requires.source c.take_level-closes.new.labels
    (bits_of c.take_level-closes.new.seen) (bits_of c.take_level-closes.new.level)
    (reached_more _ _ _ _ _ within c.requires.source _ _ _ c.loop-label.invariant.reached
    c.take_level-closes.new.labels c.loop-label-test.true (omega arith) take.labels
    (bits_of c.take_level-closes.new.seen) (bits_of c.take_level-closes.new.level) take.seen take.level)
    (omega arith) (inr (take.none c.if-not-more.true))

pub returns-then-not-more-clause-nearest : goal.returns-then-not-more-clause-nearest
returns-then-not-more-clause-nearest g c =
    let take = c.take_level-closes.ensures in
    let within = marked_within c.args.rows.now c.requires.square in
    let reached = c.loop-label.invariant.reached in
    closed_nearest _ _ _ _ (c.loop-label.label + 1) within c.requires.source c.take_level-closes.new.labels
    (bits_of c.take_level-closes.new.seen) (bits_of c.take_level-closes.new.level)
    (reached_more _ _ _ _ _ within c.requires.source _ _ _ reached c.take_level-closes.new.labels
    c.loop-label-test.true (omega arith) take.labels (bits_of c.take_level-closes.new.seen)
    (bits_of c.take_level-closes.new.level) take.seen take.level) c.closing_with-closing.result (omega arith)
    (closes_more _ _ _ _ _ within c.requires.source _ _ _ reached c.take_level-closes.new.labels
    c.loop-label-test.true (omega arith) take.labels (IsTrue c.take_level-closes.result.0) c.loop-label.closing
    c.closing_with-closing.result take.closes c.loop-label.invariant.closed c.closing_with-closing.ensures)

pub returns-clause-exact : goal.returns-clause-exact
returns-clause-exact g c =
    reached_exact _ _ _ _ _ (marked_within c.args.rows.now c.requires.square) c.requires.source _ _ _
    c.loop-label.invariant.reached (omega arith) (inl (omega arith))

pub returns-clause-nearest : goal.returns-clause-nearest
returns-clause-nearest g c =
    closed_nearest _ _ _ _ _ (marked_within c.args.rows.now c.requires.square) c.requires.source _ _ _
    c.loop-label.invariant.reached c.loop-label.closing (omega arith) c.loop-label.invariant.closed
