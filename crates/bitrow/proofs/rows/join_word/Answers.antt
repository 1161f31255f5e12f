use Rattle.std.proofs.Common.{rules, ◌<◌, ◌+◌, ◌*◌, ◌||◌, ℕ, Bool, [], Some, List, length, arith, sym, ap, subst}
use Rattle.std.proofs.Common.{w64, ◌∙◌}
use Rattle.std.specs.Int.{trailing_zeros}
use Rattle.std.proofs.lemmas.List.{get_or_default}
use Rattle.bitrow.specs.Bits.{is_in, bits_of, IsNext, IsWidth}
use Rattle.bitrow.specs.Rows.{Marked}
use Rattle.bitrow.specs.Walks.{IsRest}
use Rattle.bitrow.proofs.Members.{bits_bit, bits_next}
use Rattle.bitrow.proofs.Rests.{lowest, rest_next, rest_whole, rest_after, rest_empty}
use Rattle.bitrow.proofs.Unions.{number_in, labels_more, joins_more, labels_on, joins_on}
use Rattle.bitrow.proofs.rows.join_word.Goals as goal

pub loop-rest-init : goal.loop-rest-init
loop-rest-init g c = (
  64 * c.args.word,
  record {
    fits = omega (arith, c.type_inv.set c.args.word);
    rest = rest_whole c.args.set.now c.args.word (omega arith);
    inside = λ some. number_in _ _ _ _ _ c.requires.set (rest_whole c.args.set.now c.args.word (omega arith)) some
        (omega (arith, c.type_inv.set c.args.word));
    labels = λ before h. h;
    joined = c.requires.union;
  },
)

pub overflow_mul-number : goal.overflow_mul-number
overflow_mul-number g c = omega (arith, c.loop-rest.invariant.1.inside c.loop-rest-test.true)

pub overflow_add-number : goal.overflow_add-number
overflow_add-number g c = omega (arith, c.loop-rest.invariant.1.inside c.loop-rest-test.true)

pub offset_bounds-labels-number : goal.offset_bounds-labels-number
offset_bounds-labels-number g c = omega (arith, c.loop-rest.invariant.1.inside c.loop-rest-test.true)

pub bounds-labels-number : goal.bounds-labels-number
bounds-labels-number g c = omega (arith, c.loop-rest.invariant.1.inside c.loop-rest-test.true, c.requires.labels)

pub offset_bounds-rows-number : goal.offset_bounds-rows-number
offset_bounds-rows-number g c = omega (arith, c.loop-rest.invariant.1.inside c.loop-rest-test.true)

pub bounds-rows-number : goal.bounds-rows-number
bounds-rows-number g c = omega (arith, c.loop-rest.invariant.1.inside c.loop-rest-test.true)

pub join-union-requires : goal.join-union-requires
join-union-requires g c =
    let rows = c.args.rows.now in
    let number : ℕ = 64 * c.args.word + trailing_zeros w64 c.loop-rest.rest in
    let at : number < length rows = c.loop-rest.invariant.1.inside c.loop-rest-test.true in (
      search rules,
      subst (λ (n : ℕ). IsWidth g.row.N n) (sym (ap (λ (r : List Bool). length r)
          (c.index-rows-number.is ∙ get_or_default rows number c.index-rows-number.result [] at)
          ∙ c.requires.square.each number at)) c.requires.width,
    )

pub loop-rest-preserved : goal.loop-rest-preserved
loop-rest-preserved g c =
    let rows = c.args.rows.now in
    let words = c.args.set.now in
    let k = c.args.word in
    let rest = c.loop-rest.rest in
    let from = c.loop-rest.invariant.0 in
    let inv = c.loop-rest.invariant.1 in
    let low = lowest rest c.loop-rest-test.true inv.fits in
    let after = c.without_lowest-rest.ensures.bits (trailing_zeros w64 rest) low.1 low.2 in
    let number : ℕ = 64 * k + trailing_zeros w64 rest in
    let at : number < length rows = inv.inside c.loop-rest-test.true in
    let next : IsNext (bits_of words) from (Some number) = bits_next words from (Some number)
    (rest_next words k rest from inv.rest c.loop-rest-test.true inv.fits) in
    let left : IsRest words k c.without_lowest-rest.result (number + 1) =
    rest_after words k rest from (trailing_zeros w64 rest) c.without_lowest-rest.result inv.rest low.0 low.1 low.2
    after.0
    (λ i _ other. after.1 i other) in (
      number + 1,
      record {
        fits = omega arith;
        rest = left;
        inside = λ some. number_in (length rows) words k c.without_lowest-rest.result (number + 1) c.requires.set
            left some
            (omega arith);
        labels = λ before h. labels_more (bits_of words) from number c.args.label before c.loop-rest.labels next
            (omega (arith, at, c.requires.labels)) (inv.labels before h);
        joined = joins_more rows (bits_of words) from number (bits_of c.loop-rest.union) (bits_of
            c.join-union.result) next
            (λ f. c.join-union.ensures f ∙ ap (λ (r : List Bool). is_in (bits_of c.loop-rest.union) f || is_in r f)
            (c.index-rows-number.is ∙ get_or_default rows number c.index-rows-number.result [] at)) inv.joined;
      },
    )

pub returns-clause-labels : goal.returns-clause-labels
returns-clause-labels g c before h =
    let words = c.args.set.now in
    let from = c.loop-rest.invariant.0 in
    let inv = c.loop-rest.invariant.1 in
    let ended = subst (λ (r : ℕ). IsRest words c.args.word r from) c.loop-rest-test.false inv.rest in
    labels_on (bits_of words) from (64 * (c.args.word + 1)) c.args.label before c.loop-rest.labels
    (λ e above below. bits_bit words e ∙ rest_empty words c.args.word from ended e above below)
    (λ e past below. absurd (omega (arith, past, below, ended.ended))) (inv.labels before h)

pub returns-clause-union : goal.returns-clause-union
returns-clause-union g c =
    let words = c.args.set.now in
    let from = c.loop-rest.invariant.0 in
    let inv = c.loop-rest.invariant.1 in
    joins_on (Marked c.args.rows.now) (bits_of words) from (64 * (c.args.word + 1)) (bits_of c.loop-rest.union)
    (λ e above below. bits_bit words e ∙ rest_empty words c.args.word from
    (subst (λ (r : ℕ). IsRest words c.args.word r from) c.loop-rest-test.false inv.rest) e above below) inv.joined
