use Rattle.std.proofs.Common.{◌≡◌, ◌||◌, ◌+◌, ◌*◌, ℕ, Bool, true, false, drop, slice_index, arith, sym, ap, ◌∙◌}
use Rattle.std.specs.List.{list_any}
use Rattle.std.proofs.Math.Bool.{or_assoc, or-false, or-true}
use Rattle.std.proofs.lemmas.List.{drop_all}
use Rattle.moesi.specs.declared.cell.Cell.{Cell}
use Rattle.moesi.specs.Lines.{is_valid, supplies}
use Rattle.moesi.specs.Words.{cell_in, block_in}
use Rattle.moesi.proofs.LineLemmas.{supplier_valid}
use Rattle.moesi.proofs.Grid.{next_place, lines_from, lines_length}
use Rattle.moesi.proofs.words.ask.Goals as goal

pub returns-then-supplies-clause-valid : goal.returns-then-supplies-clause-valid
returns-then-supplies-clause-valid c =
    let first = lines_from c.args.cores c.args.addresses c.args.words.now c.args.addr c.loop.counter c.loop.at
    c.unpack-line.result (omega arith) c.loop.invariant.place c.unpack-line.ensures in
    let gives : supplies c.unpack-line.result.line ≡ true = cc in
    sym (or-true c.loop.valid) ∙ (rw (first, supplier_valid _ gives) at c.loop.invariant.valid)

pub returns-then-supplies-clause-given : goal.returns-then-supplies-clause-given
returns-then-supplies-clause-given c =
    let first = lines_from c.args.cores c.args.addresses c.args.words.now c.args.addr c.loop.counter c.loop.at
    c.unpack-line.result (omega arith) c.loop.invariant.place c.unpack-line.ensures in
    let gives : supplies c.unpack-line.result.line ≡ true = cc in
    ap (λ (x : Cell). x.copy) (sym c.unpack-line.ensures) ∙ (rw (first, gives) at c.loop.invariant.given)

pub loop-preserved : goal.loop-preserved
loop-preserved c =
    let rest : Bool = list_any (λ x. is_valid x.line) (drop (c.loop.counter + 1)
    (block_in c.args.cores c.args.addresses c.args.words.now c.args.addr).lines) in
    let first = lines_from c.args.cores c.args.addresses c.args.words.now c.args.addr c.loop.counter c.loop.at
    c.unpack-line.result (omega arith) c.loop.invariant.place c.unpack-line.ensures in
    let keeps : supplies c.unpack-line.result.line ≡ false = cc in
    record {
      place = next_place c.loop.counter c.args.addresses c.args.addr c.loop.at c.loop.invariant.place;
      valid = or_assoc c.loop.valid c.is_valid-valid.result rest
          ∙ (ap (λ (v : Bool). c.loop.valid || (v || rest)) c.is_valid-valid.ensures
          ∙ (rw first at c.loop.invariant.valid));
      given = rw (first, keeps) at c.loop.invariant.given;
    }

pub returns-clause-valid : goal.returns-clause-valid
returns-clause-valid c =
    let past = drop_all c.loop.counter (block_in c.args.cores c.args.addresses c.args.words.now c.args.addr).lines
    (omega (arith, lines_length c.args.cores c.args.addresses c.args.words.now c.args.addr)) in
    sym (or-false c.loop.valid) ∙ (rw past at c.loop.invariant.valid)

pub returns-clause-given : goal.returns-clause-given
returns-clause-given c =
    let past = drop_all c.loop.counter (block_in c.args.cores c.args.addresses c.args.words.now c.args.addr).lines
    (omega (arith, lines_length c.args.cores c.args.addresses c.args.words.now c.args.addr)) in
    let all : c.loop.counter ≡ c.args.cores = omega arith in
    ap (λ (i : ℕ). (cell_in (slice_index c.args.words.now i)).copy)
    (c.loop.invariant.place ∙ ap (λ (i : ℕ). i * c.args.addresses + c.args.addr) all)
    ∙ (rw past at c.loop.invariant.given)
