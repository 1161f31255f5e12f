use Rattle.std.proofs.Common.{◌+◌, ℕ, List, ap, arith, drop, length, subst, sym}
use Rattle.surveys.specs.Surveys.{IsLong}
use Rattle.surveys.specs.Tallies.{IsTallied}
use Rattle.surveys.proofs.Long.{from_err}
use Rattle.surveys.proofs.engine.Engine.count_offered.Goals as goal

pub count_batches-requires : goal.count_batches-requires
count_batches-requires g c = (
  c.type_bounds.sync-G,
  (
    c.requires,
    omega (
      arith,
      c.last_end-end.ensures.within,
      ap (λ (b : List ℕ). length b) c.deref.ensures.value,
      ap (λ (b : List ℕ). length b) c.deref-2.ensures.value,
    ),
  ),
)

pub returns-clause-ok : goal.returns-clause-ok
returns-clause-ok g c =
    let e = c.args.self.now in
    let block : List ℕ = c.args.block.now.items in
    let counted = c.args.counted.now in
    let now = c.count_batches.new.counted in
    let before = g.W.Sink.written c.args.sink.now in
    let after = g.W.Sink.written c.count_batches.new.sink in
    subst (λ (r : List ℕ). IsTallied e.kind e.reports block r counted.ledger counted.bytes before now.ledger now.bytes
    after) (sym c.keep_rest.ensures)
    (subst (λ (b : List ℕ). IsTallied e.kind e.reports b (drop c.in_ok-length.length b) counted.ledger counted.bytes
    before now.ledger now.bytes after) c.deref-2.ensures.value c.in_ok-length.ensures.ok)

pub returns-in_err-length-clause-long : goal.returns-in_err-length-clause-long
returns-in_err-length-clause-long g c =
    let most : ℕ = c.args.counted.now.bytes + length c.args.block.now.items in
    from_err _ c.in_err-length.field-0.0 (λ e. IsLong e most)
    (rw c.deref-2.ensures.value at c.in_err-length.ensures.long) c.from_residual.ensures.1
