use Rattle.std.proofs.Common.{◌≡◌, ◌∙◌, ◌+◌, arith, length, List, ℕ, subst, refl, sym}
use Rattle.surveys.specs.Tallies.{Ends, IsUnderWay}
use Rattle.surveys.proofs.Blocks.{begun, gone_on, same_size}
use Rattle.surveys.specs.Surveys.{IsLong, IsLongRead}
use Rattle.surveys.proofs.Batches.{all_ended}
use Rattle.surveys.proofs.Long.{from_err, long_under, long_way}
use Rattle.surveys.proofs.engine.Engine.count_blocks.Goals as goal

pub filled-init : goal.filled-init
filled-init g c =
    let e = c.args.self.now in
    let left = g.R.Source.left c.args.source.now in
    let told = g.W.Sink.written c.args.sink.now in
    let at : ℕ = c.args.counted.now.bytes in
    let way : IsUnderWay e.kind e.reports left left c.args.counted.now.ledger at c.args.block.now.items told told =
    subst (λ (n : ℕ). IsUnderWay e.kind e.reports left left c.args.counted.now.ledger n c.args.block.now.items told
    told) (sym c.requires.none.1)
    (subst (λ (bytes : List ℕ). IsUnderWay e.kind e.reports left left c.args.counted.now.ledger 0 bytes told told)
    (sym c.requires.empty) (begun e.kind e.reports left told c.args.counted.now.ledger c.requires.none.0)) in
    record { way = way; reads = refl; writes = refl; silent = λ quiet. refl; fits = omega (arith, c.requires.none.1); size = refl }

pub filled-preserved : goal.filled-preserved
filled-preserved g c =
    let e = c.args.self.now in record {
      way =
          gone_on e.kind e.reports _ (g.R.Source.left c.filled.source) _ _ _ c.filled.counted.ledger
          c.filled.counted.bytes c.filled.block.items c.fill.new.block.items c.filled.invariant.way
          c.in_ok-fill.ensures.gathered c.count_offered.new.counted.ledger c.count_offered.new.counted.bytes
          c.count_offered.new.block.items _ c.in_ok-count_offered.ensures.ok;
      reads = c.in_ok-fill.ensures.count ∙ c.filled.invariant.reads;
      writes = c.in_ok-count_offered.ensures.writes ∙ c.filled.invariant.writes;
      silent = λ quiet. c.count_offered.ensures.silent quiet ∙ c.filled.invariant.silent quiet;
      fits = c.in_ok-count_offered.ensures.fits c.filled.invariant.fits;
      size = c.fill.ensures.kept ∙ c.filled.invariant.size;
    }

pub filled-smaller : goal.filled-smaller
filled-smaller g c =
    let e = c.args.self.now in omega (
      arith,
      same_size e.kind e.reports _ (g.R.Source.left c.filled.source) _ _ _ c.filled.counted.ledger
          c.filled.counted.bytes c.filled.block.items c.fill.new.block.items c.filled.invariant.way
          c.in_ok-fill.ensures.gathered c.count_offered.new.counted.ledger c.count_offered.new.counted.bytes
          c.count_offered.new.block.items _ c.in_ok-count_offered.ensures.ok,
      c.in_ok-fill.ensures.more c.if-branch.true,
      c.in_ok-count_offered.ensures.fits c.filled.invariant.fits,
      c.filled.invariant.fits,
    )

pub count_batch-requires : goal.count_batch-requires
count_batch-requires g c =
    let e = c.args.self.now in
    let way = gone_on e.kind e.reports _ (g.R.Source.left c.filled.source) _ _ _ c.filled.counted.ledger
    c.filled.counted.bytes c.filled.block.items c.fill.new.block.items c.filled.invariant.way
    c.in_ok-fill.ensures.gathered c.count_offered-2.new.counted.ledger c.count_offered-2.new.counted.bytes
    c.count_offered-2.new.block.items _ c.in_ok-count_offered-2.ensures.ok in
    (way.front, g.W.Sink.written c.args.sink.now, way.tally)

pub returns-clause-whole : goal.returns-clause-whole
returns-clause-whole g c =
    let e = c.args.self.now in
    let rest : List ℕ = c.count_offered-2.new.block.items in
    let was = g.W.Sink.written c.count_offered-2.new.sink in
    let is = g.W.Sink.written c.count_batch.new.sink in
    let ledger = c.count_offered-2.new.counted.ledger in
    let counted = c.count_offered-2.new.counted.bytes in
    let way = gone_on e.kind e.reports _ (g.R.Source.left c.filled.source) _ _ _ c.filled.counted.ledger
    c.filled.counted.bytes c.filled.block.items c.fill.new.block.items c.filled.invariant.way
    c.in_ok-fill.ensures.gathered ledger counted rest was c.in_ok-count_offered-2.ensures.ok in
    let last : c.judge.new.self ≡ rest = c.judge.ensures ∙ (c.new-last.ensures ∙ rw c.replace-rest.ensures.value refl) in
    all_ended e.kind e.reports _ _ _ was is ledger c.count_batch.new.counted.ledger counted rest way
    (subst (λ (bytes : List ℕ). Ends e.kind e.reports bytes ledger counted was c.count_batch.new.counted.ledger is) last
    c.in_ok-count_batch.ensures.ends)

pub returns-in_err-count_offered-clause-long : goal.returns-in_err-count_offered-clause-long
returns-in_err-count_offered-clause-long g c =
    let e = c.args.self.now in
    let start = g.R.Source.left c.args.source.now in
    let end = g.R.Source.left c.fill.new.source in
    from_err _ c.in_err-count_offered.field-0.0 (λ e. IsLongRead e start end)
    (long_way e.kind e.reports start (g.R.Source.left c.filled.source) end _ _ c.filled.counted.ledger
    c.filled.counted.bytes c.filled.block.items c.fill.new.block.items _ c.filled.invariant.way
    c.in_ok-fill.ensures.gathered c.in_err-count_offered.ensures.long)
    c.from_residual-in_err-count_offered.ensures.1

pub returns-in_err-count_offered-2-clause-long : goal.returns-in_err-count_offered-2-clause-long
returns-in_err-count_offered-2-clause-long g c =
    let e = c.args.self.now in
    let start = g.R.Source.left c.args.source.now in
    let end = g.R.Source.left c.fill.new.source in
    from_err _ c.in_err-count_offered-2.field-0.0 (λ e. IsLongRead e start end)
    (long_way e.kind e.reports start (g.R.Source.left c.filled.source) end _ _ c.filled.counted.ledger
    c.filled.counted.bytes c.filled.block.items c.fill.new.block.items _ c.filled.invariant.way
    c.in_ok-fill.ensures.gathered c.in_err-count_offered-2.ensures.long)
    c.from_residual-in_err-count_offered-2.ensures.1

pub returns-in_err-count_batch-clause-long : goal.returns-in_err-count_batch-clause-long
returns-in_err-count_batch-clause-long g c =
    let e = c.args.self.now in
    let start = g.R.Source.left c.args.source.now in
    let end = g.R.Source.left c.fill.new.source in
    let rest : List ℕ = c.count_offered-2.new.block.items in
    let ledger = c.count_offered-2.new.counted.ledger in
    let counted = c.count_offered-2.new.counted.bytes in
    let way = gone_on e.kind e.reports start (g.R.Source.left c.filled.source) end _ _ c.filled.counted.ledger
    c.filled.counted.bytes c.filled.block.items c.fill.new.block.items c.filled.invariant.way
    c.in_ok-fill.ensures.gathered ledger counted rest _ c.in_ok-count_offered-2.ensures.ok in
    let last : c.judge.new.self ≡ rest = c.judge.ensures ∙ (c.new-last.ensures ∙ rw c.replace-rest.ensures.value refl) in
    from_err _ c.in_err-count_batch.field-0.0 (λ e. IsLongRead e start end)
    (long_under e.kind e.reports start end _ _ ledger counted rest _ way
    (subst (λ (bytes : List ℕ). IsLong c.in_err-count_batch.field-0.0 (counted + length bytes)) last
    c.in_err-count_batch.ensures.long)) c.from_residual-in_err-count_batch.ensures.1
