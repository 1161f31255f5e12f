use Rattle.std.proofs.Common.{◌≡◌, ◌∙◌, ◌∷◌, [], ℕ, List, length, length-append, ap, sym, arith}
use Rattle.std.specs.Arc.{arc_value}
use Rattle.relations.specs.Relation.{Table}
use Rattle.search.specs.SourceRow.{Job, job_of}
use Rattle.search.proofs.Labels.{jobs_share}
use Rattle.search.proofs.Shortened.{each_push}
use Rattle.search.proofs.alone.jobs_of.Goals as goal

pub new-requires : goal.new-requires
new-requires c = omega (
  arith,
  c.loop-source-test.true,
  c.len-source-end.ensures,
  ap (λ (t : Table). length t) c.deref-table.ensures,
)

pub loop-source-preserved : goal.loop-source-preserved
loop-source-preserved c =
    let t = arc_value c.args.relation.now in
    let inv = c.loop-source.invariant in
    record {
      size = omega (
        arith,
        ap (λ (l : List Job). length l) c.in_ok-push.ensures.items,
        length-append c.loop-source.jobs.items (c.in_ok-job.job ∷ []),
        inv.size,
      );
      each = each_push (λ e job. job ≡ job_of t e) c.loop-source.jobs.items c.push.new.self.items
          c.in_ok-job.job c.in_ok-push.ensures.items inv.each
          (c.in_ok-job.ensures ∙ ap (λ (e : ℕ). job_of t e) (sym inv.size));
    }

pub returns-clause-one_each : goal.returns-clause-one_each
returns-clause-one_each c =
    let n : c.len-source-end.result ≡ length (arc_value c.args.relation.now) =
    omega (arith, c.len-source-end.ensures, ap (λ (t : Table). length t) c.deref-table.ensures) in
    let size = c.loop-source.invariant.size in
    record {
      one_each = omega (arith, size, n);
      each = λ e d at. c.loop-source.invariant.each e d (omega (arith, at, n, size));
    }

pub returns-clause-shared : goal.returns-clause-shared
returns-clause-shared c =
    let n : c.len-source-end.result ≡ length (arc_value c.args.relation.now) =
    omega (arith, c.len-source-end.ensures, ap (λ (t : Table). length t) c.deref-table.ensures) in
    let size = c.loop-source.invariant.size in
    jobs_share (arc_value c.args.relation.now) c.loop-source.jobs.items (record {
      one_each = omega (arith, size, n);
      each = λ e d at. c.loop-source.invariant.each e d (omega (arith, at, n, size));
    })
