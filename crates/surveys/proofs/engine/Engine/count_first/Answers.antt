use Rattle.std.proofs.Common.{◌≡◌, ◌++◌, ◌∙◌, ℕ, List, true, arith, ap, drop, length, refl, subst, sym}
use Rattle.std.proofs.lemmas.Bool.Decides.{Decides-eqb}
use Rattle.std.proofs.lemmas.Slice.Eq.{starts_is}
use Rattle.surveys.specs.Lines.{IsWhole}
use Rattle.surveys.proofs.Batches.{none_tallied, whole_all}
use Rattle.surveys.proofs.engine.Engine.count_first.Goals as goal

pub returns-then-not-starts_with-clause-ok : goal.returns-then-not-starts_with-clause-ok
returns-then-not-starts_with-clause-ok g c = none_tallied c.args.self.now.kind c.args.self.now.reports c.args.bytes.now
    c.args.counted.now.ledger c.args.counted.now.bytes (g.W.Sink.written c.args.sink.now)

pub returns-clause-ok : goal.returns-clause-ok
returns-clause-ok g c =
    let bytes : List ℕ = c.args.bytes.now in
    let batch : List ℕ = c.args.batch in
    let size = ap (λ (b : List ℕ). length b) c.bytes-length.ensures in
    let begins : bytes ≡ batch ++ drop (length batch) bytes =
    subst (λ (b : List ℕ). bytes ≡ b ++ drop (length b) bytes) c.bytes.ensures
    ((starts_is Decides-eqb bytes c.bytes.result.now true c.if-not-starts_with.ensures.value).0 refl) in
    let whole : IsWhole batch =
    whole_all c.last_end.result c.bytes-else-not-starts_with.result.now batch c.bytes-else-not-starts_with.ensures
    (omega (arith, c.if-last_end-length.false, size)) c.last_end.ensures.whole in record {
      more = batch;
      cut = begins ∙ ap (λ (n : ℕ). batch ++ drop n bytes) (sym size);
      grows = c.in_ok-count_batch.ensures.grows whole;
    }
