use Rattle.std.proofs.Common.{◌≡◌, ◌<◌, ◌∙◌, inl, inr, ℕ, List, length, get_or, set, take_all, arith, sym, ap, subst}
use Rattle.std.proofs.Common.{length-set, get_or-set_same, get_or-set_other}
use Rattle.std.proofs.lemmas.Bool.{cases_eq}
use Rattle.std.proofs.lemmas.List.{take-append-le}
use Rattle.best.specs.Seats.{known_of}
use Rattle.relations.specs.Relation.{Table, Related}
use Rattle.search.specs.Cycles.{IsLeastLength}
use Rattle.search.specs.SourceRow.{SourceRow, AreLeastRows, IsNamed, IsSourceRow}
use Rattle.search.proofs.Known.{read_keeps}
use Rattle.search.proofs.Collected.{read_least, least_known}
use Rattle.search.proofs.Shortened.{least_rows}
use Rattle.search.proofs.collect.cut_by.Goals as goal

pub loop-row-preserved : goal.loop-row-preserved
loop-row-preserved c =
    let t = c.args.relation.now in
    let rows = c.loop-row.row-items in
    let inv = c.loop-row.invariant in
    let i = c.loop-row.row-index in
    let old = c.row-item.result in
    let new = c.cut_to.new.self in
    let in_rows : i < length rows = omega arith in
    let at : i < length t = omega (arith, in_rows, inv.size, c.requires.rows.size) in
    let is : get_or rows i old ≡ get_or c.args.rows.items i old = inv.kept i old (omega arith) in
    let was = c.requires.rows.each i old at in
    let named : IsNamed t c.read-cap.result i new = record {
      shares = c.cut_to.ensures.shares ∙ (ap (λ (l : SourceRow). l.relation) is ∙ was.shares);
      from = c.cut_to.ensures.from ∙ (ap (λ (l : SourceRow). l.source) is ∙ was.from);
      cut = c.cut_to.ensures.cut;
    } in
    record {
      size = length-set rows i new ∙ inv.size;
      cut = λ v d below. elim (cases_eq v i) [
        | inl here ↦ subst (λ (x : ℕ). IsNamed t c.read-cap.result x (get_or (set rows i new) x d)
            × IsSourceRow (get_or (set rows i new) x d)) (sym here)
            (subst (λ (l : SourceRow). IsNamed t c.read-cap.result i l × IsSourceRow l)
            (sym (get_or-set_same rows i new d in_rows)) (named, c.sound-in-loop-row.ensures))
        | inr other ↦ subst (λ (l : SourceRow). IsNamed t c.read-cap.result v l × IsSourceRow l)
            (sym (get_or-set_other rows i v new d other)) (inv.cut v d (omega (arith, below, other)))
      ];
      kept = λ v d past. get_or-set_other rows i v new d (λ here. omega (arith, here, past))
          ∙ inv.kept v d (omega (arith, past));
    }

pub cut_to-requires : goal.cut_to-requires
cut_to-requires c =
    let t = c.args.relation.now in
    let inv = c.loop-row.invariant in
    let i = c.loop-row.row-index in
    let old = c.row-item.result in
    let at : i < length t = omega (arith, inv.size, c.requires.rows.size, c.loop-row-test.true) in
    subst (λ (x : Table). IsLeastLength (Related x) c.read-cap.result)
    (sym (ap (λ (l : SourceRow). l.relation) (inv.kept i old (omega arith))
    ∙ (c.requires.rows.each i old at).shares)) (read_least c.args.relation.now (known_of c.args.seat.now) (known_of c.read-cap.new.seat)
    c.args.rows.items c.requires.seat.1 c.sound.ensures.within c.requires.rows c.read-cap.result
    c.read-cap.ensures.reads)

pub returns-clause-rows : goal.returns-clause-rows
returns-clause-rows c =
    let t = c.args.relation.now in
    let rows = c.loop-row.row-items in
    let inv = c.loop-row.invariant in
    let size : length rows ≡ length t = inv.size ∙ c.requires.rows.size in (
      c.read-cap.result,
      subst (λ (l : List SourceRow). AreLeastRows t c.read-cap.result l)
          (sym (take-append-le c.args.rows.len rows _ (omega (arith, inv.size))
          ∙ take_all c.args.rows.len rows (omega (arith, inv.size))))
          (least_rows t c.read-cap.result rows size (read_least c.args.relation.now (known_of c.args.seat.now) (known_of c.read-cap.new.seat)
          c.args.rows.items c.requires.seat.1 c.sound.ensures.within c.requires.rows c.read-cap.result
          c.read-cap.ensures.reads)
          (λ v d at. inv.cut v d (omega (arith, at, size, inv.size, c.deref_mut-row-items.ensures.len, c.loop-row-test.false)))),
    )

pub returns-clause-kept : goal.returns-clause-kept
returns-clause-kept c = read_keeps (known_of c.args.seat.now) (known_of c.read-cap.new.seat) c.read-cap.result
    c.read-cap.ensures.reads

pub returns-clause-knows : goal.returns-clause-knows
returns-clause-knows c =
    least_known c.args.relation.now (known_of c.args.seat.now) (known_of c.read-cap.new.seat)
    c.read-cap.result c.read-cap.ensures.reads (read_least c.args.relation.now (known_of c.args.seat.now) (known_of c.read-cap.new.seat)
    c.args.rows.items c.requires.seat.1 c.sound.ensures.within c.requires.rows c.read-cap.result
    c.read-cap.ensures.reads)
