use Rattle.std.proofs.Common.{◌≡◌, ◌<◌, ◌+◌, ◌∙◌, ℕ, Option, List, length, arith, sym, ap, subst}
use Rattle.std.specs.Arc.{arc_value}
use Rattle.std.specs.Option.{unwrap_or}
use Rattle.relations.specs.Relation.{Table, Related}
use Rattle.relations.specs.Cycle.{IsExactRow}
use Rattle.best.specs.Rule.{IsLength}
use Rattle.best.specs.Seats.{known_of}
use Rattle.search.specs.SourceRow.{SourceRow}
use Rattle.search.specs.Bound.{AtMost, Covers, CoversClosing, lengths_of}
use Rattle.search.proofs.Known.{read_cycle, read_keeps, read_known, read_few, read_within}
use Rattle.search.proofs.Levels.{written_back}
use Rattle.search.proofs.Through.{covers_each, shown_length}
use Rattle.search.proofs.under.row_for.Goals as goal

pub read-cap-requires : goal.read-cap-requires
read-cap-requires c = record { seat = c.requires.seat.0 }

pub row_cut-closing-requires-clause-source : goal.row_cut-closing-requires-clause-source
row_cut-closing-requires-clause-source c = subst (λ (t : Table). c.args.source < length t)
    (sym c.deref-table.ensures) c.requires.source

pub publish_length-requires-clause-seat : goal.publish_length-requires-clause-seat
publish_length-requires-clause-seat c = c.read-cap.ensures.seat

pub publish_length-requires-clause-known : goal.publish_length-requires-clause-known
publish_length-requires-clause-known c =
    read_known (known_of c.args.seat.now) (known_of c.read-cap.new.seat) c.read-cap.result
    c.read-cap.ensures.reads

pub publish_length-requires-clause-cycle : goal.publish_length-requires-clause-cycle
publish_length-requires-clause-cycle c =
    let t = c.deref-table.result.now in
    let of : (known_of c.args.seat.now).relation ≡ t = c.requires.seat.1 ∙ sym c.deref-table.ensures in
    let closing = c.row_cut-closing.result in
    λ less. subst (λ (x : Table). IsLength x (closing + 1)) (sym (c.read-cap.ensures.relation ∙ of))
    (shown_length t (unwrap_or c.read-cap.result (length t)) c.args.source closing
    c.row_cut-closing.new.labels c.sound.ensures.within c.row_cut-closing.ensures.exact
    c.row_cut-closing.ensures.nearest
    (read_few t (known_of c.args.seat.now) (known_of c.read-cap.new.seat) c.read-cap.result of
    c.read-cap.ensures.reads)
    (subst (λ (n : ℕ). closing < unwrap_or c.read-cap.result n) c.len-events.ensures less))

pub returns-clause-seat : goal.returns-clause-seat
returns-clause-seat c = (
  c.publish_length.ensures.seat,
  c.publish_length.ensures.relation ∙ (c.read-cap.ensures.relation ∙ c.requires.seat.1),
)

pub returns-clause-kept : goal.returns-clause-kept
returns-clause-kept c = λ k h. c.publish_length.ensures.kept k
    (read_keeps (known_of c.args.seat.now) (known_of c.read-cap.new.seat) c.read-cap.result
    c.read-cap.ensures.reads k h)

pub returns-clause-relation : goal.returns-clause-relation
returns-clause-relation c = ap (λ (l : SourceRow). l.relation) c.of.ensures ∙ c.in_ok-shared.ensures

pub returns-clause-cap : goal.returns-clause-cap
returns-clause-cap c = λ k h. subst (λ (o : Option ℕ). AtMost o k)
    (sym (ap (λ (l : SourceRow). l.cap) c.of.ensures))
    (read_within (known_of c.args.seat.now) (known_of c.read-cap.new.seat) c.read-cap.result
    c.read-cap.ensures.reads k h)

pub returns-clause-covers : goal.returns-clause-covers
returns-clause-covers c =
    let t = c.deref-table.result.now in
    let lengths = lengths_of c.publish_length.new.seat in
    subst (λ (x : Table). Covers (Related x) lengths c.args.source) c.deref-table.ensures
    (covers_each (Related t) (length t) (unwrap_or c.read-cap.result (length t)) c.args.source
    c.row_cut-closing.result c.row_cut-closing.new.labels c.sound.ensures.within
    c.row_cut-closing.ensures.exact c.row_cut-closing.ensures.nearest lengths
    (subst (λ (n : ℕ). CoversClosing lengths n c.row_cut-closing.result) c.len-events.ensures
    c.publish_length.ensures.covers))

pub of-requires : goal.of-requires
of-requires c =
    let shared = arc_value c.in_ok-shared.shared in
    let shared_is : shared ≡ arc_value c.args.relation.now = c.in_ok-shared.ensures in
    let row = c.row_cut-closing.new.labels in
    let written = written_back c.in_ok-labels.labels.len row c.in_ok-labels.labels.items (omega arith) in
    record {
      within = subst (λ (t : Table). c.args.source < length t) (sym shared_is) c.requires.source;
      cycle = read_cycle shared (known_of c.args.seat.now) (known_of c.read-cap.new.seat) c.read-cap.result
          (c.requires.seat.1 ∙ sym shared_is) c.read-cap.ensures.reads;
      exact = subst (λ (ns : List ℕ). IsExactRow (Related shared) (length shared)
          (unwrap_or c.read-cap.result (length shared)) c.args.source ns) (sym written)
          (subst (λ (t : Table). IsExactRow (Related t) (length t) (unwrap_or c.read-cap.result (length t))
          c.args.source row) (c.deref-table.ensures ∙ sym shared_is) c.row_cut-closing.ensures.exact);
    }
