use Rattle.std.proofs.Common.{drop, length, arith}
use Rattle.relations.specs.Direct.{IsPair}
use Rattle.relations.proofs.Agree.{filled_relation, filled_size, related_is_forced}
use Rattle.relations.proofs.Readers.{all_forced}
use Rattle.relations.proofs.relation.Relation.of.Goals as goal

pub invariant_of-result : goal.invariant_of-result
invariant_of-result c =
    let whole = filled_relation c.args.recording.now (IsPair c.args.recording.now) c.in_ok-events.events.items
    c.put_pairs.new.rows (drop (length c.put_pairs.new.rows) c.in_ok-rows.rows.items) c.in_ok-rows.rows.len
    c.requires (omega (arith, c.in_ok-rows.rows.ok.0, c.in_ok-rows.ensures.size)) c.in_ok-events.ensures
    c.put_pairs.ensures in
    whole.0

pub returns-clause-size : goal.returns-clause-size
returns-clause-size c =
    let whole = filled_relation c.args.recording.now (IsPair c.args.recording.now) c.in_ok-events.events.items
    c.put_pairs.new.rows (drop (length c.put_pairs.new.rows) c.in_ok-rows.rows.items) c.in_ok-rows.rows.len
    c.requires (omega (arith, c.in_ok-rows.rows.ok.0, c.in_ok-rows.ensures.size)) c.in_ok-events.ensures
    c.put_pairs.ensures in
    filled_size c.args.recording.now _ (IsPair c.args.recording.now) c.sound.ensures.well_formed whole.2

pub returns-clause-related : goal.returns-clause-related
returns-clause-related c =
    let whole = filled_relation c.args.recording.now (IsPair c.args.recording.now) c.in_ok-events.events.items
    c.put_pairs.new.rows (drop (length c.put_pairs.new.rows) c.in_ok-rows.rows.items) c.in_ok-rows.rows.len
    c.requires (omega (arith, c.in_ok-rows.rows.ok.0, c.in_ok-rows.ensures.size)) c.in_ok-events.ensures
    c.put_pairs.ensures in
    related_is_forced c.args.recording.now _ c.sound.ensures.well_formed
    (all_forced c.args.recording.now _ whole.2)

pub returns-clause-table : goal.returns-clause-table
returns-clause-table c =
    let whole = filled_relation c.args.recording.now (IsPair c.args.recording.now) c.in_ok-events.events.items
    c.put_pairs.new.rows (drop (length c.put_pairs.new.rows) c.in_ok-rows.rows.items) c.in_ok-rows.rows.len
    c.requires (omega (arith, c.in_ok-rows.rows.ok.0, c.in_ok-rows.ensures.size)) c.in_ok-events.ensures
    c.put_pairs.ensures in
    whole.1
