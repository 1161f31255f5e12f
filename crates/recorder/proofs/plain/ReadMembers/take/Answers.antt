use Rattle.std.proofs.Common.{suc, ◌∙◌, sym, subst, ℕ, List}
use Rattle.recorder.specs.Reading.{list_in, value_in}
use Rattle.recorder.specs.ByTokens.{GivesValue, value_tokens, later_tokens}
use Rattle.recorder.proofs.Somes.{if_some, some_is}
use Rattle.recorder.proofs.RecordingMembers.{version_added, cores_added, writes_added, init_added}
use Rattle.recorder.proofs.plain.ReadMembers.take.Goals as goal

pub returns-in-Version : goal.returns-in-Version
returns-in-Version c = if_some c.once.result c.once.ensures (λ u h depth.
    let read = some_is _ c.take_natural.result h.1 c.take_natural.ensures in
    rw c.in-Version.is (version_added c.args.self.now c.once.new.place (read.2 (suc (suc (suc depth)))) h.0
    (h.2 ∙ read.1)))

pub returns-in_ok-take_lists-in-Cores : goal.returns-in_ok-take_lists-in-Cores
returns-in_ok-take_lists-in-Cores c = if_some c.once-in-Cores.result c.once-in-Cores.ensures (λ u h depth.
    let read = some_is _ c.in_ok-take_lists-in-Cores.field-0 h.1 c.in_ok-take_lists-in-Cores.ensures in
    rw c.in-Cores.is (cores_added c.args.self.now c.once-in-Cores.new.place (read.2 depth).1 (read.2 depth).2 h.0
    (h.2 ∙ read.1)))

pub returns-in_ok-take_lists-in-Writes : goal.returns-in_ok-take_lists-in-Writes
returns-in_ok-take_lists-in-Writes c = if_some c.once-in-Writes.result c.once-in-Writes.ensures (λ u h depth.
    let read = some_is _ c.in_ok-take_lists-in-Writes.field-0 h.1 c.in_ok-take_lists-in-Writes.ensures in
    rw c.in-Writes.is (writes_added c.args.self.now c.once-in-Writes.new.place (read.2 depth).1 (read.2 depth).2 h.0
    (h.2 ∙ read.1)))

pub returns-in_ok-take_list-in-Init : goal.returns-in_ok-take_list-in-Init
returns-in_ok-take_list-in-Init c = if_some c.once-in-Init.result c.once-in-Init.ensures (λ u h depth.
    let read = some_is _ c.in_ok-take_list-in-Init.field-0 h.1 c.in_ok-take_list-in-Init.ensures in
    let given = subst (λ (xs : List ℕ). GivesValue (list_in value_in) (suc (suc (suc depth)))
    (value_tokens c.args.rest.now) xs (later_tokens c.take_list.new.rest)) (sym (read.2 (suc depth)).2) (read.2 (suc depth)).1 in
    rw c.in-Init.is (init_added c.args.self.now c.once-in-Init.new.place given h.0 (h.2 ∙ read.1)))
