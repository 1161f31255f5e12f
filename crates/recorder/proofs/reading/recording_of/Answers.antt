use Rattle.std.proofs.Common.{◌≡◌, ◌∙◌, sym, ap, refl, ℕ, List, Vec, Global, map}
use Rattle.std.proofs.lemmas.Bool.{iff_false}
use Rattle.recorder.specs.ParsedModel.{initial_values}
use Rattle.recorder.specs.ParsedModel.{model_of}
use Rattle.recording.specs.Recording.{executed}
use Rattle.recorder.proofs.HeldAnswers.{answers_held, version_held}
use Rattle.recorder.proofs.reading.recording_of.Goals as goal

pub returns-then-not-is_versioned : goal.returns-then-not-is_versioned
returns-then-not-is_versioned c bytes read_members =
    version_held c.args.size bytes read_members.0 read_members.2 (model_of c.args.contents) read_members.1
    (sym read_members.3) read_members.4
    (λ right. iff_false c.is_versioned.ensures c.if-not-is_versioned.true right)

pub returns : goal.returns
returns c bytes read_members =
    let q = model_of c.args.contents in
    let values : c.in_ok-init.init.items ≡ initial_values q.values q.write_lists =
    c.in_ok-init.ensures ∙ ap (λ (lists : List (Vec ℕ Global)). initial_values q.values
    (map (λ v. v.items) lists)) c.as_slice.ensures.value in
    answers_held c.args.size bytes read_members.0 read_members.2 q
    (executed q.cores q.write_lists c.in_ok-init.init.items) c.in_ok-from_parts.field-0
    read_members.1 (sym read_members.3) read_members.4 (c.if-not-is_versioned.ensures.0 refl)
    (ap (λ (vs : List ℕ). executed q.cores q.write_lists vs) values)
    c.in_ok-from_parts.ensures.exact c.in_ok-from_parts.ensures.ok c.in_ok-from_parts.ensures.err
