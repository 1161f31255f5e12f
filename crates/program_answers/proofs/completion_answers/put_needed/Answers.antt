use Rattle.std.proofs.Common.{inl, inr, [], refl, sym}
use Rattle.std.proofs.lemmas.List.{append-nil}
use Rattle.program_answers.specs.Part.{part_text}
use Rattle.program_answers.proofs.completion_answers.put_needed.Goals as goal

pub returns-in_default : goal.returns-in_default
returns-in_default c = (
  [],
  inl (refl, rw c.in_default.is at c.in_ok-part.ensures),
  sym (append-nil c.args.out.now.items),
)

pub returns : goal.returns
returns c = (
  part_text c.in-Some.part c.in_ok-recording.recording,
  inr (record {
    part = c.in-Some.part;
    needed = rw c.in-Some.is at c.in_ok-part.ensures;
    recording = c.in_ok-recording.recording;
    only = c.in_ok-recording.ensures.some;
    none = c.in_ok-recording.ensures.none;
    text_is = refl;
  }),
  c.in_ok-put_part.ensures,
)
