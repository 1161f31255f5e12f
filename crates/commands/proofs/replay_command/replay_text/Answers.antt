use Rattle.std.proofs.Common.{arith}
use Rattle.std.proofs.lemmas.Result.{IfOk-weaker}
use Rattle.replay.specs.Steps.{most_stores}
use Rattle.commands.proofs.replay_command.replay_text.Goals as goal

pub steps_text-requires-clause-within : goal.steps_text-requires-clause-within
steps_text-requires-clause-within c = rw c.deref.ensures.value
    (c.in_ok-program.ensures.replay (most_stores c.args.recording.now.cores) (omega arith)).within

pub steps_text-requires-clause-few : goal.steps_text-requires-clause-few
steps_text-requires-clause-few c =
    let few = (c.in_ok-program.ensures.replay (most_stores c.args.recording.now.cores) (omega arith)).few in
    rw c.deref.ensures.value (omega arith)

pub returns : goal.returns
returns c =
    let made = c.in_ok-program.ensures in IfOk-weaker c.parts_text.result _ _ (λ text is. record {
      is = rw (
        c.most_stores.ensures,
        c.deref-2.ensures.value,
        c.in_ok-text.ensures,
        c.deref-3.ensures.value,
        c.in_ok-script.ensures.text,
        made.program,
        c.deref.ensures.value,
        made.steps,
      ) at is;
      program = rw made.program at (c.has_one_text.ensures.again _ c.sound-2.ensures.lawful);
      script = rw (
        c.in_ok-script.ensures.text,
        made.program,
        c.deref.ensures.value,
        made.steps,
      ) at c.in_ok-script.ensures.again;
      replay = λ capacity room. rw (made.program, made.steps) at (made.replay capacity room);
    }) c.parts_text.ensures
