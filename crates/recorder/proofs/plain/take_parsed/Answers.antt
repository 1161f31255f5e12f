use Rattle.std.proofs.Common.{refl, subst, List, []}
use Rattle.json.specs.Token.{Token}
use Rattle.recorder.specs.ReadMembers.{AreParts, clipped_contents}
use Rattle.recorder.specs.ByTokens.{GivesMembers, fresh_tokens, value_tokens, later_tokens}
use Rattle.recorder.proofs.Somes.{known, found_is}
use Rattle.recorder.proofs.ByTokens.{gives_object_of}
use Rattle.recorder.proofs.RecordingMembers.{found_gives}
use Rattle.recorder.proofs.SpacedTokens.{opens_object}
use Rattle.recorder.proofs.plain.take_parsed.Goals as goal

pub returns : goal.returns
returns c = known c.into_contents.result (λ q found.
    let all = fresh_tokens c.take_sign.new.rest in
    let p = c.in-Some.read_members in
    let members : GivesMembers (AreParts c.args.size) 126 all (later_tokens c.take_members.new.rest) p =
    found_is _ c.in_ok-read_members.field-0 p c.in-Some.is c.in_ok-read_members.ensures 123 in
    let known : GivesMembers (AreParts c.args.size) 126 all [] p =
    subst (λ (r : List Token). GivesMembers (AreParts c.args.size) 126 all r p) (c.if-not-is_over.ensures refl)
    members in
    let is = found_gives c.args.size p c.len-keys.result known.found c.into_contents.result q known.are c.len-keys.ensures
    c.into_contents.ensures found in (
      is.0,
      gives_object_of (AreParts c.args.size) clipped_contents 126 (value_tokens c.args.rest.now) all [] p is.0
          (opens_object c.args.rest.now c.take_sign.new.rest (c.if-not-take_sign.ensures.found refl)) known is.1,
      is.2,
    ))
