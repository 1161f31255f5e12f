use Rattle.std.proofs.Common.{◌<◌, ◌∷◌, [], List, length, refl, subst}
use Rattle.json.specs.Token.{Token}
use Rattle.recorder.specs.ReadMembers.{AreFields}
use Rattle.recorder.specs.ByTokens.{fresh_tokens, value_tokens, later_tokens}
use Rattle.recorder.proofs.ByTokens.{Reached, reached_begun, reached_more, reached_all, fresh_adds, adds_shorter}
use Rattle.recorder.proofs.SpacedTokens.{closes_object, comma_follows}
use Rattle.recorder.proofs.plain.events.take_fields.Goals as goal

pub members-init : goal.members-init
members-init c depth = reached_begun AreFields depth c.args.rest.now c.new-fields.result c.new-fields.ensures

pub members-preserved : goal.members-preserved
members-preserved c depth =
    let key = c.in_ok-key.key ∷ [] in
    let later = later_tokens c.take.new.rest in
    let one = fresh_adds AreFields key depth c.take_key.new.rest later c.members.fields c.take.new.self
    (c.in_ok-take.ensures depth) in
    subst (λ (ts : List Token). Reached AreFields depth (fresh_tokens c.args.rest.now) ts c.take.new.self)
    (comma_follows c.take.new.rest c.take_sign.new.rest (c.if-not-take_sign.ensures.found refl))
    (reached_more AreFields depth (fresh_tokens c.args.rest.now) (value_tokens c.members.rest)
    (fresh_tokens c.take_key.new.rest) later key c.members.fields c.take.new.self (c.members.invariant depth)
    c.in_ok-key.ensures one)

pub members-smaller : goal.members-smaller
members-smaller c =
    let key = c.in_ok-key.key ∷ [] in
    let later = later_tokens c.take.new.rest in
    let one = fresh_adds AreFields key 0 c.take_key.new.rest later c.members.fields c.take.new.self
    (c.in_ok-take.ensures 0) in
    subst (λ (ts : List Token). length ts < length (value_tokens c.members.rest))
    (comma_follows c.take.new.rest c.take_sign.new.rest (c.if-not-take_sign.ensures.found refl))
    (adds_shorter AreFields key 0 (value_tokens c.members.rest) (fresh_tokens c.take_key.new.rest) later
    c.members.fields c.take.new.self c.in_ok-key.ensures one)

pub returns-then-take_sign : goal.returns-then-take_sign
returns-then-take_sign c depth =
    let key = c.in_ok-key.key ∷ [] in
    let later = later_tokens c.take.new.rest in
    let one = fresh_adds AreFields key depth c.take_key.new.rest later c.members.fields c.take.new.self
    (c.in_ok-take.ensures depth) in
    reached_all AreFields depth (fresh_tokens c.args.rest.now) later
    (later_tokens c.take_sign-then-not-take_sign.new.rest) c.take.new.self
    (reached_more AreFields depth (fresh_tokens c.args.rest.now) (value_tokens c.members.rest)
    (fresh_tokens c.take_key.new.rest) later key c.members.fields c.take.new.self (c.members.invariant depth)
    c.in_ok-key.ensures one)
    (closes_object c.take.new.rest c.take_sign.new.rest c.take_sign-then-not-take_sign.new.rest
    (c.if-not-take_sign.ensures.kept refl) (c.if-take_sign.ensures.found refl))
