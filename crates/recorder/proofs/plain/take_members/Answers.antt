use Rattle.std.proofs.Common.{◌<◌, List, length, refl, subst, suc}
use Rattle.json.specs.Token.{Token}
use Rattle.recorder.specs.Names.{name_of}
use Rattle.recorder.specs.ReadMembers.{AreParts}
use Rattle.recorder.specs.ByTokens.{fresh_tokens, value_tokens, later_tokens}
use Rattle.recorder.proofs.Somes.{found_is}
use Rattle.recorder.proofs.ByTokens.{Reached, reached_begun, reached_more, reached_all, fresh_adds, adds_shorter}
use Rattle.recorder.proofs.SpacedTokens.{closes_object, comma_follows}
use Rattle.recorder.proofs.plain.take_members.Goals as goal

pub members-init : goal.members-init
members-init c depth =
    reached_begun (AreParts c.args.size) (suc (suc (suc depth))) c.args.rest.now c.new-read_members.result
    (c.new-read_members.ensures c.args.size)

pub members-preserved : goal.members-preserved
members-preserved c depth =
    let deep = suc (suc (suc depth)) in
    let all = fresh_tokens c.args.rest.now in
    let name = name_of c.in-Some.name in
    let later = later_tokens c.take.new.rest in
    let one = fresh_adds (AreParts c.args.size) name deep c.take_name.new.rest later c.members.read_members
    c.take.new.self (found_is _ c.in_ok-take.field-0 c.in-Some-2.field-0 c.in-Some-2.is c.in_ok-take.ensures depth) in
    subst (λ (ts : List Token). Reached (AreParts c.args.size) deep all ts c.take.new.self)
    (comma_follows c.take.new.rest c.take_sign.new.rest (c.if-not-take_sign.ensures.found refl))
    (reached_more (AreParts c.args.size) deep all (value_tokens c.members.rest) (fresh_tokens c.take_name.new.rest)
    later name c.members.read_members c.take.new.self (c.members.invariant depth) c.in-Some.ensures one)

pub members-smaller : goal.members-smaller
members-smaller c =
    let name = name_of c.in-Some.name in
    let later = later_tokens c.take.new.rest in
    let one = fresh_adds (AreParts c.args.size) name (suc (suc (suc 0))) c.take_name.new.rest later
    c.members.read_members c.take.new.self
    (found_is _ c.in_ok-take.field-0 c.in-Some-2.field-0 c.in-Some-2.is c.in_ok-take.ensures 0) in
    subst (λ (ts : List Token). length ts < length (value_tokens c.members.rest))
    (comma_follows c.take.new.rest c.take_sign.new.rest (c.if-not-take_sign.ensures.found refl))
    (adds_shorter (AreParts c.args.size) name (suc (suc (suc 0))) (value_tokens c.members.rest)
    (fresh_tokens c.take_name.new.rest) later c.members.read_members c.take.new.self c.in-Some.ensures one)

pub returns-then-take_sign : goal.returns-then-take_sign
returns-then-take_sign c depth =
    let deep = suc (suc (suc depth)) in
    let all = fresh_tokens c.args.rest.now in
    let name = name_of c.in-Some.name in
    let later = later_tokens c.take.new.rest in
    let one = fresh_adds (AreParts c.args.size) name deep c.take_name.new.rest later c.members.read_members
    c.take.new.self (found_is _ c.in_ok-take.field-0 c.in-Some-2.field-0 c.in-Some-2.is c.in_ok-take.ensures depth) in
    reached_all (AreParts c.args.size) deep all later (later_tokens c.take_sign-then-not-take_sign.new.rest)
    c.take.new.self
    (reached_more (AreParts c.args.size) deep all (value_tokens c.members.rest) (fresh_tokens c.take_name.new.rest)
    later name c.members.read_members c.take.new.self (c.members.invariant depth) c.in-Some.ensures one)
    (closes_object c.take.new.rest c.take_sign.new.rest c.take_sign-then-not-take_sign.new.rest
    (c.if-not-take_sign.ensures.kept refl) (c.if-take_sign.ensures.found refl))
