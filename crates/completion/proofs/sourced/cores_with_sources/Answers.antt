use Rattle.std.proofs.Common.{◌≡◌, ◌++◌, ◌∷◌, [], ◌∙◌, ℕ, List, Vec, Global, map, length, get_or, arith, sym, ap, subst}
use Rattle.std.proofs.Common.{length-append}
use Rattle.std.proofs.lemmas.List.{length-map, map-append}
use Rattle.recording.specs.declared.event.Event.{Event}
use Rattle.values.specs.Values.{unsourced}
use Rattle.completion.specs.Performed.{AreSourced}
use Rattle.completion.proofs.SourcedEvents.{core_more, rest_core}
use Rattle.completion.proofs.sourced.cores_with_sources.Goals as goal

pub loop-core-preserved : goal.loop-core-preserved
loop-core-preserved c =
    let n : ℕ = c.loop-core.core in
    let made : List (List Event) = map (λ (l : Vec Event Global). l.items) c.loop-core.made.items in
    let es : List Event = c.in_ok-one.one.items in
    let is : map (λ (l : Vec Event Global). l.items) c.push.new.self.items ≡ made ++ es ∷ [] =
    ap (map (λ (l : Vec Event Global). l.items)) c.in_ok-push.ensures.items
    ∙ map-append (λ (l : Vec Event Global). l.items) c.loop-core.made.items (c.in_ok-one.one ∷ []) in
    let size : length made ≡ n =
    length-map c.loop-core.made.items (λ (l : Vec Event Global). l.items) ∙ c.loop-core.invariant.size in
    record {
      size = ap (λ (l : List (Vec Event Global)). length l) c.in_ok-push.ensures.items
          ∙ omega (arith, length-append c.loop-core.made.items (c.in_ok-one.one ∷ []), c.loop-core.invariant.size);
      rest = ap (map (λ (fs : List Event). map unsourced fs)) is
          ∙ rest_core made c.args.values.now.cores es n
          (omega (arith, c.loop-core-test.true, c.core_count-core-end.ensures)) c.in_ok-one.ensures.rest
          c.loop-core.invariant.rest;
      sources = λ d low. subst (λ (l : List (List Event)). AreSourced c.args.values.now c.args.sources.now d (get_or l d []))
          (sym is) (core_more c.args.values.now c.args.sources.now n made es size c.loop-core.invariant.sources
          c.in_ok-one.ensures.sources d low);
    }
