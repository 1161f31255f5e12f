use Rattle.std.proofs.Common.{List, arith, sym, subst}
use Rattle.std.specs.List.{All}
use Rattle.std.proofs.lemmas.List.Elements.{All-push}
use Rattle.completion.specs.declared.cause.Link.{Link}
use Rattle.completion.specs.Inferred.{IsLink}
use Rattle.completion.proofs.way.links_from.Goals as goal

pub returns-then-then-eq0 : goal.returns-then-then-eq0
returns-then-then-eq0 c v causes = subst (λ (l : List Link). All (IsLink v) l) (sym {A = List Link} c.in_ok-push.ensures.items)
    (All-push (IsLink v) c.loop.way.items _ (c.loop.invariant v causes) (causes _ _ (omega (arith, c.if-steps-number.false))))

pub loop-preserved : goal.loop-preserved
loop-preserved c v causes = subst (λ (l : List Link). All (IsLink v) l) (sym {A = List Link} c.in_ok-push.ensures.items)
    (All-push (IsLink v) c.loop.way.items _ (c.loop.invariant v causes) (causes _ _ (omega (arith, c.if-steps-number.false))))
