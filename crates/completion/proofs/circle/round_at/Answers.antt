use Rattle.std.proofs.Common.{List, sym, subst}
use Rattle.std.specs.List.{All}
use Rattle.completion.specs.declared.cause.Link.{Link}
use Rattle.completion.specs.Inferred.{IsLink}
use Rattle.completion.proofs.circle.round_at.Goals as goal

pub returns : goal.returns
returns c v links = c.in_ok-round.ensures v
    (subst (λ (l : List Link). All (IsLink v) l) (sym c.deref-2.ensures.value) links)
