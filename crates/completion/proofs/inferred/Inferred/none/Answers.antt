use Rattle.std.proofs.Common.{List, sym, subst}
use Rattle.std.specs.List.{All}
use Rattle.std.proofs.lemmas.List.Elements.{All-nil}
use Rattle.completion.specs.declared.cause.Link.{Link}
use Rattle.completion.specs.Inferred.{IsLink}
use Rattle.completion.proofs.inferred.Inferred.none.Goals as goal

pub returns : goal.returns
returns c = record {
  square = c.in_ok-rows.ensures.square;
  shown = c.in_ok-rows.ensures.shown c.args.values.now;
  links = subst (λ (l : List Link). All (IsLink c.args.values.now) l) (sym c.new.ensures.items)
      (All-nil (IsLink c.args.values.now));
}
