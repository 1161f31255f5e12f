use Rattle.std.proofs.Common.{Bool, List, length, arith, sym, ap, subst}
use Rattle.std.specs.List.{All}
use Rattle.std.proofs.lemmas.List.Elements.{All-push}
use Rattle.completion.specs.declared.cause.Link.{Link}
use Rattle.completion.specs.Inferred.{IsLink}
use Rattle.completion.proofs.PairRows.{put_back}
use Rattle.completion.proofs.inferred.Inferred.put.Goals as goal

pub returns-then-not-put : goal.returns-then-not-put
returns-then-not-put c =
    let rows = c.args.self.now.rows in
    let value = c.as_mut_slice.ensures.value in
    let back = put_back c.args.values.now rows.len c.put.new.rows c.as_mut_slice.result.now rows.items c.args.link value
    c.put.ensures.size (omega (arith, ap (λ (l : List (List Bool)). length l) value, c.as_mut_slice.ensures.len))
    c.put.ensures.square (c.put.ensures.shown c.args.values.now) c.requires.inferred.shown c.requires.link in
    record { square = back.0; shown = back.1; links = c.requires.inferred.links }

pub returns : goal.returns
returns c =
    let rows = c.args.self.now.rows in
    let value = c.as_mut_slice.ensures.value in
    let back = put_back c.args.values.now rows.len c.put.new.rows c.as_mut_slice.result.now rows.items c.args.link value
    c.put.ensures.size (omega (arith, ap (λ (l : List (List Bool)). length l) value, c.as_mut_slice.ensures.len))
    c.put.ensures.square (c.put.ensures.shown c.args.values.now) c.requires.inferred.shown c.requires.link in
    let links = All-push (IsLink c.args.values.now) c.args.self.now.links.items c.args.link c.requires.inferred.links c.requires.link in
    record {
      square = back.0;
      shown = back.1;
      links = subst (λ (l : List Link). All (IsLink c.args.values.now) l) (sym {A = List Link} c.in_ok-push.ensures.items)
          links;
    }
