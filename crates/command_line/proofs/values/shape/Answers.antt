use Rattle.std.proofs.Common.{◌≡◌, ◌∙◌, ℕ, List, None, Ok, Err, Option, Some, ap, codes, option_map, refl, sym}
use Rattle.std.specs.Prelude.{option_and_then}
use Rattle.std.specs.declared.result.Result.{Result}
use Rattle.clap.specs.Words.{Row, Text, found_of, one_of, rows_of}
use Rattle.program.specs.declared.shape_error.ShapeError.{ShapeError}
use Rattle.program.specs.Shapes.{Sizes, shape_of}
use Rattle.command_line.specs.Entries.{number_written, size_of}
use Rattle.command_line.specs.Refusals.{refusal_in, shape_asked}
use Rattle.command_line.proofs.values.shape.Goals as goal
use Rattle.command_line.proofs.values.shape.Goals.{In-Err, In-None, In-Ok}

mapped : {X : Type 0} (g : ℕ → X) (entry : Option Text)
    → option_map (λ text. g (number_written text)) entry ≡ option_map g (option_map number_written entry)
mapped g None = refl
mapped g (Some text) = refl

-- the shape that sizes ask for, by the number of cores, if there is one
asked_by : (rows : List Row) (number : Option ℕ) → number ≡ option_map number_written (one_of (codes "cores") rows)
    → shape_asked rows ≡ option_map (λ n. shape_of n (size_of (codes "ops") rows) (size_of (codes "addresses") rows)) number
asked_by rows number is =
    let g = λ (n : ℕ). shape_of n (size_of (codes "ops") rows) (size_of (codes "addresses") rows) in
    mapped g (one_of (codes "cores") rows) ∙ ap (option_map g) (sym is)

-- the shape that the sizes cores, ops and addresses make
asked : (rows : List Row) (number : Option ℕ) (cores ops addresses : ℕ) (made : Result Sizes ShapeError)
    → number ≡ option_map number_written (one_of (codes "cores") rows) → number ≡ Some cores
    → ops ≡ size_of (codes "ops") rows → addresses ≡ size_of (codes "addresses") rows
    → made ≡ shape_of cores ops addresses → shape_asked rows ≡ Some made
asked rows number cores ops addresses made is some first second shape =
    asked_by rows number is
    ∙ ap (option_map (λ n. shape_of n (size_of (codes "ops") rows) (size_of (codes "addresses") rows))) some
    ∙ ap (λ (n : ℕ). Some (shape_of cores n (size_of (codes "addresses") rows))) (sym first)
    ∙ ap (λ (n : ℕ). Some (shape_of cores ops n)) (sym second)
    ∙ ap (λ (r : Result Sizes ShapeError). Some r) (sym shape)

ok : (c : In-Ok) → shape_asked (rows_of (found_of c.args.matches.now)) ≡ Some (Ok c.in-Ok.shape)
ok c = asked (rows_of (found_of c.args.matches.now)) c.number.result c.in-Some.cores c.number_or-ops.result
    c.number_or-addresses.result c.new.result c.number.ensures c.in-Some.is c.number_or-ops.ensures
    c.number_or-addresses.ensures c.new.ensures
    ∙ ap (λ (r : Result Sizes ShapeError). Some r) c.in-Ok.is

err : (c : In-Err) → shape_asked (rows_of (found_of c.args.matches.now)) ≡ Some (Err c.in-Err.refusal)
err c = asked (rows_of (found_of c.args.matches.now)) c.number.result c.in-Some.cores c.number_or-ops.result
    c.number_or-addresses.result c.new.result c.number.ensures c.in-Some.is c.number_or-ops.ensures
    c.number_or-addresses.ensures c.new.ensures
    ∙ ap (λ (r : Result Sizes ShapeError). Some r) c.in-Err.is

none : (c : In-None) → shape_asked (rows_of (found_of c.args.matches.now)) ≡ None
none c =
    let rows = rows_of (found_of c.args.matches.now) in
    asked_by rows c.number.result c.number.ensures
    ∙ ap (option_map (λ n. shape_of n (size_of (codes "ops") rows) (size_of (codes "addresses") rows))) c.in-None.is

pub returns-in-Ok-clause-ok : goal.returns-in-Ok-clause-ok
returns-in-Ok-clause-ok c = ok c

pub returns-in-Ok-clause-err : goal.returns-in-Ok-clause-err
returns-in-Ok-clause-err c = sym (ap (option_and_then refusal_in) (ok c))

pub returns-in-Err-clause-err : goal.returns-in-Err-clause-err
returns-in-Err-clause-err c = sym (ap (option_and_then refusal_in) (err c))

pub returns-in-None-clause-ok : goal.returns-in-None-clause-ok
returns-in-None-clause-ok c = none c

pub returns-in-None-clause-err : goal.returns-in-None-clause-err
returns-in-None-clause-err c = sym (ap (option_and_then refusal_in) (none c))
