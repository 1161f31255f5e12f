use Rattle.std.proofs.Common.{◌+◌, ◌∙◌, [], ℕ, List, Bor, drop, get_or, map, sym}
use Rattle.std.proofs.lemmas.List.{at_drop_more}
use Rattle.explanation.specs.Diy.{named_by}
use Rattle.explanation.proofs.NamedRows.{first_named, later_named}
use Rattle.explanation.proofs.diy.named_by.Goals as goal

-- a row's texts
abbrev texts : Bor (List ℕ) × Bor (List ℕ) → List ℕ × List ℕ
texts r = (r.0.now, r.1.now)

-- what stands past the end
abbrev none : Bor (List ℕ) × Bor (List ℕ)
none = (record { ref_ptr = (0, 0); now = [] }, record { ref_ptr = (0, 0); now = [] })

pub returns-then-eq : goal.returns-then-eq
returns-then-eq c =
    let rows = c.args.rows.now in
    let i = c.loop-row.row-index in
    sym (first_named c.args.words.now (texts (get_or rows i none)) (map texts (drop (i + 1) rows)) cc)
    ∙ sym (at_drop_more (λ rest. named_by (map texts rest) c.args.words.now) rows i none c.loop-row-test.true)
    ∙ c.loop-row.invariant

pub loop-row-preserved : goal.loop-row-preserved
loop-row-preserved c =
    let rows = c.args.rows.now in
    let i = c.loop-row.row-index in
    sym (later_named c.args.words.now (texts (get_or rows i none)) (map texts (drop (i + 1) rows)) cc)
    ∙ sym (at_drop_more (λ rest. named_by (map texts rest) c.args.words.now) rows i none c.loop-row-test.true)
    ∙ c.loop-row.invariant
