use Rattle.std.proofs.Common.{◌<◌, ◌≤◌, ℕ, List, Bor, [], arith, length, map, sym}
use Rattle.std.proofs.lemmas.List.{get_or-map, get_or_past, length-map}
use Rattle.cycles.specs.Blocks.{Row}
use Rattle.cycles.proofs.blocks.row_in.Goals as goal

-- a row with the bytes of its text
abbrev row : Bor (List ℕ) × ℕ × ℕ × ℕ → Row
row r = (r.0.now, r.1, r.2, r.3)

pub returns-then-number-rows : goal.returns-then-number-rows
returns-then-number-rows c =
    let past : length (map row c.args.rows.now) ≤ c.args.number =
    omega (arith, length-map c.args.rows.now row, c.if-number-rows.true) in
    sym (get_or_past (map row c.args.rows.now) c.args.number ([], 7, 7, 0) past)

pub returns : goal.returns
returns c =
    let inside : c.args.number < length c.args.rows.now = omega (arith, c.if-number-rows.false) in
    sym (get_or-map row c.args.rows.now c.args.number _ ([], 7, 7, 0) inside)
