-- The text of a histogram: a line for each outcome with how many runs came to it, as litmus7 prints it, and the first
-- of them.
use Rattle.std.specs.Prelude.{◌+◌, ◌++◌, ◌∷◌, ◌==◌, ◌%◌, ◌^◌, ℕ, Bool, true, false, if◌then◌else◌, List, [], codes}
use Rattle.std.specs.Prelude.{decimal, length}
use Rattle.std.specs.List.{flat_map}
use Rattle.program.specs.Parts.{Parts}
use Rattle.outcome_texts.specs.OutcomeText.{items_text}
use Rattle.histograms.specs.declared.text.Mark.{Mark}
use Rattle.histograms.specs.declared.text.Mark.TheVariants.{Seed, Run}
use Rattle.histograms.specs.Histogram.{Bar, Histogram}

-- before an outcome: `*>` where one of its runs is a violation
abbrev pub arrow : Bool → List ℕ
arrow true = codes " *>"
arrow false = codes " :>"

-- after it: the seed of the first run, or its number
abbrev pub mark_text : Mark → ℕ → List ℕ
mark_text (Seed base) first = codes " # seed " ++ decimal ((base + first) % 2 ^ 64)
mark_text Run first = codes " # run " ++ decimal first

-- the line of an outcome
abbrev pub bar_text : Parts → Mark → Bar → List ℕ
bar_text p mark b =
    decimal b.1.count ++ (arrow b.1.violation ++ (items_text p b.0 ++ (mark_text mark b.1.first ++ 10 ∷ [])))

-- how many runs are unfinished, if some are
abbrev pub unfinished_text : ℕ → List ℕ
unfinished_text n = if n == 0 then [] else (codes "unfinished: " ++ decimal n) ++ 10 ∷ []

-- how many outcomes there are, a line for each, and how many runs are unfinished
abbrev pub histogram_text : Parts → Mark → Histogram → List ℕ
histogram_text p mark h =
    (((codes "Histogram (" ++ decimal (length h.bars)) ++ codes " states)\n") ++ flat_map (bar_text p mark) h.bars)
    ++ unfinished_text h.unfinished
