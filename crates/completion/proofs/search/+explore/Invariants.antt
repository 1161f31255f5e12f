use Rattle.std.proofs.Common.{◌≡◌, ◌<◌, ◌+◌, ◌-◌, ℕ, get_or}
use Rattle.completion.specs.declared.moves.Turn.{Turn}
use Rattle.completion.specs.Seen.{AreSearched, Grows, HasNumber, IsVain}
use Rattle.completion.specs.Situation.{beginning}
use Rattle.situations.specs.Situation.{Situation}
use Rattle.completion.proofs.Rank.{rank, most_rank}
use Rattle.completion.proofs.search.+explore.Given as goal

abbrev pub invariant-loop-turn : goal.invariant-loop-turn
invariant-loop-turn l = record {
  searched : AreSearched l.values l.way.seen;
  grows : Grows l.fn.way.seen l.way.seen;
  limit : l.way.limit ≡ l.fn.way.limit;
  most : l.way.most ≡ l.fn.way.most;
  turns : l.way.turns.items ≡ l.fn.way.turns.items;
  vain : (i : ℕ) (d : Turn) (r : Situation) → i < l.turn-index → HasNumber l.fn.way.seen r l.number
      → IsVain l.values l.way.seen r (get_or l.turn-items i d).step (get_or l.turn-items i d).core;
}

abbrev pub decreases-explore : goal.decreases-explore
decreases-explore l =
    most_rank l.values.now + 1 - rank (get_or l.way.now.seen.rows.keys l.number (beginning l.values.now))
