-- The forced pairs that are listed with events.
use Rattle.std.proofs.Common.{◌<◌, inl, inr, ℕ}
use Rattle.recording.specs.Execution.{Execution, event_count}
use Rattle.recording.specs.Tso.{IsWellFormed}
use Rattle.relations.specs.Forced.{Forced}
use Rattle.relations.specs.ForcedLaws.{forced_within}
use Rattle.long.specs.declared.linking.Linked.{Linked}
use Rattle.long.specs.Chains.{times_listed}
use Rattle.long.specs.Linked.{HasPairsOf, KeepsPairs}
use Rattle.long.specs.Steps.{IsStep, MayPrecede}

-- what is listed with an event stays
pub pairs_kept : (x : Execution) (e : ℕ) (old new : Linked) → KeepsPairs old new → HasPairsOf x e old
    → HasPairsOf x e new
pairs_kept x e old new kept h = record {
  store = λ d last forced. kept d e (h.store d last forced);
  other = λ d last. kept d e (h.other d last);
  source = λ d from. kept d e (h.source d from);
  next = λ w is. kept e w (h.next w is);
  newer = λ w is. kept e w (h.newer w is);
}

-- where it is listed with each event, each step is
pub step_listed : (x : Execution) → IsWellFormed x → (l : Linked) → ((e : ℕ) → e < event_count x → HasPairsOf x e l)
    → (d e : ℕ) → IsStep x d e → 0 < times_listed l.list.items d e
step_listed x wf l all d e step = go step.0
  where
    forced : Forced x d e
    forced = step.1

    first : HasPairsOf x d l
    first = all d (forced_within x wf forced.0 d e forced.1).0

    second : HasPairsOf x e l
    second = all e (forced_within x wf forced.0 d e forced.1).1

    go : MayPrecede x d e → 0 < times_listed l.list.items d e
    go (inl store) = second.store d store forced
    go (inr (inl other)) = second.other d other
    go (inr (inr (inl source))) = second.source d source
    go (inr (inr (inr (inl next)))) = first.next e next
    go (inr (inr (inr (inr newer)))) = first.newer e newer
