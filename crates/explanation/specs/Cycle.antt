-- A cycle in words: each of its events, and why it comes before the next.
use Rattle.std.specs.Prelude.{◌≡◌, ◌++◌, [], ℕ, zero, suc, List, Some, codes, decimal, length}
use Rattle.std.specs.Prelude.{slice_index}
use Rattle.event_texts.specs.Names.{Names}
use Rattle.recording.specs.Event.{written_address}
use Rattle.recording.specs.Execution.{Execution, event_at}
use Rattle.relations.specs.declared.reason.Reason.{Reason}
use Rattle.relations.specs.declared.reason.Reason.TheVariants.{Po, Wo, Rf, Fr}
use Rattle.relations.specs.Forced.{IsReason}
use Rattle.relations.specs.Cycle.{next_in_cycle}
use Rattle.explanation.specs.Diy.{IsDiyLine}
use Rattle.event_texts.specs.Events.{event_line, indent, written_text}

-- the end of a line that says why an event comes before another, which writes this address
abbrev pub reason_text : Reason → List ℕ → List ℕ
reason_text Po address = codes " in program order\n"
reason_text Wo address = codes " in the write list of " ++ (address ++ codes "\n")
reason_text Rf address = codes ", which read it\n"
reason_text Fr address = codes ", which wrote a newer value of " ++ (address ++ codes "\n")

-- the line that says why an event comes before event f
unfoldable pub reason_line : Execution → Names → ℕ → Reason → List ℕ
reason_line x names f reason = indent x ++ (codes "before " ++ (decimal f
    ++ reason_text reason (written_text names (written_address (event_at x f)))))

-- the lines of an event that comes before f, with the first reason that holds
pub record IsLink (x : Execution) (names : Names) (e f : ℕ) (text : List ℕ) : Type 0 where
  pub reason : Reason
  pub first : IsReason x e f (Some reason)
  pub lines : text ≡ event_line x names e ++ reason_line x names f reason

-- the lines of the first n events of a cycle, each with the event after it
abbrev pub AreLinks : Execution → Names → List ℕ → ℕ → List ℕ → Type 0
AreLinks x names c zero text = text ≡ []
AreLinks x names c (suc i) text = (before link : List ℕ) × AreLinks x names c i before
    × IsLink x names (slice_index c i) (next_in_cycle c i) link × (text ≡ before ++ link)

-- what is said first of a cycle of n events
abbrev pub cycle_heading : ℕ → List ℕ
cycle_heading n = codes "No memory order explains this recording: these " ++ decimal n
    ++ codes " events would each come before the next.\n"

-- a cycle in words, and in those of diy
pub record SaysCycle (x : Execution) (names : Names) (c text : List ℕ) : Type 0 where
  pub links : List ℕ
  pub lines : AreLinks x names c (length c) links
  pub line : List ℕ
  pub steps : IsDiyLine x c line
  pub whole : text ≡ cycle_heading (length c) ++ (links ++ line)
