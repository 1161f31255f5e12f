-- An order, an overlook or a cycle in words.
use Rattle.std.specs.Prelude.{◌≡◌, ℕ, List}
use Rattle.event_texts.specs.Names.{Names}
use Rattle.recording.specs.Execution.{Execution}
use Rattle.long.specs.declared.answer.LongAnswer.{LongAnswer}
use Rattle.long.specs.declared.answer.LongAnswer.TheVariants.{Order, Overlook, Cycle}
use Rattle.explanation.specs.Order.{order_text}
use Rattle.explanation.specs.Overlook.{overlook_text}
use Rattle.explanation.specs.Cycle.{SaysCycle}

-- the text says what was found of an execution in words, with these names of its addresses
abbrev pub IsExplanation : Execution → Names → LongAnswer → List ℕ → Type 0
IsExplanation x names (Order m) text = text ≡ order_text x names m.items
IsExplanation x names (Overlook l s) text = text ≡ overlook_text x names l s
IsExplanation x names (Cycle c) text = SaysCycle x names c.items text
