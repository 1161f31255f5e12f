-- The line of an order or of an overlook that holds.
use Rattle.std.proofs.Common.{◌≡◌, ◌++◌, [], ℕ, List, inl, inr, ap, refl, sym, subst, ◌∙◌, append-nil}
use Rattle.recording.specs.EnumerationLaws.{length_total}
use Rattle.recording.specs.Execution.{Execution, event_count}
use Rattle.recording.specs.Recording.{IsRecording}
use Rattle.long.specs.declared.answer.LongAnswer.{LongAnswer}
use Rattle.long.specs.declared.answer.LongAnswer.TheVariants.{Order, Overlook, Cycle}
use Rattle.long.specs.Answer.{IsWitness}
use Rattle.long.specs.Texts.{IsLongText}
use Rattle.verification.specs.Faults.{IsOneLine}
use Rattle.verification.specs.Held.{IsLineOrNone, IsMost}
use Rattle.verification.specs.Spelled.{HasSizes, IsSameAnswer, SpellsAnswer}
use Rattle.verification.proofs.OneText.{answer_one, same_long_text}
use Rattle.verification.proofs.VerdictsSpelled.{order_spells, overlook_spells}

module _ (x : Execution) (is : IsRecording x) (text : List ℕ) where
  -- an answer that the text spells
  pub record IsRead (a : LongAnswer) : Type 0 where
    pub spelled : SpellsAnswer a [] text
    pub sizes : HasSizes (event_count x) 0 a

  -- a text that begins with the line of an answer spells it
  line_read : (a : LongAnswer) (line more : List ℕ) → text ≡ line ++ more → IsOneLine a → IsLongText x a line
      → IsWitness x a → IsRead a
  line_read (Order m) line more begins one printed witness = record {
    spelled = subst (SpellsAnswer (Order m) []) (sym (begins ∙ ap (λ (t : List ℕ). t ++ more) printed))
        (order_spells x is m more witness);
    sizes = length_total (event_count x) m.items witness.total;
  }
  line_read (Overlook l s) line more begins one printed witness = record {
    spelled = subst (SpellsAnswer (Overlook l s) []) (sym (begins ∙ ap (λ (t : List ℕ). t ++ more) printed))
        (overlook_spells x is l s more witness);
    sizes = tt;
  }
  line_read (Cycle c) line more begins one printed witness = absurd one

  -- where no answer of one line that holds is read, no line holds
  pub no_line : ((a : LongAnswer) → IsOneLine a → IsWitness x a → IsRead a → ⊥) → IsMost (IsLineOrNone x) text []
  no_line never = record { holds = inl refl; most = most }
    where
      most : (lines more : List ℕ) → text ≡ lines ++ more → IsLineOrNone x lines
          → (rest : List ℕ) × ([] ≡ lines ++ rest)
      most lines more begins (inl none) = ([], ap (λ (t : List ℕ). t ++ []) (sym none))
      most lines more begins (inr line) =
          let p = line.proof in
          absurd (never p.answer line.one p.witness (line_read p.answer lines more begins line.one p.printed p.witness))

  -- where one is read that holds, its line is all that holds
  pub line_held : (a : LongAnswer) (part : List ℕ) → IsOneLine a → IsLongText x a part → IsWitness x a
      → ((b : LongAnswer) → IsRead b → IsSameAnswer b a) → IsMost (IsLineOrNone x) text part
  line_held a part one printed witness reads = record {
    holds = inr (record {
      proof = record { answer = a; printed = printed; witness = witness };
      one = one;
    });
    most = most;
  }
    where
      most : (lines more : List ℕ) → text ≡ lines ++ more → IsLineOrNone x lines
          → (rest : List ℕ) × (part ≡ lines ++ rest)
      most lines more begins (inl none) = (part, ap (λ (t : List ℕ). t ++ part) (sym none))
      most lines more begins (inr line) =
          let p = line.proof in
          let same = reads p.answer (line_read p.answer lines more begins line.one p.printed p.witness) in (
            [],
            answer_one x a part lines printed (same_long_text x lines p.answer a same p.printed)
                ∙ sym (append-nil lines),
          )
