-- The parts of a header.
use Rattle.std.proofs.Common.{◌≡◌, ◌++◌, ℕ, List, append_assoc, codes}
use Rattle.headers.specs.declared.header.Setup.{Setup}
use Rattle.headers.specs.Faults.{fault_name}
use Rattle.headers.specs.Headers.{campaign_words, option_words}

-- what campaigns have in common, word by word, and what stands after it
pub campaign_then : (s : Setup) (more : List ℕ) → campaign_words s ++ more
    ≡ option_words (codes "# tsotest trials --cores ") s.cores ++ (option_words (codes " --ops ") s.ops
    ++ (option_words (codes " --addresses ") s.addresses ++ (codes " --fault " ++ (fault_name s.fault
    ++ (option_words (codes " --buffer ") s.buffer ++ (option_words (codes " --attempts ") s.attempts
    ++ (codes " --seed " ++ more)))))))
campaign_then s more = pieces (option_words (codes "# tsotest trials --cores ") s.cores)
    (option_words (codes " --ops ") s.ops) (option_words (codes " --addresses ") s.addresses) (codes " --fault ")
    (fault_name s.fault) (option_words (codes " --buffer ") s.buffer) (option_words (codes " --attempts ") s.attempts)
    (codes " --seed ") more
  where
    pieces : (a b c d n e f g m : List ℕ) → ((((a ++ b) ++ c) ++ ((((d ++ n) ++ e) ++ f) ++ g)) ++ m)
        ≡ a ++ (b ++ (c ++ (d ++ (n ++ (e ++ (f ++ (g ++ m)))))))
    pieces a b c d n e f g m = simp append_assoc
