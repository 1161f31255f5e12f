use Rattle.std.proofs.Common.{◌≡◌, ◌∙◌, ◌<◌, ◌+◌, ◌-◌, ◌++◌, ◌∷◌, [], ℕ, List, Option, ap, append_assoc, map, sym}
use Rattle.std.specs.List.{range_with_len}
use Rattle.cycles.proofs.Ranges.{range_step}
use Rattle.program_answers.specs.Why.{final_seen}
use Rattle.program_answers.proofs.why.finals_seen.Goals as goal

-- with one more
one_more : (f : ℕ → Option ℕ) (i n : ℕ) (old new all : List (Option ℕ)) → i < n
    → old ++ map f (range_with_len i (n - i)) ≡ all → new ≡ old ++ f i ∷ []
    → new ++ map f (range_with_len (i + 1) (n - (i + 1))) ≡ all
one_more f i n old new all low before is =
    ap (λ (l : List (Option ℕ)). l ++ map f (range_with_len (i + 1) (n - (i + 1)))) is
    ∙ (append_assoc old (f i ∷ []) (map f (range_with_len (i + 1) (n - (i + 1))))
    ∙ (sym (ap (λ (l : List ℕ). old ++ map f l) (range_step i n low)) ∙ before))

pub loop-address-preserved : goal.loop-address-preserved
loop-address-preserved c =
    one_more (final_seen c.args.seen.now) c.loop-address.address c.args.addresses c.loop-address.finals.items _ _
    c.loop-address-test.true c.loop-address.invariant
    (c.in_ok-push.ensures.items ∙ ap (λ (v : Option ℕ). c.loop-address.finals.items ++ v ∷ []) c.final_seen.ensures)
