-- What causes show holds in whatever completes the values, so events in a circle refute it.
use Rattle.std.proofs.Common.{◌⊎◌, inl, inr, ℕ, zero, suc, Option, Some, None, List, [], ◌∷◌, arith, refl, sym, subst}
use Rattle.std.specs.List.{All}
use Rattle.std.proofs.lemmas.List.Elements.{All-tail}
use Rattle.recording.specs.Execution.{Reads, ProgramOrder}
use Rattle.values.specs.Values.{Values, AreAllowed}
use Rattle.values.specs.Refused.{events_alone}
use Rattle.completion.specs.declared.cause.Cause.{Cause}
use Rattle.completion.specs.declared.cause.Cause.TheVariants.{Po, Rf, Wo, Fr}
use Rattle.completion.specs.declared.cause.Link.{Link}
use Rattle.completion.specs.Search.{IsForced}
use Rattle.completion.specs.Sources.{IsOnlySource}
use Rattle.completion.specs.Inferred.{IsReadFrom, IsOlderWrite, IsNewerWrite, IsFromInitial, IsCause, ShownIn, IsShown}
use Rattle.completion.specs.Inferred.{IsLink}
use Rattle.completion.specs.Circle.{Lead, IsCircle}
use Rattle.completion.proofs.ForcingRules.{IsSource, only_source, no_source, kept_rule, between_rule, source_rule}
use Rattle.completion.proofs.ForcingRules.{earlier_rule, later_rule, initial_rule, overlook_rule, circle_rule}

-- a source that alone is possible is the source
only_is : (v : Values) (e a : ℕ) (s : Option ℕ) → Reads (events_alone v) e a → IsOnlySource v e a s → IsSource v e s
only_is v e a s reads (inl known) = λ x m h. h.sources e s known
only_is v e a None reads (inr none) = no_source v e a reads none
only_is v e a (Some w) reads (inr only) = only_source v e a w reads only.2 only.1

module _ (v : Values) (P : ℕ → ℕ → Type 0) (forced : (e f : ℕ) → P e f → IsForced v e f) where
  read_from : (w r : ℕ) → IsReadFrom v w r → IsForced v w r
  read_from w r h = source_rule v r h.address w h.reads (only_is v r h.address (Some w) h.reads h.source) h.apart

  older : (e f r : ℕ) → IsOlderWrite v P e f r → IsForced v e f
  older e f r h = earlier_rule v r h.address f e h.reads (only_is v r h.address (Some f) h.reads h.source) h.writes h.other
      h.not_itself (seen h.sees)
    where
      seen : P e r ⊎ ProgramOrder (events_alone v) e r → IsForced v e r ⊎ ProgramOrder (events_alone v) e r
      seen (inl shown) = inl (forced e r shown)
      seen (inr order) = inr order

  newer : (e f w : ℕ) → IsNewerWrite v P e f w → IsForced v e f
  newer e f w h = later_rule v e h.address w f h.reads (only_is v e h.address (Some w) h.reads h.source) h.writes
      h.not_itself (forced w f h.after)

  from_initial : (e f : ℕ) → IsFromInitial v e f → IsForced v e f
  from_initial e f (inl h) =
      initial_rule v e h.address f h.reads (only_is v e h.address None h.reads h.source) h.writes h.not_itself
  from_initial e f (inr own) =
      let h = own.1.1 in
      subst (λ (k : ℕ). IsForced v e k) own.0 (overlook_rule v e h.address own.1.0 h.reads
      (only_is v e h.address None h.reads h.source) h.writes h.not_itself own.1.2)

  -- causes by forced pairs force theirs
  caused : (e f : ℕ) (cause : Cause) → IsCause v P e f cause → IsForced v e f
  caused e f Po h = kept_rule v e f h
  caused e f Rf h = read_from e f h
  caused e f (Wo r) h = older e f r h
  caused e f (Fr None) h = from_initial e f h
  caused e f (Fr (Some w)) h = newer e f w h

-- what rounds show is forced
rounds_forced : (v : Values) (n e f : ℕ) → ShownIn v n e f → IsForced v e f
rounds_forced v zero e f h = absurd h
rounds_forced v (suc n) e f (inl h) = rounds_forced v n e f h
rounds_forced v (suc n) e f (inr (inl h)) =
    caused v (ShownIn v n) (λ a b shown. rounds_forced v n a b shown) e f h.0 h.1
rounds_forced v (suc n) e f (inr (inr h)) =
    between_rule v e h.0 f (rounds_forced v n e h.0 h.1) (rounds_forced v n h.0 f h.2)

-- what is shown is forced
pub shown_forced : (v : Values) (e f : ℕ) → IsShown v e f → IsForced v e f
shown_forced v e f h = rounds_forced v h.0 e f h.1

-- so is the pair of a link
link_forced : (v : Values) (l : Link) → IsLink v l → IsForced v l.first l.second
link_forced v l h = caused v (IsShown v) (shown_forced v) l.first l.second l.cause h

-- links that follow a forced pair lead on from its first event
lead_forced : (v : Values) (ls : List Link) (d e f : ℕ) → IsForced v d e → Lead e ls f → All (IsLink v) ls
    → IsForced v d f
lead_forced v [] d e f before lead causes = subst (λ (k : ℕ). IsForced v d k) lead before
lead_forced v (l ∷ ls) d e f before lead causes =
    let start : IsForced v d l.first = subst (λ (k : ℕ). IsForced v d k) (sym lead.0) before in
    lead_forced v ls d l.second f (between_rule v d l.first l.second start (link_forced v l (causes 0 l (omega arith))))
    lead.1 (All-tail (IsLink v) l ls causes)

-- events in a circle refute what would complete the values
pub circle_refutes : (v : Values) (ls : List Link) → IsCircle v ls → ¬ AreAllowed v
circle_refutes v [] circle = absurd (circle.round.0 refl)
circle_refutes v (l ∷ ls) circle =
    let e : ℕ = circle.round.1.0 in
    let lead : Lead e (l ∷ ls) e = circle.round.1.1 in
    let first : IsForced v e l.second = subst (λ (k : ℕ). IsForced v k l.second) lead.0
    (link_forced v l (circle.causes 0 l (omega arith))) in
    circle_rule v e (lead_forced v ls e l.second e first lead.1 (All-tail (IsLink v) l ls circle.causes))
