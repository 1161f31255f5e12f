-- The words that a seat read one by one are those of a legal desk.
use Rattle.std.proofs.Common.{true≢false, ◌≡◌, ◌≢◌, ℕ, zero, suc, ◌<◌, ◌≤◌, true, false}
use Rattle.std.proofs.Common.{List, [], ◌∷◌, ◌++◌, length, get_or, sym, refl, ap, ◌∙◌, subst, inl, inr}
use Rattle.std.proofs.Common.{⊎_elim, arith, length-append}
use Rattle.std.specs.Prelude.{Contains}
use Rattle.std.proofs.lemmas.Bool.{cases_Bool}
use Rattle.std.proofs.lemmas.List.{get_or_append_left, get_or_past}
use Rattle.std.proofs.Math.Seq.{get_or-append_seam}
use Rattle.std.proofs.lemmas.List.Elements.{Contains-append_left, Contains-push, Contains-push_cases}
use Rattle.std.proofs.lemmas.Map.Made.{Contains-tail}
use mathlib.Core.Logic.{dite}
use mathlib.Core.Option.{some, some-injective, some-ne-none}
use native.Mathlib.Decide.{ℕ_discrete, dec_le}
use lib.ListN.{get_elem?}
use Rattle.trials.specs.Campaigns.{Plan}
use Rattle.trials.specs.declared.desk_table.SeatKnowledge.{SeatKnowledge}
use Rattle.trials.specs.Codes.{IsCode}
use Rattle.trials.specs.LegalDesk.{saw_claimed, saw_filed, FitsAt, IsDeskWord, AreDeskWords}
use Rattle.trials.specs.Looking.{LoadsWord}
use Rattle.trials.proofs.Keeps.{sole_share}

-- w has the share of v, and has seen at least as much
pub record Grown (v w : SeatKnowledge) : Type 0 where
  pub live : w.live ≡ v.live
  pub alone : w.alone ≡ v.alone
  pub campaign : w.campaign ≡ v.campaign
  pub share : w.share ≡ v.share
  pub filed : w.filed ≡ v.filed
  pub seen : (q : ℕ) → Contains v.seen q → Contains w.seen q
  pub read : (q : ℕ) → Contains v.read q → Contains w.read q

grown_is : (v w x : SeatKnowledge) → Grown v w → x ≡ w → Grown v x
grown_is v w x g e = subst (Grown v) (sym e) g

pub grown_loads : (v w x : SeatKnowledge) (k n : ℕ) → Grown v w → LoadsWord w k n x → Grown v x
grown_loads v w x k n g l = dite (ℕ_discrete n 0)
    (λ e. grown_is v w x g (l.1 e))
    (λ full. dite (ℕ_discrete n 1)
    (λ e. grown_is v (saw_claimed w k) x record {
      live = g.live;
      alone = g.alone;
      campaign = g.campaign;
      share = g.share;
      filed =
          g.filed;
      seen = λ q h. Contains-append_left w.seen (k ∷ []) q (g.seen q h);
      read = g.read;
    } (l.2 e))
    (λ more. grown_is v (saw_filed w k) x record {
      live = g.live;
      alone = g.alone;
      campaign = g.campaign;
      share = g.share;
      filed =
          g.filed;
      seen = λ q h. Contains-append_left w.seen (k ∷ []) q (g.seen q h);
      read =
          λ q h. Contains-append_left w.read (k ∷ []) q (g.read q h);
    } (l.3 full more).0))

grown_fits : (v w : SeatKnowledge) (k n : ℕ) → Grown v w → FitsAt w k n → FitsAt v k n
grown_fits v w k n g f =
    let into : (xs ys : List ℕ) → ys ≡ xs → Contains xs k → Contains ys k = λ xs ys e h. subst
    (λ (z : List ℕ). Contains z k) (sym e) h in
    let code : IsCode w.campaign k n → IsCode v.campaign k n =
    subst (λ (z : Plan). IsCode z k n) g.campaign in (
      (λ h. f.0 (into _ _ g.share h)),
      (λ h. let y = f.1 (into _ _ g.filed h) in (subst (λ (z : List ℕ). Contains z k) g.share y.0, code y.1)),
      (λ h out. f.2 (into _ _ g.share h) (λ y. out (subst (λ (z : List ℕ). Contains z k) g.filed y))),
      (λ h. f.3 (g.seen k h)),
      (λ h. code (f.4 (g.read k h))),
    )

-- each word read so far fits the view, and so does 0 where there is no word; the only seat of a desk has
-- each trial whose word is not 0
pub record ReadSoFar (v : SeatKnowledge) (ws : List ℕ) : Type 0 where
  pub sole : v.alone ≡ true → (j : ℕ) → j < length ws → get_or ws j 0 ≢ 0 → Contains v.share j
  pub fits : (j : ℕ) → j < length ws → FitsAt v j (get_or ws j 0)
  pub words : (j : ℕ) → j < length ws → IsDeskWord v.campaign j (get_or ws j 0)
  pub beyond : 0 < length ws → (j : ℕ) → v.campaign.trials ≤ j → FitsAt v j 0

pub one_more : (v w x : SeatKnowledge) (ws : List ℕ) (n : ℕ) → Grown v w → LoadsWord w (length ws) n x → ReadSoFar v ws
    → ReadSoFar v (ws ++ n ∷ [])
one_more v w x ws n g l r =
    let k : ℕ = length ws in
    let s = l.0.0 in let i = l.0.1 in let legal = l.0.2 in let at = l.0.3 in let is = l.0.4 in
    let last : get_or (ws ++ n ∷ []) k 0 ≡ n = get_or-append_seam ws n [] 0 in
    let fit : FitsAt v k n = grown_fits v w k n g (subst (FitsAt w k) is (legal.fits i w at k)) in
    let word : IsDeskWord v.campaign k n = subst (λ (c : Plan). IsDeskWord c k n) g.campaign
    (subst (IsDeskWord w.campaign k) is (legal.words k)) in
    let len = length-append ws (n ∷ []) in
    let has : v.alone ≡ true → n ≢ 0 → Contains v.share k = λ alone full. subst
    (λ (xs : List ℕ). Contains xs k) g.share
    (sole_share w.campaign s legal i k w at (g.alone ∙ alone) (λ e. full (sym is ∙ e))) in
    record {
      sole = λ alone j h full. dite (ℕ_discrete j k)
          (λ e. subst (Contains v.share) (sym e) (has alone
          (λ z. full (ap (λ (q : ℕ). get_or (ws ++ n ∷ []) q 0) e ∙ last ∙ z))))
          (λ ne. let low : j < k = omega (arith, h, len, ne) in
          r.sole alone j low (λ z. full (get_or_append_left ws (n ∷ []) 0 j low ∙ z)));
      fits = λ j h. dite (ℕ_discrete j k)
          (λ e. subst (λ (z : ℕ × ℕ). FitsAt v z.0 z.1)
          (λ t. (sym e t, sym (ap (λ (q : ℕ). get_or (ws ++ n ∷ []) q 0) e ∙ last) t)) fit)
          (λ ne. let low : j < k = omega (arith, h, len, ne) in
          subst (FitsAt v j) (sym (get_or_append_left ws (n ∷ []) 0 j low)) (r.fits j low));
      words = λ j h. dite (ℕ_discrete j k)
          (λ e. subst (λ (z : ℕ × ℕ). IsDeskWord v.campaign z.0 z.1)
          (λ t. (sym e t, sym (ap (λ (q : ℕ). get_or (ws ++ n ∷ []) q 0) e ∙ last) t)) word)
          (λ ne. let low : j < k = omega (arith, h, len, ne) in subst (IsDeskWord v.campaign j)
          (sym (get_or_append_left ws (n ∷ []) 0 j low)) (r.words j low));
      beyond = λ _ j h.
          let out : length s.words ≤ j = omega (
            arith,
            legal.size,
            ap (λ (c : Plan). c.trials) g.campaign,
            h,
          ) in
          grown_fits v w j 0 g (subst (FitsAt w j) (get_or_past s.words j 0 out) (legal.fits i w at j));
    }

none_in : (k : ℕ) → Contains [] k → ⊥
none_in k h = omega (arith, h.1)

contains_dec : (xs : List ℕ) (k : ℕ) → Dec (Contains xs k)
contains_dec [] k = no (none_in k)
contains_dec (x ∷ xs) k = elim (ℕ_discrete x k) [
  | yes e ↦ yes (0, omega arith, e)
  | no ne ↦ elim (contains_dec xs k) [
    | yes h ↦ yes (suc h.0, omega (arith, h.1), h.2)
    | no out ↦ no (λ h. out (Contains-tail x xs k ne h))
  ]
]

-- the numbers below n of which P holds
pick : (P : ℕ → Type 0) → ((k : ℕ) → Dec (P k)) → (n : ℕ) → (l : List ℕ)
    × ((k : ℕ) → Contains l k → (k < n) × P k) × ((k : ℕ) → k < n → P k → Contains l k)
pick P d zero = ([], (λ k h. absurd (none_in k h)), λ k h. absurd (omega (arith, h)))
pick P d (suc n) = let r = pick P d n in elim (d n) [
  | yes p ↦ (
    r.0 ++ n ∷ [],
    (λ k h. ⊎_elim (λ x. let y = r.1 k x in (omega (arith, y.0), y.1))
        (λ (e : n ≡ k). (omega (arith, e), subst P e p)) (Contains-push_cases r.0 n k h)),
    λ k lt pk. dite (ℕ_discrete k n) (λ e. subst (Contains (r.0 ++ n ∷ [])) (sym e) (Contains-push r.0 n))
        (λ ne. Contains-append_left r.0 (n ∷ []) k (r.2 k (omega (arith, lt, ne)) pk)),
  )
  | no out ↦ (
    r.0,
    (λ k h. let y = r.1 k h in (omega (arith, y.0), y.1)),
    λ k lt pk. dite (ℕ_discrete k n) (λ e. absurd (out (subst P e pk)))
        (λ ne. r.2 k (omega (arith, lt, ne)) pk),
  )
]

-- claimed by another seat
abbrev Theirs : SeatKnowledge → List ℕ → ℕ → Type 0
Theirs v ws k = (get_or ws k 0 ≢ 0) × (Contains v.share k → ⊥)

-- and filed by it
abbrev Done : SeatKnowledge → List ℕ → ℕ → Type 0
Done v ws k = Theirs v ws k × (get_or ws k 0 ≢ 1)

theirs_dec : (v : SeatKnowledge) (ws : List ℕ) (k : ℕ) → Dec (Theirs v ws k)
theirs_dec v ws k = elim (ℕ_discrete (get_or ws k 0) 0) [
  | yes e ↦ no (λ h. h.0 e)
  | no ne ↦ elim (contains_dec v.share k) [ yes h ↦ no (λ t. t.1 h) | no out ↦ yes (ne, out) ]
]

done_dec : (v : SeatKnowledge) (ws : List ℕ) (k : ℕ) → Dec (Done v ws k)
done_dec v ws k = elim (theirs_dec v ws k) [
  | no out ↦ no (λ h. out h.0)
  | yes t ↦ elim (ℕ_discrete (get_or ws k 0) 1) [ yes e ↦ no (λ h. h.1 e) | no ne ↦ yes (t, ne) ]
]

-- a fact of each of one view
one : (v : SeatKnowledge) (P : ℕ → SeatKnowledge → Type 0) → P 0 v → (i : ℕ) (u : SeatKnowledge)
    → get_elem? (v ∷ []) i ≡ some u
    → P i u
one v P p zero u e = subst (P 0) (some-injective v u e) p
one v P p (suc i) u e = absurd (some-ne-none u (sym e))

-- a fact of each of two
two : (v w : SeatKnowledge) (P : ℕ → SeatKnowledge → Type 0) → P 0 v → P 1 w → (i : ℕ) (u : SeatKnowledge)
    → get_elem? (v ∷ w ∷ []) i
    ≡ some u → P i u
two v w P p q zero u e = subst (P 0) (some-injective v u e) p
two v w P p q (suc zero) u e = subst (P 1) (some-injective w u e) q
two v w P p q (suc (suc i)) u e = absurd (some-ne-none u (sym e))

module _ (v : SeatKnowledge) (ws : List ℕ) (size : length ws ≡ v.campaign.trials) (some_word : 0 < length ws)
    (r : ReadSoFar v ws) where
  -- beyond the words there is none
  out : (k : ℕ) → length ws ≤ k → get_or ws k 0 ≡ 0
  out k h = get_or_past ws k 0 h

  -- each word is open, claimed or a code
  word : (k : ℕ) → IsDeskWord v.campaign k (get_or ws k 0)
  word k = elim (dec_le (length ws) k) [ yes h ↦ inl (out k h) | no h ↦ r.words k (omega (arith, h)) ]

  -- and fits the view
  mine : (k : ℕ) → FitsAt v k (get_or ws k 0)
  mine k = elim (dec_le (length ws) k) [
    | yes h ↦ subst (FitsAt v k) (sym (out k h)) (r.beyond some_word k (omega (arith, h, size)))
    | no h ↦ r.fits k (omega (arith, h))
  ]

  -- one that is not 0 is of a trial
  below : (k : ℕ) → get_or ws k 0 ≢ 0 → k < length ws
  below k full = elim (dec_le (length ws) k) [
    | yes h ↦ absurd (full (out k h))
    | no h ↦ omega (arith, h)
  ]

  -- where no other seat was ever there, this one has all trials whose words are not 0
  closing_alone : v.live ≡ true → v.alone ≡ true → AreDeskWords v ws
  closing_alone live alone =
      let each : (P : ℕ → SeatKnowledge → Type 0) → P 0 v → (i : ℕ) (u : SeatKnowledge) → get_elem? (v ∷ []) i ≡ some u
      → P i u = one v in (
        record { words = ws; homes = []; views = v ∷ [] },
        0,
        record {
          size = size;
          words = word;
          carried = each (λ i u. u.live ≡ true → u.campaign ≡ v.campaign) (λ _. refl);
          fits = each (λ i u. (k : ℕ) → FitsAt u k (get_or ws k 0)) mine;
          alone = λ i j a b ea eb. each (λ i a. (k : ℕ) → Contains a.share k → Contains b.share k → i ≡ j)
              (each (λ j b. (k : ℕ) → Contains v.share k → Contains b.share k → 0 ≡ j) (λ k _ _. refl) j b eb)
              i a ea;
          owned = λ k full. (0, v, refl, r.sole alone k (below k full) full);
          sole = λ _ _ _ _. refl;
        },
        refl,
        refl,
      )

  -- else another has those that are not in its share
  closing_beside : v.live ≡ true → v.alone ≡ false → AreDeskWords v ws
  closing_beside live beside =
      let n : ℕ = length ws in
      let share = pick (Theirs v ws) (theirs_dec v ws) n in
      let filed = pick (Done v ws) (done_dec v ws) n in
      let other : SeatKnowledge = record {
        live = true;
        alone = false;
        campaign = v.campaign;
        share = share.0;
        filed = filed.0;
        seen = [];
        read = [];
      } in
      let his : (k : ℕ) → FitsAt other k (get_or ws k 0) = λ k. (
        (λ h. (share.1 k h).1.0),
        (λ h. let d = filed.1 k h in (
          share.2 k d.0 d.1.0,
          ⊎_elim (λ e. absurd (d.1.0.0 e))
              (λ y. ⊎_elim (λ e. absurd (d.1.1 e)) (λ e. e) y) (word k),
        )),
        (λ h not_filed. let t = share.1 k h in
            elim (ℕ_discrete (get_or ws k 0) 1) [
              | yes e ↦ e
              | no ne ↦ absurd (not_filed (filed.2 k t.0 (t.1, ne)))
            ]),
        (λ h. absurd (none_in k h)),
        (λ h. absurd (none_in k h)),
      ) in
      let each : (P : ℕ → SeatKnowledge → Type 0) → P 0 v → P 1 other → (i : ℕ) (u : SeatKnowledge)
      → get_elem? (v ∷ other ∷ []) i ≡ some u → P i u = two v other in (
        record { words = ws; homes = []; views = v ∷ other ∷ [] },
        0,
        record {
          size = size;
          words = word;
          carried = each (λ i u. u.live ≡ true → u.campaign ≡ v.campaign) (λ _. refl) (λ _. refl);
          fits = each (λ i u. (k : ℕ) → FitsAt u k (get_or ws k 0)) mine his;
          alone = λ i j a b ea eb. each (λ i a. (k : ℕ) → Contains a.share k → Contains b.share k → i ≡ j)
              (each (λ j b. (k : ℕ) → Contains v.share k → Contains b.share k → 0 ≡ j) (λ k _ _. refl)
              (λ k h t. absurd ((share.1 k t).1.1 h)) j b eb)
              (each (λ j b. (k : ℕ) → Contains other.share k → Contains b.share k → 1 ≡ j)
              (λ k t h. absurd ((share.1 k t).1.1 h)) (λ k _ _. refl) j b eb)
              i a ea;
          owned = λ k full. elim (contains_dec v.share k) [
            | yes h ↦ (0, v, refl, h)
            | no ne ↦ (1, other, refl, share.2 k (below k full) (full, ne))
          ];
          sole = each (λ i u. u.alone ≡ true → length (v ∷ other ∷ []) ≡ 1)
              (λ l. absurd (true≢false (sym l ∙ beside))) (λ l. absurd (true≢false (sym l)));
        },
        refl,
        refl,
      )

  -- so the words are those of a legal desk
  pub closing : v.live ≡ true → AreDeskWords v ws
  closing live = elim (cases_Bool v.alone) [
    | inl alone ↦ closing_alone live alone
    | inr beside ↦ closing_beside live beside
  ]
