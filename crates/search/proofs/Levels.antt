-- What holds of a breadth-first search before each level, and that the row is exact at the end.
use Rattle.std.proofs.Common.{◌≡◌, ◌<◌, ◌≤◌, ◌+◌, ◌⊎◌, inl, inr, ℕ, zero, suc, Bool, true, false, ◌||◌, ◌↔◌}
use Rattle.std.proofs.Common.{not, List, length, get_or, take, drop, ◌++◌, arith, sym, ap, subst, ◌∙◌}
use Rattle.std.proofs.lemmas.Bool.{cases_Bool, cases_lt, or_cases, or_left, or_right, and_from, and_parts}
use Rattle.std.proofs.lemmas.Bool.{true≢false}
use Rattle.std.proofs.lemmas.List.{take-append-le, take_all}
use Rattle.relations.specs.Cycle.{Walk, IsExactRow}
use Rattle.bitrow.specs.Bits.{is_in}
use Rattle.bitrow.specs.Rows.{GetsLabel, IsNextLevel}
use Rattle.search.specs.Cycles.{IsNearest}
use Rattle.search.specs.Levels.{Closes, IsClosing}
use Rattle.relations.specs.CycleLaws.{walk_more}
use Rattle.search.proofs.Walks.{walk_of, last_of_walk}

-- a test is not both true and false
pub not_both : (b : Bool) → b ≡ true → b ≡ false → ⊥
not_both b is other = true≢false (sym is ∙ other)

-- the events to which a walk of fewer than `label` steps leads were seen, and have the least number of steps; the level
-- has those to which one of as many leads, and none of fewer
pub record IsReached (R : ℕ → ℕ → Type 0) (n k v label : ℕ) (labels : List ℕ)
    (seen level : List Bool) : Type 0 where
  pub one_each : length labels ≡ n
  pub seen_is : (e : ℕ) → e < n → (is_in seen e ≡ true) ↔ (get_or labels e 0 < label)
  pub or_cap : (e : ℕ) → e < n → (get_or labels e 0 < label) ⊎ (get_or labels e 0 ≡ k)
  pub walk : (e : ℕ) → e < n → get_or labels e 0 < label → Walk R (get_or labels e 0) v e
  pub least : (j e : ℕ) → j < label → Walk R j v e → (get_or labels e 0 < label) × (get_or labels e 0 ≤ j)
  pub taken : (e : ℕ) → is_in level e ≡ true → Walk R label v e × (is_in seen e ≡ false)
  pub due : (e : ℕ) → Walk R label v e → (is_in seen e ≡ true) ⊎ (is_in level e ≡ true)

-- the least label below the next one of the events that are related to v, or else the cap
pub record IsClosed (R : ℕ → ℕ → Type 0) (k v label : ℕ) (labels : List ℕ) (closing : ℕ) : Type 0 where
  pub early : (closing < label) ⊎ (closing ≡ k)
  pub reached : (closing ≡ k) ⊎ ((e : ℕ) × R e v × (get_or labels e 0 ≡ closing))
  pub nearest : (e : ℕ) → R e v → get_or labels e 0 < label → closing ≤ get_or labels e 0

module _ (R : ℕ → ℕ → Type 0) (n k v label : ℕ) (within : (e f : ℕ) → R e f → (e < n) × (f < n)) (v_in : v < n)
    (labels : List ℕ) (seen level : List Bool) (h : IsReached R n k v label labels seen level) where
  -- a walk leads to an event
  walk_in : (j e : ℕ) → Walk R j v e → e < n
  walk_in zero e w = subst (λ (x : ℕ). x < n) w v_in
  walk_in (suc j) e w = let last = last_of_walk R j v e w in (within last.0 e last.2).1

  -- what closes is the nearest, once each label is below the next one or the cap
  pub closed_nearest : (closing : ℕ) → label ≤ k → IsClosed R k v label labels closing
      → IsNearest R v labels k closing
  closed_nearest closing most c = record {
    below = elim c.early [ inl small ↦ omega (arith, small, most) | inr full ↦ omega (arith, full) ];
    reached = c.reached;
    nearest = λ e r. elim (h.or_cap e (within e v r).0) [
      | inl small ↦ c.nearest e r small
      | inr full ↦ elim c.early [ inl early ↦ omega (arith, early, most, full) | inr none ↦ omega (arith, none, full) ]
    ];
  }

  -- where the level is empty, each event that a walk leads to was seen
  all_seen : ((e : ℕ) → is_in level e ≡ false) → (j e : ℕ) → Walk R j v e → get_or labels e 0 < label
  all_seen empty zero e w = elim (cases_lt 0 label) [
    | inl some ↦ (h.least 0 e some w).0
    | inr none ↦ at_label (walk_of R 0 label v e (omega (arith, none)) w)
  ]
    where
      at_label : Walk R label v e → get_or labels e 0 < label
      at_label here = elim (h.due e here) [
        | inl old ↦ (h.seen_is e (walk_in label e here)).0 old
        | inr new ↦ absurd (not_both (is_in level e) new (empty e))
      ]
  all_seen empty (suc j) e w =
      let last = last_of_walk R j v e w in
      let small = all_seen empty j last.0 last.1 in
      next (get_or labels last.0 0) small
      (walk_more R (get_or labels last.0 0) v last.0 e (h.walk last.0 (within last.0 e last.2).0 small) last.2)
    where
      next : (i : ℕ) → i < label → Walk R (suc i) v e → get_or labels e 0 < label
      next i small here = elim (cases_lt (suc i) label) [
        | inl less ↦ (h.least (suc i) e less here).0
        | inr last ↦ elim (h.due e (walk_of R (suc i) label v e (omega (arith, small, last)) here)) [
          | inl old ↦ (h.seen_is e (walk_in (suc i) e here)).0 old
          | inr new ↦ absurd (not_both (is_in level e) new (empty e))
        ]
      ]

  -- at the cap, or where the level is empty, the row is exact
  pub reached_exact : label ≤ k → (label ≡ k) ⊎ ((e : ℕ) → is_in level e ≡ false) → IsExactRow R n k v labels
  reached_exact most ended = record {
    one_each = h.one_each;
    labels = λ e at. record {
      cap = capped e at;
      walk = λ small. elim (h.or_cap e at) [
        | inl below ↦ h.walk e at below
        | inr full ↦ absurd (omega (arith, full, small))
      ];
      least = λ j w. elim (cases_lt j label) [
        | inl less ↦ (h.least j e less w).1
        | inr more ↦ elim ended [
          | inl last ↦ omega (arith, capped e at, last, more)
          | inr empty ↦ omega (arith, all_seen empty j e w, more)
        ]
      ];
    };
  }
    where
      capped : (e : ℕ) → e < n → get_or labels e 0 ≤ k
      capped e at = elim (h.or_cap e at) [
        | inl below ↦ omega (arith, below, most)
        | inr full ↦ omega (arith, full)
      ]

  module _ (after : List ℕ) (less : label < k) (size : length after ≡ length labels)
      (t : GetsLabel level n label labels after) where
    -- an event has the label, or the one that it had
    now_has : (e : ℕ) → e < n → ((is_in level e ≡ true) × (get_or after e 0 ≡ label)) ⊎
        ((is_in level e ≡ false) × (get_or after e 0 ≡ get_or labels e 0))
    now_has e at = elim (cases_Bool (is_in level e)) [
      | inl is ↦ inl (is, t.labelled e at is)
      | inr other ↦ inr (other, t.left e (inr other))
    ]

    -- one that was seen keeps its own
    kept : (e : ℕ) → e < n → get_or labels e 0 < label → get_or after e 0 ≡ get_or labels e 0
    kept e at small = elim (now_has e at) [
      | inl new ↦ absurd (not_both (is_in seen e) ((h.seen_is e at).1 small) (h.taken e new.0).1)
      | inr same ↦ same.1
    ]

    -- one with a label below the next one has this label, or was seen
    here_or_old : (e : ℕ) → e < n → get_or after e 0 < label + 1
        → ((is_in level e ≡ true) × (get_or after e 0 ≡ label)) ⊎
        ((get_or labels e 0 < label) × (get_or after e 0 ≡ get_or labels e 0))
    here_or_old e at below = elim (now_has e at) [
      | inl new ↦ inl new
      | inr same ↦ elim (h.or_cap e at) [
        | inl small ↦ inr (small, same.1)
        | inr full ↦ absurd (omega (arith, full, same.1, below, less))
      ]
    ]

    -- what closes, with this level
    pub closes_more : (P : Type 0) (closing more : ℕ) → P ↔ Closes R level v → IsClosed R k v label labels closing
        → IsClosing P label k closing more → IsClosed R k v (label + 1) after more
    closes_more P closing more same c step = elim step [
      | inl found ↦
          let at = same.0 found.1 in record {
            early = inl (omega (arith, found.2));
            reached = inr (at.0, at.2, t.labelled at.0 (within at.0 v at.2).0 at.1 ∙ sym found.2);
            nearest = λ e r below. elim (here_or_old e (within e v r).0 below) [
              | inl new ↦ omega (arith, new.1, found.2)
              | inr old ↦ absurd (omega (arith, c.nearest e r old.0, found.0, old.0, less))
            ];
          }
      | inr missed ↦ record {
        early = elim c.early [
          | inl early ↦ inl (omega (arith, early, missed.1))
          | inr none ↦ inr (missed.1 ∙ none)
        ];
        reached = elim c.early [
          | inr none ↦ inl (missed.1 ∙ none)
          | inl early ↦ elim c.reached [
            | inl none ↦ inl (missed.1 ∙ none)
            | inr at ↦ inr (
              at.0,
              at.1,
              kept at.0 (within at.0 v at.1).0 (omega (arith, at.2, early)) ∙ (at.2 ∙ sym missed.1),
            )
          ]
        ];
        nearest = λ e r below. elim (here_or_old e (within e v r).0 below) [
          | inr old ↦ omega (arith, c.nearest e r old.0, old.1, missed.1)
          | inl new ↦ elim c.early [
            | inl early ↦ omega (arith, new.1, early, missed.1)
            | inr none ↦ absurd (missed.0 none (same.1 (e, new.0, r)))
          ]
        ];
      }
    ]

    module _ (seen_more level_more : List Bool)
        (sees : (e : ℕ) → is_in seen_more e ≡ (is_in seen e || is_in level e))
        (next : IsNextLevel R n level seen_more level_more) where
      -- an event was seen, now, where its label is below the next one
      seen_now : (e : ℕ) → e < n → (is_in seen_more e ≡ true) ↔ (get_or after e 0 < label + 1)
      seen_now e at = (
        (λ is. elim (or_cases (is_in seen e) (is_in level e) (sym (sees e) ∙ is)) [
          | inl before ↦
              let small = (h.seen_is e at).0 before in
              omega (arith, small, kept e at small)
          | inr here ↦ omega (arith, t.labelled e at here)
        ]),
        (λ below. sees e ∙ elim (here_or_old e at below) [
          | inl new ↦ or_right (is_in seen e) (is_in level e) new.0
          | inr old ↦ or_left (is_in seen e) (is_in level e) ((h.seen_is e at).1 old.0)
        ]),
      )

      -- a walk of no more steps than the label leads to events with as small a label
      least_now : (j e : ℕ) → j < label + 1 → Walk R j v e → (get_or after e 0 < label + 1) × (get_or after e 0 ≤ j)
      least_now j e small w = elim (cases_lt j label) [
        | inl early ↦
            let old = h.least j e early w in
            let same = kept e (walk_in j e w) old.0 in
            (omega (arith, old.0, same), omega (arith, old.1, same))
        | inr late ↦ elim (h.due e (walk_of R j label v e (omega (arith, late, small)) w)) [
          | inl before ↦
              let old = (h.seen_is e (walk_in j e w)).0 before in
              let same = kept e (walk_in j e w) old in
              (omega (arith, old, same), omega (arith, old, same, late))
          | inr here ↦
              let is = t.labelled e (walk_in j e w) here in
              (omega (arith, is), omega (arith, is, late))
        ]
      ]

      -- one level more
      pub reached_more : IsReached R n k v (label + 1) after seen_more level_more
      reached_more = record {
        one_each = size ∙ h.one_each;
        seen_is = seen_now;
        or_cap = λ e at. elim (now_has e at) [
          | inl new ↦ inl (omega (arith, new.1))
          | inr same ↦ elim (h.or_cap e at) [
            | inl small ↦ inl (omega (arith, small, same.1))
            | inr full ↦ inr (same.1 ∙ full)
          ]
        ];
        walk = λ e at below. elim (here_or_old e at below) [
          | inl new ↦ walk_of R label (get_or after e 0) v e (sym new.1) (h.taken e new.0).0
          | inr old ↦ walk_of R (get_or labels e 0) (get_or after e 0) v e (sym old.1) (h.walk e at old.0)
        ];
        least = least_now;
        taken = λ e is.
            let both = and_parts (is_in next.0 e) (not (is_in seen_more e)) (sym (next.2 e) ∙ is) in
            let from = next.1.only e both.0 in (
              walk_of R (suc label) (label + 1) v e (omega arith)
                  (walk_more R label v from.0 e (h.taken from.0 from.1).0 from.2),
              elim (cases_Bool (is_in seen_more e)) [
                | inl old ↦ absurd (true≢false (sym both.1 ∙ ap not old))
                | inr fresh ↦ fresh
              ],
            );
        due = λ e w. elim (cases_Bool (is_in seen_more e)) [
          | inl old ↦ inl old
          | inr fresh ↦
              let last = last_of_walk R label v e (walk_of R (label + 1) (suc label) v e (omega arith) w) in
              let d_in = (within last.0 e last.2).0 in
              inr (elim (h.due last.0 last.1) [
                | inl old ↦
                    let small = (h.seen_is last.0 d_in).0 old in
                    let e_in = (within last.0 e last.2).1 in
                    absurd (not_both (is_in seen_more e) ((seen_now e e_in).1
                    (least_now (suc (get_or labels last.0 0)) e (omega (arith, small))
                    (walk_more R (get_or labels last.0 0) v last.0 e (h.walk last.0 d_in small) last.2)).0) fresh)
                | inr here ↦ next.2 e ∙ and_from (is_in next.0 e) (not (is_in seen_more e))
                    (next.1.joined last.0 e d_in here last.2) (ap not fresh)
              ])
        ];
      }

-- before the first level
pub reached_none : (R : ℕ → ℕ → Type 0) (n k v : ℕ) (labels : List ℕ) (seen level : List Bool)
    → length labels ≡ n → ((e : ℕ) → e < n → get_or labels e 0 ≡ k)
    → ((e : ℕ) → is_in seen e ≡ false) → is_in level v ≡ true
    → ((e : ℕ) → is_in level e ≡ true → v ≡ e) → IsReached R n k v 0 labels seen level
reached_none R n k v labels seen level size caps unseen here only = record {
  one_each = size;
  seen_is = λ e at. (
    (λ is. absurd (not_both (is_in seen e) is (unseen e))),
    (λ below. absurd (omega (arith, below))),
  );
  or_cap = λ e at. inr (caps e at);
  walk = λ e at below. absurd (omega (arith, below));
  least = λ j e less w. absurd (omega (arith, less));
  taken = λ e is. (only e is, unseen e);
  due = λ e w. inr (subst (λ (x : ℕ). is_in level x ≡ true) w here);
}

-- a vector's list after a call on its slice
pub written_back : (n : ℕ) (new old : List ℕ) → length new ≡ n → take n (new ++ drop (length new) old) ≡ new
written_back n new old long = take-append-le n new (drop (length new) old) (omega (arith, long))
    ∙ take_all n new (omega (arith, long))
