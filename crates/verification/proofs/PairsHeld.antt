-- The lines of the pairs of a cycle that hold.
use Rattle.std.proofs.Common.{◌≡◌, ◌<◌, ◌≤◌, ◌⊎◌, ◌-◌, ◌+◌, ◌^◌, ◌++◌, ◌∷◌, [], ℕ, zero, suc, List, Some, inl, inr}
use Rattle.std.proofs.Common.{arith, ap, refl, sym, subst}
use Rattle.std.proofs.Common.{◌∙◌, append_assoc, append-nil, codes, decimal}
use Rattle.std.specs.Prelude.{Option, true, false}
use Rattle.std.proofs.lemmas.Bool.{cases_lt, false≢true}
use Rattle.recording.specs.Execution.{Execution}
use Rattle.recording.specs.Recording.{IsRecording}
use Rattle.relations.specs.declared.reason.Reason.{Reason}
use Rattle.relations.specs.Forced.{IsReason}
use Rattle.relations.specs.ForcedLaws.{forced_within}
use Rattle.texts.specs.Decimals.{is_digit}
use Rattle.verdicts.specs.VerdictText.{IsPairLine, pair_line, reason_name}
use Rattle.verification.specs.Faults.{PairsLead}
use Rattle.verification.specs.Held.{ArePairsHeld, PairsStand}
use Rattle.verification.specs.Spelled.{HasNoDigit}
use Rattle.verification.proofs.OneText.{reason_forces}
use Rattle.verification.proofs.Spelling.{pair_shape, reason_text}

-- the events of a forced pair have 32 bits
pub pair_short : (x : Execution) → IsRecording x → (e f : ℕ) (r : Reason) → IsReason x e f (Some r)
    → (e < 2 ^ 32) × (f < 2 ^ 32)
pair_short x is e f r first =
    let forced = reason_forces x e f r first in
    let within = forced_within x is.well_formed forced.0 e f forced.1 in
    (omega (arith, is.within.few_events, within.0), omega (arith, is.within.few_events, within.1))

-- what is read of a text that begins with a number, after a text without a digit
abbrev pub ReadsNumber : List ℕ → Option ℕ → List ℕ → Type 0
ReadsNumber text read left = (gap : List ℕ) (n b : ℕ) (more : List ℕ) → HasNoDigit gap → n < 2 ^ 32
    → is_digit b ≡ false → text ≡ gap ++ (decimal n ++ b ∷ more) → (read ≡ Some n) × (left ≡ b ∷ more)

-- two numbers are read of the line of a pair
pub reads_pair : (x : Execution) → IsRecording x → (text mid left : List ℕ) (one two : Option ℕ)
    → ReadsNumber text one mid → ReadsNumber mid two left → (gap more : List ℕ) (e f : ℕ) (r : Reason)
    → HasNoDigit gap → IsReason x e f (Some r) → text ≡ gap ++ (pair_line e f r ++ more)
    → (two ≡ Some f) × (left ≡ 32 ∷ (reason_name r ++ 10 ∷ more))
reads_pair x is text mid left one two first second gap more e f r none holds stands =
    let short = pair_short x is e f r holds in
    let end = 32 ∷ (reason_name r ++ 10 ∷ more) in
    second (codes " -> ") f 32 (reason_name r ++ 10 ∷ more) refl short.1 refl
    (first gap e 32 (codes "-> " ++ (decimal f ++ end)) none short.0 refl
    (stands ∙ ap (λ (t : List ℕ). gap ++ t) (pair_shape e f r more))).1

-- the first of some lines of pairs, and n lines after it
abbrev BeginsWith : Execution → ℕ → ℕ → List ℕ → ℕ → Type 0
BeginsWith x e n lines f = (g : ℕ) × (line after : List ℕ) × IsPairLine x e g line × PairsLead x g n after f
    × (lines ≡ line ++ after)

pub first_line : (x : Execution) (e n : ℕ) (lines : List ℕ) (f : ℕ) → PairsLead x e (suc n) lines f
    → BeginsWith x e n lines f
first_line x e zero lines f h = (
  f,
  h.2,
  [],
  subst (λ (g : ℕ). IsPairLine x g f h.2) (sym h.3.1) h.4,
  (refl, refl),
  h.5 ∙ ap (λ (t : List ℕ). t ++ h.2) h.3.0 ∙ sym (append-nil h.2),
)
first_line x e (suc n) lines f h =
    let front : BeginsWith x e n h.1 h.0 =
    first_line x e n h.1 h.0 h.3 in (
      front.0,
      front.1,
      front.2 ++ h.2,
      front.3,
      (h.0, front.2, h.2, front.4, h.4, refl),
      h.5 ∙ ap (λ (t : List ℕ). t ++ h.2) front.5 ∙ append_assoc front.1 front.2 h.2,
    )

-- how some lines of pairs stand to those that are added: they are among them, or go on after them
pub record GoOn (x : Execution) (first last i n : ℕ) (part lines more left : List ℕ) (end : ℕ) : Type 0 where
  pub rest : List ℕ
  pub gap : List ℕ
  pub lead : PairsLead x last (n - i) rest end
  pub within : i ≤ n
  pub after : lines ≡ part ++ rest
  pub none : HasNoDigit gap
  pub stands : left ≡ gap ++ (rest ++ more)

-- the lines of i pairs are added
pub record PairsGo (x : Execution) (size first last i : ℕ) (text old new left : List ℕ) : Type 0 where
  pub part : List ℕ
  pub added : new ≡ old ++ part
  pub lead : PairsLead x first i part last
  pub closes : i ≡ size → last ≡ first
  pub follow : (n : ℕ) (lines more : List ℕ) → 0 < n → (s : PairsStand x size n text lines more)
      → ((n < i) × ((rest : List ℕ) × (part ≡ lines ++ rest)))
      ⊎ ((s.first ≡ first) × GoOn x first last i n part lines more left s.last)

-- a pair by which lines go on
pub pair_is : (p q : ℕ × Reason) → Some p ≡ Some q → (p.0 ≡ q.0) × (p.1 ≡ q.1)
pair_is p q same = let is : p ≡ q = cc in (ap (λ (r : ℕ × Reason). r.0) is, ap (λ (r : ℕ × Reason). r.1) is)

-- pairs that stand after the end of a line begin with the first event
pub begins_with : (x : Execution) → IsRecording x → (size n : ℕ) (text lines more : List ℕ) → 0 < n
    → (s : PairsStand x size n text lines more)
    → (back : List ℕ) × (s.first < 2 ^ 32) × (text ≡ (10 ∷ []) ++ (decimal s.first ++ 32 ∷ back))
begins_with x is size zero text lines more some s = absurd (omega (arith, some))
begins_with x is size (suc n) text lines more some s =
    let front : BeginsWith x s.first n lines s.last =
    first_line x s.first n lines s.last s.lead in
    let why = front.3.reason in
    let back = codes "-> " ++ (decimal front.0 ++ 32 ∷ (reason_name why ++ 10 ∷ (front.2 ++ more))) in (
      back,
      (pair_short x is s.first front.0 why front.3.first).0,
      s.whole ∙ ap (λ (t : List ℕ). 10 ∷ t) (ap (λ (t : List ℕ). t ++ more) front.5
          ∙ append_assoc front.1 front.2 more ∙ ap (λ (t : List ℕ). t ++ (front.2 ++ more)) front.3.text
          ∙ pair_shape s.first front.0 why (front.2 ++ more)),
    )

-- no line of a pair holds at the beginning
pub none_held : (x : Execution) → IsRecording x → (size : ℕ) (text old left : List ℕ)
    → ((e : ℕ) (back : List ℕ) → e < 2 ^ 32 → text ≡ (10 ∷ []) ++ (decimal e ++ 32 ∷ back) → ⊥)
    → ArePairsHeld x size text old old left false
none_held x is size text old left never = record {
  part = [];
  added = sym (append-nil old);
  count = 0;
  within = omega arith;
  first = 0;
  last = 0;
  lead = (refl, refl);
  closes = λ same. refl;
  whole = λ all. absurd (false≢true all);
  most = most;
  full = λ lines more some s. let b = begins_with x is size size text lines more some s in
      absurd (never s.first b.0 b.1 b.2);
}
  where
    most : (n : ℕ) (lines more : List ℕ) → PairsStand x size n text lines more
        → (rest : List ℕ) × ([] ≡ lines ++ rest)
    most zero lines more s = ([], ap (λ (t : List ℕ). t ++ []) (sym s.lead.0))
    most (suc n) lines more s =
        let b = begins_with x is size (suc n) text lines more (omega arith) s in absurd (never s.first b.0 b.1 b.2)

-- before the first line
pub start : (x : Execution) → IsRecording x → (size first : ℕ) (text old : List ℕ)
    → ((e : ℕ) (back : List ℕ) → e < 2 ^ 32 → text ≡ (10 ∷ []) ++ (decimal e ++ 32 ∷ back) → first ≡ e)
    → PairsGo x size first first 0 text old old text
start x is size first text old reads = record {
  part = [];
  added = sym (append-nil old);
  lead = (refl, refl);
  closes = λ same. refl;
  follow = λ n lines more some s.
      let b = begins_with x is size n text lines more some s in
      let same : first ≡ s.first = reads s.first b.0 b.1 b.2 in
      inr (
        sym same,
        record {
          rest = lines;
          gap = 10 ∷ [];
          lead = subst (λ (m : ℕ). PairsLead x first m lines s.last) (omega arith)
              (subst (λ (e : ℕ). PairsLead x e n lines s.last) (sym same) s.lead);
          within = omega arith;
          after = refl;
          none = refl;
          stands = s.whole;
        },
      );
}

-- no lines lead to where they begin
ended : (x : Execution) (e n : ℕ) (lines : List ℕ) (f : ℕ) → n ≡ 0 → PairsLead x e n lines f → (lines ≡ []) × (e ≡ f)
ended x e n lines f none lead = subst (λ (m : ℕ). PairsLead x e m lines f) none lead

-- a line by which lines go on
pub record NextLine (x : Execution) (size first last i : ℕ) (left : List ℕ) : Type 0 where
  pub next : ℕ
  pub reason : Reason
  pub gap : List ℕ
  pub more : List ℕ
  pub none : HasNoDigit gap
  pub holds : IsReason x last next (Some reason)
  pub closes : i + 1 ≡ size → next ≡ first
  pub stands : left ≡ gap ++ (pair_line last next reason ++ more)

-- a line by which these lines go on, and those after it
abbrev GoesBy : Execution → ℕ → ℕ → ℕ → ℕ → ℕ → List ℕ → List ℕ → List ℕ → List ℕ → ℕ → Type 0
GoesBy x size first last i n part lines more left end =
    (a : NextLine x size first last i left) × (after : List ℕ) × PairsLead x a.next (n - (i + 1)) after end
    × (lines ≡ part ++ (pair_line last a.next a.reason ++ after)) × (a.more ≡ after ++ more)

next_of : (x : Execution) (size first last i n : ℕ) (text part lines more left : List ℕ) → i < n
    → (s : PairsStand x size n text lines more) → s.first ≡ first
    → (go : GoOn x first last i n part lines more left s.last) (g : ℕ) (after : List ℕ) (reason : Reason)
    → IsReason x last g (Some reason) → PairsLead x g (n - (i + 1)) after s.last
    → go.rest ≡ pair_line last g reason ++ after → GoesBy x size first last i n part lines more left s.last
next_of x size first last i n text part lines more left low s begins go g after reason holds lead whole = (
  record {
    next = g;
    reason = reason;
    gap = go.gap;
    more = after ++ more;
    none = go.none;
    holds = holds;
    closes = λ full. (ended x g (n - (i + 1)) after s.last (omega (arith, full, s.within, low)) lead).1
        ∙ s.closes (omega (arith, full, s.within, low)) ∙ begins;
    stands = go.stands ∙ ap (λ (t : List ℕ). go.gap ++ t) (ap (λ (t : List ℕ). t ++ more) whole
        ∙ append_assoc (pair_line last g reason) after more);
  },
  after,
  lead,
  go.after ∙ ap (λ (t : List ℕ). part ++ t) whole,
  refl,
)

-- lines that go on have a next line
next_line : (x : Execution) (size first last i n : ℕ) (text part lines more left : List ℕ) → i < n
    → (s : PairsStand x size n text lines more) → s.first ≡ first → GoOn x first last i n part lines more left s.last
    → GoesBy x size first last i n part lines more left s.last
next_line x size first last i n text part lines more left low s begins go =
    let left_over : n - i ≡ suc (n - (i + 1)) = omega (arith, low) in
    let front : BeginsWith x last (n - (i + 1)) go.rest s.last =
    first_line x last (n - (i + 1)) go.rest s.last
    (subst (λ (m : ℕ). PairsLead x last m go.rest s.last) left_over go.lead) in
    next_of x size first last i n text part lines more left low s begins go front.0 front.2 front.3.reason
    front.3.first front.4 (front.5 ∙ ap (λ (t : List ℕ). t ++ front.2) front.3.text)

-- lines that do not go on were all added
all_added : (x : Execution) (first last i n : ℕ) (part lines more left : List ℕ) (end : ℕ) → n ≤ i
    → GoOn x first last i n part lines more left end
    → (part ≡ lines) × (gap : List ℕ) × HasNoDigit gap × (left ≡ gap ++ more)
all_added x first last i n part lines more left end past go =
    let nothing : go.rest ≡ [] = (ended x last (n - i) go.rest end (omega (arith, past)) go.lead).0 in (
      sym (go.after ∙ ap (λ (t : List ℕ). part ++ t) nothing ∙ append-nil part),
      go.gap,
      go.none,
      go.stands ∙ ap (λ (t : List ℕ). go.gap ++ (t ++ more)) nothing,
    )

-- where no line goes on, all that hold are added
most_added : (x : Execution) (size first last i : ℕ) (text old new left : List ℕ)
    → (go : PairsGo x size first last i text old new left)
    → (i < size → NextLine x size first last i left → ⊥) → (n : ℕ) (lines more : List ℕ)
    → PairsStand x size n text lines more → (rest : List ℕ) × (go.part ≡ lines ++ rest)
most_added x size first last i text old new left go never zero lines more s =
    (go.part, ap (λ (t : List ℕ). t ++ go.part) (sym s.lead.0))
most_added x size first last i text old new left go never (suc n) lines more s =
    elim (go.follow (suc n) lines more (omega arith) s) [
      | inl past ↦ past.1
      | inr on ↦ elim (cases_lt i (suc n)) [
        | inl inside ↦ absurd (never (omega (arith, inside, s.within))
            (next_line x size first last i (suc n) text go.part lines more left inside s on.0 on.1).0)
        | inr past ↦ (
          [],
          (all_added x first last i (suc n) go.part lines more left s.last past on.1).0 ∙ sym (append-nil lines),
        )
      ]
    ]

-- before the lines of all pairs
pub stop : (x : Execution) (size first last i : ℕ) (text old new left later : List ℕ) → i < size
    → PairsGo x size first last i text old new left → (NextLine x size first last i left → ⊥)
    → ArePairsHeld x size text old new later false
stop x size first last i text old new left later low go never = record {
  part = go.part;
  added = go.added;
  count = i;
  within = omega (arith, low);
  first = first;
  last = last;
  lead = go.lead;
  closes = go.closes;
  whole = λ all. absurd (false≢true all);
  most = most_added x size first last i text old new left go (λ less. never);
  full = λ lines more some s. elim (go.follow size lines more some s) [
    | inl past ↦ absurd (omega (arith, low, past.0))
    | inr on ↦ absurd (never (next_line x size first last i size text go.part lines more left low s on.0 on.1).0)
  ];
}

-- after the lines of all pairs
pub finish : (x : Execution) (size first last i : ℕ) (text old new left : List ℕ) → i ≡ size
    → PairsGo x size first last i text old new left → ArePairsHeld x size text old new left true
finish x size first last i text old new left is go = record {
  part = go.part;
  added = go.added;
  count = i;
  within = omega (arith, is);
  first = first;
  last = last;
  lead = go.lead;
  closes = go.closes;
  whole = λ all. is;
  most = most_added x size first last i text old new left go (λ less a. omega (arith, is, less));
  full = λ lines more some s. elim (go.follow size lines more some s) [
    | inl past ↦ absurd (omega (arith, is, past.0))
    | inr on ↦ let all : (go.part ≡ lines) × (gap : List ℕ) × HasNoDigit gap × (left ≡ gap ++ more) =
        all_added x first last i size go.part lines more left s.last (omega (arith, is)) on.1 in
        (refl, all.0, (all.1, all.2, all.3))
  ];
}

-- one line more
pub go_on : (x : Execution) (size first last i next : ℕ) (reason : Reason) (text old new more left back : List ℕ)
    → PairsGo x size first last i text old new left → IsReason x last next (Some reason)
    → (i + 1 ≡ size → next ≡ first) → more ≡ new ++ pair_line last next reason
    → ((gap later : List ℕ) (f : ℕ) (r : Reason) → HasNoDigit gap → IsReason x last f (Some r)
    → left ≡ gap ++ (pair_line last f r ++ later)
    → (next ≡ f) × (reason ≡ r) × (back ≡ 32 ∷ (reason_name r ++ 10 ∷ later)))
    → PairsGo x size first next (i + 1) text old more back
go_on x size first last i next reason text old new more left back go holds closes is reads = record {
  part = go.part ++ pair_line last next reason;
  added = is ∙ ap (λ (t : List ℕ). t ++ pair_line last next reason) go.added
      ∙ append_assoc old go.part (pair_line last next reason);
  lead = let next_count : suc i ≡ i + 1 = omega arith in
      subst (λ (m : ℕ). PairsLead x first m (go.part ++ pair_line last next reason) next) next_count longer;
  closes = closes;
  follow = λ n lines later some s. elim (go.follow n lines later some s) [
    | inl past ↦ inl (
      omega (arith, past.0),
      (
        past.1.0 ++ pair_line last next reason,
        ap (λ (t : List ℕ). t ++ pair_line last next reason) past.1.1
            ∙ append_assoc lines past.1.0 (pair_line last next reason),
      ),
    )
    | inr on ↦ further n lines later s on.0 on.1
  ];
}
  where
    longer : PairsLead x first (suc i) (go.part ++ pair_line last next reason) next
    longer = (
      last,
      go.part,
      pair_line last next reason,
      go.lead,
      record { reason = reason; first = holds; text = refl },
      refl,
    )

    further : (n : ℕ) (lines later : List ℕ) (s : PairsStand x size n text lines later) → s.first ≡ first
        → GoOn x first last i n go.part lines later left s.last
        → ((n < i + 1) × ((rest : List ℕ) × (go.part ++ pair_line last next reason ≡ lines ++ rest)))
        ⊎ ((s.first ≡ first) × GoOn x first next (i + 1) n (go.part ++ pair_line last next reason) lines later back
        s.last)
    further n lines later s begins on = elim (cases_lt i n) [
      | inl inside ↦
          let h : GoesBy x size first last i n go.part lines later left s.last =
          next_line x size first last i n text go.part lines later left inside s begins on in
          let a = h.0 in
          let read = reads a.gap a.more a.next a.reason a.none a.holds a.stands in
          inr (
            begins,
            record {
              rest = h.1;
              gap = 32 ∷ (reason_name a.reason ++ 10 ∷ []);
              lead = subst (λ (e : ℕ). PairsLead x e (n - (i + 1)) h.1 s.last) (sym read.0) h.2;
              within = omega (arith, inside);
              after = h.3 ∙ ap (λ (f : ℕ). go.part ++ (pair_line last f a.reason ++ h.1)) (sym read.0)
                  ∙ ap (λ (r : Reason). go.part ++ (pair_line last next r ++ h.1)) (sym read.1)
                  ∙ sym (append_assoc go.part (pair_line last next reason) h.1);
              none = reason_text a.reason;
              stands = read.2 ∙ ap (λ (t : List ℕ). 32 ∷ (reason_name a.reason ++ 10 ∷ t)) h.4
                  ∙ sym (append_assoc (32 ∷ reason_name a.reason) (10 ∷ []) (h.1 ++ later));
            },
          )
      | inr past ↦ inl (
        omega (arith, past),
        (
          pair_line last next reason,
          ap (λ (t : List ℕ). t ++ pair_line last next reason)
              (all_added x first last i n go.part lines later left s.last past on).0,
        ),
      )
    ]
