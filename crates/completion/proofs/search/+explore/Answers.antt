use Rattle.std.proofs.Common.{◌≡◌, ◌<◌, ◌+◌, ◌-◌, ◌^◌, ◌∙◌, inl, inr, ℕ, Option, Some, List, length, get_or, vec_len}
use Rattle.std.proofs.Common.{arith, ap, refl, sym, subst}
use Rattle.std.proofs.lemmas.Bool.{cases_eq}
use Rattle.std.proofs.lemmas.List.{get_or_default}
use Rattle.values.specs.Values.{Values}
use Rattle.std.proofs.lemmas.Option.{same_Some, slice_get-get_or, slice_get_within}
use Rattle.completion.specs.declared.moves.Move.TheVariants.{Modify}
use Rattle.completion.specs.declared.moves.Turn.{Turn}
use Rattle.completion.specs.declared.seen.Seen.{Seen}
use Rattle.completion.specs.Seen.{Grows, HasNumber, IsTaken, IsVain}
use Rattle.completion.specs.Situation.{beginning, moved}
use Rattle.situations.specs.Situation.{Situation}
use Rattle.completion.proofs.Rank.{rank, most_rank}
use Rattle.completion.proofs.Comes.{come_by}
use Rattle.completion.proofs.Vain.{all_vain, buried_dead, buried_grows, buried_searched, grows_on, grows_same, popped, step_comes}
use Rattle.completion.proofs.Vain.{step_falls, vain_still}
use Rattle.completion.proofs.search.+explore.Goals as goal
use Rattle.completion.proofs.search.+explore.Goals.{in-Vain, in-Row+in_ok-came-in-Row+in-Dead}

-- where a move of a row leads, that of what has its number does
leads_by : (v : Values) (seen : Seen) (row : Situation) (n : ℕ) (t : Turn) (o : Option Situation) → HasNumber seen row n
    → moved v row t.step t.core ≡ o → (r : Situation) → HasNumber seen r n → moved v r t.step t.core ≡ o
leads_by v seen row n t o here is r at =
    ap (λ (z : Situation). moved v z t.step t.core) (same_Some r row (sym at ∙ here)) ∙ is

-- and where it is vain
vain_by : (v : Values) (seen : Seen) (row r : Situation) (t : Turn) → row ≡ r → IsVain v seen row t.step t.core
    → IsVain v seen r t.step t.core
vain_by v seen row r t is vain = subst (λ (z : Situation). IsVain v seen z t.step t.core) is vain

pub explore-requires : goal.explore-requires
explore-requires t c =
    let v = c.args.values.now in
    let old : Seen = c.args.way.now.seen in
    let seen : Seen = c.loop-turn.way.seen in
    let new : Seen = c.reach.new.way.seen in
    let row = rw c.in-Row.is at c.in_ok-reach.ensures.next in
    let here : HasNumber seen c.in_ok-row.row c.args.number =
    c.loop-turn.invariant.grows.rows c.in_ok-row.row c.args.number c.in_ok-row.ensures in
    let leads = leads_by v seen c.in_ok-row.row c.args.number _ _ here row.0 in
    let falls : most_rank v + 1 - rank (get_or new.rows.keys c.in-Row.next (beginning v))
    < most_rank v + 1 - rank (get_or old.rows.keys c.args.number (beginning v)) =
    step_falls v old seen new c.args.number c.in-Row.next _ c.requires.searched c.requires.there
    c.loop-turn.invariant.grows leads row.1 in (
      (let now : most_rank v + 1 - rank (get_or old.rows.keys c.args.number (beginning v)) ≡ t = c.decreases in
          let less : most_rank v + 1 - rank (get_or new.rows.keys c.in-Row.next (beginning v)) < t = omega (arith, falls, now) in
          less),
      (
        c.requires.room,
        (
          c.requires.square,
          (
            c.requires.forced,
            (
              c.in_ok-reach.ensures.searched,
              (
                row.1,
                step_comes v old seen new c.args.number c.in-Row.next _ c.requires.searched c.requires.there
                    c.loop-turn.invariant.grows leads c.args.way.now.turns.items c.loop-turn.way.turns.items
                    c.reach.new.way.turns.items c.requires.comes c.loop-turn.invariant.turns row.2,
              ),
            ),
          ),
        ),
      ),
    )

pub bury-requires : goal.bury-requires
bury-requires t c =
    let r : Situation = get_or c.args.way.now.seen.rows.keys c.args.number (beginning c.args.values.now) in
    let at : HasNumber c.loop-turn.way.seen r c.args.number = c.loop-turn.invariant.grows.rows r c.args.number
    (slice_get-get_or c.args.way.now.seen.rows.keys c.args.number (beginning c.args.values.now) c.requires.there) in
    omega (arith, slice_get_within c.loop-turn.way.seen.rows.keys c.args.number r at, c.loop-turn.invariant.searched.size)

pub returns-clause-grows : goal.returns-clause-grows
returns-clause-grows t c =
    let seen : Seen = c.loop-turn.way.seen in
    let r : Situation = get_or c.args.way.now.seen.rows.keys c.args.number (beginning c.args.values.now) in
    let at : HasNumber seen r c.args.number = c.loop-turn.invariant.grows.rows r c.args.number
    (slice_get-get_or c.args.way.now.seen.rows.keys c.args.number (beginning c.args.values.now) c.requires.there) in
    grows_on c.args.way.now.seen seen c.bury.new.self c.loop-turn.invariant.grows
    (buried_grows c.args.values.now seen c.bury.new.self c.args.number c.loop-turn.invariant.searched
    c.bury.ensures.rows c.bury.ensures.dead (slice_get_within seen.rows.keys c.args.number r at))

pub returns-clause-searched : goal.returns-clause-searched
returns-clause-searched t c =
    let v = c.args.values.now in
    let seen : Seen = c.loop-turn.way.seen in
    let first : Situation = get_or c.args.way.now.seen.rows.keys c.args.number (beginning c.args.values.now) in
    let here : HasNumber c.args.way.now.seen first c.args.number =
    slice_get-get_or c.args.way.now.seen.rows.keys c.args.number (beginning c.args.values.now) c.requires.there in
    let at : HasNumber seen first c.args.number = c.loop-turn.invariant.grows.rows first c.args.number here in
    buried_searched v seen c.bury.new.self c.args.number c.loop-turn.invariant.searched
    c.bury.ensures.rows c.bury.ensures.dead (slice_get_within seen.rows.keys c.args.number first at)
    (λ r number move d.
    let was : HasNumber c.args.way.now.seen r c.args.number =
    here ∙ ap (λ (z : Situation). Some z) (same_Some first r (sym at ∙ number)) in
    let row : c.in_ok-row.row ≡ r = same_Some c.in_ok-row.row r (sym c.in_ok-row.ensures ∙ was) in
    all_vain v seen r c.in_ok-moves.moves.items
    (λ step e core. subst (λ (z : Situation). IsTaken v z c.in_ok-moves.moves.items step e) row
    (c.in_ok-moves.ensures step e core))
    (λ u there.
    let items = c.deref-turn-items.ensures.value in
    let vain = c.loop-turn.invariant.vain there.0 u r (omega (
      arith,
      there.1,
      c.loop-turn-test.false,
      ap (λ (l : List Turn). length l) items,
    )) was in
    let is : get_or c.deref-turn-items.result.now there.0 u ≡ u =
    ap (λ (l : List Turn). get_or l there.0 u) items ∙ there.2 in
    subst (λ (z : Turn). IsVain v seen r z.step z.core) is vain) move d)

pub returns-clause-come : goal.returns-clause-come
returns-clause-come t c = (
  c.loop-turn.invariant.turns,
  λ r was.
      let at : HasNumber c.loop-turn.way.seen r c.args.number = c.loop-turn.invariant.grows.rows r c.args.number was in
      buried_dead c.args.values.now c.loop-turn.way.seen c.bury.new.self c.args.number c.loop-turn.invariant.searched
      c.bury.ensures.rows c.bury.ensures.dead
      (slice_get_within c.loop-turn.way.seen.rows.keys c.args.number r at) r at,
)

-- the move at a place, whatever stands past the end
at_last : (v : Values) (seen : Seen) (r : Situation) (l : List Turn) (i n : ℕ) (d e : Turn) → n < length l → i ≡ n
    → IsVain v seen r (get_or l n e).step (get_or l n e).core → IsVain v seen r (get_or l i d).step (get_or l i d).core
at_last v seen r l i n d e inside one vain =
    subst (λ (z : Turn). IsVain v seen r z.step z.core)
    (get_or_default l n e d inside ∙ ap (λ (k : ℕ). get_or l k d) (sym one)) vain

pub loop-turn-preserved : goal.loop-turn-preserved
loop-turn-preserved t c =
    let v = c.args.values.now in
    let seen : Seen = c.loop-turn.way.seen in
    let items : List Turn = c.deref-turn-items.result.now in
    let inv = c.loop-turn.invariant in
    elim c.match-branch-4.branch [
      | in-Vain w ↦
          let first : Turn = record { step = Modify; core = 0 } in
          let vain = rw w.in-Vain.is at c.in_ok-reach.ensures.next in
          rw w.way'-is (record {
            searched = c.in_ok-reach.ensures.searched;
            grows = grows_on c.args.way.now.seen seen c.reach.new.way.seen inv.grows c.in_ok-reach.ensures.grows;
            limit = ap (λ z. z.limit) vain.0 ∙ inv.limit;
            most = ap (λ z. z.most) vain.0 ∙ inv.most;
            turns = ap (λ z. z.turns.items) vain.0 ∙ inv.turns;
            vain = λ i d r low was. elim (cases_eq i c.loop-turn.turn-index) [
              | inr other ↦ vain_still v seen c.reach.new.way.seen r (get_or items i d).step (get_or items i d).core
                  c.in_ok-reach.ensures.grows (inv.vain i d r (omega (arith, low, other)) was)
              | inl one ↦ at_last v c.reach.new.way.seen r items i c.loop-turn.turn-index d first c.loop-turn-test.true one
                  (vain_by v c.reach.new.way.seen c.in_ok-row.row r (get_or items c.loop-turn.turn-index first)
                  (same_Some c.in_ok-row.row r (sym c.in_ok-row.ensures ∙ was)) vain.1)
            ];
          })
      | in-Row+in_ok-came-in-Row+in-Dead w ↦
          let new : Seen = w.explore.new.way.seen in
          let row = rw w.in-Row.is at c.in_ok-reach.ensures.next in
          let dead = rw w.in-Dead.is at w.in_ok-came-in-Row.ensures.come in
          let grows : Grows seen new =
          grows_on seen c.reach.new.way.seen new c.in_ok-reach.ensures.grows w.in_ok-came-in-Row.ensures.grows in
          rw w.way'-is (record {
            searched = w.in_ok-came-in-Row.ensures.searched;
            grows = grows_on c.args.way.now.seen seen new inv.grows grows;
            limit = w.in_ok-came-in-Row.ensures.limit ∙ (c.in_ok-reach.ensures.limit ∙ inv.limit);
            most = w.in_ok-came-in-Row.ensures.most ∙ (c.in_ok-reach.ensures.most ∙ inv.most);
            turns = popped c.loop-turn.way.turns.items w.explore.new.way.turns.items w.pop-turn.new.self.items _
                (vec_len w.explore.new.way.turns) (dead.0 ∙ row.2)
                (let size : vec_len w.explore.new.way.turns ≡ length w.explore.new.way.turns.items =
                omega (arith, w.explore.new.way.turns.ok.0) in size) w.pop-turn.ensures.rest ∙ inv.turns;
            vain = λ i d r low was. elim (cases_eq i c.loop-turn.turn-index) [
              | inr other ↦ vain_still v seen new r (get_or items i d).step (get_or items i d).core grows
                  (inv.vain i d r (omega (arith, low, other)) was)
              | inl one ↦ at_last v new r items i c.loop-turn.turn-index d _ c.loop-turn-test.true one
                  (inr (λ s is. inr (dead.1 s (sym (leads_by v seen c.in_ok-row.row c.args.number _ _
                  (inv.grows.rows c.in_ok-row.row c.args.number c.in_ok-row.ensures) row.0 r
                  (inv.grows.rows r c.args.number was)) ∙ is))))
            ];
          })
    ]

pub returns-in_default : goal.returns-in_default
returns-in_default t c =
    let v = c.args.values.now in
    let inv = c.loop-turn.invariant in
    let limit : c.reach.new.way.limit ≡ c.args.way.now.limit = c.reach.ensures.limit ∙ inv.limit in
    let most : c.reach.new.way.most ≡ c.args.way.now.most = c.reach.ensures.most ∙ inv.most in
    record {
      searched = c.in_ok-came-in-Row.ensures.searched;
      grows = grows_on c.args.way.now.seen c.loop-turn.way.seen c.explore.new.way.seen inv.grows
          (grows_on c.loop-turn.way.seen c.reach.new.way.seen c.explore.new.way.seen c.in_ok-reach.ensures.grows
          c.in_ok-came-in-Row.ensures.grows);
      limit = c.explore.ensures.limit ∙ limit;
      most = c.explore.ensures.most ∙ most;
      come = come_by v _ _ _ _ _ _ _ c.in_ok-came-in-Row.came
          (λ is. absurd (c.in_default.not-Dead is)) (λ _. subst (λ (n : ℕ). n < 2 ^ 64 - 1) most) limit
          c.in_ok-came-in-Row.ensures.come;
    }

pub returns-then-way-clause-searched : goal.returns-then-way-clause-searched
returns-then-way-clause-searched t c = c.requires.searched

pub returns-then-way-clause-grows : goal.returns-then-way-clause-grows
returns-then-way-clause-grows t c = grows_same c.args.way.now.seen

pub rank_moves-requires-clause-square : goal.rank_moves-requires-clause-square
rank_moves-requires-clause-square t c = c.requires.square

pub rank_moves-requires-clause-forced : goal.rank_moves-requires-clause-forced
rank_moves-requires-clause-forced t c = c.requires.forced

pub loop-turn-init : goal.loop-turn-init
loop-turn-init t c = record {
  searched = c.requires.searched;
  grows = grows_same c.args.way.now.seen;
  limit = refl;
  most = refl;
  turns = refl;
  vain = λ i d r low was. absurd (omega (arith, low));
}

pub reach-requires-clause-searched : goal.reach-requires-clause-searched
reach-requires-clause-searched t c = c.loop-turn.invariant.searched

pub returns-in-End-clause-searched : goal.returns-in-End-clause-searched
returns-in-End-clause-searched t c = c.in_ok-reach.ensures.searched

pub returns-in-End-clause-grows : goal.returns-in-End-clause-grows
returns-in-End-clause-grows t c =
    grows_on c.args.way.now.seen c.loop-turn.way.seen c.reach.new.way.seen c.loop-turn.invariant.grows
    c.in_ok-reach.ensures.grows

pub returns-in-Full-clause-searched : goal.returns-in-Full-clause-searched
returns-in-Full-clause-searched t c = c.in_ok-reach.ensures.searched

pub returns-in-Full-clause-grows : goal.returns-in-Full-clause-grows
returns-in-Full-clause-grows t c =
    grows_on c.args.way.now.seen c.loop-turn.way.seen c.reach.new.way.seen c.loop-turn.invariant.grows
    c.in_ok-reach.ensures.grows
