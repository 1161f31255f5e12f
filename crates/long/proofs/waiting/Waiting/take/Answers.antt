use Rattle.std.proofs.Common.{◌≡◌, ◌≢◌, ◌≤◌, ◌<◌, ◌^◌, ℕ, List, get_or, length, arith, refl, subst}
use Rattle.recording.specs.Order.{times}
use Rattle.recording.specs.OrderLaws.{times_here}
use Rattle.long.specs.Ready.{key_of}
use Rattle.long.proofs.Keys.{first_ready, none_ready, ready_taken}
use Rattle.long.proofs.waiting.Waiting.take.Goals as goal

pub returns-in_err-key-clause-free : goal.returns-in_err-key-clause-free
returns-in_err-key-clause-free c =
    rw c.from_residual.ensures
    (subst (λ (l : List ℕ). (e : ℕ) → e < length l → get_or l e 0 ≢ 1) c.self.view_is
    (none_ready c.self.inside.counts.items c.self.inside.ready c.self.invariant c.in_err-key.ensures.taken))

pub index_mut-requires : goal.index_mut-requires
index_mut-requires c =
    let counts : List ℕ = c.self.inside.counts.items in
    let keys : List ℕ = c.self.inside.ready in
    let key = c.in_ok-key.key in
    let rest : List ℕ = c.take.new.self in
    let some : 0 < times keys key = omega (
      arith,
      c.in_ok-key.ensures.taken key,
      times_here rest key key refl,
    ) in
    let small : key < 2 ^ 32 = c.key_of-event.ensures.few in
    let first = first_ready counts keys c.self.invariant key small c.in_ok-key.ensures.greatest some in
    omega (arith, c.key_of-event.ensures.key, first.0, c.self.inside.counts.ok.0)

pub invariant_of-self-2 : goal.invariant_of-self-2
invariant_of-self-2 c =
    let counts : List ℕ = c.self.inside.counts.items in
    let keys : List ℕ = c.self.inside.ready in
    let key = c.in_ok-key.key in
    let rest : List ℕ = c.take.new.self in
    let moved = c.in_ok-key.ensures.taken in
    let some : 0 < times keys key = omega (arith, moved key, times_here rest key key refl) in
    let small : key < 2 ^ 32 = c.key_of-event.ensures.few in
    rw c.key_of-event.ensures.key (ready_taken counts keys rest c.self.invariant key small moved some)

pub returns-clause-free : goal.returns-clause-free
returns-clause-free c =
    let counts : List ℕ = c.self.inside.counts.items in
    let keys : List ℕ = c.self.inside.ready in
    let key = c.in_ok-key.key in
    let rest : List ℕ = c.take.new.self in
    let some : 0 < times keys key = omega (
      arith,
      c.in_ok-key.ensures.taken key,
      times_here rest key key refl,
    ) in
    let small : key < 2 ^ 32 = c.key_of-event.ensures.few in
    rw c.key_of-event.ensures.key
    (subst (λ (l : List ℕ). (key_of key < length l) × (get_or l (key_of key) 0 ≡ 1)
    × ((e : ℕ) → e < length l → get_or l e 0 ≡ 1 → key_of key ≤ e)) c.self.view_is
    (first_ready counts keys c.self.invariant key small c.in_ok-key.ensures.greatest some))
