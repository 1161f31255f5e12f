use Rattle.std.proofs.Common.{◌≡◌, ◌∙◌, ℕ, None, Some, arith, sym, ap}
use Rattle.std.proofs.lemmas.Bool.{eqb-true}
use Rattle.recording.specs.Event.{read_address, source, value_read}
use Rattle.recording.specs.Execution.{Execution, event_at, Reads, Writes, source_of, initial_value}
use Rattle.recording.specs.Listed.{written}
use Rattle.recording.proofs.Obeys.{no_source, source_written, value_some, value_none, writes_some}
use Rattle.recording.proofs.LowWrites.{low_is, low_none}
use Rattle.recording.proofs.numbered.Numbered.read_fault.Goals as goal

pub returns-then-value_read-initial_value : goal.returns-then-value_read-initial_value
returns-then-value_read-initial_value c e at =
    let one = sym at in
    let reads : Reads c.args.self.now e c.in_ok-address.address = sym (ap read_address one)
    ∙ sym c.read_address.ensures ∙ c.in_ok-address.was in
    let from : source_of c.args.self.now e ≡ None = sym (ap source one) ∙ sym c.source.ensures
    ∙ c.in_default.is in (
      no_source c.args.self.now e from,
      λ has. c.if-value_read-initial_value.true (eqb-true c.value_read.result c.initial_value.result
          ((value_none c.args.self.now e c.in_ok-address.address c.initial_value.result c.value_read.result
          reads from
          (c.initial_value.ensures ∙ ap (λ (x : Execution). initial_value x c.in_ok-address.address) c.parts.ensures)
          (c.value_read.ensures ∙ ap value_read one)).1 has)),
    )

pub returns-in_default-written : goal.returns-in_default-written
returns-in_default-written c e at has =
    let one = sym at in
    let reads : Reads c.args.self.now e c.in_ok-address.address = sym (ap read_address one)
    ∙ sym c.read_address.ensures ∙ c.in_ok-address.was in
    let from : source_of c.args.self.now e ≡ Some c.in-Some.source = sym (ap source one)
    ∙ sym c.source.ensures ∙ c.in-Some.is in
    low_none (event_at c.args.self.now c.in-Some.source) c.in_ok-address.address
    (omega (arith, c.requires c.in_ok-address.address (sym c.read_address.ensures ∙ c.in_ok-address.was)))
    (sym c.written.ensures ∙ c.in_default-written.is) (has c.in_ok-address.address c.in-Some.source reads from)

pub returns-then-written-address : goal.returns-then-written-address
returns-then-written-address c e at has =
    let one = sym at in
    let reads : Reads c.args.self.now e c.in_ok-address.address = sym (ap read_address one)
    ∙ sym c.read_address.ensures ∙ c.in_ok-address.was in
    let from : source_of c.args.self.now e ≡ Some c.in-Some.source = sym (ap source one)
    ∙ sym c.source.ensures ∙ c.in-Some.is in
    let pair : ℕ × ℕ = (c.in-Some-written.written, c.in-Some-written.value) in
    let stands = writes_some (event_at c.args.self.now c.in-Some.source) pair
    (low_is (written (event_at c.args.self.now c.in-Some.source)) pair
    (sym c.written.ensures ∙ c.in-Some-written.is)) in
    let writes = has c.in_ok-address.address c.in-Some.source reads from in
    let same : c.in-Some-written.written ≡ c.in_ok-address.address =
    let both = sym stands.0 ∙ writes in cc in
    c.if-written-address.true same

pub returns-then-value-value_read : goal.returns-then-value-value_read
returns-then-value-value_read c e at =
    let one = sym at in
    let reads : Reads c.args.self.now e c.in_ok-address.address = sym (ap read_address one)
    ∙ sym c.read_address.ensures ∙ c.in_ok-address.was in
    let from : source_of c.args.self.now e ≡ Some c.in-Some.source = sym (ap source one)
    ∙ sym c.source.ensures ∙ c.in-Some.is in
    let pair : ℕ × ℕ = (c.in-Some-written.written, c.in-Some-written.value) in
    let stands = writes_some (event_at c.args.self.now c.in-Some.source) pair
    (low_is (written (event_at c.args.self.now c.in-Some.source)) pair
    (sym c.written.ensures ∙ c.in-Some-written.is)) in
    let writes : Writes c.args.self.now c.in-Some.source c.in_ok-address.address =
    stands.0 ∙ ap (λ (a : ℕ). Some a) c.if-written-address.false in (
      source_written c.args.self.now e c.in_ok-address.address c.in-Some.source reads from writes,
      λ has. c.if-value-value_read.true (eqb-true c.in-Some-written.value c.value_read-2.result
          ((value_some c.args.self.now e c.in_ok-address.address c.in-Some.source
          c.in-Some-written.value c.value_read-2.result reads from (sym stands.1)
          (c.value_read-2.ensures ∙ ap value_read one)).1 has)),
    )
