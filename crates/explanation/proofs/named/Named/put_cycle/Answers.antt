use Rattle.std.proofs.Common.{◌≡◌, ◌++◌, ℕ, List, length, refl}
use Rattle.explanation.specs.Cycle.{SaysCycle, cycle_heading}
use Rattle.texts.specs.TextLaws.{on_ok, two}
use Rattle.explanation.proofs.named.Named.put_cycle.Goals as goal

pub returns : goal.returns
returns c =
    let links = c.in_ok-put_links.ensures in
    let heading = cycle_heading (length c.args.cycle.now) in
    let named = c.args.self.now in
    on_ok _ _ ((text : List ℕ) × SaysCycle named.recording.now named.names.now c.args.cycle.now text
    × (c.put_diy.new.out.items ≡ c.args.out.now.items ++ text)) (λ told. (
      heading ++ (links.0 ++ told.0),
      record { links = links.0; lines = links.1; line = told.0; steps = told.1; whole = refl },
      two _ c.write.new.self.items _ heading (links.0 ++ told.0) c.in_ok-write.ensures
          (two _ c.put_links.new.out.items _ links.0 told.0 links.2 told.2),
    )) c.put_diy.ensures
