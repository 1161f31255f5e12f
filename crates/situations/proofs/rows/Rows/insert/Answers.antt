use Rattle.std.proofs.Common.{◌≡◌, ◌∙◌, ℕ, List, ap, map}
use Rattle.indexmap.specs.IndexSet.{insert_key}
use Rattle.situations.specs.Chains.{with_list}
use Rattle.situations.specs.Packed.{PackedLists}
use Rattle.situations.specs.Row.{AreOnce, SeenRows, row_of, same_situation}
use Rattle.situations.proofs.PackedLists.{on_ok}
use Rattle.situations.proofs.SeenRows.{kept_by, made_among, row_added, words_once}
use Rattle.situations.proofs.rows.Rows.insert.Goals as goal

pub invariant_of-self : goal.invariant_of-self
invariant_of-self c =
    let n : ℕ = c.self.inside.cores in
    let a : ℕ = c.self.inside.addresses in
    let lists : PackedLists = c.self.inside.lists in
    kept_by (λ (p : PackedLists). AreOnce n a c.self.inside.notes p.width p.lists) c.insert.result lists c.insert.new.self
    (record { width = lists.width; lists = with_list lists.lists c.words.result.now }) c.insert.ensures.err
    c.insert.ensures.ok c.self.invariant
    (words_once n a c.self.inside.notes lists.width lists.lists c.words.result.now c.self.invariant)

pub returns : goal.returns
returns c =
    let rows : SeenRows = c.args.self.now in
    let n : ℕ = c.self.inside.cores in
    let a : ℕ = c.self.inside.addresses in
    let lists : List (List ℕ) = c.self.inside.lists.lists in
    let words : List ℕ = c.words.result.now in
    let cores : n ≡ rows.cores = ap (λ (z : SeenRows). z.cores) c.self.view_is in
    let addresses : a ≡ rows.addresses = ap (λ (z : SeenRows). z.addresses) c.self.view_is in
    let notes : c.self.inside.notes ≡ rows.notes = ap (λ (z : SeenRows). z.notes) c.self.view_is in
    let made = made_among n a rows c.args.row.now words cores addresses c.requires c.words.ensures.row in
    let keys : map (row_of n a) (with_list lists words) ≡ insert_key same_situation rows.keys c.args.row.now =
    row_added n a lists words
    ∙ (ap (insert_key same_situation (map (row_of n a) lists)) made
    ∙ ap (λ (z : SeenRows). insert_key same_situation z.keys c.args.row.now) c.self.view_is) in
    on_ok _ _ c.insert.result
    (λ is. ap (λ (p : PackedLists). let z : SeenRows = record {
      cores = n;
      addresses = a;
      notes = c.self.inside.notes;
      keys = map (row_of n a) p.lists;
    } in z) is
    ∙ (λ i. record { cores = cores i; addresses = addresses i; notes = notes i; keys = keys i })) c.insert.ensures.ok
