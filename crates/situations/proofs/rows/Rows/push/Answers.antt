use Rattle.std.proofs.Common.{◌≡◌, ◌∙◌, ◌++◌, ◌∷◌, [], ℕ, List, ap, false, map}
use Rattle.std.specs.List.{list_any}
use Rattle.situations.specs.Packed.{PackedLists}
use Rattle.situations.specs.Row.{AreOnce, SeenRows, row_of, same_situation}
use Rattle.situations.specs.Situation.{Situation}
use Rattle.situations.proofs.PackedLists.{on_ok}
use Rattle.situations.proofs.SeenRows.{kept_by, made_among, no_words, row_pushed, words_pushed}
use Rattle.situations.proofs.rows.Rows.push.Goals as goal

-- where no row is the same, the one that words make is none of them
is_new : (n a : ℕ) (lists : List (List ℕ)) (words : List ℕ) (keys : List Situation) (r : Situation)
    → map (row_of n a) lists ≡ keys → row_of n a words ≡ r → list_any (same_situation r) keys ≡ false
    → list_any (same_situation (row_of n a words)) (map (row_of n a) lists) ≡ false
is_new n a lists words keys r is made none =
    ap (λ (l : List Situation). list_any (same_situation (row_of n a words)) l) is
    ∙ (ap (λ (z : Situation). list_any (same_situation z) keys) made ∙ none)

pub push-requires-clause-new : goal.push-requires-clause-new
push-requires-clause-new c =
    let rows : SeenRows = c.args.self.now in
    let n : ℕ = c.self.inside.cores in
    let a : ℕ = c.self.inside.addresses in
    let lists : List (List ℕ) = c.self.inside.lists.lists in
    let words : List ℕ = c.words.result.now in
    no_words n a lists words (is_new n a lists words rows.keys c.args.row.now (ap (λ (z : SeenRows). z.keys) c.self.view_is)
    (made_among n a rows c.args.row.now words (ap (λ (z : SeenRows). z.cores) c.self.view_is)
    (ap (λ (z : SeenRows). z.addresses) c.self.view_is) c.requires.fits c.words.ensures.row) c.requires.new)

pub invariant_of-self : goal.invariant_of-self
invariant_of-self c =
    let rows : SeenRows = c.args.self.now in
    let n : ℕ = c.self.inside.cores in
    let a : ℕ = c.self.inside.addresses in
    let lists : PackedLists = c.self.inside.lists in
    let words : List ℕ = c.words.result.now in
    let new = is_new n a lists.lists words rows.keys c.args.row.now (ap (λ (z : SeenRows). z.keys) c.self.view_is)
    (made_among n a rows c.args.row.now words (ap (λ (z : SeenRows). z.cores) c.self.view_is)
    (ap (λ (z : SeenRows). z.addresses) c.self.view_is) c.requires.fits c.words.ensures.row) c.requires.new in
    kept_by (λ (p : PackedLists). AreOnce n a c.self.inside.notes p.width p.lists) c.push.result lists c.push.new.self
    (record { width = lists.width; lists = lists.lists ++ words ∷ [] }) c.push.ensures.err c.push.ensures.ok
    c.self.invariant (words_pushed n a c.self.inside.notes lists.width lists.lists words new c.self.invariant)

pub returns : goal.returns
returns c =
    let rows : SeenRows = c.args.self.now in
    let n : ℕ = c.self.inside.cores in
    let a : ℕ = c.self.inside.addresses in
    let lists : List (List ℕ) = c.self.inside.lists.lists in
    let words : List ℕ = c.words.result.now in
    let cores : n ≡ rows.cores = ap (λ (z : SeenRows). z.cores) c.self.view_is in
    let addresses : a ≡ rows.addresses = ap (λ (z : SeenRows). z.addresses) c.self.view_is in
    let notes : c.self.inside.notes ≡ rows.notes = ap (λ (z : SeenRows). z.notes) c.self.view_is in
    let made = made_among n a rows c.args.row.now words cores addresses c.requires.fits c.words.ensures.row in
    let keys : map (row_of n a) (lists ++ words ∷ []) ≡ rows.keys ++ c.args.row.now ∷ [] =
    row_pushed n a lists words
    ∙ (ap (λ (z : Situation). map (row_of n a) lists ++ z ∷ []) made
    ∙ ap (λ (z : SeenRows). z.keys ++ c.args.row.now ∷ []) c.self.view_is) in
    on_ok _ _ c.push.result
    (λ is. ap (λ (p : PackedLists). let z : SeenRows = record {
      cores = n;
      addresses = a;
      notes = c.self.inside.notes;
      keys = map (row_of n a) p.lists;
    } in z) is
    ∙ (λ i. record { cores = cores i; addresses = addresses i; notes = notes i; keys = keys i })) c.push.ensures.ok
