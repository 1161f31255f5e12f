-- What the members of a recording give by those that were read.
use Rattle.std.proofs.Common.{◌≡◌, ◌+◌, ◌==◌, ℕ, List, Vec, Global, Option, Some, None, option_map, option_and_then}
use Rattle.std.proofs.Common.{map, Bool, true, false, if◌then◌else◌}
use Rattle.std.proofs.Common.{codes, IsUtf8, [], refl, sym, ap, ◌∙◌, subst, arith}
use Rattle.json.specs.Token.{Token}
use Rattle.json.specs.Lex.{tokens}
use Rattle.json.specs.Json.{value}
use Rattle.serde_json.specs.Read.{max_depth}
use Rattle.serde_json.specs.Data.{Members, object}
use Rattle.recording.specs.declared.size.RecordingSize.{RecordingSize}
use Rattle.recording.specs.declared.event.Event.{Event}
use Rattle.recorder.specs.declared.plain.ReadMembers.{ReadMembers}
use Rattle.recorder.specs.declared.reading.Parsed.{Parsed}
use Rattle.recorder.specs.ParsedModel.{ParsedModel}
use Rattle.recorder.specs.ParsedModel.{model_of}
use Rattle.recorder.specs.Held.{HoldsCores, HoldsLists, HoldsSome, StandsFor}
use Rattle.recorder.specs.Reading.{natural, value_in, list_in, parsed_parts, contents_of}
use Rattle.recorder.specs.Clipped.{clipped_number, clipped_event}
use Rattle.recorder.specs.ByTokens.{GivesValue, Adds, value_tokens}
use Rattle.recorder.specs.ReadMembers.{count_of}
use Rattle.recorder.specs.ReadMembers.{AreParts, clipped_contents, IsParsedFrom}
use Rattle.recorder.proofs.AtKeys.{adds, at_new, at_other, at_key_is, count_new}
use Rattle.recorder.proofs.ByTokens.{fresh_value, whole_read}
use Rattle.recorder.proofs.ClippedContents.{shape_given}

-- ---- one member more

-- lists that stand for others
abbrev lists_there : {A : Type 0} → Option (Vec (Vec A Global) Global) → Option (List (List A))
lists_there o = option_map (λ v. map (λ w. w.items) v.items) o

-- the version
pub version_added : {size : RecordingSize} (p : ReadMembers) (o : Option ℕ) {x depth : ℕ} {ts rest : List Token}
    → GivesValue natural depth ts x rest → p.version ≡ None → o ≡ Some x
    → Adds (AreParts size) (codes "version") depth ts rest p (record p { version = o })
version_added p o g none is = adds g (λ ms d gives h. record {
  version = at_new ms d gives is;
  cores = (h.cores.0, at_other (codes "version") d refl h.cores.1, h.cores.2);
  writes = (h.writes.0, at_other (codes "version") d refl h.writes.1, h.writes.2);
  init = at_other (codes "version") d refl h.init;
  count = omega (arith, count_new d h.version none, h.count, ap count_of none, ap count_of is);
})

-- the events of each core
pub cores_added : {size : RecordingSize} (p : ReadMembers) (o : Option (Vec (Vec Event Global) Global)) {x : Vec (Vec Event Global) Global}
    {xs : List (List Event)} {depth : ℕ} {ts rest : List Token}
    → GivesValue (list_in (list_in clipped_event)) depth ts xs rest
    → HoldsCores size (map (λ w. w.items) x.items) xs → p.cores ≡ None → o ≡ Some x
    → Adds (AreParts size) (codes "cores") depth ts rest p (record p { cores = o })
cores_added p o {xs = xs} g holds none is = adds g (λ ms d gives h. record {
  version = at_other (codes "cores") d refl h.version;
  cores = (Some xs, at_new ms d gives refl, rw is (xs, refl, holds));
  writes = (h.writes.0, at_other (codes "cores") d refl h.writes.1, h.writes.2);
  init = at_other (codes "cores") d refl h.init;
  count = omega (
    arith,
    count_new d h.cores.1 (let held = h.cores.2 in rw none at held),
    h.count,
    ap count_of none,
    ap count_of is,
  );
})

-- the write lists
pub writes_added : {size : RecordingSize} (p : ReadMembers) (o : Option (Vec (Vec ℕ Global) Global)) {x : Vec (Vec ℕ Global) Global}
    {xs : List (List ℕ)} {depth : ℕ} {ts rest : List Token}
    → GivesValue (list_in (list_in clipped_number)) depth ts xs rest
    → HoldsLists size (map (λ w. w.items) x.items) xs → p.writes ≡ None → o ≡ Some x
    → Adds (AreParts size) (codes "writes") depth ts rest p (record p { writes = o })
writes_added p o {xs = xs} g holds none is = adds g (λ ms d gives h. record {
  version = at_other (codes "writes") d refl h.version;
  cores = (h.cores.0, at_other (codes "writes") d refl h.cores.1, h.cores.2);
  writes = (Some xs, at_new ms d gives refl, rw is (xs, refl, holds));
  init = at_other (codes "writes") d refl h.init;
  count = omega (
    arith,
    count_new d h.writes.1 (let held = h.writes.2 in rw none at held),
    h.count,
    ap count_of none,
    ap count_of is,
  );
})

-- the initial values
pub init_added : {size : RecordingSize} (p : ReadMembers) (o : Option (Vec ℕ Global)) {x : Vec ℕ Global} {depth : ℕ} {ts rest : List Token}
    → GivesValue (list_in value_in) depth ts x.items rest → p.init ≡ None → o ≡ Some x
    → Adds (AreParts size) (codes "init") depth ts rest p (record p { init = o })
init_added p o g none is =
    let items : Option (Vec ℕ Global) → Option (List ℕ) = λ i. option_map (λ v. v.items) i in
    adds g (λ ms d gives h. record {
      version = at_other (codes "init") d refl h.version;
      cores = (h.cores.0, at_other (codes "init") d refl h.cores.1, h.cores.2);
      writes = (h.writes.0, at_other (codes "init") d refl h.writes.1, h.writes.2);
      init = at_new ms d gives (ap items is);
      count = omega (arith, count_new d h.init (ap items none), h.count, ap count_of none, ap count_of is);
    })

-- ---- the contents

-- where parts are there they are these
parts_there : (v : Option ℕ) (cs : Option (List (List Event))) (ws : Option (List (List ℕ)))
    (values : Option (List ℕ)) (q : ParsedModel) → parsed_parts v cs ws values ≡ Some q
    → (v ≡ Some q.version) × (cs ≡ Some q.cores) × (ws ≡ Some q.write_lists) × (q.values ≡ values)
parts_there None cs ws values q is = absurd cc
parts_there (Some v) None ws values q is = absurd cc
parts_there (Some v) (Some cs) None values q is = absurd cc
parts_there (Some v) (Some cs) (Some ws) values q is =
    let c : ParsedModel = record { version = v; cores = cs; write_lists = ws; values = values } in
    let same : c ≡ q = cc in (
      ap (λ (p : ParsedModel). Some p.version) same,
      ap (λ (p : ParsedModel). Some p.cores) same,
      ap (λ (p : ParsedModel). Some p.write_lists) same,
      ap (λ (p : ParsedModel). p.values) (sym same),
    )

-- for parts that stand for others
parts_stand : (size : RecordingSize) (v : Option ℕ) (cs ds : Option (List (List Event))) (ws us : Option (List (List ℕ)))
    (values : Option (List ℕ)) (q : ParsedModel) → HoldsSome (HoldsCores size) cs ds → HoldsSome (HoldsLists size) ws us
    → parsed_parts v cs ws values ≡ Some q → (c : ParsedModel) × (parsed_parts v ds us values ≡ Some c) × StandsFor size q c
parts_stand size v cs ds ws us values q cores lists is =
    let there = parts_there v cs ws values q is in
    let all = rw there.1 at cores in
    let both = rw there.2 at lists in (
      record { version = q.version; cores = all.0; write_lists = both.0; values = values },
      are v ds us there.0 all.1 both.1,
      record { version = refl; values = there.3; cores = all.2; lists = both.2 },
    )
  where
    are : (o : Option ℕ) (es : Option (List (List Event))) (xs : Option (List (List ℕ))) {n : ℕ}
        {fs : List (List Event)} {ys : List (List ℕ)} → o ≡ Some n → es ≡ Some fs → xs ≡ Some ys
        → parsed_parts o es xs values ≡ Some (record { version = n; cores = fs; write_lists = ys; values = values })
    are o es xs first second third = rw (first, second, third) refl

-- so do contents
contents_stand : (size : RecordingSize) (n : ℕ) (v : Option ℕ) (cs ds : Option (List (List Event))) (ws us : Option (List (List ℕ)))
    (init : Option (List ℕ)) (q : ParsedModel) → HoldsSome (HoldsCores size) cs ds → HoldsSome (HoldsLists size) ws us
    → contents_of n v cs ws init ≡ Some q → (c : ParsedModel) × (contents_of n v ds us init ≡ Some c) × StandsFor size q c
unfolding contents_of
contents_stand size n v cs ds ws us init q cores lists is = go (n == 3) (n == 4) init is
  where
    go : (three four : Bool) (i : Option (List ℕ))
        → (if three then parsed_parts v cs ws None
        else (if four then option_and_then (λ j. parsed_parts v cs ws (Some j)) i else None)) ≡ Some q
        → (c : ParsedModel) × ((if three then parsed_parts v ds us None
        else (if four then option_and_then (λ j. parsed_parts v ds us (Some j)) i else None)) ≡ Some c) × StandsFor size q c
    go true four i is = parts_stand size v cs ds ws us None q cores lists is
    go false true None is = absurd cc
    go false true (Some j) is = parts_stand size v cs ds ws us (Some j) q cores lists is
    go false false i is = absurd cc

-- what was found stands for the contents that the members give
pub found_gives : (size : RecordingSize) (p : ReadMembers) (n : ℕ) (ms : Members) (o : Option Parsed) (q : Parsed) → AreParts size p ms
    → n ≡ count_of p.version + count_of p.cores + count_of p.writes + count_of p.init
    → option_map model_of o ≡ contents_of n p.version (lists_there p.cores) (lists_there p.writes)
    (option_map (λ v. v.items) p.init) → o ≡ Some q
    → (c : ParsedModel) × (clipped_contents (object ms) ≡ Some c) × StandsFor size (model_of q) c
found_gives size p n ms o q h count is found =
    let init = option_map (λ (v : Vec ℕ Global). v.items) p.init in
    let c = contents_stand size n p.version (lists_there p.cores) h.cores.0 (lists_there p.writes) h.writes.0 init
    (model_of q) h.cores.2 h.writes.2 (sym is ∙ ap (option_map model_of) found) in (
      c.0,
      shape_given (object ms) n p.version h.cores.0 h.writes.0 init (ap Some (h.count ∙ sym count))
          (at_key_is natural (codes "version") ms _ h.version)
          (at_key_is (list_in (list_in clipped_event)) (codes "cores") ms _ h.cores.1)
          (at_key_is (list_in (list_in clipped_number)) (codes "writes") ms _ h.writes.1)
          (at_key_is (list_in value_in) (codes "init") ms _ h.init) ∙ c.1,
      c.2,
    )

-- the bytes are read so, where their tokens give the contents and nothing follows
pub members_read : (size : RecordingSize) (bytes text : List ℕ) (c : ParsedModel) (q : Parsed) → IsUtf8 bytes
    → text ≡ bytes → GivesValue clipped_contents max_depth (value_tokens text) c []
    → StandsFor size (model_of q) c → IsParsedFrom size bytes q
members_read size bytes text c q utf8 is given stands =
    let g : GivesValue clipped_contents max_depth (tokens bytes) c [] =
    fresh_value clipped_contents max_depth bytes c [] (subst (λ (t : List ℕ).
    GivesValue clipped_contents max_depth (value_tokens t) c []) is given) in
    (g.datum, (utf8, whole_read (value max_depth (tokens bytes)) g.datum g.read), c, g.gives, stands)
