-- A line is found block by block.
use Rattle.std.proofs.Common.{◌≡◌, ◌+◌, ◌<◌, ◌≤◌, ◌++◌, ◌∷◌, [], ℕ, true, List, Option, Some, None, arith, ap, refl}
use Rattle.std.proofs.Common.{sym, subst, ◌∙◌}
use Rattle.std.proofs.Common.{length, length-append, get_or, take, drop, append_assoc, filter}
use Rattle.std.proofs.Common.{Vec, Global, lt-ltb}
use Rattle.std.proofs.KnownBytes.{Consumes-nil, Consumes-trans}
use Rattle.std.proofs.lemmas.List.{get_or_append_left, get_or-append-add, length-take, take-append-drop}
use Rattle.std.specs.Io.KnownBytes.{Consumes}
use Rattle.devices.specs.Bytes.{Gathers}
use Rattle.surveys.specs.Lines.{IsCut, IsSplit, IsWhole, is_some_line, lines}
use Rattle.surveys.proofs.LineLemmas.{whole_append, whole_nil}
use Rattle.surveys.specs.declared.showing.Sought.{Sought}
use Rattle.surveys.specs.declared.showing.Sought.TheVariants.{Found, Later}
use Rattle.surveys.specs.Shown.{IsReadBeforeLine, IsLineAt, IsLineOfRead, IsReadOn, IsSought, IsSoughtFirst}

-- a line after others
pub line_after : (all front back : List ℕ) (k m : ℕ) (line : List ℕ) → lines all ≡ lines front ++ lines back
    → IsLineAt back m line → k ≡ length (lines front) + m → IsLineAt all k line
line_after all front back k m line cut at is = (
  omega (
    arith,
    at.0,
    is,
    ap (λ (ls : List (List ℕ)). length ls) cut,
    length-append (lines front) (lines back),
  ),
  ap (λ (ls : List (List ℕ)). get_or ls k []) cut ∙ (ap (λ (n : ℕ). get_or (lines front ++ lines back) n []) is
      ∙ (get_or-append-add (lines front) (lines back) m [] ∙ at.1)),
)

-- a line before others
pub line_before : (all front back : List ℕ) (k : ℕ) (line : List ℕ) → lines all ≡ lines front ++ lines back
    → IsLineAt front k line → IsLineAt all k line
line_before all front back k line cut at = (
  omega (
    arith,
    at.0,
    ap (λ (ls : List (List ℕ)). length ls) cut,
    length-append (lines front) (lines back),
  ),
  ap (λ (ls : List (List ℕ)). get_or ls k []) cut
      ∙ (get_or_append_left (lines front) (lines back) [] k at.0 ∙ at.1),
)

-- which number a line has after the first lines of the bytes
pub record IsLater (bytes rest : List ℕ) (k m : ℕ) : Type 0 where
  pub front : List (List ℕ)
  pub cut : IsCut bytes front rest
  pub count : k ≡ length front + m

-- a line that counts
pub one_line : (line : List ℕ) → 0 < length line → filter is_some_line (line ∷ []) ≡ line ∷ []
one_line line some = let yes : is_some_line line ≡ true = lt-ltb 0 (length line) some in rw yes refl

-- the next line
pub next_line : (bytes rest line more : List ℕ) (front : List (List ℕ)) → IsCut bytes front rest → IsSplit rest line more
    → IsCut bytes (front ++ filter is_some_line (line ∷ [])) more
next_line bytes rest line more front cut split = cut ∙ (ap (λ (ls : List (List ℕ)). front ++ ls) split.cut
    ∙ sym (append_assoc front (filter is_some_line (line ∷ [])) (lines more)))

-- or as one
pub later_one : (bytes rest line more : List ℕ) (k m n : ℕ) → IsLater bytes rest k m → IsSplit rest line more
    → 0 < length line → m ≡ n + 1 → IsLater bytes more k n
later_one bytes rest line more k m n is split some more_by_one = record {
  front = is.front ++ filter is_some_line (line ∷ []);
  cut = next_line bytes rest line more is.front is.cut split;
  count = omega (
    arith,
    is.count,
    more_by_one,
    length-append is.front (filter is_some_line (line ∷ [])),
    ap (λ (ls : List (List ℕ)). length ls) (one_line line some),
  );
}

-- a block is cut where a line begins
pub sought_first : (block seen rest part : List ℕ) (end k : ℕ) (sought : Sought) → seen ≡ block
    → rest ≡ drop end block → part ≡ take end block → end ≤ length seen → IsWhole (take end seen)
    → IsSought part k sought → IsSoughtFirst block rest k sought end
sought_first block seen rest part end k sought same is_rest is_part within whole is = record {
  front = take end block;
  cut = sym (take-append-drop end block) ∙ ap (λ (t : List ℕ). take end block ++ t) (sym is_rest);
  whole = subst (λ (bytes : List ℕ). IsWhole (take end bytes)) same whole;
  is = subst (λ (bytes : List ℕ). IsSought bytes k sought) is_part is;
  size = omega (arith, length-take end block, within, ap (λ (bytes : List ℕ). length bytes) same);
}

-- before the first block
pub not_yet : (u : Option (List ℕ)) (k : ℕ) → IsReadBeforeLine u u [] k k 0
not_yet u k = record {
  front = [];
  whole = whole_nil;
  read = Consumes-nil u;
  before = omega arith;
  size = refl;
}

module _ (u v w : Option (List ℕ)) (k m n : ℕ) (old block : List ℕ) (is : IsReadBeforeLine u v old k m n)
    (gathered : Gathers v w old block) where
  -- what was read with the filled block
  filled : Consumes u w (is.front ++ block)
  filled = subst (λ (t : List ℕ). Consumes u w t) (append_assoc is.front old gathered.0
      ∙ ap (λ (t : List ℕ). is.front ++ t) (sym gathered.2))
      (Consumes-trans u v w (is.front ++ old) gathered.0 is.read gathered.1)

  -- the line is not in the first bytes of the block
  pub not_there : (rest : List ℕ) (j size total : ℕ) (sought : Sought) → IsSoughtFirst block rest m sought size
      → sought ≡ Later j → total ≡ n + size → IsReadBeforeLine u w rest k j total
  not_there rest j size total sought first later sum =
      let there : m ≡ length (lines first.front) + j =
      subst (λ (s : Sought). IsSought first.front m s) later first.is in
      record {
        front = is.front ++ first.front;
        whole = whole_append is.front first.front is.whole first.whole;
        read = subst (λ (t : List ℕ). Consumes u w t) (ap (λ (t : List ℕ). is.front ++ t) first.cut
            ∙ sym (append_assoc is.front first.front rest)) filled;
        before = omega (
          arith,
          is.before,
          there,
          ap (λ (ls : List (List ℕ)). length ls) (is.whole first.front),
          length-append (lines is.front) (lines first.front),
        );
        size = omega (arith, sum, is.size, first.size, length-append is.front first.front);
      }

  -- no byte was lost
  pub none_lost : (rest : List ℕ) (size : ℕ) (sought : Sought) → IsSoughtFirst block rest m sought size
      → size + length rest ≡ length block
  none_lost rest size sought first = omega (
    arith,
    first.size,
    ap (λ (t : List ℕ). length t) first.cut,
    length-append first.front rest,
  )

  -- it is there, and the rest was read
  pub there : (x : Option (List ℕ)) (more rest : List ℕ) (size : ℕ) (sought : Sought) (line : Vec ℕ Global)
      → Consumes w x more → IsSoughtFirst block rest m sought size → sought ≡ Found line
      → IsLineOfRead u x k (Some line.items)
  there x more rest size sought line read first found = record {
    bytes = (is.front ++ block) ++ more;
    read = Consumes-trans u w x (is.front ++ block) more filled read;
    is = line_after ((is.front ++ block) ++ more) is.front (block ++ more) k m line.items
        (ap lines (append_assoc is.front block more) ∙ is.whole (block ++ more))
        (line_before (block ++ more) first.front (rest ++ more) m line.items
        (ap (λ (t : List ℕ). lines (t ++ more)) first.cut ∙ (ap lines (append_assoc first.front rest more)
        ∙ first.whole (rest ++ more))) (subst (λ (s : Sought). IsSought first.front m s) found first.is)) is.before;
  }

  -- or in the last block
  pub at_last : (line : List ℕ) → IsLineAt block m line → IsLineOfRead u w k (Some line)
  at_last line at = record {
    bytes = is.front ++ block;
    read = filled;
    is = line_after (is.front ++ block) is.front block k m line (is.whole block) at is.before;
  }

  -- or nowhere
  pub nowhere : (j : ℕ) → m ≡ length (lines block) + j → IsLineOfRead u w k None
  nowhere j past = record {
    bytes = is.front ++ block;
    read = filled;
    is = omega (
      arith,
      is.before,
      past,
      ap (λ (ls : List (List ℕ)). length ls) (is.whole block),
      length-append (lines is.front) (lines block),
    );
  }

-- what was read, and then more
pub read_on : (u v w : Option (List ℕ)) (old block : List ℕ) → IsReadOn u v → Gathers v w old block → IsReadOn u w
read_on u v w old block read gathered = (
  read.0 ++ gathered.0,
  Consumes-trans u v w read.0 gathered.0 read.1 gathered.1,
)
