-- The program that random words make.
use Rattle.std.specs.Prelude.{◌≡◌, ◌<◌, ◌+◌, ◌/◌, ◌%◌, ◌==◌, ℕ, zero, suc, nat_lt, nat_eq, List, [], ◌∷◌}
use Rattle.std.specs.Prelude.{◌++◌, map, take, drop, if◌then◌else◌}
use Rattle.std.specs.List.{AllByRecursion, IsDistinct}
use Rattle.rand_xoshiro.specs.Xoshiro256.{plus_plus}
use Rattle.program.specs.declared.op.Op.{Op}
use Rattle.program.specs.declared.op.Op.TheVariants.{St, Ld, Fence, Swap, Add}
use Rattle.program.specs.AddressNames.{address_name}
use Rattle.program.specs.Parts.{Body, Parts, IsBody, op_count}
use Rattle.program.specs.Shapes.{Sizes}
use Rattle.litmus.specs.Steps.{empty, with_op}
use Rattle.program.specs.Names.{names_with, name_number}
use Rattle.litmus.specs.Drafts.{plain, drafted_program}

-- the state of the generator after n words
abbrev pub after_words : ℕ → List ℕ → List ℕ
after_words zero s = s
after_words (suc n) s = after_words n (plus_plus s).1

-- the operation of event e that a word makes, where it is not a fence, with address a
abbrev pub drawn_op : ℕ → ℕ → ℕ → Op
drawn_op word e a =
    if nat_lt (word % 8) 3 then Ld a
    else (if nat_lt (word % 8) 6 then St a (e + 1)
    else (if word / 8 % 2 == 0 then Swap a (e + 1) else Add a (e + 1)))

-- the names and operations with the fence that a word makes
abbrev pub with_fence : Body → Body
with_fence p = record { names = p.names; cores = with_op p.cores Fence }

-- the names and operations with the one that a word makes, whose address is the one that is named n
abbrev pub with_access : Body → ℕ → ℕ → Body
with_access p word n = record {
  names = names_with p.names (address_name n);
  cores = with_op p.cores (drawn_op word (op_count p.cores) (name_number p.names (address_name n)));
}

-- the names and operations with the one that a word makes, over this many addresses
abbrev pub with_word : ℕ → Body → ℕ → Body
with_word addresses p word =
    if word % 8 == 6 then with_fence p else with_access p word (word / 16 % addresses)

-- the names and operations with those that words make, on the last core
abbrev pub with_words : ℕ → Body → List ℕ → Body
with_words addresses p [] = p
with_words addresses p (word ∷ words) = with_words addresses (with_word addresses p word) words

-- the names and operations with one core more, which has none yet
abbrev pub with_core : Body → Body
with_core p = record { names = p.names; cores = p.cores ++ [] ∷ [] }

-- the names and operations with n cores more, each with those of the next words
abbrev pub with_cores : Sizes → ℕ → Body → List ℕ → Body
with_cores s zero p words = p
with_cores s (suc n) p words =
    with_cores s n (with_words s.addresses (with_core p) (take s.ops words)) (drop s.ops words)

-- the program that words make, one for each event; each address begins with 0
abbrev pub program_of_words : Sizes → List ℕ → Parts
program_of_words s words = drafted_program (plain (with_cores s s.cores empty words))

-- names and operations whose addresses have names below n
pub record IsDrawn (n : ℕ) (p : Body) : Type 0 where
  pub body : IsBody p
  pub drawn : List ℕ
  pub names : p.names ≡ map address_name drawn
  pub distinct : IsDistinct nat_eq drawn
  pub below : AllByRecursion (λ d. d < n) drawn
