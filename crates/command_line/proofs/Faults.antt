-- What clap says of words that it doesn't take.
use Rattle.std.proofs.Common.{◌≡◌, ◌≢◌, Bool, true, false, refl, sym, subst, inl, inr, List, [], Option, Result}
use Rattle.std.proofs.Common.{Ok, Err, IfErr, IsErrAnd}
use Rattle.clap.specs.Words.{App, HasKind, HasMatchesOf, IsAmong, Row, Text, fault_of, is_simple_and_free}
use Rattle.clap.specs.Words.{kind_of, takes}
use Rattle.clap.specs.declared.parser.matches.ArgMatches.{ArgMatches}
use Rattle.std.specs.Prelude.{IsSomeAnd}
use Rattle.command_line.specs.Entries.{HasEntries}
use Rattle.command_line.proofs.Taken.{command_is_whole}
use Rattle.clap.specs.declared.error.Error.{Error}
use Rattle.clap.specs.declared.error.kind.ErrorKind.TheVariants as kinds
use Rattle.command_line.specs.declared.options.OptionStop.{OptionStop}
use Rattle.command_line.specs.declared.options.OptionStop.TheVariants.{Clap, RefusalMeaning, RefusalMeanings}
use Rattle.command_line.specs.declared.options.OptionStop.TheVariants.{StandardInputTwice}
use Rattle.command_line.specs.declared.options.OptionStop.TheVariants.{Misfit, Refused}
use Rattle.command_line.specs.declared.options.OptionStop.TheVariants.{OutOfMemory}
use Rattle.command_line.specs.Commands.{program_app}
use Rattle.command_line.specs.Options.{IsOptionStop, IsSaid, AreTaken}

-- what doesn't hold where a test passes, doesn't let it pass
not_passed : {P : Type 0} (b : Bool) → (b ≡ true → P) → (P → ⊥) → b ≡ false
not_passed true passes fails = absurd (fails (passes refl))
not_passed false passes fails = refl

-- an error other than out of memory is of a kind of fault that clap finds in the words
among : (e : Error) (words : List Text) → kind_of e ≢ kinds.OutOfMemory
    → HasKind (fault_of program_app words) e → IsAmong (kind_of e) (fault_of program_app words)
among e words said found = elim found [
  | inl memory ↦ absurd (said memory)
  | inr is ↦ is
]

-- a fault other than out of memory comes of words that clap doesn't take, and is one that it finds in them
said_fault : (e : Error) (f : OptionStop) (words : List Text)
    → (takes program_app words ≡ true → kind_of e ≡ kinds.OutOfMemory) →
    HasKind (fault_of program_app words) e → IsSaid e f → IsOptionStop f words
said_fault e (Clap x) words passes found said = (
  not_passed (takes program_app words) passes said.1,
  subst
      (λ (y : Error). IsAmong (kind_of y) (fault_of program_app words)) (sym said.0)
      (among e words said.1 found),
)
said_fault e RefusalMeanings words passes found said = absurd said
said_fault e (RefusalMeaning line) words passes found said = absurd said
said_fault e StandardInputTwice words passes found said = absurd said
said_fault e (Misfit misfit) words passes found said = absurd said
said_fault e (Refused refusal) words passes found said = absurd said
said_fault e OutOfMemory words passes found said = tt

-- the same of an answer that is clap's error, of a command that is the program's
pub err_fault : {T : Type 0} (r : Result T OptionStop) (e : Error) (words : List Text) (app : App)
    → app ≡ program_app → (takes app words ≡ true → kind_of e ≡ kinds.OutOfMemory)
    → (is_simple_and_free app ≡ true → HasKind (fault_of app words) e)
    → IsErrAnd r (IsSaid e) → IfErr r (λ stop. IsOptionStop stop words)
err_fault {T} r e words app is = subst
    (λ (x : App). (takes x words ≡ true → kind_of e ≡ kinds.OutOfMemory)
    → (is_simple_and_free x ≡ true → HasKind (fault_of x words) e) → IsErrAnd r (IsSaid e)
    → IfErr r (λ stop. IsOptionStop stop words)) (sym is) (λ passes found. go r passes (found refl))
  where
    go : (r : Result T OptionStop) → (takes program_app words ≡ true → kind_of e ≡ kinds.OutOfMemory)
        → HasKind (fault_of program_app words) e → IsErrAnd r (IsSaid e) → IfErr r (λ stop. IsOptionStop stop words)
    go (Ok x) passes found said = tt
    go (Err f) passes found said = said_fault e f words passes found said

-- what is known of words that clap takes
pub taken : (words : List Text) (m : ArgMatches) (app : App) → app ≡ program_app
    → (is_simple_and_free app ≡ true → fault_of app words ≡ []) → HasMatchesOf app words m → AreTaken words m
taken words m app is = subst
    (λ (x : App). (is_simple_and_free x ≡ true → fault_of x words ≡ []) → HasMatchesOf x words m
    → AreTaken words m) (sym is) (λ none matches. record {
      faultless = none refl;
      command = (matches refl).1;
      whole = subst (λ (o : Option (Text × List Row)). IsSomeAnd o HasEntries) (sym (matches refl).1)
          (command_is_whole words (none refl));
    })
