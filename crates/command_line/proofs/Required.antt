-- What a command requires.
use Rattle.std.proofs.Common.{◌≡◌, List, ap, true}
use Rattle.std.proofs.Common.{◌∙◌}
use Rattle.clap.specs.Words.{Row, Text}
use Rattle.command_line.specs.Entries.{HasEntries, HasText, has_option, is_required, options_of}

-- the entries of the command with this name have what it requires
pub required : (known id : Text) → has_option is_required id (options_of known) ≡ true → (name : Text)
    (rows : List Row) → name ≡ known → HasEntries (name, rows) → HasText id rows
required known id is name rows same has = has.given id (ap (λ n. has_option is_required id (options_of n)) same ∙ is)
