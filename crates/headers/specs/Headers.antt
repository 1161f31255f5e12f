-- Headers of counts: the commands that print them.
use Rattle.std.specs.Prelude.{◌<◌, ◌≤◌, ◌++◌, ◌∷◌, ◌^◌, [], ℕ, List, codes, decimal}
use Rattle.common.specs.declared.limits.TheConstants.{MAX_CAPACITY, MAX_STEPS}
use Rattle.program.specs.Shapes.{IsShape}
use Rattle.program.specs.declared.fault.Fault.{Fault}
use Rattle.program.specs.Campaigns.{Plan}
use Rattle.headers.specs.declared.header.Counted.{Counted}
use Rattle.headers.specs.declared.header.Counted.TheVariants.{Campaign, Survey, LongSurvey}
use Rattle.headers.specs.declared.header.Header.{Header}
use Rattle.headers.specs.declared.header.Setup.{Setup}
use Rattle.headers.specs.Faults.{fault_name}

-- the name of an option, with what stands before it, and its number
abbrev pub option_words : List ℕ → ℕ → List ℕ
option_words name n = name ++ decimal n

-- the sizes of programs
abbrev pub size_words : Setup → List ℕ
size_words s =
    option_words (codes "# tsotest trials --cores ") s.cores ++ option_words (codes " --ops ") s.ops
    ++ option_words (codes " --addresses ") s.addresses

-- the fault of machines
abbrev pub fault_words : Fault → List ℕ
fault_words fault = codes " --fault " ++ fault_name fault

-- the fault and the rest, up to the first seed
abbrev pub machine_words : Setup → List ℕ
machine_words s =
    fault_words s.fault ++ option_words (codes " --buffer ") s.buffer
    ++ option_words (codes " --attempts ") s.attempts ++ codes " --seed "

-- the words of a campaign up to its first seed
abbrev pub campaign_words : Setup → List ℕ
campaign_words s = size_words s ++ machine_words s

-- the words up to the first seed or line
abbrev pub counted_words : Counted → List ℕ
counted_words (Campaign s) = campaign_words s
counted_words Survey = codes "# tsotest survey --from "
counted_words LongSurvey = codes "# tsotest survey --long --from "

-- the name of the option of how many there are
abbrev pub count_name : Counted → List ℕ
count_name (Campaign s) = codes " --trials "
count_name Survey = codes " --lines "
count_name LongSurvey = codes " --lines "

-- the line of a header
abbrev pub header_line : Header → List ℕ
header_line h = counted_words h.counted ++ decimal h.first ++ option_words (count_name h.counted) h.count ++ 10 ∷ []

-- what campaigns have in common is within its limits
pub record IsSetup (s : Setup) : Type 0 where
  pub shape : IsShape (record { cores = s.cores; ops = s.ops; addresses = s.addresses })
  pub attempts : (0 < s.attempts) × (s.attempts ≤ MAX_STEPS)
  pub buffer : (0 < s.buffer) × (s.buffer ≤ MAX_CAPACITY)

-- the first seed of trials is any number of 64 bits; lines are numbered from 1
abbrev pub CanBegin : Counted → ℕ → Type 0
CanBegin (Campaign s) first = IsSetup s
CanBegin Survey first = 0 < first
CanBegin LongSurvey first = 0 < first

-- a header of some trials or lines
pub record IsHeader (h : Header) : Type 0 where
  pub begins : CanBegin h.counted h.first
  pub first : h.first < 2 ^ 64
  pub some : 0 < h.count
  pub few : h.count < 2 ^ 64

-- the header of the counts of a campaign
abbrev pub header_of : Plan → Header
header_of p = record {
  counted = Campaign (record {
    cores = p.shape.cores;
    ops = p.shape.ops;
    addresses = p.shape.addresses;
    fault = p.fault;
    buffer = p.capacity;
    attempts = p.attempts;
  });
  first = p.base;
  count = p.trials;
}
