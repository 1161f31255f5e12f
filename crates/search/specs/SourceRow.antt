-- Rows of labels, and the jobs that they are made for.
use Rattle.std.specs.Prelude.{◌≡◌, ◌<◌, ℕ, Option, Some, None, List, length, map, slice_index_or, All, ⊤}
use Rattle.std.specs.Option.{unwrap_or}
use Rattle.relations.specs.Relation.{Table, Related}
use Rattle.relations.specs.Cycle.{IsCycle, IsExactRow, AreExactRows}
use Rattle.search.specs.Cycles.{IsLeastLength}

-- a row of labels: its relation, the event that it is from, what cuts it, and a number for each event
pub record SourceRow : Type 0 where
  pub relation : Table
  pub source : ℕ
  pub cap : Option ℕ
  pub numbers : List ℕ

-- the row of numbers of a source in a relation, cut at the cap
abbrev pub source_row : Table → ℕ → Option ℕ → List ℕ → SourceRow
source_row t source cap numbers = record { relation = t; source = source; cap = cap; numbers = numbers }

-- the length of a cycle, or none
abbrev pub IsCycleLength : (ℕ → ℕ → Type 0) → Option ℕ → Type 0
IsCycleLength R None = ⊤
IsCycleLength R (Some k) = (c : List ℕ) × IsCycle R c × (length c ≡ k)

-- the numbers are the source's distances, cut at the length of a cycle or at the number of events
pub record IsSourceRow (l : SourceRow) : Type 0 where
  pub within : l.source < length l.relation
  pub cycle : IsCycleLength (Related l.relation) l.cap
  pub exact : IsExactRow (Related l.relation) (length l.relation)
      (unwrap_or l.cap (length l.relation)) l.source l.numbers

-- the numbers of each row
abbrev pub numbers_of : List SourceRow → List (List ℕ)
numbers_of rows = map (λ row. row.numbers) rows

-- the row of v in the relation, under the cap
pub record IsNamed (t : Table) (cap : Option ℕ) (v : ℕ) (l : SourceRow) : Type 0 where
  pub shares : l.relation ≡ t
  pub from : l.source ≡ v
  pub cut : l.cap ≡ cap

-- the rows of all events, cut at the length of the shortest cycles or at the number of events
pub record AreLeastRows (t : Table) (cap : Option ℕ) (rows : List SourceRow) : Type 0 where
  pub least : IsLeastLength (Related t) cap
  pub named : (v : ℕ) (d : SourceRow) → v < length t → IsNamed t cap v (slice_index_or rows v d)
  pub exact : AreExactRows (Related t) (length t) (unwrap_or cap (length t)) (numbers_of rows)

-- a job: the relation, and the event whose row is to be made
pub record Job : Type 0 where
  pub relation : Table
  pub source : ℕ

-- the job for one event of a relation
abbrev pub job_of : Table → ℕ → Job
job_of t source = record { relation = t; source = source }

-- a job for each event
pub record AreJobsOf (t : Table) (jobs : List Job) : Type 0 where
  pub one_each : length jobs ≡ length t
  pub each : (e : ℕ) (d : Job) → e < length t → slice_index_or jobs e d ≡ job_of t e

-- some job is for the event
abbrev pub Names : List Job → ℕ → Type 0
Names jobs e = (i : ℕ) × (i < length jobs) × ((d : Job) → (slice_index_or jobs i d).source ≡ e)

-- the jobs share the relation, and each event is named
pub record AreShared (t : Table) (jobs : List Job) : Type 0 where
  pub shared : All (λ job. job.relation ≡ t) jobs
  pub named : (e : ℕ) → e < length t → Names jobs e
