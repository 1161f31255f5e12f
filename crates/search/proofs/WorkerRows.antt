-- Rows that one seat knows of, while it learns more.
use Rattle.std.proofs.Common.{◌≡◌, ◌≤◌, ◌∙◌, length, get_or, Contains, ℕ, Bool, true}
use Rattle.std.proofs.Common.{false, List, [], ◌∷◌, ◌++◌, All, sym, ap, subst}
use Rattle.std.specs.Bool.{if◌then◌else◌}
use Rattle.std.proofs.lemmas.List.Elements.{All-push}
use Rattle.relations.specs.Relation.{Table, Related}
use Rattle.best.specs.declared.seat.Best.{Best}
use Rattle.best.specs.declared.seat.BestSeat.{BestSeat}
use Rattle.best.specs.declared.rule.Known.{Known}
use Rattle.best.specs.Seats.{AreBeside, known_of}
use Rattle.search.specs.SourceRow.{SourceRow}
use Rattle.search.specs.Bound.{Covers, IsSeatFor, Keeps, lengths_of}
use Rattle.search.specs.declared.worker_jobs.WorkerJobs.{WorkerJobs}
use Rattle.search.specs.declared.worker_jobs.WorkerRows.{WorkerRows}
use Rattle.search.specs.WorkerJobs.{IsRowFor, AreJobsFor, AreRowsOf, AreRowsFor}

-- what is covered stays so
pub covers_kept : (R : ℕ → ℕ → Type 0) (before after : List ℕ) (v : ℕ) → Keeps before after
    → Covers R before v → Covers R after v
covers_kept R before after v keeps h c cycle on = let k : (k : ℕ) × Contains before k × (k ≤ length c) =
    h c cycle on in (k.0, keeps k.0 k.1, k.2)

-- and so for rows
pub rows_kept : (t : Table) (before after : List ℕ) (rows : List SourceRow) → Keeps before after
    → All (IsRowFor t before) rows → All (IsRowFor t after) rows
rows_kept t before after rows keeps h = λ k d at. let r : IsRowFor t before (get_or rows k d) = h k d at in
    record {
      shares = r.shares;
      covers = covers_kept (Related t) before after (get_or rows k d).source keeps
          r.covers;
    }

-- an item that may have been pushed
pub perhaps_pushed : {X : Type 0} (P : X → Type 0) (b : Bool) (xs ys : List X) (x : X)
    → ys ≡ (if b then xs ++ x ∷ [] else xs) → All P xs → P x → All P ys
perhaps_pushed P true xs ys x is all one = subst (All P) (sym is) (All-push P xs x all one)
perhaps_pushed P false xs ys x is all one = subst (All P) (sym is) all

-- a seat beside another, that knows the same
pub seat_beside : (b : Best) (t : Table) (s r : BestSeat) → AreBeside s r × (known_of r ≡ known_of s)
    → IsSeatFor b t s → IsSeatFor b t r
seat_beside b t s r is of = (is.0 ∙ of.0, ap (λ (v : Known). v.relation) is.1 ∙ of.1)

-- and its rows are rows for the relation
pub rows_for : (b : Best) (t : Table) (c : WorkerJobs) (h : WorkerRows) → AreJobsFor b t c → AreRowsOf c h
    → AreRowsFor b t h
rows_for b t c h worker_jobs worker_rows = (
  (worker_rows.0 ∙ worker_jobs.0.0, worker_rows.1 ∙ worker_jobs.0.1),
  subst (λ (r : Table). All (IsRowFor r (lengths_of h.seat)) h.rows.items) worker_jobs.0.1 worker_rows.2,
)
