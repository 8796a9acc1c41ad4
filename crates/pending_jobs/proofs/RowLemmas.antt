-- Rows of jobs as they are seen, and one that changes.
use Rattle.std.proofs.Common.{◌≡◌, ◌∙◌, ◌<◌, ◌≤◌, ◌+◌, ◌++◌, ◌∷◌, [], ℕ, zero, suc, List, get_or, length, replicate, set, sym, ap, subst, arith}
use Rattle.std.proofs.lemmas.List.{get_or-map, length-map, map-append, map-set, replicate_more}
use Rattle.std.proofs.lemmas.List.Elements.{All-append}
use Rattle.std.specs.VecDeque.{deque_capacity}
use Rattle.pending_jobs.specs.Pending.{SeenPendingJobs, out_of, with_out}
use Rattle.pending_jobs.specs.Rows.{IsSound, jobs_of}
use Rattle.pending_jobs.specs.declared.pending.Pending.{Pending}
use Rattle.pending_jobs.specs.declared.pending_jobs.Row.{Row}

-- an empty row stands behind the others
pub one_more : (rows : List Row) (n : ℕ) (row : Row) → jobs_of rows ≡ replicate n [] → row.jobs.items ≡ [] → jobs_of (rows ++ row ∷ []) ≡ replicate (n + 1) []
one_more rows n row all none =
    map-append (λ (r : Row). r.jobs.items) rows (row ∷ [])
    ∙ ap (λ (front : List (List Pending)). front ++ row.jobs.items ∷ []) all
    ∙ ap (λ (jobs : List Pending). replicate n [] ++ jobs ∷ []) none
    ∙ replicate_more n []

pub still_sound : (depth : ℕ) (rows : List Row) (row : Row) → IsSound depth rows → depth ≤ deque_capacity row.jobs → row.jobs.items ≡ [] → IsSound depth (rows ++ row ∷ [])
still_sound depth rows row sound room none = All-append (λ (r : Row). (depth ≤ deque_capacity r.jobs) × (length r.jobs.items ≤ depth)) rows (row ∷ []) sound one
  where
    one : IsSound depth (row ∷ [])
    one zero d b = (room, subst (λ (jobs : List Pending). length jobs ≤ depth) (sym none) (omega arith))
    one (suc k) d b = absurd (omega (arith, b))

module _ (depth : ℕ) (rows : List Row) (seen : SeenPendingJobs) (lane : ℕ) (is : record { depth = depth; lanes = jobs_of rows } ≡ seen) where
  pub in_rows : lane < length seen.lanes → lane < length rows
  in_rows inside =
      subst (λ (n : ℕ). lane < n) (length-map rows (λ (row : Row). row.jobs.items))
      (subst (λ (p : SeenPendingJobs). lane < length p.lanes) (sym is) inside)

  pub row_seen : (row : Row) → lane < length rows → row ≡ get_or rows lane row → row.jobs.items ≡ out_of seen lane
  row_seen row inside read =
      ap (λ (r : Row). r.jobs.items) read
      ∙ sym (get_or-map (λ (r : Row). r.jobs.items) rows lane row [] inside)
      ∙ ap (λ (p : SeenPendingJobs). out_of p lane) is

  pub shown : (row : Row) (jobs : List Pending) → row.jobs.items ≡ jobs
      → record { depth = depth; lanes = jobs_of (set rows lane row) } ≡ with_out seen lane jobs
  shown row jobs same =
      subst (λ (p : SeenPendingJobs). record { depth = depth; lanes = jobs_of (set rows lane row) } ≡ with_out p lane jobs) is
      (ap (λ (lanes : List (List Pending)). record { depth = depth; lanes = lanes })
      (map-set (λ (r : Row). r.jobs.items) rows lane row ∙ ap (λ (js : List Pending). set (jobs_of rows) lane js) same))
