-- The lanes of a run stay those of its desk, step by step.
use Rattle.std.proofs.Common.{◌≡◌, ◌∙◌, ◌+◌, ◌≤◌, ◌<◌, ◌++◌, ◌∷◌, [], ℕ, zero, suc, inl, inr, List, refl, sym, ap, subst, arith, drop, get_or, length, map, set}
use Rattle.std.proofs.Math.ListN.{get_or-map}
use Rattle.std.proofs.lemmas.List.{drop-append-le, get_or-set_other, get_or-set_same, length-append, length-drop, length-map, length-set, map-set}
use Rattle.std.proofs.lemmas.List.Sums.{get_or-le-sum_by}
use Rattle.bounded_executor.specs.Desk.{DeskState, all_out, lane_of}
use Rattle.bounded_executor.specs.Exchange.{Exchange, jobs_out, unused, with_given, with_taken}
use Rattle.jobs.specs.Endings.{SeenCarried}
use Rattle.jobs.specs.Jobs.{SeenJob}
use Rattle.lane_givings.specs.Givings.{HoldJobs}
use Rattle.manager_moves.specs.Lanes.{out_in}
use Rattle.manager_moves.specs.Runs.{Events, Shared}
use Rattle.pending_jobs.specs.Pending.{SeenPendingJobs, out_of, pending_of, with_out}
use Rattle.pending_jobs.specs.declared.pending.Pending.{Pending}
use Rattle.run_needs.specs.Needs.{most_bytes}
use Rattle.run_traces.proofs.Steps.{test_of}
use Rattle.s3_model.specs.declared.outcomes.JobId.{JobId}
use Rattle.run_transfers.specs.Conducting.{HasLanes, IsTakenBehind, pending_of_lane}

abbrev pub pendings : List SeenJob → List Pending
pendings jobs = map pending_of jobs

abbrev pub outs_of : List (Exchange SeenJob SeenCarried) → List (List SeenJob)
outs_of lanes = map pending_of_lane lanes

pub out_at : (lanes : List (Exchange SeenJob SeenCarried)) (lane : ℕ)
    → get_or (outs_of lanes) lane [] ≡ pending_of_lane (get_or lanes lane unused)
out_at lanes lane = get_or-map pending_of_lane lanes lane unused

pub with_job : (e : Exchange SeenJob SeenCarried) (job : SeenJob) → IsTakenBehind e
    → pending_of_lane (with_given e job) ≡ pending_of_lane e ++ job ∷ []
with_job e job behind = drop-append-le (length e.taken) e.given (job ∷ []) behind

drop_one : {X : Type 0} (n : ℕ) (xs : List X) → drop (n + 1) xs ≡ drop 1 (drop n xs)
drop_one zero xs = refl
drop_one (suc n) [] = let e : suc n + 1 ≡ suc (suc n) = omega arith in ap (λ (k : ℕ). drop k []) e
drop_one (suc n) (x ∷ xs) =
    let e : suc n + 1 ≡ suc (n + 1) = omega arith in ap (λ (k : ℕ). drop k (x ∷ xs)) e ∙ drop_one n xs

pub with_outcome : (e : Exchange SeenJob SeenCarried) (c : SeenCarried)
    → pending_of_lane (with_taken e c) ≡ drop 1 (pending_of_lane e)
with_outcome e c =
    ap (λ (n : ℕ). drop n e.given) (length-append e.taken (c ∷ [])) ∙ drop_one (length e.taken) e.given

-- ---- what is known of a lane

module _ {W : Type 0} {s : Shared} {events : Events} {p : SeenPendingJobs} {d : DeskState W SeenJob SeenCarried}
    (has : HasLanes s events p d) where
  pub pending_at : (lane : ℕ) → out_of p lane ≡ pendings (pending_of_lane (get_or d.lanes lane unused))
  pending_at lane =
      ap (λ (q : SeenPendingJobs). get_or q.lanes lane []) has.known
      ∙ get_or-map pendings (outs_of d.lanes) lane []
      ∙ ap pendings (out_at d.lanes lane)

  pub pending_lanes : length p.lanes ≡ length d.lanes
  pending_lanes =
      ap (λ (q : SeenPendingJobs). length q.lanes) has.known ∙ length-map (outs_of d.lanes) pendings
      ∙ length-map d.lanes pending_of_lane

  pub pending_depth : p.depth ≡ d.depth
  pending_depth = ap (λ (q : SeenPendingJobs). q.depth) has.known ∙ sym has.depth

  pub pending_count : (lane : ℕ) → length (pending_of_lane (get_or d.lanes lane unused)) ≡ out_in lane events
  pending_count lane =
      sym (ap (λ (jobs : List SeenJob). length jobs) (out_at d.lanes lane))
      ∙ sym (length-map (get_or (outs_of d.lanes) lane []) (λ (job : SeenJob). job.id))
      ∙ ap (λ (ids : List JobId). length ids) (has.jobs.each lane).ids

  pub out_count : (lane : ℕ) → jobs_out (lane_of d lane) ≡ out_in lane events
  out_count lane =
      sym (length-drop (length (get_or d.lanes lane unused).taken) (get_or d.lanes lane unused).given)
      ∙ pending_count lane

  pub known_count : (lane : ℕ) → length (out_of p lane) ≡ out_in lane events
  known_count lane =
      ap (λ (jobs : List Pending). length jobs) (pending_at lane)
      ∙ length-map (pending_of_lane (get_or d.lanes lane unused)) pending_of
      ∙ pending_count lane

  pub some_out : (lane : ℕ) → lane < s.lanes → 1 ≤ out_in lane events → 0 < all_out d
  some_out lane within some =
      let there = get_or-le-sum_by (jobs_out {J = SeenJob} {D = SeenCarried}) d.lanes lane unused (subst (λ (n : ℕ). lane < n) (sym has.lanes) within) in
      let count = out_count lane in
      omega (arith, there, count, some)

-- ---- a lane changes

module _ {W : Type 0} {s : Shared} {events later : Events} {p q : SeenPendingJobs}
    {d e : DeskState W SeenJob SeenCarried} (lane : ℕ) (new : Exchange SeenJob SeenCarried) (jobs : List SeenJob)
    (has : HasLanes s events p d) (within : lane < length d.lanes) where
  pub put_lane : e ≡ record d { lanes = set d.lanes lane new } → IsTakenBehind new → pending_of_lane new ≡ jobs
      → q ≡ with_out p lane (pendings jobs)
      → HoldJobs (most_bytes s.works) s later (set (outs_of d.lanes) lane jobs) → HasLanes s later q e
  put_lane is behind are known holds =
      subst (λ (desk : DeskState W SeenJob SeenCarried). HasLanes s later q desk) (sym is) (record {
        lanes = length-set d.lanes lane new ∙ has.lanes;
        depth = has.depth;
        behind = λ other. elim (test_of lane other) [
          | inl same ↦ subst IsTakenBehind
              (sym (ap (λ (l : ℕ). get_or (set d.lanes lane new) l unused) (sym same.1) ∙ get_or-set_same d.lanes lane new unused within)) behind
          | inr apart ↦ subst IsTakenBehind (sym (get_or-set_other d.lanes lane other new unused (λ x. apart.1 (sym x)))) (has.behind other)
        ];
        jobs = subst (λ (outs : List (List SeenJob)). HoldJobs (most_bytes s.works) s later outs) (sym outs_are) holds;
        known = known ∙ ap (λ (r : SeenPendingJobs). with_out r lane (pendings jobs)) has.known
            ∙ ap (λ (rows : List (List Pending)). record { depth = s.depth; lanes = rows })
            (sym (ap (λ (outs : List (List SeenJob)). map pendings outs) outs_are ∙ map-set pendings (outs_of d.lanes) lane jobs));
      })
    where
      outs_are : outs_of (set d.lanes lane new) ≡ set (outs_of d.lanes) lane jobs
      outs_are = map-set pending_of_lane d.lanes lane new ∙ ap (λ (out : List SeenJob). set (outs_of d.lanes) lane out) are
