-- Lanes as they are kept hold what the rule says.
use Rattle.std.proofs.Common.{◌≡◌, ◌∙◌, ◌==◌, ◌+◌, ◌<◌, ◌≤◌, ◌++◌, ℕ, zero, suc, Bool, true, false, List, [], ◌∷◌, drop, get_or, length, set, take, refl, sym, ap, subst, arith, inl, inr, eqb-true, eq-eqb, if◌then◌else◌}
use Rattle.std.proofs.lemmas.Bool.{cases_lt}
use Rattle.std.proofs.lemmas.List.{get_or-replicate, get_or-set_other, get_or-set_same, length-replicate, length-set, take_all}
use Rattle.std.proofs.lemmas.List.Sums.{sum_by_more}
use Rattle.std.specs.List.{sum_by}
use Rattle.lane_queues.specs.Lanes.{IsFreest, SeenLanes}
use Rattle.lane_queues.specs.Lanes as kept
use Rattle.manager_moves.proofs.MoveLaws.{is_freest}
use Rattle.manager_moves.specs.Lanes.{freest, jobs_in, out_before, out_in}
use Rattle.manager_moves.specs.Runs.{Back, Called, Events, Lined, Made, Sent, Shared, Stopped}
use Rattle.job_terms.specs.Jobs.{job_of}
use Rattle.s3_model.specs.declared.outcomes.JobId.{JobId}
use Rattle.queue_laws.specs.Holding.{BackLeaves, FreestIsFreest, HoldLanes, LanesBegin, OthersStay, OutIsOut, SentJoins}

clash : true ≡ false → ⊥
clash e = cc

pub lanes_begin : LanesBegin
lanes_begin s = record {
  depth = refl;
  count = length-replicate s.lanes [];
  jobs = λ lane b. get_or-replicate s.lanes lane [] [] b;
}

-- one lane has other jobs
module _ (s : Shared) (events : Events) (lanes : SeenLanes) (h : HoldLanes s events lanes) (lane : ℕ)
    (inside : lane < s.lanes) (row : List JobId) where
  changed : (other : ℕ) → other < s.lanes → (b : Bool) → (lane == other) ≡ b
      → get_or (set lanes.jobs lane row) other [] ≡ (if b then row else jobs_in other events)
  changed other within true e =
      subst (λ (n : ℕ). get_or (set lanes.jobs lane row) n [] ≡ row) (eqb-true lane other e)
      (get_or-set_same lanes.jobs lane row [] (subst (λ (n : ℕ). lane < n) (sym h.count) inside))
  changed other within false e =
      get_or-set_other lanes.jobs lane other row [] (λ same. clash (sym (eq-eqb lane other (sym same)) ∙ e))
      ∙ h.jobs other within

  pub holds : (events_now : Events)
      → ((other : ℕ) → jobs_in other events_now ≡ (if lane == other then row else jobs_in other events))
      → HoldLanes s events_now (kept.with_jobs lanes lane row)
  holds events_now is = record {
    depth = h.depth;
    count = length-set lanes.jobs lane row ∙ h.count;
    jobs = λ other within. changed other within (lane == other) refl ∙ sym (is other);
  }

-- the jobs of the lane itself, as they are kept
module _ (s : Shared) (events : Events) (lanes : SeenLanes) (h : HoldLanes s events lanes) (lane : ℕ)
    (inside : lane < s.lanes) where
  same_row : (f : List JobId → List JobId) (other : ℕ) (b : Bool) → (lane == other) ≡ b
      → (if b then f (jobs_in other events) else jobs_in other events)
      ≡ (if b then f (kept.jobs_in lanes lane) else jobs_in other events)
  same_row f other true e =
      ap f (ap (λ (n : ℕ). jobs_in n events) (sym (eqb-true lane other e)) ∙ sym (h.jobs lane inside))
  same_row f other false e = refl

pub sent_joins : SentJoins
sent_joins s events lanes task of_op number lane h inside =
    let more : List JobId → List JobId = λ row. row ++ job_of task of_op number ∷ [] in
    holds s events lanes h lane inside (more (kept.jobs_in lanes lane)) (Sent task of_op number lane ∷ events)
    (λ other. same_row s events lanes h lane inside more other (lane == other) refl)

pub back_leaves : BackLeaves
back_leaves s events lanes lane carried h inside =
    holds s events lanes h lane inside (drop 1 (kept.jobs_in lanes lane)) (Back lane carried ∷ events)
    (λ other. same_row s events lanes h lane inside (λ (row : List JobId). drop 1 row) other (lane == other) refl)

pub others_stay : OthersStay
others_stay s events lanes (Made fits) e h = record { depth = h.depth; count = h.count; jobs = h.jobs }
others_stay s events lanes (Called task called result) e h = record { depth = h.depth; count = h.count; jobs = h.jobs }
others_stay s events lanes Lined e h = record { depth = h.depth; count = h.count; jobs = h.jobs }
others_stay s events lanes (Stopped reason) e h = record { depth = h.depth; count = h.count; jobs = h.jobs }
others_stay s events lanes (Sent task of_op number lane) e h = absurd (clash e)
others_stay s events lanes (Back lane carried) e h = absurd (clash e)

module _ (s : Shared) (events : Events) (lanes : SeenLanes) (h : HoldLanes s events lanes) where
  out_is : (lane : ℕ) → lane < s.lanes → kept.out_in lanes lane ≡ out_in lane events
  out_is lane inside = ap (λ (row : List JobId). length row) (h.jobs lane inside)

  pub same_freest : (lane : ℕ) → IsFreest lanes lane → lane ≡ freest s.lanes events
  same_freest lane is =
      let best = is_freest s events in
      let inside : lane < s.lanes = subst (λ (n : ℕ). lane < n) h.count is.within in
      let other = best.within (omega arith) in
      let here = out_is lane inside in
      let there = out_is (freest s.lanes events) other in
      elim (cases_lt lane (freest s.lanes events)) [
        | inl below ↦ let first = best.first lane below in
            let least = is.least (freest s.lanes events)
            (subst (λ (n : ℕ). freest s.lanes events < n) (sym h.count) other)
            in absurd (omega arith)
        | inr above ↦ elim (cases_lt (freest s.lanes events) lane) [
          | inl below ↦ let first = is.first (freest s.lanes events) below in
              let least = best.least lane inside in absurd (omega arith)
          | inr same ↦ omega arith
        ]
      ]

  summed : (n : ℕ) → n ≤ s.lanes → sum_by length (take n lanes.jobs) ≡ out_before n events
  summed zero few = refl
  summed (suc n) few =
      let inside : n < s.lanes = omega arith in
      let before = summed n (omega arith) in
      let one = out_is n inside in
      let more = sum_by_more length lanes.jobs n [] (subst (λ (k : ℕ). n < k) (sym h.count) inside) in
      let next : n + 1 ≡ suc n = omega arith in
      ap (λ (k : ℕ). sum_by length (take k lanes.jobs)) (sym next) ∙ more ∙ omega arith

  pub all_out : sum_by length lanes.jobs ≡ out_before s.lanes events
  all_out =
      ap (λ (jobs : List (List JobId)). sum_by length jobs)
      (sym (take_all s.lanes lanes.jobs (let e = h.count in omega arith)))
      ∙ summed s.lanes (omega arith)

pub freest_is_freest : FreestIsFreest
freest_is_freest s events lanes lane h is = same_freest s events lanes h lane is

pub out_is_out : OutIsOut
out_is_out s events lanes h = all_out s events lanes h
