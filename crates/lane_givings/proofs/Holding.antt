-- Lanes hold the jobs that are out in them, as they were given.
use Rattle.std.proofs.Common.{◌≡◌, ◌∙◌, ◌==◌, ◌<◌, ◌++◌, ℕ, zero, suc, Bool, true, false, List, [], ◌∷◌, Option, Some}
use Rattle.std.proofs.Common.{None}
use Rattle.std.proofs.Common.{refl, sym, subst, ap, arith, inl, inr, drop, get_or, is_some, length, map, not, set}
use Rattle.std.proofs.Common.{slice_get}
use Rattle.std.proofs.Common.{eq-eqb}
use Rattle.std.proofs.lemmas.Bool.{eqb-true}
use Rattle.std.proofs.lemmas.List.{drop-map, get_or-set_other, get_or-set_same, map-append}
use Rattle.std.proofs.lemmas.Option.{slice_get-map}
use Rattle.std.specs.Option.{option_map}
use Rattle.std.specs.Prelude.{replicate}
use Rattle.jobs.specs.Endings.{SeenCarried}
use Rattle.jobs.specs.Jobs.{SeenJob}
use Rattle.manager_moves.proofs.CountLemmas.{no}
use Rattle.manager_moves.proofs.HoldLemmas.{same_number, skip}
use Rattle.manager_moves.proofs.MoveLaws.{in_front}
use Rattle.manager_moves.proofs.PartLaws.{nothing, same_value}
use Rattle.manager_moves.specs.Lanes.{jobs_in}
use Rattle.manager_moves.specs.Laws.{IsOfTask, IsRun}
use Rattle.manager_moves.specs.Parts.{is_kept}
use Rattle.manager_moves.specs.Runs.{Back, Called, Event, Events, Lined, Made, Sent, Shared, Stopped, made_count, share}
use Rattle.manager_moves.specs.Runs.{with_taken}
use Rattle.manager_moves.proofs.ShareLaws.{is_next, shares_are_histories}
use Rattle.manager_moves.proofs.ShareLaws as shares
use Rattle.part_tables.proofs.Freeing.{kept_jobs_wait}
use Rattle.run_progress.proofs.OutJobs.{taken_same}
use Rattle.job_terms.specs.Buffers.{holds_buffer}
use Rattle.job_terms.specs.Ops.{is_op}
use Rattle.job_terms.specs.Jobs.{job_of}
use Rattle.s3_model.specs.declared.outcomes.JobId.{JobId}
use Rattle.s3_model.specs.declared.requests.Op.{Op}
use Rattle.s3_model.specs.declared.requests.Op.TheVariants as op
use Rattle.task_acts.specs.declared.acts.Act.{Act}
use Rattle.task_acts.specs.declared.acts.Act.TheVariants as act
use Rattle.task_acts.specs.declared.acts.Stage.{Stage}
use Rattle.task_acts.specs.declared.acts.Stage.TheVariants as at
use Rattle.task_acts.specs.declared.work.Work.{Work}
use Rattle.task_acts.specs.Histories.{Gave, History, is_act}
use Rattle.task_acts.specs.Kept.{has_cell, kept_job, tries_before}
use Rattle.task_acts.specs.Stages.{given_stage, is_out, may_be_given, stage}
use Rattle.task_progress.proofs.Endings.{chosen}
use Rattle.lane_givings.proofs.InLanes.{IsAt, dropped, is_other, jobs_in_lanes_are_out, jobs_stand_once, joined}
use Rattle.lane_givings.proofs.Kept.{is_first, kept_as, none_before}
use Rattle.lane_givings.proofs.Staying.{act_itself, IsNotBack, next_may_be_given, stays, taken_tries}
use Rattle.lane_givings.specs.Givings.{HadRoom, HasRoom, HoldJobs, HoldsLane, IsAsGiven, IsAsGivenIn}
use Rattle.lane_givings.specs.Givings.{IsGivenAs, IsGivenNext, IsOut, act_of}
use Rattle.lane_givings.specs.Laws.{GivenJoins, JobsHaveRoom, NoneIsOut, OldestMayReturn, OthersLeave, ReturnedLeaves}

abbrev id_of : SeenJob → JobId
id_of job = job.id

-- ---- a job that is given

fresh_cell : (how : Stage) (o : Op) → may_be_given how ≡ true → is_kept how ≡ false
    → not (is_op o op.Abort) ≡ has_cell (given_stage how) o
fresh_cell at.Waiting op.Head may fresh = refl
fresh_cell at.Waiting op.Get may fresh = refl
fresh_cell at.Waiting op.Put may fresh = refl
fresh_cell at.Waiting op.Copy may fresh = refl
fresh_cell at.Waiting op.Delete may fresh = refl
fresh_cell at.Waiting op.Create may fresh = refl
fresh_cell at.Waiting op.Part may fresh = refl
fresh_cell at.Waiting op.PartCopy may fresh = refl
fresh_cell at.Waiting op.Complete may fresh = refl
fresh_cell at.Waiting op.Abort may fresh = refl
fresh_cell at.Waiting op.List may fresh = refl
fresh_cell at.Waiting op.Buckets may fresh = refl
fresh_cell at.Kept o may fresh = no (sym fresh)
fresh_cell how o may fresh = no may

kept_cell : (how : Stage) (o : Op) → is_kept how ≡ true → false ≡ has_cell (given_stage how) o
kept_cell at.Kept op.Abort kept = refl
kept_cell at.Kept o kept = refl
kept_cell how o kept = no kept

fresh_first : (how : Stage) → may_be_given how ≡ true → is_kept how ≡ false → is_first how ≡ true
fresh_first at.Waiting may fresh = refl
fresh_first at.Kept may fresh = no (sym fresh)
fresh_first how may fresh = no may

module _ (room : ℕ) (s : Shared) (before : Events) (t : ℕ) (o : Op) (k to : ℕ) (run : IsRun s (Sent t o k to ∷ before))
    (rooms : HadRoom room before) (w : Work) (there : slice_get s.works t ≡ Some w) where
  abbrev h : History
  h = share w t before

  abbrev a : Act
  a = act.Send o k

  abbrev with_it : History
  with_it = Gave a ∷ with_taken w o k h

  may : may_be_given (stage w h a) ≡ true
  may = next_may_be_given s before t o k to w run there

  stage_now : stage w with_it a ≡ given_stage (stage w h a)
  stage_now =
      chosen (is_act a a) (given_stage (stage w (with_taken w o k h) a)) (stage w (with_taken w o k h) a)
      (act_itself o k)
      ∙ ap given_stage (taken_same w o k h a)

  -- as the job of that task, op and number was given
  abbrev IsNow : JobId → SeenJob → Type 0
  IsNow id job = (is_some job.cell ≡ has_cell (stage w with_it (act_of id)) id.op)
      × (job.had ≡ tries_before with_it (act_of id)) × (is_some job.part ≡ holds_buffer id.op) × HasRoom room job.part

  given_now : (job : SeenJob) (kept : Option SeenJob) → kept_job w h a ≡ kept → IsGivenAs room (job_of t o k) kept job
      → (job.id ≡ job_of t o k) × IsNow (job_of t o k) job
  given_now job None e given =
      let fresh = sym (kept_jobs_wait s before t w o k run.1) ∙ ap (λ (x : Option SeenJob). is_some x) e in (
        given.is,
        (
          given.cell ∙ fresh_cell (stage w h a) o may fresh ∙ ap (λ (how : Stage). has_cell how o) (sym stage_now),
          given.had ∙ sym (taken_tries w o k h a ∙ none_before w o k h (shares_are_histories s before t w there run.1)
              (fresh_first (stage w h a) may fresh)),
          given.part,
          given.has_room,
        ),
      )
  given_now job (Some kept) e given =
      let is_so = sym (kept_jobs_wait s before t w o k run.1) ∙ ap (λ (x : Option SeenJob). is_some x) e in
      let was = kept_as room s t w there o k before run.1 rooms kept e in
      subst (λ (x : SeenJob). (x.id ≡ job_of t o k) × IsNow (job_of t o k) x) (sym given) (
        was.is,
        (
          ap (λ (x : Option _). is_some x) was.cell ∙ kept_cell (stage w h a) o is_so
              ∙ ap (λ (how : Stage). has_cell how o) (sym stage_now),
          was.had ∙ sym (taken_tries w o k h a),
          was.part,
          was.has_room,
        ),
      )

  given_as : (job : SeenJob) → IsGivenAs room (job_of t o k) (kept_job w h a) job
      → (job.id ≡ job_of t o k) × IsAsGiven room w (share w t (Sent t o k to ∷ before)) job
  given_as job given =
      let now = given_now job (kept_job w h a) refl given in
      let its : IsNow job.id job = subst (λ (id : JobId). IsNow id job) (sym now.0) now.1 in (
        now.0,
        subst (λ (x : History). IsAsGiven room w x job) (sym (chosen (t == t) with_it h (same_number t)))
            (record { cell = its.0; had = its.1; part = its.2; has_room = its.3 }),
      )

-- ---- a job that stays

module _ (room : ℕ) (s : Shared) (before : Events) where
  out_for : (id : JobId) → IsOut s before id → (n : ℕ) (w : Work) → id.task ≡ Some n → slice_get s.works n ≡ Some w
      → is_out (stage w (share w n before) (act_of id)) ≡ true
  out_for id is n w of_task there =
      let task_is : is.task ≡ n = same_value (sym is.is_task ∙ of_task) in
      let work_is : is.work ≡ w = same_value (sym is.there ∙ ap (slice_get s.works) task_is ∙ there) in
      subst (λ (v : Work). is_out (stage v (share v n before) (act_of id)) ≡ true) work_is
      (subst (λ (i : ℕ). is_out (stage is.work (share is.work i before) (act_of id)) ≡ true) task_is is.out)

  stays_given : (e : Event) (job : SeenJob) → IsRun s (e ∷ before) → IsNotBack e job.id → IsOut s before job.id
      → IsAsGivenIn room s before job → IsAsGivenIn room s (e ∷ before) job
  stays_given e job run apart is given n w of_task there =
      let was = given n w of_task there in
      let same = stays s before n w there job.id of_task (out_for job.id is n w of_task there) e run apart in
      record {
        cell = was.cell ∙ ap (λ (how : Stage). has_cell how job.id.op) (sym same.stage_is);
        had = was.had ∙ sym same.tries_are;
        part = was.part;
        has_room = was.has_room;
      }

  -- ---- a lane

  module _ (lane : ℕ) (jobs : List SeenJob) (holds : HoldsLane room s before lane jobs) where
    its_place : (place : ℕ) (job : SeenJob) → slice_get jobs place ≡ Some job → IsAt before lane place job.id
    its_place place job e =
        subst (λ (ids : List JobId). slice_get ids place ≡ Some job.id) holds.ids
        (slice_get-map id_of jobs place ∙ ap (option_map id_of) e)

    its_out : IsRun s before → (place : ℕ) (job : SeenJob) → slice_get jobs place ≡ Some job → IsOut s before job.id
    its_out run place job e = jobs_in_lanes_are_out s before lane place job.id run (its_place place job e)

    lane_stays : (e : Event) → IsRun s (e ∷ before) → jobs_in lane (e ∷ before) ≡ jobs_in lane before
        → ((place : ℕ) (id : JobId) → IsAt before lane place id → IsNotBack e id)
        → HoldsLane room s (e ∷ before) lane jobs
    lane_stays e run same apart = record {
      ids = holds.ids ∙ sym same;
      given = λ place job f. stays_given e job run (apart place job.id (its_place place job f))
          (its_out run.1 place job f) (holds.given place job f);
    }

    lane_gains : (t : ℕ) (o : Op) (k : ℕ) (job : SeenJob) → IsRun s (Sent t o k lane ∷ before) → HadRoom room before
        → IsGivenNext room s before t o k job → (w : Work) → slice_get s.works t ≡ Some w
        → HoldsLane room s (Sent t o k lane ∷ before) lane (jobs ++ job ∷ [])
    lane_gains t o k job run rooms given w there =
        let now = given_as room s before t o k lane run rooms w there job (given w there) in
        record {
          ids =
              map-append id_of jobs (job ∷ []) ∙ ap (λ (ids : List JobId). ids ++ job.id ∷ []) holds.ids
              ∙ ap (λ (id : JobId). jobs_in lane before ++ id ∷ []) now.0
              ∙ sym (chosen (lane == lane) (jobs_in lane before ++ job_of t o k ∷ []) (jobs_in lane before)
              (same_number lane));
          given = λ place x e. elim (joined jobs job place x e) [
            | inl old ↦ stays_given (Sent t o k lane) x run tt (its_out run.1 place x old) (holds.given place x old)
            | inr new ↦ subst (IsAsGivenIn room s (Sent t o k lane ∷ before)) new.1 (as_given now.0 now.1)
          ];
        }
      where
        as_given : job.id ≡ job_of t o k → IsAsGiven room w (share w t (Sent t o k lane ∷ before)) job
            → IsAsGivenIn room s (Sent t o k lane ∷ before) job
        as_given is now n v of_task there_too =
            let task_is : t ≡ n = same_value (sym (ap (λ (id : JobId). id.task) is) ∙ of_task) in
            let work_is : w ≡ v = same_value (sym there ∙ ap (slice_get s.works) task_is ∙ there_too) in
            subst (λ (x : Work). IsAsGiven room x (share x n (Sent t o k lane ∷ before)) job) work_is
            (subst (λ (i : ℕ). IsAsGiven room w (share w i (Sent t o k lane ∷ before)) job) task_is now)

    lane_loses : (c : SeenCarried) → IsRun s (Back lane c ∷ before)
        → HoldsLane room s (Back lane c ∷ before) lane (drop 1 jobs)
    lane_loses c run = record {
      ids = now;
      given = λ place job e.
          let was = dropped jobs place job e in
          stays_given (Back lane c) job run
          (is_other s before lane c run once lane place job.id
          (subst (λ (ids : List JobId). slice_get ids place ≡ Some job.id) now
          (slice_get-map id_of (drop 1 jobs) place ∙ ap (option_map id_of) e)))
          (its_out run.1 (suc place) job was) (holds.given (suc place) job was);
    }
      where
        once : (l other p q : ℕ) (id : JobId) → IsAt before l p id → IsAt before other q id → (l ≡ other) × (p ≡ q)
        once l other p q id f g = jobs_stand_once s before l other p q id run.1 f g

        now : map id_of (drop 1 jobs) ≡ jobs_in lane (Back lane c ∷ before)
        now =
            sym (drop-map id_of 1 jobs) ∙ ap (λ (ids : List JobId). drop 1 ids) holds.ids
            ∙ sym (chosen (lane == lane) (drop 1 (jobs_in lane before)) (jobs_in lane before) (same_number lane))

-- ---- all lanes

apart : true ≡ false → ⊥
apart e = cc

pub none_is_out : NoneIsOut
none_is_out room s count = record {
  each = λ lane. nothing_in lane (get_or (replicate count []) lane []) (empty count lane);
  rooms = tt;
}
  where
    empty : (count lane : ℕ) → get_or {A = List SeenJob} (replicate count []) lane [] ≡ []
    empty zero lane = refl
    empty (suc count) zero = refl
    empty (suc count) (suc lane) = empty count lane

    nothing_in : (lane : ℕ) (jobs : List SeenJob) → jobs ≡ [] → HoldsLane room s [] lane jobs
    nothing_in lane jobs e = subst (HoldsLane room s [] lane) (sym e)
        (record { ids = refl; given = λ place job f. absurd (nothing f) })

module _ (room : ℕ) (s : Shared) (events : Events) (lanes : List (List SeenJob)) (lane : ℕ) (row : List SeenJob)
    (inside : lane < length lanes) where
  -- one lane has other jobs
  changed : HoldsLane room s events lane row
      → ((other : ℕ) → (lane == other) ≡ false → HoldsLane room s events other (get_or lanes other []))
      → (other : ℕ) → HoldsLane room s events other (get_or (set lanes lane row) other [])
  changed here there other = by (lane == other) refl
    where
      by : (b : Bool) → (lane == other) ≡ b → HoldsLane room s events other (get_or (set lanes lane row) other [])
      by true e =
          subst (λ (l : ℕ). HoldsLane room s events l (get_or (set lanes lane row) l [])) (eqb-true lane other e)
          (subst (HoldsLane room s events lane) (sym (get_or-set_same lanes lane row [] inside)) here)
      by false e =
          subst (HoldsLane room s events other)
          (sym (get_or-set_other lanes lane other row [] (λ same. apart (sym (eq-eqb lane other (sym same)) ∙ e))))
          (there other e)

pub given_joins : GivenJoins
given_joins room s events lanes t o k lane job run holds given inside =
    let g = is_next s events t (act.Send o k) (ap shares.act_of run.0) in
    record {
      each = changed room s (Sent t o k lane ∷ events) lanes lane (get_or lanes lane [] ++ job ∷ []) inside
          (lane_gains room s events lane (get_or lanes lane []) (holds.each lane) t o k job run holds.rooms given g.0
          (in_front (made_count events) s.works t g.0 g.1))
          others;
      rooms = holds.rooms;
    }
  where
    others : (other : ℕ) → (lane == other) ≡ false
        → HoldsLane room s (Sent t o k lane ∷ events) other (get_or lanes other [])
    others other apart = lane_stays room s events other (get_or lanes other []) (holds.each other) (Sent t o k lane) run
        (skip (lane == other) (jobs_in other events ++ job_of t o k ∷ []) (jobs_in other events) apart)
        (λ place id f. tt)

pub oldest_may_return : OldestMayReturn
oldest_may_return room s events lanes lane given carried run holds first same ended =
    let its = holds.each lane in
    let jobs : List SeenJob = get_or lanes lane [] in
    let is = its_out room s events lane jobs its run 0 given first in
    let was = its.given 0 given first is.task is.work is.is_task is.there in
    let h : History = share is.work is.task events in (
      its_place room s events lane jobs its 0 given first ∙ ap (λ (id : JobId). Some id) (sym same.id),
      subst (λ (task : Option ℕ). IsOfTask s events task carried)
          (sym (ap (λ (id : JobId). id.task) same.id ∙ is.is_task)) (
            is.work,
            is.there,
            (
              subst (λ (id : JobId). is_out (stage is.work h (act_of id)) ≡ true) (sym same.id) is.out,
              same.cell ∙ was.cell ∙ ap (λ (id : JobId). has_cell (stage is.work h (act_of id)) id.op) (sym same.id),
              same.had ∙ was.had ∙ ap (λ (id : JobId). tries_before h (act_of id)) (sym same.id),
              ended,
            ),
          ),
      same.part ∙ was.part ∙ ap (λ (id : JobId). holds_buffer id.op) (sym same.id),
    )

pub jobs_have_room : JobsHaveRoom
jobs_have_room room s events lanes lane place job run holds at =
    let its = holds.each lane in
    let is = its_out room s events lane (get_or lanes lane []) its run place job at in
    (its.given place job at is.task is.work is.is_task is.there).has_room

-- a lane that holds a job is there
is_there : (lanes : List (List SeenJob)) (lane : ℕ) (id : JobId)
    → slice_get (map id_of (get_or lanes lane [])) 0 ≡ Some id → lane < length lanes
is_there [] lane id e = absurd (nothing e)
is_there (row ∷ lanes) zero id e = omega arith
is_there (row ∷ lanes) (suc lane) id e = let rest = is_there lanes lane id e in omega arith

pub returned_leaves : ReturnedLeaves
returned_leaves room s events lanes lane carried run holds has = record {
  each = changed room s (Back lane carried ∷ events) lanes lane (drop 1 (get_or lanes lane []))
      (is_there lanes lane carried.job.id
      (subst (λ (ids : List JobId). slice_get ids 0 ≡ Some carried.job.id) (sym (holds.each lane).ids) run.0.0))
      (lane_loses room s events lane (get_or lanes lane []) (holds.each lane) carried run)
      (λ other apart. lane_stays room s events other (get_or lanes other []) (holds.each other) (Back lane carried) run
      (skip (lane == other) (drop 1 (jobs_in other events)) (jobs_in other events) apart)
      (λ place id f. elsewhere other apart place id f));
  rooms = (has, holds.rooms);
}
  where
    elsewhere : (other : ℕ) → (lane == other) ≡ false → (place : ℕ) (id : JobId) → IsAt events other place id
        → carried.job.id ≡ id → ⊥
    elsewhere other apart place id f same =
        let is = jobs_stand_once s events lane other 0 place id run.1 (run.0.0 ∙ ap (λ (x : JobId). Some x) same) f in
        no (sym apart ∙ ap (λ (l : ℕ). lane == l) (sym is.0) ∙ same_number lane)

module _ (room : ℕ) (s : Shared) (events : Events) (lanes : List (List SeenJob))
    (holds : HoldJobs room s events lanes) where
  leave : (e : Event) → IsRun s (e ∷ events) → ((lane : ℕ) → jobs_in lane (e ∷ events) ≡ jobs_in lane events)
      → ((id : JobId) → IsNotBack e id) → HadRoom room (e ∷ events) → HoldJobs room s (e ∷ events) lanes
  leave e run same other rooms = record {
    each = λ lane. lane_stays room s events lane (get_or lanes lane []) (holds.each lane) e run (same lane)
        (λ place id f. other id);
    rooms = rooms;
  }

pub others_leave : OthersLeave
others_leave room s events lanes (Made fits) e run holds =
    leave room s events lanes holds (Made fits) run (λ lane. refl) (λ id. tt) holds.rooms
others_leave room s events lanes (Called t called r) e run holds =
    leave room s events lanes holds (Called t called r) run (λ lane. refl) (λ id. tt) holds.rooms
others_leave room s events lanes Lined e run holds =
    leave room s events lanes holds Lined run (λ lane. refl) (λ id. tt) holds.rooms
others_leave room s events lanes (Stopped reason) e run holds =
    leave room s events lanes holds (Stopped reason) run (λ lane. refl) (λ id. tt) holds.rooms
others_leave room s events lanes (Sent t o k lane) e run holds = absurd (apart e)
others_leave room s events lanes (Back lane c) e run holds = absurd (apart e)
