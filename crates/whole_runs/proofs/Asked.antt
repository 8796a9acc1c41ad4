-- What a job is for was formed when its act was ready, and its dispatch asks it.
use Rattle.std.proofs.Common.{append_assoc, ◌≡◌, ◌∙◌, ◌++◌, ℕ, Bool, true, false, List, [], ◌∷◌, Option, Some, None, refl, sym, subst, ap, inl, inr, slice_get}
use Rattle.std.specs.Prelude.{is_some, if◌then◌else◌}
use Rattle.jobs.specs.Endings.{SeenCarried}
use Rattle.jobs.specs.Jobs.{SeenJob}
use Rattle.jobs.specs.declared.what.What.{What}
use Rattle.manager_moves.proofs.ShareLaws.{shares_are_histories}
use Rattle.manager_moves.specs.Laws.{IsRun}
use Rattle.manager_moves.specs.Runs.{Back, Event, Events, Sent, Shared, share, with_taken}
use Rattle.run_progress.proofs.OutJobs.{taken_same}
use Rattle.s3_model.specs.declared.requests.Op.{Op}
use Rattle.s3_model.specs.declared.tasks.Task.{Task}
use Rattle.shared_lemmas.proofs.Clashes.{false_true, none_is_some, some_is}
use Rattle.shared_lemmas.proofs.Members.{Has, split_of}
use Rattle.task_acts.specs.Histories.{Came, Cancelled, Gave, Happening, History, Returned, Taken, is_act, sent}
use Rattle.task_acts.specs.Failures.{is_stopped}
use Rattle.task_acts.specs.Kept.{IsHistory, again, is_kept, kept_job}
use Rattle.task_acts.specs.Rule.{is_ready_in}
use Rattle.task_acts.specs.Stages.{stage}
use Rattle.task_acts.specs.declared.acts.Act.{Act}
use Rattle.task_acts.specs.declared.acts.Act.TheVariants as act
use Rattle.task_acts.specs.declared.acts.Stage.{Stage}
use Rattle.task_acts.specs.declared.work.Work.{Work}
use Rattle.task_progress.proofs.Begun.{has_begun, same_act}
use Rattle.task_schedule.proofs.Deciders.{came_begun}
use Rattle.task_schedule.proofs.Givings.{again as given_again}
use Rattle.task_schedule.proofs.Shares.{run_before, sent_is, share_back, since, since_is, taken, taken_is}
use Rattle.task_schedule.proofs.Successes.{sends}
use Rattle.kept_jobs.specs.Steps.{IsStepOf}
use Rattle.whole_runs.specs.Given.{AreHandedOut, ComeAsGiven, IsKeptOrFormed, Jobs, JobsAreAsked, JobsAreFormed, WasFormed, WasGiven}

-- ---- a job that is kept

-- it came, and is the one that came
pub record KeptFrom (h : History) (a : Act) (kept : SeenJob) : Type 0 where
  pub carried : SeenCarried
  pub known : Has h (Came carried)
  pub act_is : is_act a (sent carried) ≡ true
  pub is : kept ≡ again carried

module _ (w : Work) (a : Act) (kept : SeenJob) where
  later_too : (e : Happening) (h : History) → KeptFrom h a kept → KeptFrom (e ∷ h) a kept
  later_too e h k = record { carried = k.carried; known = inr k.known; act_is = k.act_is; is = k.is }

  kept_from : (h : History) → kept_job w h a ≡ Some kept → KeptFrom h a kept
  kept_from [] e = absurd (none_is_some kept e)
  kept_from (Came c ∷ h) e = by (is_act a (sent c)) refl e (λ f. kept_from h f)
    where
      here : (b : Bool) → is_act a (sent c) ≡ true → (if b then Some (again c) else None) ≡ Some kept
          → KeptFrom (Came c ∷ h) a kept
      here true same f = record {
        carried = c;
        known = inl refl;
        act_is = same;
        is = sym (some_is (again c) kept f);
      }
      here false same f = absurd (none_is_some kept f)

      by : (b : Bool) → is_act a (sent c) ≡ b
          → (if b then (if is_kept w (is_stopped w h) c then Some (again c) else None) else kept_job w h a) ≡ Some kept
          → (kept_job w h a ≡ Some kept → KeptFrom h a kept) → KeptFrom (Came c ∷ h) a kept
      by true same f rest = here (is_kept w (is_stopped w h) c) same f
      by false other f rest = later_too (Came c) h (rest f)
  kept_from (Gave g ∷ h) e = by (is_act a g) e (λ f. kept_from h f)
    where
      by : (b : Bool) → (if b then None else kept_job w h a) ≡ Some kept
          → (kept_job w h a ≡ Some kept → KeptFrom h a kept) → KeptFrom (Gave g ∷ h) a kept
      by true f rest = absurd (none_is_some kept f)
      by false f rest = later_too (Gave g) h (rest f)
  kept_from (Taken o k ∷ h) e = by (is_act a (act.Send o k)) e (λ f. kept_from h f)
    where
      by : (b : Bool) → (if b then None else kept_job w h a) ≡ Some kept
          → (kept_job w h a ≡ Some kept → KeptFrom h a kept) → KeptFrom (Taken o k ∷ h) a kept
      by true f rest = absurd (none_is_some kept f)
      by false f rest = later_too (Taken o k) h (rest f)
  kept_from (Returned b r ∷ h) e = later_too (Returned b r) h (kept_from h e)
  kept_from (Cancelled reason ∷ h) e = later_too (Cancelled reason) h (kept_from h e)

  kept_begun : (h : History) → IsHistory w h → kept_job w h a ≡ Some kept → has_begun (stage w h a) ≡ true
  kept_begun h is e =
      let from = kept_from h e in
      subst (λ (x : Act). has_begun (stage w h x) ≡ true) (sym (same_act a (sent from.carried) from.act_is))
      (came_begun w h is from.carried from.known)

-- ---- one giving of a job

module _ (s : Shared) (w : Work) (n : ℕ) (o : Op) (k : ℕ) (of_plan : slice_get s.works n ≡ Some w) where
  abbrev this : Act
  this = act.Send o k

  abbrev kept_then : Events → Option SeenJob
  kept_then before = kept_job w (share w n before) this

  holds : (before : Events) → IsRun s before → IsHistory w (share w n before)
  holds before run = shares_are_histories s before n w of_plan run

  given_holds : (before : Events) (lane : ℕ) → IsRun s (Sent n o k lane ∷ before)
      → IsHistory w (Gave this ∷ with_taken w o k (share w n before))
  given_holds before lane run =
      subst (IsHistory w) (sent_is w n o k lane before) (holds (Sent n o k lane ∷ before) run)

  -- it is ready where none is kept
  first_ready : (before : Events) (lane : ℕ) → IsRun s (Sent n o k lane ∷ before) → kept_then before ≡ None
      → is_ready_in w (share w n before) this ≡ true
  first_ready before lane run none = subst (λ (h : History). is_ready_in w h this ≡ true)
      (ap (λ (x : Option SeenJob). if is_some x then Taken o k ∷ share w n before else share w n before) none)
      (given_holds before lane run).0

  -- of two givings the first is of no job that was kept
  module _ (between first : Events) (lane again : ℕ)
      (run : IsRun s (Sent n o k again ∷ (between ++ Sent n o k lane ∷ first))) where
    abbrev before : Events
    before = between ++ Sent n o k lane ∷ first

    abbrev since_first : History
    since_first = taken w n (share w n before) o k ++ since w n between (Sent n o k lane ∷ first)

    whole : with_taken w o k (share w n before) ≡ since_first ++ Gave this ∷ with_taken w o k (share w n first)
    whole = taken_is w n (share w n before) o k
        ∙ ap (λ (h : History). taken w n (share w n before) o k ++ h)
        (since_is w n between (Sent n o k lane ∷ first)
        ∙ ap (λ (h : History). since w n between (Sent n o k lane ∷ first) ++ h) (sent_is w n o k lane first))
        ∙ sym (append_assoc (taken w n (share w n before) o k) (since w n between (Sent n o k lane ∷ first))
        (Gave this ∷ with_taken w o k (share w n first)))

    not_begun : has_begun (stage w (share w n first) this) ≡ false
    not_begun =
        let twice = given_again w o k since_first (with_taken w o k (share w n first))
        (subst (λ (h : History). IsHistory w (Gave this ∷ h)) whole (given_holds before again run)) in
        subst (λ (how : Stage). has_begun how ≡ false) (taken_same w o k (share w n first) this) twice.fresh

    first_holds : IsHistory w (share w n first)
    first_holds = holds first (run_before s between (Sent n o k lane ∷ first) run.1).1

    fresh : kept_then first ≡ None
    fresh = by (kept_then first) refl
      where
        by : (x : Option SeenJob) → kept_then first ≡ x → kept_then first ≡ None
        by None e = e
        by (Some kept) e =
            absurd (false_true (sym not_begun ∙ kept_begun w this kept (share w n first) first_holds e))

-- ---- all jobs

module _ (s : Shared) (tasks : List Task) (events : Events) (jobs : Jobs)
    (run : IsRun s events) (out : AreHandedOut s tasks events jobs) (come : ComeAsGiven events jobs) where
  module _ (n lane : ℕ) (o : Op) (k : ℕ) (task : Task) (w : Work) (later before : Events)
      (is_task : slice_get tasks n ≡ Some task) (of_plan : slice_get s.works n ≡ Some w)
      (is : events ≡ later ++ Sent n o k lane ∷ before) where
    abbrev IsFormed : Type 0
    IsFormed = WasFormed task w n before o k (jobs before).what

    run_then : (front back : Events) → events ≡ front ++ back → IsRun s back
    run_then front back e = run_before s front back (subst (IsRun s) e run)

    formed : (front past : Events) (to : ℕ) → events ≡ front ++ Sent n o k to ∷ past
        → kept_job w (share w n past) (act.Send o k) ≡ None → IsStepOf task w (share w n past) o k (jobs past).what
    formed front past to e none =
        subst (λ (x : Option SeenJob). IsKeptOrFormed x task w (share w n past) o k (jobs past))
        none (out front past n k to o e task w is_task of_plan)

    formed_at : (since past front : Events) (to : ℕ) → before ≡ since ++ past → events ≡ front ++ Sent n o k to ∷ past
        → kept_job w (share w n past) (act.Send o k) ≡ None → (jobs before).what ≡ (jobs past).what → IsFormed
    formed_at since past front to split e none same = record {
      since = since;
      first = past;
      is = split;
      ready = first_ready s w n o k of_plan past to (run_then front (Sent n o k to ∷ past) e) none;
      step = subst (λ (x : What). IsStepOf task w (share w n past) o k x) (sym same) (formed front past to e none);
    }

    -- it was given before, for the same
    record WasFirst : Type 0 where
      between : Events
      first : Events
      to_lane : ℕ
      at : before ≡ between ++ Sent n o k to_lane ∷ first
      same : (jobs before).what ≡ (jobs first).what

    its_job : (x : SeenJob) → kept_job w (share w n before) (act.Send o k) ≡ Some x → jobs before ≡ x
    its_job x f = subst (λ (y : Option SeenJob). IsKeptOrFormed y task w (share w n before) o k (jobs before)) f
        (out later before n k lane o is task w is_task of_plan)

    -- the job that came back, in the two parts of what had happened
    module _ (front back : Events) (to : ℕ) (x : SeenCarried) (split : before ≡ front ++ Back to x ∷ back)
        (was : WasGiven jobs n back x) (act_is : is_act (act.Send o k) (sent x) ≡ true)
        (same : (jobs before).what ≡ x.job.what) where
      event_is : Sent n x.job.id.op x.job.id.number was.lane ≡ Sent n o k was.lane
      event_is =
          let its = sends o k x act_is in
          ap (λ (p : Op). Sent n p x.job.id.number was.lane) its.0 ∙ ap (λ (m : ℕ). Sent n o m was.lane) its.1

      first_of : WasFirst
      first_of = record {
        between = front ++ Back to x ∷ was.since;
        first = was.first;
        to_lane = was.lane;
        at = split ∙ ap (λ (z : Events). front ++ Back to x ∷ z) was.is
            ∙ ap (λ (e : Event). front ++ Back to x ∷ (was.since ++ e ∷ was.first)) event_is
            ∙ sym (append_assoc front (Back to x ∷ was.since) (Sent n o k was.lane ∷ was.first));
        same = same ∙ was.what;
      }

    given_before : (kept : SeenJob) → kept_job w (share w n before) (act.Send o k) ≡ Some kept → WasFirst
    given_before kept e =
        let from = kept_from w (act.Send o k) kept (share w n before) e in
        let back = share_back w n before from.carried from.known in
        let split = split_of before (Back back.0 from.carried) back.1 in
        first_of split.front split.back back.0 from.carried split.is
        (come (later ++ Sent n o k lane ∷ split.front) split.back n back.0 from.carried
        (is ∙ ap (λ (z : Events). later ++ Sent n o k lane ∷ z) split.is
        ∙ sym (append_assoc later (Sent n o k lane ∷ split.front) (Back back.0 from.carried ∷ split.back))) back.2)
        from.act_is (ap (λ (j : SeenJob). j.what) (its_job kept e ∙ from.is))

    -- so it was formed then
    formed_again : WasFirst → IsFormed
    formed_again was = formed_at (was.between ++ Sent n o k was.to_lane ∷ []) was.first
        (later ++ Sent n o k lane ∷ was.between) was.to_lane
        (was.at ∙ sym (append_assoc was.between (Sent n o k was.to_lane ∷ []) was.first))
        (whole ∙ sym (append_assoc later (Sent n o k lane ∷ was.between) (Sent n o k was.to_lane ∷ was.first)))
        (fresh s w n o k of_plan was.between was.first was.to_lane lane
        (run_then later (Sent n o k lane ∷ (was.between ++ Sent n o k was.to_lane ∷ was.first)) whole))
        was.same
      where
        whole : events ≡ later ++ Sent n o k lane ∷ (was.between ++ Sent n o k was.to_lane ∷ was.first)
        whole = is ∙ ap (λ (z : Events). later ++ Sent n o k lane ∷ z) was.at

    formed_by : (x : Option SeenJob) → kept_job w (share w n before) (act.Send o k) ≡ x → IsFormed
    formed_by None e = formed_at [] before later lane refl is e refl
    formed_by (Some kept) e = formed_again (given_before kept e)

pub jobs_are_formed : JobsAreFormed
jobs_are_formed s tasks events jobs run out come later before n k lane o task w is is_task of_plan =
    formed_by s tasks events jobs run out come n lane o k task w later before is_task of_plan is
    (kept_job w (share w n before) (act.Send o k)) refl

-- ---- all dispatches

pub jobs_are_asked : JobsAreAsked
jobs_are_asked s setting planned events jobs dispatched run out come by_jobs c n lane task w later before known is_task
    of_plan is at =
    let by_job = by_jobs c n lane task w later before known is_task of_plan is at in
    let formed = jobs_are_formed s setting.tasks events jobs run out come later before n c.dispatch.job.number lane
    c.dispatch.job.op task w is is_task of_plan in
    record {
      since = formed.since;
      then = formed.first;
      is = formed.is;
      ready = formed.ready;
      for = (jobs before).what;
      step = formed.step;
      asks = by_job.asks;
      body = by_job.body;
      size = by_job.size;
      limit = by_job.limit;
    }
