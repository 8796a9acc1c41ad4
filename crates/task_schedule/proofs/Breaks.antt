-- Each of these runs breaks one premise and no other.
use Rattle.std.proofs.Common.{◌≡◌, ◌≢◌, ◌∙◌, ◌++◌, ◌<◌, ℕ, zero, suc, true, false, [], ◌∷◌, Some, Contains, refl, sym, subst, ap, inl, inr, arith, slice_get}
use Rattle.std.proofs.lemmas.List.Sorted.{IsPermutation-refl, length_permutation}
use Rattle.jobs.specs.Endings.{SeenCarried}
use Rattle.jobs.specs.Holders.{Holder}
use Rattle.jobs.specs.Jobs.{IsAskOf}
use Rattle.jobs.specs.declared.what.What.{What}
use Rattle.manager_moves.specs.Examples.{put_out, shared, upload}
use Rattle.manager_moves.specs.Runs.{Back, Called, Events, Made, Sent, Stopped, share}
use Rattle.manager_moves.specs.declared.moves.Move.TheVariants as move
use Rattle.job_terms.specs.Dispatches.{Dispatched}
use Rattle.run_promise.specs.Schedule.{Setting}
use Rattle.job_terms.specs.Jobs.{job_of}
use Rattle.s3_model.specs.declared.bytes.Part.{Part}
use Rattle.s3_model.specs.declared.outcomes.Cause.{Cause}
use Rattle.s3_model.specs.declared.outcomes.Cause.TheVariants as cause
use Rattle.s3_model.specs.declared.outcomes.Outcome.TheVariants as outcome
use Rattle.s3_model.specs.declared.outcomes.Reason.{Reason}
use Rattle.s3_model.specs.declared.outcomes.Reason.TheVariants as reason_of
use Rattle.s3_model.specs.declared.requests.Op.{Op}
use Rattle.s3_model.specs.declared.requests.Op.TheVariants as op
use Rattle.s3_model.specs.declared.tasks.Task.{Task}
use Rattle.shared_lemmas.proofs.Clashes.{none_is_some, some_is}
use Rattle.shared_lemmas.proofs.Lists.{head_is, no_middle, tail_is}
use Rattle.shared_lemmas.proofs.Members.{Has, contains_of, has, has_middle}
use Rattle.task_acts.specs.declared.acts.Act.TheVariants as act
use Rattle.task_acts.specs.declared.acts.FileCame.TheVariants as file
use Rattle.task_acts.specs.declared.work.Work.{Work}
use Rattle.task_acts.specs.Ends.{outcome_of}
use Rattle.task_progress.proofs.Endings.{no}
use Rattle.kept_jobs.specs.Steps.{IsStepOf}
use Rattle.task_schedule.specs.Breaks.{BreakAlone, BreaksAlone, EachBreaksAlone, Example, Premise, PremisesAreAll, Says}
use Rattle.task_schedule.specs.Breaks.{Asks, Cancels, Coming, Ends, Failures, Jobs, Order, Place, Run, Works}
use Rattle.task_schedule.specs.Breaks.{other_size, put_still_out, told_cancel, untold_cancel, untold_failure, without_coming, without_dispatch, without_room, without_work}
use Rattle.task_schedule.specs.Journals.{AreSent, ComeInOrder, IsAsked, IsFirstCancel, IsRunOf, IsSent, KeepsSchedule, TellsWhere, fails_otherwise, place_after}
use Rattle.task_schedule.specs.Witness.{ShowsStored, open_put, put_back, put_run, read_run, sized_put, small_put, small_setting, small_task}
use Rattle.task_schedule.proofs.Witness as one

-- ---- the premises are all that the law takes

premises_are_all : (e : Example) → PremisesAreAll e
premises_are_all e = (
  λ says. record {
    run = says Run;
    works = says Works;
    sent = says Jobs;
    asked = says Asks;
    ended = says Ends;
    is_coming = says Coming;
    in_order = says Order;
    cancelled = says Cancels;
    cancelled_at = says Place;
    files = says Failures;
  },
  λ r p. each r p,
)
  where
    each : IsRunOf ShowsStored e.given e.setting 0 e.events e.dispatched e.coming → (p : Premise) → Says e p
    each r Run = r.run
    each r Works = r.works
    each r Jobs = r.sent
    each r Asks = r.asked
    each r Ends = r.ended
    each r Coming = r.is_coming
    each r Order = r.in_order
    each r Cancels = r.cancelled
    each r Place = r.cancelled_at
    each r Failures = r.files

-- ---- what clashes

end_give : move.End ≡ move.Give 0 op.Put 0 0 → ⊥
end_give e = cc

never_told : (e : Events) → TellsWhere small_setting 0 e
never_told e place told = absurd (none_is_some place told)

put_abort : op.Put ≡ op.Abort → ⊥
put_abort e = cc

stopped_sent : (n k lane : ℕ) (o : Op) → Stopped reason_of.OutputFailed ≡ Sent n o k lane → ⊥
stopped_sent n k lane o e = cc

stopped_back : (l : ℕ) (c : SeenCarried) → Stopped reason_of.OutputFailed ≡ Back l c → ⊥
stopped_back l c e = cc

output_is_no_task : reason_of.OutputFailed ≡ reason_of.TaskFailed → ⊥
output_is_no_task e = cc

one_two : ◌≡◌ {A = ℕ} 1 2 → ⊥
one_two e = omega arith

six_five : ◌≡◌ {A = ℕ} 6 5 → ⊥
six_five e = omega arith

none_in_order : ComeInOrder []
none_in_order = λ i j d less inside. let within : j < 0 = inside in absurd (omega arith)

no_jobs : (e : Events) → ((n k lane : ℕ) (o : Op) → Has e (Sent n o k lane) → ⊥)
    → ((l : ℕ) (c : SeenCarried) → Has e (Back l c) → ⊥) → AreSent ShowsStored 0 e []
no_jobs e sent back = record {
  sent = λ c n known is. absurd (has [] c known);
  each_sent = λ later before n k lane o is. absurd (sent n k lane o (subst (λ (z : Events). Has z (Sent n o k lane)) (sym is) (has_middle later (Sent n o k lane) before)));
  each_back = λ later before l c is. absurd (back l c (subst (λ (z : Events). Has z (Back l c)) (sym is) (has_middle later (Back l c) before)));
  in_order = λ i j d less inside. let within : j < 0 = inside in absurd (omega arith);
}

module _ (for : What) (cell : Holder) (part : Part) (step : IsStepOf small_task upload (share upload 0 read_run) op.Put 0 for) (asks : IsAskOf (job_of 0 op.Put 0) for small_put.ask) where
  -- it meets all of them
  met : IsRunOf ShowsStored (shared (upload ∷ []) 1 1 1) small_setting 0 (put_run for cell part) (small_put ∷ []) (small_put ∷ [])
  met = (one.run_is_met for cell part step asks).1

  asked_in : (setting : Setting) → ((task : Task) → slice_get setting.tasks 0 ≡ Some task → small_task ≡ task) → (c : Dispatched) (n lane : ℕ) (task : Task) (w : Work) (later before : Events)
      → Contains (small_put ∷ []) c → slice_get setting.tasks n ≡ Some task → slice_get (upload ∷ []) n ≡ Some w
      → put_run for cell part ≡ later ++ Sent n c.dispatch.job.op c.dispatch.job.number lane ∷ before → c.dispatch.given_at ≡ place_after 0 before → IsAsked setting n task w before c
  asked_in setting is_small = one.asked for cell part _ one.lined_sent one.lined_back 5 step asks refl setting is_small

  no_room : BreaksAlone (without_room for cell part) Run
  no_room = (each, λ run. end_give run.1.1.0)
    where
      each : (p : Premise) → p ≢ Run → Says (without_room for cell part) p
      each Run apart = absurd (apart refl)
      each Works apart = met.works
      each Jobs apart = met.sent
      each Asks apart = met.asked
      each Ends apart = met.ended
      each Coming apart = met.is_coming
      each Order apart = met.in_order
      each Cancels apart = met.cancelled
      each Place apart = met.cancelled_at
      each Failures apart = met.files

  no_work : BreaksAlone (without_work for cell part) Works
  no_work = (each, λ works. one_two works.as_many)
    where
      each : (p : Premise) → p ≢ Works → Says (without_work for cell part) p
      each Run apart = met.run
      each Works apart = absurd (apart refl)
      each Jobs apart = met.sent
      each Asks apart = asked_in (record small_setting { tasks = small_task ∷ small_task ∷ [] }) (one.is_small_task (small_task ∷ []))
      each Ends apart = met.ended
      each Coming apart = met.is_coming
      each Order apart = met.in_order
      each Cancels apart = met.cancelled
      each Place apart = met.cancelled_at
      each Failures apart = met.files

  no_dispatch : BreaksAlone (without_dispatch for cell part) Jobs
  no_dispatch = (each, λ sent. not_sent sent)
    where
      not_sent : AreSent ShowsStored 0 (put_run for cell part) [] → ⊥
      not_sent sent = let found = sent.each_sent (_ ∷ _ ∷ []) read_run 0 0 0 op.Put refl in absurd (has [] found.0 found.1)

      each : (p : Premise) → p ≢ Jobs → Says (without_dispatch for cell part) p
      each Run apart = met.run
      each Works apart = met.works
      each Jobs apart = absurd (apart refl)
      each Asks apart = λ c n lane task w later before known is_task is_plan is given. absurd (has [] c known)
      each Ends apart = met.ended
      each Coming apart = IsPermutation-refl []
      each Order apart = none_in_order
      each Cancels apart = met.cancelled
      each Place apart = met.cancelled_at
      each Failures apart = met.files

  wrong_size : BreaksAlone (other_size for cell part) Asks
  wrong_size = (each, λ asked. six_five (asked (sized_put 6) 0 0 small_task upload (_ ∷ _ ∷ []) read_run (contains_of (sized_put 6 ∷ []) (sized_put 6) (inl refl)) refl refl refl refl).size)
    where
      each : (p : Premise) → p ≢ Asks → Says (other_size for cell part) p
      each Run apart = met.run
      each Works apart = met.works
      each Jobs apart = one.are_sent for cell part _ one.lined_sent one.lined_back 6
      each Asks apart = absurd (apart refl)
      each Ends apart = met.ended
      each Coming apart = IsPermutation-refl (sized_put 6 ∷ [])
      each Order apart = one.one_in_order (sized_put 6)
      each Cancels apart = met.cancelled
      each Place apart = met.cancelled_at
      each Failures apart = met.files

  no_coming : BreaksAlone (without_coming for cell part) Coming
  no_coming = (each, λ is. fewer (length_permutation (small_put ∷ []) [] is))
    where
      fewer : ◌≡◌ {A = ℕ} 0 1 → ⊥
      fewer e = omega arith

      each : (p : Premise) → p ≢ Coming → Says (without_coming for cell part) p
      each Run apart = met.run
      each Works apart = met.works
      each Jobs apart = met.sent
      each Asks apart = met.asked
      each Ends apart = met.ended
      each Coming apart = absurd (apart refl)
      each Order apart = none_in_order
      each Cancels apart = met.cancelled
      each Place apart = met.cancelled_at
      each Failures apart = met.files

  cancel_untold : BreaksAlone (untold_cancel for cell part) Cancels
  cancel_untold = (each, λ told. no (told reason_of.OutputFailed (contains_of (Stopped reason_of.OutputFailed ∷ put_back for cell part) (Stopped reason_of.OutputFailed) (inl refl))))
    where
      each : (p : Premise) → p ≢ Cancels → Says (untold_cancel for cell part) p
      each Run apart = (output_is_no_task, met.run.1)
      each Works apart = met.works
      each Jobs apart = one.are_sent for cell part (Stopped reason_of.OutputFailed) stopped_sent stopped_back 5
      each Asks apart = one.asked for cell part (Stopped reason_of.OutputFailed) stopped_sent stopped_back 5 step asks refl small_setting (one.is_small_task [])
      each Ends apart = one.ended for cell part (Stopped reason_of.OutputFailed) stopped_sent stopped_back 5 refl
      each Coming apart = met.is_coming
      each Order apart = met.in_order
      each Cancels apart = absurd (apart refl)
      each Place apart = never_told (Stopped reason_of.OutputFailed ∷ put_back for cell part)
      each Failures apart = one.files for cell part (Stopped reason_of.OutputFailed) stopped_sent stopped_back 5 refl

  told_cancel_breaks : BreaksAlone (told_cancel for cell part) Place
  told_cancel_breaks = (each, λ told. not_there (told 0 refl))
    where
      not_there : (before : Events) × IsFirstCancel (put_run for cell part) before × (0 ≡ place_after 0 before) → ⊥
      not_there found = one.not_stopped for cell part found.1.reason
          (subst (λ (z : Events). Has z (Stopped found.1.reason)) (sym found.1.is) (has_middle found.1.later (Stopped found.1.reason) found.0))

      each : (p : Premise) → p ≢ Place → Says (told_cancel for cell part) p
      each Run apart = met.run
      each Works apart = record { as_many = refl; each = one.each_work }
      each Jobs apart = met.sent
      each Asks apart = asked_in (record small_setting { cancelled_at = Some 0 }) (one.is_small_task [])
      each Ends apart = met.ended
      each Coming apart = met.is_coming
      each Order apart = met.in_order
      each Cancels apart = λ reason known. refl
      each Place apart = absurd (apart refl)
      each Failures apart = met.files

  late : ¬ (KeepsSchedule ShowsStored (record small_setting { cancelled_at = Some 0 }) (small_put ∷ []) (small_put ∷ []))
  late keeps = put_abort (keeps.cancels small_put 0 0 (contains_of (small_put ∷ []) small_put (inl refl)) refl refl (omega arith))

  -- ---- the Put is still out

  abbrev out : Events
  out = put_out for cell part 0 0 (Made true ∷ [])

  out_sent_at : (later before : Events) (n k lane : ℕ) (o : Op) → out ≡ later ++ Sent n o k lane ∷ before → (Sent 0 op.Put 0 0 ≡ Sent n o k lane) × (read_run ≡ before)
  out_sent_at [] before n k lane o e = (head_is _ _ _ _ e, tail_is _ _ _ _ e)
  out_sent_at (a ∷ []) before n k lane o e = absurd (one.called_sent _ _ _ n k lane o (head_is _ _ _ _ (tail_is _ _ _ _ e)))
  out_sent_at (a ∷ b ∷ []) before n k lane o e = absurd (one.made_sent _ n k lane o (head_is _ _ _ _ (tail_is _ _ _ _ (tail_is _ _ _ _ e))))
  out_sent_at (a ∷ b ∷ c ∷ later) before n k lane o e = absurd (no_middle later _ before (tail_is _ _ _ _ (tail_is _ _ _ _ (tail_is _ _ _ _ e))))

  none_back : (l : ℕ) (c : SeenCarried) → Has out (Back l c) → ⊥
  none_back l c (inl e) = one.sent_back l c _ _ _ _ e
  none_back l c (inr (inl e)) = one.called_back _ _ _ l c e
  none_back l c (inr (inr (inl e))) = one.made_back _ l c e
  none_back l c (inr (inr (inr none))) = none

  none_stopped : (r : Reason) → Has out (Stopped r) → ⊥
  none_stopped r (inl e) = one.sent_stopped 0 0 0 op.Put r e
  none_stopped r (inr (inl e)) = one.called_stopped _ _ _ r e
  none_stopped r (inr (inr (inl e))) = one.made_stopped _ r e
  none_stopped r (inr (inr (inr none))) = none

  open_sent : IsSent ShowsStored 0 out 0 open_put
  open_sent = record {
    later = [];
    before = read_run;
    lane = 0;
    is = refl;
    of_task = refl;
    given_at = refl;
    giving = inl (one.first_giving open_put refl refl refl);
    comes = inl (refl, λ lane c known. absurd (has [] (Back lane c) known));
  }

  out_are_sent : AreSent ShowsStored 0 out (open_put ∷ [])
  out_are_sent = record {
    sent = λ c n known is. subst (λ (x : Dispatched). IsSent ShowsStored 0 out n x) (one.only_of open_put c known)
        (subst (λ (m : ℕ). IsSent ShowsStored 0 out m open_put) (some_is 0 n (ap (λ (x : Dispatched). x.dispatch.job.task) (one.only_of open_put c known) ∙ is)) open_sent);
    each_sent = λ later before n k lane o is. let found = out_sent_at later before n k lane o is in
        (open_put, contains_of (open_put ∷ []) open_put (inl refl), one.sent_job 0 n 0 k 0 lane op.Put o found.0, ap (place_after 0) found.1);
    each_back = λ later before l c is. absurd (none_back l c (subst (λ (z : Events). Has z (Back l c)) (sym is) (has_middle later (Back l c) before)));
    in_order = λ i j d less inside. let within : j < 1 = inside in absurd (omega arith);
  }

  open_asked : (n : ℕ) (task : Task) (w : Work) → 0 ≡ n → slice_get (small_task ∷ []) n ≡ Some task → slice_get (upload ∷ []) n ≡ Some w → IsAsked small_setting n task w read_run open_put
  open_asked n task w same is_task is_plan =
      subst (λ (m : ℕ). slice_get (small_task ∷ []) m ≡ Some task → slice_get (upload ∷ []) m ≡ Some w → IsAsked small_setting m task w read_run open_put) same
      (λ t p. subst (λ (x : Task). IsAsked small_setting 0 x w read_run open_put) (some_is small_task task t) (subst (λ (x : Work). IsAsked small_setting 0 small_task x read_run open_put) (some_is upload w p)
      (record { since = []; then = read_run; is = refl; ready = refl; for = for; step = step; asks = asks; body = refl; size = refl; limit = refl })))
      is_task is_plan

  still_out : BreaksAlone (put_still_out for cell part) Ends
  still_out = (each, λ ended. no (ended 0 0 0 upload op.Put refl (contains_of out (Sent 0 op.Put 0 0) (inl refl))))
    where
      ends_not : (n : ℕ) (w : Work) (why : Cause) → slice_get (upload ∷ []) n ≡ Some w → outcome_of w (share w n out) ≡ Some (outcome.Failed why) → fails_otherwise w (share w n out) ≡ true → false ≡ true
      ends_not zero w why e failed f = subst (λ (x : Work). fails_otherwise x (share x 0 out) ≡ true) (sym (some_is upload w e)) f
      ends_not (suc n) w why e failed f = absurd (none_is_some w e)

      each : (p : Premise) → p ≢ Ends → Says (put_still_out for cell part) p
      each Run apart = met.run.1.1
      each Works apart = met.works
      each Jobs apart = out_are_sent
      each Asks apart = λ c n lane task w later before known is_task is_plan is given.
          let found = out_sent_at later before n c.dispatch.job.number lane c.dispatch.job.op is in
          subst (λ (x : Dispatched). IsAsked small_setting n task w before x) (one.only_of open_put c known)
          (subst (λ (z : Events). IsAsked small_setting n task w z open_put) found.1
          (open_asked n task w (one.sent_task 0 n 0 c.dispatch.job.number 0 lane op.Put c.dispatch.job.op found.0) is_task is_plan))
      each Ends apart = absurd (apart refl)
      each Coming apart = IsPermutation-refl (open_put ∷ [])
      each Order apart = one.one_in_order open_put
      each Cancels apart = λ reason known. absurd (none_stopped reason (has out (Stopped reason) known))
      each Place apart = never_told out
      each Failures apart = ends_not

  -- ---- the file was too short

  abbrev short : Events
  short = Called 0 (act.Read 0) file.Short ∷ Made true ∷ []

  untold : BreaksAlone (untold_failure for cell part) Failures
  untold = (each, λ told. no (told 0 upload cause.Changed refl refl refl))
    where
      none_sent : (n k lane : ℕ) (o : Op) → Has short (Sent n o k lane) → ⊥
      none_sent n k lane o (inl e) = one.called_sent _ _ _ n k lane o e
      none_sent n k lane o (inr (inl e)) = one.made_sent _ n k lane o e
      none_sent n k lane o (inr (inr none)) = none

      none_came : (l : ℕ) (c : SeenCarried) → Has short (Back l c) → ⊥
      none_came l c (inl e) = one.called_back _ _ _ l c e
      none_came l c (inr (inl e)) = one.made_back _ l c e
      none_came l c (inr (inr none)) = none

      never : (r : Reason) → Has short (Stopped r) → ⊥
      never r (inl e) = one.called_stopped _ _ _ r e
      never r (inr (inl e)) = one.made_stopped _ r e
      never r (inr (inr none)) = none

      each : (p : Premise) → p ≢ Failures → Says (untold_failure for cell part) p
      each Run apart = ((refl, tt), met.run.1.1.1.1)
      each Works apart = met.works
      each Jobs apart = no_jobs short none_sent none_came
      each Asks apart = λ c n lane task w later before known is_task is_plan is given. absurd (has [] c known)
      each Ends apart = λ n k lane w o e known. absurd (none_sent n k lane o (has short (Sent n o k lane) known))
      each Coming apart = IsPermutation-refl []
      each Order apart = none_in_order
      each Cancels apart = λ reason known. absurd (never reason (has short (Stopped reason) known))
      each Place apart = never_told short
      each Failures apart = absurd (apart refl)

  break_alone : BreakAlone for cell part
  break_alone = record {
    run = no_room;
    works = no_work;
    jobs = no_dispatch;
    asks = wrong_size;
    ends = still_out;
    coming = no_coming;
    cancels = cancel_untold;
    place = told_cancel_breaks;
    failures = untold;
    late = late;
  }

pub each_breaks_alone : EachBreaksAlone
each_breaks_alone = (premises_are_all, λ for cell part step asks. break_alone for cell part step asks)
