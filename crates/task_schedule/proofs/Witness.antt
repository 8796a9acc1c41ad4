-- A run of one small upload meets what the law on shares takes.
use Rattle.std.proofs.Common.{◌≡◌, ◌∙◌, ◌++◌, ◌<◌, ℕ, zero, suc, Bool, true, false, List, [], ◌∷◌, Some, Contains, refl, sym, subst, ap, inl, inr, arith, slice_get}
use Rattle.std.proofs.lemmas.List.Sorted.{IsPermutation-refl}
use Rattle.std.specs.Prelude.{IsSome}
use Rattle.jobs.specs.Endings.{SeenCarried}
use Rattle.jobs.specs.Holders.{Holder}
use Rattle.jobs.specs.Jobs.{IsAskOf}
use Rattle.jobs.specs.declared.what.What.{What}
use Rattle.job_terms.specs.Dispatches.{Dispatched}
use Rattle.run_promise.specs.Schedule.{Setting}
use Rattle.job_terms.specs.Jobs.{job_of}
use Rattle.s3_model.specs.Replies.{IsSameClass}
use Rattle.s3_model.specs.declared.answers.Class.{Class}
use Rattle.s3_model.specs.declared.answers.Class.TheVariants as class
use Rattle.s3_model.specs.declared.answers.Reply.TheVariants as reply
use Rattle.s3_model.specs.declared.bytes.Part.{Part}
use Rattle.s3_model.specs.declared.outcomes.Cause.{Cause}
use Rattle.s3_model.specs.declared.outcomes.JobId.{JobId}
use Rattle.s3_model.specs.declared.outcomes.Outcome.TheVariants as outcome
use Rattle.s3_model.specs.declared.outcomes.Reason.{Reason}
use Rattle.s3_model.specs.declared.requests.Op.{Op}
use Rattle.s3_model.specs.declared.requests.Op.TheVariants as op
use Rattle.s3_model.specs.declared.tasks.Kind.TheVariants as kind
use Rattle.s3_model.specs.declared.tasks.Task.{Task}
use Rattle.task_acts.specs.declared.acts.Act.{Act}
use Rattle.task_acts.specs.declared.acts.FileCame.{FileCame}
use Rattle.task_acts.specs.declared.work.Work.{Work}
use Rattle.task_acts.specs.Ends.{outcome_of}
use Rattle.task_acts.specs.Work.{IsWorkOf}
use Rattle.shared_lemmas.proofs.Clashes.{none_is_some, some_is}
use Rattle.shared_lemmas.proofs.Lists.{head_is, no_middle, tail_is}
use Rattle.shared_lemmas.proofs.Members.{Has, contains_of, has}
use Rattle.manager_moves.proofs.ExampleRuns.{uploads_are_runs}
use Rattle.manager_moves.specs.Examples.{shared, stored, upload}
use Rattle.manager_moves.specs.Runs.{Back, Called, Event, Events, Lined, Made, Sent, Stopped, share}
use Rattle.task_progress.specs.Progress.{HasPiece}
use Rattle.kept_jobs.specs.Steps.{IsStepOf}
use Rattle.task_schedule.specs.Journals.{AreSent, ComeInOrder, IsAsked, IsBack, IsFirst, IsRunOf, IsSent, ShowOne, fails_otherwise, place_after}
use Rattle.task_schedule.specs.Witness.{RunIsMet, ShowsStored, put_back, put_run, read_run, sized_put, small_put, small_setting, small_task}

-- ---- events that differ

pub lined_sent : (n k lane : ℕ) (o : Op) → Lined ≡ Sent n o k lane → ⊥
lined_sent n k lane o e = cc

pub back_sent : (l : ℕ) (c : SeenCarried) (n k lane : ℕ) (o : Op) → Back l c ≡ Sent n o k lane → ⊥
back_sent l c n k lane o e = cc

pub called_sent : (t : ℕ) (a : Act) (r : FileCame) (n k lane : ℕ) (o : Op) → Called t a r ≡ Sent n o k lane → ⊥
called_sent t a r n k lane o e = cc

pub made_sent : (b : Bool) (n k lane : ℕ) (o : Op) → Made b ≡ Sent n o k lane → ⊥
made_sent b n k lane o e = cc

pub lined_back : (l : ℕ) (c : SeenCarried) → Lined ≡ Back l c → ⊥
lined_back l c e = cc

pub sent_back : (l : ℕ) (c : SeenCarried) (n k lane : ℕ) (o : Op) → Sent n o k lane ≡ Back l c → ⊥
sent_back l c n k lane o e = cc

pub called_back : (t : ℕ) (a : Act) (r : FileCame) (l : ℕ) (c : SeenCarried) → Called t a r ≡ Back l c → ⊥
called_back t a r l c e = cc

pub made_back : (b : Bool) (l : ℕ) (c : SeenCarried) → Made b ≡ Back l c → ⊥
made_back b l c e = cc

lined_stopped : (r : Reason) → Lined ≡ Stopped r → ⊥
lined_stopped r e = cc

pub back_stopped : (l : ℕ) (c : SeenCarried) (r : Reason) → Back l c ≡ Stopped r → ⊥
back_stopped l c r e = cc

pub sent_stopped : (n k lane : ℕ) (o : Op) (r : Reason) → Sent n o k lane ≡ Stopped r → ⊥
sent_stopped n k lane o r e = cc

pub called_stopped : (t : ℕ) (a : Act) (f : FileCame) (r : Reason) → Called t a f ≡ Stopped r → ⊥
called_stopped t a f r e = cc

pub made_stopped : (b : Bool) (r : Reason) → Made b ≡ Stopped r → ⊥
made_stopped b r e = cc

pub back_same : (l m : ℕ) (c d : SeenCarried) → Back l c ≡ Back m d → c ≡ d
back_same l m c d e = cc

pub sent_task : (n m k i lane l : ℕ) (o p : Op) → Sent n o k lane ≡ Sent m p i l → n ≡ m
sent_task n m k i lane l o p e = cc

pub sent_job : (n m k i lane l : ℕ) (o p : Op) → Sent n o k lane ≡ Sent m p i l → job_of n o k ≡ job_of m p i
sent_job n m k i lane l o p e = cc

pub only_of : (y x : Dispatched) → Contains (y ∷ []) x → y ≡ x
only_of y x known = elim (has (y ∷ []) x known) [ inl e ↦ e | inr none ↦ absurd none ]

pub only : (x : Dispatched) → Contains (small_put ∷ []) x → small_put ≡ x
only x known = only_of small_put x known

-- a Put that was given behind the Read of its file is given first
pub first_giving : (c : Dispatched) → c.dispatch.job ≡ job_of 0 op.Put 0 → c.dispatch.is_second ≡ false → c.dispatch.earlier ≡ 0 → IsFirst ShowsStored 0 read_run c
first_giving c job first none = record {
  not_second = first;
  none_earlier = none;
  none = λ lane known. by lane (subst (λ (j : JobId). Has read_run (Sent 0 j.op j.number lane)) job (has read_run (Sent 0 c.dispatch.job.op c.dispatch.job.number lane) known));
}
  where
    by : (lane : ℕ) → Has read_run (Sent 0 op.Put 0 lane) → ⊥
    by lane (inl e) = called_sent _ _ _ 0 0 lane op.Put e
    by lane (inr (inl e)) = made_sent _ 0 0 lane op.Put e
    by lane (inr (inr none)) = none

-- a Put that was sent and came back with success, whatever the event behind it, and the size that its dispatch says
module _ (for : What) (cell : Holder) (part : Part) (top : Event)
    (not_sent : (n k lane : ℕ) (o : Op) → top ≡ Sent n o k lane → ⊥)
    (not_back : (l : ℕ) (c : SeenCarried) → top ≡ Back l c → ⊥) (size : ℕ) where
  abbrev pub events : Events
  events = top ∷ put_back for cell part

  abbrev pub the_put : Dispatched
  the_put = sized_put size

  -- its Put is the one that was sent
  sent_at : (later before : Events) (n k lane : ℕ) (o : Op) → events ≡ later ++ Sent n o k lane ∷ before → (Sent 0 op.Put 0 0 ≡ Sent n o k lane) × (read_run ≡ before)
  sent_at [] before n k lane o e = absurd (not_sent n k lane o (head_is _ _ _ _ e))
  sent_at (a ∷ []) before n k lane o e = absurd (back_sent _ _ n k lane o (head_is _ _ _ _ (tail_is _ _ _ _ e)))
  sent_at (a ∷ b ∷ []) before n k lane o e = let f = tail_is _ _ _ _ (tail_is _ _ _ _ e) in (head_is _ _ _ _ f, tail_is _ _ _ _ f)
  sent_at (a ∷ b ∷ c ∷ []) before n k lane o e = absurd (called_sent _ _ _ n k lane o (head_is _ _ _ _ (tail_is _ _ _ _ (tail_is _ _ _ _ (tail_is _ _ _ _ e)))))
  sent_at (a ∷ b ∷ c ∷ d ∷ []) before n k lane o e = absurd (made_sent _ n k lane o (head_is _ _ _ _ (tail_is _ _ _ _ (tail_is _ _ _ _ (tail_is _ _ _ _ (tail_is _ _ _ _ e))))))
  sent_at (a ∷ b ∷ c ∷ d ∷ f ∷ later) before n k lane o e = absurd (no_middle later _ before (tail_is _ _ _ _ (tail_is _ _ _ _ (tail_is _ _ _ _ (tail_is _ _ _ _ (tail_is _ _ _ _ e))))))

  -- and the one that came back
  pub came_behind : (later before : Events) (l : ℕ) (x : SeenCarried) → events ≡ later ++ Back l x ∷ before → (stored for cell part 0 0 ≡ Back l x) × (Sent 0 op.Put 0 0 ∷ read_run ≡ before)
  came_behind [] before l x e = absurd (not_back l x (head_is _ _ _ _ e))
  came_behind (a ∷ []) before l x e = let f = tail_is _ _ _ _ e in (head_is _ _ _ _ f, tail_is _ _ _ _ f)
  came_behind (a ∷ b ∷ []) before l x e = absurd (sent_back l x _ _ _ _ (head_is _ _ _ _ (tail_is _ _ _ _ (tail_is _ _ _ _ e))))
  came_behind (a ∷ b ∷ c ∷ []) before l x e = absurd (called_back _ _ _ l x (head_is _ _ _ _ (tail_is _ _ _ _ (tail_is _ _ _ _ (tail_is _ _ _ _ e)))))
  came_behind (a ∷ b ∷ c ∷ d ∷ []) before l x e = absurd (made_back _ l x (head_is _ _ _ _ (tail_is _ _ _ _ (tail_is _ _ _ _ (tail_is _ _ _ _ (tail_is _ _ _ _ e))))))
  came_behind (a ∷ b ∷ c ∷ d ∷ f ∷ later) before l x e = absurd (no_middle later _ before (tail_is _ _ _ _ (tail_is _ _ _ _ (tail_is _ _ _ _ (tail_is _ _ _ _ (tail_is _ _ _ _ e))))))

  returned : IsBack ShowsStored 0 (top ∷ stored for cell part 0 0 ∷ []) (Sent 0 op.Put 0 0 ∷ read_run) the_put
  returned = record {
    newer = top ∷ [];
    between = [];
    lane = 0;
    carried = _;
    is = refl;
    of_job = refl;
    first = λ lane c known. absurd (has [] (Back lane c) known);
    came_at = refl;
    brings = record { marks = refl; ends = record { attempt = _; last = refl; bytes = []; shows = refl } };
  }

  put_sent : IsSent ShowsStored 0 events 0 the_put
  put_sent = record {
    later = top ∷ stored for cell part 0 0 ∷ [];
    before = read_run;
    lane = 0;
    is = refl;
    of_task = refl;
    given_at = refl;
    giving = inl (first_giving the_put refl refl refl);
    comes = inr returned;
  }

  pub are_sent : AreSent ShowsStored 0 events (the_put ∷ [])
  are_sent = record {
    sent = λ c n known is. subst (λ (x : Dispatched). IsSent ShowsStored 0 events n x) (only_of the_put c known)
        (subst (λ (m : ℕ). IsSent ShowsStored 0 events m the_put) (some_is 0 n (ap (λ (x : Dispatched). x.dispatch.job.task) (only_of the_put c known) ∙ is)) put_sent);
    each_sent = λ later before n k lane o is. let found = sent_at later before n k lane o is in
        (the_put, contains_of (the_put ∷ []) the_put (inl refl), sent_job 0 n 0 k 0 lane op.Put o found.0, ap (place_after 0) found.1);
    each_back = λ later before l x is. let found = came_behind later before l x is in
        (the_put, contains_of (the_put ∷ []) the_put (inl refl), ap (λ (c : SeenCarried). c.job.id) (back_same _ l _ x found.0), ap (λ (z : Events). Some (place_after 0 z)) found.1);
    in_order = λ i j d less inside. let within : j < 1 = inside in absurd (omega arith);
  }

  -- it asks as its task says where it says the task's size
  module _ (step : IsStepOf small_task upload (share upload 0 read_run) op.Put 0 for) (asks : IsAskOf (job_of 0 op.Put 0) for small_put.ask) (size_is : size ≡ 5)
      (setting : Setting) (is_small : (task : Task) → slice_get setting.tasks 0 ≡ Some task → small_task ≡ task) where
    put_asked : IsAsked setting 0 small_task upload read_run the_put
    put_asked = record { since = []; then = read_run; is = refl; ready = refl; for = for; step = step; asks = asks; body = refl; size = size_is; limit = refl }

    asked_at : (n : ℕ) (task : Task) (w : Work) → 0 ≡ n → slice_get setting.tasks n ≡ Some task → slice_get (upload ∷ []) n ≡ Some w → IsAsked setting n task w read_run the_put
    asked_at n task w same is_task is_plan =
        subst (λ (m : ℕ). slice_get setting.tasks m ≡ Some task → slice_get (upload ∷ []) m ≡ Some w → IsAsked setting m task w read_run the_put) same
        (λ t p. subst (λ (x : Task). IsAsked setting 0 x w read_run the_put) (is_small task t) (subst (λ (x : Work). IsAsked setting 0 small_task x read_run the_put) (some_is upload w p) put_asked))
        is_task is_plan

    pub asked : (c : Dispatched) (n lane : ℕ) (task : Task) (w : Work) (later before : Events) → Contains (the_put ∷ []) c → slice_get setting.tasks n ≡ Some task → slice_get (upload ∷ []) n ≡ Some w
        → events ≡ later ++ Sent n c.dispatch.job.op c.dispatch.job.number lane ∷ before → c.dispatch.given_at ≡ place_after 0 before → IsAsked setting n task w before c
    asked c n lane task w later before known is_task is_plan is given =
        let found = sent_at later before n c.dispatch.job.number lane c.dispatch.job.op is in
        subst (λ (x : Dispatched). IsAsked setting n task w before x) (only_of the_put c known)
        (subst (λ (z : Events). IsAsked setting n task w z the_put) found.1
        (asked_at n task w (sent_task 0 n 0 c.dispatch.job.number 0 lane op.Put c.dispatch.job.op found.0) is_task is_plan))

  pub ended : IsSome (outcome_of upload (share upload 0 events)) → (n k lane : ℕ) (w : Work) (o : Op) → slice_get (upload ∷ []) n ≡ Some w → Contains events (Sent n o k lane) → IsSome (outcome_of w (share w n events))
  ended whole zero k lane w o e known = subst (λ (x : Work). IsSome (outcome_of x (share x 0 events))) (some_is upload w e) whole
  ended whole (suc n) k lane w o e known = absurd (none_is_some w e)

  pub files : fails_otherwise upload (share upload 0 events) ≡ false → (n : ℕ) (w : Work) (why : Cause) → slice_get (upload ∷ []) n ≡ Some w → outcome_of w (share w n events) ≡ Some (outcome.Failed why)
      → fails_otherwise w (share w n events) ≡ true → false ≡ true
  files none zero w why e failed f = sym none ∙ subst (λ (x : Work). fails_otherwise x (share x 0 events) ≡ true) (sym (some_is upload w e)) f
  files none (suc n) w why e failed f = absurd (none_is_some w e)

-- ---- its work

piece : HasPiece upload
piece = record { some = omega arith; one = λ small. refl }

is_work : IsWorkOf small_task small_setting.config small_setting.limits upload
is_work = record {
  kind_is = refl;
  moves_is = refl;
  size_is = refl;
  small_is = refl;
  pieces = inl (omega arith, refl, refl);
  attempts_are = refl;
  replaces = refl;
}

no_removal : small_task.kind ≡ kind.RemoveObject → small_task.moves ≡ false
no_removal e = refl

abbrev pub IsOfTask : ℕ → Work → Type 0
IsOfTask n w = (task : Task) × (slice_get small_setting.tasks n ≡ Some task) × IsWorkOf task small_setting.config small_setting.limits w × HasPiece w × (task.kind ≡ kind.RemoveObject → task.moves ≡ false)

pub each_work : (n : ℕ) (w : Work) → slice_get (upload ∷ []) n ≡ Some w → IsOfTask n w
each_work zero w e = (small_task, refl, subst (IsWorkOf small_task small_setting.config small_setting.limits) (some_is upload w e) is_work, subst HasPiece (some_is upload w e) piece, no_removal)
each_work (suc n) w e = absurd (none_is_some w e)

-- ---- the run

pub one_in_order : (c : Dispatched) → ComeInOrder (c ∷ [])
one_in_order c = λ i j d less inside. let within : j < 1 = inside in absurd (omega arith)

pub is_small_task : (more : List Task) (task : Task) → slice_get (small_task ∷ more) 0 ≡ Some task → small_task ≡ task
is_small_task more task e = some_is small_task task e

module _ (for : What) (cell : Holder) (part : Part) where
  pub came_at : (later before : Events) (l : ℕ) (x : SeenCarried) → put_run for cell part ≡ later ++ Back l x ∷ before → (stored for cell part 0 0 ≡ Back l x) × (Sent 0 op.Put 0 0 ∷ read_run ≡ before)
  came_at later before l x e = came_behind for cell part Lined lined_sent lined_back 5 later before l x e

  pub not_stopped : (r : Reason) → Has (put_run for cell part) (Stopped r) → ⊥
  not_stopped r (inl e) = lined_stopped r e
  not_stopped r (inr (inl e)) = back_stopped _ _ r e
  not_stopped r (inr (inr (inl e))) = sent_stopped 0 0 0 op.Put r e
  not_stopped r (inr (inr (inr (inl e)))) = called_stopped _ _ _ r e
  not_stopped r (inr (inr (inr (inr (inl e))))) = made_stopped _ r e
  not_stopped r (inr (inr (inr (inr (inr none))))) = none

  module _ (step : IsStepOf small_task upload (share upload 0 read_run) op.Put 0 for) (asks : IsAskOf (job_of 0 op.Put 0) for small_put.ask) where
    met : IsRunOf ShowsStored (shared (upload ∷ []) 1 1 1) small_setting 0 (put_run for cell part) (small_put ∷ []) (small_put ∷ [])
    met = record {
      run = (uploads_are_runs for cell part).0;
      works = record { as_many = refl; each = each_work };
      sent = are_sent for cell part Lined lined_sent lined_back 5;
      asked = asked for cell part Lined lined_sent lined_back 5 step asks refl small_setting (is_small_task []);
      ended = ended for cell part Lined lined_sent lined_back 5 refl;
      is_coming = IsPermutation-refl (small_put ∷ []);
      in_order = one_in_order small_put;
      cancelled = λ reason known. absurd (not_stopped reason (has (put_run for cell part) (Stopped reason) known));
      cancelled_at = λ place e. absurd (none_is_some place e);
      files = files for cell part Lined lined_sent lined_back 5 refl;
    }

show_one : ShowOne ShowsStored
show_one asked limit talk one same bytes body e f =
    subst (λ (x : Class). IsSameClass x same) (sym e) (subst (λ (y : Class). IsSameClass (class.Success reply.Stored) y) (sym f) refl)

pub run_is_met : RunIsMet
run_is_met for cell part step asks = (show_one, met for cell part step asks)
