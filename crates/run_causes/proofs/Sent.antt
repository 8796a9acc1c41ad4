-- The jobs that a run sent are those that its journal and its logs show, before anything is known of what stopped them.
use Rattle.std.proofs.Common.{append_assoc, ◌≡◌, ◌∙◌, ◌⊎◌, ◌+◌, ◌++◌, ◌<◌, ℕ, Bool, true, false, List, ◌∷◌, Option, Some, None, Contains, refl, sym, subst, ap, inl, inr, arith, length, map, slice_get}
use Rattle.std.proofs.lemmas.List.{length-append}
use Rattle.jobs.specs.Endings.{SeenCarried}
use Rattle.manager_moves.specs.Runs.{Back, Event, Events, Sent, journal_of}
use Rattle.lane_laws.specs.Runs.{IsJournal}
use Rattle.job_terms.specs.Dispatches.{Attempt, Dispatch, Dispatched, next_came, next_marks, paired, place_of}
use Rattle.run_promise.specs.Schedule.{Setting}
use Rattle.job_terms.specs.Jobs.{job_of}
use Rattle.s3_model.specs.Talks.{Note, Talk}
use Rattle.s3_model.specs.declared.answers.Class.{Class}
use Rattle.s3_model.specs.declared.outcomes.Event.{Event as Entry}
use Rattle.s3_model.specs.declared.outcomes.Event.TheVariants as entry
use Rattle.s3_model.specs.declared.outcomes.JobId.{JobId}
use Rattle.s3_model.specs.declared.requests.Ask.{Ask}
use Rattle.s3_model.specs.declared.requests.Op.{Op}
use Rattle.s3_model.specs.declared.tries.Mark.{Mark}
use Rattle.shared_lemmas.proofs.Clashes.{none_is_some, some_is}
use Rattle.shared_lemmas.proofs.Members.{Has, contains_of, has, has-append_cases, has-append_right, has-map, has_middle, place_middle, split_of}
use Rattle.task_schedule.proofs.Deciding.{makes}
use Rattle.task_schedule.proofs.Failures.{all_pairs}
use Rattle.task_schedule.specs.Journals.{AreSent, IsBack, IsFirst, IsSecond, IsSent, place_after}
use Rattle.world_laws.proofs.Given.{given_is_dispatched}
use Rattle.job_terms.proofs.SameJobs.{job_is}
use Rattle.run_schedule.proofs.Dispatches.{ComesNext, StandsAt, comes_next, given_in_turn, marks_of, stands_in}
use Rattle.run_schedule.proofs.Entries.{EventAt, back_entry, behind, entry_of, event_at, is_back, is_sent, journal_around, sent_entry}
use Rattle.run_schedule.specs.Runs.{EndAsShown, IsOfPlanning}

-- it comes so, where it comes
came_with : (x : Option (ℕ × List Mark)) (place : ℕ) → place_of x ≡ Some place → (marks : List Mark) × (x ≡ Some (place, marks))
came_with None place e = absurd (none_is_some place e)
came_with (Some came) place e = (came.1, ap Some (by came (some_is came.0 place e)))
  where
    by : (p : ℕ × List Mark) → p.0 ≡ place → p ≡ (place, p.1)
    by p f = ap (λ (n : ℕ). (n, p.1)) f

came_tries : (job other : JobId) (lane to : ℕ) (tries marks : List Mark) → Some (entry.Came job lane tries) ≡ Some (entry.Came other to marks) → tries ≡ marks
came_tries job other lane to tries marks e = cc

sent_named : (m n k lane : ℕ) (o : Op) (job : JobId) → job_of m o k ≡ job → job.task ≡ Some n → Sent m o k lane ≡ Sent n job.op job.number lane
sent_named m n k lane o job is task =
    ap (λ (i : ℕ). Sent i o k lane) (some_is m n (ap (λ (j : JobId). j.task) is ∙ task))
    ∙ ap (λ (p : Op). Sent n p k lane) (ap (λ (j : JobId). j.op) is) ∙ ap (λ (i : ℕ). Sent n job.op i lane) (ap (λ (j : JobId). j.number) is)

came_job : (job other : JobId) (lane to : ℕ) (tries marks : List Mark) → Some (entry.Came job lane tries) ≡ Some (entry.Came other to marks) → job ≡ other
came_job job other lane to tries marks e = cc

module _ (Shows : Ask → ℕ → Talk → Class → List ℕ → Type 0) (setting : Setting) (planning : List Entry) (events : Events) (logs : ℕ → List Talk) (notes : ℕ → List Note) (dispatched : List Dispatched)
    (of_planning : (event : Entry) → Contains planning event → IsOfPlanning event) (j : IsJournal setting (planning ++ journal_of events) logs notes dispatched) (ended : EndAsShown Shows (length planning) events dispatched) where
  abbrev journal : List Entry
  journal = planning ++ journal_of events

  -- ---- no job of a task is of the planning

  not_planned : (n : ℕ) (job : JobId) (lane : ℕ) → job.task ≡ Some n → Has planning (entry.Given job lane) → ⊥
  not_planned n job lane task known = none_is_some n (sym (of_planning (entry.Given job lane) (contains_of planning (entry.Given job lane) known)) ∙ task)

  -- ---- a dispatch of a task

  module _ (c : Dispatched) (n : ℕ) (known : Contains dispatched c) (task : c.dispatch.job.task ≡ Some n) where
    abbrev job : JobId
    job = c.dispatch.job

    at : StandsAt journal c.dispatch
    at = stands_in journal logs c.dispatch (subst (λ (all : List Dispatch). Has all c.dispatch) j.shown (has-map (λ (d : Dispatched). d.dispatch) dispatched c (has dispatched c known)))

    stands : (r : List Entry) × (journal_of events ≡ r ++ entry.Given c.dispatch.job c.dispatch.lane ∷ at.rest) × (at.front ≡ planning ++ r)
    stands = behind planning (journal_of events) at.front at.rest (entry.Given c.dispatch.job c.dispatch.lane) at.is (not_planned n c.dispatch.job c.dispatch.lane task)

    found : EventAt events stands.0 at.rest (entry.Given c.dispatch.job c.dispatch.lane)
    found = event_at events stands.0 at.rest (entry.Given c.dispatch.job c.dispatch.lane) stands.1

    abbrev lane : ℕ
    lane = c.dispatch.lane

    abbrev giving : Event
    giving = Sent n c.dispatch.job.op c.dispatch.job.number c.dispatch.lane

    event_is : found.event ≡ giving
    event_is =
        let sent = is_sent found.event c.dispatch.job c.dispatch.lane found.entry_is in
        sent.3 ∙ sent_named sent.0 n sent.2 c.dispatch.lane sent.1 c.dispatch.job sent.4 task

    whole : events ≡ found.later ++ giving ∷ found.before
    whole = found.is ∙ ap (λ (e : Event). found.later ++ e ∷ found.before) event_is

    given_at : c.dispatch.given_at ≡ place_after (length planning) found.before
    given_at = sym at.place ∙ ap (λ (z : List Entry). length z) stands.2 ∙ length-append planning stands.0 ∙ ap (λ (z : List Entry). length planning + length z) (sym found.behind)

    its_job : c.dispatch.job ≡ job_of n c.dispatch.job.op c.dispatch.job.number
    its_job = job_is c.dispatch.job (job_of n c.dispatch.job.op c.dispatch.job.number) task refl refl

    -- whether it was sent before
    was_sent : (to : ℕ) → Contains found.before (Sent n c.dispatch.job.op c.dispatch.job.number to) → Has at.front (entry.Given c.dispatch.job to)
    was_sent to sent =
        subst (λ (z : List Entry). Has z (entry.Given c.dispatch.job to)) (sym stands.2)
        (has-append_right planning stands.0 (entry.Given c.dispatch.job to) (subst (λ (z : List Entry). Has z (entry.Given c.dispatch.job to)) found.behind
        (subst (λ (i : JobId). Has (journal_of found.before) (entry.Given i to)) (sym its_job) (sent_entry found.before n c.dispatch.job.number to c.dispatch.job.op (has found.before _ sent)))))

    sent_in : (to : ℕ) → Has at.front (entry.Given c.dispatch.job to) → Contains found.before (Sent n c.dispatch.job.op c.dispatch.job.number to)
    sent_in to there =
        elim (has-append_cases planning stands.0 (entry.Given c.dispatch.job to) (subst (λ (z : List Entry). Has z (entry.Given c.dispatch.job to)) stands.2 there)) [
          | inl planned ↦ absurd (not_planned n c.dispatch.job to task planned)
          | inr sent ↦ in_run (subst (λ (z : List Entry). Has z (entry.Given c.dispatch.job to)) (sym found.behind) sent)
        ]
      where
        in_run : Has (journal_of found.before) (entry.Given c.dispatch.job to) → Contains found.before (Sent n c.dispatch.job.op c.dispatch.job.number to)
        in_run h =
            let split = split_of (journal_of found.before) (entry.Given c.dispatch.job to) h in
            let e = event_at found.before split.front split.back (entry.Given c.dispatch.job to) split.is in
            let sent = is_sent e.event c.dispatch.job to e.entry_is in
            let named = sent.3 ∙ sent_named sent.0 n sent.2 to sent.1 c.dispatch.job sent.4 task in
            contains_of found.before (Sent n c.dispatch.job.op c.dispatch.job.number to)
            (subst (λ (z : Events). Has z (Sent n c.dispatch.job.op c.dispatch.job.number to)) (sym e.is)
            (subst (λ (x : Event). Has (e.later ++ e.event ∷ e.before) x) named (has_middle e.later e.event e.before)))

    given_first : IsFirst Shows n found.before c ⊎ IsSecond Shows n found.before c
    given_first = by c.dispatch.is_second refl
      where
        by : (b : Bool) → c.dispatch.is_second ≡ b → IsFirst Shows n found.before c ⊎ IsSecond Shows n found.before c
        by false e = inl (record { not_second = e; none_earlier = (at.first e).0; none = λ to sent. (at.first e).1 to (was_sent to sent) })
        by true e = inr (record { second = e; lane = (at.second e).0; known = sent_in (at.second e).0 (at.second e).1 })

    -- ---- its return

    come : (place : ℕ) × (tries : List Mark) × (c.dispatch.came_at ≡ Some place)
        × (slice_get journal place ≡ Some (entry.Came c.dispatch.job c.dispatch.lane tries)) × (length tries ≡ length c.dispatch.attempts)
    come = j.comes c known

    came : (marks : List Mark) × (next_came c.dispatch.job (c.dispatch.given_at + 1) at.rest ≡ Some (come.0, marks))
    came = came_with (next_came c.dispatch.job (c.dispatch.given_at + 1) at.rest) come.0 (sym at.came_at ∙ come.2)

    next : ComesNext c.dispatch.job (c.dispatch.given_at + 1) at.rest come.0 came.0
    next = comes_next c.dispatch.job at.rest (c.dispatch.given_at + 1) come.0 came.0 came.1

    back_at : EventAt found.later next.front next.rest (entry.Came c.dispatch.job next.lane came.0)
    back_at = event_at found.later next.front next.rest (entry.Came c.dispatch.job next.lane came.0) (found.ahead ∙ next.is)

    back : (carried : SeenCarried) × (back_at.event ≡ Back next.lane carried) × (carried.job.id ≡ c.dispatch.job) × (carried.tries ≡ came.0)
    back = is_back back_at.event c.dispatch.job next.lane came.0 back_at.entry_is

    later_is : found.later ≡ back_at.later ++ Back next.lane back.0 ∷ back_at.before
    later_is = back_at.is ∙ ap (λ (e : Event). back_at.later ++ e ∷ back_at.before) back.1

    -- its marks are those that the journal says
    marks_are : map (λ (t : Attempt). t.mark) c.dispatch.attempts ≡ back.0.tries
    marks_are =
        ap (λ (ts : List Attempt). map (λ (t : Attempt). t.mark) ts) attempts_are ∙ marks_of came.0 at.talks (ap (λ (ms : List Mark). length ms) (sym same) ∙ come.4 ∙ ap (λ (ts : List Attempt). length ts) attempts_are)
        ∙ sym back.3
      where
        attempts_are : c.dispatch.attempts ≡ paired came.0 at.talks
        attempts_are = at.attempts ∙ ap (λ (x : Option (ℕ × List Mark)). paired (next_marks x) at.talks) came.1

        journal_is : journal ≡ (at.front ++ entry.Given c.dispatch.job c.dispatch.lane ∷ next.front) ++ entry.Came c.dispatch.job next.lane came.0 ∷ next.rest
        journal_is = at.is ∙ ap (λ (z : List Entry). at.front ++ entry.Given c.dispatch.job c.dispatch.lane ∷ z) next.is
            ∙ sym (append_assoc at.front (entry.Given c.dispatch.job c.dispatch.lane ∷ next.front) (entry.Came c.dispatch.job next.lane came.0 ∷ next.rest))

        place_is : length (at.front ++ entry.Given c.dispatch.job c.dispatch.lane ∷ next.front) ≡ come.0
        place_is = by (length-append at.front (entry.Given c.dispatch.job c.dispatch.lane ∷ next.front)) at.place next.place_is
          where
            by : length (at.front ++ entry.Given c.dispatch.job c.dispatch.lane ∷ next.front) ≡ length at.front + length (entry.Given c.dispatch.job c.dispatch.lane ∷ next.front)
                → length at.front ≡ c.dispatch.given_at → come.0 ≡ (c.dispatch.given_at + 1) + length next.front
                → length (at.front ++ entry.Given c.dispatch.job c.dispatch.lane ∷ next.front) ≡ come.0
            by e f g = omega arith

        same : come.1 ≡ came.0
        same = came_tries c.dispatch.job c.dispatch.job c.dispatch.lane next.lane come.1 came.0
            (sym come.3 ∙ ap (slice_get journal) (sym place_is) ∙ ap (λ (z : List Entry). slice_get z (length (at.front ++ entry.Given c.dispatch.job c.dispatch.lane ∷ next.front))) journal_is
            ∙ place_middle (at.front ++ entry.Given c.dispatch.job c.dispatch.lane ∷ next.front) (entry.Came c.dispatch.job next.lane came.0) next.rest)

    came_at_is : c.dispatch.came_at ≡ Some (place_after (length planning) (back_at.before ++ giving ∷ found.before))
    came_at_is = come.2 ∙ ap Some (by next.place_is given_at (ap (λ (z : List Entry). length z) back_at.behind) (ap (λ (z : List Entry). length z) (journal_around back_at.before found.before giving (entry.Given (job_of n c.dispatch.job.op c.dispatch.job.number) c.dispatch.lane) refl))
        (length-append (journal_of found.before) (entry.Given (job_of n c.dispatch.job.op c.dispatch.job.number) c.dispatch.lane ∷ journal_of back_at.before)))
      where
        by : come.0 ≡ (c.dispatch.given_at + 1) + length next.front → c.dispatch.given_at ≡ place_after (length planning) found.before → length (journal_of back_at.before) ≡ length next.front
            → length (journal_of (back_at.before ++ giving ∷ found.before)) ≡ length (journal_of found.before ++ entry.Given (job_of n c.dispatch.job.op c.dispatch.job.number) c.dispatch.lane ∷ journal_of back_at.before)
            → length (journal_of found.before ++ entry.Given (job_of n c.dispatch.job.op c.dispatch.job.number) c.dispatch.lane ∷ journal_of back_at.before)
            ≡ length (journal_of found.before) + length (entry.Given (job_of n c.dispatch.job.op c.dispatch.job.number) c.dispatch.lane ∷ journal_of back_at.before)
            → come.0 ≡ place_after (length planning) (back_at.before ++ giving ∷ found.before)
        by e f g h i = omega arith

    is_back_at : IsBack Shows (length planning) found.later (giving ∷ found.before) c
    is_back_at = record {
      newer = back_at.later;
      between = back_at.before;
      lane = next.lane;
      carried = back.0;
      is = later_is;
      of_job = back.2;
      first = λ to other there same. next.none to other.tries (subst (λ (z : List Entry). Has z (entry.Came c.dispatch.job to other.tries)) back_at.behind
          (subst (λ (i : JobId). Has (journal_of back_at.before) (entry.Came i to other.tries)) same (back_entry back_at.before to other (has back_at.before (Back to other) there))));
      came_at = came_at_is;
      brings = record {
        marks = marks_are;
        ends = ended back_at.later (back_at.before ++ giving ∷ found.before) next.lane back.0 c
            (whole ∙ ap (λ (z : Events). z ++ giving ∷ found.before) later_is ∙ append_assoc back_at.later (Back next.lane back.0 ∷ back_at.before) (giving ∷ found.before)) known came_at_is;
      };
    }

    is_sent_at : IsSent Shows (length planning) events n c
    is_sent_at = record {
      later = found.later;
      before = found.before;
      lane = c.dispatch.lane;
      is = whole;
      of_task = task;
      given_at = given_at;
      giving = given_first;
      comes = inr is_back_at;
    }

  -- ---- each has its dispatch

  entry_at : (later before : Events) (e : Event) (x : Entry) → events ≡ later ++ e ∷ before → entry_of e ≡ Some x → slice_get journal (place_after (length planning) before) ≡ Some x
  entry_at later before e x is entry_is =
      ap (λ (z : List Entry). slice_get z (place_after (length planning) before)) whole ∙ ap (slice_get ((planning ++ journal_of before) ++ x ∷ journal_of later)) (sym (length-append planning (journal_of before)))
      ∙ place_middle (planning ++ journal_of before) x (journal_of later)
    where
      whole : journal ≡ (planning ++ journal_of before) ++ x ∷ journal_of later
      whole = ap (λ (z : Events). planning ++ journal_of z) is ∙ ap (λ (z : List Entry). planning ++ z) (journal_around later before e x entry_is) ∙ sym (append_assoc planning (journal_of before) (x ∷ journal_of later))

  is_dispatched : (place lane : ℕ) (c : SeenCarried) → slice_get journal place ≡ Some (entry.Came c.job.id lane c.tries)
      → (d : Dispatched) × Contains dispatched d × (d.dispatch.job ≡ c.job.id) × (d.dispatch.came_at ≡ Some place)
  is_dispatched place lane c e =
      let found = j.nothing_else place lane c.job.id c.tries e in
      let come = j.comes found.0 found.1 in
      let level = some_is come.0 place (sym come.2 ∙ found.2) in
      (found.0, found.1, came_job found.0.dispatch.job c.job.id found.0.dispatch.lane lane come.1 c.tries (sym come.3 ∙ ap (slice_get journal) level ∙ e), found.2)

  pub shows_sent : AreSent Shows (length planning) events dispatched
  shows_sent = record {
    sent = λ c n known task. is_sent_at c n known task;
    each_sent = λ later before n k lane o is.
        given_is_dispatched journal logs dispatched j.shown (place_after (length planning) before) lane (job_of n o k)
        (entry_at later before (Sent n o k lane) (entry.Given (job_of n o k) lane) is refl);
    each_back = λ later before lane c is. is_dispatched (place_after (length planning) before) lane c (entry_at later before (Back lane c) (entry.Came c.job.id lane c.tries) is refl);
    in_order = all_pairs (λ (a b : Dispatched). a.dispatch.given_at < b.dispatch.given_at) dispatched
        (λ i k a b l e f. given_in_turn journal logs i k a.dispatch b.dispatch l
        (ap (λ (ds : List Dispatch). slice_get ds i) (sym j.shown) ∙ makes (λ (d : Dispatched). d.dispatch) dispatched i a e)
        (ap (λ (ds : List Dispatch). slice_get ds k) (sym j.shown) ∙ makes (λ (d : Dispatched). d.dispatch) dispatched k b f));
  }
