-- Where a task stops: its parts are freed, and the table follows the run.
use Rattle.std.proofs.Common.{◌≡◌, ◌∙◌, ◌==◌, ◌&&◌, ◌||◌, ◌∷◌, [], ℕ, Bool, true, false, Option, Some, None}
use Rattle.std.proofs.Common.{refl, sym, subst, ap, is_some, not, slice_get, if◌then◌else◌}
use Rattle.std.specs.Option.{option_or}
use Rattle.std.proofs.lemmas.Bool.{and_parts}
use Rattle.alike_histories.proofs.Alike.{alike_says_the_same}
use Rattle.alike_histories.specs.Alike.{AreAlike}
use Rattle.kept_jobs.specs.Slots.{job_at}
use Rattle.manager_moves.proofs.CountLemmas.{no}
use Rattle.manager_moves.specs.Laws.{IsRun}
use Rattle.manager_moves.specs.Runs.{Back, Called, Events, Lined, Made, Sent, Shared, Stopped, is_task, share}
use Rattle.manager_moves.specs.Runs.{with_taken}
use Rattle.part_tables.proofs.Tables.{alike_unfreed}
use Rattle.part_tables.specs.Tables.{IsTableBut, IsTableOf, Slots, has_stopped, job_of, none_unfreed}
use Rattle.part_tables.specs.Tables.{stops_now}
use Rattle.s3_model.specs.declared.outcomes.Cause.{Cause}
use Rattle.s3_model.specs.declared.outcomes.Reason.{Reason}
use Rattle.s3_model.specs.declared.requests.Op.{Op}
use Rattle.task_acts.specs.declared.acts.Act.TheVariants as act
use Rattle.task_acts.specs.declared.work.Work.{Work}
use Rattle.task_acts.specs.Failures.{first_failure, first_reason, is_stopped}
use Rattle.task_acts.specs.Histories.{Came, Gave, History, Returned, Taken}
use Rattle.task_acts.specs.Kept.{kept_job}
use Rattle.task_core.specs.Machine.{SeenTask, Stands}
use Rattle.held_parts.specs.Held.{SeenParts}
use Rattle.manager_moves.proofs.HoldLemmas.{same_number}
use Rattle.task_acts.specs.Work.{piece_op}
use Rattle.move_laws.proofs.FreedParts.{are_with_jobs, freed_settles}
use Rattle.move_laws.specs.Calls.{IsFreedWhere}
use Rattle.move_laws.specs.Follows.{Follows, HasItsPart, cancel_of}
use Rattle.move_laws.specs.Freed.{AreWithJobs}
use Rattle.move_laws.specs.Kept.{SeenMoves}

-- ---- the cancel that a task heard of

or_none : {X : Type 0} (x : Option X) → option_or x None ≡ x
or_none None = refl
or_none (Some x) = refl

either : {X : Type 0} (b : Bool) (x y z : X) → x ≡ z → y ≡ z → (if b then x else y) ≡ z
either true x y z e f = e
either false x y z e f = f

module _ (w : Work) (n : ℕ) where
  heard_if : (b : Bool) (x h : History) → first_reason (if b then x else h) ≡ (if b then first_reason x else
      first_reason h)
  heard_if true x h = refl
  heard_if false x h = refl

  taken_hears : (o : Op) (k : ℕ) (h : History) → first_reason (with_taken w o k h) ≡ first_reason h
  taken_hears o k h =
      heard_if (is_some (kept_job w h (act.Send o k))) (Taken o k ∷ h) h
      ∙ either (is_some (kept_job w h (act.Send o k))) (option_or (first_reason h) None) (first_reason h)
      (first_reason h)
      (or_none (first_reason h)) refl

  -- a task heard of the first cancel of the run
  pub hears : (events : Events) → first_reason (share w n events) ≡ cancel_of events
  hears [] = refl
  hears (Made fits ∷ before) = hears before
  hears (Lined ∷ before) = hears before
  hears (Stopped reason ∷ before) = ap (λ (x : Option Reason). option_or x (Some reason)) (hears before)
  hears (Sent task o k lane ∷ before) =
      heard_if (task == n) (Gave (act.Send o k) ∷ with_taken w o k (share w n before)) (share w n before)
      ∙ either (task == n) (option_or (first_reason (with_taken w o k (share w n before))) None)
      (first_reason (share w n before)) (cancel_of before)
      (or_none (first_reason (with_taken w o k (share w n before))) ∙ taken_hears o k (share w n before) ∙ hears before)
      (hears before)
  hears (Back lane carried ∷ before) =
      heard_if (is_task n carried.job.id.task) (Came carried ∷ share w n before) (share w n before)
      ∙ either (is_task n carried.job.id.task) (option_or (first_reason (share w n before)) None)
      (first_reason (share w n before)) (cancel_of before)
      (or_none (first_reason (share w n before)) ∙ hears before) (hears before)
  hears (Called task called result ∷ before) =
      heard_if (task == n) (Returned called result ∷ Gave called ∷ share w n before) (share w n before)
      ∙ either (task == n) (option_or (option_or (first_reason (share w n before)) None) None)
      (first_reason (share w n before)) (cancel_of before)
      (or_none (option_or (first_reason (share w n before)) None) ∙ or_none (first_reason (share w n before))
      ∙ hears before) (hears before)

-- ---- whether a task has stopped

module _ (s : Shared) (events : Events) (m : SeenMoves) (follows : Follows s events m) (task : ℕ) (w : Work)
    (heard : History) (t : SeenTask) (stands : Stands w heard t) (alike : AreAlike w heard (share w task events)) where
  pub stopped_is : (t.causes.failing || is_some m.reason) ≡ is_stopped w (share w task events)
  stopped_is =
      ap (λ (b : Bool). b || is_some m.reason)
      (stands.failing_is ∙ ap (λ (why : Option Cause). is_some why)
      (alike_says_the_same w heard (share w task events) alike.told_are).failure)
      ∙ ap (λ (why : Option Reason). is_some (first_failure w (share w task events)) || is_some why)
      (follows.reason ∙ sym (hears w task events))

-- its parts are freed where it fails, and had not stopped
frees : (before cancelled after : Bool)
    → (not (before || cancelled) && after) ≡ ((after || cancelled) && not (before || cancelled))
frees false false false = refl
frees false false true = refl
frees false true false = refl
frees false true true = refl
frees true false false = refl
frees true false true = refl
frees true true false = refl
frees true true true = refl

never_both : (b stops : Bool) → ((b && stops) && not b) ≡ false
never_both true true = refl
never_both true false = refl
never_both false stops = refl

not_stopping : (b stops : Bool) → stops ≡ false → (b && stops) ≡ false
not_stopping true stops e = e
not_stopping false stops e = refl

not_before : (b : Bool) → not b ≡ true → b ≡ false
not_before true e = no e
not_before false e = refl

module _ (s : Shared) (events after : Events) (m : SeenMoves) (follows : Follows s events m) (task : ℕ) (w : Work)
    (run : IsRun s after) (there : slice_get s.works task ≡ Some w) (heard later : History) (t now : SeenTask)
    (stands : Stands w heard t) (alike : AreAlike w heard (share w task events))
    (stands_now : Stands w later now) (alike_now : AreAlike w later (share w task after))
    (same : is_stopped w (share w task events) ≡ false → later ≡ share w task after)
    (cancel : cancel_of after ≡ cancel_of events) where
  before_is : (t.causes.failing || is_some m.reason) ≡ is_stopped w (share w task events)
  before_is = stopped_is s events m follows task w heard t stands alike

  pub after_is : (now.causes.failing || is_some m.reason) ≡ is_stopped w (share w task after)
  after_is =
      ap (λ (b : Bool). b || is_some m.reason)
      (stands_now.failing_is ∙ ap (λ (why : Option Cause). is_some why)
      (alike_says_the_same w later (share w task after) alike_now.told_are).failure)
      ∙ ap (λ (why : Option Reason). is_some (first_failure w (share w task after)) || is_some why)
      (follows.reason ∙ sym cancel ∙ sym (hears w task after))

  -- it has stopped just now, as the code tests it
  abbrev pub stops : Bool
  stops = not (t.causes.failing || is_some m.reason) && now.causes.failing

  pub stops_is : stops ≡ stops_now w task events after
  stops_is =
      frees t.causes.failing (is_some m.reason) now.causes.failing
      ∙ ap (λ (b : Bool). b && not (t.causes.failing || is_some m.reason)) after_is
      ∙ ap (λ (b : Bool). is_stopped w (share w task after) && not b) before_is

  pub has_stopped_now : stops ≡ true → is_stopped w (share w task after) ≡ true
  has_stopped_now e =
      (and_parts (is_stopped w (share w task after)) (not (is_stopped w (share w task events))) (sym stops_is ∙ e)).0

  pub heard_all : stops ≡ true → later ≡ share w task after
  heard_all e = same (not_before (is_stopped w (share w task events))
      (and_parts (is_stopped w (share w task after)) (not (is_stopped w (share w task events))) (sym stops_is ∙ e)).1)

  -- ---- its parts

  abbrev unfreed : ℕ → Bool
  unfreed = has_stopped w task events after

  unfreed_is : stops ≡ true → unfreed task ≡ true
  unfreed_is e = ap (λ (b : Bool). b && stops_now w task events after) (same_number task) ∙ sym stops_is ∙ e

  module _ (room : ℕ) (has : (o : Op) (n : ℕ) → HasItsPart room o (job_at now.kept o n)) (slots : Slots)
      (but : IsTableBut unfreed s.works after slots) where
    kept_is : stops ≡ true → (n : ℕ)
        → job_at now.kept (piece_op w.of_kind w.small) n ≡ kept_job w (share w task after) (job_of w n)
    kept_is e n =
        stands_now.kept_are (piece_op w.of_kind w.small) n
        ∙ ap (λ (h : History). kept_job w h (job_of w n)) (heard_all e)

    -- those of its kept jobs are away with them
    pub with_jobs : (parts : SeenParts) → parts.slots ≡ slots → parts.pool.room ≡ room → stops ≡ true
        → AreWithJobs parts task now
    with_jobs parts same_slots same_room e =
        are_with_jobs s after run task w there unfreed slots but room now stands_now.work_is (kept_is e) has
        (unfreed_is e)
        parts same_slots same_room

    follows_by : (b : Bool) (new : Slots) → stops ≡ b → IsFreedWhere b task now slots new → IsTableOf s.works after new
    follows_by true new e freed =
        alike_unfreed (λ other. unfreed other && not (task == other)) none_unfreed s.works after new
        (λ other. never_both (task == other) (stops_now w task events after))
        (freed_settles s after run task w there unfreed slots but room now stands_now.work_is (kept_is e) has
        (has_stopped_now e) new freed)
    follows_by false new e freed =
        subst (λ (x : Slots). IsTableOf s.works after x) (sym freed)
        (alike_unfreed unfreed none_unfreed s.works after slots
        (λ other. not_stopping (task == other) (stops_now w task events after) (sym stops_is ∙ e)) but)

    -- the table follows the run once they are freed
    pub table_follows : (new : Slots) → IsFreedWhere stops task now slots new → IsTableOf s.works after new
    table_follows new freed = follows_by stops new refl freed
