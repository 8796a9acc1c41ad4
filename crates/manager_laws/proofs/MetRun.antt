-- A manager keeps the run of one small upload to its end, which meets what the laws take.
use Rattle.std.proofs.Common.{◌≡◌, ◌∙◌, [], ◌∷◌, ℕ, List, Contains, None, refl, sym, subst, ap, arith}
use Rattle.std.proofs.lemmas.List.Sorted.{IsPermutation-refl}
use Rattle.std.specs.Arc.{arc_value}
use Rattle.std.specs.Cmp.Lexicographic.{slice_cmp}
use Rattle.std.specs.FinMap.{get-empty}
use Rattle.std.specs.Ordering.{nat_cmp}
use Rattle.std.specs.Prelude.{IsSome}
use Rattle.std.specs.declared.alloc.Global.{Global}
use Rattle.std.specs.declared.sync.Arc.{Arc}
use Rattle.answer_classes.proofs.OneShown.{one_shown}
use Rattle.answer_classes.specs.Showing.{Shows}
use Rattle.attempts.specs.Attempts.{text_of}
use Rattle.job_terms.specs.Dispatches.{Dispatched}
use Rattle.jobs.specs.Holders.{Holder}
use Rattle.jobs.specs.Jobs.{SeenJob}
use Rattle.jobs.specs.declared.what.What.{What}
use Rattle.lane_journals.proofs.Journaled.{lanes_are_journaled}
use Rattle.lane_journals.proofs.Witness.{for_each, upload_is_of_lanes}
use Rattle.lane_journals.specs.Journals.{IsOfLanes}
use Rattle.lane_journals.specs.Witness.{put_giving, put_logs}
use Rattle.lane_laws.specs.Runs.{Giving}
use Rattle.manager_moves.specs.Examples.{upload}
use Rattle.manager_moves.specs.Runs.{Events, Lined}
use Rattle.run_promise.specs.Schedule.{bytes_of}
use Rattle.run_schedule.specs.Runs.{KeepsPlanning}
use Rattle.run_schedule.specs.Witness.{notes}
use Rattle.s3_model.specs.declared.places.Endpoint.{Endpoint}
use Rattle.s3_model.specs.declared.settings.Keys.{Keys}
use Rattle.s3_model.specs.declared.tasks.Task.{Task}
use Rattle.shared_lemmas.proofs.Clashes.{false_true, none_is_some}
use Rattle.task_acts.specs.declared.work.Work.{Work}
use Rattle.task_schedule.proofs.Witness.{files, lined_back, lined_sent, one_in_order, only_of}
use Rattle.task_schedule.specs.Witness.{put_run}
use Rattle.whole_runs.proofs.Witness.{put_comes}
use Rattle.whole_runs.specs.Ended.{IsShownByLanes}
use Rattle.whole_runs.specs.Given.{IsAskedBy, Jobs}
use Rattle.whole_runs.specs.Witness.{put_job, put_jobs, put_part, put_sent, put_step}
use Rattle.manager_laws.proofs.MetKept.{are_of_manager, asks, at_end, keeps_end}
use Rattle.manager_laws.proofs.MetStates.{of_only, s}
use Rattle.manager_laws.specs.Ends.{IsRunOfManager}
use Rattle.manager_laws.specs.Witness.{ManagerRunIsMet, asks_nothing, file_setting, file_start, file_task}

module _ (path : List ℕ) (cell : Holder) (shared_task : Arc Task Global) (same : arc_value shared_task ≡ file_task path)
    (endpoint : Endpoint) (keys : Keys) where
  abbrev for : What
  for = put_step shared_task

  abbrev events : Events
  events = put_run for cell put_part

  abbrev jobs : Jobs
  jobs = put_jobs for cell put_part

  abbrev job : SeenJob
  job = put_job for cell put_part

  abbrev sent : Dispatched
  sent = put_sent endpoint keys

  is_of_lanes : IsOfLanes endpoint keys (file_setting path) [] events (put_logs endpoint keys) notes
      (put_giving endpoint keys ∷ []) (sent ∷ [])
  is_of_lanes =
      let is = upload_is_of_lanes endpoint keys for cell put_part in
      record {
        of_planning = is.of_planning;
        journal = record {
          shown = is.journal.shown;
          comes = is.journal.comes;
          lanes = is.journal.lanes;
          unused_lanes = is.journal.unused_lanes;
          nothing_else = is.journal.nothing_else;
          in_turn = is.journal.in_turn;
        };
        lanes = is.lanes;
        causes = record {
          left = is.causes.left;
          wants = is.causes.wants;
          stops = λ g known gave cut. absurd (for_each (λ (x : Giving). IsSome x.gave → ⊥)
              (put_giving endpoint keys ∷ []) (false_true, tt) g known gave);
          given_again = is.causes.given_again;
        };
        handed = is.handed;
      }

  asked : IsAskedBy (file_setting path) (file_task path) upload job sent
  asked = record {
    asks = asks path cell shared_task same;
    body = ap bytes_of (sym (get-empty (slice_cmp nat_cmp) path));
    size = refl;
    limit = refl;
  }

  shown : IsShownByLanes Shows (text_of endpoint keys) endpoint.host endpoint.port s (file_setting path) []
      events (put_logs endpoint keys) notes jobs (sent ∷ []) (sent ∷ [])
  shown = record {
    journaled = lanes_are_journaled endpoint keys (file_setting path) [] events (put_logs endpoint keys)
        notes (put_giving endpoint keys ∷ []) (sent ∷ []) is_of_lanes;
    come = put_comes for cell put_part;
    asked = λ c n lane of_task w later before known is_task of_plan is at. subst
        (λ (x : Dispatched). IsAskedBy (file_setting path) of_task w job x)
        (only_of sent c known)
        (of_only (λ (k : ℕ) (x : Task). IsAskedBy (file_setting path) x w job sent)
        (file_task path)
        (of_only (λ (k : ℕ) (v : Work). IsAskedBy (file_setting path) (file_task path) v job sent)
        upload asked n w of_plan) n of_task is_task);
    is_coming = IsPermutation-refl (sent ∷ []);
    in_order = one_in_order sent;
    cancelled_at = refl;
    files = files for cell put_part Lined lined_sent lined_back 5 refl;
  }

  met : IsRunOfManager Shows (text_of endpoint keys) endpoint.host endpoint.port (file_start path) s
      (file_setting path) events (at_end path cell shared_task same) (put_logs endpoint keys) notes jobs (sent ∷ [])
      (sent ∷ [])
  met = record {
    ended = record { running = keeps_end path cell shared_task same; is = refl };
    setting_is = record { config_is = refl; limits_are = refl; tasks_are = refl };
    jobs_are = are_of_manager path cell shared_task same;
    shown = shown;
  }

  of_a_task : (c : Dispatched) → Contains (sent ∷ []) c → c.dispatch.job.task ≡ None → ⊥
  of_a_task c known none = none_is_some 0
      (sym (ap (λ (x : Dispatched). x.dispatch.job.task) (only_of sent c known) ∙ none))

  planned : KeepsPlanning Shows (file_setting path) asks_nothing (sent ∷ [])
  planned = record {
    plans = refl;
    planned = λ c known none. absurd (of_a_task c known none);
    numbered = λ k c is. absurd (none_is_some c is);
    one_by_one = λ i j d before inside. absurd (omega arith);
    questions = λ c known none. absurd (of_a_task c known none);
    dry = λ c dry known. absurd (false_true dry);
  }

pub manager_run_is_met : ManagerRunIsMet
manager_run_is_met endpoint keys path cell shared_task same = (
  λ asked limit talk one other bytes body is also. (one_shown asked limit talk one other bytes body is also).0,
  at_end path cell shared_task same,
  met path cell shared_task same endpoint keys,
  planned path cell shared_task same endpoint keys,
)
