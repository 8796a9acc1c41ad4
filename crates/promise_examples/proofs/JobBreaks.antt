-- Runs of the small upload, and plannings in two pages, that break one clause of the schedule alone.
use Rattle.std.proofs.Common.{◌≡◌, ◌<◌, ◌≤◌, ℕ, zero, suc, true, false, List, [], ◌∷◌, Some, None, refl, ap, inl, inr, arith}
use Rattle.std.specs.Prelude.{◌≢◌, map}
use Rattle.std.proofs.lemmas.List.Sorted.{IsPermutation-append_comm, IsPermutation-refl}
use Rattle.s3_model.specs.declared.answers.Listed.{Listed}
use Rattle.s3_model.specs.declared.outcomes.Event.{Event}
use Rattle.s3_model.specs.declared.requests.Ask.{Ask}
use Rattle.s3_model.specs.declared.requests.Op.TheVariants as op
use Rattle.s3_model.specs.declared.settings.Limits.{Limits}
use Rattle.s3_model.specs.declared.tries.Mark.TheVariants as mark
use Rattle.s3_model.specs.Talks.{Talk, Note, Finished}
use Rattle.job_terms.specs.Attempts as wires
use Rattle.run_promise.specs.Carried.{IsCarried, MayStop}
use Rattle.job_terms.specs.Attempts.{in_first}
use Rattle.job_terms.specs.Dispatches.{Attempt, Dispatched, dispatches}
use Rattle.run_promise.specs.Schedule.{IsBeforeAny, Setting, gained_before, most_body}
use Rattle.shared_lemmas.proofs.Clashes.{false_true as never}
use Rattle.promise_examples.specs.GivenAgain.{bytes, put, put_job}
use Rattle.promise_examples.specs.Misfits.{bucket, key}
use Rattle.promise_examples.specs.Pages.{list_after, list_job, page_with, talk_of, token}
use Rattle.promise_examples.specs.Plannings as plannings
use Rattle.promise_examples.specs.Plannings.{PlanningsAreRefused, both_notes, talk_with_body}
use Rattle.promise_examples.specs.Reading.{Reads, signed_body}
use Rattle.promise_examples.specs.Refused as refused
use Rattle.promise_examples.specs.Refused.{JobsAreRefused, a_talk, lost_at, once, path, setting, stored_at, task}
use Rattle.promise_examples.specs.Rules.{Rule, InOrder, Asks, Plans, Planned, Numbered, OneByOne, Dry, Twice, NoThird, MayRepeat, HasFailed, JobsBreakAlone, PlanningsBreakAlone, EachJobBreaksAlone, EachPlanningBreaksAlone, IsListing}
use Rattle.promise_examples.specs.Runs.{Example}
use Rattle.promise_examples.proofs.Carrying as carrying
use Rattle.promise_examples.proofs.Concrete.{Each, Slots, at, some_is}
use Rattle.promise_examples.proofs.Noting as noting
use Rattle.promise_examples.proofs.Plannings.{each_planning}
use Rattle.promise_examples.proofs.Readings.{reads, uncertain_success}
use Rattle.promise_examples.proofs.Refuted as refuted
use Rattle.promise_examples.proofs.Repeats.{Repeats, Seconds}
use Rattle.promise_examples.proofs.Ruling as ruling
use Rattle.promise_examples.proofs.Scheduling as scheduling
use Rattle.promise_examples.proofs.SmallPut as small

-- what stands in the first lane alone
abbrev Unused : List Talk → List Note → Type 0
Unused talks notes = (lane : ℕ) → 1 ≤ lane → (in_first talks lane ≡ []) × (in_first notes lane ≡ [])

unused : (talks : List Talk) (notes : List Note) → Unused talks notes
unused talks notes lane beyond = (carrying.none_in talks lane beyond, carrying.none_in notes lane beyond)

module _ (page_of : List ℕ → Listed) where
  abbrev NoPlans : List Dispatched → Type 0
  NoPlans planning = planning ≡ []

  one_lane : (s : Setting) (coming : List Dispatched) (talks : List Talk) (notes : List Note) (jobs : List Dispatched) (lanes : ℕ) → lanes ≡ 1
      → carrying.IsLane page_of s coming (in_first talks) (in_first notes) jobs 0 → (lane : ℕ) → lane < lanes → carrying.IsLane page_of s coming (in_first talks) (in_first notes) jobs lane
  one_lane s coming talks notes jobs lanes is here zero used = here
  one_lane s coming talks notes jobs lanes is here (suc lane) used = absurd (omega arith)

  -- ---- a Put that was stored, in another setting

  abbrev well : Attempt
  well = record { mark = mark.Success; talk = stored_at 5 }

  abbrev sent : Dispatched
  sent = small.put_with (well ∷ [])

  abbrev jobs : List Dispatched
  jobs = sent ∷ []

  written : (s : Setting) → s.lanes ≡ 1 → s.config.attempts ≡ 2 → carrying.IsWritten page_of s jobs (once (mark.Success ∷ [])) (in_first (stored_at 5 ∷ [])) (in_first a_talk) jobs
  written s one two = record {
    shown = refl;
    comes = ((1, mark.Success ∷ [], refl, refl, refl), tt);
    inside = (omega arith, tt);
    unused = λ lane beyond. unused (stored_at 5 ∷ []) a_talk lane (omega arith);
    known = (tt, ((sent, at jobs 0 sent refl, refl), tt));
    lanes = one_lane s jobs (stored_at 5 ∷ []) a_talk jobs s.lanes one
        (record { in_turn = (tt, tt); gained = refl; noted = noting.first page_of _ 5 [] [] refl (refl, refl, refl) (noting.done page_of) });
    marks = ((refl, tt), tt);
    again = (((λ more. absurd (omega arith)), tt), tt);
    given_again = (tt, tt);
    at_most = (omega arith, tt);
    ends = ((λ goes. absurd (never goes)), tt);
  }

  carries : (s : Setting) → s.lanes ≡ 1 → s.config.attempts ≡ 2 → IsCarried (Reads page_of) signed_body [] 80 s (once (mark.Success ∷ [])) (in_first (stored_at 5 ∷ [])) (in_first a_talk) jobs jobs
  carries s one two = carrying.carried page_of s jobs (once (mark.Success ∷ [])) (in_first (stored_at 5 ∷ [])) (in_first a_talk) jobs (written s one two)

  dry_put : ruling.Parts page_of NoPlans refused.dry_put jobs jobs Dry
  dry_put = record {
    is_coming = λ other. IsPermutation-refl jobs;
    in_order = λ other. (tt, tt);
    asks = λ other. ((task, 2, 1, refl, inl (omega arith, refl, refl), refl, refl, small.asks bucket key path (gained_before (Reads page_of) jobs 0)), tt);
    plans = λ other. refl;
    planned = λ other. (tt, tt);
    numbered = λ other. tt;
    one_by_one = λ other. tt;
    dry = λ other. absurd (other refl);
    twice = λ other. (tt, tt);
    no_third = λ other. (omega arith, tt);
    stops = λ other. ruling.none_stops page_of NoPlans refused.dry_put jobs jobs (inr (inl (refl, λ shown b shows. tt)), tt);
    abort_last = λ other. ruling.no_abort_last page_of NoPlans refused.dry_put jobs jobs (refl, tt);
    aborts = λ other. ruling.none_created page_of NoPlans refused.dry_put jobs jobs (refl, tt);
    completed_stays = λ other. ruling.none_completed page_of NoPlans refused.dry_put jobs jobs (refl, tt);
    moves_last = λ other. ruling.none_deletes page_of NoPlans refused.dry_put jobs jobs (refl, tt);
  }

  -- a Put that is not what the plan says
  unplanned : (s : Setting) → s.dryrun ≡ false → ruling.Parts page_of NoPlans (refused.with_setting s refused.whole_run) jobs jobs Asks
  unplanned s carried_out = record {
    is_coming = λ other. IsPermutation-refl jobs;
    in_order = λ other. (tt, tt);
    asks = λ other. absurd (other refl);
    plans = λ other. refl;
    planned = λ other. (tt, tt);
    numbered = λ other. tt;
    one_by_one = λ other. tt;
    dry = λ other. carried_out;
    twice = λ other. (tt, tt);
    no_third = λ other. (omega arith, tt);
    stops = λ other. ruling.none_stops page_of NoPlans (refused.with_setting s refused.whole_run) jobs jobs (inr (inl (refl, λ shown b shows. tt)), tt);
    abort_last = λ other. ruling.no_abort_last page_of NoPlans (refused.with_setting s refused.whole_run) jobs jobs (refl, tt);
    aborts = λ other. ruling.none_created page_of NoPlans (refused.with_setting s refused.whole_run) jobs jobs (refl, tt);
    completed_stays = λ other. ruling.none_completed page_of NoPlans (refused.with_setting s refused.whole_run) jobs jobs (refl, tt);
    moves_last = λ other. ruling.none_deletes page_of NoPlans (refused.with_setting s refused.whole_run) jobs jobs (refl, tt);
  }

  -- ---- a Put that is given more than once

  abbrev put_again : (given came earlier : ℕ) → List Attempt → Dispatched
  put_again given came earlier attempts = record {
    dispatch = record { job = put_job; lane = 0; given_at = given; came_at = Some came; earlier = earlier; is_second = true; attempts = attempts };
    ask = put bucket key path;
    body = bytes;
    limit = most_body;
    size = 2;
  }

  abbrev lost : Dispatched
  lost = small.put_with (record { mark = mark.Uncertain; talk = lost_at 5 } ∷ [])

  abbrev put_stored : Attempt
  put_stored = record { mark = mark.Success; talk = stored_at 6 }

  abbrev stored_late : (given came : ℕ) → Dispatched
  stored_late given came = put_again given came 1 (put_stored ∷ [])

  abbrev silent : Dispatched
  silent = put_again 2 3 1 []

  abbrev three : List Dispatched
  three = lost ∷ silent ∷ stored_late 4 5 ∷ []

  abbrev two : List Dispatched
  two = lost ∷ stored_late 2 3 ∷ []

  lost_is_cut : MayStop (Reads page_of) signed_body [] 80 setting three lost
  lost_is_cut = (refl, scheduling.other_op op.Put op.Abort refl, inl ([], silent ∷ stored_late 4 5 ∷ [], refl, inl (silent, at (silent ∷ stored_late 4 5 ∷ []) 0 silent refl, refl)))

  silent_is_cut : MayStop (Reads page_of) signed_body [] 80 setting three silent
  silent_is_cut = (refl, scheduling.other_op op.Put op.Abort refl, inl (lost ∷ [], stored_late 4 5 ∷ [], refl, inl (stored_late 4 5, at (stored_late 4 5 ∷ []) 0 (stored_late 4 5) refl, refl)))

  third_written : carrying.IsWritten page_of setting three refused.third_giving.journal refused.third_giving.logs refused.third_giving.notes three
  third_written = record {
    shown = refl;
    comes = ((1, mark.Uncertain ∷ [], refl, refl, refl), ((3, [], refl, refl, refl), ((5, mark.Success ∷ [], refl, refl, refl), tt)));
    inside = (omega arith, (omega arith, (omega arith, tt)));
    unused = λ lane beyond. unused _ _ lane beyond;
    known = (tt, ((lost, at three 0 lost refl, refl), (tt, ((silent, at three 1 silent refl, refl), (tt, ((stored_late 4 5, at three 2 (stored_late 4 5) refl, refl), tt))))));
    lanes = one_lane setting three _ _ three 1 refl (record {
      in_turn = (
        ((λ place come. let is : 3 ≡ place = some_is 3 place come in omega arith), ((λ place come. let is : 5 ≡ place = some_is 5 place come in omega arith), tt)),
        (((λ place come. let is : 5 ≡ place = some_is 5 place come in omega arith), tt), (tt, tt)),
      );
      gained = refl;
      noted = noting.first page_of _ 5 (noting.nth 2 (stored_late 4 5) put_stored ∷ []) _ refl (refl, refl, refl) (noting.second page_of (noting.nth 2 (stored_late 4 5) put_stored) 6 [] [] refl (refl, refl, refl) (noting.done page_of));
    });
    marks = ((refl, tt), (tt, ((refl, tt), tt)));
    again = (((λ more. absurd (omega arith)), tt), (tt, (((λ more. absurd (omega arith)), tt), tt)));
    given_again = (((refl, omega arith), ((refl, omega arith), tt)), (((tt, omega arith), tt), (tt, tt)));
    at_most = (omega arith, (omega arith, (omega arith, tt)));
    ends = ((λ goes. inr (inr lost_is_cut)), (inr silent_is_cut, ((λ goes. absurd (never goes)), tt)));
  }

  three_settled : ruling.CutOrWell page_of NoPlans refused.third_giving three three
  three_settled = (
    inl (inl (silent, at (silent ∷ stored_late 4 5 ∷ []) 0 silent refl, refl)),
    (inl (inl (stored_late 4 5, at (stored_late 4 5 ∷ []) 0 (stored_late 4 5) refl, refl)), (inr (inl (refl, λ shown b shows. tt)), tt)),
  )

  third_giving : ruling.Parts page_of NoPlans refused.third_giving three three NoThird
  third_giving = record {
    is_coming = λ other. IsPermutation-refl three;
    in_order = λ other. ((omega arith, (omega arith, tt)), ((omega arith, tt), (tt, tt)));
    asks = λ other. (
      (task, 2, 1, refl, inl (omega arith, refl, refl), refl, refl, small.asks bucket key path (gained_before (Reads page_of) three 0)),
      (
        (task, 2, 1, refl, inl (omega arith, refl, refl), refl, refl, small.asks bucket key path (gained_before (Reads page_of) three 2)),
        ((task, 2, 1, refl, inl (omega arith, refl, refl), refl, refl, small.asks bucket key path (gained_before (Reads page_of) three 4)), tt),
      ),
    );
    plans = λ other. refl;
    planned = λ other. (tt, (tt, (tt, tt)));
    numbered = λ other. tt;
    one_by_one = λ other. tt;
    dry = λ other. refl;
    twice = λ other. (
      ((omega arith, uncertain_success, tt, no_failure 1, refl, not_abort), ((omega arith, uncertain_success, tt, no_failure 1, refl, not_abort), tt)),
      (((omega arith, (λ success. success), tt, no_failure 3, refl, not_abort), tt), (tt, tt)),
    );
    no_third = λ other. absurd (other refl);
    stops = λ other. ruling.none_stops page_of NoPlans refused.third_giving three three three_settled;
    abort_last = λ other. ruling.no_abort_last page_of NoPlans refused.third_giving three three (refl, (refl, (refl, tt)));
    aborts = λ other. ruling.none_created page_of NoPlans refused.third_giving three three (refl, (refl, (refl, tt)));
    completed_stays = λ other. ruling.none_completed page_of NoPlans refused.third_giving three three (refl, (refl, (refl, tt)));
    moves_last = λ other. ruling.none_deletes page_of NoPlans refused.third_giving three three (refl, (refl, (refl, tt)));
  }
    where
      no_failure : (place : ℕ) (failed : Dispatched) → HasFailed page_of NoPlans refused.third_giving three three failed → failed.dispatch.job.task ≡ Some 0 → IsBeforeAny (Some place) failed.dispatch.came_at
      no_failure place failed is_failed same = absurd (ruling.none_failed page_of NoPlans refused.third_giving three three three_settled failed is_failed)

      not_abort : op.Put ≡ op.Abort → ⊥
      not_abort = scheduling.other_op op.Put op.Abort refl

  -- ---- a Put that is given again after a cancel

  cut_before_cancel : MayStop (Reads page_of) signed_body [] 80 refused.again_after_cancel.setting two lost
  cut_before_cancel = (refl, scheduling.other_op op.Put op.Abort refl, inl ([], stored_late 2 3 ∷ [], refl, inl (stored_late 2 3, at (stored_late 2 3 ∷ []) 0 (stored_late 2 3) refl, refl)))

  cancel_written : carrying.IsWritten page_of refused.again_after_cancel.setting two refused.again_after_cancel.journal refused.again_after_cancel.logs refused.again_after_cancel.notes two
  cancel_written = record {
    shown = refl;
    comes = ((1, mark.Uncertain ∷ [], refl, refl, refl), ((3, mark.Success ∷ [], refl, refl, refl), tt));
    inside = (omega arith, (omega arith, tt));
    unused = λ lane beyond. unused _ _ lane beyond;
    known = (tt, ((lost, at two 0 lost refl, refl), (tt, ((stored_late 2 3, at two 1 (stored_late 2 3) refl, refl), tt))));
    lanes = one_lane refused.again_after_cancel.setting two _ _ two 1 refl (record {
      in_turn = (((λ place come. let is : 3 ≡ place = some_is 3 place come in omega arith), tt), (tt, tt));
      gained = refl;
      noted = noting.first page_of _ 5 (noting.nth 2 (stored_late 2 3) put_stored ∷ []) _ refl (refl, refl, refl) (noting.second page_of (noting.nth 2 (stored_late 2 3) put_stored) 6 [] [] refl (refl, refl, refl) (noting.done page_of));
    });
    marks = ((refl, tt), ((refl, tt), tt));
    again = (((λ more. absurd (omega arith)), tt), (((λ more. absurd (omega arith)), tt), tt));
    given_again = (((refl, omega arith), tt), (tt, tt));
    at_most = (omega arith, (omega arith, tt));
    ends = ((λ goes. inr (inr cut_before_cancel)), ((λ goes. absurd (never goes)), tt));
  }

  again_after_cancel : ruling.Parts page_of NoPlans refused.again_after_cancel two two Twice
  again_after_cancel = record {
    is_coming = λ other. IsPermutation-refl two;
    in_order = λ other. ((omega arith, tt), (tt, tt));
    asks = λ other. (
      (task, 2, 1, refl, inl (omega arith, refl, refl), refl, refl, small.asks bucket key path (gained_before (Reads page_of) two 0)),
      ((task, 2, 1, refl, inl (omega arith, refl, refl), refl, refl, small.asks bucket key path (gained_before (Reads page_of) two 2)), tt),
    );
    plans = λ other. refl;
    planned = λ other. (tt, (tt, tt));
    numbered = λ other. tt;
    one_by_one = λ other. tt;
    dry = λ other. refl;
    twice = λ other. absurd (other refl);
    no_third = λ other. (omega arith, (omega arith, tt));
    stops = λ other. ruling.none_stops page_of NoPlans refused.again_after_cancel two two (inl (inl (stored_late 2 3, at (stored_late 2 3 ∷ []) 0 (stored_late 2 3) refl, refl)), (inr (inl (refl, λ shown b shows. tt)), tt));
    abort_last = λ other. ruling.no_abort_last page_of NoPlans refused.again_after_cancel two two (refl, (refl, tt));
    aborts = λ other. ruling.none_created page_of NoPlans refused.again_after_cancel two two (refl, (refl, tt));
    completed_stays = λ other. ruling.none_completed page_of NoPlans refused.again_after_cancel two two (refl, (refl, tt));
    moves_last = λ other. ruling.none_deletes page_of NoPlans refused.again_after_cancel two two (refl, (refl, tt));
  }

  -- ---- a planning job that is not needed

  abbrev needless : Dispatched
  needless = record {
    dispatch = record {
      job = record { task = None; op = op.List; number = 0 };
      lane = 0;
      given_at = 0;
      came_at = Some 1;
      earlier = 0;
      is_second = false;
      attempts = record { mark = mark.Success; talk = record { host = []; port = 80; sent = 5 ∷ []; got = []; ending = Finished } } ∷ [];
    };
    ask = list_after None;
    body = [];
    limit = most_body;
    size = 0;
  }

  abbrev lists : List Dispatched
  lists = needless ∷ []

  needless_written : carrying.IsWritten page_of setting lists refused.needless_list.journal refused.needless_list.logs refused.needless_list.notes lists
  needless_written = record {
    shown = refl;
    comes = ((1, mark.Success ∷ [], refl, refl, refl), tt);
    inside = (omega arith, tt);
    unused = λ lane beyond. unused _ _ lane beyond;
    known = (tt, ((needless, at lists 0 needless refl, refl), tt));
    lanes = one_lane setting lists _ _ lists 1 refl (record { in_turn = (tt, tt); gained = refl; noted = noting.first page_of _ 5 [] [] refl (refl, refl, refl) (noting.done page_of) });
    marks = ((refl, tt), tt);
    again = (((λ more. absurd (omega arith)), tt), tt);
    given_again = (tt, tt);
    at_most = (omega arith, tt);
    ends = ((λ goes. absurd (never goes)), tt);
  }

  needless_list : ruling.Parts page_of NoPlans refused.needless_list lists lists Plans
  needless_list = record {
    is_coming = λ other. IsPermutation-refl lists;
    in_order = λ other. (tt, tt);
    asks = λ other. (tt, tt);
    plans = λ other. absurd (other refl);
    planned = λ other. ((refl, refl), tt);
    numbered = λ other. ((refl, refl), tt);
    one_by_one = λ other. (tt, tt);
    dry = λ other. refl;
    twice = λ other. (tt, tt);
    no_third = λ other. (omega arith, tt);
    stops = λ other. ruling.none_stops page_of NoPlans refused.needless_list lists lists (inr (inl (refl, λ shown b shows. tt)), tt);
    abort_last = λ other. ruling.no_abort_last page_of NoPlans refused.needless_list lists lists (refl, tt);
    aborts = λ other. ruling.none_created page_of NoPlans refused.needless_list lists lists (refl, tt);
    completed_stays = λ other. ruling.none_completed page_of NoPlans refused.needless_list lists lists (refl, tt);
    moves_last = λ other. ruling.none_deletes page_of NoPlans refused.needless_list lists lists (refl, tt);
  }

  abbrev refusals : JobsAreRefused page_of
  refusals = refuted.jobs page_of

  job_breaks : JobsBreakAlone page_of
  job_breaks = record {
    all_rules = ruling.rules_are_all page_of NoPlans;
    third_giving = ruling.alone page_of NoPlans refused.third_giving three three NoThird refusals.third_giving (carrying.carried page_of setting three _ _ _ three third_written) third_giving;
    again_after_cancel = ruling.alone page_of NoPlans refused.again_after_cancel two two Twice refusals.again_after_cancel (carrying.carried page_of refused.again_after_cancel.setting two _ _ _ two cancel_written) again_after_cancel;
    dry_put = ruling.alone page_of NoPlans refused.dry_put jobs jobs Dry refusals.dry_put (carries refused.dry_put.setting refl refl) dry_put;
    at_threshold = ruling.alone page_of NoPlans refused.at_threshold jobs jobs Asks refusals.at_threshold (carries refused.at_threshold.setting refl refl) (unplanned refused.at_threshold.setting refl);
    no_such_task = ruling.alone page_of NoPlans refused.no_such_task jobs jobs Asks refusals.no_such_task (carries refused.no_such_task.setting refl refl) (unplanned refused.no_such_task.setting refl);
    needless_list = ruling.alone page_of NoPlans refused.needless_list lists lists Plans refusals.needless_list (carrying.carried page_of setting lists _ _ _ lists needless_written) needless_list;
  }

-- ---- plannings in two pages

module _ (limits : Limits) (spare : ℕ) where
  abbrev Needed : List Dispatched → Type 0
  Needed = IsListing spare

  abbrev page_of : List ℕ → Listed
  page_of = page_with spare

  abbrev s : Setting
  s = plannings.setting limits

  abbrev page : (number lane given came : ℕ) → Talk → Ask → List ℕ → Dispatched
  page number lane given came talk asked body = record {
    dispatch = record { job = list_job number; lane = lane; given_at = given; came_at = Some came; earlier = 0; is_second = false; attempts = record { mark = mark.Success; talk = talk } ∷ [] };
    ask = asked;
    body = body;
    limit = most_body;
    size = 0;
  }

  abbrev first : (came : ℕ) → Dispatched
  first came = page 0 0 0 came (talk_of 5 token) (list_after None) []

  abbrev answer : List ℕ → Talk
  answer text = record { host = []; port = 80; sent = text; got = []; ending = Finished }

  abbrev last : (number lane given : ℕ) → List ℕ → List ℕ → Dispatched
  last number lane given text body = page number lane given 3 (answer text) (list_after (Some token)) body

  abbrev both : (came number lane given : ℕ) → List ℕ → List ℕ → List Dispatched
  both came number lane given text body = first came ∷ last number lane given text body ∷ []

  are_needed : (came number lane given : ℕ) (text body : List ℕ) → Needed (both came number lane given text body)
  are_needed came number lane given text body = (
    refl,
    inl (
      page_with spare token,
      (refl, [], reads page_of (list_after None) most_body (talk_of 5 token)),
      inr (inl (
        (λ refused. refused),
        refl,
        (refl, inl (page_with spare [], (refl, [], reads page_of (list_after (Some token)) most_body (answer text)), inr (inr ((λ refused. refused), refl, (refl, inl refl))))),
      )),
    ),
  )

  well_listed : (came number lane given : ℕ) (text body : List ℕ) (e : Example) → ruling.CutOrWell page_of Needed e (both came number lane given text body) (both came number lane given text body)
  well_listed came number lane given text body e = (inr (inl (refl, λ shown b shows. tt)), (inr (inl (refl, λ shown b shows. tt)), tt))

  -- two pages, of which the first came before the last
  module _ (e : Example) (carried_out : e.setting.dryrun ≡ false) (came number lane given : ℕ) (text body : List ℕ) (in_order : came < 3) where
    abbrev pages : List Dispatched
    pages = both came number lane given text body

    settled : ruling.CutOrWell page_of Needed e pages pages
    settled = well_listed came number lane given text body e

    parts : (broken : Rule) → (Planned ≢ broken → body ≡ []) → (Numbered ≢ broken → (number ≡ 1) × (lane ≡ 0)) → (OneByOne ≢ broken → came < given) → Repeats (MayRepeat page_of Needed e pages pages) pages → Seconds pages
        → ruling.Parts page_of Needed e pages pages broken
    parts broken no_body numbers after once_each no_third = record {
      is_coming = λ other. IsPermutation-refl pages;
      in_order = λ other. ((in_order, tt), (tt, tt));
      asks = λ other. (tt, (tt, tt));
      plans = λ other. are_needed came number lane given text body;
      planned = λ other. ((refl, refl), ((refl, no_body other), tt));
      numbered = λ other. let is = numbers other in ((refl, refl), ((ap list_job is.0, is.1), tt));
      one_by_one = λ other. ((after other, tt), (tt, tt));
      dry = λ other. carried_out;
      twice = λ other. once_each;
      no_third = λ other. no_third;
      stops = λ other. ruling.none_stops page_of Needed e pages pages settled;
      abort_last = λ other. ruling.no_abort_last page_of Needed e pages pages (refl, (refl, tt));
      aborts = λ other. ruling.none_created page_of Needed e pages pages (refl, (refl, tt));
      completed_stays = λ other. ruling.none_completed page_of Needed e pages pages (refl, (refl, tt));
      moves_last = λ other. ruling.none_deletes page_of Needed e pages pages (refl, (refl, tt));
    }

  -- ---- their wires

  -- both in the first lane, with that body
  module _ (came number given : ℕ) (journal : List Event) (body : List ℕ) where
    abbrev here : List Dispatched
    here = both came number 0 given (6 ∷ body) body

    abbrev last_page : wires.Numbered
    last_page = noting.nth 1 (last number 0 given (6 ∷ body) body) (record { mark = mark.Success; talk = answer (6 ∷ body) })

    -- read in that order
    module _ (coming : List Dispatched) where
      in_first_lane : came < 3 → carrying.IsLane page_of s coming (in_first (talk_of 5 token ∷ answer (6 ∷ body) ∷ [])) (in_first both_notes) here 0
      in_first_lane before = record {
        in_turn = (((λ place come. let is : 3 ≡ place = some_is 3 place come in omega arith), tt), (tt, tt));
        gained = refl;
        noted = noting.first page_of _ 5 (last_page ∷ []) _ refl (refl, refl, refl) (noting.first page_of last_page 6 [] [] refl (refl, refl, refl) (noting.done page_of));
      }

      written_here : came < 3 → map (λ (c : Dispatched). c.dispatch) here ≡ dispatches journal (in_first (talk_of 5 token ∷ answer (6 ∷ body) ∷ []))
          → Each (carrying.ComesOf page_of s coming here journal) here → Slots (carrying.IsKnown page_of s coming here) journal → Repeats (λ (a b : Dispatched). carrying.GoesFurther page_of s coming a) here
          → carrying.IsWritten page_of s coming journal (in_first (talk_of 5 token ∷ answer (6 ∷ body) ∷ [])) (in_first both_notes) here
      written_here before shown comes known once_each = record {
        shown = shown;
        comes = comes;
        inside = (omega arith, (omega arith, tt));
        unused = λ lane beyond. unused _ _ lane beyond;
        known = known;
        lanes = one_lane page_of s coming _ _ here 1 refl (in_first_lane before);
        marks = ((refl, tt), ((refl, tt), tt));
        again = (((λ more. absurd (omega arith)), tt), (((λ more. absurd (omega arith)), tt), tt));
        given_again = once_each;
        at_most = (omega arith, (omega arith, tt));
        ends = ((λ goes. absurd (never goes)), ((λ goes. absurd (never goes)), tt));
      }

  abbrev early : List Dispatched
  early = here 2 1 1 (plannings.early_page limits).journal []

  early_written : carrying.IsWritten page_of s early (plannings.early_page limits).journal (plannings.early_page limits).logs (plannings.early_page limits).notes early
  early_written = written_here 2 1 1 (plannings.early_page limits).journal [] early (omega arith) refl ((2, mark.Success ∷ [], refl, refl, refl), ((3, mark.Success ∷ [], refl, refl, refl), tt))
      (tt, (tt, ((first 2, at early 0 (first 2) refl, refl), ((last 1 0 1 (6 ∷ []) [], at early 1 (last 1 0 1 (6 ∷ []) []) refl, refl), tt)))) (tt, (tt, tt))

  abbrev skipped : List Dispatched
  skipped = here 1 2 2 (plannings.skipped_number limits).journal []

  skipped_written : carrying.IsWritten page_of s skipped (plannings.skipped_number limits).journal (plannings.skipped_number limits).logs (plannings.skipped_number limits).notes skipped
  skipped_written = written_here 1 2 2 (plannings.skipped_number limits).journal [] skipped (omega arith) refl ((1, mark.Success ∷ [], refl, refl, refl), ((3, mark.Success ∷ [], refl, refl, refl), tt))
      (tt, ((first 1, at skipped 0 (first 1) refl, refl), (tt, ((last 2 0 2 (6 ∷ []) [], at skipped 1 (last 2 0 2 (6 ∷ []) []) refl, refl), tt)))) (tt, (tt, tt))

  abbrev bodied : List Dispatched
  bodied = here 1 1 2 (plannings.page_with_body limits).journal (1 ∷ [])

  bodied_written : carrying.IsWritten page_of s bodied (plannings.page_with_body limits).journal (plannings.page_with_body limits).logs (plannings.page_with_body limits).notes bodied
  bodied_written = written_here 1 1 2 (plannings.page_with_body limits).journal (1 ∷ []) bodied (omega arith) refl ((1, mark.Success ∷ [], refl, refl, refl), ((3, mark.Success ∷ [], refl, refl, refl), tt))
      (tt, ((first 1, at bodied 0 (first 1) refl, refl), (tt, ((last 1 0 2 (6 ∷ 1 ∷ []) (1 ∷ []), at bodied 1 (last 1 0 2 (6 ∷ 1 ∷ []) (1 ∷ [])) refl, refl), tt)))) (tt, (tt, tt))

  -- both pages, read in the other order
  abbrev whole : List Dispatched
  whole = here 1 1 2 (plannings.both_pages limits).journal []

  abbrev turned : List Dispatched
  turned = last 1 0 2 (6 ∷ []) [] ∷ first 1 ∷ []

  turned_written : carrying.IsWritten page_of s turned (plannings.both_pages limits).journal (plannings.both_pages limits).logs (plannings.both_pages limits).notes whole
  turned_written = written_here 1 1 2 (plannings.both_pages limits).journal [] turned (omega arith) refl ((1, mark.Success ∷ [], refl, refl, refl), ((3, mark.Success ∷ [], refl, refl, refl), tt))
      (tt, ((first 1, at whole 0 (first 1) refl, refl), (tt, ((last 1 0 2 (6 ∷ []) [], at whole 1 (last 1 0 2 (6 ∷ []) []) refl, refl), tt)))) (tt, (tt, tt))

  turned_parts : ruling.Parts page_of Needed (plannings.both_pages limits) whole turned InOrder
  turned_parts = record {
    is_coming = λ other. IsPermutation-append_comm (first 1 ∷ []) (last 1 0 2 (6 ∷ []) [] ∷ []);
    in_order = λ other. absurd (other refl);
    asks = λ other. (tt, (tt, tt));
    plans = λ other. are_needed 1 1 0 2 (6 ∷ []) [];
    planned = λ other. ((refl, refl), ((refl, refl), tt));
    numbered = λ other. ((refl, refl), ((refl, refl), tt));
    one_by_one = λ other. ((omega arith, tt), (tt, tt));
    dry = λ other. refl;
    twice = λ other. (tt, (tt, tt));
    no_third = λ other. (omega arith, (omega arith, tt));
    stops = λ other. ruling.none_stops page_of Needed (plannings.both_pages limits) whole turned (inr (inl (refl, λ shown b shows. tt)), (inr (inl (refl, λ shown b shows. tt)), tt));
    abort_last = λ other. ruling.no_abort_last page_of Needed (plannings.both_pages limits) whole turned (refl, (refl, tt));
    aborts = λ other. ruling.none_created page_of Needed (plannings.both_pages limits) whole turned (refl, (refl, tt));
    completed_stays = λ other. ruling.none_completed page_of Needed (plannings.both_pages limits) whole turned (refl, (refl, tt));
    moves_last = λ other. ruling.none_deletes page_of Needed (plannings.both_pages limits) whole turned (refl, (refl, tt));
  }

  -- the last page in the second lane
  abbrev parted : List Dispatched
  parted = both 1 1 1 2 (6 ∷ []) []

  abbrev e_parted : Example
  e_parted = plannings.second_lane limits

  parted_lanes : (lane : ℕ) → lane < 2 → carrying.IsLane page_of e_parted.setting parted e_parted.logs e_parted.notes parted lane
  parted_lanes zero used = record { in_turn = (tt, tt); gained = refl; noted = noting.first page_of _ 5 [] [] refl (refl, refl, refl) (noting.done page_of) }
  parted_lanes (suc zero) used = record { in_turn = (tt, tt); gained = refl; noted = noting.first page_of _ 6 [] [] refl (refl, refl, refl) (noting.done page_of) }
  parted_lanes (suc (suc lane)) used = absurd (omega arith)

  parted_written : carrying.IsWritten page_of e_parted.setting parted e_parted.journal e_parted.logs e_parted.notes parted
  parted_written = record {
    shown = refl;
    comes = ((1, mark.Success ∷ [], refl, refl, refl), ((3, mark.Success ∷ [], refl, refl, refl), tt));
    inside = (omega arith, (omega arith, tt));
    unused = λ lane beyond. (carrying.none_in_two _ _ lane beyond, carrying.none_in_two _ _ lane beyond);
    known = (tt, ((first 1, at parted 0 (first 1) refl, refl), (tt, ((last 1 1 2 (6 ∷ []) [], at parted 1 (last 1 1 2 (6 ∷ []) []) refl, refl), tt))));
    lanes = parted_lanes;
    marks = ((refl, tt), ((refl, tt), tt));
    again = (((λ more. absurd (omega arith)), tt), (((λ more. absurd (omega arith)), tt), tt));
    given_again = (tt, (tt, tt));
    at_most = (omega arith, (omega arith, tt));
    ends = ((λ goes. absurd (never goes)), ((λ goes. absurd (never goes)), tt));
  }

  abbrev planning_refusals : PlanningsAreRefused limits page_of
  planning_refusals = each_planning limits page_of

  -- the first page came before the last
  not_turned : ¬ (ruling.Holds page_of Needed (plannings.both_pages limits) whole turned InOrder)
  not_turned in_order = let before : 3 < 1 = in_order 0 1 (first 1) (omega arith) (omega arith) in omega arith

  planning_breaks : PlanningsBreakAlone limits spare
  planning_breaks = record {
    all_rules = ruling.rules_are_all page_of Needed;
    early_page = ruling.alone page_of Needed (plannings.early_page limits) early early OneByOne (ruling.narrow page_of Needed (plannings.early_page limits) planning_refusals.early_page) (carrying.carried page_of s early _ _ _ early early_written)
        (parts (plannings.early_page limits) refl 2 1 0 1 (6 ∷ []) [] (omega arith) OneByOne (λ other. refl) (λ other. (refl, refl)) (λ other. absurd (other refl)) (tt, (tt, tt)) (omega arith, (omega arith, tt)));
    skipped_number = ruling.alone page_of Needed (plannings.skipped_number limits) skipped skipped Numbered (ruling.narrow page_of Needed (plannings.skipped_number limits) planning_refusals.skipped_number) (carrying.carried page_of s skipped _ _ _ skipped skipped_written)
        (parts (plannings.skipped_number limits) refl 1 2 0 2 (6 ∷ []) [] (omega arith) Numbered (λ other. refl) (λ other. absurd (other refl)) (λ other. omega arith) (tt, (tt, tt)) (omega arith, (omega arith, tt)));
    second_lane = ruling.alone page_of Needed e_parted parted parted Numbered (ruling.narrow page_of Needed e_parted planning_refusals.second_lane) (carrying.carried page_of e_parted.setting parted _ _ _ parted parted_written)
        (parts e_parted refl 1 1 1 2 (6 ∷ []) [] (omega arith) Numbered (λ other. refl) (λ other. absurd (other refl)) (λ other. omega arith) (tt, (tt, tt)) (omega arith, (omega arith, tt)));
    page_with_body = ruling.alone page_of Needed (plannings.page_with_body limits) bodied bodied Planned (ruling.narrow page_of Needed (plannings.page_with_body limits) planning_refusals.page_with_body) (carrying.carried page_of s bodied _ _ _ bodied bodied_written)
        (parts (plannings.page_with_body limits) refl 1 1 0 2 (6 ∷ 1 ∷ []) (1 ∷ []) (omega arith) Planned (λ other. absurd (other refl)) (λ other. (refl, refl)) (λ other. omega arith) (tt, (tt, tt)) (omega arith, (omega arith, tt)));
    last_came_first = ruling.breaks page_of Needed (plannings.both_pages limits) whole turned InOrder (carrying.carried page_of s turned _ _ _ whole turned_written) turned_parts not_turned;
  }

pub each_job_breaks_alone : EachJobBreaksAlone
each_job_breaks_alone page_of = job_breaks page_of

pub each_planning_breaks_alone : EachPlanningBreaksAlone
each_planning_breaks_alone limits spare = planning_breaks limits spare
