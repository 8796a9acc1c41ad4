-- Runs that break the clauses on how jobs are given and come, each alone.
use Rattle.std.proofs.Common.{◌≡◌, ◌∙◌, ◌==◌, ◌++◌, ◌<◌, ℕ, zero, suc, true, false, List, [], ◌∷◌, Option, Some, None, refl, sym, ap, subst, inl, inr, Contains, arith}
use Rattle.std.specs.Prelude.{flat_map}
use Rattle.std.proofs.lemmas.List.Sorted.{IsPermutation-refl, IsPermutation-append_comm}
use Rattle.s3_model.specs.declared.answers.Class.{Class}
use Rattle.s3_model.specs.declared.answers.Listed.{Listed}
use Rattle.s3_model.specs.declared.outcomes.JobId.{JobId}
use Rattle.s3_model.specs.declared.requests.Ask.{Ask}
use Rattle.s3_model.specs.declared.requests.Op.TheVariants as op
use Rattle.s3_model.specs.declared.tries.Mark.TheVariants as mark
use Rattle.s3_model.specs.Talks.{Talk, Note, Moment, Pause, Began}
use Rattle.job_terms.specs.Attempts as wires
use Rattle.run_promise.specs.Carried.{MayStop}
use Rattle.job_terms.specs.Attempts.{AreNoted, in_first, in_lane, numbered_from, talks_of}
use Rattle.job_terms.specs.Dispatches.{Attempt, Dispatched}
use Rattle.run_promise.specs.Schedule.{IsBefore, IsFailed, IsSchedule, gained_before, most_body}
use Rattle.shared_lemmas.proofs.Clashes.{false_true as never}
use Rattle.promise_examples.specs.Alone.{Shown, Comes, Lanes, InTurn, GivenAgain, BreaksAlone}
use Rattle.promise_examples.specs.GivenAgain.{bytes, put, put_job}
use Rattle.promise_examples.specs.Misfits.{bucket, key}
use Rattle.promise_examples.specs.Reading.{Reads, signed_body}
use Rattle.promise_examples.specs.Refused as refused
use Rattle.promise_examples.specs.Refused.{denied_at, path, second_put, second_task, setting, stored_at, task}
use Rattle.promise_examples.specs.Runs.{Example}
use Rattle.promise_examples.proofs.Carrying as carrying
use Rattle.promise_examples.proofs.Clauses.{breaks}
use Rattle.promise_examples.proofs.Concrete.{Each, Tails, at, each, has_middle, contains_of, some_is}
use Rattle.promise_examples.proofs.Noting as noting
use Rattle.promise_examples.proofs.Refuted as refuted
use Rattle.promise_examples.proofs.Scheduling as scheduling
use Rattle.promise_examples.proofs.SmallPut as small
use Rattle.promise_examples.proofs.Wiring as wiring
use Rattle.promise_examples.proofs.Readings.{refusal_success}

-- what stands nowhere
nowhere : {A : Type 0} (lane : ℕ) → in_first {A = A} [] lane ≡ []
nowhere zero = refl
nowhere (suc lane) = carrying.none_in [] (suc lane) (omega arith)

module _ (page_of : List ℕ → Listed) where
  abbrev Shows : Ask → ℕ → Talk → Class → List ℕ → Type 0
  Shows = Reads page_of

  abbrev NoPlans : List Dispatched → Type 0
  NoPlans planning = planning ≡ []

  -- ---- jobs without a talk, since memory ran out

  abbrev silent : JobId → (lane given : ℕ) → Option ℕ → List ℕ → Dispatched
  silent job lane given came of_key = record {
    dispatch = record { job = job; lane = lane; given_at = given; came_at = came; earlier = 0; is_second = false; attempts = [] };
    ask = put bucket of_key path;
    body = bytes;
    limit = most_body;
    size = 2;
  }

  module _ (e : Example) (jobs coming : List Dispatched) where
    silent_gained : Each (λ (c : Dispatched). talks_of c ≡ []) jobs → (lane : ℕ) → in_first [] lane ≡ flat_map talks_of (in_lane lane jobs)
    silent_gained none lane = nowhere lane ∙ sym (wiring.none_of_kept talks_of (λ (c : Dispatched). c.dispatch.lane == lane) jobs none)

    silent_noted : Each (λ (c : Dispatched). numbered_from c 0 c.dispatch.attempts ≡ []) jobs → (lane : ℕ)
        → AreNoted Shows signed_body [] 80 0 (flat_map (λ (c : Dispatched). numbered_from c 0 c.dispatch.attempts) (in_lane lane jobs)) (in_first [] lane)
    silent_noted none lane =
        subst (λ (notes : List Note). AreNoted Shows signed_body [] 80 0 (flat_map (λ (c : Dispatched). numbered_from c 0 c.dispatch.attempts) (in_lane lane jobs)) notes) (sym (nowhere lane))
        (subst (λ (all : List wires.Numbered). AreNoted Shows signed_body [] 80 0 all []) (sym (wiring.none_of_kept (λ (c : Dispatched). numbered_from c 0 c.dispatch.attempts) (λ (c : Dispatched). c.dispatch.lane == lane) jobs none))
        (carrying.nothing_begins, inl refl))

  unused : (lane : ℕ) → (in_first {A = Talk} [] lane ≡ []) × (in_first {A = Note} [] lane ≡ [])
  unused lane = (nowhere lane, nowhere lane)

  -- one of them
  module _ (lane : ℕ) (came : Option ℕ) where
    abbrev one : Dispatched
    one = silent put_job lane 0 came key

    abbrev ones : List Dispatched
    ones = one ∷ []

    one_scheduled : IsSchedule Shows (refused.silent_run (task ∷ []) []).setting NoPlans ones ones
    one_scheduled = scheduling.scheduled Shows (refused.silent_run (task ∷ []) []).setting NoPlans ones ones (record {
      is_coming = IsPermutation-refl ones;
      in_order = (tt, tt);
      asks = ((task, 2, 1, refl, inl (omega arith, refl, refl), refl, refl, small.asks bucket key path (gained_before Shows ones 0)), tt);
      plans = refl;
      numbered = tt;
      one_by_one = tt;
      carried_out = refl;
      twice = (tt, tt);
      seconds = (omega arith, tt);
      stops = λ failed c is_failed of_task no_abort known same late. absurd (each (λ (d : Dispatched). IsBefore failed.dispatch.came_at d.dispatch.given_at → ⊥) ones (small.never_before failed.dispatch.came_at, tt) c known late);
      no_abort = (refl, tt);
      completes = λ n id end ended created. absurd (each (λ (d : Dispatched). d.dispatch.job.op ≡ op.Create → ⊥) ones (scheduling.other_op op.Put op.Create refl, tt) created.0 created.1 (ap (λ (job : JobId). job.op) created.2));
      moves_last = ((λ n t of_task at_n moves deletes. absurd (scheduling.other_op op.Put op.Delete refl deletes)), tt);
    })

  silent_never_came : wiring.Parts page_of refused.silent_never_came (ones 0 None) (ones 0 None) Comes
  silent_never_came = record {
    shown = λ other. refl;
    comes = λ other. absurd (other refl);
    lanes = λ other. (omega arith, tt);
    unused = λ other lane beyond. unused lane;
    known = λ other. (tt, tt);
    in_turn = λ other lane. wiring.pairs_kept (carrying.InTurn page_of refused.silent_never_came.setting (ones 0 None)) (λ (c : Dispatched). c.dispatch.lane == lane) (ones 0 None) (tt, tt);
    gained = λ other. silent_gained refused.silent_never_came (ones 0 None) (ones 0 None) (refl, tt);
    noted = λ other. silent_noted refused.silent_never_came (ones 0 None) (ones 0 None) (refl, tt);
    marks = λ other. (tt, tt);
    again = λ other. (tt, tt);
    given_again = λ other. (tt, tt);
    at_most = λ other. (omega arith, tt);
    ends = λ other. (tt, tt);
    silent = λ other. (inl refl, tt);
  }

  silent_other_lane : wiring.Parts page_of refused.silent_other_lane (ones 1 (Some 1)) (ones 1 (Some 1)) Lanes
  silent_other_lane = record {
    shown = λ other. refl;
    comes = λ other. ((1, [], refl, refl, refl), tt);
    lanes = λ other. absurd (other refl);
    unused = λ other lane beyond. unused lane;
    known = λ other. (tt, ((one 1 (Some 1), at (ones 1 (Some 1)) 0 (one 1 (Some 1)) refl, refl), tt));
    in_turn = λ other lane. wiring.pairs_kept (carrying.InTurn page_of refused.silent_other_lane.setting (ones 1 (Some 1))) (λ (c : Dispatched). c.dispatch.lane == lane) (ones 1 (Some 1)) (tt, tt);
    gained = λ other. silent_gained refused.silent_other_lane (ones 1 (Some 1)) (ones 1 (Some 1)) (refl, tt);
    noted = λ other. silent_noted refused.silent_other_lane (ones 1 (Some 1)) (ones 1 (Some 1)) (refl, tt);
    marks = λ other. (tt, tt);
    again = λ other. (tt, tt);
    given_again = λ other. (tt, tt);
    at_most = λ other. (omega arith, tt);
    ends = λ other. (tt, tt);
    silent = λ other. (inl refl, tt);
  }

  -- ---- two of them, in one lane, that come in the other order

  abbrev first : Dispatched
  first = silent put_job 0 0 (Some 3) key

  abbrev second : Dispatched
  second = silent second_put 0 1 (Some 2) (118 ∷ [])

  abbrev pair : List Dispatched
  pair = first ∷ second ∷ []

  abbrev pair_coming : List Dispatched
  pair_coming = second ∷ first ∷ []

  abbrev turned : Example
  turned = refused.silent_out_of_turn

  late_all : (failed : Dispatched) → IsFailed Shows turned.setting pair_coming failed → (c : Dispatched) → Contains pair c → IsBefore failed.dispatch.came_at c.dispatch.given_at → ⊥
  late_all failed is_failed c known before =
      each (λ (d : Dispatched). IsBefore d.dispatch.came_at c.dispatch.given_at → ⊥) pair_coming (
        (λ h. each (λ (d : Dispatched). 2 < d.dispatch.given_at → ⊥) pair ((λ late. omega arith), ((λ late. omega arith), tt)) c known h),
        ((λ h. each (λ (d : Dispatched). 3 < d.dispatch.given_at → ⊥) pair ((λ late. omega arith), ((λ late. omega arith), tt)) c known h), tt),
      ) failed (subst (λ (xs : List Dispatched). Contains xs failed) (sym is_failed.2) (contains_of (is_failed.0 ++ failed ∷ is_failed.1) failed (has_middle is_failed.0 failed is_failed.1))) before

  pair_scheduled : IsSchedule Shows turned.setting NoPlans pair pair_coming
  pair_scheduled = scheduling.scheduled Shows turned.setting NoPlans pair pair_coming (record {
    is_coming = IsPermutation-append_comm (first ∷ []) (second ∷ []);
    in_order = ((omega arith, tt), (tt, tt));
    asks = (
      (task, 2, 1, refl, inl (omega arith, refl, refl), refl, refl, small.asks bucket key path (gained_before Shows pair 0)),
      ((second_task, 2, 1, refl, inl (omega arith, refl, refl), refl, refl, small.asks bucket (118 ∷ []) path (gained_before Shows pair 1)), tt),
    );
    plans = refl;
    numbered = tt;
    one_by_one = tt;
    carried_out = refl;
    twice = (tt, (tt, tt));
    seconds = (omega arith, (omega arith, tt));
    stops = λ failed c is_failed of_task no_abort known same late. absurd (late_all failed is_failed c known late);
    no_abort = (refl, (refl, tt));
    completes = λ n id end ended created. absurd (each (λ (d : Dispatched). d.dispatch.job.op ≡ op.Create → ⊥) pair (scheduling.other_op op.Put op.Create refl, (scheduling.other_op op.Put op.Create refl, tt)) created.0 created.1 (ap (λ (job : JobId). job.op) created.2));
    moves_last = ((λ n t of_task at_n moves deletes. absurd (scheduling.other_op op.Put op.Delete refl deletes)), ((λ n t of_task at_n moves deletes. absurd (scheduling.other_op op.Put op.Delete refl deletes)), tt));
  })

  silent_out_of_turn : wiring.Parts page_of turned pair pair_coming InTurn
  silent_out_of_turn = record {
    shown = λ other. refl;
    comes = λ other. ((3, [], refl, refl, refl), ((2, [], refl, refl, refl), tt));
    lanes = λ other. (omega arith, (omega arith, tt));
    unused = λ other lane beyond. unused lane;
    known = λ other. (tt, (tt, ((second, at pair 1 second refl, refl), ((first, at pair 0 first refl, refl), tt))));
    in_turn = λ other. absurd (other refl);
    gained = λ other. silent_gained turned pair pair_coming (refl, (refl, tt));
    noted = λ other. silent_noted turned pair pair_coming (refl, (refl, tt));
    marks = λ other. (tt, (tt, tt));
    again = λ other. (tt, (tt, tt));
    given_again = λ other. (tt, (tt, tt));
    at_most = λ other. (omega arith, (omega arith, tt));
    ends = λ other. (tt, (tt, tt));
    silent = λ other. (inl refl, (inl refl, tt));
  }

  -- ---- a job that is left out

  left_out : wiring.Parts page_of refused.never_came [] [] Shown
  left_out = record {
    shown = λ other. absurd (other refl);
    comes = λ other. tt;
    lanes = λ other. tt;
    unused = λ other lane beyond. unused lane;
    known = λ other. (tt, tt);
    in_turn = λ other lane. tt;
    gained = λ other. silent_gained refused.never_came [] [] tt;
    noted = λ other. silent_noted refused.never_came [] [] tt;
    marks = λ other. tt;
    again = λ other. tt;
    given_again = λ other. tt;
    at_most = λ other. tt;
    ends = λ other. tt;
    silent = λ other. tt;
  }

  none_scheduled : IsSchedule Shows setting NoPlans [] []
  none_scheduled = scheduling.scheduled Shows setting NoPlans [] [] (record {
    is_coming = IsPermutation-refl [];
    in_order = tt;
    asks = tt;
    plans = refl;
    numbered = tt;
    one_by_one = tt;
    carried_out = refl;
    twice = tt;
    seconds = tt;
    stops = λ failed c is_failed of_task no_abort known same late. absurd (each (λ (d : Dispatched). ⊥) [] tt c known);
    no_abort = tt;
    completes = λ n id end ended created. absurd (each (λ (d : Dispatched). ⊥) [] tt created.0 created.1);
    moves_last = tt;
  })

  -- ---- a Put that was denied, and is given again

  abbrev denied : Attempt
  denied = record { mark = mark.Refusal; talk = denied_at 5 }

  abbrev stored : Attempt
  stored = record { mark = mark.Success; talk = stored_at 6 }

  abbrev turned_down : Dispatched
  turned_down = small.put_with (denied ∷ [])

  abbrev given_anew : Dispatched
  given_anew = record {
    dispatch = record { job = put_job; lane = 0; given_at = 2; came_at = Some 3; earlier = 1; is_second = true; attempts = stored ∷ [] };
    ask = put bucket key path;
    body = bytes;
    limit = most_body;
    size = 2;
  }

  abbrev two : List Dispatched
  two = turned_down ∷ given_anew ∷ []

  abbrev anew : Example
  anew = refused.denied_given_again

  settled : Tails (scheduling.FailureRule Shows setting (λ c. ⊥)) two
  settled = (inl (inl (given_anew, at (given_anew ∷ []) 0 given_anew refl, refl)), (inr (inl (refl, λ shown b shows. tt)), tt))

  none_failed : (failed : Dispatched) → IsFailed Shows setting two failed → ⊥
  none_failed failed is_failed = scheduling.failures Shows setting (λ c. ⊥) two settled failed is_failed

  two_scheduled : IsSchedule Shows setting NoPlans two two
  two_scheduled = scheduling.scheduled Shows setting NoPlans two two (record {
    is_coming = IsPermutation-refl two;
    in_order = ((omega arith, tt), (tt, tt));
    asks = (
      (task, 2, 1, refl, inl (omega arith, refl, refl), refl, refl, small.asks bucket key path (gained_before Shows two 0)),
      ((task, 2, 1, refl, inl (omega arith, refl, refl), refl, refl, small.asks bucket key path (gained_before Shows two 2)), tt),
    );
    plans = refl;
    numbered = tt;
    one_by_one = tt;
    carried_out = refl;
    twice = (((omega arith, refusal_success, tt, (λ failed is_failed same. absurd (none_failed failed is_failed)), refl, scheduling.other_op op.Put op.Abort refl), tt), (tt, tt));
    seconds = (omega arith, (omega arith, tt));
    stops = λ failed c is_failed of_task no_abort known same late. absurd (none_failed failed is_failed);
    no_abort = (refl, (refl, tt));
    completes = λ n id end ended created. absurd (each (λ (d : Dispatched). d.dispatch.job.op ≡ op.Create → ⊥) two (scheduling.other_op op.Put op.Create refl, (scheduling.other_op op.Put op.Create refl, tt)) created.0 created.1 (ap (λ (job : JobId). job.op) created.2));
    moves_last = ((λ n t of_task at_n moves deletes. absurd (scheduling.other_op op.Put op.Delete refl deletes)), ((λ n t of_task at_n moves deletes. absurd (scheduling.other_op op.Put op.Delete refl deletes)), tt));
  })

  abbrev talks : List Talk
  talks = denied_at 5 ∷ stored_at 6 ∷ []

  abbrev lines : List Note
  lines = Moment 5 ∷ Began ∷ Pause 1 ∷ Moment 6 ∷ Began ∷ []

  denied_given_again : wiring.Parts page_of anew two two GivenAgain
  denied_given_again = record {
    shown = λ other. refl;
    comes = λ other. ((1, mark.Refusal ∷ [], refl, refl, refl), ((3, mark.Success ∷ [], refl, refl, refl), tt));
    lanes = λ other. (omega arith, (omega arith, tt));
    unused = λ other lane beyond. (carrying.none_in talks lane beyond, carrying.none_in lines lane beyond);
    known = λ other. (tt, ((turned_down, at two 0 turned_down refl, refl), (tt, ((given_anew, at two 1 given_anew refl, refl), tt))));
    in_turn = λ other lane. wiring.pairs_kept (carrying.InTurn page_of setting two) (λ (c : Dispatched). c.dispatch.lane == lane) two
        (((λ place come. let is : 3 ≡ place = some_is 3 place come in omega arith), tt), (tt, tt));
    gained = λ other. wiring.by_lane (λ lane those. in_first talks lane ≡ flat_map talks_of those) two (omega arith, (omega arith, tt)) refl (λ lane. carrying.none_in talks (suc lane) (omega arith));
    noted = λ other. wiring.by_lane (λ lane those. AreNoted Shows signed_body [] 80 0 (flat_map (λ (c : Dispatched). numbered_from c 0 c.dispatch.attempts) those) (in_first lines lane)) two (omega arith, (omega arith, tt))
        (noting.first page_of _ 5 (noting.nth 2 given_anew stored ∷ []) _ refl (refl, refl, refl) (noting.second page_of (noting.nth 2 given_anew stored) 6 [] [] refl (refl, refl, refl) (noting.done page_of)))
        (λ lane. subst (λ (notes : List Note). AreNoted Shows signed_body [] 80 0 [] notes) (sym (carrying.none_in lines (suc lane) (omega arith))) (carrying.nothing_begins, inl refl));
    marks = λ other. ((refl, tt), ((refl, tt), tt));
    again = λ other. (((λ more. absurd (omega arith)), tt), (((λ more. absurd (omega arith)), tt), tt));
    given_again = λ other. absurd (other refl);
    at_most = λ other. (omega arith, (omega arith, tt));
    ends = λ other. ((λ goes. absurd (never goes)), ((λ goes. absurd (never goes)), tt));
    silent = λ other. (tt, (tt, tt));
  }

  -- ---- each alone

  pub never_came_alone : BreaksAlone page_of Shown refused.never_came
  never_came_alone = breaks page_of Shown refused.never_came [] [] (refuted.wires page_of).never_came none_scheduled (wiring.holds page_of refused.never_came [] [] Shown left_out)

  pub denied_given_again_alone : BreaksAlone page_of GivenAgain anew
  denied_given_again_alone = breaks page_of GivenAgain anew two two (refuted.wires page_of).denied_given_again two_scheduled (wiring.holds page_of anew two two GivenAgain denied_given_again)

  pub silent_never_came_alone : BreaksAlone page_of Comes refused.silent_never_came
  silent_never_came_alone =
      breaks page_of Comes refused.silent_never_came (ones 0 None) (ones 0 None) (refuted.wires page_of).silent_never_came (one_scheduled 0 None) (wiring.holds page_of refused.silent_never_came (ones 0 None) (ones 0 None) Comes silent_never_came)

  pub silent_other_lane_alone : BreaksAlone page_of Lanes refused.silent_other_lane
  silent_other_lane_alone =
      breaks page_of Lanes refused.silent_other_lane (ones 1 (Some 1)) (ones 1 (Some 1)) (refuted.wires page_of).silent_other_lane (one_scheduled 1 (Some 1))
      (wiring.holds page_of refused.silent_other_lane (ones 1 (Some 1)) (ones 1 (Some 1)) Lanes silent_other_lane)

  pub silent_out_of_turn_alone : BreaksAlone page_of InTurn turned
  silent_out_of_turn_alone = breaks page_of InTurn turned pair pair_coming (refuted.wires page_of).silent_out_of_turn pair_scheduled (wiring.holds page_of turned pair pair_coming InTurn silent_out_of_turn)
