-- A job that was cut short is cut in the run: it is given again, or something stopped its task.
use Rattle.std.proofs.Common.{append_assoc, ◌≡◌, ◌≢◌, ◌∙◌, ◌||◌, ◌⊎◌, ◌+◌, ◌++◌, ◌<◌, ℕ, Bool, true, false, List, [], ◌∷◌, Option, Some, None, Contains, refl, sym, subst, ap, inl, inr, arith, slice_get, length}
use Rattle.std.proofs.lemmas.Bool.{eqb-true, ltb-true}
use Rattle.std.proofs.lemmas.List.{length-append}
use Rattle.std.proofs.lemmas.List.Sorted.{Contains-permutation, IsPermutation-sym}
use Rattle.std.specs.Prelude.{if◌then◌else◌, is_some, nat_lt, IsSome}
use Rattle.jobs.specs.Endings.{SeenCarried}
use Rattle.run_promise.specs.Dispatches.{IsCompletedWell, IsCut, IsFailing}
use Rattle.job_terms.specs.Dispatches.{Dispatched}
use Rattle.run_promise.specs.Schedule.{IsBeforeAny, IsStopped, Setting}
use Rattle.s3_model.specs.Talks.{Talk}
use Rattle.s3_model.specs.declared.answers.Class.{Class}
use Rattle.s3_model.specs.declared.outcomes.Cause.{Cause}
use Rattle.s3_model.specs.declared.outcomes.JobId.{JobId}
use Rattle.s3_model.specs.declared.outcomes.Outcome.{Outcome}
use Rattle.s3_model.specs.declared.outcomes.Reason.{Reason}
use Rattle.s3_model.specs.declared.requests.Ask.{Ask}
use Rattle.s3_model.specs.declared.requests.Op.{Op}
use Rattle.s3_model.specs.declared.requests.Op.TheVariants as op
use Rattle.task_acts.specs.declared.acts.Act.{Act}
use Rattle.task_acts.specs.declared.acts.Act.TheVariants as act
use Rattle.task_acts.specs.declared.acts.FileCame.{FileCame}
use Rattle.task_acts.specs.declared.acts.Stage.TheVariants as at
use Rattle.task_acts.specs.declared.work.Work.{Work}
use Rattle.task_acts.specs.Ends.{outcome_of}
use Rattle.task_acts.specs.Failures.{carried_cause, file_cause, is_cut_short, is_memory, is_stopped}
use Rattle.task_acts.specs.Histories.{Came, Gave, Happening, History, Returned, is_act, sent}
use Rattle.task_acts.specs.Kept.{IsHistory, is_file_act}
use Rattle.task_acts.specs.Stages.{carried_stage, is_out, stage}
use Rattle.shared_lemmas.proofs.Clashes.{false_true, some_is}
use Rattle.shared_lemmas.proofs.Members.{Has, contains_of, found_or_not, has, has-append_cases, has-append_right, has_middle, place_middle, split_of}
use Rattle.task_progress.specs.Progress.{HasPiece}
use Rattle.task_progress.proofs.Endings.{chosen, no}
use Rattle.task_progress.proofs.Progress.{IsCounted}
use Rattle.task_progress.proofs.Quiet.{IsQuiet, outcome_quiet}
use Rattle.manager_moves.specs.Laws.{IsRun}
use Rattle.manager_moves.specs.Runs.{Back, Event, Events, Sent, Shared, Stopped, is_task, share}
use Rattle.task_schedule.specs.Journals.{IsBack, IsRunOf, ShowOne, fails_otherwise, place_after}
use Rattle.task_schedule.proofs.Cutting.{cut_first, cut_no_abort, cut_unfinished, holds_then, is_cut, sent_is}
use Rattle.task_schedule.proofs.Deciders.{IsNoAbort, call_failed, job_failed}
use Rattle.task_schedule.proofs.EventStops.{IsCall, IsFailure, IsForgotten, IsOther, StoppedFirst, Stopper, cut_goes_on, stopped_first}
use Rattle.task_schedule.proofs.Joined.{all_holds, back_at, its_task, return_of}
use Rattle.task_schedule.proofs.KeptJobs.{kept_fails, no_abort_of}
use Rattle.task_schedule.proofs.Marks.{index_of, pair_of}
use Rattle.task_schedule.proofs.Places.{entry_fills, fills, same_place}
use Rattle.task_schedule.proofs.SentJobs.{IsAt, at_of, holds, twice}
use Rattle.task_schedule.proofs.Shares.{back_is, since, since_gave, since_is}
use Rattle.task_schedule.proofs.Standing.{act_itself}
use Rattle.task_schedule.proofs.Stopping.{GivenOrKept, abort_stopped, given_or_kept, kept_stopped, otherwise_stays}
use Rattle.task_schedule.proofs.Wellness.{well_is}

pub counted_call : (a : Act) (r : FileCame) → is_some (file_cause a r) ≡ true → IsCounted a
counted_call act.Stamp r e = no e
counted_call act.DropTemp r e = no e
counted_call a r e = tt

call_no_abort : (a : Act) → is_file_act a ≡ true → IsNoAbort a
call_no_abort (act.Send o k) e = no e
call_no_abort a e = tt

memory_some : (why : Option Cause) → is_memory why ≡ true → is_some why ≡ true
memory_some None e = e
memory_some (Some why) e = refl

kept_by : (cut stopped cause : Bool) → cut ≡ true → stopped ≡ false → (if cut then (if stopped then at.Failed else at.Kept) else if cause then at.Failed else at.Fine) ≡ at.Kept
kept_by true true cause e f = no (sym f)
kept_by true false cause e f = refl
kept_by false stopped cause e f = no e

neither_less : (u v : ℕ) → nat_lt u v ≡ false → nat_lt v u ≡ false → u ≡ v
neither_less u v e f = grind arith

module _ (Shows : Ask → ℕ → Talk → Class → List ℕ → Type 0) where
  failing_before : (most : ℕ) (task : Option ℕ) (S : Type 0) (front later : List Dispatched) → IsFailing Shows most task S later → IsFailing Shows most task S (front ++ later)
  failing_before most task S [] later f = f
  failing_before most task S (x ∷ front) later f = inr (failing_before most task S front later f)

module _ (Shows : Ask → ℕ → Talk → Class → List ℕ → Type 0) (s : Shared) (setting : Setting) (planned : ℕ) (events : Events) (dispatched coming : List Dispatched)
    (r : IsRunOf Shows s setting planned events dispatched coming) (one : ShowOne Shows) where
  -- ---- in the order of coming

  pub in_dispatched : (d : Dispatched) → Contains coming d → Contains dispatched d
  in_dispatched d known = Contains-permutation coming dispatched d (IsPermutation-sym dispatched coming r.is_coming) known

  in_coming : (d : Dispatched) → Contains dispatched d → Contains coming d
  in_coming d known = Contains-permutation dispatched coming d r.is_coming known

  coming_before : (front between later : List Dispatched) (x y : Dispatched) → coming ≡ front ++ x ∷ (between ++ y ∷ later) → IsBeforeAny x.dispatch.came_at y.dispatch.came_at
  coming_before front between later x y is =
      pair_of (λ (u v : Dispatched). IsBeforeAny u.dispatch.came_at v.dispatch.came_at) coming r.in_order (length front) (length (front ++ x ∷ between)) x y longer
      (ap (λ (z : List Dispatched). slice_get z (length front)) is ∙ place_middle front x (between ++ y ∷ later))
      (ap (λ (z : List Dispatched). slice_get z (length (front ++ x ∷ between))) (is ∙ sym (append_assoc front (x ∷ between) (y ∷ later))) ∙ place_middle (front ++ x ∷ between) y later)
    where
      longer : length front < length (front ++ x ∷ between)
      longer = let long = length-append front (x ∷ between) in omega arith

  pub given_once : (x y : Dispatched) → Contains dispatched x → Contains dispatched y → x.dispatch.given_at ≡ y.dispatch.given_at → x ≡ y
  given_once x y known_x known_y same = by (nat_lt i.0 j.0) refl (nat_lt j.0 i.0) refl
    where
      i : (k : ℕ) × (slice_get dispatched k ≡ Some x)
      i = index_of dispatched x known_x

      j : (k : ℕ) × (slice_get dispatched k ≡ Some y)
      j = index_of dispatched y known_y

      less : (u v : ℕ) (a b : Dispatched) → u < v → slice_get dispatched u ≡ Some a → slice_get dispatched v ≡ Some b → a.dispatch.given_at < b.dispatch.given_at
      less u v a b l e f = pair_of (λ (p q : Dispatched). p.dispatch.given_at < q.dispatch.given_at) dispatched r.sent.in_order u v a b l e f

      by : (b : Bool) → nat_lt i.0 j.0 ≡ b → (c : Bool) → nat_lt j.0 i.0 ≡ c → x ≡ y
      by true e c f = let l = less i.0 j.0 x y (ltb-true i.0 j.0 e) i.1 j.1 in absurd (omega arith)
      by false e true f = let l = less j.0 i.0 y x (ltb-true j.0 i.0 f) j.1 i.1 in absurd (omega arith)
      by false e false f = some_is x y (sym i.1 ∙ ap (slice_get dispatched) (neither_less i.0 j.0 e f) ∙ j.1)

  module _ (n : ℕ) (w : Work) (of_plan : slice_get s.works n ≡ Some w) where
    abbrev At : Op → ℕ → Dispatched → Type 0
    At o k x = IsAt Shows s setting planned events dispatched coming r n w of_plan o k x

    pub came_after : (o : Op) (k : ℕ) (x : Dispatched) (a : At o k x) (place : ℕ) → x.dispatch.came_at ≡ Some place → x.dispatch.given_at < place
    came_after o k x a place is = elim a.comes [
      | inl none ↦ absurd (none_some place (sym none.0 ∙ is))
      | inr back ↦ by back.between a.given_at (some_is (place_after planned (back.between ++ Sent n o k a.lane ∷ a.before)) place (sym back.came_at ∙ is))
    ]
      where
        none_some : (p : ℕ) → ◌≡◌ {A = Option ℕ} None (Some p) → ⊥
        none_some p e = cc

        by : (between : Events) → x.dispatch.given_at ≡ place_after planned a.before → place_after planned (between ++ Sent n o k a.lane ∷ a.before) ≡ place → x.dispatch.given_at < place
        by between e f =
            let more = fills between (Sent n o k a.lane ∷ a.before) in
            let entry = entry_fills (Sent n o k a.lane) a.before tt in
            omega arith

    -- what came later stands later
    pub comes_later : (front later : List Dispatched) (f d : Dispatched) (place : ℕ) → coming ≡ front ++ f ∷ later → f.dispatch.came_at ≡ Some place → Contains dispatched d
        → ((q : ℕ) → d.dispatch.came_at ≡ Some q → place < q) → Has later d
    comes_later front later f d place is came known after = by (has-append_cases front (f ∷ later) d (subst (λ (z : List Dispatched). Has z d) is (has coming d (in_coming d known))))
      where
        itself : f ≡ d → ⊥
        itself e = let less = after place (sym (ap (λ (x : Dispatched). x.dispatch.came_at) e) ∙ came) in omega arith

        clash : (c : Option ℕ) → d.dispatch.came_at ≡ c → IsBeforeAny c (Some place) → ⊥
        clash None e before = before
        clash (Some q) e before = let less = after q e in omega arith

        in_front : Has front d → ⊥
        in_front h =
            let split = split_of front d h in
            let order = coming_before split.front split.back later d f
            (is ∙ ap (λ (z : List Dispatched). z ++ f ∷ later) split.is ∙ append_assoc split.front (d ∷ split.back) (f ∷ later)) in
            clash d.dispatch.came_at refl (subst (λ (c : Option ℕ). IsBeforeAny d.dispatch.came_at c) came order)

        by : Has front d ⊎ Has (f ∷ later) d → Has later d
        by (inl h) = absurd (in_front h)
        by (inr (inl e)) = absurd (itself e)
        by (inr (inr h)) = h

    -- ---- a job that failed

    module _ (o : Op) (k : ℕ) (d : Dispatched) (known : Contains dispatched d) (a : At o k d) (back : IsBack Shows planned a.later (Sent n o k a.lane ∷ a.before) d) (fail : IsFailure w back.carried) where
      failed_no_abort : is_stopped w (share w n (back.between ++ Sent n o k a.lane ∷ a.before)) ≡ false → o ≢ op.Abort
      failed_no_abort going is =
          let holds = holds_then Shows s setting planned events dispatched coming r one n w of_plan o k d a back in
          let out = subst (λ (z : Act). is_out (stage w (share w n (back.between ++ Sent n o k a.lane ∷ a.before)) z) ≡ true)
          (sent_is Shows s setting planned events dispatched coming r one n w of_plan o k d a back ∙ ap (λ (p : Op). act.Send p k) is) holds.0.0 in
          false_true (sym going ∙ abort_stopped w (share w n (back.between ++ Sent n o k a.lane ∷ a.before)) k holds.1 out)

      pub not_well : IsCompletedWell Shows d → ⊥
      not_well well = false_true (sym (well_is Shows s setting planned events dispatched coming r n w of_plan o k d known a back well) ∙ fail.has_cause)

      same_back : (other : IsBack Shows planned a.later (Sent n o k a.lane ∷ a.before) d) → other.carried ≡ back.carried
      same_back other = back_same other.lane back.lane other.carried back.carried _ _
          (same_place other.newer (other.between ++ Sent n o k a.lane ∷ a.before) back.newer (back.between ++ Sent n o k a.lane ∷ a.before) (Back other.lane other.carried) (Back back.lane back.carried)
          (sym (back_at Shows s setting planned events dispatched coming r n w of_plan o k d a other) ∙ back_at Shows s setting planned events dispatched coming r n w of_plan o k d a back) tt tt
          (both_filled (some_is (place_after planned (other.between ++ Sent n o k a.lane ∷ a.before)) (place_after planned (back.between ++ Sent n o k a.lane ∷ a.before)) (sym other.came_at ∙ back.came_at))))
        where
          both_filled : {u v : ℕ} → planned + u ≡ planned + v → u ≡ v
          both_filled e = omega arith

          back_same : (l m : ℕ) (c e : SeenCarried) (xs ys : Events) → Back l c ∷ xs ≡ Back m e ∷ ys → c ≡ e
          back_same l m c e xs ys f = cc

      -- it is not given again
      not_again : (front later : List Dispatched) (other : Dispatched) → coming ≡ front ++ d ∷ later → Has later other → other.dispatch.job ≡ d.dispatch.job → ⊥
      not_again front later other is h job = by (nat_lt d.dispatch.given_at other.dispatch.given_at) refl (nat_lt other.dispatch.given_at d.dispatch.given_at) refl
        where
          other_known : Contains dispatched other
          other_known = in_dispatched other (contains_of coming other (subst (λ (z : List Dispatched). Has z other) (sym is) (has-append_right front (d ∷ later) other (inr h))))

          b : At o k other
          b = at_of Shows s setting planned events dispatched coming r n w of_plan o k other other_known (job ∙ a.job_is)

          order : IsBeforeAny d.dispatch.came_at other.dispatch.came_at
          order = let split = split_of later other h in coming_before front split.front split.back d other (is ∙ ap (λ (z : List Dispatched). front ++ d ∷ z) split.is)

          after : d.dispatch.given_at < other.dispatch.given_at → ⊥
          after less =
              let pair = twice Shows s setting planned events dispatched coming r n w of_plan o k d other a b less in
              false_true (sym fail.not_cut ∙ subst (λ (c : SeenCarried). is_cut_short w c ≡ true) (same_back pair.came.back) pair.cut)

          before : other.dispatch.given_at < d.dispatch.given_at → ⊥
          before less =
              let pair = twice Shows s setting planned events dispatched coming r n w of_plan o k other d b a less in
              let came = came_after o k d a (place_after planned (back.between ++ Sent n o k a.lane ∷ a.before)) back.came_at in
              let first : IsBeforeAny (Some (place_after planned (back.between ++ Sent n o k a.lane ∷ a.before))) (Some pair.place) =
              subst (λ (z : Option ℕ). IsBeforeAny z (Some pair.place)) back.came_at (subst (λ (z : Option ℕ). IsBeforeAny d.dispatch.came_at z) pair.came_at order) in
              let ahead = pair.ahead_of in
              omega arith

          same : d.dispatch.given_at ≡ other.dispatch.given_at → ⊥
          same e =
              let is_d = given_once d other known other_known e in
              let first : IsBeforeAny (Some (place_after planned (back.between ++ Sent n o k a.lane ∷ a.before))) (Some (place_after planned (back.between ++ Sent n o k a.lane ∷ a.before))) =
              subst (λ (z : Option ℕ). IsBeforeAny z (Some (place_after planned (back.between ++ Sent n o k a.lane ∷ a.before)))) back.came_at
              (subst (λ (z : Option ℕ). IsBeforeAny d.dispatch.came_at z) (sym (ap (λ (x : Dispatched). x.dispatch.came_at) is_d) ∙ back.came_at) order) in
              omega arith

          by : (i : Bool) → nat_lt d.dispatch.given_at other.dispatch.given_at ≡ i → (j : Bool) → nat_lt other.dispatch.given_at d.dispatch.given_at ≡ j → ⊥
          by true e j f = after (ltb-true d.dispatch.given_at other.dispatch.given_at e)
          by false e true f = before (ltb-true other.dispatch.given_at d.dispatch.given_at f)
          by false e false f = same (neither_less d.dispatch.given_at other.dispatch.given_at e f)

      pub not_cut : (front later : List Dispatched) (X : Type 0) → coming ≡ front ++ d ∷ later → IsCut Shows setting.config.attempts d later X → ⊥
      not_cut front later X is (inl again) = not_again front later again.0 is (has later again.0 again.1) again.2
      not_cut front later X is (inr rest) = false_true (sym fail.not_cut
          ∙ is_cut Shows s setting planned events dispatched coming r one n w of_plan o k d a back rest.0 (λ e. rest.1 (ap (λ (j : JobId). j.op) a.job_is ∙ e)) rest.3 fail.has_cause fail.not_memory)

      pub failing : is_stopped w (share w n (back.between ++ Sent n o k a.lane ∷ a.before)) ≡ false → (front later : List Dispatched) (S : Type 0) → coming ≡ front ++ d ∷ later
          → IsFailing Shows setting.config.attempts (Some n) S (d ∷ later)
      failing going front later S is = inl (
        ap (λ (j : JobId). j.task) a.job_is,
        λ e. failed_no_abort going (sym (ap (λ (j : JobId). j.op) a.job_is) ∙ e),
        λ cut. not_cut front later _ is cut,
        λ well. not_well well,
      )

    -- ---- a job that was cut short

    module _ (o : Op) (k : ℕ) (f : Dispatched) (a : At o k f) (back : IsBack Shows planned a.later (Sent n o k a.lane ∷ a.before) f)
        (cut : is_cut_short w back.carried ≡ true) (going : is_stopped w (share w n (back.between ++ Sent n o k a.lane ∷ a.before)) ≡ false)
        (front later : List Dispatched) (is : coming ≡ front ++ f ∷ later) where
      abbrev rest : Events
      rest = back.between ++ Sent n o k a.lane ∷ a.before

      abbrev place : ℕ
      place = place_after planned rest

      whole : events ≡ back.newer ++ Back back.lane back.carried ∷ rest
      whole = back_at Shows s setting planned events dispatched coming r n w of_plan o k f a back

      came_is : share w n (Back back.lane back.carried ∷ rest) ≡ Came back.carried ∷ share w n rest
      came_is = back_is w n back.lane back.carried rest (its_task Shows s setting planned events dispatched coming r n w of_plan o k f a back)

      all_is : share w n events ≡ since w n back.newer (Back back.lane back.carried ∷ rest) ++ Came back.carried ∷ share w n rest
      all_is = ap (share w n) whole ∙ since_is w n back.newer (Back back.lane back.carried ∷ rest)
          ∙ ap (λ (h : History). since w n back.newer (Back back.lane back.carried ∷ rest) ++ h) came_is

      holds_all : IsHistory w (share w n events)
      holds_all = all_holds Shows s setting planned events dispatched coming r n w of_plan

      kept_then : stage w (Came back.carried ∷ share w n rest) (act.Send o k) ≡ at.Kept
      kept_then =
          chosen (is_act (act.Send o k) (sent back.carried)) (carried_stage w (is_stopped w (share w n rest)) back.carried) (stage w (share w n rest) (act.Send o k))
          (subst (λ (z : Act). is_act (act.Send o k) z ≡ true) (sym (sent_is Shows s setting planned events dispatched coming r one n w of_plan o k f a back)) (act_itself o k))
          ∙ kept_by (is_cut_short w back.carried) (is_stopped w (share w n rest)) (is_some (carried_cause w back.carried)) cut going

      apart : o ≢ op.Abort
      apart = cut_no_abort Shows s setting planned events dispatched coming r one n w of_plan o k f a back cut

      abbrev pub Reasons : Type 0
      Reasons = IsStopped setting (Some n) ⊎ IsFailing Shows setting.config.attempts (Some n) (IsStopped setting (Some n)) later

      -- it is given again
      is_again : Has (since w n back.newer (Back back.lane back.carried ∷ rest)) (Gave (act.Send o k)) → (other : Dispatched) × Contains later other × (other.dispatch.job ≡ f.dispatch.job)
      is_again gave =
          let found = since_gave w n s back.newer (Back back.lane back.carried ∷ rest) o k (subst (IsRun s) whole r.run) gave in
          let split = split_of back.newer (Sent n o k found.0) found.1 in
          let at_event : events ≡ split.front ++ Sent n o k found.0 ∷ (split.back ++ Back back.lane back.carried ∷ rest) =
          whole ∙ ap (λ (z : Events). z ++ Back back.lane back.carried ∷ rest) split.is ∙ append_assoc split.front (Sent n o k found.0 ∷ split.back) (Back back.lane back.carried ∷ rest) in
          let d = r.sent.each_sent split.front (split.back ++ Back back.lane back.carried ∷ rest) n k found.0 o at_event in
          let b = at_of Shows s setting planned events dispatched coming r n w of_plan o k d.0 d.1 d.2 in
          (d.0, contains_of later d.0 (comes_later front later f d.0 place is back.came_at d.1 (λ q e. after split.back d.0 q d.3 (came_after o k d.0 b q e))), d.2 ∙ sym a.job_is)
        where
          after : (z : Events) (d : Dispatched) (q : ℕ) → d.dispatch.given_at ≡ place_after planned (z ++ Back back.lane back.carried ∷ rest) → d.dispatch.given_at < q → place < q
          after z d q e l =
              let more = fills z (Back back.lane back.carried ∷ rest) in
              let entry = entry_fills (Back back.lane back.carried) rest tt in
              omega arith

      abbrev HasFailed : Act → Type 0
      HasFailed b = IsCounted b × IsNoAbort b × (stage w (share w n events) b ≡ at.Failed)

      -- or it is kept, and something stopped its task
      is_stopped_by : stage w (share w n events) (act.Send o k) ≡ at.Kept → Reasons
      is_stopped_by kept = by stop.by stop.event refl
        where
          piece : HasPiece w
          piece = (r.works.each n w of_plan).3

          ended : IsSome (outcome_of w (share w n events))
          ended = r.ended n k a.lane w o of_plan (contains_of events (Sent n o k a.lane) (subst (λ (z : Events). Has z (Sent n o k a.lane)) (sym a.is) (has_middle a.later (Sent n o k a.lane) a.before)))

          quiet : IsQuiet w (share w n events)
          quiet = outcome_quiet w (share w n events) piece holds_all ended

          stopped : is_stopped w (share w n events) ≡ true
          stopped = kept_stopped w (share w n events) piece holds_all quiet o k apart kept

          stop : StoppedFirst w n back.newer (Back back.lane back.carried ∷ rest)
          stop = stopped_first w n back.newer (Back back.lane back.carried ∷ rest)
              (ap (is_stopped w) came_is ∙ cut_goes_on w back.carried (share w n rest) cut ∙ going) (subst (λ (z : Events). is_stopped w (share w n z) ≡ true) whole stopped)

          at_stop : events ≡ stop.newer ++ stop.event ∷ (stop.between ++ Back back.lane back.carried ∷ rest)
          at_stop = whole ∙ ap (λ (z : Events). z ++ Back back.lane back.carried ∷ rest) stop.is ∙ append_assoc stop.newer (stop.event ∷ stop.between) (Back back.lane back.carried ∷ rest)

          told : (b c : Bool) → (b ≡ true) ⊎ (c ≡ true) → (b || c) ≡ true
          told true c e = refl
          told false c (inl e) = no e
          told false c (inr e) = e

          cancelled : (reason : Reason) → stop.event ≡ Stopped reason → IsStopped setting (Some n)
          cancelled reason e = told (is_some setting.cancelled_at) (setting.file_failed n)
              (inl (r.cancelled reason (contains_of events (Stopped reason) (subst (λ (z : Events). Has z (Stopped reason)) (sym at_stop)
              (subst (λ (x : Event). Has (stop.newer ++ x ∷ (stop.between ++ Back back.lane back.carried ∷ rest)) (Stopped reason)) (sym e)
              (has_middle stop.newer (Stopped reason) (stop.between ++ Back back.lane back.carried ∷ rest)))))))

          since_stop : share w n events ≡ since w n stop.newer (stop.event ∷ (stop.between ++ Back back.lane back.carried ∷ rest)) ++ share w n (stop.event ∷ (stop.between ++ Back back.lane back.carried ∷ rest))
          since_stop = ap (share w n) at_stop ∙ since_is w n stop.newer (stop.event ∷ (stop.between ++ Back back.lane back.carried ∷ rest))

          holds_stop : IsHistory w (share w n (stop.event ∷ (stop.between ++ Back back.lane back.carried ∷ rest)))
          holds_stop = holds Shows s setting planned events dispatched coming r n w of_plan stop.newer (stop.event ∷ (stop.between ++ Back back.lane back.carried ∷ rest)) at_stop

          -- the newest of what happened then
          has_newest : (x : Happening) (h : History) → share w n (stop.event ∷ (stop.between ++ Back back.lane back.carried ∷ rest)) ≡ x ∷ h → Has (share w n events) x
          has_newest x h same = subst (λ (z : History). Has z x) (sym (since_stop ∙ ap (λ (z : History). since w n stop.newer (stop.event ∷ (stop.between ++ Back back.lane back.carried ∷ rest)) ++ z) same)) (has_middle (since w n stop.newer (stop.event ∷ (stop.between ++ Back back.lane back.carried ∷ rest))) x h)

          call_has_failed : IsCall w n stop.event (stop.between ++ Back back.lane back.carried ∷ rest) → (b : Act) × HasFailed b
          call_has_failed call = (
            call.0,
            (
              counted_call call.0 call.1 call.3,
              call_no_abort call.0 (subst (IsHistory w) call.2 holds_stop).0.0,
              call_failed w (share w n events) holds_all call.0 call.1 (has_newest (Returned call.0 call.1) (Gave call.0 ∷ share w n (stop.between ++ Back back.lane back.carried ∷ rest)) call.2) call.3,
            ),
          )

          job_has_failed : IsForgotten w n stop.event (stop.between ++ Back back.lane back.carried ∷ rest) → (b : Act) × HasFailed b
          job_has_failed job = (
            sent job.0,
            (
              tt,
              no_abort_of job.0.job.id.op job.0.job.id.number (λ e. false_true (sym stop.going ∙ abort_stopped w (share w n (stop.between ++ Back back.lane back.carried ∷ rest)) job.0.job.id.number then_holds.1
                  (subst (λ (p : Op). is_out (stage w (share w n (stop.between ++ Back back.lane back.carried ∷ rest)) (act.Send p job.0.job.id.number)) ≡ true) e then_holds.0.0))),
              job_failed w (share w n events) holds_all job.0 (has_newest (Came job.0) (share w n (stop.between ++ Back back.lane back.carried ∷ rest)) job.1) job.2 (memory_some (carried_cause w job.0) job.3),
            ),
          )
            where
              then_holds : IsHistory w (Came job.0 ∷ share w n (stop.between ++ Back back.lane back.carried ∷ rest))
              then_holds = subst (IsHistory w) job.1 holds_stop

          has_failed : IsOther w n stop.event (stop.between ++ Back back.lane back.carried ∷ rest) → (b : Act) × HasFailed b
          has_failed other = elim other.what [ inl call ↦ call_has_failed call | inr job ↦ job_has_failed job ]

          otherwise : IsOther w n stop.event (stop.between ++ Back back.lane back.carried ∷ rest) → IsStopped setting (Some n)
          otherwise other = told (is_some setting.cancelled_at) (setting.file_failed n) (inr (by (found_or_not (outcome_of w (share w n events))) (has_failed other)))
            where
              fails : fails_otherwise w (share w n events) ≡ true
              fails = subst (λ (h : History). fails_otherwise w h ≡ true) (sym since_stop) (otherwise_stays w (since w n stop.newer (stop.event ∷ (stop.between ++ Back back.lane back.carried ∷ rest))) (share w n (stop.event ∷ (stop.between ++ Back back.lane back.carried ∷ rest))) other.fails)

              by : (outcome_of w (share w n events) ≡ None) ⊎ ((how : Outcome) × (outcome_of w (share w n events) ≡ Some how)) → (b : Act) × HasFailed b → setting.file_failed n ≡ true
              by (inl none) b = no (sym (ap (λ (x : Option Outcome). is_some x) none) ∙ ended)
              by (inr how) b =
                  let failed = kept_fails w piece (share w n events) holds_all o k apart kept b.0 b.1.0 b.1.1 b.1.2 how.0 how.1 in
                  r.files n w failed.0 of_plan (how.1 ∙ ap Some failed.1) fails

          failed : (lane : ℕ) (c : SeenCarried) → stop.event ≡ Back lane c → c.job.id.task ≡ Some n → IsFailure w c
              → IsFailing Shows setting.config.attempts (Some n) (IsStopped setting (Some n)) later
          failed lane c e task fail =
              let tail = stop.between ++ Back back.lane back.carried ∷ rest in
              let return = return_of Shows s setting planned events dispatched coming r n w of_plan stop.newer tail lane c (at_stop ∙ ap (λ (x : Event). stop.newer ++ x ∷ tail) e) task in
              let there = comes_later front later f return.x place is back.came_at return.known (λ q came. after stop.between q (some_is (place_after planned tail) q (sym return.came_at ∙ came))) in
              let split = split_of later return.x there in
              let all = failing c.job.id.op c.job.id.number return.x return.known return.a return.back
              (subst (λ (z : SeenCarried). IsFailure w z) (sym return.same) fail) (subst (λ (z : Events). is_stopped w (share w n z) ≡ false) (sym return.rest_is) stop.going)
              (front ++ f ∷ split.front) split.back (IsStopped setting (Some n)) (is ∙ ap (λ (z : List Dispatched). front ++ f ∷ z) split.is ∙ sym (append_assoc front (f ∷ split.front) (return.x ∷ split.back))) in
              subst (λ (z : List Dispatched). IsFailing Shows setting.config.attempts (Some n) (IsStopped setting (Some n)) z) (sym split.is)
              (failing_before Shows setting.config.attempts (Some n) (IsStopped setting (Some n)) split.front (return.x ∷ split.back) all)
            where
              after : (z : Events) (q : ℕ) → place_after planned (z ++ Back back.lane back.carried ∷ rest) ≡ q → place < q
              after z q e =
                  let more = fills z (Back back.lane back.carried ∷ rest) in
                  let entry = entry_fills (Back back.lane back.carried) rest tt in
                  omega arith

          task_is : (task : Option ℕ) → is_task n task ≡ true → task ≡ Some n
          task_is None e = no e
          task_is (Some m) e = ap Some (eqb-true m n e)

          by : Stopper w n stop.event (stop.between ++ Back back.lane back.carried ∷ rest) → (e : Event) → stop.event ≡ e → Reasons
          by (inl cancel) e same = inl (cancelled cancel.0 cancel.1)
          by (inr (inl other)) e same = inl (otherwise other)
          by (inr (inr job)) e same = inr (failed job.0 job.1 job.2 (task_is job.1.job.id.task job.3) job.4)

      pub is_cut_in : IsCut Shows setting.config.attempts f later (IsStopped setting f.dispatch.job.task ⊎ IsFailing Shows setting.config.attempts f.dispatch.job.task (IsStopped setting f.dispatch.job.task) later)
      is_cut_in = subst (λ (t : Option ℕ). IsCut Shows setting.config.attempts f later (IsStopped setting t ⊎ IsFailing Shows setting.config.attempts t (IsStopped setting t) later))
          (sym (ap (λ (j : JobId). j.task) a.job_is)) (by (given_or_kept w o k (since w n back.newer (Back back.lane back.carried ∷ rest)) (Came back.carried ∷ share w n rest) (subst (IsHistory w) all_is holds_all) kept_then))
        where
          some_task : IsSome f.dispatch.job.task
          some_task = subst (λ (t : Option ℕ). is_some t ≡ true) (sym (ap (λ (j : JobId). j.task) a.job_is)) refl

          by : GivenOrKept w o k (since w n back.newer (Back back.lane back.carried ∷ rest)) (Came back.carried ∷ share w n rest) → IsCut Shows setting.config.attempts f later Reasons
          by (inl gave) = inl (is_again gave)
          by (inr kept) = inr (
            (cut_first Shows s setting planned events dispatched coming r one n w of_plan o k f a back cut).not_second,
            λ e. apart (sym (ap (λ (j : JobId). j.op) a.job_is) ∙ e),
            some_task,
            cut_unfinished Shows s setting planned events dispatched coming r one n w of_plan o k f a back cut,
            is_stopped_by (subst (λ (h : History). stage w h (act.Send o k) ≡ at.Kept) (sym all_is) kept),
          )
