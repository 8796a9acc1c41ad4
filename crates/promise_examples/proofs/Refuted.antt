-- Runs with one thing changed are refused.
use Rattle.shared_lemmas.proofs.Lists.{head_is, no_cons, no_middle, tail_is}
use Rattle.std.proofs.Common.{◌≡◌, ◌∙◌, ◌⊎◌, ◌<◌, ◌≤◌, ◌++◌, ℕ, Bool, true, false, List, [], ◌∷◌, Option, Some, None, refl, sym, ap, subst, inl, inr, Contains, length, filter_map, slice_get, arith}
use Rattle.std.specs.Prelude.{codes}
use Rattle.std.specs.Cmp.Lexicographic.{nat_list_cmp_total}
use Rattle.std.specs.FinMap.{get, empty}
use Rattle.s3_model.specs.declared.requests.Ask.{Ask}
use Rattle.s3_model.specs.declared.requests.Op.TheVariants as op
use Rattle.s3_model.specs.declared.answers.Class.{Class}
use Rattle.s3_model.specs.declared.answers.Class.TheVariants as class
use Rattle.s3_model.specs.declared.answers.Why.TheVariants as why
use Rattle.s3_model.specs.declared.answers.Class.TheVariants as class
use Rattle.s3_model.specs.declared.answers.Why.TheVariants as why
use Rattle.s3_model.specs.declared.answers.Listed.{Listed}
use Rattle.s3_model.specs.declared.outcomes.JobId.{JobId}
use Rattle.s3_model.specs.declared.outcomes.Event.TheVariants as entry
use Rattle.s3_model.specs.declared.tasks.Task.{Task}
use Rattle.s3_model.specs.declared.tries.Mark.{Mark}
use Rattle.s3_model.specs.declared.tries.Mark.TheVariants as mark
use Rattle.s3_model.specs.Talks.{Talk, Note, Ending, Finished, Moment, Pause, Began}
use Rattle.run_promise.specs.Carried.{IsCarried, MayStop}
use Rattle.job_terms.specs.Attempts.{IsSaid, Numbered, SaysAll, pause_of}
use Rattle.run_promise.specs.Dispatches.{IsCut, IsFailing, IsSuccessLast}
use Rattle.job_terms.specs.Dispatches.{Attempt, Dispatched, dispatches, last_of}
use Rattle.run_promise.specs.Schedule.{Setting, Gained, IsBeforeAny, IsSchedule, IsStopped, IsTaskAsk, bytes_of, gained_before, is_small, source_bytes}
use Rattle.shared_lemmas.proofs.Clashes.{false_true as never}
use Rattle.shared_lemmas.proofs.Maps.{get-insert_same, text_exact}
use Rattle.promise_examples.specs.GivenAgain.{put_job, bytes}
use Rattle.promise_examples.specs.Reading.{Reads, class_by, signed_body}
use Rattle.promise_examples.specs.Runs.{Example}
use Rattle.promise_examples.specs.Refused as specs
use Rattle.promise_examples.specs.Refused.{IsRefused, IsRefusedWith, WiresAreRefused, JobsAreRefused, setting, task, path, stored_at, lost_at, denied_at}
use Rattle.promise_examples.proofs.Carrying.{same_again}
use Rattle.promise_examples.proofs.Concrete.{has, contains_of, each, none_is_some, some_is}
use Rattle.promise_examples.proofs.Readings.{reads, shown_by, same_mark, refusal_success}
use Rattle.promise_examples.proofs.Shown.{made, Whatever, of_shown, alone}

-- ---- lists and notes

first : {X : Type 0} (x : X) (xs : List X) → Contains (x ∷ xs) x
first x xs = contains_of (x ∷ xs) x (inl refl)

moments : (a b : ℕ) → Moment a ≡ Moment b → a ≡ b
moments a b e = cc

began_moment : (a : ℕ) → Began ≡ Moment a → ⊥
began_moment a e = cc

pause_moment : (a b : ℕ) → Pause a ≡ Moment b → ⊥
pause_moment a b e = cc

-- the talk that begins first begins at the first moment
pub at_first : (moment : ℕ) (later : List Note) (front : List Note) (seconds : ℕ) (rest : List Note) → Moment moment ∷ Began ∷ later ≡ front ++ Moment seconds ∷ Began ∷ rest → ¬ (Contains front Began)
    → (moment ≡ seconds) × (later ≡ rest) × (front ≡ [])
at_first moment later [] seconds rest e quiet = (moments moment seconds (head_is _ _ _ _ e), tail_is _ _ _ _ (tail_is _ _ _ _ e), refl)
at_first moment later (x ∷ []) seconds rest e quiet = absurd (began_moment seconds (head_is _ _ _ _ (tail_is _ _ _ _ e)))
at_first moment later (x ∷ y ∷ front) seconds rest e quiet = absurd (quiet (contains_of (x ∷ y ∷ front) Began (inr (inl (sym (head_is _ _ _ _ (tail_is _ _ _ _ e)))))))

-- a pause that is noted nowhere
not_paused : (extra : List ℕ) (pause : ℕ) → [] ≡ extra ++ pause ∷ [] → ⊥
not_paused extra pause e = no_middle extra pause [] e

other_pause : (extra : List ℕ) → 2 ∷ [] ≡ extra ++ 1 ∷ [] → ⊥
other_pause [] e = numbers (head_is _ _ _ _ e)
  where
    numbers : ◌≡◌ {A = ℕ} 2 1 → ⊥
    numbers is = omega arith
other_pause (x ∷ extra) e = no_middle extra 1 [] (tail_is _ _ _ _ e)

behind_pause : (seconds : ℕ) (front : List Note) (moment : ℕ) (rest : List Note) → Pause seconds ∷ Moment 6 ∷ Began ∷ [] ≡ front ++ Moment moment ∷ Began ∷ rest → seconds ∷ [] ≡ filter_map pause_of front
behind_pause seconds [] moment rest e = absurd (pause_moment seconds moment (head_is _ _ _ _ e))
behind_pause seconds (x ∷ []) moment rest e = ap (λ (note : Note). filter_map pause_of (note ∷ [])) (head_is _ _ _ _ e)
behind_pause seconds (x ∷ y ∷ []) moment rest e = absurd (began_moment moment (head_is _ _ _ _ (tail_is _ _ _ _ (tail_is _ _ _ _ e))))
behind_pause seconds (x ∷ y ∷ z ∷ front) moment rest e = absurd (no_middle front (Moment moment) (Began ∷ rest) (tail_is _ _ _ _ (tail_is _ _ _ _ (tail_is _ _ _ _ e))))

other_bytes : 1 ∷ 3 ∷ [] ≡ bytes → ⊥
other_bytes e = numbers (head_is _ _ _ _ (tail_is _ _ _ _ e))
  where
    numbers : ◌≡◌ {A = ℕ} 3 2 → ⊥
    numbers is = omega arith

refusal_uncertain : mark.Refusal ≡ mark.Uncertain → ⊥
refusal_uncertain e = cc

-- ---- a Put of the file

tries_are : (j k : JobId) (l m : ℕ) (t u : List Mark) → Some (entry.Came j l t) ≡ Some (entry.Came k m u) → t ≡ u
tries_are j k l m t u e = cc

module _ (page_of : List ℕ → Listed) where
  abbrev Shows : Ask → ℕ → Talk → Class → List ℕ → Type 0
  Shows = Reads page_of

  abbrev NoPlans : List Dispatched → Type 0
  NoPlans planning = planning ≡ []

  abbrev Sched : Example → List Dispatched → List Dispatched → Type 0
  Sched e xs coming = IsSchedule Shows e.setting NoPlans xs coming

  abbrev Carried : Example → List Dispatched → List Dispatched → Type 0
  Carried e xs coming = IsCarried Shows signed_body [] 80 e.setting e.journal e.logs e.notes xs coming

  -- no reading of the jobs meets both
  abbrev Refutes : (Plans : List Dispatched → Type 0) → Example → List Dispatched → Type 0
  Refutes Plans e xs = (coming : List Dispatched) → IsSchedule Shows e.setting Plans xs coming → Carried e xs coming → ⊥

  pub refute_with : (Plans : List Dispatched → Type 0) (e : Example) → Whatever (dispatches e.journal e.logs) (Refutes Plans e) → IsRefusedWith page_of Plans e
  refute_with Plans e all dispatched coming schedule carried = of_shown (dispatches e.journal e.logs) (Refutes Plans e) all dispatched carried.shown coming schedule carried

  pub refute : (e : Example) → Whatever (dispatches e.journal e.logs) (Refutes NoPlans e) → IsRefused page_of e
  refute e all = refute_with NoPlans e all

  -- ---- a single Put

  abbrev put_as : List Attempt → Ask → List ℕ → ℕ → ℕ → Dispatched
  put_as attempts asked body limit size = made (record { job = put_job; lane = 0; given_at = 0; came_at = Some 1; earlier = 0; is_second = false; attempts = attempts }) asked body limit size

  stored_bytes : bytes_of (get setting.held path) ≡ bytes
  stored_bytes = ap bytes_of (get-insert_same nat_list_cmp_total text_exact empty path (record { bytes = bytes; micros = 0 }))

  -- what a task of this plan asks with a Put
  put_body : (gained : Gained) (of_task : Task) (piece count number : ℕ) (asked : Ask) (body : List ℕ) → Some task ≡ Some of_task
      → IsTaskAsk gained of_task (record { number = 0; bytes = source_bytes setting.held of_task.source; piece = piece; count = count }) of_task.kind (is_small setting of_task) op.Put number asked body → body ≡ bytes
  put_body gained of_task piece count number asked body is asks =
      let here : IsTaskAsk gained task (record { number = 0; bytes = source_bytes setting.held task.source; piece = piece; count = count }) task.kind (is_small setting task) op.Put number asked body =
      subst (λ (t : Task). IsTaskAsk gained t (record { number = 0; bytes = source_bytes setting.held t.source; piece = piece; count = count }) t.kind (is_small setting t) op.Put number asked body) (sym (some_is task of_task is)) asks in
      here.3 ∙ stored_bytes

  module _ (attempts : List Attempt) (asked : Ask) (body : List ℕ) (limit size : ℕ) (coming : List Dispatched) where
    abbrev c : Dispatched
    c = put_as attempts asked body limit size

    abbrev known : Contains (c ∷ []) c
    known = first c []

    body_is : IsSchedule Shows setting (λ planning. planning ≡ []) (c ∷ []) coming → body ≡ bytes
    body_is schedule = let asks = schedule.asks c 0 known refl in put_body (gained_before Shows (c ∷ []) 0) asks.0 asks.1 asks.2 0 asked body asks.3 asks.7

    behind : IsSchedule Shows setting (λ planning. planning ≡ []) (c ∷ []) coming → (front later : List Dispatched) (d : Dispatched) → coming ≡ front ++ d ∷ later → (later ≡ []) × (c ≡ d)
    behind schedule front later d e = alone c coming schedule.is_coming front d later e

    -- nothing stops it
    no_stop : IsSchedule Shows setting (λ planning. planning ≡ []) (c ∷ []) coming → MayStop Shows signed_body [] 80 setting coming c → ⊥
    no_stop schedule may = elim may.2 [
      | inl is_cut ↦ uncut is_cut.1 (behind schedule is_cut.0 is_cut.1 c is_cut.2).0 is_cut.3
      | inr before ↦ elim before [
        | inl file ↦ never file
        | inr other ↦ other.3 (ap (λ (d : Dispatched). d.dispatch.job) (sym (behind schedule other.1.0 other.1.1 other.0 other.1.2).1))
      ]
    ]
      where
        uncut : (later : List Dispatched) → later ≡ [] → IsCut Shows 2 c later (IsStopped setting (Some 0) ⊎ IsFailing Shows 2 (Some 0) (IsStopped setting (Some 0)) later) → ⊥
        uncut later none (inl again) = has [] again.0 (subst (λ (xs : List Dispatched). Contains xs again.0) none again.1)
        uncut later none (inr stopped) = elim stopped.4 [ inl e ↦ never e | inr failing ↦ subst (λ (xs : List Dispatched). IsFailing Shows 2 (Some 0) (IsStopped setting (Some 0)) xs) none failing ]

  -- ---- talks

  abbrev noted_once : Dispatched → Attempt → ℕ → Numbered
  noted_once of_c attempt number = record { of = of_c; number = number; attempt = attempt }

  -- an answered talk that says the request at a moment
  pub text_of : (of_c : Dispatched) (attempt : Attempt) (number moment seconds : ℕ) (sent : List ℕ) → attempt.talk.sent ≡ moment ∷ sent → attempt.talk.ending ≡ Finished → IsSaid Shows signed_body [] 80 (noted_once of_c attempt number) seconds
      → (moment ≡ seconds) × (sent ≡ of_c.body)
  text_of of_c attempt number moment seconds sent is finished said =
      let shown : Class = shown_by page_of of_c.ask attempt.talk in
      let says = said.text shown _ (reads page_of of_c.ask of_c.limit attempt.talk) in
      let all : attempt.talk.sent ≡ seconds ∷ of_c.body = subst (λ (ending : Ending). SaysAll Shows signed_body [] 80 (class_by page_of ending of_c.ask attempt.talk.got) attempt.talk.sent (seconds ∷ of_c.body) → attempt.talk.sent ≡ seconds ∷ of_c.body) (sym finished) (λ e. e) says in
      (head_is _ _ _ _ (sym is ∙ all), tail_is _ _ _ _ (sym is ∙ all))

  on_dropped_talk : (asked : Ask) (body : List ℕ) (limit size : ℕ) (coming : List Dispatched) → Sched specs.dropped_talk (put_as [] asked body limit size ∷ []) coming → Carried specs.dropped_talk (put_as [] asked body limit size ∷ []) coming → ⊥
  on_dropped_talk asked body limit size coming schedule carried =
      let here = carried.comes (c [] asked body limit size coming) (known [] asked body limit size coming) in
      let place : 1 ≡ here.0 = some_is 1 here.0 here.2 in
      let tries : mark.Success ∷ [] ≡ here.1 = tries_are _ _ _ _ _ _ (ap (slice_get specs.dropped_talk.journal) place ∙ here.3) in
      let long : 1 ≡ length here.1 = ap length tries in
      let none : length here.1 ≡ 0 = here.4 in
      omega arith

  on_further_talk : (asked : Ask) (body : List ℕ) (limit size : ℕ) (coming : List Dispatched) → Sched specs.further_talk (put_as (record { mark = mark.Success; talk = stored_at 5 } ∷ []) asked body limit size ∷ []) coming → Carried specs.further_talk (put_as (record { mark = mark.Success; talk = stored_at 5 } ∷ []) asked body limit size ∷ []) coming → ⊥
  on_further_talk asked body limit size coming schedule carried =
      let long : ◌≡◌ {A = ℕ} 2 1 = ap length (carried.gained 0) in omega arith

  on_other_moment : (asked : Ask) (body : List ℕ) (limit size : ℕ) (coming : List Dispatched) → Sched specs.other_moment (put_as (record { mark = mark.Success; talk = stored_at 6 } ∷ []) asked body limit size ∷ []) coming → Carried specs.other_moment (put_as (record { mark = mark.Success; talk = stored_at 6 } ∷ []) asked body limit size ∷ []) coming → ⊥
  on_other_moment asked body limit size coming schedule carried =
      let n = (carried.noted 0).2 in
      let at_five = at_first 5 [] n.0 n.1 n.2 n.4 n.5 in
      let text = text_of (put_as (record { mark = mark.Success; talk = stored_at 6 } ∷ []) asked body limit size) (record { mark = mark.Success; talk = stored_at 6 }) 1 6 n.1 bytes refl refl n.8 in
      let five = at_five.0 in let six = text.0 in omega arith

  on_other_body : (asked : Ask) (body : List ℕ) (limit size : ℕ) (coming : List Dispatched) → Sched specs.other_body (put_as (record { mark = mark.Success; talk = (record { host = []; port = 80; sent = 5 ∷ 1 ∷ 3 ∷ []; got = []; ending = Finished }) } ∷ []) asked body limit size ∷ []) coming → Carried specs.other_body (put_as (record { mark = mark.Success; talk = (record { host = []; port = 80; sent = 5 ∷ 1 ∷ 3 ∷ []; got = []; ending = Finished }) } ∷ []) asked body limit size ∷ []) coming → ⊥
  on_other_body asked body limit size coming schedule carried =
      let n = (carried.noted 0).2 in
      let at_five = at_first 5 [] n.0 n.1 n.2 n.4 n.5 in
      let text = text_of (put_as (record { mark = mark.Success; talk = (record { host = []; port = 80; sent = 5 ∷ 1 ∷ 3 ∷ []; got = []; ending = Finished }) } ∷ []) asked body limit size) (record { mark = mark.Success; talk = (record { host = []; port = 80; sent = 5 ∷ 1 ∷ 3 ∷ []; got = []; ending = Finished }) }) 1 5 n.1 (1 ∷ 3 ∷ []) refl refl n.8 in
      other_bytes (text.1 ∙ body_is (record { mark = mark.Success; talk = (record { host = []; port = 80; sent = 5 ∷ 1 ∷ 3 ∷ []; got = []; ending = Finished }) } ∷ []) asked body limit size coming schedule)

  on_partly_sent : (asked : Ask) (body : List ℕ) (limit size : ℕ) (coming : List Dispatched) → Sched specs.partly_sent (put_as (record { mark = mark.Success; talk = (record { host = []; port = 80; sent = 5 ∷ 1 ∷ []; got = []; ending = Finished }) } ∷ []) asked body limit size ∷ []) coming → Carried specs.partly_sent (put_as (record { mark = mark.Success; talk = (record { host = []; port = 80; sent = 5 ∷ 1 ∷ []; got = []; ending = Finished }) } ∷ []) asked body limit size ∷ []) coming → ⊥
  on_partly_sent asked body limit size coming schedule carried =
      let n = (carried.noted 0).2 in
      let at_five = at_first 5 [] n.0 n.1 n.2 n.4 n.5 in
      let text = text_of (put_as (record { mark = mark.Success; talk = (record { host = []; port = 80; sent = 5 ∷ 1 ∷ []; got = []; ending = Finished }) } ∷ []) asked body limit size) (record { mark = mark.Success; talk = (record { host = []; port = 80; sent = 5 ∷ 1 ∷ []; got = []; ending = Finished }) }) 1 5 n.1 (1 ∷ []) refl refl n.8 in
      let long : ◌≡◌ {A = ℕ} 1 2 = ap length (text.1 ∙ body_is (record { mark = mark.Success; talk = (record { host = []; port = 80; sent = 5 ∷ 1 ∷ []; got = []; ending = Finished }) } ∷ []) asked body limit size coming schedule) in omega arith

  on_other_host : (asked : Ask) (body : List ℕ) (limit size : ℕ) (coming : List Dispatched) → Sched specs.other_host (put_as (record { mark = mark.Success; talk = (record { host = 120 ∷ []; port = 80; sent = 5 ∷ bytes; got = []; ending = Finished }) } ∷ []) asked body limit size ∷ []) coming → Carried specs.other_host (put_as (record { mark = mark.Success; talk = (record { host = 120 ∷ []; port = 80; sent = 5 ∷ bytes; got = []; ending = Finished }) } ∷ []) asked body limit size ∷ []) coming → ⊥
  on_other_host asked body limit size coming schedule carried =
      no_cons 120 [] (carried.noted 0).2.8.to_host

  on_other_mark : (asked : Ask) (body : List ℕ) (limit size : ℕ) (coming : List Dispatched) → Sched specs.other_mark (put_as (record { mark = mark.Refusal; talk = stored_at 5 } ∷ []) asked body limit size ∷ []) coming → Carried specs.other_mark (put_as (record { mark = mark.Refusal; talk = stored_at 5 } ∷ []) asked body limit size ∷ []) coming → ⊥
  on_other_mark asked body limit size coming schedule carried =
      elim (carried.marks (put_as (record { mark = mark.Refusal; talk = stored_at 5 } ∷ []) asked body limit size) 0 (record { mark = mark.Refusal; talk = stored_at 5 }) (first (put_as (record { mark = mark.Refusal; talk = stored_at 5 } ∷ []) asked body limit size) []) refl) [
        | inl shown ↦ refusal_success (shown.3 ∙ sym (same_mark (shown_by page_of asked (stored_at 5)) shown.0 shown.2.0))
        | inr wanting ↦ refusal_uncertain wanting.1
      ]

  on_untold_talk : (asked : Ask) (body : List ℕ) (limit size : ℕ) (coming : List Dispatched) → Sched specs.untold_talk (put_as (record { mark = mark.Success; talk = stored_at 5 } ∷ []) asked body limit size ∷ []) coming → Carried specs.untold_talk (put_as (record { mark = mark.Success; talk = stored_at 5 } ∷ []) asked body limit size ∷ []) coming → ⊥
  on_untold_talk asked body limit size coming schedule carried =
      let n = (carried.noted 0).2 in
      let at_five = at_first 5 (Moment 6 ∷ Began ∷ []) n.0 n.1 n.2 n.4 n.5 in
      n.9.0 (subst (λ (notes : List Note). Contains notes Began) at_five.1 (contains_of (Moment 6 ∷ Began ∷ []) Began (inr (inl refl))))

  on_no_pause : (asked : Ask) (body : List ℕ) (limit size : ℕ) (coming : List Dispatched) → Sched specs.no_pause (put_as (record { mark = mark.Uncertain; talk = lost_at 5 } ∷ record { mark = mark.Success; talk = stored_at 6 } ∷ []) asked body limit size ∷ []) coming → Carried specs.no_pause (put_as (record { mark = mark.Uncertain; talk = lost_at 5 } ∷ record { mark = mark.Success; talk = stored_at 6 } ∷ []) asked body limit size ∷ []) coming → ⊥
  on_no_pause asked body limit size coming schedule carried =
      let n = (carried.noted 0).2 in
      let at_five = at_first 5 (Moment 6 ∷ Began ∷ []) n.0 n.1 n.2 n.4 n.5 in
      let m = n.9 in
      let at_six = at_first 6 [] m.0 m.1 m.2 (at_five.1 ∙ m.4) m.5 in
      not_paused m.3 1 (sym (ap (filter_map pause_of) at_six.2) ∙ m.6)

  on_longer_pause : (asked : Ask) (body : List ℕ) (limit size : ℕ) (coming : List Dispatched) → Sched specs.longer_pause (put_as (record { mark = mark.Uncertain; talk = lost_at 5 } ∷ record { mark = mark.Success; talk = stored_at 6 } ∷ []) asked body limit size ∷ []) coming → Carried specs.longer_pause (put_as (record { mark = mark.Uncertain; talk = lost_at 5 } ∷ record { mark = mark.Success; talk = stored_at 6 } ∷ []) asked body limit size ∷ []) coming → ⊥
  on_longer_pause asked body limit size coming schedule carried =
      let n = (carried.noted 0).2 in
      let at_five = at_first 5 (Pause 2 ∷ Moment 6 ∷ Began ∷ []) n.0 n.1 n.2 n.4 n.5 in
      let m = n.9 in
      other_pause m.3 (behind_pause 2 m.0 m.1 m.2 (at_five.1 ∙ m.4) ∙ m.6)

  on_third_attempt : (asked : Ask) (body : List ℕ) (limit size : ℕ) (coming : List Dispatched) → Sched specs.third_attempt (put_as (record { mark = mark.Uncertain; talk = lost_at 5 } ∷ record { mark = mark.Uncertain; talk = lost_at 6 } ∷ record { mark = mark.Success; talk = stored_at 8 } ∷ []) asked body limit size ∷ []) coming → Carried specs.third_attempt (put_as (record { mark = mark.Uncertain; talk = lost_at 5 } ∷ record { mark = mark.Uncertain; talk = lost_at 6 } ∷ record { mark = mark.Success; talk = stored_at 8 } ∷ []) asked body limit size ∷ []) coming → ⊥
  on_third_attempt asked body limit size coming schedule carried =
      let most : 3 ≤ 2 = carried.at_most (put_as (record { mark = mark.Uncertain; talk = lost_at 5 } ∷ record { mark = mark.Uncertain; talk = lost_at 6 } ∷ record { mark = mark.Success; talk = stored_at 8 } ∷ []) asked body limit size) (first (put_as (record { mark = mark.Uncertain; talk = lost_at 5 } ∷ record { mark = mark.Uncertain; talk = lost_at 6 } ∷ record { mark = mark.Success; talk = stored_at 8 } ∷ []) asked body limit size) []) in omega arith

  on_given_up : (asked : Ask) (body : List ℕ) (limit size : ℕ) (coming : List Dispatched) → Sched specs.given_up (put_as (record { mark = mark.Uncertain; talk = lost_at 5 } ∷ []) asked body limit size ∷ []) coming → Carried specs.given_up (put_as (record { mark = mark.Uncertain; talk = lost_at 5 } ∷ []) asked body limit size ∷ []) coming → ⊥
  on_given_up asked body limit size coming schedule carried =
      elim (carried.to_the_end (put_as (record { mark = mark.Uncertain; talk = lost_at 5 } ∷ []) asked body limit size) (record { mark = mark.Uncertain; talk = lost_at 5 }) (first (put_as (record { mark = mark.Uncertain; talk = lost_at 5 } ∷ []) asked body limit size) []) refl (class.Uncertain why.WireFailed, _, reads page_of asked limit (lost_at 5), refl)) [
        | inl all ↦ let two : ◌≡◌ {A = ℕ} 1 2 = all in omega arith
        | inr rest ↦ elim rest [ inl wanting ↦ never wanting | inr may ↦ no_stop (record { mark = mark.Uncertain; talk = lost_at 5 } ∷ []) asked body limit size coming schedule may ]
      ]

  on_never_tried : (asked : Ask) (body : List ℕ) (limit size : ℕ) (coming : List Dispatched) → Sched specs.never_tried (put_as [] asked body limit size ∷ []) coming → Carried specs.never_tried (put_as [] asked body limit size ∷ []) coming → ⊥
  on_never_tried asked body limit size coming schedule carried =
      elim (carried.silent (put_as [] asked body limit size) (first (put_as [] asked body limit size) []) refl) [ inl wanting ↦ never wanting | inr may ↦ no_stop [] asked body limit size coming schedule may ]

  on_denied_again : (asked : Ask) (body : List ℕ) (limit size : ℕ) (coming : List Dispatched) → Sched specs.denied_again (put_as (record { mark = mark.Refusal; talk = denied_at 5 } ∷ record { mark = mark.Success; talk = stored_at 6 } ∷ []) asked body limit size ∷ []) coming → Carried specs.denied_again (put_as (record { mark = mark.Refusal; talk = denied_at 5 } ∷ record { mark = mark.Success; talk = stored_at 6 } ∷ []) asked body limit size ∷ []) coming → ⊥
  on_denied_again asked body limit size coming schedule carried =
      let again = carried.again (put_as (record { mark = mark.Refusal; talk = denied_at 5 } ∷ record { mark = mark.Success; talk = stored_at 6 } ∷ []) asked body limit size) 0 (record { mark = mark.Refusal; talk = denied_at 5 }) (first (put_as (record { mark = mark.Refusal; talk = denied_at 5 } ∷ record { mark = mark.Success; talk = stored_at 6 } ∷ []) asked body limit size) []) refl (omega arith) in
      never (same_again (class.Refusal (codes "AccessDenied") []) again.0 again.2.0 ∙ again.3)

  abbrev unfinished : List Attempt → Ask → List ℕ → ℕ → ℕ → Dispatched
  unfinished attempts asked body limit size = made (record { job = put_job; lane = 0; given_at = 0; came_at = None; earlier = 0; is_second = false; attempts = attempts }) asked body limit size

  on_never_came : (asked : Ask) (body : List ℕ) (limit size : ℕ) (coming : List Dispatched) → Sched specs.never_came (unfinished [] asked body limit size ∷ []) coming → Carried specs.never_came (unfinished [] asked body limit size ∷ []) coming → ⊥
  on_never_came asked body limit size coming schedule carried =
      let here = carried.comes (unfinished [] asked body limit size) (first (unfinished [] asked body limit size) []) in none_is_some here.0 here.2

  on_came_twice : (asked : Ask) (body : List ℕ) (limit size : ℕ) (coming : List Dispatched) → Carried specs.came_twice (put_as (record { mark = mark.Success; talk = stored_at 5 } ∷ []) asked body limit size ∷ []) coming → ⊥
  on_came_twice asked body limit size coming carried =
      let here = carried.nothing_else 2 0 put_job [] refl in
      each (λ (d : Dispatched). d.dispatch.came_at ≡ Some 2 → ⊥) (put_as (record { mark = mark.Success; talk = stored_at 5 } ∷ []) asked body limit size ∷ []) (one_two, tt) here.0 here.1 here.2
    where
      one_two : ◌≡◌ {A = Option ℕ} (Some 1) (Some 2) → ⊥
      one_two e = numbers (some_is 1 2 e)
        where
          numbers : ◌≡◌ {A = ℕ} 1 2 → ⊥
          numbers is = omega arith

  abbrev in_second : List Attempt → Ask → List ℕ → ℕ → ℕ → Dispatched
  in_second attempts asked body limit size = made (record { job = put_job; lane = 1; given_at = 0; came_at = Some 1; earlier = 0; is_second = false; attempts = attempts }) asked body limit size

  on_other_lane : (asked : Ask) (body : List ℕ) (limit size : ℕ) (coming : List Dispatched) → Carried specs.other_lane (in_second (record { mark = mark.Success; talk = stored_at 5 } ∷ []) asked body limit size ∷ []) coming → ⊥
  on_other_lane asked body limit size coming carried =
      let inside : 1 < 1 = carried.lanes (in_second (record { mark = mark.Success; talk = stored_at 5 } ∷ []) asked body limit size) (first (in_second (record { mark = mark.Success; talk = stored_at 5 } ∷ []) asked body limit size) []) in omega arith

  -- ---- given again after a denial, and jobs without a talk

  abbrev giving : (given came earlier : ℕ) → (is_second : Bool) → List Attempt → Ask → List ℕ → ℕ → ℕ → Dispatched
  giving given came earlier is_second attempts asked body limit size =
      made (record { job = put_job; lane = 0; given_at = given; came_at = Some came; earlier = earlier; is_second = is_second; attempts = attempts }) asked body limit size

  on_denied_given_again : (a1 : Ask) (b1 : List ℕ) (l1 s1 : ℕ) (a2 : Ask) (b2 : List ℕ) (l2 s2 : ℕ) (coming : List Dispatched)
      → Carried specs.denied_given_again (giving 0 1 0 false (record { mark = mark.Refusal; talk = denied_at 5 } ∷ []) a1 b1 l1 s1 ∷ giving 2 3 1 true (record { mark = mark.Success; talk = stored_at 6 } ∷ []) a2 b2 l2 s2 ∷ []) coming → ⊥
  on_denied_given_again a1 b1 l1 s1 a2 b2 l2 s2 coming carried =
      let again = (carried.given_again 0 1 (giving 0 1 0 false (record { mark = mark.Refusal; talk = denied_at 5 } ∷ []) a1 b1 l1 s1) (omega arith) (omega arith) refl (record { mark = mark.Refusal; talk = denied_at 5 }) refl).0 in
      never (same_again (class.Refusal (codes "AccessDenied") []) again.0 again.2.0 ∙ again.3)

  abbrev silent : JobId → (lane given : ℕ) → Option ℕ → Ask → List ℕ → ℕ → ℕ → Dispatched
  silent job lane given came asked body limit size = made (record { job = job; lane = lane; given_at = given; came_at = came; earlier = 0; is_second = false; attempts = [] }) asked body limit size

  on_silent_never_came : (asked : Ask) (body : List ℕ) (limit size : ℕ) (coming : List Dispatched) → Carried specs.silent_never_came (silent put_job 0 0 None asked body limit size ∷ []) coming → ⊥
  on_silent_never_came asked body limit size coming carried =
      let here = carried.comes (silent put_job 0 0 None asked body limit size) (first (silent put_job 0 0 None asked body limit size) []) in none_is_some here.0 here.2

  on_silent_other_lane : (asked : Ask) (body : List ℕ) (limit size : ℕ) (coming : List Dispatched) → Carried specs.silent_other_lane (silent put_job 1 0 (Some 1) asked body limit size ∷ []) coming → ⊥
  on_silent_other_lane asked body limit size coming carried =
      let inside : 1 < 1 = carried.lanes (silent put_job 1 0 (Some 1) asked body limit size) (first (silent put_job 1 0 (Some 1) asked body limit size) []) in omega arith

  on_silent_out_of_turn : (a1 : Ask) (b1 : List ℕ) (l1 s1 : ℕ) (a2 : Ask) (b2 : List ℕ) (l2 s2 : ℕ) (coming : List Dispatched)
      → Carried specs.silent_out_of_turn (silent put_job 0 0 (Some 3) a1 b1 l1 s1 ∷ silent specs.second_put 0 1 (Some 2) a2 b2 l2 s2 ∷ []) coming → ⊥
  on_silent_out_of_turn a1 b1 l1 s1 a2 b2 l2 s2 coming carried =
      let late : 3 < 2 = carried.in_turn 0 0 1 (silent put_job 0 0 (Some 3) a1 b1 l1 s1) (omega arith) (omega arith) 2 refl in omega arith

  pub wires : WiresAreRefused page_of
  wires = record {
    dropped_talk = refute specs.dropped_talk on_dropped_talk;
    further_talk = refute specs.further_talk on_further_talk;
    other_moment = refute specs.other_moment on_other_moment;
    other_body = refute specs.other_body on_other_body;
    partly_sent = refute specs.partly_sent on_partly_sent;
    other_host = refute specs.other_host on_other_host;
    other_mark = refute specs.other_mark on_other_mark;
    untold_talk = refute specs.untold_talk on_untold_talk;
    no_pause = refute specs.no_pause on_no_pause;
    longer_pause = refute specs.longer_pause on_longer_pause;
    third_attempt = refute specs.third_attempt on_third_attempt;
    given_up = refute specs.given_up on_given_up;
    never_tried = refute specs.never_tried on_never_tried;
    denied_again = refute specs.denied_again on_denied_again;
    never_came = refute specs.never_came on_never_came;
    came_twice = refute specs.came_twice (λ asked body limit size coming schedule carried. on_came_twice asked body limit size coming carried);
    moment_beyond = refute specs.moment_beyond (λ asked body limit size coming schedule carried. no_cons _ _ (carried.unused_lanes 1 (omega arith)).1);
    other_wire = refute specs.other_wire (λ asked body limit size coming schedule carried. no_cons _ _ (carried.unused_lanes 1 (omega arith)).0);
    other_lane = refute specs.other_lane (λ asked body limit size coming schedule carried. on_other_lane asked body limit size coming carried);
    denied_given_again = refute specs.denied_given_again (λ a1 b1 l1 s1 a2 b2 l2 s2 coming schedule carried. on_denied_given_again a1 b1 l1 s1 a2 b2 l2 s2 coming carried);
    silent_never_came = refute specs.silent_never_came (λ asked body limit size coming schedule carried. on_silent_never_came asked body limit size coming carried);
    silent_other_lane = refute specs.silent_other_lane (λ asked body limit size coming schedule carried. on_silent_other_lane asked body limit size coming carried);
    silent_out_of_turn = refute specs.silent_out_of_turn (λ a1 b1 l1 s1 a2 b2 l2 s2 coming schedule carried. on_silent_out_of_turn a1 b1 l1 s1 a2 b2 l2 s2 coming carried);
  }

  -- ---- jobs

  abbrev put_at : (given came earlier : ℕ) → (is_second : Bool) → List Attempt → Ask → List ℕ → ℕ → ℕ → Dispatched
  put_at given came earlier is_second attempts asked body limit size =
      made (record { job = put_job; lane = 0; given_at = given; came_at = Some came; earlier = earlier; is_second = is_second; attempts = attempts }) asked body limit size

  -- a second giving is as the schedule lets it be
  second_giving : (s : Setting) (a b : Dispatched) (coming : List Dispatched) → IsSchedule Shows s (λ planning. planning ≡ []) (a ∷ b ∷ []) coming → a.dispatch.job ≡ b.dispatch.job
      → ¬ (IsSuccessLast (last_of a.dispatch.attempts)) × IsBeforeAny (Some b.dispatch.given_at) s.cancelled_at
  second_giving s a b coming schedule same = let is = schedule.twice 0 1 a (omega arith) (omega arith) same in (is.1, is.2)

  on_third_giving : (a1 : Ask) (b1 : List ℕ) (l1 s1 : ℕ) (a2 : Ask) (b2 : List ℕ) (l2 s2 : ℕ) (a3 : Ask) (b3 : List ℕ) (l3 s3 : ℕ) (coming : List Dispatched)
      → Sched specs.third_giving (put_at 0 1 0 false (record { mark = mark.Uncertain; talk = lost_at 5 } ∷ []) a1 b1 l1 s1 ∷ put_at 2 3 1 true [] a2 b2 l2 s2 ∷ put_at 4 5 1 true (record { mark = mark.Success; talk = stored_at 6 } ∷ []) a3 b3 l3 s3 ∷ []) coming → ⊥
  on_third_giving a1 b1 l1 s1 a2 b2 l2 s2 a3 b3 l3 s3 coming schedule =
      schedule.no_third (put_at 0 1 0 false (record { mark = mark.Uncertain; talk = lost_at 5 } ∷ []) a1 b1 l1 s1) (put_at 2 3 1 true [] a2 b2 l2 s2)
      (put_at 4 5 1 true (record { mark = mark.Success; talk = stored_at 6 } ∷ []) a3 b3 l3 s3) 0 1 2 (omega arith) (omega arith) refl refl refl refl refl

  on_again_after_success : (a1 : Ask) (b1 : List ℕ) (l1 s1 : ℕ) (a2 : Ask) (b2 : List ℕ) (l2 s2 : ℕ) (coming : List Dispatched)
      → Sched specs.again_after_success (put_at 0 1 0 false (record { mark = mark.Success; talk = stored_at 5 } ∷ []) a1 b1 l1 s1 ∷ put_at 2 3 1 true (record { mark = mark.Success; talk = stored_at 6 } ∷ []) a2 b2 l2 s2 ∷ []) coming → ⊥
  on_again_after_success a1 b1 l1 s1 a2 b2 l2 s2 coming schedule =
      (second_giving setting (put_at 0 1 0 false (record { mark = mark.Success; talk = stored_at 5 } ∷ []) a1 b1 l1 s1) (put_at 2 3 1 true (record { mark = mark.Success; talk = stored_at 6 } ∷ []) a2 b2 l2 s2) coming schedule refl).0 refl

  on_again_after_cancel : (a1 : Ask) (b1 : List ℕ) (l1 s1 : ℕ) (a2 : Ask) (b2 : List ℕ) (l2 s2 : ℕ) (coming : List Dispatched)
      → Sched specs.again_after_cancel (put_at 0 1 0 false (record { mark = mark.Uncertain; talk = lost_at 5 } ∷ []) a1 b1 l1 s1 ∷ put_at 2 3 1 true (record { mark = mark.Success; talk = stored_at 6 } ∷ []) a2 b2 l2 s2 ∷ []) coming → ⊥
  on_again_after_cancel a1 b1 l1 s1 a2 b2 l2 s2 coming schedule =
      let before : 2 < 2 = (second_giving specs.again_after_cancel.setting (put_at 0 1 0 false (record { mark = mark.Uncertain; talk = lost_at 5 } ∷ []) a1 b1 l1 s1)
      (put_at 2 3 1 true (record { mark = mark.Success; talk = stored_at 6 } ∷ []) a2 b2 l2 s2) coming schedule refl).1 in omega arith

  abbrev the_put : Ask → List ℕ → ℕ → ℕ → Dispatched
  the_put asked body limit size = put_as (record { mark = mark.Success; talk = stored_at 5 } ∷ []) asked body limit size

  on_dry_put : (asked : Ask) (body : List ℕ) (limit size : ℕ) (coming : List Dispatched) → Sched specs.dry_put (the_put asked body limit size ∷ []) coming → ⊥
  on_dry_put asked body limit size coming schedule = none_is_some 0 (sym (schedule.dry (the_put asked body limit size) refl (first (the_put asked body limit size) [])))

  -- from the threshold on no Put is asked
  no_put : (gained : Gained) (of_task : Task) (piece count number : ℕ) (asked : Ask) (body : List ℕ) → Some task ≡ Some of_task
      → IsTaskAsk gained of_task (record { number = 0; bytes = source_bytes setting.held of_task.source; piece = piece; count = count }) of_task.kind (is_small specs.at_threshold.setting of_task) op.Put number asked body → ⊥
  no_put gained of_task piece count number asked body is asks =
      subst (λ (t : Task). IsTaskAsk gained t (record { number = 0; bytes = source_bytes setting.held t.source; piece = piece; count = count }) t.kind (is_small specs.at_threshold.setting t) op.Put number asked body) (sym (some_is task of_task is)) asks

  on_at_threshold : (asked : Ask) (body : List ℕ) (limit size : ℕ) (coming : List Dispatched) → Sched specs.at_threshold (the_put asked body limit size ∷ []) coming → ⊥
  on_at_threshold asked body limit size coming schedule =
      let asks = schedule.asks (the_put asked body limit size) 0 (first (the_put asked body limit size) []) refl in
      no_put (gained_before Shows (the_put asked body limit size ∷ []) 0) asks.0 asks.1 asks.2 0 asked body asks.3 asks.7

  on_no_such_task : (asked : Ask) (body : List ℕ) (limit size : ℕ) (coming : List Dispatched) → Sched specs.no_such_task (the_put asked body limit size ∷ []) coming → ⊥
  on_no_such_task asked body limit size coming schedule =
      let asks = schedule.asks (the_put asked body limit size) 0 (first (the_put asked body limit size) []) refl in none_is_some asks.0 asks.3

  pub jobs : JobsAreRefused page_of
  jobs = record {
    third_giving = refute specs.third_giving (λ a1 b1 l1 s1 a2 b2 l2 s2 a3 b3 l3 s3 coming schedule carried. on_third_giving a1 b1 l1 s1 a2 b2 l2 s2 a3 b3 l3 s3 coming schedule);
    again_after_success = refute specs.again_after_success (λ a1 b1 l1 s1 a2 b2 l2 s2 coming schedule carried. on_again_after_success a1 b1 l1 s1 a2 b2 l2 s2 coming schedule);
    again_after_cancel = refute specs.again_after_cancel (λ a1 b1 l1 s1 a2 b2 l2 s2 coming schedule carried. on_again_after_cancel a1 b1 l1 s1 a2 b2 l2 s2 coming schedule);
    dry_put = refute specs.dry_put (λ asked body limit size coming schedule carried. on_dry_put asked body limit size coming schedule);
    at_threshold = refute specs.at_threshold (λ asked body limit size coming schedule carried. on_at_threshold asked body limit size coming schedule);
    no_such_task = refute specs.no_such_task (λ asked body limit size coming schedule carried. on_no_such_task asked body limit size coming schedule);
    needless_list = refute specs.needless_list (λ asked body limit size coming schedule carried. no_cons _ _ schedule.plans);
  }
