-- Each giving is that of its question: what it asks, how it ended, and whether its last talk has a reply.
use Rattle.std.proofs.Common.{◌≡◌, ◌∙◌, ◌+◌, ◌<◌, ◌++◌, ℕ, true, List, [], ◌∷◌, Option, Some, None, refl, sym, subst, ap, inl, inr, arith, length, map, append_assoc}
use Rattle.std.specs.Prelude.{Contains, IfSome, unwrap_or}
use Rattle.answer_classes.specs.Showing.{Shows}
use Rattle.attempts.specs.Payloads.{body_of}
use Rattle.job_terms.specs.Attempts.{mark_of}
use Rattle.job_terms.specs.Dispatches.{Attempt, last_of}
use Rattle.job_terms.specs.Ops.{IsPlanning}
use Rattle.jobs.specs.Endings.{SeenCarried}
use Rattle.jobs.specs.Holders.{Holder}
use Rattle.jobs.specs.Jobs.{SeenJob}
use Rattle.jobs.specs.declared.ending.Ending.{Ending}
use Rattle.jobs.specs.declared.ending.Ending.TheVariants as ending
use Rattle.lane_journals.proofs.Endings.{ends_as, in_its_lane, one_of}
use Rattle.lane_journals.specs.Journals.{AreOfLanes}
use Rattle.lane_jobs.specs.Lanes.{Ends, KeepsCell, SeenCarrier, class_ending, limit_of, reason_of}
use Rattle.lane_laws.specs.Runs.{Giving}
use Rattle.run_promise.specs.Schedule.{HasReply, most_body}
use Rattle.run_traces.proofs.Splits.{same_split}
use Rattle.run_traces.proofs.Steps.{entries_grow, entry_count, gave_counted, took_counted}
use Rattle.run_traces.specs.Traces.{Gave, RunStep, RunTrace, Took}
use Rattle.s3_model.specs.Classes.{is_tried_again}
use Rattle.s3_model.specs.Documents.{document_of}
use Rattle.s3_model.specs.Talks.{Note, Talk}
use Rattle.s3_model.specs.declared.answers.Class.{Class}
use Rattle.s3_model.specs.declared.answers.Class.TheVariants as class
use Rattle.s3_model.specs.declared.answers.Reply.{Reply}
use Rattle.s3_model.specs.declared.outcomes.Reason.{Reason}
use Rattle.s3_model.specs.declared.requests.Ask.{Ask}
use Rattle.s3_model.specs.declared.requests.Ask.TheVariants as ask
use Rattle.s3_model.specs.declared.tries.Mark.TheVariants as mark
use Rattle.shared_lemmas.proofs.Clashes.{false_true, none_is_some, some_is}
use Rattle.shared_lemmas.proofs.Lists.{head_is, tail_is, no_cons, no_nil}
use Rattle.shared_lemmas.proofs.Members.{has}
use Rattle.task_schedule.specs.Journals.{EndsAs}
use Rattle.trace_laws.proofs.Bodies.{last_success}
use Rattle.trace_laws.specs.Journals.{IsGivingOf, StandsIn, TellsOf}
use Rattle.planning_laws.proofs.Places.{QuestionAt}
use Rattle.planning_laws.proofs.Reading.{IsPlaced}
use Rattle.planning_laws.specs.Asking.{Gains, GainsNone}
use Rattle.planning_questions.specs.Questions.{Question, question_job}

-- the giving of the question of that number
pub record IsOf (n : ℕ) (q : Question) (g : Giving) : Type 0 where
  pub job : g.of.dispatch.job ≡ (question_job n q.asked).id
  pub lane : g.of.dispatch.lane ≡ 0
  pub given_at : g.of.dispatch.given_at ≡ n + n
  pub came_at : g.of.dispatch.came_at ≡ Some (n + n + 1)
  pub earlier : g.of.dispatch.earlier ≡ 0
  pub ask_is : g.of.ask ≡ q.asked
  pub limit : g.of.limit ≡ most_body
  pub body : g.of.body ≡ []
  pub planning : IsPlanning q.asked
  pub ended : g.ended ≡ q.carried.ending
  pub unstopped : g.gave ≡ None
  pub answered : (said : Reply) → Gains q said → HasReply Shows g.of (last_of g.of.dispatch.attempts) said
  pub unanswered : GainsNone q → (said : Reply) → HasReply Shows g.of (last_of g.of.dispatch.attempts) said → ⊥

-- ---- steps

gave_lane : (lane other : ℕ) (a b : SeenJob) → ◌≡◌ {A = RunStep} (Gave lane a) (Gave other b) → lane ≡ other
gave_lane lane other a b e = cc

gave_job : (lane other : ℕ) (a b : SeenJob) → ◌≡◌ {A = RunStep} (Gave lane a) (Gave other b) → a ≡ b
gave_job lane other a b e = cc

took_carried : (lane other : ℕ) (c d : SeenCarried) → ◌≡◌ {A = RunStep} (Took lane c) (Took other d) → c ≡ d
took_carried lane other c d e = cc

above : (m n : ℕ) → n ≡ m + 1 → m < n
above m n e = omega arith

-- ---- requests of the planning

planning_body : (asked : Ask) → IsPlanning asked → body_of asked [] ≡ []
unfolding document_of
planning_body (ask.Head bucket key) is = refl
planning_body (ask.List bucket prefix delimited token) is = refl
planning_body ask.Buckets is = refl
planning_body asked is = absurd is

planning_limit : (asked : Ask) (length : ℕ) → IsPlanning asked → unwrap_or (limit_of asked length) most_body ≡ most_body
planning_limit (ask.Head bucket key) length is = refl
planning_limit (ask.List bucket prefix delimited token) length is = refl
planning_limit ask.Buckets length is = refl
planning_limit asked length is = absurd is

-- ---- the last attempt

last_mark : (tries : List Attempt) (classes : List Class) → map (λ (attempt : Attempt). attempt.mark) tries ≡ map mark_of classes → (a : Attempt) → last_of tries ≡ Some a → (c : Class) × (last_of classes ≡ Some c) × (a.mark ≡ mark_of c)
last_mark [] classes e a last = absurd (none_is_some a last)
last_mark (x ∷ tries) [] e a last = absurd (no_cons x.mark (map (λ (attempt : Attempt). attempt.mark) tries) e)
last_mark (x ∷ []) (c ∷ []) e a last = (c, refl, ap (λ (y : Attempt). y.mark) (sym (some_is x a last)) ∙ head_is x.mark (mark_of c) [] [] e)
last_mark (x ∷ []) (c ∷ d ∷ classes) e a last = absurd (no_nil (mark_of d) (map mark_of classes) (tail_is x.mark (mark_of c) [] (map mark_of (d ∷ classes)) e))
last_mark (x ∷ y ∷ tries) (c ∷ []) e a last = absurd (no_cons y.mark (map (λ (attempt : Attempt). attempt.mark) tries) (tail_is x.mark (mark_of c) (map (λ (attempt : Attempt). attempt.mark) (y ∷ tries)) [] e))
last_mark (x ∷ y ∷ tries) (c ∷ d ∷ classes) e a last = last_mark (y ∷ tries) (d ∷ classes) (tail_is x.mark (mark_of c) (map (λ (attempt : Attempt). attempt.mark) (y ∷ tries)) (map mark_of (d ∷ classes)) e) a last

success_of : (c : Class) → mark_of c ≡ mark.Success → (said : Reply) × (c ≡ class.Success said)
success_of (class.Success said) e = (said, refl)
success_of (class.Refusal code message) e = cc
success_of (class.Uncertain why) e = cc

-- a job whose last attempt succeeded gained its reply
gained_by : (made most : ℕ) (gave : Option Reason) (classes : List Class) (ended : Ending) (said : Reply) → Ends made most gave classes ended → last_of classes ≡ Some (class.Success said) → ended ≡ ending.Gained said
gained_by made most gave classes ended said (inl by) last = by.ending_is ∙ ap (λ (c : Class). class_ending by.status c) (some_is by.shown (class.Success said) (sym by.last ∙ last))
gained_by made most gave classes ended said (inr (inl by)) last = absurd (none_is_some (class.Success said) (sym (ap (λ (cs : List Class). last_of cs) by.none_made) ∙ last))
gained_by made most gave classes ended said (inr (inr by)) last = absurd (false_true (subst (λ (o : Option Class). IfSome o (λ shown. is_tried_again shown ≡ true)) last by.goes_on))

no_cell : (o : Option Holder) → KeepsCell None o → (gave : Option Reason) → IfSome gave (λ reason. reason_of o ≡ Some reason) → gave ≡ None
no_cell None keeps None h = refl
no_cell None keeps (Some reason) h = absurd (none_is_some reason h)
no_cell (Some cell) keeps gave h = absurd keeps

first_of : (o : Option Reason) (P Q : Reason → Type 0) → IfSome o (λ reason. P reason × Q reason) → IfSome o P
first_of None P Q h = tt
first_of (Some reason) P Q h = h.0

module _ (carrier : SeenCarrier) (trace : RunTrace) (givings : List Giving) (logs : ℕ → List Talk) (notes : ℕ → List Note) (lanes : AreOfLanes carrier.endpoint carrier.keys carrier.attempts givings logs notes)
    (n : ℕ) (q : Question) (at : QuestionAt trace n q) (g : Giving) (known : Contains givings g) (placed : IsPlaced n g.of.dispatch) where
  abbrev job : SeenJob
  job = question_job n q.asked

  -- ---- its job and its outcome are those of the question

  module _ (of : IsGivingOf carrier trace g) where
    abbrev s : StandsIn trace g.of.dispatch of.job of.carried
    s = of.stands

    abbrev came : RunTrace
    came = s.between ++ Gave g.of.dispatch.lane of.job ∷ s.before

    given_same : ◌≡◌ {A = RunStep} (Gave g.of.dispatch.lane of.job) (Gave 0 job)
    given_same =
        let split = same_split entry_count entries_grow (s.later ++ Took g.of.dispatch.lane of.carried ∷ s.between) (at.later ++ Took 0 q.carried ∷ []) (Gave g.of.dispatch.lane of.job) (Gave 0 job) s.before at.before
        (above _ _ (gave_counted g.of.dispatch.lane of.job s.before)) (above _ _ (gave_counted 0 job at.before))
        (append_assoc s.later (Took g.of.dispatch.lane of.carried ∷ s.between) (Gave g.of.dispatch.lane of.job ∷ s.before) ∙ sym s.is ∙ at.is ∙ sym (append_assoc at.later (Took 0 q.carried ∷ []) (Gave 0 job ∷ at.before)))
        (sym s.given_at ∙ placed.given_at ∙ sym at.entries) in
        split.step_is

    taken_same : ◌≡◌ {A = RunStep} (Took g.of.dispatch.lane of.carried) (Took 0 q.carried)
    taken_same =
        let split = same_split entry_count entries_grow s.later at.later (Took g.of.dispatch.lane of.carried) (Took 0 q.carried) came (Gave 0 job ∷ at.before)
        (above _ _ (took_counted g.of.dispatch.lane of.carried came)) (above _ _ (took_counted 0 q.carried (Gave 0 job ∷ at.before)))
        (sym s.is ∙ at.is)
        (some_is (entry_count came) (n + n + 1) (sym s.came_at ∙ placed.came_at) ∙ sym (gave_counted 0 job at.before ∙ ap (λ (k : ℕ). k + 1) at.entries)) in
        split.step_is

    same_job : of.job ≡ job
    same_job = gave_job g.of.dispatch.lane 0 of.job job given_same

    same_carried : of.carried ≡ q.carried
    same_carried = took_carried g.of.dispatch.lane 0 of.carried q.carried taken_same

    same_lane : g.of.dispatch.lane ≡ 0
    same_lane = gave_lane g.of.dispatch.lane 0 of.job job given_same

    marks_are : map (λ (attempt : Attempt). attempt.mark) g.of.dispatch.attempts ≡ map mark_of of.tells.by.carries.classes
    marks_are = s.marks ∙ of.tells.by.carries.marks

    earlier_is : g.of.dispatch.earlier ≡ 0
    earlier_is = s.earlier ∙ ap (λ (j : SeenJob). j.had) same_job

    tells_of : TellsOf carrier job q.carried g
    tells_of = subst (λ (c : SeenCarried). TellsOf carrier job c g) same_carried (subst (λ (j : SeenJob). TellsOf carrier j of.carried g) same_job of.tells)

    marks_of_job : (t : TellsOf carrier job q.carried g) → map (λ (attempt : Attempt). attempt.mark) g.of.dispatch.attempts ≡ map mark_of t.by.carries.classes
    marks_of_job t = s.marks ∙ ap (λ (c : SeenCarried). c.tries) same_carried ∙ t.by.carries.marks

    -- ---- its reply

    module _ (t : TellsOf carrier job q.carried g) where
      ends : EndsAs Shows g.of g.ended
      ends =
          let to = g.of.dispatch.lane in
          let one = one_of carrier.endpoint carrier.keys carrier.attempts _ (logs to) (notes to) (lanes to) g (in_its_lane carrier.endpoint carrier.keys carrier.attempts givings g (has givings g known)) in
          ends_as carrier.endpoint carrier.keys carrier.attempts g one.0 one.1 one.2

      answered : (said : Reply) → Gains q said → HasReply Shows g.of (last_of g.of.dispatch.attempts) said
      answered said e =
          let shown = subst (λ (x : Ending). EndsAs Shows g.of x) (t.ended ∙ e) ends in
          let last = last_mark g.of.dispatch.attempts t.by.carries.classes (marks_of_job t) shown.attempt shown.last in
          let success = last_success _ _ _ t.by.carries.classes q.carried.ending said t.by.carries.ends e in
          let same = some_is last.0 (class.Success said) (sym last.1 ∙ success) in
          subst (λ (o : Option Attempt). HasReply Shows g.of o said) (sym shown.last) (last.2 ∙ ap mark_of same, shown.bytes, shown.shows)

      unanswered : GainsNone q → (said : Reply) → HasReply Shows g.of (last_of g.of.dispatch.attempts) said → ⊥
      unanswered none said reply = by (last_of g.of.dispatch.attempts) refl reply
        where
          by : (o : Option Attempt) → last_of g.of.dispatch.attempts ≡ o → HasReply Shows g.of o said → ⊥
          by None e h = h
          by (Some a) e h =
              let last = last_mark g.of.dispatch.attempts t.by.carries.classes (marks_of_job t) a e in
              let success = success_of last.0 (sym last.2 ∙ h.0) in
              none success.0 (gained_by _ _ _ t.by.carries.classes q.carried.ending success.0 t.by.carries.ends (last.1 ∙ ap (λ (c : Class). Some c) success.1))

      is_of : IsOf n q g
      is_of = record {
        job = t.of_job.id;
        lane = same_lane;
        given_at = placed.given_at;
        came_at = placed.came_at;
        earlier = earlier_is;
        ask_is = t.of_job.ask_is ∙ t.by.asks.2;
        limit = t.of_job.limit ∙ ap (λ (a : Ask). unwrap_or (limit_of a 0) most_body) t.by.asks.2 ∙ planning_limit q.asked 0 t.by.asks.0;
        body = t.of_job.body ∙ ap (λ (a : Ask). body_of a []) t.by.asks.2 ∙ planning_body q.asked t.by.asks.0;
        planning = t.by.asks.0;
        ended = t.ended;
        unstopped = no_cell q.carried.job.cell t.same.cell g.gave (first_of g.gave _ _ t.gave);
        answered = answered;
        unanswered = unanswered;
      }

  pub giving_is_of : IsGivingOf carrier trace g → IsOf n q g
  giving_is_of of = is_of of (tells_of of)
