-- Questions that ask for the needs keep to the schedule of a planning.
use Rattle.std.proofs.Common.{◌≡◌, ◌∙◌, ◌+◌, ◌<◌, ℕ, true, cond, List, [], ◌∷◌, Option, Some, None, refl, sym, subst, ap, arith, get_or, slice_get}
use Rattle.std.proofs.lemmas.Option.{slice_get-get_or}
use Rattle.std.specs.Prelude.{AllPairs, Contains, is_some, not}
use Rattle.answer_classes.specs.Showing.{Shows}
use Rattle.job_terms.specs.Dispatches.{Dispatched}
use Rattle.job_terms.specs.Ops.{IsPlanning, op_of}
use Rattle.lane_jobs.specs.Lanes.{SeenCarrier, SeenLane}
use Rattle.lane_laws.specs.Runs.{Giving, dispatched_of}
use Rattle.list_walk.specs.Pages.{IsRefusedPage}
use Rattle.run_promise.specs.Planning.{Need, PlansFor}
use Rattle.run_promise.specs.Schedule.{IsBefore, Setting, most_body, planning_of}
use Rattle.run_schedule.specs.Runs.{KeepsPlanning}
use Rattle.s3_model.specs.Talks.{WireLog}
use Rattle.s3_model.specs.declared.answers.Listed.{Listed}
use Rattle.s3_model.specs.declared.outcomes.JobId.{JobId}
use Rattle.s3_model.specs.declared.requests.Ask.{Ask}
use Rattle.shared_lemmas.proofs.Members.{index_of}
use Rattle.trace_laws.proofs.Givings.{map_at}
use Rattle.trace_laws.proofs.Own.{own_names}
use Rattle.planning_laws.proofs.Asked.{AreOf, are_of, asked_for, of_place}
use Rattle.planning_laws.proofs.Carrying.{IsOf}
use Rattle.planning_laws.proofs.Places.{HaveNames, all_at, names_of}
use Rattle.planning_laws.proofs.Reading.{Shown, all_shown}
use Rattle.planning_laws.specs.Asking.{AskFor}
use Rattle.planning_laws.specs.Laws.{Course, IsCourse, QuestionsAreShown, QuestionsKeepPlanning}
use Rattle.planning_questions.specs.Planned.{ShowQuestions}
use Rattle.planning_questions.specs.Questions.{Question, trace_of}

-- ---- the givings of a course are those of its questions

module _ {W : Type 0} (seen : W → Option WireLog) (carrier : SeenCarrier) (s : Setting) (befores afters : List (SeenLane W)) (course : Course) (is : IsCourse seen carrier s befores afters course) where
  names : HaveNames 0 course.questions
  names = names_of (trace_of 0 course.questions) (own_names seen carrier (trace_of 0 course.questions) befores afters is.joined) 0 course.questions (all_at course.questions)

  read : Shown course.logs [] 0 0 course.questions
  read = all_shown course.questions course.logs names

  pub course_of : AreOf 0 course.questions course.givings
  course_of = are_of carrier (trace_of 0 course.questions) course.givings course.logs course.notes is.has_givings.lanes is.has_givings.each 0 course.questions read.all course.givings (all_at course.questions) read.placed
      (is.has_givings.journal.shown ∙ read.is) (λ g h. h)

-- ---- they keep to the schedule

module _ (qs : List Question) (gs : List Giving) (all : AreOf 0 qs gs) where
  pub at_place : (k : ℕ) (c : Dispatched) → slice_get (dispatched_of gs) k ≡ Some c → (q : Question) × (g : Giving) × IsOf k q g × (g.of ≡ c)
  at_place k c e =
      let g = map_at (λ (x : Giving). x.of) gs k c e in
      let at = of_place 0 qs gs all k g.0 g.1 in
      let same : 0 + k ≡ k = omega arith in
      (at.q, g.0, subst (λ (m : ℕ). IsOf m at.q g.0) same at.is, g.2)

  -- what is said of each
  pub each_of : (P : Dispatched → Type 0) → ((n : ℕ) (q : Question) (g : Giving) → IsOf n q g → P g.of) → (c : Dispatched) → Contains (dispatched_of gs) c → P c
  each_of P holds c known =
      let place = index_of (dispatched_of gs) c known in
      let at = at_place place.0 c place.1 in
      subst P at.3 (holds place.0 at.0 at.1 at.2)

  pub no_task : (c : Dispatched) → Contains (dispatched_of gs) c → c.dispatch.job.task ≡ None
  no_task = each_of (λ (c : Dispatched). c.dispatch.job.task ≡ None) (λ n q g of. ap (λ (j : JobId). j.task) of.job)

  pub questions_of : (c : Dispatched) → Contains (dispatched_of gs) c → IsPlanning c.ask
  questions_of = each_of (λ (c : Dispatched). IsPlanning c.ask) (λ n q g of. subst IsPlanning (sym of.ask_is) of.planning)

  -- of each two the first came before the second was given
  pub pairs : (R : Dispatched → Dispatched → Type 0) → ((m n : ℕ) (q r : Question) (g h : Giving) → m < n → IsOf m q g → IsOf n r h → R g.of h.of) → AllPairs R (dispatched_of gs)
  pairs R holds i j d less inside =
      let a = at_place i (get_or (dispatched_of gs) i d) (slice_get-get_or (dispatched_of gs) i d (omega arith)) in
      let b = at_place j (get_or (dispatched_of gs) j d) (slice_get-get_or (dispatched_of gs) j d inside) in
      subst (λ (x : Dispatched). R (get_or (dispatched_of gs) i d) x) b.3 (subst (λ (x : Dispatched). R x b.1.of) a.3 (holds i j a.0 b.0 a.1 b.1 less a.2 b.2))

  pub come_before : AllPairs (λ (a b : Dispatched). IsBefore a.dispatch.came_at b.dispatch.given_at) (dispatched_of gs)
  come_before = pairs (λ (a b : Dispatched). IsBefore a.dispatch.came_at b.dispatch.given_at) (λ m n q r g h less a b.
      subst (λ (o : Option ℕ). IsBefore o h.of.dispatch.given_at) (sym a.came_at) (subst (λ (k : ℕ). m + m + 1 < k) (sym b.given_at) (omega arith)))

  abbrev IsNumbered : ℕ → Dispatched → Type 0
  IsNumbered k c = (c.dispatch.job ≡ record { task = None; op = op_of c.ask; number = k }) × (c.dispatch.lane ≡ 0)

  pub numbered : (k : ℕ) (c : Dispatched) → slice_get (dispatched_of gs) k ≡ Some c → IsNumbered k c
  numbered k c e =
      let at = at_place k c e in
      subst (λ (x : Dispatched). IsNumbered k x) at.3 (at.2.job ∙ ap (λ (a : Ask). record { task = None; op = op_of a; number = k }) (sym at.2.ask_is), at.2.lane)

-- all of them are jobs of the planning
pub all_planning : (n : ℕ) (qs : List Question) (gs : List Giving) → AreOf n qs gs → planning_of (dispatched_of gs) ≡ dispatched_of gs
all_planning n [] [] all = refl
all_planning n [] (g ∷ gs) all = absurd all
all_planning n (q ∷ qs) [] all = absurd all
all_planning n (q ∷ qs) (g ∷ gs) all =
    ap (λ (task : Option ℕ). cond (not (is_some task)) (g.of ∷ planning_of (dispatched_of gs)) (planning_of (dispatched_of gs))) (ap (λ (j : JobId). j.task) all.0.job)
    ∙ ap (λ (cs : List Dispatched). g.of ∷ cs) (all_planning (n + 1) qs gs all.1)

module _ (IsRefused : (prefix : List ℕ) → List Listed → Type 0) (MemoryRanOut : Type 0) (refused_page : Option ℕ) (needs : List Need) (s : Setting) (qs : List Question) (gs : List Giving) (all : AreOf 0 qs gs) where
  abbrev cs : List Dispatched
  cs = dispatched_of gs

  pub keeps : AskFor IsRefused MemoryRanOut refused_page needs qs → KeepsPlanning Shows s (PlansFor Shows IsRefused MemoryRanOut refused_page needs) cs
  keeps asks =
      let none_else = all_planning 0 qs gs all in record {
        plans = subst (PlansFor Shows IsRefused MemoryRanOut refused_page needs) (sym none_else) (asked_for IsRefused MemoryRanOut refused_page 0 qs gs needs [] None all asks);
        planned = λ c known of_none. each_of qs gs all (λ (d : Dispatched). (d.limit ≡ most_body) × (d.body ≡ [])) (λ n q g of. (of.limit, of.body)) c known;
        numbered = λ k c e. numbered qs gs all k c (subst (λ (ds : List Dispatched). slice_get ds k ≡ Some c) none_else e);
        one_by_one = subst (λ (ds : List Dispatched). AllPairs (λ (a b : Dispatched). IsBefore a.dispatch.came_at b.dispatch.given_at) ds) (sym none_else) (come_before qs gs all);
        questions = λ c known of_none. questions_of qs gs all c known;
        dry = λ c is_dry known. no_task qs gs all c known;
      }

pub keeps_planning : {W : Type 0} (seen : W → Option WireLog) → QuestionsKeepPlanning seen
keeps_planning seen carrier s befores afters course needs wanting refused_page is asks =
    keeps IsRefusedPage (wanting ≡ true) refused_page needs s course.questions course.givings (course_of seen carrier s befores afters course is) asks

show_questions : (n : ℕ) (qs : List Question) (gs : List Giving) → AreOf n qs gs → ShowQuestions Shows n qs (dispatched_of gs)
show_questions n [] [] all = tt
show_questions n [] (g ∷ gs) all = absurd all
show_questions n (q ∷ qs) [] all = absurd all
show_questions n (q ∷ qs) (g ∷ gs) all = (
  record { asks = all.0.ask_is; number_is = ap (λ (j : JobId). j.number) all.0.job; answered = all.0.answered; unanswered = all.0.unanswered },
  show_questions (n + 1) qs gs all.1,
)

pub are_shown : {W : Type 0} (seen : W → Option WireLog) → QuestionsAreShown seen
are_shown seen carrier s befores afters course is = show_questions 0 course.questions course.givings (course_of seen carrier s befores afters course is)
