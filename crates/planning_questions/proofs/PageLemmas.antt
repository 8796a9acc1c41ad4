-- A listing page by page: what was asked so far, with one page more, and at its end.
use Rattle.std.proofs.Common.{◌≡◌, ◌∙◌, ◌+◌, ◌++◌, ℕ, suc, Bool, true, false, List, [], ◌∷◌, refl, sym, ap, subst, inl, inr, arith, length, append_assoc, append-nil}
use Rattle.std.proofs.lemmas.List.{length-append}
use Rattle.std.specs.Prelude.{Result, Ok, Err}
use Rattle.job_terms.specs.Ops.{op_of}
use Rattle.jobs.specs.declared.ending.Ending.{Ending}
use Rattle.jobs.specs.declared.ending.Ending.TheVariants as ending
use Rattle.list_walk.specs.Pages.{Walk, with_page}
use Rattle.s3_model.specs.declared.answers.Listed.{Listed}
use Rattle.s3_model.specs.declared.answers.Reply.{Reply}
use Rattle.s3_model.specs.declared.answers.Reply.TheVariants as reply
use Rattle.s3_model.specs.declared.answers.Why.TheVariants as why
use Rattle.s3_model.specs.declared.outcomes.Event.{Event}
use Rattle.s3_model.specs.declared.requests.Ask.{Ask}
use Rattle.s3_model.specs.declared.requests.Op.{Op}
use Rattle.run_traces.specs.Exchanges.{AreExchangesOf}
use Rattle.run_traces.specs.Traces.{Gave, RunTrace, Took, journal_of}
use Rattle.run_traces.proofs.Steps.{journal-append}
use Rattle.planning_questions.specs.Answers.{said_by}
use Rattle.planning_questions.specs.Listings.{BringsPage, IsNextPage, Lists, TakesPage, next_request}
use Rattle.planning_questions.specs.Questions.{GoesOnBy, HasQuestions, AsksOnce, Progress, Question, question_job, trace_of}
use Rattle.planning_questions.specs.declared.halt.Halt.{Halt}
use Rattle.planning_questions.specs.declared.halt.Halt.TheVariants as halt

-- ---- clashes

pub ok_not_err : {X : Type 0} (x : X) (h : Halt) → ◌≡◌ {A = Result X Halt} (Ok x) (Err h) → ⊥
ok_not_err x h e = cc

ok_is : (a b : Reply) → ◌≡◌ {A = Result Reply Halt} (Ok a) (Ok b) → a ≡ b
ok_is a b e = cc

err_is : (h k : Halt) → ◌≡◌ {A = Result Bool Halt} (Err h) (Err k) → h ≡ k
err_is h k e = cc

-- ---- what a question says

pub gained : (op : Op) (e : Ending) (said : Reply) → Ok said ≡ said_by op e → e ≡ ending.Gained said
gained op (ending.Gained other) said is = ap (λ (r : Reply). ending.Gained r) (sym (ok_is said other is))
gained op (ending.Refused status code message) said is = absurd (ok_not_err said _ is)
gained op (ending.Uncertain why.Memory) said is = absurd (ok_not_err said _ is)
gained op (ending.Uncertain reason) said is = absurd (ok_not_err said _ is)
gained op (ending.Cancelled reason) said is = absurd (ok_not_err said _ is)
gained op ending.Memory said is = absurd (ok_not_err said _ is)

module _ (number : ℕ) (walk after : Walk) where
  -- a question that was answered with a page
  pub page_came : (asked : Ask) (qs : List Question) (page : Listed) (result : Result Bool Halt) → asked ≡ next_request walk → AsksOnce number asked qs (Ok (reply.Listed page)) → TakesPage walk page after result
      → IsNextPage number walk qs after result
  page_came asked [] page result is came takes = absurd (ok_not_err (reply.Listed page) halt.Memory came)
  page_came asked (q ∷ later) page result is came takes = elim came.2 [
    | inl own ↦ (came.0 ∙ is, came.1, inl (page, (own.0, gained (op_of q.asked) q.carried.ending (reply.Listed page) own.1), takes))
    | inr other ↦ absurd (ok_not_err (reply.Listed page) halt.Stranger other.1)
  ]

  halt_same : (h k : Halt) → ◌≡◌ {A = Result Reply Halt} (Err h) (Err k) → ◌≡◌ {A = Result Bool Halt} (Err h) (Err k)
  halt_same h k e = cc

  -- and one that was not answered
  pub none_came : (asked : Ask) (qs : List Question) (h : Halt) → asked ≡ next_request walk → AsksOnce number asked qs (Err h) → IsNextPage number walk qs after (Err h)
  none_came asked [] h is came = halt_same h halt.Memory came
  none_came asked (q ∷ later) h is came = (came.0 ∙ is, came.1, inr (h, came.2, refl))

-- ---- what was done

made_both : (s t : RunTrace) (a b c : Progress) → GoesOnBy s a b → GoesOnBy t b c → GoesOnBy (t ++ s) a c
made_both s t a b c first second = record {
  exchanged = λ trace are. subst (λ (all : RunTrace). AreExchangesOf all c.lanes) (sym (append_assoc t s trace)) (second.exchanged (s ++ trace) (first.exchanged trace are));
  journaled = second.journaled ∙ ap (λ (all : List Event). all ++ journal_of t) first.journaled ∙ append_assoc a.journal (journal_of s) (journal_of t)
      ∙ ap (λ (all : List Event). a.journal ++ all) (sym (journal-append t s));
}

trace_more : (number : ℕ) (qs later : List Question) → trace_of number (qs ++ later) ≡ trace_of (number + length qs) later ++ trace_of number qs
trace_more number [] later =
    let same : number ≡ number + 0 = omega arith in
    ap (λ (n : ℕ). trace_of n later) same ∙ sym (append-nil (trace_of (number + 0) later))
trace_more number (q ∷ qs) later =
    let steps = Took 0 q.carried ∷ Gave 0 (question_job number q.asked) ∷ [] in
    let same : (number + 1) + length qs ≡ number + suc (length qs) = omega arith in
    ap (λ (all : RunTrace). all ++ steps) (trace_more (number + 1) qs later)
    ∙ append_assoc (trace_of ((number + 1) + length qs) later) (trace_of (number + 1) qs) steps
    ∙ ap (λ (n : ℕ). trace_of n later ++ (trace_of (number + 1) qs ++ steps)) same

-- what holds of the questions in one sense holds in another
pub come_as : (first next : ℕ) (before after : Progress) (P Q : List Question → Type 0) → ((qs : List Question) → P qs → Q qs) → HasQuestions first next before after P → HasQuestions first next before after Q
come_as first next before after P Q told h = record { questions = h.questions; made = h.made; next_is = h.next_is; comes_to = told h.questions h.comes_to }

-- nothing was done
made_nothing : (at : Progress) → GoesOnBy [] at at
made_nothing at = record { exchanged = λ trace are. are; journaled = sym (append-nil at.journal) }

pub none_asked : (number : ℕ) (at : Progress) (P : List Question → Type 0) → P [] → HasQuestions number number at at P
none_asked number at P holds = record { questions = []; made = made_nothing at; next_is = omega arith; comes_to = holds }

-- ---- what was asked so far

-- What more is asked as the listing goes on makes the listing whole.
pub record IsUnderway (first : ℕ) (start : Walk) (number : ℕ) (walk : Walk) (before now : Progress) : Type 0 where
  pub questions : List Question
  pub made : GoesOnBy (trace_of first questions) before now
  pub number_is : number ≡ first + length questions
  pub goes_on : (later : List Question) (result : Result Walk Halt) → Lists number walk later result → Lists first start (questions ++ later) result

pub at_first : (first : ℕ) (start walk : Walk) (before : Progress) → walk ≡ start → IsUnderway first start first walk before before
at_first first start walk before is = record {
  questions = [];
  made = made_nothing before;
  number_is = omega arith;
  goes_on = λ later result lists. subst (λ (w : Walk). Lists first w later result) is lists;
}

module _ (first : ℕ) (start : Walk) (number : ℕ) (walk : Walk) (before now : Progress) (u : IsUnderway first start number walk before now) (next : ℕ) (after : Progress) where
  joined : (qs : List Question) → GoesOnBy (trace_of number qs) now after → GoesOnBy (trace_of first (u.questions ++ qs)) before after
  joined qs made = subst (λ (steps : RunTrace). GoesOnBy steps before after) (sym (trace_more first u.questions qs))
      (made_both (trace_of first u.questions) (trace_of (first + length u.questions) qs) before now after u.made (subst (λ (n : ℕ). GoesOnBy (trace_of n qs) now after) u.number_is made))

  counted : (qs : List Question) → next ≡ number + length qs → next ≡ first + length (u.questions ++ qs)
  counted qs is = let from = u.number_is in omega (arith, length-append u.questions qs)

  -- the listing has its end
  pub finished : (result : Result Walk Halt) → HasQuestions number next now after (λ qs. Lists number walk qs result) → HasQuestions first next before after (λ qs. Lists first start qs result)
  finished result n = record {
    questions = u.questions ++ n.questions;
    made = joined n.questions n.made;
    next_is = counted n.questions n.next_is;
    comes_to = u.goes_on n.questions result n.comes_to;
  }

  -- one page more
  page_more : (after_walk : Walk) (qs : List Question) → GoesOnBy (trace_of number qs) now after → next ≡ number + length qs → IsNextPage number walk qs after_walk (Ok true) → IsUnderway first start next after_walk before after
  page_more after_walk [] made is page = absurd (ok_not_err true halt.Memory page)
  page_more after_walk (q ∷ later) made is page = elim page.2 [
    | inl (p, brings, takes) ↦ record {
      questions = u.questions ++ (q ∷ later);
      made = joined (q ∷ later) made;
      number_is = counted (q ∷ later) is;
      goes_on = λ more result lists.
          subst (λ (all : List Question). Lists first start all result) (sym (append_assoc u.questions (q ∷ later) more))
          (subst (λ (one : List Question). Lists first start (u.questions ++ (q ∷ (one ++ more))) result) (sym page.1)
          (u.goes_on (q ∷ more) result (
            page.0,
            inl (
              p,
              brings,
              inl (
                takes.0,
                sym takes.2,
                subst (λ (n : ℕ). Lists n (with_page walk p) more result) (is ∙ ap (λ (one : List Question). number + suc (length one)) page.1)
                    (subst (λ (w : Walk). Lists next w more result) takes.1 lists),
              ),
            ),
          )));
    }
    | inr (h, answers, e) ↦ absurd (ok_not_err true h e)
  ]

  pub goes_on : (after_walk : Walk) (r : Result Bool Halt) → r ≡ Ok true → HasQuestions number next now after (λ qs. IsNextPage number walk qs after_walk r) → IsUnderway first start next after_walk before after
  goes_on after_walk r is n = page_more after_walk n.questions n.made n.next_is (subst (λ (o : Result Bool Halt). IsNextPage number walk n.questions after_walk o) is n.comes_to)

  -- the last page
  last_page : (after_walk : Walk) (qs : List Question) → IsNextPage number walk qs after_walk (Ok false) → Lists number walk qs (Ok after_walk)
  last_page after_walk [] page = absurd (ok_not_err false halt.Memory page)
  last_page after_walk (q ∷ later) page = elim page.2 [
    | inl (p, brings, takes) ↦ (page.0, inl (p, brings, inr (inl (takes.0, sym takes.2, ap (λ (w : Walk). Ok w) takes.1), page.1)))
    | inr (h, answers, e) ↦ absurd (ok_not_err false h e)
  ]

  pub ends : (after_walk : Walk) (r : Result Bool Halt) → r ≡ Ok false → HasQuestions number next now after (λ qs. IsNextPage number walk qs after_walk r) → HasQuestions first next before after (λ qs. Lists first start qs (Ok after_walk))
  ends after_walk r is n =
      finished (Ok after_walk) (come_as number next now after (λ qs. IsNextPage number walk qs after_walk r) (λ qs. Lists number walk qs (Ok after_walk))
      (λ qs page. last_page after_walk qs (subst (λ (o : Result Bool Halt). IsNextPage number walk qs after_walk o) is page)) n)

  -- no page
  page_refused : (after_walk : Walk) (q : Question) (p : Listed) (h : Halt) → q.asked ≡ next_request walk → BringsPage number q p → TakesPage walk p after_walk (Err h) → Lists number walk (q ∷ []) (Err h)
  page_refused after_walk q p (halt.Listing bad) is brings takes = (is, inl (p, brings, inr (inr (inl (bad, takes, refl)), refl)))
  page_refused after_walk q p halt.Memory is brings takes = (is, inl (p, brings, inr (inr (inr refl), refl)))
  page_refused after_walk q p (halt.Answer cause) is brings takes = absurd takes
  page_refused after_walk q p halt.Stranger is brings takes = absurd takes

  walk_halt : (h k : Halt) → ◌≡◌ {A = Result Bool Halt} (Err h) (Err k) → ◌≡◌ {A = Result Walk Halt} (Err h) (Err k)
  walk_halt h k e = cc

  no_page : (after_walk : Walk) (qs : List Question) (h : Halt) → IsNextPage number walk qs after_walk (Err h) → Lists number walk qs (Err h)
  no_page after_walk [] h page = walk_halt h halt.Memory page
  no_page after_walk (q ∷ later) h page = elim page.2 [
    | inl (p, brings, takes) ↦ subst (λ (rest : List Question). Lists number walk (q ∷ rest) (Err h)) (sym page.1) (page_refused after_walk q p h page.0 brings takes)
    | inr (k, answers, e) ↦ (page.0, inr (k, answers, page.1, walk_halt h k e))
  ]

  pub fails : (after_walk : Walk) (r : Result Bool Halt) (h : Halt) → r ≡ Err h → HasQuestions number next now after (λ qs. IsNextPage number walk qs after_walk r) → HasQuestions first next before after (λ qs. Lists first start qs (Err h))
  fails after_walk r h is n =
      finished (Err h) (come_as number next now after (λ qs. IsNextPage number walk qs after_walk r) (λ qs. Lists number walk qs (Err h))
      (λ qs page. no_page after_walk qs h (subst (λ (o : Result Bool Halt). IsNextPage number walk qs after_walk o) is page)) n)

-- ---- the next page

module _ (number next : ℕ) (before now : Progress) (walk after : Walk) (asked : Ask) (is : asked ≡ next_request walk) where
  pub next_came : (answer : Result Reply Halt) (said : Reply) (page : Listed) (result : Result Bool Halt) → answer ≡ Ok said → said ≡ reply.Listed page → TakesPage walk page after result
      → HasQuestions number next before now (λ qs. AsksOnce number asked qs answer) → HasQuestions number next before now (λ qs. IsNextPage number walk qs after result)
  next_came answer said page result ok listed takes h =
      come_as number next before now (λ qs. AsksOnce number asked qs answer) (λ qs. IsNextPage number walk qs after result)
      (λ qs came. page_came number walk after asked qs page result is
      (subst (λ (r : Reply). AsksOnce number asked qs (Ok r)) listed (subst (λ (a : Result Reply Halt). AsksOnce number asked qs a) ok came)) takes) h

  pub next_failed : (answer : Result Reply Halt) (h : Halt) → answer ≡ Err h → HasQuestions number next before now (λ qs. AsksOnce number asked qs answer)
      → HasQuestions number next before now (λ qs. IsNextPage number walk qs after (Err h))
  next_failed answer h err has =
      come_as number next before now (λ qs. AsksOnce number asked qs answer) (λ qs. IsNextPage number walk qs after (Err h))
      (λ qs came. none_came number walk after asked qs h is (subst (λ (a : Result Reply Halt). AsksOnce number asked qs a) err came)) has
