-- Questions with what their dispatches show are a planning.
use Rattle.std.proofs.Common.{◌≡◌, ◌∙◌, ◌+◌, ◌++◌, ℕ, Bool, true, false, suc, List, [], ◌∷◌, Option, Some, None, refl, sym, ap, subst, inl, inr, arith, length, IsSome}
use Rattle.std.proofs.lemmas.List.Sums.{fold-append}
use Rattle.std.specs.Prelude.{Result, Ok, Err, ◌≢◌}
use Rattle.job_terms.specs.Dispatches.{Dispatched, last_of}
use Rattle.job_terms.specs.Ops.{op_of}
use Rattle.jobs.specs.declared.ending.Ending.{Ending}
use Rattle.jobs.specs.declared.ending.Ending.TheVariants as ending
use Rattle.list_walk.specs.Pages.{Gathered, IsRefusedPage, Walk, gathered_from, gathered_with, new_walk, nothing, refusal_of, with_page}
use Rattle.run_promise.specs.Planning as planning
use Rattle.run_promise.specs.Planning.{Need}
use Rattle.run_promise.specs.Schedule.{HasReply}
use Rattle.s3_model.specs.declared.answers.Class.{Class}
use Rattle.s3_model.specs.declared.answers.Listed.{Listed}
use Rattle.s3_model.specs.declared.answers.Reply.{Reply}
use Rattle.s3_model.specs.declared.answers.Reply.TheVariants as reply
use Rattle.s3_model.specs.declared.answers.Why.TheVariants as why
use Rattle.s3_model.specs.declared.faults.BadListing.{BadListing}
use Rattle.s3_model.specs.declared.requests.Ask.{Ask}
use Rattle.s3_model.specs.declared.requests.Ask.TheVariants as ask
use Rattle.s3_model.specs.declared.requests.Op.{Op}
use Rattle.s3_model.specs.Talks.{Talk}
use Rattle.shared_lemmas.proofs.Clashes.{false_true, none_is_some}
use Rattle.shared_lemmas.proofs.Lists.{head_is, no_middle, tail_is}
use Rattle.planning_questions.specs.Answers.{said_by}
use Rattle.planning_questions.specs.Listings.{EndsTheListing, PageFits, Lists}
use Rattle.planning_questions.specs.Planned.{IsAskedFor, ListingsArePlanned, PlansFrom, QuestionsArePlanned, ShowQuestions, ShowsQuestion}
use Rattle.planning_questions.specs.Questions.{Answers, Question}
use Rattle.planning_questions.specs.declared.halt.Halt.{Halt}
use Rattle.planning_questions.specs.declared.halt.Halt.TheVariants as halt
use Rattle.planning_questions.proofs.PageLemmas.{gained, ok_not_err}

-- ---- the last page

same_end : {X : Type 0} (xs ys : List X) (x y : X) → xs ++ x ∷ [] ≡ ys ++ y ∷ [] → (xs ≡ ys) × (x ≡ y)
same_end {X} [] [] x y e = (refl, head_is x y [] [] e)
same_end {X} [] (b ∷ ys) x y e = absurd (no_middle ys y [] (tail_is x b [] (ys ++ y ∷ []) e))
same_end {X} (a ∷ xs) [] x y e = absurd (no_middle xs x [] (sym (tail_is a y (xs ++ x ∷ []) [] e)))
same_end {X} (a ∷ xs) (b ∷ ys) x y e =
    let rest = same_end xs ys x y (tail_is a b (xs ++ x ∷ []) (ys ++ y ∷ []) e) in
    let first = head_is a b (xs ++ x ∷ []) (ys ++ y ∷ []) e in
    (ap (λ (h : X). h ∷ xs) first ∙ ap (λ (t : List X). b ∷ t) rest.0, rest.1)

none_not_some : {X : Type 0} (o : Option X) → o ≡ None → IsSome o → ⊥
none_not_some None e h = false_true h
none_not_some (Some x) e h = none_is_some x (sym e)

not_refused : (prefix : List ℕ) (pages : List Listed) (page : Listed) → refusal_of prefix (gathered_from pages) page ≡ None → ¬ (IsRefusedPage prefix (pages ++ page ∷ []))
not_refused prefix pages page none (before, last, e, some) =
    let same = same_end pages before page last e in
    none_not_some _ (subst (λ (p : Listed). refusal_of prefix (gathered_from before) p ≡ None) same.1
    (subst (λ (ps : List Listed). refusal_of prefix (gathered_from ps) page ≡ None) same.0 none)) some

-- ---- what a question does not say

no_listing : (op : Op) (e : Ending) (bad : BadListing) → ◌≡◌ {A = Result Reply Halt} (Err (halt.Listing bad)) (said_by op e) → ⊥
no_listing op (ending.Gained said) bad is = cc
no_listing op (ending.Refused status code message) bad is = cc
no_listing op (ending.Uncertain why.Memory) bad is = cc
no_listing op (ending.Uncertain reason) bad is = cc
no_listing op (ending.Cancelled reason) bad is = cc
no_listing op ending.Memory bad is = cc

not_gained : (op : Op) (e : Ending) (h : Halt) → Err h ≡ said_by op e → (said : Reply) → e ≢ ending.Gained said
not_gained op e h is said same = ok_not_err said h (sym (is ∙ ap (said_by op) same))

stranger_is : (h : Halt) → ◌≡◌ {A = Result Reply Halt} (Err h) (Err halt.Stranger) → h ≡ halt.Stranger
stranger_is h e = cc

module _ (Shows : Ask → ℕ → Talk → Class → List ℕ → Type 0) where
  no_more : (number : ℕ) (later : List Question) (cs : List Dispatched) → later ≡ [] → ShowQuestions Shows number later cs → cs ≡ []
  no_more number [] [] none shown = refl
  no_more number [] (c ∷ cs) none shown = absurd shown
  no_more number (q ∷ later) cs none shown = absurd (no_middle [] q later (sym none))

  -- a request of that need had no success
  abbrev Fails : Need → List Listed → Option (List ℕ) → Dispatched → Type 0
  Fails need pages token c = (memory : Bool) (needs : List Need) → PlansFrom Shows memory None (c ∷ []) (need ∷ needs) pages token

  failed : (X : Type 0) (need : Need) (pages : List Listed) (token : Option (List ℕ)) (next : ℕ) (c : Dispatched) (q : Question) (number : ℕ) (h : Halt) → Answers number q (Err h)
      → (((said : Reply) → q.carried.ending ≢ ending.Gained said) → Fails need pages token c) → IsAskedFor Shows {X = X} need pages token (Err h) next (c ∷ [])
  failed X need pages token next c q number h (inr other) fails = subst (λ (k : Halt). IsAskedFor Shows {X = X} need pages token (Err k) next (c ∷ [])) (sym (stranger_is h other.1)) tt
  failed X need pages token next c q number (halt.Answer cause) (inl own) fails = λ needs. fails (not_gained (op_of q.asked) q.carried.ending (halt.Answer cause) own.1) false needs
  failed X need pages token next c q number (halt.Listing bad) (inl own) fails = absurd (no_listing (op_of q.asked) q.carried.ending bad own.1)
  failed X need pages token next c q number halt.Memory (inl own) fails = λ needs. (None, fails (not_gained (op_of q.asked) q.carried.ending halt.Memory own.1) true needs)
  failed X need pages token next c q number halt.Stranger (inl own) fails = tt

  -- ---- one question

  one_planned : (number next : ℕ) (asked : Ask) (q : Question) (c : Dispatched) (result : Result Reply Halt) → q.asked ≡ asked → Answers number q result → ShowsQuestion Shows number q c
      → IsAskedFor Shows (planning.One asked) [] None result next (c ∷ [])
  one_planned number next asked q c (Ok said) is (inl own) shown =
      λ memory refused needs later plans. (shown.asks ∙ is, inl (said, shown.answered said (gained (op_of q.asked) q.carried.ending said own.1), plans))
  one_planned number next asked q c (Ok said) is (inr other) shown = absurd (ok_not_err said halt.Stranger other.1)
  one_planned number next asked q c (Err h) is answers shown =
      failed Reply (planning.One asked) [] None next c q number h answers (λ none memory needs. (shown.asks ∙ is, inr (shown.unanswered none, refl, refl)))

  pub questions_are_planned : QuestionsArePlanned Shows
  questions_are_planned number asked [] result [] came shown =
      subst (λ (r : Result Reply Halt). IsAskedFor Shows (planning.One asked) [] None r (number + 0) []) (sym came) (λ needs. (None, (refl, inr refl)))
  questions_are_planned number asked [] result (c ∷ cs) came shown = absurd shown
  questions_are_planned number asked (q ∷ later) result [] came shown = absurd shown
  questions_are_planned number asked (q ∷ later) result (c ∷ cs) came shown =
      subst (λ (all : List Dispatched). IsAskedFor Shows (planning.One asked) [] None result (number + suc (length later)) (c ∷ all)) (sym (no_more (number + 1) later cs came.1 shown.1))
      (one_planned number (number + suc (length later)) asked q c result came.0 came.2 shown.0)

  -- ---- a listing

  module _ (bucket prefix : List ℕ) (delimited : Bool) where
    abbrev need : Need
    need = planning.Listing bucket prefix delimited

    -- the walk has just these pages of the listing
    record Has (walk : Walk) (pages : List Listed) : Type 0 where
      asks : (token : Option (List ℕ)) → ask.List walk.bucket walk.prefix walk.delimited token ≡ ask.List bucket prefix delimited token
      prefix_is : walk.prefix ≡ prefix
      gathered : walk.gathered ≡ gathered_from pages

    has_more : (walk : Walk) (pages : List Listed) (page : Listed) → Has walk pages → Has (with_page walk page) (pages ++ page ∷ [])
    has_more walk pages page has = record {
      asks = has.asks;
      prefix_is = has.prefix_is;
      gathered = ap (λ (g : Gathered). gathered_with g page) has.gathered ∙ sym (fold-append gathered_with nothing pages (page ∷ []));
    }

    module _ (walk : Walk) (pages : List Listed) (has : Has walk pages) (page : Listed) (c : Dispatched) (asks : c.ask ≡ ask.List bucket prefix delimited walk.token)
        (replied : HasReply Shows c (last_of c.dispatch.attempts) (reply.Listed page)) where
      here : (o : Option BadListing) → refusal_of walk.prefix walk.gathered page ≡ o → refusal_of prefix (gathered_from pages) page ≡ o
      here o e = subst (λ (p : List ℕ). refusal_of p (gathered_from pages) page ≡ o) has.prefix_is (subst (λ (g : Gathered). refusal_of walk.prefix g page ≡ o) has.gathered e)

      fits : PageFits walk page → ¬ (IsRefusedPage prefix (pages ++ page ∷ []))
      fits fit = not_refused prefix pages page (here None fit)

      refused : (bad : BadListing) → refusal_of walk.prefix walk.gathered page ≡ Some bad → IsRefusedPage prefix (pages ++ page ∷ [])
      refused bad e = (pages, page, refl, subst (λ (o : Option BadListing). IsSome o) (sym (here (Some bad) e)) refl)

      -- more pages follow
      behind : (memory : Bool) (refused_page : Option ℕ) (needs : List Need) (cs : List Dispatched) → PageFits walk page → page.more ≡ true
          → PlansFrom Shows memory refused_page cs (need ∷ needs) (pages ++ page ∷ []) page.token → PlansFrom Shows memory refused_page (c ∷ cs) (need ∷ needs) pages walk.token
      behind memory refused_page needs cs fit more plans = (asks, inl (page, replied, inr (inl (fits fit, more, plans))))

      planned_more : (result : Result Walk Halt) (next : ℕ) (cs : List Dispatched) → PageFits walk page → page.more ≡ true → IsAskedFor Shows need (pages ++ page ∷ []) page.token result next cs
          → IsAskedFor Shows need pages walk.token result next (c ∷ cs)
      planned_more (Ok found) next cs fit more plan = λ memory refused_page needs later plans. behind memory refused_page needs (cs ++ later) fit more (plan memory refused_page needs later plans)
      planned_more (Err (halt.Answer cause)) next cs fit more plan = λ needs. behind false None needs cs fit more (plan needs)
      planned_more (Err (halt.Listing bad)) next cs fit more plan = (plan.0, plan.1, λ needs. behind false (Some plan.0) needs cs fit more (plan.2 needs))
      planned_more (Err halt.Memory) next cs fit more plan = λ needs. ((plan needs).0, behind true (plan needs).0 needs cs fit more (plan needs).1)
      planned_more (Err halt.Stranger) next cs fit more plan = tt

      -- memory ran out in taking the page: refused or not, the last or not
      memory_behind : (o : Option BadListing) (more : Bool) → refusal_of walk.prefix walk.gathered page ≡ o → page.more ≡ more → (needs : List Need)
          → (refused_page : Option ℕ) × PlansFrom Shows true refused_page (c ∷ []) (need ∷ needs) pages walk.token
      memory_behind (Some bad) more e m needs = (Some c.dispatch.job.number, (asks, inl (page, replied, inl (refused bad e, refl, refl))))
      memory_behind None true e m needs = (None, behind true None needs [] e m (refl, inr refl))
      memory_behind None false e m needs = (None, (asks, inl (page, replied, inr (inr (fits e, m, (refl, inr refl))))))

      planned_last : (number : ℕ) (result : Result Walk Halt) → c.dispatch.job.number ≡ number → EndsTheListing walk page result → IsAskedFor Shows need pages walk.token result (number + 1) (c ∷ [])
      planned_last number result is (inl (fit, none, ok)) =
          subst (λ (r : Result Walk Halt). IsAskedFor Shows need pages walk.token r (number + 1) (c ∷ [])) (sym ok)
          (λ memory refused_page needs later plans. (asks, inl (page, replied, inr (inr (fits fit, none, plans)))))
      planned_last number result is (inr (inl (bad, e, err))) =
          subst (λ (r : Result Walk Halt). IsAskedFor Shows need pages walk.token r (number + 1) (c ∷ [])) (sym err)
          (number, refl, λ needs. (asks, inl (page, replied, inl (refused bad e, refl, ap (λ (n : ℕ). Some n) (sym is)))))
      planned_last number result is (inr (inr err)) =
          subst (λ (r : Result Walk Halt). IsAskedFor Shows need pages walk.token r (number + 1) (c ∷ [])) (sym err)
          (λ needs. memory_behind _ _ refl refl needs)

    planned : (number : ℕ) (walk : Walk) (pages : List Listed) (qs : List Question) (cs : List Dispatched) (result : Result Walk Halt) → Has walk pages → Lists number walk qs result → ShowQuestions Shows number qs cs
        → IsAskedFor Shows need pages walk.token result (number + length qs) cs
    planned number walk pages [] [] result has lists shown =
        subst (λ (r : Result Walk Halt). IsAskedFor Shows need pages walk.token r (number + 0) []) (sym lists) (λ needs. (None, (refl, inr refl)))
    planned number walk pages [] (c ∷ cs) result has lists shown = absurd shown
    planned number walk pages (q ∷ later) [] result has lists shown = absurd shown
    planned number walk pages (q ∷ later) (c ∷ cs) result has lists shown = elim lists.1 [
      | inl (page, brings, next) ↦
          let replied = shown.0.answered (reply.Listed page) brings.1 in
          elim next [
            | inl more ↦
                let count : (number + 1) + length later ≡ number + suc (length later) = omega arith in
                planned_more walk pages has page c asks replied result (number + suc (length later)) cs more.0 more.1
                (subst (λ (n : ℕ). IsAskedFor Shows need (pages ++ page ∷ []) page.token result n cs) count
                (planned (number + 1) (with_page walk page) (pages ++ page ∷ []) later cs result (has_more walk pages page has) more.2 shown.1))
            | inr end ↦ alone end.1 (planned_last walk pages has page c asks replied number result shown.0.number_is end.0)
          ]
      | inr (h, answers, none, is) ↦
          alone none (subst (λ (r : Result Walk Halt). IsAskedFor Shows need pages walk.token r (number + 1) (c ∷ [])) (sym is)
          (failed Walk need pages walk.token (number + 1) c q number h answers (λ unsaid memory needs. (asks, inr (shown.0.unanswered unsaid, refl, refl)))))
    ]
      where
        asks : c.ask ≡ ask.List bucket prefix delimited walk.token
        asks = shown.0.asks ∙ lists.0 ∙ has.asks walk.token

        alone : later ≡ [] → IsAskedFor Shows need pages walk.token result (number + 1) (c ∷ []) → IsAskedFor Shows need pages walk.token result (number + suc (length later)) (c ∷ cs)
        alone none plan =
            subst (λ (all : List Dispatched). IsAskedFor Shows need pages walk.token result (number + suc (length later)) (c ∷ all)) (sym (no_more (number + 1) later cs none shown.1))
            (subst (λ (rest : List Question). IsAskedFor Shows need pages walk.token result (number + suc (length rest)) (c ∷ [])) (sym none) plan)

  pub listings_are_planned : ListingsArePlanned Shows
  listings_are_planned number bucket prefix delimited qs result cs lists shown =
      planned bucket prefix delimited number (new_walk bucket prefix delimited) [] qs cs result (record { asks = λ token. refl; prefix_is = refl; gathered = refl }) lists shown
