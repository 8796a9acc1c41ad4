-- Questions that were answered one after the other ask for what a command needs.
use Rattle.std.proofs.Common.{◌≡◌, ◌∙◌, ◌+◌, ◌++◌, ◌⊎◌, ℕ, Bool, true, false, List, [], ◌∷◌, Option, Some, None, refl, sym, ap, subst, inl, inr, map, IsSome}
use Rattle.std.proofs.lemmas.List.Sums.{fold-append}
use Rattle.std.specs.Prelude.{Result, Ok, Err, ◌≢◌}
use Rattle.job_terms.specs.Ops.{op_of}
use Rattle.jobs.specs.declared.ending.Ending.{Ending}
use Rattle.jobs.specs.declared.ending.Ending.TheVariants as ending
use Rattle.lane_laws.specs.Runs.{RanOut}
use Rattle.list_walk.specs.Pages.{Gathered, IsRefusedPage, Walk, gathered_from, gathered_with, new_walk, nothing, refusal_of, with_page}
use Rattle.planning_laws.specs.Asking.{AskOn}
use Rattle.planning_questions.specs.Questions as laws
use Rattle.planning_questions.specs.Answers.{said_by}
use Rattle.planning_questions.specs.Listings.{EndsTheListing, Lists, PageFits}
use Rattle.planning_questions.specs.Questions.{Answers, AsksOnce, Question, trace_of}
use Rattle.planning_questions.specs.declared.halt.Halt.{Halt}
use Rattle.planning_questions.specs.declared.halt.Halt.TheVariants as halt
use Rattle.run_promise.specs.Planning as planning
use Rattle.run_promise.specs.Planning.{Need}
use Rattle.run_traces.specs.Traces.{Gave, RunTrace, Took}
use Rattle.s3_model.specs.declared.answers.Listed.{Listed}
use Rattle.s3_model.specs.declared.answers.Reply.{Reply}
use Rattle.s3_model.specs.declared.answers.Reply.TheVariants as reply
use Rattle.s3_model.specs.declared.faults.BadListing.{BadListing}
use Rattle.s3_model.specs.declared.requests.Ask.{Ask}
use Rattle.s3_model.specs.declared.requests.Ask.TheVariants as ask
use Rattle.s3_model.specs.declared.requests.Op.{Op}
use Rattle.shared_lemmas.proofs.Clashes.{none_is_some}
use Rattle.shared_lemmas.proofs.Lists.{head_is, no_middle, tail_is}
use Rattle.shared_lemmas.proofs.Members.{Has}

-- ---- the questions of the laws

abbrev pub law_of : Question → laws.Question
law_of q = record { asked = q.asked; carried = q.carried }

abbrev pub laws_of : List Question → List laws.Question
laws_of questions = map law_of questions

pub same_trace : (number : ℕ) (questions : List Question) → laws.trace_of number (laws_of questions) ≡ trace_of number questions
same_trace number [] = refl
same_trace number (q ∷ later) = ap (λ (t : RunTrace). t ++ Took 0 q.carried ∷ Gave 0 (laws.question_job number q.asked) ∷ []) (same_trace (number + 1) later)

-- ---- the last page

same_end : {X : Type 0} (xs ys : List X) (x y : X) → xs ++ x ∷ [] ≡ ys ++ y ∷ [] → (xs ≡ ys) × (x ≡ y)
same_end {X} [] [] x y e = (refl, head_is x y [] [] e)
same_end {X} [] (b ∷ ys) x y e = absurd (no_middle ys y [] (tail_is x b [] (ys ++ y ∷ []) e))
same_end {X} (a ∷ xs) [] x y e = absurd (no_middle xs x [] (sym (tail_is a y (xs ++ x ∷ []) [] e)))
same_end {X} (a ∷ xs) (b ∷ ys) x y e =
    let rest = same_end xs ys x y (tail_is a b (xs ++ x ∷ []) (ys ++ y ∷ []) e) in
    let first = head_is a b (xs ++ x ∷ []) (ys ++ y ∷ []) e in
    (ap (λ (h : X). h ∷ xs) first ∙ ap (λ (t : List X). b ∷ t) rest.0, rest.1)

none_not_some : {X : Type 0} (o : Option X) → o ≡ None → IsSome o → ⊥
none_not_some None e h = cc
none_not_some (Some x) e h = none_is_some x (sym e)

not_refused : (prefix : List ℕ) (pages : List Listed) (page : Listed) → refusal_of prefix (gathered_from pages) page ≡ None → ¬ (IsRefusedPage prefix (pages ++ page ∷ []))
not_refused prefix pages page none (before, last, e, some) =
    let same = same_end pages before page last e in
    none_not_some _ (subst (λ (p : Listed). refusal_of prefix (gathered_from before) p ≡ None) same.1
    (subst (λ (ps : List Listed). refusal_of prefix (gathered_from ps) page ≡ None) same.0 none)) some

-- ---- what an ending says

gained_or : (e : Ending) → ((said : Reply) × (e ≡ ending.Gained said)) ⊎ ((said : Reply) → e ≢ ending.Gained said)
gained_or (ending.Gained said) = inl (said, refl)
gained_or (ending.Refused status code message) = inr (λ said e. cc)
gained_or (ending.Uncertain reason) = inr (λ said e. cc)
gained_or (ending.Cancelled reason) = inr (λ said e. cc)
gained_or ending.Memory = inr (λ said e. cc)

ok_no_err : (said : Reply) (h : Halt) → ◌≡◌ {A = Result Reply Halt} (Err h) (Ok said) → ⊥
ok_no_err said h e = cc

not_gained : (op : Op) (e : Ending) (h : Halt) → Err h ≡ said_by op e → (said : Reply) → e ≢ ending.Gained said
not_gained op e h is said same = ok_no_err said h (is ∙ ap (said_by op) same)

same_halt : (h k : Halt) → ◌≡◌ {A = Result Reply Halt} (Err h) (Err k) → h ≡ k
same_halt h k e = cc

ran_no_gain : (e : Ending) (said : Reply) → e ≡ ending.Gained said → RanOut e → ⊥
ran_no_gain e said is (inl memory) = cc
ran_no_gain e said is (inr memory) = cc

ran_says : (op : Op) (e : Ending) → RanOut e → said_by op e ≡ Err halt.Memory
ran_says op e (inl memory) = ap (said_by op) memory
ran_says op e (inr memory) = ap (said_by op) memory

-- a question that failed so, or a stranger
fails_so : (number : ℕ) (q : Question) (h : Halt) → Answers number q (Err h) → h ≢ halt.Stranger → Err h ≡ said_by (op_of q.asked) q.carried.ending
fails_so number q h (inl own) none = own.1
fails_so number q h (inr other) none = absurd (none (same_halt h halt.Stranger other.1))

-- ---- one question

module _ (Ran : Type 0) where
  abbrev pub Asks : (page : Option ℕ) → (number : ℕ) → List Question → List Need → (pages : List Listed) → (token : Option (List ℕ)) → Type 0
  Asks page number questions = AskOn IsRefusedPage Ran page number (laws_of questions)

  one_by : (number : ℕ) (asked : Ask) (q : Question) → q.asked ≡ asked → Asks None number (q ∷ []) (planning.One asked ∷ []) [] None
  one_by number asked q is = (is, elim (gained_or q.carried.ending) [ inl (said, e) ↦ inl (said, e, (refl, inl refl)) | inr none ↦ inr (none, refl, refl) ])

  pub one_asked : (number : ℕ) (asked : Ask) (questions : List Question) (result : Result Reply Halt) → AsksOnce number asked questions result → (result ≡ Err halt.Memory → Ran)
      → Asks None number questions (planning.One asked ∷ []) [] None
  one_asked number asked [] result is ran = (refl, inr (ran is))
  one_asked number asked (q ∷ later) result is ran =
      subst (λ (rest : List Question). Asks None number (q ∷ rest) (planning.One asked ∷ []) [] None) (sym is.1) (one_by number asked q is.0)

  -- ---- a listing

  module _ (bucket prefix : List ℕ) (delimited : Bool) where
    abbrev need : Need
    need = planning.Listing bucket prefix delimited

    -- the walk has just these pages of the listing
    record HasPages (walk : Walk) (pages : List Listed) : Type 0 where
      asks : (token : Option (List ℕ)) → ask.List walk.bucket walk.prefix walk.delimited token ≡ ask.List bucket prefix delimited token
      prefix_is : walk.prefix ≡ prefix
      gathered : walk.gathered ≡ gathered_from pages

    has_more : (walk : Walk) (pages : List Listed) (page : Listed) → HasPages walk pages → HasPages (with_page walk page) (pages ++ page ∷ [])
    has_more walk pages page has = record {
      asks = has.asks;
      prefix_is = has.prefix_is;
      gathered = ap (λ (g : Gathered). gathered_with g page) has.gathered ∙ sym (fold-append gathered_with nothing pages (page ∷ []));
    }

    abbrev AsksFrom : (number : ℕ) → Walk → (pages : List Listed) → List Question → Type 0
    AsksFrom number walk pages questions = (page : Option ℕ) × Asks page number questions (need ∷ []) pages walk.token

    module _ (number : ℕ) (walk : Walk) (pages : List Listed) (has : HasPages walk pages) (q : Question) (asks : q.asked ≡ ask.List bucket prefix delimited walk.token) (page : Listed)
        (gains : q.carried.ending ≡ ending.Gained (reply.Listed page)) where
      here : (o : Option BadListing) → refusal_of walk.prefix walk.gathered page ≡ o → refusal_of prefix (gathered_from pages) page ≡ o
      here o e = subst (λ (p : List ℕ). refusal_of p (gathered_from pages) page ≡ o) has.prefix_is (subst (λ (g : Gathered). refusal_of walk.prefix g page ≡ o) has.gathered e)

      fits : PageFits walk page → ¬ (IsRefusedPage prefix (pages ++ page ∷ []))
      fits fit = not_refused prefix pages page (here None fit)

      refused : (bad : BadListing) → refusal_of walk.prefix walk.gathered page ≡ Some bad → IsRefusedPage prefix (pages ++ page ∷ [])
      refused bad e = (pages, page, refl, subst (λ (o : Option BadListing). IsSome o) (sym (here (Some bad) e)) refl)

      behind : (later : List Question) → PageFits walk page → page.more ≡ true → AsksFrom (number + 1) (with_page walk page) (pages ++ page ∷ []) later → AsksFrom number walk pages (q ∷ later)
      behind later fit more rest = (rest.0, (asks, inl (page, gains, inr (inl (fits fit, more, rest.1)))))

      memory_behind : Ran → (o : Option BadListing) (more : Bool) → refusal_of walk.prefix walk.gathered page ≡ o → page.more ≡ more → AsksFrom number walk pages (q ∷ [])
      memory_behind ran (Some bad) more e m = (Some number, (asks, inl (page, gains, inl (refused bad e, refl, refl))))
      memory_behind ran None true e m = behind [] e m (None, (refl, inr ran))
      memory_behind ran None false e m = (None, (asks, inl (page, gains, inr (inr (fits e, m, (refl, inl refl))))))

      ends_asked : (result : Result Walk Halt) → (result ≡ Err halt.Memory → Ran) → EndsTheListing walk page result → AsksFrom number walk pages (q ∷ [])
      ends_asked result ran (inl (fit, none, ok)) = (None, (asks, inl (page, gains, inr (inr (fits fit, none, (refl, inl refl))))))
      ends_asked result ran (inr (inl (bad, e, err))) = (Some number, (asks, inl (page, gains, inl (refused bad e, refl, refl))))
      ends_asked result ran (inr (inr err)) = memory_behind (ran err) _ _ refl refl

    asked_from : (number : ℕ) (walk : Walk) (pages : List Listed) (questions : List Question) (result : Result Walk Halt) → HasPages walk pages → Lists number walk questions result → result ≢ Err halt.Stranger
        → (result ≡ Err halt.Memory → Ran) → AsksFrom number walk pages questions
    asked_from number walk pages [] result has lists own ran = (None, (refl, inr (ran lists)))
    asked_from number walk pages (q ∷ later) result has lists own ran = elim lists.1 [
      | inl (page, brings, next) ↦ elim next [
        | inl more ↦
            behind number walk pages has q asks page brings.1 later more.0 more.1
            (asked_from (number + 1) (with_page walk page) (pages ++ page ∷ []) later result (has_more walk pages page has) more.2 own ran)
        | inr end ↦ alone end.1 (ends_asked number walk pages has q asks page brings.1 result ran end.0)
      ]
      | inr (h, answers, none, is) ↦
          let known = fails_so number q h answers (λ e. own (is ∙ ap (λ (k : Halt). Err k) e)) in
          alone none (None, (asks, inr (not_gained (op_of q.asked) q.carried.ending h known, refl, refl)))
    ]
      where
        asks : q.asked ≡ ask.List bucket prefix delimited walk.token
        asks = lists.0 ∙ has.asks walk.token

        alone : later ≡ [] → AsksFrom number walk pages (q ∷ []) → AsksFrom number walk pages (q ∷ later)
        alone none asked = subst (λ (rest : List Question). AsksFrom number walk pages (q ∷ rest)) (sym none) asked

    -- a listing asks for what it needs, and names the page that was refused
    pub listing_asked : (questions : List Question) (result : Result Walk Halt) → Lists 0 (new_walk bucket prefix delimited) questions result → result ≢ Err halt.Stranger → (result ≡ Err halt.Memory → Ran)
        → (page : Option ℕ) × Asks page 0 questions (need ∷ []) [] None
    listing_asked questions result lists own ran = asked_from 0 (new_walk bucket prefix delimited) [] questions result (record { asks = λ token. refl; prefix_is = refl; gathered = refl }) lists own ran

-- ---- memory that ran out for a question

pub one_ran : (number : ℕ) (asked : Ask) (questions : List Question) (result : Result Reply Halt) → AsksOnce number asked questions result → result ≢ Err halt.Stranger → (q : Question) → Has questions q → RanOut q.carried.ending
    → result ≡ Err halt.Memory
one_ran number asked [] result is own q known out = absurd known
one_ran number asked (first ∷ later) result is own q (inr known) out = absurd (subst (λ (rest : List Question). Has rest q) is.1 known)
one_ran number asked (first ∷ later) result (asks, none, inr other) own q (inl same) out = absurd (own other.1)
one_ran number asked (first ∷ later) result (asks, none, inl mine) own q (inl same) out =
    mine.1 ∙ ran_says (op_of first.asked) first.carried.ending (subst (λ (x : Question). RanOut x.carried.ending) (sym same) out)

pub listing_ran : (number : ℕ) (walk : Walk) (questions : List Question) (result : Result Walk Halt) → Lists number walk questions result → result ≢ Err halt.Stranger → (q : Question) → Has questions q → RanOut q.carried.ending
    → result ≡ Err halt.Memory
listing_ran number walk [] result lists own q known out = absurd known
listing_ran number walk (first ∷ later) result lists own q known out = elim lists.1 [
  | inl (page, brings, next) ↦ elim known [
    | inl same ↦ absurd (ran_no_gain first.carried.ending (reply.Listed page) brings.1 (subst (λ (x : Question). RanOut x.carried.ending) (sym same) out))
    | inr more ↦ elim next [
      | inl goes ↦ listing_ran (number + 1) (with_page walk page) later result goes.2 own q more out
      | inr end ↦ absurd (subst (λ (rest : List Question). Has rest q) end.1 more)
    ]
  ]
  | inr (h, answers, none, is) ↦ elim known [
    | inl same ↦
        let failed = fails_so number first h answers (λ e. own (is ∙ ap (λ (k : Halt). Err k) e)) in
        let says = ran_says (op_of first.asked) first.carried.ending (subst (λ (x : Question). RanOut x.carried.ending) (sym same) out) in
        is ∙ ap (λ (k : Halt). Err k) (same_halt h halt.Memory (failed ∙ says))
    | inr more ↦ absurd (subst (λ (rest : List Question). Has rest q) none more)
  ]
]
