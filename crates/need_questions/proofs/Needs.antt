-- Questions that were asked for a need, in front of those for the needs behind it.
use Rattle.std.proofs.Common.{◌≡◌, ◌∙◌, ◌+◌, ◌++◌, ℕ, suc, Bool, true, false, List, [], ◌∷◌, Option, Some, None, refl, sym, ap, subst, inl, inr, arith, length, IsSome}
use Rattle.std.proofs.lemmas.List.Sums.{fold-append}
use Rattle.std.specs.Prelude.{Result, Ok, Err, ◌≢◌}
use Rattle.job_terms.specs.Ops.{op_of}
use Rattle.jobs.specs.declared.ending.Ending.{Ending}
use Rattle.jobs.specs.declared.ending.Ending.TheVariants as ending
use Rattle.list_walk.specs.Pages.{Gathered, IsRefusedPage, Walk, gathered_from, gathered_with, new_walk, nothing, refusal_of, with_page}
use Rattle.planning_laws.specs.Asking.{AskOn, Gains, GainsNone}
use Rattle.planning_questions.specs.Answers.{said_by}
use Rattle.planning_questions.specs.Listings.{EndsTheListing, Lists, PageFits}
use Rattle.planning_questions.specs.Questions.{Answers, AsksOnce, Question}
use Rattle.planning_questions.specs.declared.halt.Halt.{Halt}
use Rattle.planning_questions.specs.declared.halt.Halt.TheVariants as halt
use Rattle.run_promise.specs.Planning as planning
use Rattle.run_promise.specs.Planning.{Need}
use Rattle.s3_model.specs.declared.answers.Listed.{Listed}
use Rattle.s3_model.specs.declared.answers.Reply.{Reply}
use Rattle.s3_model.specs.declared.answers.Reply.TheVariants as reply
use Rattle.s3_model.specs.declared.answers.Why.TheVariants as why
use Rattle.s3_model.specs.declared.faults.BadListing.{BadListing}
use Rattle.s3_model.specs.declared.requests.Ask.{Ask}
use Rattle.s3_model.specs.declared.requests.Ask.TheVariants as ask
use Rattle.s3_model.specs.declared.requests.Op.{Op}
use Rattle.shared_lemmas.proofs.Clashes.{none_is_some}
use Rattle.shared_lemmas.proofs.Lists.{head_is, no_middle, tail_is}

-- ---- what an ending says

ok_no_err : {X : Type 0} (x : X) (h : Halt) → ◌≡◌ {A = Result X Halt} (Ok x) (Err h) → ⊥
ok_no_err x h e = cc

same_halt : (h k : Halt) → ◌≡◌ {A = Result Reply Halt} (Err h) (Err k) → h ≡ k
same_halt h k e = cc

same_reply : (a b : Reply) → ◌≡◌ {A = Result Reply Halt} (Ok a) (Ok b) → a ≡ b
same_reply a b e = cc

-- what says a reply has gained it
gained_by : (op : Op) (e : Ending) (said : Reply) → Ok said ≡ said_by op e → e ≡ ending.Gained said
gained_by op (ending.Gained other) said is = ap (λ (r : Reply). ending.Gained r) (sym (same_reply said other is))
gained_by op (ending.Refused status code message) said is = absurd (ok_no_err said _ is)
gained_by op (ending.Uncertain why.Memory) said is = absurd (ok_no_err said _ is)
gained_by op (ending.Uncertain reason) said is = absurd (ok_no_err said _ is)
gained_by op (ending.Cancelled reason) said is = absurd (ok_no_err said _ is)
gained_by op ending.Memory said is = absurd (ok_no_err said _ is)

not_gained : (op : Op) (e : Ending) (h : Halt) → Err h ≡ said_by op e → (said : Reply) → e ≢ ending.Gained said
not_gained op e h is said same = ok_no_err said h (sym (ap (said_by op) same) ∙ sym is)

-- a question that was answered, and one that was not
answered : (number : ℕ) (q : Question) (said : Reply) → Answers number q (Ok said) → Gains q said
answered number q said (inl mine) = gained_by (op_of q.asked) q.carried.ending said mine.1
answered number q said (inr other) = absurd (ok_no_err said halt.Stranger other.1)

unanswered : (number : ℕ) (q : Question) (h : Halt) → Answers number q (Err h) → h ≢ halt.Stranger → GainsNone q
unanswered number q h (inl mine) own = not_gained (op_of q.asked) q.carried.ending h mine.1
unanswered number q h (inr other) own = absurd (own (same_halt h halt.Stranger other.1))

-- ---- refused pages

same_end : {X : Type 0} (xs ys : List X) (x y : X) → xs ++ x ∷ [] ≡ ys ++ y ∷ [] → (xs ≡ ys) × (x ≡ y)
same_end {X} [] [] x y e = (refl, head_is x y [] [] e)
same_end {X} [] (b ∷ ys) x y e = absurd (no_middle ys y [] (tail_is x b [] (ys ++ y ∷ []) e))
same_end {X} (a ∷ xs) [] x y e = absurd (no_middle xs x [] (sym (tail_is a y (xs ++ x ∷ []) [] e)))
same_end {X} (a ∷ xs) (b ∷ ys) x y e =
    let rest = same_end xs ys x y (tail_is a b (xs ++ x ∷ []) (ys ++ y ∷ []) e) in
    let first = head_is a b (xs ++ x ∷ []) (ys ++ y ∷ []) e in
    (ap (λ (h : X). h ∷ xs) first ∙ ap (λ (t : List X). b ∷ t) rest.0, rest.1)

none_not_some : {X : Type 0} (o : Option X) → o ≡ None → IsSome o → ⊥
none_not_some None e h = cc
none_not_some (Some x) e h = none_is_some x (sym e)

not_refused : (prefix : List ℕ) (pages : List Listed) (page : Listed) → refusal_of prefix (gathered_from pages) page ≡ None → ¬ (IsRefusedPage prefix (pages ++ page ∷ []))
not_refused prefix pages page none (before, last, e, some) =
    let same = same_end pages before page last e in
    none_not_some _ (subst (λ (p : Listed). refusal_of prefix (gathered_from before) p ≡ None) same.1
    (subst (λ (ps : List Listed). refusal_of prefix (gathered_from ps) page ≡ None) same.0 none)) some

-- ---- one object

-- `Ran`: memory ran out in the planning
module _ (Ran : Type 0) where
  abbrev pub Asks : (page : Option ℕ) → (number : ℕ) → List Question → List Need → Type 0
  Asks page number questions needs = AskOn IsRefusedPage Ran page number questions needs [] None

  -- behind the last of some questions, and behind one with more to come
  behind_last : (page : Option ℕ) (number : ℕ) (first later : List Question) (needs : List Need) → first ≡ [] → Asks page (number + suc (length first)) later needs → Asks page (number + 1) later needs
  behind_last page number first later needs none rest =
      let same : number + suc 0 ≡ number + 1 = omega arith in
      subst (λ (n : ℕ). Asks page n later needs) same (subst (λ (qs : List Question). Asks page (number + suc (length qs)) later needs) none rest)

  behind_more : (page : Option ℕ) (number : ℕ) (first later : List Question) (needs : List Need) → Asks page (number + suc (length first)) later needs → Asks page ((number + 1) + length first) later needs
  behind_more page number first later needs rest =
      let same : number + suc (length first) ≡ (number + 1) + length first = omega arith in subst (λ (n : ℕ). Asks page n later needs) same rest

  one_by : (page : Option ℕ) (number : ℕ) (asked : Ask) (q : Question) (said : Reply) (first later : List Question) (needs : List Need) → q.asked ≡ asked → Gains q said → first ≡ [] → Asks page (number + suc (length first)) later needs
      → Asks page number (q ∷ (first ++ later)) (planning.One asked ∷ needs)
  one_by page number asked q said first later needs is gains none rest =
      subst (λ (qs : List Question). Asks page number (q ∷ (qs ++ later)) (planning.One asked ∷ needs)) (sym none)
      (is, inl (said, gains, behind_last page number first later needs none rest))

  -- an object was told, and then the other needs were asked for
  pub one_met : (page : Option ℕ) (number : ℕ) (asked : Ask) (first later : List Question) (said : Reply) (needs : List Need) → AsksOnce number asked first (Ok said) → Asks page (number + length first) later needs
      → Asks page number (first ++ later) (planning.One asked ∷ needs)
  one_met page number asked [] later said needs is rest = absurd (ok_no_err said halt.Memory is)
  one_met page number asked (q ∷ first) later said needs is rest = one_by page number asked q said first later needs is.0 (answered number q said is.2) is.1 rest

  -- an object was not told
  pub one_failed : (number : ℕ) (asked : Ask) (questions : List Question) (h : Halt) (needs : List Need) → AsksOnce number asked questions (Err h) → h ≢ halt.Stranger → (h ≡ halt.Memory → Ran)
      → Asks None number questions (planning.One asked ∷ needs)
  one_failed number asked [] h needs is own ran = (refl, inr (ran (same_halt h halt.Memory is_reply)))
    where
      is_reply : ◌≡◌ {A = Result Reply Halt} (Err h) (Err halt.Memory)
      is_reply = is
  one_failed number asked (q ∷ later) h needs is own ran = (is.0, inr (unanswered number q h is.2 own, is.1, refl))

  -- ---- a listing

  module _ (bucket prefix : List ℕ) (delimited : Bool) (needs : List Need) where
    abbrev need : Need
    need = planning.Listing bucket prefix delimited

    -- the walk has just these pages of the listing
    record HasPages (walk : Walk) (pages : List Listed) : Type 0 where
      asks : (token : Option (List ℕ)) → ask.List walk.bucket walk.prefix walk.delimited token ≡ ask.List bucket prefix delimited token
      prefix_is : walk.prefix ≡ prefix
      gathered : walk.gathered ≡ gathered_from pages

    has_more : (walk : Walk) (pages : List Listed) (page : Listed) → HasPages walk pages → HasPages (with_page walk page) (pages ++ page ∷ [])
    has_more walk pages page has = record {
      asks = has.asks;
      prefix_is = has.prefix_is;
      gathered = ap (λ (g : Gathered). gathered_with g page) has.gathered ∙ sym (fold-append gathered_with nothing pages (page ∷ []));
    }

    has_none : HasPages (new_walk bucket prefix delimited) []
    has_none = record { asks = λ token. refl; prefix_is = refl; gathered = refl }

    abbrev On : (page : Option ℕ) → (number : ℕ) → Walk → (pages : List Listed) → List Question → Type 0
    On page number walk pages questions = AskOn IsRefusedPage Ran page number questions (need ∷ needs) pages walk.token

    module _ (walk : Walk) (pages : List Listed) (has : HasPages walk pages) (page : Listed) where
      here : (o : Option BadListing) → refusal_of walk.prefix walk.gathered page ≡ o → refusal_of prefix (gathered_from pages) page ≡ o
      here o e = subst (λ (p : List ℕ). refusal_of p (gathered_from pages) page ≡ o) has.prefix_is (subst (λ (g : Gathered). refusal_of walk.prefix g page ≡ o) has.gathered e)

      fits : PageFits walk page → ¬ (IsRefusedPage prefix (pages ++ page ∷ []))
      fits fit = not_refused prefix pages page (here None fit)

      refused : (bad : BadListing) → refusal_of walk.prefix walk.gathered page ≡ Some bad → IsRefusedPage prefix (pages ++ page ∷ [])
      refused bad e = (pages, page, refl, subst (λ (o : Option BadListing). IsSome o) (sym (here (Some bad) e)) refl)

    -- all pages came, and then the other needs were asked for
    listed_from : (at : Option ℕ) (number : ℕ) (walk : Walk) (pages : List Listed) (first later : List Question) (told : Walk) → HasPages walk pages → Lists number walk first (Ok told) → Asks at (number + length first) later needs
        → On at number walk pages (first ++ later)
    listed_from at number walk pages [] later told has lists rest = absurd (ok_no_err told halt.Memory lists)
    listed_from at number walk pages (q ∷ first) later told has lists rest = elim lists.1 [
      | inl (page, brings, next) ↦ elim next [
        | inl more ↦ (
          asks,
          inl (
            page,
            brings.1,
            inr (inl (
              fits walk pages has page more.0,
              more.1,
              listed_from at (number + 1) (with_page walk page) (pages ++ page ∷ []) first later told (has_more walk pages page has) more.2 (behind_more at number first later needs rest),
            )),
          ),
        )
        | inr end ↦ elim end.0 [
          | inl last ↦ alone end.1 (
            asks,
            inl (
              page,
              brings.1,
              inr (inr (
                fits walk pages has page last.0,
                last.1,
                behind_last at number first later needs end.1 rest,
              )),
            ),
          )
          | inr other ↦ elim other [ inl bad ↦ absurd (ok_no_err told (halt.Listing bad.0) bad.2) | inr memory ↦ absurd (ok_no_err told halt.Memory memory) ]
        ]
      ]
      | inr (h, answers, none, is) ↦ absurd (ok_no_err told h is)
    ]
      where
        asks : q.asked ≡ ask.List bucket prefix delimited walk.token
        asks = lists.0 ∙ has.asks walk.token

        alone : first ≡ [] → On at number walk pages (q ∷ later) → On at number walk pages (q ∷ (first ++ later))
        alone none asked = subst (λ (qs : List Question). On at number walk pages (q ∷ (qs ++ later))) (sym none) asked

    pub listing_met : (at : Option ℕ) (number : ℕ) (first later : List Question) (told : Walk) → Lists number (new_walk bucket prefix delimited) first (Ok told) → Asks at (number + length first) later needs
        → Asks at number (first ++ later) (need ∷ needs)
    listing_met at number first later told lists rest = listed_from at number (new_walk bucket prefix delimited) [] first later told has_none lists rest

    -- ---- a listing without an end

    abbrev Fails : (number : ℕ) → Walk → (pages : List Listed) → List Question → Type 0
    Fails number walk pages questions = (at : Option ℕ) × On at number walk pages questions

    walk_halt : (h k : Halt) → ◌≡◌ {A = Result Walk Halt} (Err h) (Err k) → h ≡ k
    walk_halt h k e = cc

    module _ (number : ℕ) (walk : Walk) (pages : List Listed) (has : HasPages walk pages) (q : Question) (asks : q.asked ≡ ask.List bucket prefix delimited walk.token) (page : Listed)
        (gains : q.carried.ending ≡ ending.Gained (reply.Listed page)) where
      memory_behind : Ran → (o : Option BadListing) (more : Bool) → refusal_of walk.prefix walk.gathered page ≡ o → page.more ≡ more → Fails number walk pages (q ∷ [])
      memory_behind ran (Some bad) more e m = (Some number, (asks, inl (page, gains, inl (refused walk pages has page bad e, refl, refl))))
      memory_behind ran None true e m = (None, (asks, inl (page, gains, inr (inl (fits walk pages has page e, m, (refl, inr ran))))))
      memory_behind ran None false e m = (None, (asks, inl (page, gains, inr (inr (fits walk pages has page e, m, (refl, inr ran))))))

      end_asked : (h : Halt) → (h ≡ halt.Memory → Ran) → EndsTheListing walk page (Err h) → Fails number walk pages (q ∷ [])
      end_asked h ran (inl last) = absurd (ok_no_err (with_page walk page) h (sym last.2))
      end_asked h ran (inr (inl (bad, e, err))) = (Some number, (asks, inl (page, gains, inl (refused walk pages has page bad e, refl, refl))))
      end_asked h ran (inr (inr err)) = memory_behind (ran (walk_halt h halt.Memory err)) _ _ refl refl

    failed_from : (number : ℕ) (walk : Walk) (pages : List Listed) (questions : List Question) (h : Halt) → HasPages walk pages → Lists number walk questions (Err h) → h ≢ halt.Stranger → (h ≡ halt.Memory → Ran)
        → Fails number walk pages questions
    failed_from number walk pages [] h has lists own ran = (None, (refl, inr (ran (walk_halt h halt.Memory lists))))
    failed_from number walk pages (q ∷ later) h has lists own ran = elim lists.1 [
      | inl (page, brings, next) ↦ elim next [
        | inl more ↦
            let rest = failed_from (number + 1) (with_page walk page) (pages ++ page ∷ []) later h (has_more walk pages page has) more.2 own ran in
            (rest.0, (asks, inl (page, brings.1, inr (inl (fits walk pages has page more.0, more.1, rest.1)))))
        | inr end ↦ alone end.1 (end_asked number walk pages has q asks page brings.1 h ran end.0)
      ]
      | inr (k, answers, none, is) ↦ alone none (None, (asks, inr (unanswered number q k answers (λ e. own (walk_halt h k is ∙ e)), refl, refl)))
    ]
      where
        asks : q.asked ≡ ask.List bucket prefix delimited walk.token
        asks = lists.0 ∙ has.asks walk.token

        alone : later ≡ [] → Fails number walk pages (q ∷ []) → Fails number walk pages (q ∷ later)
        alone none asked = subst (λ (qs : List Question). Fails number walk pages (q ∷ qs)) (sym none) asked

    -- it names the page that was refused, if one was
    pub listing_failed : (number : ℕ) (questions : List Question) (h : Halt) → Lists number (new_walk bucket prefix delimited) questions (Err h) → h ≢ halt.Stranger → (h ≡ halt.Memory → Ran)
        → (at : Option ℕ) × Asks at number questions (need ∷ needs)
    listing_failed number questions h lists own ran = failed_from number (new_walk bucket prefix delimited) [] questions h has_none lists own ran

  -- ---- the ends of a planning

  -- nothing is left to ask for, or memory ran out before the next question
  pub all_asked : (number : ℕ) → Asks None number [] []
  all_asked number = (refl, inl refl)

  pub memory_before : (number : ℕ) (needs : List Need) → Ran → Asks None number [] needs
  memory_before number needs ran = (refl, inr ran)
