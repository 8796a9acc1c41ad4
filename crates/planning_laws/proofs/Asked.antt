-- Questions that ask for the needs, with their givings: the dispatches ask for them too.
use Rattle.std.proofs.Common.{◌≡◌, ◌∙◌, ◌+◌, ◌++◌, ℕ, zero, suc, List, [], ◌∷◌, Option, Some, None, refl, sym, subst, ap, inl, inr, arith, map, slice_get}
use Rattle.std.specs.Prelude.{Contains}
use Rattle.answer_classes.specs.Showing.{Shows}
use Rattle.job_terms.specs.Dispatches.{Dispatch, Dispatched}
use Rattle.lane_jobs.specs.Lanes.{SeenCarrier}
use Rattle.lane_journals.specs.Journals.{AreOfLanes}
use Rattle.lane_laws.specs.Runs.{Giving, dispatched_of}
use Rattle.run_promise.specs.Planning as planning
use Rattle.run_promise.specs.Planning.{Listing, Need, One, PlansFor}
use Rattle.run_traces.specs.Traces.{RunTrace}
use Rattle.s3_model.specs.Talks.{Note, Talk}
use Rattle.s3_model.specs.declared.answers.Listed.{Listed}
use Rattle.s3_model.specs.declared.answers.Reply.TheVariants as reply
use Rattle.s3_model.specs.declared.outcomes.JobId.{JobId}
use Rattle.shared_lemmas.proofs.Clashes.{none_is_some, some_is}
use Rattle.shared_lemmas.proofs.Lists.{head_is, no_cons, no_nil, tail_is}
use Rattle.shared_lemmas.proofs.Members.{Has, contains_of}
use Rattle.trace_laws.specs.Journals.{IsGivingOf}
use Rattle.planning_laws.proofs.Carrying.{IsOf, giving_is_of}
use Rattle.planning_laws.proofs.Places.{EachAt}
use Rattle.planning_laws.proofs.Reading.{ArePlaced, IsPlaced}
use Rattle.planning_laws.specs.Asking.{AskOn}
use Rattle.planning_questions.specs.Questions.{Question}

-- the givings are those of the questions, one by one
abbrev pub AreOf : ℕ → List Question → List Giving → Type 0
AreOf n [] [] = Unit {0}
AreOf n (q ∷ qs) (g ∷ gs) = IsOf n q g × AreOf (n + 1) qs gs
AreOf n qs gs = ⊥

module _ (carrier : SeenCarrier) (trace : RunTrace) (givings : List Giving) (logs : ℕ → List Talk) (notes : ℕ → List Note) (lanes : AreOfLanes carrier.endpoint carrier.keys carrier.attempts givings logs notes)
    (each : (g : Giving) → Contains givings g → IsGivingOf carrier trace g) where
  pub are_of : (n : ℕ) (qs : List Question) (ds : List Dispatch) (gs : List Giving) → EachAt trace n qs → ArePlaced n qs ds → map (λ (c : Dispatched). c.dispatch) (dispatched_of gs) ≡ ds → ((g : Giving) → Has gs g → Has givings g)
      → AreOf n qs gs
  are_of n [] [] [] at placed e in_all = tt
  are_of n [] [] (g ∷ gs) at placed e in_all = absurd (no_cons g.of.dispatch (map (λ (c : Dispatched). c.dispatch) (dispatched_of gs)) e)
  are_of n [] (d ∷ ds) gs at placed e in_all = absurd placed
  are_of n (q ∷ qs) [] gs at placed e in_all = absurd placed
  are_of n (q ∷ qs) (d ∷ ds) [] at placed e in_all = absurd (no_nil d ds e)
  are_of n (q ∷ qs) (d ∷ ds) (g ∷ gs) at placed e in_all =
      let rest = map (λ (c : Dispatched). c.dispatch) (dispatched_of gs) in
      let known = contains_of givings g (in_all g (inl refl)) in
      let here = subst (λ (x : Dispatch). IsPlaced n x) (sym (head_is g.of.dispatch d rest ds e)) placed.0 in (
        giving_is_of carrier trace givings logs notes lanes n q at.0 g known here (each g known),
        are_of (n + 1) qs ds gs at.1 placed.1 (tail_is g.of.dispatch d rest ds e) (λ x h. in_all x (inr h)),
      )

-- ---- by a place

pub record At (n k : ℕ) (qs : List Question) (g : Giving) : Type 0 where
  pub q : Question
  pub at : slice_get qs k ≡ Some q
  pub is : IsOf (n + k) q g

pub of_place : (n : ℕ) (qs : List Question) (gs : List Giving) → AreOf n qs gs → (k : ℕ) (g : Giving) → slice_get gs k ≡ Some g → At n k qs g
of_place n [] [] all k g e = absurd (none_is_some g e)
of_place n [] (x ∷ gs) all k g e = absurd all
of_place n (q ∷ qs) [] all k g e = absurd all
of_place n (q ∷ qs) (x ∷ gs) all zero g e =
    let same : n ≡ n + 0 = omega arith in
    record { q = q; at = refl; is = subst (λ (m : ℕ). IsOf m q g) same (subst (λ (y : Giving). IsOf n q y) (some_is x g e) all.0) }
of_place n (q ∷ qs) (x ∷ gs) all (suc k) g e =
    let rest = of_place (n + 1) qs gs all.1 k g e in
    let same : n + 1 + k ≡ n + suc k = omega arith in
    record { q = rest.q; at = rest.at; is = subst (λ (m : ℕ). IsOf m rest.q g) same rest.is }

-- ---- what they ask

module _ (IsRefusedPage : (prefix : List ℕ) → List Listed → Type 0) (MemoryRanOut : Type 0) (refused_page : Option ℕ) where
  none_left : (n : ℕ) (qs : List Question) (gs : List Giving) → AreOf n qs gs → qs ≡ [] → dispatched_of gs ≡ []
  none_left n [] [] all e = refl
  none_left n [] (g ∷ gs) all e = absurd all
  none_left n (q ∷ qs) gs all e = absurd (no_cons q qs e)

  abbrev Asks : List Giving → List Need → List Listed → Option (List ℕ) → Type 0
  Asks gs needs pages token = planning.AreAsked Shows IsRefusedPage MemoryRanOut refused_page (dispatched_of gs) needs pages token

  pub asked_for : (n : ℕ) (qs : List Question) (gs : List Giving) (needs : List Need) (pages : List Listed) (token : Option (List ℕ)) → AreOf n qs gs → AskOn IsRefusedPage MemoryRanOut refused_page n qs needs pages token → Asks gs needs pages token
  asked_for n [] [] needs pages token all h = h
  asked_for n [] (g ∷ gs) needs pages token all h = absurd all
  asked_for n (q ∷ qs) [] needs pages token all h = absurd all
  asked_for n (q ∷ qs) (g ∷ gs) [] pages token all h = absurd h
  asked_for n (q ∷ qs) (g ∷ gs) (One asked ∷ needs) pages token all (is, inl (said, gains, more)) =
      (all.0.ask_is ∙ is, inl (said, all.0.answered said gains, asked_for (n + 1) qs gs needs [] None all.1 more))
  asked_for n (q ∷ qs) (g ∷ gs) (One asked ∷ needs) pages token all (is, inr (none, last, page)) =
      (all.0.ask_is ∙ is, inr (all.0.unanswered none, none_left (n + 1) qs gs all.1 last, page))
  asked_for n (q ∷ qs) (g ∷ gs) (Listing bucket prefix delimited ∷ needs) pages token all (is, inl (page, gains, inl (bad, last, of_job))) = (
    all.0.ask_is ∙ is,
    inl (page, all.0.answered (reply.Listed page) gains, inl (bad, none_left (n + 1) qs gs all.1 last, of_job ∙ ap (λ (j : JobId). Some j.number) (sym all.0.job))),
  )
  asked_for n (q ∷ qs) (g ∷ gs) (Listing bucket prefix delimited ∷ needs) pages token all (is, inl (page, gains, inr (inl (taken, more, goes)))) = (
    all.0.ask_is ∙ is,
    inl (page, all.0.answered (reply.Listed page) gains, inr (inl (taken, more, asked_for (n + 1) qs gs (Listing bucket prefix delimited ∷ needs) (pages ++ page ∷ []) page.token all.1 goes))),
  )
  asked_for n (q ∷ qs) (g ∷ gs) (Listing bucket prefix delimited ∷ needs) pages token all (is, inl (page, gains, inr (inr (taken, done, goes)))) =
      (all.0.ask_is ∙ is, inl (page, all.0.answered (reply.Listed page) gains, inr (inr (taken, done, asked_for (n + 1) qs gs needs [] None all.1 goes))))
  asked_for n (q ∷ qs) (g ∷ gs) (Listing bucket prefix delimited ∷ needs) pages token all (is, inr (none, last, page)) =
      (all.0.ask_is ∙ is, inr (all.0.unanswered none, none_left (n + 1) qs gs all.1 last, page))
