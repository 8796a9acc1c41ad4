-- The attempts of a job so far, and how they end.
use Rattle.shared_lemmas.proofs.Clashes.{none_is_some}
use Rattle.std.proofs.Common.{◌≡◌, ◌∙◌, ◌⊎◌, ◌+◌, ◌<◌, ◌≤◌, ◌++◌, ℕ, true, false, List, [], ◌∷◌, Option, Some, None, refl, sym, ap, subst, inl, inr, map, length, append-nil, arith}
use Rattle.std.specs.Prelude.{IfSome, IsSome, unwrap_or}
use Rattle.s3_model.specs.declared.answers.Class.{Class}
use Rattle.s3_model.specs.declared.answers.Class.TheVariants as class
use Rattle.s3_model.specs.declared.outcomes.Reason.{Reason}
use Rattle.s3_model.specs.declared.places.Endpoint.{Endpoint}
use Rattle.s3_model.specs.declared.requests.Ask.{Ask}
use Rattle.s3_model.specs.declared.settings.Keys.{Keys}
use Rattle.s3_model.specs.declared.tries.Mark.{Mark}
use Rattle.s3_model.specs.Classes.{is_tried_again}
use Rattle.s3_model.specs.Talks.{Talk, Note, WireLog}
use Rattle.job_terms.specs.Attempts.{mark_of}
use Rattle.job_terms.specs.Dispatches.{last_of}
use Rattle.attempts.specs.Attempts.{HasStatusIfRefused, IsOfSomeTalk, IsOneTalk, IsSilent, IsToldOf, IfMade, Makes, SignedRequest, TellsStatus, tries_of}
use Rattle.job_terms.specs.Gains.{Gains}
use Rattle.attempts.specs.declared.send.Attempted.{Attempted}
use Rattle.attempts.specs.declared.send.Attempted.TheVariants as attempted
use Rattle.attempts.specs.declared.send.Judged.{Judged}
use Rattle.job_terms.proofs.GainLemmas.{gains_as, gains_both, gains_nothing}
use Rattle.jobs.specs.Holders.{Holder}
use Rattle.jobs.specs.declared.ending.Ending.{Ending}
use Rattle.jobs.specs.declared.ending.Ending.TheVariants as ending
use Rattle.lane_jobs.specs.Lanes.{AreBehind, AreMade, Attempts, Carries, Ends, EndsIt, HasLastStatus, IsGained, IsMade, IsNotedBefore, IsShare, IsWithoutTalk, KeepsCell, Looks, class_ending, ending_by, ending_of, most_attempts, reason_of}
use Rattle.lane_jobs.proofs.MadeLemmas.{AreTriedAgain, all_but_last, all_elsewhere, each_again, last_again, last_more, made_more, marks_more, none_last, one_longer, tried_more}

false_is_true : false ≡ true → ⊥
false_is_true e = cc

-- ---- the cell

pub looked : (before after : Option Holder) (reason : Reason) → Looks before after (Some reason) → reason_of after ≡ Some reason
looked (Some before) (Some after) reason h = h.1
looked None None reason h = absurd h
looked None (Some after) reason h = absurd h
looked (Some before) None reason h = absurd h

pub unheard : (before after : Option Holder) → Looks before after None → (after ≡ before) × (reason_of after ≡ None)
unheard None None h = (refl, refl)
unheard (Some before) (Some after) h = (ap (λ (c : Holder). Some c) h.0, ap (λ (c : Holder). c.known) h.0 ∙ h.1)
unheard before after h = absurd h

stays_known : (known : Option Reason) → IfSome known (λ reason. known ≡ Some reason)
stays_known None = tt
stays_known (Some reason) = refl

keeps_self : (cell : Option Holder) → KeepsCell cell cell
keeps_self None = tt
keeps_self (Some cell) = record { cell = refl; stays = stays_known cell.known }

pub keeps_same : (first before after : Option Holder) → before ≡ first → Looks before after None → KeepsCell first after
keeps_same first before after same h =
    subst (λ (c : Option Holder). KeepsCell first c) (sym ((unheard before after h).0 ∙ same)) (keeps_self first)

-- ---- the service

-- an attempt with the same endpoint and keys
pub to_service : (first endpoint : Endpoint) (old keys : Keys) (asked : Ask) (body : List ℕ) (limit : Option ℕ) (number : ℕ) (made : Attempted) (place : List ℕ) (now after : Option WireLog)
    → endpoint ≡ first → keys ≡ old
    → Gains now after (Attempts (record { endpoint = endpoint; keys = keys; asked = asked; body = body; limit = limit }) number made place)
    → Gains now after (Attempts (record { endpoint = first; keys = old; asked = asked; body = body; limit = limit }) number made place)
to_service first endpoint old keys asked body limit number made place now after e k h =
    subst (λ (x : Endpoint). Gains now after (Attempts (record { endpoint = x; keys = old; asked = asked; body = body; limit = limit }) number made place)) e
    (subst (λ (y : Keys). Gains now after (Attempts (record { endpoint = endpoint; keys = y; asked = asked; body = body; limit = limit }) number made place)) k h)

-- its pause, and what it came to behind that
pub behind_pause : (r : SignedRequest) (number : ℕ) (made : Attempted) (place : List ℕ) (talks more : List Talk) (notes others : List Note) → IsNotedBefore number talks notes → Makes r made place more others
    → Attempts r number made place (talks ++ more) (notes ++ others)
behind_pause r number attempted.Memory place talks more notes others paused makes = (
  others,
  ap (λ (ns : List Note). ns ++ others) paused.1,
  subst (λ (ts : List Talk). IsSilent (ts ++ more) others) (sym paused.0) makes,
)
behind_pause r number (attempted.Made judged) place talks more notes others paused makes = (
  record {
    own = others;
    paused = ap (λ (ns : List Note). ns ++ others) paused.1;
    made = subst (λ (ts : List Talk). IsOneTalk r judged.class place (ts ++ more) others) (sym paused.0) makes.0;
  },
  subst (λ (ts : List Talk). TellsStatus r judged.status (ts ++ more)) (sym paused.0) makes.1,
)

-- ---- the ending by what the last attempt came to

pub behind_class : (status : ℕ) (shown : Class) (n : ℕ) → AreBehind (class_ending status shown) n []
behind_class status (class.Success said) n = refl
behind_class status (class.Refusal code message) n = refl
behind_class status (class.Uncertain reason) n = refl

pub status_told : (r : SignedRequest) (shown : Class) (status : Option ℕ) (talks : List Talk) → IsToldOf shown status → TellsStatus r status talks
    → HasLastStatus r (class_ending (unwrap_or status 0) shown) talks
status_told r (class.Success said) status talks told tells = tt
status_told r (class.Uncertain reason) status talks told tells = tt
status_told r (class.Refusal code message) (Some status) talks told tells = tells
status_told r (class.Refusal code message) None talks told tells = absurd (false_is_true told)

-- the last of some talks is the last of more in front of them
last_behind : (talks more : List Talk) (talk : Talk) → last_of more ≡ Some talk → last_of (talks ++ more) ≡ Some talk
last_behind [] more talk is = is
last_behind (one ∷ []) [] talk is = absurd (none_is_some talk is)
last_behind (one ∷ []) (two ∷ more) talk is = is
last_behind (one ∷ two ∷ talks) more talk is = last_behind (two ∷ talks) more talk is

pub told_behind : (r : SignedRequest) (status : Option ℕ) (talks more : List Talk) → TellsStatus r status more → TellsStatus r status (talks ++ more)
told_behind r None talks more tells = tt
told_behind r (Some status) talks more tells = (tells.0, last_behind talks more tells.0 tells.1, tells.2)

-- ---- no attempt

pub one_left : (attempts had : ℕ) → had < most_attempts attempts had
one_left attempts had = grind arith

pub nothing_tried : (r : SignedRequest) (had most : ℕ) (gave : Option Reason) (place : List ℕ) (seen : Option WireLog) (tries : List Mark) (ended : Ending) → had < most → tries ≡ [] → ended ≡ ending.Memory
    → Carries r had most gave place seen seen tries ended
nothing_tried r had most gave place seen tries ended left none is =
    subst (λ (e : Ending). Carries r had most gave place seen seen tries e) (sym is)
    (subst (λ (ms : List Mark). Carries r had most gave place seen seen ms ending.Memory) (sym none)
    (record {
      classes = [];
      marks = refl;
      at_most = omega arith;
      again = λ k shown at below. absurd (omega arith);
      ends = inr (inr (record { ending_is = refl; goes_on = tt; left = omega arith }));
      gained = tt;
      shared = gains_nothing (IsShare r had place [] ending.Memory) seen ([], [], refl, (refl, refl), inl refl, tt);
    }))

module _ (r : SignedRequest) (had : ℕ) where
  abbrev pub class_in : Option Judged → Option Class
  class_in None = None
  class_in (Some judged) = Some judged.class

  -- what is told of the last attempt, if there is one
  abbrev pub TellsLast : Option Judged → List Talk → Type 0
  TellsLast None talks = Unit {0}
  TellsLast (Some judged) talks = TellsStatus r judged.status talks

  abbrev pub AreTold : (place : List ℕ) → List Class → Option Judged → List Talk → List Note → Type 0
  AreTold place classes last talks notes = AreMade r (had + 1) place classes talks notes × TellsLast last talks

  -- the attempts below that number, each tried again, and what the last came to
  pub record Underway (number : ℕ) (place : List ℕ) (before now : Option WireLog) (tries : List Mark) (last : Option Judged) : Type 0 where
    pub classes : List Class
    pub marks : tries ≡ map mark_of classes
    pub count : number ≡ had + 1 + length classes
    pub each : AreTriedAgain classes
    pub last_is : class_in last ≡ last_of classes
    pub told : IfSome last HasStatusIfRefused
    pub made : Gains before now (AreTold place classes last)

  pub begins : (place : List ℕ) (now : Option WireLog) → Underway (had + 1) place now now [] None
  begins place now = record {
    classes = [];
    marks = refl;
    count = omega arith;
    each = tt;
    last_is = refl;
    told = tt;
    made = gains_nothing (AreTold place [] None) now ((refl, refl), tt);
  }

  pub none_made : (number : ℕ) (place : List ℕ) (before now : Option WireLog) (tries : List Mark) (last : Option Judged) → Underway number place before now tries last → last ≡ None → number ≡ had + 1
  none_made number place before now tries last u is =
      let none = none_last u.classes (sym u.last_is ∙ ap class_in is) in
      let empty : length u.classes ≡ 0 = ap (λ (cs : List Class). length cs) none in
      let count = u.count in
      omega arith

  -- an attempt was made
  module _ (number : ℕ) (place other : List ℕ) (before now after : Option WireLog) (tries : List Mark) (last : Option Judged) (u : Underway number place before now tries last)
      (judged : Judged) (one : Gains now after (Attempts r number (attempted.Made judged) other)) where
    abbrev shown : Class
    shown = judged.class

    abbrev with_one : List Class
    with_one = u.classes ++ shown ∷ []

    both_made : Gains before after (AreTold other with_one (Some judged))
    both_made =
        gains_both (AreTold place u.classes last) (Attempts r number (attempted.Made judged) other) (AreTold other with_one (Some judged))
        (λ talks more notes others made is. (
          made_more r u.classes (had + 1) other shown talks more notes others (all_elsewhere r u.classes (had + 1) place other talks notes u.each made.0)
              (subst (λ (n : ℕ). IsMade r n shown other more others) u.count is.0),
          told_behind r judged.status talks more is.1,
        ))
        before now after u.made one

    marked : tries ++ mark_of shown ∷ [] ≡ map mark_of with_one
    marked = ap (λ (ms : List Mark). ms ++ mark_of shown ∷ []) u.marks ∙ marks_more u.classes shown

    counted : number ≡ had + length with_one
    counted = let count = u.count in let longer = one_longer u.classes shown in omega arith

    pub goes_on : is_tried_again shown ≡ true → HasStatusIfRefused judged → Underway (number + 1) other before after (tries ++ mark_of shown ∷ []) (Some judged)
    goes_on again told = record {
      classes = with_one;
      marks = marked;
      count = let is = counted in omega arith;
      each = tried_more u.classes shown u.each again;
      last_is = sym (last_more u.classes shown);
      told = told;
      made = both_made;
    }

    gained_by : (status : ℕ) (c : Class) → IsOfSomeTalk r.asked r.limit c other → IsGained r other (class_ending status c)
    gained_by status (class.Success said) is = is
    gained_by status (class.Refusal code message) is = tt
    gained_by status (class.Uncertain reason) is = tt

    -- it was the last, since it is not tried again
    pub ends_there : (most : ℕ) (gave : Option Reason) → number ≤ most → IsOfSomeTalk r.asked r.limit shown other → HasStatusIfRefused judged → is_tried_again shown ≡ false
        → Carries r had most gave other before after (tries ++ mark_of shown ∷ []) (ending_of judged)
    ends_there most gave within is told final = record {
      classes = with_one;
      marks = marked;
      at_most = let is = counted in omega arith;
      again = all_but_last u.classes shown u.each;
      ends = inl (record { shown = shown; status = unwrap_or judged.status 0; last = last_more u.classes shown; ending_is = refl; is_through = inl final });
      gained = gained_by (unwrap_or judged.status 0) shown is;
      shared = gains_as (AreTold other with_one (Some judged)) (IsShare r had other with_one (ending_of judged))
          (λ talks notes made. (
            notes,
            [],
            sym (append-nil notes),
            made.0,
            behind_class (unwrap_or judged.status 0) shown (had + length with_one + 1),
            status_told r judged.class judged.status talks told made.1,
          ))
          before after both_made;
    }

  -- ---- no further attempt

  module _ (number : ℕ) (place : List ℕ) (before now : Option WireLog) (tries : List Mark) (last : Option Judged) (u : Underway number place before now tries last) (most : ℕ) (within : number ≤ most + 1) where
    of_again : (status : ℕ) (shown : Class) → is_tried_again shown ≡ true → IsGained r place (class_ending status shown)
    of_again status (class.Success said) again = absurd (false_is_true again)
    of_again status (class.Refusal code message) again = tt
    of_again status (class.Uncertain reason) again = tt

    few : had + length u.classes ≤ most
    few = let count = u.count in omega arith

    -- with this ending, behind which nothing is noted
    ended : (gave : Option Reason) (by : Ending) → Ends (had + length u.classes) most gave u.classes by → IsGained r place by → ((n : ℕ) → AreBehind by n [])
        → ((talks : List Talk) → TellsLast last talks → HasLastStatus r by talks) → Carries r had most gave place before now tries by
    ended gave by ends gained behind status = record {
      classes = u.classes;
      marks = u.marks;
      at_most = few;
      again = λ k shown at below. each_again u.classes u.each k shown at;
      ends = ends;
      gained = gained;
      shared = gains_as (AreTold place u.classes last) (IsShare r had place u.classes by)
          (λ talks notes made. (notes, [], sym (append-nil notes), made.0, behind (had + length u.classes + 1), status talks made.1)) before now u.made;
    }

    -- the last attempt came to this
    by_last : (judged : Judged) → last ≡ Some judged → (gave : Option Reason) → ((had + length u.classes ≡ most) ⊎ IsSome gave)
        → Carries r had most gave place before now tries (ending_of judged)
    by_last judged is gave through =
        let known = sym u.last_is ∙ ap class_in is in
        let told : HasStatusIfRefused judged = subst (λ (l : Option Judged). IfSome l HasStatusIfRefused) is u.told in
        let status = unwrap_or judged.status 0 in
        ended gave (ending_of judged) (inl (record { shown = judged.class; status = status; last = known; ending_is = refl; is_through = inr through }))
        (of_again status judged.class (last_again u.classes judged.class u.each known)) (behind_class status judged.class)
        (λ talks tells. status_told r judged.class judged.status talks told (subst (λ (l : Option Judged). TellsLast l talks) is tells))

    -- no attempt is left
    pub runs_out : (judged : Judged) → last ≡ Some judged → number ≡ most + 1 → (gave : Option Reason) → Carries r had most gave place before now tries (ending_of judged)
    runs_out judged is out gave = by_last judged is gave (inl (let count = u.count in omega arith))

    -- the cell gave a reason
    pub stops : (reason : Reason) (gave : Option Reason) → gave ≡ Some reason → Carries r had most gave place before now tries (ending_by reason last)
    stops reason gave is = by_case last refl
      where
        given : IsSome gave
        given = subst (λ (g : Option Reason). IsSome g) (sym is) refl

        by_case : (l : Option Judged) → last ≡ l → Carries r had most gave place before now tries (ending_by reason l)
        by_case None e =
            ended gave (ending.Cancelled reason)
            (inr (inl (record { reason = reason; none_made = none_last u.classes (sym u.last_is ∙ ap class_in e); gave_is = is; ending_is = refl })))
            tt (λ n. refl) (λ talks tells. tt)
        by_case (Some judged) e = by_last judged e gave (inr given)

  -- memory ran out before an attempt
  pub wants : (number : ℕ) (place other : List ℕ) (before now after : Option WireLog) (tries : List Mark) (last : Option Judged) → Underway number place before now tries last
      → (most : ℕ) → number ≤ most → (gave : Option Reason) → Gains now after (Attempts r number attempted.Memory other)
      → Carries r had most gave other before after tries ending.Memory
  wants number place other before now after tries last u most within gave silent =
      let count = u.count in
      record {
        classes = u.classes;
        marks = u.marks;
        at_most = omega arith;
        again = λ k shown at below. each_again u.classes u.each k shown at;
        ends = inr (inr (record { ending_is = refl; goes_on = goes (last_of u.classes) refl; left = omega arith }));
        gained = tt;
        shared =
            gains_both (AreTold place u.classes last) (IsWithoutTalk number) (IsShare r had other u.classes ending.Memory)
            (λ talks more notes others told is.
            let made = told.0 in
            let nothing : more ≡ [] = is.2.no_talk in
            let next : number ≡ had + length u.classes + 1 = omega arith in
            let all = ap (λ (ts : List Talk). talks ++ ts) nothing ∙ append-nil talks in (
              notes,
              others,
              refl,
              subst (λ (ts : List Talk). AreMade r (had + 1) other u.classes ts notes) (sym all) (all_elsewhere r u.classes (had + 1) place other talks notes u.each made),
              inr (subst (λ (n : ℕ). IsWithoutTalk n [] others) next (subst (λ (ts : List Talk). IsWithoutTalk number ts others) nothing is)),
              tt,
            ))
            before now after u.made silent;
      }
    where
      goes : (l : Option Class) → last_of u.classes ≡ l → IfSome l (λ shown. is_tried_again shown ≡ true)
      goes None e = tt
      goes (Some shown) e = last_again u.classes shown u.each e

  -- ---- by what came of an attempt

  module _ (number : ℕ) (place other : List ℕ) (before now after : Option WireLog) (tries : List Mark) (last : Option Judged) (u : Underway number place before now tries last)
      (made : Attempted) (one : Gains now after (Attempts r number made other)) (marks : List Mark) (marked : marks ≡ tries ++ tries_of made) where
    pub goes_on_by : (judged : Judged) → made ≡ attempted.Made judged → is_tried_again judged.class ≡ true → IfMade made HasStatusIfRefused → Underway (number + 1) other before after marks (Some judged)
    goes_on_by judged is again told =
        subst (λ (ms : List Mark). Underway (number + 1) other before after ms (Some judged)) (sym (marked ∙ ap (λ (m : Attempted). tries ++ tries_of m) is))
        (goes_on number place other before now after tries last u judged (subst (λ (m : Attempted). Gains now after (Attempts r number m other)) is one) again
        (subst (λ (m : Attempted). IfMade m HasStatusIfRefused) is told))

  module _ (number : ℕ) (place other : List ℕ) (before now after : Option WireLog) (tries : List Mark) (last : Option Judged) (u : Underway number place before now tries last)
      (most : ℕ) (within : number ≤ most) (gave : Option Reason) where
    pub ends_by : (made : Attempted) → Gains now after (Attempts r number made other) → (marks : List Mark) → marks ≡ tries ++ tries_of made → (ended : Ending)
        → IfMade made (λ judged. IsOfSomeTalk r.asked r.limit judged.class other) → IfMade made HasStatusIfRefused → EndsIt made ended
        → Carries r had most gave other before after marks ended
    ends_by attempted.Memory one marks marked ended classed told is =
        subst (λ (ms : List Mark). Carries r had most gave other before after ms ended) (sym (marked ∙ append-nil tries))
        (subst (λ (e : Ending). Carries r had most gave other before after tries e) (sym is) (wants number place other before now after tries last u most within gave one))
    ends_by (attempted.Made judged) one marks marked ended classed told is =
        subst (λ (ms : List Mark). Carries r had most gave other before after ms ended) (sym marked)
        (subst (λ (e : Ending). Carries r had most gave other before after (tries ++ mark_of judged.class ∷ []) e) (sym is.0)
        (ends_there number place other before now after tries last u judged one most gave within classed told is.1))
