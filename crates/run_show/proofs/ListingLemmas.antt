-- How a listing ends a run, and what its wire shows.
use Rattle.std.proofs.Common.{◌≡◌, ◌∙◌, ◌≤◌, ◌+◌, ◌++◌, ℕ, Bool, List, [], ◌∷◌, Option, Some, None, refl, sym, subst, ap, inl, inr, arith, length}
use Rattle.std.specs.Prelude.{Result, Ok, Err, IfErr, IfSome}
use Rattle.job_terms.proofs.GainLemmas.{gains_as}
use Rattle.job_terms.specs.Gains.{Gains}
use Rattle.job_terms.specs.Ops.{op_of}
use Rattle.jobs.specs.declared.ending.Ending.{Ending}
use Rattle.jobs.specs.declared.ending.Ending.TheVariants as ending
use Rattle.lane_jobs.specs.Lanes.{SeenCarrier, SeenLane}
use Rattle.lane_workers.specs.LaneWorkers.{AreLater, carrier_with, lane_over, wires_of}
use Rattle.list_walk.specs.Pages.{Walk, with_page}
use Rattle.planning_questions.specs.Answers.{said_by}
use Rattle.planning_questions.specs.Listings.{Lists as ListsPages}
use Rattle.planning_questions.specs.Questions.{Answers, AsksOnce, Question, trace_of}
use Rattle.planning_questions.specs.declared.halt.Halt.{Halt}
use Rattle.planning_questions.specs.declared.halt.Halt.TheVariants as halt
use Rattle.question_runs.proofs.Own.{all_own, listing_own, one_own}
use Rattle.question_runs.proofs.Shown.{asked_over, asked_unseen}
use Rattle.question_runs.specs.Asked.{AskedOver, log_of}
use Rattle.result_lines.specs.Causes.{IsShown}
use Rattle.run_report.specs.declared.run.Fatal.{Fatal}
use Rattle.run_report.specs.Texts.{HasLine}
use Rattle.run_report.specs.declared.printout.Printout.{Printout}
use Rattle.run_report.specs.declared.run.Run.{Run}
use Rattle.s3_model.specs.declared.list.OutOfMemory.{OutOfMemory}
use Rattle.s3_model.specs.declared.answers.Reply.{Reply}
use Rattle.s3_model.specs.declared.answers.Why.TheVariants as why
use Rattle.s3_model.specs.declared.faults.BadListing.TheVariants as bad
use Rattle.s3_model.specs.declared.outcomes.Cause.{Cause}
use Rattle.s3_model.specs.declared.outcomes.Cause.TheVariants as cause
use Rattle.s3_model.specs.declared.outcomes.Event.{Event}
use Rattle.s3_model.specs.declared.places.Place.{Place}
use Rattle.s3_model.specs.declared.places.Place.TheVariants as place
use Rattle.s3_model.specs.declared.requests.Ask.{Ask}
use Rattle.s3_model.specs.declared.requests.Ask.TheVariants as ask
use Rattle.s3_model.specs.declared.requests.Op.{Op}
use Rattle.s3_model.specs.declared.requests.Op.TheVariants as op
use Rattle.s3_model.specs.declared.settings.Settings.{Settings}
use Rattle.s3_model.specs.Talks.{Note, Talk, WireLog}
use Rattle.s3_words.specs.declared.commands.Command.{Command}
use Rattle.service_listings.specs.Listings.{IsShownBy, ListsAt, key_of}
use Rattle.service_listings.specs.Showings.{HasShown, Lookup}
use Rattle.service_listings.specs.declared.listing.Listing.{Listing}
use Rattle.service_listings.specs.declared.listing.Shown.{Shown}
use Rattle.trace_laws.specs.Joined.{IsJoined}
use Rattle.run_show.specs.Listings.{IsCauseOf, IsListingEnd, IsMade, MayEndListing, OnFirstAlone, ShowsListing, fatal_for, listed_op}

-- ---- how it ends

-- by a request of that operation, or a page, or want of memory
abbrev pub IsHaltOf : Op → Halt → Type 0
IsHaltOf of_op (halt.Answer why) = IsCauseOf of_op why
IsHaltOf of_op halt.Stranger = ⊥
IsHaltOf of_op other = Unit {0}

same_halt : {X : Type 0} (h k : Halt) → ◌≡◌ {A = Result X Halt} (Err h) (Err k) → h ≡ k
same_halt h k e = cc

ok_no_err : {X : Type 0} (x : X) (h : Halt) → ◌≡◌ {A = Result X Halt} (Err h) (Ok x) → ⊥
ok_no_err x h e = cc

-- what a question of that operation says, where it is no stranger
said_so : (of_op : Op) (e : Ending) (h : Halt) → ◌≡◌ {A = Result Reply Halt} (Err h) (said_by of_op e) → (h ≡ halt.Stranger → ⊥) → IsHaltOf of_op h
said_so of_op (ending.Gained said) h is own = absurd (ok_no_err said h is)
said_so of_op (ending.Refused status code message) h is own = subst (IsHaltOf of_op) (sym (same_halt h (halt.Answer (cause.Service of_op code message)) is)) refl
said_so of_op (ending.Uncertain why.Memory) h is own = subst (IsHaltOf of_op) (sym (same_halt h halt.Memory is)) tt
said_so of_op (ending.Uncertain reason) h is own = subst (IsHaltOf of_op) (sym (same_halt h (halt.Answer (cause.Lost of_op reason)) is)) refl
said_so of_op (ending.Cancelled reason) h is own = absurd (own (same_halt h halt.Stranger is))
said_so of_op ending.Memory h is own = subst (IsHaltOf of_op) (sym (same_halt h halt.Memory is)) tt

answers_so : (number : ℕ) (asked : Ask) (q : Question) (h : Halt) → q.asked ≡ asked → Answers number q (Err h) → (h ≡ halt.Stranger → ⊥) → IsHaltOf (op_of asked) h
answers_so number asked q h is (inl mine) own = subst (λ (a : Ask). IsHaltOf (op_of a) h) is (said_so (op_of q.asked) q.carried.ending h mine.1 own)
answers_so number asked q h is (inr other) own = absurd (own (same_halt h halt.Stranger other.1))

one_halts : (number : ℕ) (asked : Ask) (questions : List Question) (h : Halt) → AsksOnce number asked questions (Err h) → (h ≡ halt.Stranger → ⊥) → IsHaltOf (op_of asked) h
one_halts number asked [] h is own = subst (IsHaltOf (op_of asked)) (sym (same_halt {X = Reply} h halt.Memory is)) tt
one_halts number asked (q ∷ later) h is own = answers_so number asked q h is.0 is.2 own

listing_halts : (number : ℕ) (walk : Walk) (questions : List Question) (h : Halt) → ListsPages number walk questions (Err h) → (h ≡ halt.Stranger → ⊥) → IsHaltOf op.List h
listing_halts number walk [] h is own = subst (IsHaltOf op.List) (sym (same_halt {X = Walk} h halt.Memory is)) tt
listing_halts number walk (q ∷ later) h is own = elim is.1 [
  | inl (page, brings, next) ↦ elim next [
    | inl more ↦ listing_halts (number + 1) (with_page walk page) later h more.2 own
    | inr end ↦ elim end.0 [
      | inl fits ↦ absurd (ok_no_err (with_page walk page) h fits.2)
      | inr others ↦ elim others [
        | inl refused ↦ subst (IsHaltOf op.List) (sym (same_halt {X = Walk} h (halt.Listing refused.0) refused.2)) tt
        | inr memory ↦ subst (IsHaltOf op.List) (sym (same_halt {X = Walk} h halt.Memory memory)) tt
      ]
    ]
  ]
  | inr (k, answers, none, same) ↦
      let is_k = same_halt {X = Walk} h k same in
      subst (IsHaltOf op.List) (sym is_k) (answers_so number (ask.List walk.bucket walk.prefix walk.delimited walk.token) q k is.0 answers (λ e. own (is_k ∙ e)))
]

module _ {W : Type 0} (seen : W → Option WireLog) (carrier : SeenCarrier) (questions : List Question) (befores afters : List (SeenLane W)) (joined : IsJoined seen carrier (trace_of 0 questions) befores afters) where
  lists_halts : (at : Option Place) (recursive : Bool) (h : Halt) → ListsAt 0 at recursive questions (Err h) → IsHaltOf (listed_op at) h
  lists_halts None recursive h lists =
      one_halts 0 ask.Buckets questions h lists (λ e. one_own carrier 0 ask.Buckets questions (Err h) (all_own seen carrier questions befores afters joined) lists (ap (λ (k : Halt). Err k) e))
  lists_halts (Some (place.Object bucket key)) recursive h lists =
      listing_halts 0 _ questions h lists (λ e. listing_own carrier 0 _ questions (Err h) (all_own seen carrier questions befores afters joined) lists (ap (λ (k : Halt). Err k) e))
  lists_halts (Some (place.File path)) recursive h lists = absurd lists

  shown_halts : (at : Option Place) (recursive : Bool) (listed : Result Listing Halt) (result : Result Shown Halt) → ListsAt 0 at recursive questions listed → IsShownBy (key_of at) recursive listed result → IfErr result (IsHaltOf (listed_op at))
  shown_halts at recursive listed (Ok shown) lists shows = tt
  shown_halts at recursive (Err h) (Err same) lists shows = subst (IsHaltOf (listed_op at)) (sym shows) (lists_halts at recursive h lists)
  shown_halts at recursive (Ok told) (Err halt.Memory) lists shows = tt
  shown_halts at recursive (Ok told) (Err (halt.Answer answer)) lists shows = absurd shows
  shown_halts at recursive (Ok told) (Err (halt.Listing refused)) lists shows = absurd shows
  shown_halts at recursive (Ok told) (Err halt.Stranger) lists shows = absurd shows

shown_cause : (of_op : Op) (answer : Cause) → IsCauseOf of_op answer → IsShown answer
shown_cause of_op (cause.Service called code message) h = tt
shown_cause of_op (cause.Lost called reason) h = tt
shown_cause of_op (cause.Cancelled reason) h = absurd h
shown_cause of_op cause.Changed h = absurd h
shown_cause of_op (cause.BadReply called) h = absurd h
shown_cause of_op (cause.Files call) h = absurd h
shown_cause of_op (cause.Blocked length) h = absurd h
shown_cause of_op cause.Memory h = absurd h

may_end : (of_op : Op) (h : Halt) → IsHaltOf of_op h → MayEndListing h
may_end of_op (halt.Answer answer) is = shown_cause of_op answer is
may_end of_op (halt.Listing refused) is = tt
may_end of_op halt.Memory is = tt
may_end of_op halt.Stranger is = absurd is

-- what may halt a listing has a line
pub halt_line : (h : Halt) → MayEndListing h → HasLine (fatal_for h)
halt_line (halt.Listing bad.Memory) may = tt
halt_line (halt.Listing refused) may = tt
halt_line (halt.Answer answer) may = may
halt_line halt.Memory may = tt
halt_line halt.Stranger may = absurd may

ends_so : (at : Option Place) (h : Halt) → IsHaltOf (listed_op at) h → IsListingEnd at (fatal_for h)
ends_so at (halt.Listing bad.Memory) is = tt
ends_so at (halt.Listing refused) is = tt
ends_so at (halt.Answer answer) is = is
ends_so at halt.Memory is = tt
ends_so at halt.Stranger is = absurd is

-- ---- over the first wire

module _ {W : Type 0} (seen : W → Option WireLog) (faults : W → ℕ) (command : Command) (settings : Settings) (events : List Event) (result : Result Shown Halt) where
  abbrev carrier : SeenCarrier
  carrier = carrier_with command.endpoint settings.keys settings.config.attempts

  abbrev lookup : Lookup
  lookup = record { at = command.from; recursive = command.recursive; carrier = carrier; lanes = 1 }

  -- the lane that was joined, and the wire that stands in its place again
  record Back (questions : List Question) (wire : W) (others after : List W) : Type 0 where
    lane : SeenLane W
    joined : IsJoined seen carrier (trace_of 0 questions) (lane_over carrier wire ∷ []) (lane ∷ [])
    later : faults wire ≤ faults lane.wire
    wires : after ≡ lane.wire ∷ others

  back_of : (questions : List Question) (wire : W) (others after : List W) (afters : List (SeenLane W)) → IsJoined seen carrier (trace_of 0 questions) (lane_over carrier wire ∷ []) afters
      → AreLater faults (lane_over carrier wire ∷ []) afters → after ≡ wires_of afters ++ others → Back questions wire others after
  back_of questions wire others after [] joined later wires = absurd later
  back_of questions wire others after (lane ∷ next ∷ afters) joined later wires = absurd later.1
  back_of questions wire others after (lane ∷ []) joined later wires = record { lane = lane; joined = joined; later = later.0.1; wires = wires }

  module _ (wire : W) (others after : List W) (shown : HasShown seen faults lookup (wire ∷ others) after events result) where
    abbrev questions : List Question
    questions = shown.lists.questions

    back : Back questions wire others after
    back = back_of questions wire others after shown.lists.afters shown.lists.joined shown.lists.later shown.lists.wires

    shows : (log : Option WireLog) → AskedOver carrier questions log → ShowsListing command settings events result log
    shows log asked = record { questions = questions; asked = asked; jobs = shown.lists.journal; listed = shown.listed; lists = shown.lists.lists; shown = shown.shows }

    abbrev Asked : List Talk → List Note → Type 0
    Asked talks notes = AskedOver carrier questions (Some (log_of talks notes))

    abbrev Shows : List Talk → List Note → Type 0
    Shows talks notes = ShowsListing command settings events result (Some (log_of talks notes))

    abbrev Gained : W → W → Type 0
    Gained was now = Gains (seen was) (seen now) Shows

    pub first_gained : OnFirstAlone (wire ∷ others) after Gained
    first_gained =
        subst (λ (all : List W). OnFirstAlone (wire ∷ others) all Gained) (sym back.wires)
        (gains_as Asked Shows (λ talks notes a. shows (Some (log_of talks notes)) a) (seen wire) (seen back.lane.wire) (asked_over seen carrier questions (lane_over carrier wire) back.lane back.joined), refl)

    pub first_unseen : ShowsListing command settings events result None
    first_unseen = shows None (asked_unseen seen carrier questions (lane_over carrier wire) back.lane back.joined)

    pub first_later : OnFirstAlone (wire ∷ others) after (λ was now. faults was ≤ faults now)
    first_later = subst (λ (all : List W). OnFirstAlone (wire ∷ others) all (λ was now. faults was ≤ faults now)) (sym back.wires) (back.later, refl)

    pub first_halts : IfErr result (IsHaltOf (listed_op command.from))
    first_halts = shown_halts seen carrier questions (lane_over carrier wire ∷ []) (back.lane ∷ []) back.joined command.from command.recursive shown.listed result shown.lists.lists shown.shows

pub halts_may_end : {X : Type 0} (of_op : Op) (result : Result X Halt) → IfErr result (IsHaltOf of_op) → IfErr result MayEndListing
halts_may_end {X} of_op (Ok x) h = tt
halts_may_end {X} of_op (Err why) h = may_end of_op why h

module _ {W : Type 0} (seen : W → Option WireLog) (faults : W → ℕ) (command : Command) (settings : Settings) (events : List Event) (result : Result Shown Halt) where
  abbrev Has : List W → List W → Type 0
  Has before after = HasShown seen faults (lookup seen faults command settings events result) before after events result

  pub wire_gained : (before after : List W) → 1 ≤ length before → Has before after
      → OnFirstAlone before after (λ was now. Gains (seen was) (seen now) (λ talks notes. ShowsListing command settings events result (Some (log_of talks notes))))
  wire_gained [] after some shown = absurd (omega (arith, some))
  wire_gained (wire ∷ others) after some shown = first_gained seen faults command settings events result wire others after shown

  pub wire_unseen : (before after : List W) → 1 ≤ length before → Has before after → ShowsListing command settings events result None
  wire_unseen [] after some shown = absurd (omega (arith, some))
  wire_unseen (wire ∷ others) after some shown = first_unseen seen faults command settings events result wire others after shown

  pub wire_later : (before after : List W) → 1 ≤ length before → Has before after → OnFirstAlone before after (λ was now. faults was ≤ faults now)
  wire_later [] after some shown = absurd (omega (arith, some))
  wire_later (wire ∷ others) after some shown = first_later seen faults command settings events result wire others after shown

  pub wire_halts : (before after : List W) → 1 ≤ length before → Has before after → IfErr result (IsHaltOf (listed_op command.from))
  wire_halts [] after some shown = absurd (omega (arith, some))
  wire_halts (wire ∷ others) after some shown = first_halts seen faults command settings events result wire others after shown

pub listing_stops : (words : List (List ℕ)) (at : Option Place) (result : Result Shown Halt) (run : Run) (text : Result Printout OutOfMemory) (missed : Bool) → IsMade words result run text missed
    → IfErr result (IsHaltOf (listed_op at)) → IfSome run.fatal (IsListingEnd at)
listing_stops words at (Ok shown) run text missed made h = subst (λ (f : Option Fatal). IfSome f (IsListingEnd at)) (sym made.0.fatal) tt
listing_stops words at (Err why) run text missed made h = subst (λ (f : Option Fatal). IfSome f (IsListingEnd at)) (sym made.0.fatal) (ends_so at why h)
