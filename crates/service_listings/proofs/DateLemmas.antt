-- What questions list is dated, once each completion is known to be that of its own job.
use Rattle.std.proofs.Common.{◌≡◌, ◌∙◌, ◌+◌, ◌<◌, ◌≤◌, ◌++◌, ℕ, List, [], ◌∷◌, Option, Some, None, refl, ap, subst, inl, inr, arith, append_assoc}
use Rattle.std.specs.Prelude.{Result, Ok, Err, false, not}
use Rattle.std.proofs.lemmas.List.Elements.{All-append, All-nil}
use Rattle.answer_classes.specs.Documents.{ReadsError, ReadsReply}
use Rattle.answer_classes.specs.Showing.{HasClass}
use Rattle.answer_dates.proofs.ListedLemmas.{answers_are_dated}
use Rattle.answer_dates.specs.Dates.{AreDated, HasDates, IsDated}
use Rattle.attempts.specs.Attempts.{SignedRequest}
use Rattle.jobs.specs.Endings.{SeenCarried}
use Rattle.jobs.specs.declared.ending.Ending.{Ending}
use Rattle.jobs.specs.declared.ending.Ending.TheVariants as ending
use Rattle.jobs.specs.Jobs.{range_of}
use Rattle.lane_jobs.specs.Lanes.{IsGained, SeenCarrier, SeenLane, request_for}
use Rattle.list_walk.specs.Pages.{Walk, new_walk, with_page}
use Rattle.planning_questions.specs.Answers.{said_by}
use Rattle.planning_questions.specs.Listings.{Lists}
use Rattle.planning_questions.specs.Questions.{AsksOnce, Question, question_job, trace_of}
use Rattle.planning_questions.specs.declared.halt.Halt.{Halt}
use Rattle.run_traces.specs.Traces.{Gave, RunTrace, Took}
use Rattle.s3_model.specs.Classes.{IsTwoHundred, Succeeded, succeeded}
use Rattle.s3_model.specs.Lists.{Reserved}
use Rattle.s3_model.specs.Talks.{WireLog}
use Rattle.s3_model.specs.declared.answers.Answered.{Answered}
use Rattle.s3_model.specs.declared.answers.Class.TheVariants as class
use Rattle.s3_model.specs.declared.answers.Listed.{Listed}
use Rattle.s3_model.specs.declared.answers.Reply.{Reply}
use Rattle.s3_model.specs.declared.answers.Reply.TheVariants as reply
use Rattle.s3_model.specs.declared.answers.Talked.TheVariants as talked
use Rattle.s3_model.specs.declared.answers.Why.{Why}
use Rattle.s3_model.specs.declared.answers.Why.TheVariants as why
use Rattle.s3_model.specs.declared.places.Entry.{Entry}
use Rattle.s3_model.specs.declared.places.Place.TheVariants as place
use Rattle.s3_model.specs.declared.requests.Ask.{Ask}
use Rattle.s3_model.specs.declared.requests.Ask.TheVariants as ask
use Rattle.s3_model.specs.declared.requests.Op.{Op}
use Rattle.s3_replies.specs.Buckets.{IsBucketList}
use Rattle.s3_replies.specs.Listing.{IsListing}
use Rattle.trace_laws.proofs.Own.{own_outcome}
use Rattle.trace_laws.specs.Joined.{IsJoined}
use Rattle.service_listings.specs.Showings.{ListingsAreDated}
use Rattle.service_listings.specs.declared.listing.Listing.TheVariants as listing

-- ---- a document

success_uncertain : (said : Reply) (why : Why) → class.Success said ≡ class.Uncertain why → ⊥
success_uncertain said why e = cc

-- the answer with this body
abbrev with_body : Answered → List ℕ → Answered
with_body answered body = record answered { body = record answered.body { bytes = body } }

not_interim : (status : ℕ) → 200 ≤ status → status < 200 → ⊥
not_interim status from below = omega arith

page_read : (answered : Answered) (body : List ℕ) (page : Listed) → IsTwoHundred answered.status → IsListing body page → AreDated page.entries.items
page_read answered body page status reads = answers_are_dated (ask.List [] [] false None) (talked.Answered (with_body answered body)) (class.Success (reply.Listed page)) (record {
  broken = tt;
  answered = λ from. inl (succeeded (reply.Listed page) status reads);
  interim = λ below. absurd (not_interim answered.status status.0 below);
})

buckets_read : (answered : Answered) (body : List ℕ) (buckets : Reserved Entry) → IsTwoHundred answered.status → IsBucketList body buckets.items → AreDated buckets.items
buckets_read answered body buckets status reads = answers_are_dated ask.Buckets (talked.Answered (with_body answered body)) (class.Success (reply.BucketList buckets)) (record {
  broken = tt;
  answered = λ from. inl (succeeded (reply.BucketList buckets) status reads);
  interim = λ below. absurd (not_interim answered.status status.0 below);
})

page_of : (asked : Ask) (answered : Answered) (body : List ℕ) (page : Listed) → Succeeded ReadsError ReadsReply asked answered body (reply.Listed page) → IsListing body page
page_of (ask.List bucket prefix delimited token) answered body page h = h
page_of asked answered body page h = absurd h

buckets_of : (asked : Ask) (answered : Answered) (body : List ℕ) (buckets : Reserved Entry) → Succeeded ReadsError ReadsReply asked answered body (reply.BucketList buckets) → IsBucketList body buckets.items
buckets_of ask.Buckets answered body buckets h = h
buckets_of asked answered body buckets h = absurd h

read_dated : (asked : Ask) (answered : Answered) (body : List ℕ) (said : Reply) → IsTwoHundred answered.status → Succeeded ReadsError ReadsReply asked answered body said → HasDates (class.Success said)
read_dated asked answered body (reply.Listed page) status h = page_read answered body page status (page_of asked answered body page h)
read_dated asked answered body (reply.BucketList buckets) status h = buckets_read answered body buckets status (buckets_of asked answered body buckets h)
read_dated asked answered body said status h = tt

class_dated : (asked : Ask) (answered : Answered) (body : List ℕ) (said : Reply) → HasClass asked answered body (class.Success said) → HasDates (class.Success said)
class_dated asked answered body said (succeeded of_reply status so) = read_dated asked answered body said status so

gained_dated : (r : SignedRequest) (place : List ℕ) (said : Reply) → IsGained r place (ending.Gained said) → HasDates (class.Success said)
gained_dated r place said (inl memory) = absurd (success_uncertain said _ memory)
gained_dated r place said (inr (talk, body, inl shown, in_place)) = class_dated r.asked shown.0 body said shown.2
gained_dated r place said (inr (talk, body, inr broken, in_place)) = absurd (success_uncertain said _ broken.2)

-- ---- completions

-- what it gained has dates
abbrev IsDatedGain : SeenCarried → Type 0
IsDatedGain carried = (said : Reply) → carried.ending ≡ ending.Gained said → HasDates (class.Success said)

-- so of all that was taken
abbrev AreDatedIn : RunTrace → Type 0
AreDatedIn trace = (later before : RunTrace) (lane : ℕ) (carried : SeenCarried) → trace ≡ later ++ Took lane carried ∷ before → IsDatedGain carried

module _ {W : Type 0} (seen : W → Option WireLog) where
  joined_dated : (carrier : SeenCarrier) (trace : RunTrace) (befores afters : List (SeenLane W)) → IsJoined seen carrier trace befores afters → AreDatedIn trace
  joined_dated carrier trace befores afters joined later before lane carried is said gained =
      let own = own_outcome seen carrier trace befores afters joined later before lane carried is in
      let r : SignedRequest = request_for carrier own.by.asked own.job.part (range_of own.job.what).1 in
      gained_dated r own.by.place said (subst (λ (e : Ending). IsGained r own.by.place e) gained own.by.carries.gained)

-- the first question's completion, and those of the others
dated_first : (number : ℕ) (q : Question) (later : List Question) → AreDatedIn (trace_of number (q ∷ later)) → IsDatedGain q.carried
dated_first number q later dated = dated (trace_of (number + 1) later) (Gave 0 (question_job number q.asked) ∷ []) 0 q.carried refl

dated_others : (number : ℕ) (q : Question) (later : List Question) → AreDatedIn (trace_of number (q ∷ later)) → AreDatedIn (trace_of (number + 1) later)
dated_others number q later dated front before lane carried is =
    let own : RunTrace = Took 0 q.carried ∷ Gave 0 (question_job number q.asked) ∷ [] in
    dated front (before ++ own) lane carried (ap (λ (t : RunTrace). t ++ own) is ∙ append_assoc front (Took lane carried ∷ before) own)

-- ---- listings

ok_err : {X : Type 0} (x : X) (h : Halt) → ◌≡◌ {A = Result X Halt} (Ok x) (Err h) → ⊥
ok_err x h e = cc

ok_is : {X : Type 0} (x y : X) → ◌≡◌ {A = Result X Halt} (Ok x) (Ok y) → y ≡ x
ok_is x y e = cc

uncertain_err : (op : Op) (why : Why) (said : Reply) → Ok said ≡ said_by op (ending.Uncertain why) → ⊥
uncertain_err op why.Memory said e = ok_err said _ e
uncertain_err op why said e = ok_err said _ e

answer_gained : (op : Op) (ended : Ending) (said : Reply) → Ok said ≡ said_by op ended → ended ≡ ending.Gained said
answer_gained op (ending.Gained same) said e = ap ending.Gained (ok_is said same e)
answer_gained op (ending.Refused status code message) said e = absurd (ok_err said _ e)
answer_gained op (ending.Uncertain why) said e = absurd (uncertain_err op why said e)
answer_gained op (ending.Cancelled reason) said e = absurd (ok_err said _ e)
answer_gained op ending.Memory said e = absurd (ok_err said _ e)

page_dated : (walk : Walk) (page : Listed) → AreDated walk.gathered.entries → AreDated page.entries.items → AreDated (with_page walk page).gathered.entries
page_dated walk page before now = All-append IsDated walk.gathered.entries page.entries.items before now

lists_dated : (number : ℕ) (walk after : Walk) (questions : List Question) → AreDated walk.gathered.entries → AreDatedIn (trace_of number questions) → Lists number walk questions (Ok after) → AreDated after.gathered.entries
lists_dated number walk after [] before dated lists = absurd (ok_err after _ lists)
lists_dated number walk after (q ∷ later) before dated lists = elim lists.1 [
  | inl (page, brings, next) ↦
      let here = page_dated walk page before (dated_first number q later dated (reply.Listed page) brings.1) in
      elim next [
        | inl more ↦ lists_dated (number + 1) (with_page walk page) after later here (dated_others number q later dated) more.2
        | inr end ↦ elim end.0 [
          | inl last ↦ subst (λ (w : Walk). AreDated w.gathered.entries) (ok_is after (with_page walk page) last.2) here
          | inr other ↦ elim other [
            | inl bad ↦ absurd (ok_err after _ bad.2)
            | inr memory ↦ absurd (ok_err after _ memory)
          ]
        ]
      ]
  | inr (h, answers, none, is) ↦ absurd (ok_err after h is)
]

buckets_dated : (number : ℕ) (buckets : Reserved Entry) (questions : List Question) → AreDatedIn (trace_of number questions) → AsksOnce number ask.Buckets questions (Ok (reply.BucketList buckets)) → AreDated buckets.items
buckets_dated number buckets [] dated asked = absurd (ok_err (reply.BucketList buckets) _ asked)
buckets_dated number buckets (q ∷ later) dated asked = elim asked.2 [
  | inl mine ↦ dated_first number q later dated (reply.BucketList buckets) (answer_gained _ q.carried.ending (reply.BucketList buckets) mine.1)
  | inr other ↦ absurd (ok_err (reply.BucketList buckets) _ other.1)
]

pub listings_are_dated : {W : Type 0} (seen : W → Option WireLog) → ListingsAreDated seen
listings_are_dated seen carrier number None recursive questions (Ok (listing.Buckets buckets)) befores afters lists joined =
    buckets_dated number buckets questions (joined_dated seen carrier (trace_of number questions) befores afters joined) lists
listings_are_dated seen carrier number (Some (place.Object bucket key)) recursive questions (Ok (listing.Pages walk)) befores afters lists joined =
    lists_dated number (new_walk bucket key (not recursive)) walk questions (All-nil IsDated) (joined_dated seen carrier (trace_of number questions) befores afters joined) lists
listings_are_dated seen carrier number at recursive questions (Err why) befores afters lists joined = tt
listings_are_dated seen carrier number at recursive questions (Ok listed) befores afters lists joined = absurd lists
