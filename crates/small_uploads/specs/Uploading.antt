-- What became of one upload, by the reading of its file and by the attempts of its Put.
use Rattle.std.specs.Prelude.{◌≡◌, ◌≤◌, ◌<◌, ◌+◌, ℕ, true, false, List, [], Option, Some, None, length, map, slice_get}
use Rattle.std.specs.Prelude.{if◌then◌else◌}
use Rattle.std.specs.Arc.{arc_value}
use Rattle.attempts.specs.Attempts.{SignedRequest, signed_request}
use Rattle.jobs.specs.Endings.{SeenCarried}
use Rattle.jobs.specs.Jobs.{SeenJob}
use Rattle.jobs.specs.declared.ending.Ending.{Ending}
use Rattle.jobs.specs.declared.ending.Ending.TheVariants as ending
use Rattle.jobs.specs.declared.what.What.{What}
use Rattle.jobs.specs.declared.what.What.TheVariants as what
use Rattle.lane_jobs.specs.Lanes.{Ends, IsCarriedBy, IsSameJob, IsShare, SeenCarrier, most_attempts}
use Rattle.job_terms.specs.Attempts.{mark_of}
use Rattle.s3_model.specs.declared.answers.Class.{Class}
use Rattle.s3_model.specs.declared.answers.Why.{Why}
use Rattle.s3_model.specs.declared.answers.Why.TheVariants as why
use Rattle.s3_model.specs.declared.outcomes.Cause.{Cause}
use Rattle.s3_model.specs.declared.outcomes.Cause.TheVariants as cause
use Rattle.s3_model.specs.declared.outcomes.Event.{Event}
use Rattle.s3_model.specs.declared.outcomes.FileCall.TheVariants as call
use Rattle.s3_model.specs.declared.outcomes.Outcome.{Outcome}
use Rattle.s3_model.specs.declared.outcomes.Outcome.TheVariants as outcome
use Rattle.s3_model.specs.declared.places.Endpoint.{Endpoint}
use Rattle.s3_model.specs.declared.places.Place.{Place}
use Rattle.s3_model.specs.declared.places.Place.TheVariants as place
use Rattle.s3_model.specs.declared.requests.Ask.{Ask}
use Rattle.s3_model.specs.declared.requests.Op.TheVariants as op
use Rattle.s3_model.specs.declared.settings.Keys.{Keys}
use Rattle.s3_model.specs.declared.tasks.Kind.TheVariants as kind
use Rattle.s3_model.specs.declared.tasks.Task.{Task}
use Rattle.s3_model.specs.declared.tries.Mark.{Mark}
use Rattle.s3_model.specs.Classes.{is_tried_again}
use Rattle.s3_model.specs.Talks.{Talk, Note, WireLog}
use Rattle.s3_outside.specs.Files.{SeenFiles}
use Rattle.upload_promise.specs.Uploads as any_carrier
use Rattle.upload_promise.specs.Uploads.{WantsJournal, is_open, put_events, upload_ask}
use Rattle.small_uploads.specs.declared.source.ReadFault.{ReadFault}
use Rattle.small_uploads.specs.declared.source.ReadFault.TheVariants as read

-- ---- the job

abbrev pub GoesToObject : Place → Type 0
GoesToObject (place.Object bucket key) = Unit {0}
GoesToObject (place.File path) = ⊥

-- a task that one Put carries out, whatever stands at its destination
pub record IsPutTask (task : Task) : Type 0 where
  pub kind_is : task.kind ≡ kind.Upload
  pub replaces : task.fresh ≡ false
  pub to_object : GoesToObject task.dest

-- its request
abbrev pub ask_for : Place → (content : Option (List ℕ)) → Ask
ask_for (place.Object bucket key) content = upload_ask bucket key content
ask_for (place.File path) content = upload_ask [] [] content

abbrev pub put_ask : Task → Ask
put_ask task = ask_for task.dest task.content

-- a step of this task
abbrev pub IsStepOf : Task → What → Type 0
IsStepOf task (what.Plan planned) = ⊥
IsStepOf task (what.Step shared range upload etags) = arc_value shared ≡ task

-- ---- what became of it

-- the cause of a task whose bytes did not come
abbrev pub read_cause : ReadFault → Cause
read_cause read.Failed = cause.Files call.Read
read_cause read.Short = cause.Changed
read_cause read.Memory = cause.Memory

-- a lost answer, or memory that ran out
abbrev pub lost_cause : Why → Cause
lost_cause why.Memory = cause.Memory
lost_cause reason = cause.Lost op.Put reason

-- where an attempt was left open, nobody can know what the request did
abbrev pub failed_or_unknown : List Mark → Cause → Outcome
failed_or_unknown marks why = if is_open marks then outcome.Unknown why else outcome.Failed why

-- the outcome of an upload whose Put had these marks and ended so
abbrev pub outcome_of : List Mark → Ending → Outcome
outcome_of marks (ending.Gained said) = outcome.Done
outcome_of marks (ending.Refused status code message) = failed_or_unknown marks (cause.Service op.Put code message)
outcome_of marks (ending.Uncertain reason) = outcome.Unknown (lost_cause reason)
outcome_of marks (ending.Cancelled reason) = failed_or_unknown marks (cause.Cancelled reason)
outcome_of marks ending.Memory = failed_or_unknown marks cause.Memory

-- the most attempts of its Put, one of which is left in any case
abbrev pub most_puts : (attempts : ℕ) → ℕ
most_puts attempts = most_attempts attempts 0

-- the outcome wants these events, whatever the counts of faults of the files
abbrev pub WantsEvents : Outcome → List Event → Type 0
WantsEvents how events = (before after : ℕ) → WantsJournal before after how events

-- the outcome wants the job with these marks
abbrev pub WantsPut : Outcome → List Mark → Type 0
WantsPut how marks = WantsEvents how (put_events marks)

-- The carrier carried this job: the journal has its events alone, and it came to that.
pub record IsSentBy (carrier : SeenCarrier) (job : SeenJob) (before after : Option WireLog) (events : List Event)
    (how : Outcome) : Type 0 where
  pub carried : SeenCarried
  pub by : IsCarriedBy carrier job before after carried
  pub same : IsSameJob job carried.job
  pub journals : events ≡ put_events carried.tries
  pub comes_to : how ≡ outcome_of carried.tries carried.ending

abbrev pub put_request : Endpoint → Keys → Ask → (body : List ℕ) → SignedRequest
put_request endpoint keys asked body = signed_request endpoint keys asked body None

-- The Put of this body was carried: its attempts with their classes, at most so many, and the ending that they come to,
-- which nothing cut short. The wire gained these attempts and the pauses before them, and nothing else.
pub record IsPutCarried (endpoint : Endpoint) (keys : Keys) (attempts : ℕ) (asked : Ask) (body : List ℕ)
    (journal : List Event) (how : Outcome) (talks : List Talk) (notes : List Note) : Type 0 where
  pub classes : List Class
  pub ended : Ending
  pub place : List ℕ
  pub journals : journal ≡ put_events (map mark_of classes)
  pub comes_to : how ≡ outcome_of (map mark_of classes) ended
  pub at_most : length classes ≤ most_puts attempts
  pub again : (k : ℕ) (shown : Class) → slice_get classes k ≡ Some shown → k + 1 < length classes
      → is_tried_again shown ≡ true
  pub ends : Ends (length classes) (most_puts attempts) None classes ended
  pub shared : IsShare (put_request endpoint keys asked body) 0 place classes ended talks notes

-- The file's bytes did not come, or the Put of them was carried to this service, signed with these keys.
abbrev pub Uploads : Endpoint → Keys → (attempts : ℕ) → Ask → Option SeenFiles → (path : List ℕ)
    → (size faults_before faults_after : ℕ) → List Event → Outcome → List Talk → List Note → Type 0
Uploads endpoint keys attempts = any_carrier.Uploads (IsPutCarried endpoint keys attempts)
