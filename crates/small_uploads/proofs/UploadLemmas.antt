-- What became of one upload.
use Rattle.std.proofs.Common.{◌≡◌, ◌≢◌, ◌∙◌, ◌++◌, ℕ, Bool, true, false, List, [], ◌∷◌, Option, Some, None, Result, Err, IfSome, IsErrOf, refl, sym, ap, subst, inl, inr, if◌then◌else◌}
use Rattle.std.proofs.lemmas.List.Elements.{All-push}
use Rattle.shared_lemmas.proofs.Clashes.{false_true, none_is_some}
use Rattle.jobs.specs.Endings.{EndIn, HaveNoSuccess, IsEnded}
use Rattle.jobs.specs.Holders.{Holder}
use Rattle.jobs.specs.declared.ending.Ending.{Ending}
use Rattle.jobs.specs.declared.ending.Ending.TheVariants as ending
use Rattle.s3_model.specs.declared.answers.Why.{Why}
use Rattle.s3_model.specs.declared.answers.Why.TheVariants as why
use Rattle.s3_model.specs.declared.bytes.Part.{Part}
use Rattle.s3_model.specs.declared.requests.Ask.{Ask}
use Rattle.s3_model.specs.declared.requests.Op.{Op}
use Rattle.s3_model.specs.declared.requests.Op.TheVariants as op
use Rattle.s3_model.specs.declared.outcomes.Cause.TheVariants as cause
use Rattle.s3_model.specs.declared.outcomes.Event.{Event}
use Rattle.s3_model.specs.declared.outcomes.Event.TheVariants as entry
use Rattle.s3_model.specs.declared.outcomes.Outcome.TheVariants as outcome
use Rattle.s3_model.specs.declared.places.Endpoint.{Endpoint}
use Rattle.s3_model.specs.declared.settings.Keys.{Keys}
use Rattle.s3_model.specs.declared.tries.Mark.{Mark}
use Rattle.s3_model.specs.declared.tries.Mark.TheVariants as mark
use Rattle.s3_model.specs.Counts.{Rose}
use Rattle.s3_model.specs.Talks.{WireLog}
use Rattle.s3_outside.specs.Files.{SeenFiles}
use Rattle.job_terms.specs.Gains.{Gains}
use Rattle.job_terms.proofs.GainLemmas.{gains_nothing}
use Rattle.upload_promise.specs.Puts.{put_job}
use Rattle.upload_promise.specs.Sources.{HasFewer}
use Rattle.upload_promise.specs.Uploads.{IsReadCause, WantsJournal, is_open, put_events}
use Rattle.small_uploads.specs.Uploading.{Uploads, lost_cause, outcome_of, read_cause}
use Rattle.small_uploads.specs.declared.source.ReadFault.{ReadFault}
use Rattle.small_uploads.specs.declared.source.ReadFault.TheVariants as read

-- the cause of a read that failed
read_reason : (seen : Option SeenFiles) (path : List ℕ) (size before after : ℕ) (fault : ReadFault) → (fault ≡ read.Failed → Rose before after)
    → IfSome seen (λ files. fault ≡ read.Short → HasFewer files.store path size) → IsReadCause seen path size before after (read_cause fault)
read_reason seen path size before after read.Failed rose fewer = rose refl
read_reason None path size before after read.Short rose fewer = tt
read_reason (Some files) path size before after read.Short rose fewer = fewer refl
read_reason seen path size before after read.Memory rose fewer = tt

-- nothing was sent, since the bytes did not come
pub unread : (endpoint : Endpoint) (keys : Keys) (attempts : ℕ) (asked : Ask) (seen : Option SeenFiles) (path : List ℕ) (size before after : ℕ) (journal : List Event) (wire : Option WireLog) (fault : ReadFault)
    → (fault ≡ read.Failed → Rose before after) → IfSome seen (λ files. fault ≡ read.Short → HasFewer files.store path size) → journal ≡ []
    → Gains wire wire (Uploads endpoint keys attempts asked seen path size before after journal (outcome.Failed (read_cause fault)))
unread endpoint keys attempts asked seen path size before after journal wire fault rose fewer none =
    gains_nothing (Uploads endpoint keys attempts asked seen path size before after journal (outcome.Failed (read_cause fault))) wire
    (inl (record { why = read_cause fault; failed = refl; reason = read_reason seen path size before after fault rose fewer; no_job = none; no_talk = refl; no_note = refl }))

-- a read that came short, where files are seen
pub short_told : (T : Type 0) (seen : Option SeenFiles) (path : List ℕ) (size : ℕ) (fault : ReadFault) → IfSome seen (λ files. (let r : Result T ReadFault = Err fault in IsErrOf r read.Short) → HasFewer files.store path size)
    → IfSome seen (λ files. fault ≡ read.Short → HasFewer files.store path size)
short_told T None path size fault h = tt
short_told T (Some files) path size fault h = λ e. h (ap Err e)

-- the two events of the job
pub journal_of : (old one two : List Event) (marks : List Mark) → old ≡ [] → one ≡ old ++ entry.Given put_job 0 ∷ [] → two ≡ one ++ entry.Came put_job 0 marks ∷ [] → two ≡ put_events marks
journal_of old one two marks none given came =
    came ∙ ap (λ (xs : List Event). xs ++ entry.Came put_job 0 marks ∷ []) (given ∙ ap (λ (xs : List Event). xs ++ entry.Given put_job 0 ∷ []) none)

-- ---- the jobs that an outcome wants

pub read_wants : (before after : ℕ) (fault : ReadFault) (journal : List Event) → (fault ≡ read.Failed → Rose before after) → journal ≡ []
    → WantsJournal before after (outcome.Failed (read_cause fault)) journal
read_wants before after read.Failed journal rose none = (none, rose refl)
read_wants before after read.Short journal rose none = none
read_wants before after read.Memory journal rose none = inl none

-- ---- marks

uncertain_fails : mark.Uncertain ≢ mark.Success
uncertain_fails e = cc

no_success : (front : List Mark) → HaveNoSuccess front → HaveNoSuccess (front ++ mark.Uncertain ∷ [])
no_success front none = All-push (λ each. each ≢ mark.Success) front mark.Uncertain none uncertain_fails

none_in : (marks : List Mark) → EndIn mark.Uncertain marks → HaveNoSuccess marks
none_in marks h = subst HaveNoSuccess (sym h.1) (no_success h.0 h.2)

open_in : (front : List Mark) → is_open (front ++ mark.Uncertain ∷ []) ≡ true
open_in [] = refl
open_in (mark.Success ∷ front) = open_in front
open_in (mark.Refusal ∷ front) = open_in front
open_in (mark.Uncertain ∷ front) = refl

-- ---- the jobs that an ending wants

module _ (before after : ℕ) (journal : List Event) (marks : List Mark) (is : journal ≡ put_events marks) where
  refused_wants : (code message : List ℕ) (b : Bool) → is_open marks ≡ b → EndIn mark.Refusal marks
      → WantsJournal before after (if b then outcome.Unknown (cause.Service op.Put code message) else outcome.Failed (cause.Service op.Put code message)) journal
  refused_wants code message true open_ last = (refl, (marks, is, (last, open_)))
  refused_wants code message false open_ last = (refl, (marks, is, (last, open_)))

  memory_wants : HaveNoSuccess marks → (b : Bool) → is_open marks ≡ b → WantsJournal before after (if b then outcome.Unknown cause.Memory else outcome.Failed cause.Memory) journal
  memory_wants none true open_ = (marks, is, (none, open_))
  memory_wants none false open_ = inr (marks, is, (none, open_))

  lost_wants : (reason : Why) → EndIn mark.Uncertain marks → WantsJournal before after (outcome.Unknown (lost_cause reason)) journal
  lost_wants why.Memory h = (marks, is, (none_in marks h, ap is_open h.1 ∙ open_in h.0))
  lost_wants why.WireFailed h = (refl, (marks, is, h))
  lost_wants why.EndedEarly h = (refl, (marks, is, h))
  lost_wants why.NotHttp h = (refl, (marks, is, h))
  lost_wants why.HeadTooLong h = (refl, (marks, is, h))
  lost_wants (why.BodyTooLong most) h = (refl, (marks, is, h))
  lost_wants why.BadLength h = (refl, (marks, is, h))
  lost_wants why.BadChunk h = (refl, (marks, is, h))
  lost_wants (why.Status status) h = (refl, (marks, is, h))
  lost_wants why.Internal h = (refl, (marks, is, h))
  lost_wants why.Document h = (refl, (marks, is, h))

  pub ended_wants : (ended : Ending) (of_op : Op) (part : Option Part) (cell : Option Holder) → cell ≡ None → IsEnded ended of_op part cell marks → WantsJournal before after (outcome_of marks ended) journal
  ended_wants (ending.Gained said) of_op part cell none h = (marks, is, h.0)
  ended_wants (ending.Refused status code message) of_op part cell none h = refused_wants code message (is_open marks) refl h
  ended_wants (ending.Uncertain reason) of_op part cell none h = lost_wants reason h
  ended_wants (ending.Cancelled reason) of_op part None none h = absurd (false_true h.1)
  ended_wants (ending.Cancelled reason) of_op part (Some cell) none h = absurd (none_is_some cell (sym none))
  ended_wants ending.Memory of_op part cell none h = memory_wants h (is_open marks) refl
