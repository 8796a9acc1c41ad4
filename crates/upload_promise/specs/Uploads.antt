-- One upload in one Put (Amazon S3 API Reference, "PutObject"): its task, and what became of it.
use Rattle.std.specs.Prelude.{◌≡◌, ◌⊎◌, ℕ, Bool, true, false, List, [], ◌∷◌, Option, Some, IfSome, length}
use Rattle.std.specs.List.{list_any}
use Rattle.s3_model.specs.declared.requests.Ask.{Ask}
use Rattle.s3_model.specs.declared.requests.Ask.TheVariants as ask
use Rattle.s3_model.specs.declared.requests.Op.TheVariants as op
use Rattle.s3_model.specs.declared.outcomes.Cause.{Cause}
use Rattle.s3_model.specs.declared.outcomes.Cause.TheVariants as cause
use Rattle.s3_model.specs.declared.outcomes.FileCall.TheVariants as call
use Rattle.s3_model.specs.declared.outcomes.Event.{Event}
use Rattle.s3_model.specs.declared.outcomes.Event.TheVariants as entry
use Rattle.s3_model.specs.declared.outcomes.Outcome.{Outcome}
use Rattle.s3_model.specs.declared.outcomes.Outcome.TheVariants as outcome
use Rattle.s3_model.specs.declared.places.Place.TheVariants as place
use Rattle.s3_model.specs.declared.tasks.Kind.TheVariants as kind
use Rattle.s3_model.specs.declared.tasks.Task.{Task}
use Rattle.s3_model.specs.declared.tries.Mark.{Mark}
use Rattle.s3_model.specs.declared.tries.Mark.TheVariants as mark
use Rattle.s3_model.specs.Counts.{Rose}
use Rattle.s3_model.specs.Talks.{Talk, Note}
use Rattle.jobs.specs.Endings.{EndIn, HaveNoSuccess}
use Rattle.s3_outside.specs.Files.{SeenFiles}
use Rattle.upload_promise.specs.Puts.{put_job}
use Rattle.upload_promise.specs.Sources.{AreFirstBytes, HasFewer}

-- ---- the task

-- the file of that path becomes the object, with this content type
abbrev pub upload_task : (path bucket key : List ℕ) → (content : Option (List ℕ)) → (size micros : ℕ) → Task
upload_task path bucket key content size micros = record {
  kind = kind.Upload;
  moves = false;
  source = Some (place.File path);
  dest = place.Object bucket key;
  size = size;
  etag = [];
  micros = micros;
  content = content;
  fresh = false;
}

-- its request
abbrev pub upload_ask : (bucket key : List ℕ) → (content : Option (List ℕ)) → Ask
upload_ask bucket key content = ask.Put bucket key content false

-- ---- what became of it

-- why the bytes of the file did not come
abbrev pub IsReadCause : Option SeenFiles → (path : List ℕ) → (size faults_before faults_after : ℕ) → Cause → Type 0
IsReadCause seen path size before after cause.Memory = Unit {0}
IsReadCause seen path size before after (cause.Files call.Read) = Rose before after
IsReadCause seen path size before after cause.Changed = IfSome seen (λ files. HasFewer files.store path size)
IsReadCause seen path size before after other = ⊥

-- the bytes of the file did not come, and no job was given
pub record IsUnread (seen : Option SeenFiles) (path : List ℕ) (size faults_before faults_after : ℕ)
    (journal : List Event) (how : Outcome) (talks : List Talk) (notes : List Note) : Type 0 where
  pub why : Cause
  pub failed : how ≡ outcome.Failed why
  pub reason : IsReadCause seen path size faults_before faults_after why
  pub no_job : journal ≡ []
  pub no_talk : talks ≡ []
  pub no_note : notes ≡ []

-- the one job was given to the first lane and came back with these marks
abbrev pub put_events : List Mark → List Event
put_events marks = entry.Given put_job 0 ∷ entry.Came put_job 0 marks ∷ []

-- an attempt left open what it did
abbrev pub is_uncertain : Mark → Bool
is_uncertain mark.Success = false
is_uncertain mark.Refusal = false
is_uncertain mark.Uncertain = true

abbrev pub is_open : List Mark → Bool
is_open marks = list_any is_uncertain marks

-- the job came with such marks
abbrev pub CameWith : (List Mark → Type 0) → List Event → Type 0
CameWith P journal = (marks : List Mark) × (journal ≡ put_events marks) × P marks

-- Whatever can be seen of wires and files: the jobs that an outcome wants, and a failed call on files only where their
-- count rose.
abbrev pub WantsJournal : (faults_before faults_after : ℕ) → Outcome → List Event → Type 0
WantsJournal before after outcome.Done journal = CameWith (EndIn mark.Success) journal
WantsJournal before after (outcome.Failed (cause.Service of_op code message)) journal = (of_op ≡ op.Put)
    × CameWith (λ marks. EndIn mark.Refusal marks × (is_open marks ≡ false)) journal
WantsJournal before after (outcome.Failed cause.Memory) journal = (journal ≡ [])
    ⊎ CameWith (λ marks. HaveNoSuccess marks × (is_open marks ≡ false)) journal
WantsJournal before after (outcome.Failed (cause.Files call.Read)) journal = (journal ≡ []) × Rose before after
WantsJournal before after (outcome.Failed cause.Changed) journal = journal ≡ []
WantsJournal before after (outcome.Unknown (cause.Service of_op code message)) journal = (of_op ≡ op.Put)
    × CameWith (λ marks. EndIn mark.Refusal marks × (is_open marks ≡ true)) journal
WantsJournal before after (outcome.Unknown (cause.Lost of_op reason)) journal = (of_op ≡ op.Put)
    × CameWith (EndIn mark.Uncertain) journal
WantsJournal before after (outcome.Unknown cause.Memory) journal =
    CameWith (λ marks. HaveNoSuccess marks × (is_open marks ≡ true)) journal
WantsJournal before after how journal = ⊥

-- `Carries asked body journal how talks notes`: what a wire gained by the Put of this body, with the events of its job
-- and the outcome that it comes to
module _ (Carries : Ask → List ℕ → List Event → Outcome → List Talk → List Note → Type 0) where
  -- the Put of the file's bytes was carried
  pub record IsGiven (asked : Ask) (seen : Option SeenFiles) (path : List ℕ) (size : ℕ) (journal : List Event)
      (how : Outcome) (talks : List Talk) (notes : List Note) : Type 0 where
    pub bytes : List ℕ
    pub size_is : length bytes ≡ size
    pub read : IfSome seen (λ files. AreFirstBytes files.store path bytes)
    pub carries : Carries asked bytes journal how talks notes

  -- the bytes did not come, or they were sent
  abbrev pub Uploads : Ask → Option SeenFiles → (path : List ℕ) → (size faults_before faults_after : ℕ) → List Event
      → Outcome → List Talk → List Note → Type 0
  Uploads asked seen path size before after journal how talks notes =
      IsUnread seen path size before after journal how talks notes
      ⊎ IsGiven asked seen path size journal how talks notes
