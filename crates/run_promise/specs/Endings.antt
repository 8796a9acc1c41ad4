-- What becomes of a task: what its destination is to hold, and how each outcome leaves it.
use Rattle.std.specs.Prelude.{◌≡◌, ◌⊎◌, ℕ, Bool, true, List, Option, Some, None, Contains, IsSome}
use Rattle.std.specs.Bool.{OnTrue}
use Rattle.std.specs.FinMap.{get}
use Rattle.s3_model.specs.declared.tasks.Task.{Task}
use Rattle.s3_model.specs.declared.places.Place.{Place}
use Rattle.s3_model.specs.declared.places.Place.TheVariants as place
use Rattle.s3_model.specs.declared.tasks.Kind.{Kind}
use Rattle.s3_model.specs.declared.tasks.Kind.TheVariants as kind
use Rattle.s3_model.specs.declared.requests.Op.TheVariants as op
use Rattle.s3_model.specs.declared.answers.Reply.TheVariants as reply
use Rattle.s3_model.specs.declared.requests.Ask.TheVariants as ask
use Rattle.s3_model.specs.declared.outcomes.Event.{Event}
use Rattle.s3_model.specs.declared.outcomes.Event.TheVariants as entry
use Rattle.s3_model.specs.declared.outcomes.Outcome.{Outcome}
use Rattle.s3_model.specs.declared.outcomes.Outcome.TheVariants as outcome
use Rattle.s3_model.specs.Maps.{MapOf}
use Rattle.s3_model.specs.TempNames.{is_temp_name}
use Rattle.s3_service.specs.ServiceState.{State, Object, object_at, HasBytes}
use Rattle.s3_model.specs.Files.{HeldFile, is_listed}
use Rattle.s3_service.specs.Serves.{IsThere, Replied, Writes}
use Rattle.run_promise.specs.Runs.{Run, moments}
use Rattle.run_promise.specs.Traces.{Step, SentRequest, Serve, External, events_of}

-- a state and the files at one step
pub record Scene : Type 0 where
  pub state : State
  pub held : MapOf HeldFile
  -- the paths of what is neither file nor folder
  pub others : List (List ℕ)

-- what the warnings of a run except: temporary files that stayed, files whose time could not be set,
-- and, where memory ran out for any warning, all that a warning could name
pub record Excused : Type 0 where
  pub left : List (List ℕ)
  pub untimed : List (List ℕ)
  pub wanted_memory : Bool

-- it has the name of a temporary file, and a warning names it or memory ran out for some warning of the run
abbrev pub IsLeft : Excused → List ℕ → Type 0
IsLeft excused path = (is_temp_name path ≡ true) × (Contains excused.left path ⊎ (excused.wanted_memory ≡ true))

-- a temporary file that stayed: nothing was there at the start
abbrev pub IsLeftover : Excused → MapOf HeldFile → List ℕ → Type 0
IsLeftover excused held path = IsLeft excused path × (get held path ≡ None)

abbrev pub IsUntimed : Excused → List ℕ → Type 0
IsUntimed excused path = Contains excused.untimed path ⊎ (excused.wanted_memory ≡ true)

-- ---- New

-- the bytes of a source: a file's at the start, or those that an object had at some step under that ETag
abbrev pub HasContent : MapOf HeldFile → List State → List ℕ → Option Place → List ℕ → Type 0
HasContent held moments etag None bytes = ⊥
HasContent held moments etag (Some (place.File path)) bytes =
    (file : HeldFile) × (get held path ≡ Some file) × (file.bytes ≡ bytes)
HasContent held moments etag (Some (place.Object bucket key)) bytes =
    (state : State) × (object : Object) × Contains moments state × IsThere state bucket key etag object
    × (object.bytes ≡ bytes)

-- the place has these bytes, and a file has that time
abbrev pub Holds : Excused → Scene → Place → ℕ → List ℕ → Type 0
Holds excused scene (place.Object bucket key) micros bytes = HasBytes scene.state bucket key bytes
Holds excused scene (place.File path) micros bytes =
    (file : HeldFile) × (get scene.held path ≡ Some file) × (file.bytes ≡ bytes)
    × ((file.micros ≡ micros) ⊎ IsUntimed excused path)

abbrev pub IsAbsent : Excused → Scene → Place → Type 0
IsAbsent excused scene (place.Object bucket key) = object_at scene.state bucket key ≡ None
IsAbsent excused scene (place.File path) = (get scene.held path ≡ None) ⊎ IsLeft excused path

-- The destination is as the task is to leave it.
abbrev pub IsNew : Excused → MapOf HeldFile → List State → Scene → Task → Kind → Type 0
IsNew excused held moments scene task kind.Upload =
    (bytes : List ℕ) × HasContent held moments task.etag task.source bytes
    × Holds excused scene task.dest task.micros bytes
IsNew excused held moments scene task kind.Download =
    (bytes : List ℕ) × HasContent held moments task.etag task.source bytes
    × Holds excused scene task.dest task.micros bytes
IsNew excused held moments scene task kind.Copy =
    (bytes : List ℕ) × HasContent held moments task.etag task.source bytes
    × Holds excused scene task.dest task.micros bytes
IsNew excused held moments scene task kind.RemoveObject = IsAbsent excused scene task.dest
IsNew excused held moments scene task kind.RemoveFile = IsAbsent excused scene task.dest

-- ---- as before

abbrev pub IsAsBefore : Scene → Scene → Place → Type 0
IsAsBefore before after (place.Object bucket key) = object_at after.state bucket key ≡ object_at before.state bucket key
IsAsBefore before after (place.File path) = get after.held path ≡ get before.held path

-- something is there
abbrev pub IsThereIn : Scene → Place → Type 0
IsThereIn scene (place.Object bucket key) = IsSome (object_at scene.state bucket key)
IsThereIn scene (place.File path) = IsSome (get scene.held path) ⊎ (is_listed scene.others path ≡ true)

-- ---- the source of a move

abbrev pub IsDeleted : List Step → List ℕ → List ℕ → Type 0
IsDeleted trace bucket key =
    (sent : SentRequest) × (bytes : List ℕ) × (sent.ask ≡ ask.Delete bucket key)
    × Contains (events_of trace) (Serve sent (Replied reply.Gone bytes))

-- a Delete was served and nothing is there but what somebody else wrote, or the file was removed
abbrev pub IsGone : List Step → Scene → Option Place → Type 0
IsGone trace after None = Unit {0}
IsGone trace after (Some (place.Object bucket key)) =
    IsDeleted trace bucket key
    × ((object_at after.state bucket key ≡ None)
    ⊎ ((object : Object) × Contains (events_of trace) (External (Writes bucket key object))))
IsGone trace after (Some (place.File path)) = get after.held path ≡ None

-- a local file is there; an object may be
abbrev pub IsGoneOrThere : Scene → Scene → Option Place → Type 0
IsGoneOrThere before after None = Unit {0}
IsGoneOrThere before after (Some (place.Object bucket key)) = Unit {0}
IsGoneOrThere before after (Some (place.File path)) = get after.held path ≡ get before.held path

-- no Delete was given for it, and no file removed
abbrev pub IsSpared : ℕ → List Event → Scene → Scene → Option Place → Type 0
IsSpared task journal before after None = Unit {0}
IsSpared task journal before after (Some (place.Object bucket key)) =
    (number lane : ℕ)
    → ¬ (Contains journal (entry.Given (record { task = Some task; op = op.Delete; number = number }) lane))
IsSpared task journal before after (Some (place.File path)) = get after.held path ≡ get before.held path

-- ---- how an outcome leaves things

-- By what holds where the destination is new, where it is as before, where it was there before, and of the source of a
-- move.
abbrev pub LeavesAs : Outcome → (new old was_there gone gone_or_there spared : Type 0) → Type 0
LeavesAs outcome.Done new old was_there gone gone_or_there spared = new × gone
LeavesAs (outcome.Copied cause) new old was_there gone gone_or_there spared = new × gone_or_there
LeavesAs (outcome.Failed cause) new old was_there gone gone_or_there spared = old × spared
LeavesAs (outcome.Unknown cause) new old was_there gone gone_or_there spared = (old ⊎ new) × spared
LeavesAs outcome.Dry new old was_there gone gone_or_there spared = old × spared
LeavesAs outcome.Skipped new old was_there gone gone_or_there spared = old × was_there × spared

abbrev pub IsEnded : Excused → Run → Scene → Scene → ℕ → Task → Outcome → Type 0
IsEnded excused run before after number task how =
    LeavesAs how (IsNew excused before.held (moments run) after task task.kind)
    (IsAsBefore before after task.dest) (IsThereIn before task.dest)
    (OnTrue task.moves (IsGone run.trace after task.source))
    (OnTrue task.moves (IsGoneOrThere before after task.source))
    (OnTrue task.moves (IsSpared number run.journal before after task.source))
