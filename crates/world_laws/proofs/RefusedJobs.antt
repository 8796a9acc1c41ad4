-- A job that failed over a service that does what it may was not to replace an object that was there.
use Rattle.std.proofs.Common.{◌≡◌, ◌∙◌, ◌⊎◌, ◌<◌, ◌≤◌, ◌++◌, ℕ, zero, suc, Bool, true, false, List, [], ◌∷◌, Option, Some, None, refl, sym, ap, subst, inl, inr, Contains, length, slice_get, arith, ◌+◌, ◌-◌, get_or, filter_map}
use Rattle.std.proofs.lemmas.Bool.{cases_order}
use Rattle.s3_model.specs.Classes.{is_tried_again}
use Rattle.s3_model.specs.Replies.{IsSameReply}
use Rattle.s3_model.specs.Parts.{HasPieces, piece_count, IsTransfer, piece_of}
use Rattle.world_laws.proofs.Fitting.{IsServed, AsksPage, task_asks_no_page}
use Rattle.world_laws.proofs.OpenUploads as opens
use Rattle.world_laws.proofs.Order.{came_before}
use Rattle.job_terms.proofs.PieceCounts.{in_parts, pieces_are_one, least_piece, begins_inside, some_pieces}
use Rattle.world_laws.proofs.Pieces.{range_within, piece_is_range, whole_piece}
use Rattle.world_laws.proofs.OpenUploads.{IsOpenWith, Joins, UsesUpload, part_of, row_joins, row_upload, AsksPart, completed_says, complete_vacant}
use Rattle.world_laws.proofs.Assembled.{HasPartAt, IsLong, completes_by}
use Rattle.world_laws.proofs.Uploads.{StoresPart}
use Rattle.std.specs.Prelude.{IsSome, IsNone, is_some, unwrap_or}
use Rattle.std.specs.FinMap.{get, empty}
use Rattle.std.proofs.lemmas.List.{map-append}
use Rattle.std.proofs.lemmas.List.Sorted.{Contains-permutation, IsPermutation-sym}
use Rattle.std.proofs.lemmas.Option.{slice_get_within, slice_get-get_or}
use Rattle.s3_model.specs.declared.requests.Ask.{Ask}
use Rattle.s3_model.specs.declared.requests.Ask.TheVariants as ask
use Rattle.s3_model.specs.declared.requests.Op.{Op}
use Rattle.s3_model.specs.declared.requests.Op.TheVariants as op
use Rattle.s3_model.specs.declared.answers.Class.{Class}
use Rattle.s3_model.specs.declared.answers.Class.TheVariants as class
use Rattle.s3_model.specs.declared.answers.Reply.{Reply}
use Rattle.s3_model.specs.declared.answers.Reply.TheVariants as reply
use Rattle.s3_model.specs.declared.outcomes.Cause.{Cause}
use Rattle.s3_model.specs.declared.outcomes.JobId.{JobId}
use Rattle.s3_model.specs.declared.places.Place.{Place}
use Rattle.s3_model.specs.declared.settings.Limits.{Limits}
use Rattle.s3_model.specs.declared.tasks.Kind.{Kind}
use Rattle.s3_model.specs.declared.tasks.Kind.TheVariants as kind
use Rattle.s3_model.specs.declared.tasks.Task.{Task}
use Rattle.s3_model.specs.declared.tries.Mark.TheVariants as mark
use Rattle.s3_model.specs.Files.{is_listed}
use Rattle.s3_model.specs.Maps.{MapOf}
use Rattle.s3_model.specs.Talks.{Talk}
use Rattle.s3_service.specs.ServiceState.{State, Object, object_at, HasBucket, Upload}
use Rattle.s3_service.specs.Serves.{Replied, Refused, IsThere, IsVacant, MayChange, Succeeds, taken_codes, IsOpen, LiesWithin, bytes_within}
use Rattle.job_terms.specs.Attempts.{mark_of}
use Rattle.run_promise.specs.Dispatches.{FitsAsk, IsSuccessLast}
use Rattle.job_terms.specs.Dispatches.{Attempt, Dispatched, last_of}
use Rattle.job_terms.specs.Ops.{op_number, deciding}
use Rattle.run_promise.specs.Fits.{request_at}
use Rattle.run_promise.specs.Outcomes.{HasMark, IsDecidedByRequest}
use Rattle.run_promise.specs.Schedule.{Setting, Gained, IsFailed, IsTaskAsk, Known, gained_before, is_small, source_bytes, HasReply, IsBefore, IsPart, IsUpload, asked_range, bytes_of}
use Rattle.job_terms.specs.Jobs.{IsObject, IsSource, Target, job_of}
use Rattle.run_promise.specs.Traces.{Step, IsTrace, IsWilling, state_after, events_of, event_of, states}
use Rattle.s3_service.specs.Willing.{SaysIfThere}
use Rattle.run_promise.specs.Truthful.{Shown, AreCertain, HasDestBuckets, IsAlone, MayBeFresh}
use Rattle.shared_lemmas.proofs.Clashes.{none_is_some, some_is, true_is_false}
use Rattle.shared_lemmas.proofs.Maps.{found_in_empty}
use Rattle.shared_lemmas.proofs.Members.{contains_of, found_or_not, Has, has_at, has_middle}
use Rattle.world_laws.specs.Completeness.{AreSourcesThere}
use Rattle.world_laws.specs.Premises.{HasCome}
use Rattle.world_laws.specs.Promises.{run_of, IsByRequests, IsOrderly}
use Rattle.world_laws.specs.Tasks.{IsScheduled, IsTraceOf}
use Rattle.world_laws.proofs.Buckets.{bucket_is_stable}
use Rattle.world_laws.proofs.Early as early
use Rattle.world_laws.proofs.Early.{reached}
use Rattle.job_terms.proofs.SameJobs.{either_way, job_is, op_same}
use Rattle.world_laws.proofs.Marks as marks
use Rattle.world_laws.proofs.Possible as possible
use Rattle.world_laws.proofs.Possible.{IsInVain}
use Rattle.world_laws.proofs.Promises as promises
use Rattle.world_laws.proofs.Requests.{may_change_decided, success_elsewhere}
use Rattle.world_laws.proofs.Rows as rows
use Rattle.world_laws.proofs.Tasks as tasks
use Rattle.world_laws.proofs.Tasks.{last_place, planning_changes_nothing}
use Rattle.world_laws.proofs.Traces.{stable_along, trace_beginning}
use Rattle.world_laws.proofs.Willing.{IsRefusedEarly, refused_early}

pub upload_is_no_removal : kind.Upload ≡ kind.RemoveObject → ⊥
upload_is_no_removal e = cc

pub part_is_no_abort : op.Part ≡ op.Abort → ⊥
part_is_no_abort e = let level : ◌≡◌ {A = ℕ} 6 9 = ap op_number e in absurd (omega arith)

pub copied_is_no_abort : op.PartCopy ≡ op.Abort → ⊥
copied_is_no_abort e = let level : ◌≡◌ {A = ℕ} 7 9 = ap op_number e in absurd (omega arith)

pub complete_is_no_abort : op.Complete ≡ op.Abort → ⊥
complete_is_no_abort e = let level : ◌≡◌ {A = ℕ} 8 9 = ap op_number e in absurd (omega arith)

-- ---- one row

-- a task's request that is no Get takes each success
pub fits_any : (gained : Gained) (task : Task) (known : Known) (of_kind : Kind) (small : Bool) (of_op : Op) (number : ℕ) (asked : Ask) (body : List ℕ) → IsTaskAsk gained task known of_kind small of_op number asked body
    → IsDecidedByRequest of_kind → (c : Dispatched) (shown : Class) → FitsAsk c asked shown
fits_any gained task known kind.Upload true op.Put number asked body row by c shown = subst (λ (a : Ask). FitsAsk c a shown) (sym row.2) tt
fits_any gained task known kind.Upload false op.Create number asked body row by c shown = subst (λ (a : Ask). FitsAsk c a shown) (sym row.2) tt
fits_any gained task known kind.Upload false op.Part number asked body row by c shown = subst (λ (a : Ask). FitsAsk c a shown) (sym row.4) tt
fits_any gained task known kind.Upload false op.Complete number asked body row by c shown = subst (λ (a : Ask). FitsAsk c a shown) (sym row.0.6) tt
fits_any gained task known kind.Upload false op.Abort number asked body row by c shown = subst (λ (a : Ask). FitsAsk c a shown) (sym row.0.3) tt
fits_any gained task known kind.Copy true op.Copy number asked body row by c shown = subst (λ (a : Ask). FitsAsk c a shown) (sym row.3) tt
fits_any gained task known kind.Copy false op.Create number asked body row by c shown = subst (λ (a : Ask). FitsAsk c a shown) (sym row.2) tt
fits_any gained task known kind.Copy false op.PartCopy number asked body row by c shown = subst (λ (a : Ask). FitsAsk c a shown) (sym row.5) tt
fits_any gained task known kind.Copy false op.Complete number asked body row by c shown = subst (λ (a : Ask). FitsAsk c a shown) (sym row.0.6) tt
fits_any gained task known kind.Copy false op.Abort number asked body row by c shown = subst (λ (a : Ask). FitsAsk c a shown) (sym row.0.3) tt
fits_any gained task known kind.Copy small op.Delete number asked body row by c shown = subst (λ (a : Ask). FitsAsk c a shown) (sym row.0.2) tt
fits_any gained task known kind.RemoveObject small op.Delete number asked body row by c shown = subst (λ (a : Ask). FitsAsk c a shown) (sym row.2) tt
fits_any gained task known kind.Download true op.Get number asked body row by c shown = absurd by
fits_any gained task known kind.Download false op.Get number asked body row by c shown = absurd by
fits_any gained task known kind.Download small op.Delete number asked body row by c shown = absurd by
fits_any gained task known of_kind small of_op number asked body row by c shown = absurd row

-- a Put that is not to replace succeeds only where nothing is there
pub put_vacant : (gained : Gained) (task : Task) (known : Known) (number : ℕ) (asked : Ask) (body : List ℕ) → IsTaskAsk gained task known kind.Upload true op.Put number asked body
    → (limits : Limits) (old : State) (answered : Reply) (bytes : List ℕ) (new : State) → Succeeds limits old asked body answered bytes new → (to : Target task) × IsVacant task.fresh old to.bucket to.key
put_vacant gained task known number asked body row limits old answered bytes new succeeds = (row.0, decide answered (subst (λ (a : Ask). Succeeds limits old a body answered bytes new) row.2 succeeds))
  where
    decide : (said : Reply) → Succeeds limits old (ask.Put row.0.bucket row.0.key task.content task.fresh) body said bytes new → IsVacant task.fresh old row.0.bucket row.0.key
    decide reply.Stored h = h.1
    decide said h = absurd h

-- ---- objects and buckets

pub bucket_of_object : (t : State) (bucket key : List ℕ) (object : Object) → object_at t bucket key ≡ Some object → HasBucket t bucket
bucket_of_object t bucket key object at = elim (found_or_not (get t.objects bucket)) [
  | inr found ↦ ap (λ (o : Option (MapOf Object)). is_some o) found.1
  | inl none ↦ absurd (found_in_empty _ key object (ap (λ (o : Option (MapOf Object)). get (unwrap_or o empty) key) (sym none) ∙ at))
]

-- there or not
pub there_or_not : (o : Option Object) → IsNone o ⊎ IsSome o
there_or_not None = inl refl
there_or_not (Some object) = inr refl

pub not_there : (o : Option Object) → IsSome o → IsNone o → ⊥
not_there None some none = true_is_false (sym some)
not_there (Some object) some none = true_is_false none

pub same_completed : (said : Reply) → IsSameReply said reply.Completed → said ≡ reply.Completed
same_completed (reply.Listed page) h = h
same_completed (reply.BucketList buckets) h = h
same_completed (reply.Found size etag micros) h = h
same_completed (reply.Got status range length) h = h
same_completed (reply.Created id) h = h
same_completed (reply.PartStored etag) h = h
same_completed reply.Stored h = h
same_completed reply.Copied h = h
same_completed reply.Gone h = h
same_completed reply.Completed h = h

-- a place within a list has an item
pub beyond : (xs : List Task) (k : ℕ) → k < length xs → slice_get xs k ≡ None → ⊥
beyond [] k inside none = absurd (omega arith)
beyond (x ∷ xs) zero inside none = none_is_some x (sym none)
beyond (x ∷ xs) (suc k) inside none = beyond xs k (omega arith) none

-- ---- classes

pub refused_is_no_reply : (code bytes : List ℕ) (answered : Reply) → Replied answered bytes ≡ Refused code → ⊥
refused_is_no_reply code bytes answered e = cc

pub same_answer : (a b : Reply) (x y : List ℕ) → Replied a x ≡ Replied b y → a ≡ b
same_answer a b x y e = cc

module _ (Shows : Ask → ℕ → Talk → Class → List ℕ → Type 0) (HasStatus : Ask → ℕ → Talk → ℕ → Type 0) (Plans : List Dispatched → Type 0) (CallFailed : ℕ → Cause → Type 0)
    (request_text : Ask → List ℕ → ℕ → List ℕ) (host : List ℕ) (port : ℕ) (shown : Shown) (dispatched coming : List Dispatched)
    (o : IsOrderly Shows HasStatus Plans CallFailed request_text host port shown dispatched coming)
    (certain : AreCertain Shows dispatched) (not_cancelled : shown.setting.cancelled_at ≡ None)
    (start : State) (trace : List Step) (p : IsTraceOf Shows shown.setting (run_of shown dispatched start trace)) (willing : IsWilling shown.setting.limits start trace) (alone : IsAlone trace)
    (buckets : HasDestBuckets shown.setting.tasks start) (sources : AreSourcesThere shown.setting.held shown.setting.tasks start) where
  abbrev pub s : Setting
  s = shown.setting

  pub scheduled : IsScheduled Shows s shown.journal dispatched coming
  scheduled = promises.scheduled Shows HasStatus Plans CallFailed request_text host port shown dispatched coming (promises.carried_out Shows HasStatus Plans CallFailed request_text host port shown dispatched coming o)

  pub come : (c : Dispatched) → Contains dispatched c → HasCome shown.journal c
  come c known = scheduled.come c known

  pub known_failed : (c : Dispatched) → IsFailed Shows s coming c → Contains dispatched c
  known_failed c failed =
      Contains-permutation coming dispatched c (IsPermutation-sym dispatched coming o.schedule.is_coming)
      (contains_of coming c (subst (λ (all : List Dispatched). Has all c) (sym failed.2) (has_middle failed.0 c failed.1)))

  -- a bucket that is there stays
  bucket_stays : (bucket : List ℕ) (front back : List Step) → trace ≡ front ++ back → HasBucket start bucket → HasBucket (state_after start front) bucket
  bucket_stays bucket front back is there =
      stable_along s.limits (λ (t : State). HasBucket t bucket) (bucket_is_stable bucket s.limits) front [] start (trace_beginning s.limits front back [] start (subst (λ (t : List Step). IsTrace s.limits [] start t) is p.runs)) there

  -- a success that was served is the last attempt of its dispatch, and its answer the one that this shows
  module _ (d : Dispatched) (before : State) (answered : Reply) (bytes : List ℕ) (after : State) (served : IsServed Shows s.limits start trace dispatched d before answered bytes after)
      (memory : s.wanted_memory d.dispatch.job.task ≡ true → ⊥) (no_page : AsksPage d → ⊥) where
    not_refused : (code message body : List ℕ) → Shows d.ask d.limit served.attempt.talk (class.Refusal code message) body → ⊥
    not_refused code message body shows = refused_is_no_reply code bytes answered (served.names no_page (class.Refusal code message) body shows)

    same_said : (said : Reply) (body : List ℕ) → Shows d.ask d.limit served.attempt.talk (class.Success said) body → IsSameReply said answered
    same_said said body shows =
        let names = served.names no_page (class.Success said) body shows in
        subst (λ (any : Reply). IsSameReply said any) (sym (same_answer answered names.0 bytes body names.2)) names.1

    not_tried : (of_class : Class) (body : List ℕ) → Shows d.ask d.limit served.attempt.talk of_class body → is_tried_again of_class ≡ true → ⊥
    not_tried (class.Success said) body shows tried = true_is_false (sym tried)
    not_tried (class.Refusal code message) body shows tried = not_refused code message body shows
    not_tried (class.Uncertain why) body shows tried = certain d served.place served.attempt why body served.known served.is_attempt shows

    is_last : last_of d.dispatch.attempts ≡ Some served.attempt
    is_last = elim (cases_order (served.place + 1) (length d.dispatch.attempts)) [
      | inl level ↦ marks.last_is d.dispatch.attempts served.place served.attempt served.is_attempt level
      | inr (inl earlier) ↦
          let again = o.carried.again d served.place served.attempt served.known served.is_attempt earlier in
          absurd (not_tried again.0 again.1 again.2 again.3)
      | inr (inr later) ↦ let inside = slice_get_within d.dispatch.attempts served.place served.attempt served.is_attempt in absurd (omega arith)
    ]

    by_class : (of_class : Class) (body : List ℕ) → Shows d.ask d.limit served.attempt.talk of_class body → served.attempt.mark ≡ mark_of of_class → (said : Reply) × HasReply Shows d (last_of d.dispatch.attempts) said × IsSameReply said answered
    by_class (class.Success said) body shows is_mark =
        (said, subst (λ (last : Option Attempt). HasReply Shows d last said) (sym is_last) (is_mark, body, shows), same_said said body shows)
    by_class (class.Refusal code message) body shows is_mark = absurd (not_refused code message body shows)
    by_class (class.Uncertain why) body shows is_mark = absurd (certain d served.place served.attempt why body served.known served.is_attempt shows)

    pub said_last : (said : Reply) × HasReply Shows d (last_of d.dispatch.attempts) said × IsSameReply said answered
    said_last = elim (o.carried.marks d served.place served.attempt served.known served.is_attempt) [
      | inl told ↦ by_class told.0 told.1 told.2 told.3
      | inr wanting ↦ absurd (memory wanting.2)
    ]

    pub any_said : (said : Reply) → HasReply Shows d (last_of d.dispatch.attempts) said → IsSameReply said answered
    any_said said h = let at = subst (λ (last : Option Attempt). HasReply Shows d last said) is_last h in same_said said at.1 at.2

  -- ---- one task

  module _ (n : ℕ) (task : Task) (is_task : slice_get s.tasks n ≡ Some task) (enough : s.wanted_memory (Some n) ≡ true → ⊥)
      (may_be_fresh : task.fresh ≡ true → MayBeFresh task.kind) where
    pub by : IsByRequests task
    by = o.tasks n task is_task

    abbrev pub Deciding : JobId
    Deciding = job_of n (deciding task.kind (is_small s task)) 0

    abbrev pub Gains : ℕ → JobId → Reply → Type 0
    Gains place = gained_before Shows dispatched place

    abbrev pub known_by : ℕ → ℕ → Known
    known_by piece count = record { number = n; bytes = source_bytes s.held task.source; piece = piece; count = count }

    pub own_row : (c : Dispatched) → Contains dispatched c → c.dispatch.job.task ≡ Some n → tasks.IsRow Shows s shown.journal dispatched coming scheduled n task c
    own_row c known of_task =
        tasks.row_of_job Shows s shown.journal dispatched coming scheduled n task by.bucket by.key is_task by.is_dest c c.dispatch.job.op c.dispatch.job.number known
        (job_is c.dispatch.job (job_of n c.dispatch.job.op c.dispatch.job.number) of_task refl refl)

    dest_bucket : (to : Target task) (front back : List Step) → trace ≡ front ++ back → HasBucket (state_after start front) to.bucket
    dest_bucket to front back is = bucket_stays to.bucket front back is (buckets to.bucket to.key (task, contains_of s.tasks task (has_at s.tasks n task is_task), rows.place_is task.dest to.bucket to.key to.is_dest))

    -- no attempt of its jobs was left open
    pub never_open : (c : Dispatched) → Contains dispatched c → c.dispatch.job.task ≡ Some n → HasMark c mark.Uncertain → ⊥
    never_open c known of_task marked = elim (o.carried.marks c marked.0 marked.1 known marked.2) [
      | inr wanting ↦ enough (ap s.wanted_memory (sym of_task) ∙ wanting.2)
      | inl told ↦ by_class told.0 told.1 told.2 (sym marked.3 ∙ told.3)
    ]
      where
        by_class : (of_class : Class) (bytes : List ℕ) → Shows c.ask c.limit marked.1.talk of_class bytes → mark.Uncertain ≡ mark_of of_class → ⊥
        by_class (class.Success answered) bytes shows e = cc
        by_class (class.Refusal code message) bytes shows e = cc
        by_class (class.Uncertain why) bytes shows e = certain c marked.0 marked.1 why bytes known marked.2 shows

    abbrev pub HereServed : Dispatched → State → Reply → List ℕ → State → Type 0
    HereServed = IsServed Shows s.limits start trace dispatched

    enough_for : (d : Dispatched) → d.dispatch.job.task ≡ Some n → s.wanted_memory d.dispatch.job.task ≡ true → ⊥
    enough_for d of_task wanting = enough (ap s.wanted_memory (sym of_task) ∙ wanting)

    pub lasts : (d : Dispatched) (before : State) (answered : Reply) (bytes : List ℕ) (after : State) → HereServed d before answered bytes after → d.dispatch.job.task ≡ Some n
        → opens.IsLast Shows s shown.journal dispatched coming scheduled start trace p n task by.bucket by.key is_task by.is_dest d answered
    lasts d before answered bytes after served of_task =
        let said = said_last d before answered bytes after served (enough_for d of_task) (task_asks_no_page n d of_task) in
        record { succeeded = marks.replied_last Shows d (last_of d.dispatch.attempts) said.0 said.1; says = λ any h. any_said d before answered bytes after served (enough_for d of_task) (task_asks_no_page n d of_task) any h }

    abbrev Ends : Dispatched → Type 0
    Ends d = (d.dispatch.job ≡ job_of n op.Complete 0) ⊎ (d.dispatch.job ≡ job_of n op.Abort 0)

    one_success : (a b : Dispatched) → Contains dispatched a → Contains dispatched b → a.dispatch.job ≡ b.dispatch.job → IsSuccessLast (last_of a.dispatch.attempts) → IsSuccessLast (last_of b.dispatch.attempts) → a ≡ b
    one_success a b known_a known_b same ok_a ok_b = marks.one_success Shows Plans s shown.journal dispatched coming o.schedule scheduled.given scheduled.come a b known_a known_b same ok_a ok_b

    one_gained : (place other : ℕ) (job : JobId) (a b : Reply) → (x : Gains place job a) → (y : Gains other job b) → x.0 ≡ y.0
    one_gained place other job a b x y =
        one_success x.0 y.0 x.1 y.1 (x.2 ∙ sym y.2) (marks.replied_last Shows x.0 (last_of x.0.dispatch.attempts) a x.4) (marks.replied_last Shows y.0 (last_of y.0.dispatch.attempts) b y.4)

    -- what a Complete of it waits for
    pub joins : (d : Dispatched) → Contains dispatched d → d.dispatch.job ≡ job_of n op.Complete 0
        → (row : tasks.IsRow Shows s shown.journal dispatched coming scheduled n task d) × Joins (Gains d.dispatch.given_at) task (known_by row.piece row.count) d.dispatch.job.number d.ask d.body task.kind
    joins d known is_job =
        let row = own_row d known (ap (λ (j : JobId). j.task) is_job) in (
          row,
          row_joins (Gains d.dispatch.given_at) task (known_by row.piece row.count) d.dispatch.job.number d.ask d.body task.kind (is_small s task)
              (subst (λ (f : Op). IsTaskAsk (Gains d.dispatch.given_at) task (known_by row.piece row.count) task.kind (is_small s task) f d.dispatch.job.number d.ask d.body) (ap (λ (j : JobId). j.op) is_job) row.row),
        )

    -- each of its parts came with success before
    part_gained : (d : Dispatched) (known : Contains dispatched d) (is_job : d.dispatch.job ≡ job_of n op.Complete 0) (i count : ℕ) → (joins d known is_job).0.count ≡ count → i < count
        → (etag : List ℕ) × Gains d.dispatch.given_at (job_of n (part_of task.kind) (i + 1)) (reply.PartStored etag)
    part_gained d known is_job i count level inside =
        let all = (joins d known is_job).1 in
        let counted = all.are.each_part in
        let within : i < length all.etags = subst (λ (k : ℕ). i < k) (sym (counted ∙ level)) inside in
        (get_or all.etags i [], all.are.in_order i (get_or all.etags i []) (slice_get-get_or all.etags i [] within))

    level_count : (a b : ℕ) (x y : ℕ) → HasPieces s.config s.limits task.kind task.size a x → HasPieces s.config s.limits task.kind task.size b y → x ≡ y
    level_count a b x y has_a has_b = (pieces_are_one s.config s.limits task.kind task.size a b x y has_a has_b).1

    -- ---- a job that failed

    module _ (c : Dispatched) (known : Contains dispatched c) (of_task : c.dispatch.job.task ≡ Some n) (failed : IsFailed Shows s coming c) where
      own : tasks.IsRow Shows s shown.journal dispatched coming scheduled n task c
      own = own_row c known of_task

      abbrev OwnAsk : Kind → Bool → Op → Type 0
      OwnAsk of_kind small of_op = IsTaskAsk (Gains c.dispatch.given_at) task (known_by own.piece own.count) of_kind small of_op c.dispatch.job.number c.ask c.body

      pub takes_any : (of_class : Class) → FitsAsk c c.ask of_class
      takes_any of_class = fits_any (Gains c.dispatch.given_at) task (known_by own.piece own.count) task.kind (is_small s task) c.dispatch.job.op c.dispatch.job.number c.ask c.body own.row by.decided c of_class

      -- the same job never came with success
      never_gained : (place : ℕ) (answered : Reply) → Gains place c.dispatch.job answered → ⊥
      never_gained place answered g =
          marks.success_not_failed Shows Plans s shown.journal dispatched coming o.schedule scheduled.given scheduled.come g.0 c g.1 known g.2
          (marks.replied_last Shows g.0 (last_of g.0.dispatch.attempts) answered g.4) takes_any failed

      -- where nothing decides the task, the source of its move is not deleted, and the source of its copy stays
      module _ (undecided : (place : ℕ) (answered : Reply) → Gains place Deciding answered → ⊥) where
        no_delete : (d : Dispatched) → Contains dispatched d → d.dispatch.job.task ≡ Some n → d.dispatch.job.op ≡ op.Delete → task.moves ≡ true → ⊥
        no_delete d known_d of_this is_delete moves =
            let row = own_row d known_d of_this in
            let waits = o.schedule.moves_last d n task known_d of_this is_task moves is_delete row.piece row.count row.pieces in
            let gained = promises.decided_by task.kind (is_small s task) n row.count (Gains d.dispatch.given_at) by.decided waits in
            undecided d.dispatch.given_at gained.0 gained.1

        module _ (is_copy : task.kind ≡ kind.Copy) (bucket key : List ℕ) (is_source : IsSource task.source bucket key) where
          deletes_never : (d : Dispatched) (m : ℕ) (other : Task) → Contains dispatched d → d.dispatch.job.task ≡ Some m → slice_get s.tasks m ≡ Some other
              → (row : tasks.IsRow Shows s shown.journal dispatched coming scheduled m other d) → rows.DeletesSource other d.ask bucket key → ⊥
          deletes_never d m other known_d of_other at row deletes =
              let same : n ≡ m = sources.moved_once n m task other bucket key is_task at is_copy is_source deletes.moves deletes.is_source in
              let is : other ≡ task = some_is other task (sym at ∙ ap (slice_get s.tasks) (sym same) ∙ is_task) in
              let is_op : d.dispatch.job.op ≡ op.Delete = op_same d.dispatch.job.op op.Delete
              (sym (rows.row_op (Gains d.dispatch.given_at) other (record { number = m; bytes = source_bytes s.held other.source; piece = row.piece; count = row.count }) other.kind (is_small s other)
              d.dispatch.job.op d.dispatch.job.number d.ask d.body row.row) ∙ ap rows.ask_number deletes.deletes) in
              no_delete d known_d (of_other ∙ ap Some (sym same)) is_op (ap (λ (t : Task). t.moves) (sym is) ∙ deletes.moves)

          never_changed : (d : Dispatched) → Contains dispatched d → MayChange d.ask bucket key → ⊥
          never_changed d known_d may = elim (found_or_not d.dispatch.job.task) [
            | inl none ↦ planning_changes_nothing d.ask bucket key (o.questions d known_d none) may
            | inr some ↦
                let found = tasks.row_of Shows s shown.journal dispatched coming scheduled d some.0 known_d some.1 in
                elim (rows.row_changes (Gains d.dispatch.given_at) found.0 (record { number = some.0; bytes = source_bytes s.held found.0.source; piece = found.2.piece; count = found.2.count }) bucket key
                found.0.kind (is_small s found.0) d.dispatch.job.op d.dispatch.job.number d.ask d.body found.2.row may) [
                  | inl decides ↦ sources.no_dest n some.0 task found.0 bucket key is_task found.1 is_copy is_source decides.is_dest
                  | inr deletes ↦ deletes_never d some.0 found.0 known_d some.1 found.1 found.2 deletes
                ]
          ]

          source_stays : (front back : List Step) → trace ≡ front ++ back → (source : Object) × IsThere (state_after start front) bucket key task.etag source × (length source.bytes ≡ task.size)
          source_stays front back is =
              let first = sources.there n task bucket key is_task is_copy is_source in
              let upto : reached front ≤ reached front = omega arith in
              let held = early.holds_until Shows s.limits start trace dispatched shown.journal p.runs p.fits scheduled.given alone (reached front) (λ (t : State). object_at t bucket key ≡ Some first.0)
              (λ d old answered bytes new served given holds. elim (may_change_decided bucket key d.ask) [
                | inr apart ↦ success_elsewhere bucket key s.limits old d.ask d.body answered bytes new served.succeeds apart ∙ holds
                | inl may ↦ absurd (never_changed d served.known may)
              ])
              front back is upto first.1.held in
              (first.0, record { held = held; etag = first.1.etag }, first.2)

      -- where a job that a Complete waits for failed, none was given
      never_joined : (d : Dispatched) → Contains dispatched d → d.dispatch.job ≡ job_of n op.Complete 0 → (c.dispatch.job ≡ job_of n op.Create 0) ⊎ ((c.dispatch.job ≡ job_of n (part_of task.kind) c.dispatch.job.number) × IsPart (known_by own.piece own.count) c.dispatch.job.number) → ⊥
      never_joined d known_d is_job (inl create) =
          let all = (joins d known_d is_job).1 in
          never_gained d.dispatch.given_at (reply.Created all.id) (subst (λ (j : JobId). Gains d.dispatch.given_at j (reply.Created all.id)) (sym create) all.created)
      never_joined d known_d is_job (inr part) =
          let low = part.1.0 in
          let high = part.1.1 in
          let row = (joins d known_d is_job).0 in
          let gained = part_gained d known_d is_job (c.dispatch.job.number - 1) own.count (level_count row.piece own.piece row.count own.count row.pieces own.pieces) (omega arith) in
          let back : c.dispatch.job.number - 1 + 1 ≡ c.dispatch.job.number = omega arith in
          never_gained d.dispatch.given_at (reply.PartStored gained.0)
          (subst (λ (j : JobId). Gains d.dispatch.given_at j (reply.PartStored gained.0)) (ap (job_of n (part_of task.kind)) back ∙ sym part.0) gained.1)

      never_decided_in_parts : is_small s task ≡ false → (task.kind ≡ kind.Copy) → (c.dispatch.job ≡ job_of n (part_of task.kind) c.dispatch.job.number) × IsPart (known_by own.piece own.count) c.dispatch.job.number
          → (place : ℕ) (answered : Reply) → Gains place Deciding answered → ⊥
      never_decided_in_parts is_size is_copy part place answered g =
          never_joined g.0 g.1 (g.2 ∙ ap (λ (k : Kind). job_of n (deciding k (is_small s task)) 0) is_copy ∙ ap (λ (small : Bool). job_of n (deciding kind.Copy small) 0) is_size) (inr part)

      -- ---- and was refused

      module _ (place : ℕ) (attempt : Attempt) (at : slice_get c.dispatch.attempts place ≡ Some attempt) (code message bytes : List ℕ) (shows : Shows c.ask c.limit attempt.talk (class.Refusal code message) bytes) where
        there : IsRefusedEarly s.limits start trace c code (come c known).0
        there = refused_early Shows s.limits start trace dispatched shown.journal p.runs p.fits willing c known (come c known) place attempt code message bytes at shows

        abbrev old : State
        old = state_after start there.front

        vain : IsInVain s.limits old c.ask c.body
        vain answered said new = there.in_vain answered said new

        -- refused since its destination was there, and not to replace it
        abbrev pub IsTaken : Type 0
        IsTaken = (task.fresh ≡ true) × (task.kind ≡ kind.Upload) × (c.dispatch.job ≡ Deciding) × (is_listed taken_codes code ≡ true)

        -- it is the deciding job
        decides : (of_kind : Kind) (small : Bool) → task.kind ≡ of_kind → is_small s task ≡ small → c.dispatch.job.op ≡ deciding of_kind small → c.dispatch.job.number ≡ 0 → c.dispatch.job ≡ Deciding
        decides of_kind small is_kind is_size is_op first =
            job_is c.dispatch.job Deciding of_task (is_op ∙ ap (λ (k : Kind). deciding k small) (sym is_kind) ∙ ap (deciding task.kind) (sym is_size)) first

        -- a request that is not to replace is refused where the object is there, or could succeed
        vacant_or_taken : (to : Target task) → (IsVacant task.fresh old to.bucket to.key → ⊥) → (task.fresh ≡ true) × IsSome (object_at old to.bucket to.key)
        vacant_or_taken to impossible = elim (either_way task.fresh) [
          | inl fresh ↦ elim (there_or_not (object_at old to.bucket to.key)) [ inr some ↦ (fresh, some) | inl none ↦ absurd (impossible (λ f. none)) ]
          | inr not_fresh ↦ absurd (impossible (λ fresh. absurd (true_is_false (sym fresh ∙ not_fresh))))
        ]

        -- ---- an upload in parts

        first_given : early.IsGivenEarly Shows s.limits start trace dispatched shown.journal p.runs p.fits scheduled.given alone (reached there.front) c
        first_given =
            let upto : reached there.front ≤ reached there.front = omega arith in
            early.served_early Shows s.limits start trace dispatched shown.journal p.runs p.fits scheduled.given alone (reached there.front) c there.front there.step there.back (request_at c there.number) (Refused code)
            there.is there.is_event refl upto

        -- what came before that was given had come
        come_first : (e : Dispatched) → Contains dispatched e → IsBefore e.dispatch.came_at first_given.first.dispatch.given_at → HasCome (filter_map event_of (events_of there.front)) e
        come_first e known_e before =
            came_before Shows s.limits start trace dispatched shown.journal p.runs p.fits scheduled.given e first_given.first (come e known_e) before (events_of there.front) (events_of (there.step ∷ there.back))
            (ap events_of there.is ∙ map-append (λ (step : Step). step.event) there.front (there.step ∷ there.back)) first_given.before

        first_row : tasks.IsRow Shows s shown.journal dispatched coming scheduled n task first_given.first
        first_row = own_row first_given.first first_given.known (ap (λ (j : JobId). j.task) first_given.is_job ∙ of_task)

        create_come : UsesUpload c.dispatch.job.op → (id : List ℕ) (created : IsUpload (Gains c.dispatch.given_at) n id) → HasCome (filter_map event_of (events_of there.front)) created.0
        create_come uses id created =
            let d = first_given.first in
            let first = row_upload (Gains d.dispatch.given_at) task (known_by first_row.piece first_row.count) d.dispatch.job.number d.ask d.body task.kind (is_small s task) d.dispatch.job.op first_row.row
            (subst (λ (j : JobId). UsesUpload j.op) (sym first_given.is_job) uses) in
            let same = one_gained d.dispatch.given_at c.dispatch.given_at (job_of n op.Create 0) (reply.Created first.0) (reply.Created id) first.1 created in
            subst (λ (e : Dispatched). HasCome (filter_map event_of (events_of there.front)) e) same (come_first first.1.0 first.1.1 first.1.3)

        -- nothing ended the upload before it came
        abbrev NeverEnded : Type 0
        NeverEnded = (e : Dispatched) → Contains dispatched e → early.IsGivenEarly Shows s.limits start trace dispatched shown.journal p.runs p.fits scheduled.given alone (come c known).0 e
            → (before : State) (answered : Reply) (bytes : List ℕ) (after : State) → HereServed e before answered bytes after → Ends e → ⊥

        never_ended : ((e : Dispatched) → Contains dispatched e → (before : State) (answered : Reply) (bytes : List ℕ) (after : State) → HereServed e before answered bytes after → e.dispatch.job ≡ job_of n op.Complete 0 → ⊥)
            → (c.dispatch.job.op ≡ op.Abort → ⊥) ⊎ (c.dispatch.job ≡ job_of n op.Abort 0) → NeverEnded
        never_ended not_joined aborts e known_e given before answered bytes after served (inl joins_it) = not_joined e known_e before answered bytes after served joins_it
        never_ended not_joined (inl other) e known_e given before answered bytes after served (inr is_abort) =
            let first = given.first in
            let is_op : first.dispatch.job.op ≡ op.Abort = ap (λ (j : JobId). j.op) (given.is_job ∙ is_abort) in
            let last = o.schedule.abort_last first c given.known known is_op (of_task ∙ ap (λ (j : JobId). j.task) (sym is_abort ∙ sym given.is_job)) other in
            let came : (come c known).0 < first.dispatch.given_at = subst (λ (place : Option ℕ). IsBefore place first.dispatch.given_at) (come c known).2 last in
            let earlier = given.before in
            absurd (omega arith)
        never_ended not_joined (inr itself) e known_e given before answered bytes after served (inr is_abort) =
            marks.success_not_failed Shows Plans s shown.journal dispatched coming o.schedule scheduled.given scheduled.come e c known_e known (is_abort ∙ sym itself)
            (lasts e before answered bytes after served (ap (λ (j : JobId). j.task) is_abort)).succeeded takes_any failed

        open_now : UsesUpload c.dispatch.job.op → NeverEnded → (id : List ℕ) → IsUpload (Gains c.dispatch.given_at) n id → IsOpenWith by.bucket by.key id (λ (upload : Upload). Unit {0}) old
        open_now uses never id created =
            opens.open_at Shows s shown.journal dispatched coming scheduled start trace p n task by.bucket by.key is_task by.is_dest lasts id (c.dispatch.given_at, created) alone (come c known).0
            (λ e known_e given before answered bytes after served ends. never e known_e given before answered bytes after served ends)
            there.front (there.step ∷ there.back) there.is there.early (create_come uses id created)

        open_to : (to : Target task) (id : List ℕ) (upload : Upload) → IsOpen old id by.bucket by.key upload → IsOpen old id to.bucket to.key upload
        open_to to id upload is_open =
            let same = rows.same_place task.dest to.bucket to.key by.bucket by.key to.is_dest (subst (λ (d : Place). IsObject d by.bucket by.key) (sym by.is_dest) (refl, refl)) in
            record { held = is_open.held; bucket = is_open.bucket ∙ sym same.0; key = is_open.key ∙ sym same.1 }

        part_by : (of_kind : Kind) → task.kind ≡ of_kind → c.dispatch.job.op ≡ part_of of_kind → IsPart (known_by own.piece own.count) c.dispatch.job.number
            → (c.dispatch.job ≡ job_of n (part_of task.kind) c.dispatch.job.number) × IsPart (known_by own.piece own.count) c.dispatch.job.number
        part_by of_kind is_kind is_op part = (job_is c.dispatch.job (job_of n (part_of task.kind) c.dispatch.job.number) of_task (is_op ∙ ap part_of (sym is_kind)) refl, part)

        -- ---- a Complete

        module _ (is_job : c.dispatch.job ≡ job_of n op.Complete 0) (is_size : is_small s task ≡ false)
            (transfer : (a b : ℕ) → HasPieces s.config s.limits task.kind task.size a b → IsTransfer s.config s.limits task.size a b) where
          all : Joins (Gains c.dispatch.given_at) task (known_by (joins c known is_job).0.piece (joins c known is_job).0.count) c.dispatch.job.number c.ask c.body task.kind
          all = (joins c known is_job).1

          row_here : tasks.IsRow Shows s shown.journal dispatched coming scheduled n task c
          row_here = (joins c known is_job).0

          abbrev count : ℕ
          count = (joins c known is_job).0.count

          abbrev Is : ℕ → List ℕ → Type 0
          Is = IsLong s.limits.min_part count

          never : NeverEnded
          never =
              never_ended (λ e known_e before answered bytes after served ends.
              marks.success_not_failed Shows Plans s shown.journal dispatched coming o.schedule scheduled.given scheduled.come e c known_e known (ends ∙ sym is_job)
              (lasts e before answered bytes after served (ap (λ (j : JobId). j.task) ends)).succeeded takes_any failed)
              (inl (λ aborts. complete_is_no_abort (sym (ap (λ (j : JobId). j.op) is_job) ∙ aborts)))

          uses : UsesUpload c.dispatch.job.op
          uses = subst UsesUpload (sym (ap (λ (j : JobId). j.op) is_job)) tt

          open_here : IsOpenWith by.bucket by.key all.id (λ (upload : Upload). Unit {0}) old
          open_here = open_now uses never all.id all.created

          in_pieces : (piece pieces : ℕ) → HasPieces s.config s.limits task.kind task.size piece pieces → (1 ≤ piece) × (count ≡ piece_count task.size piece) × (1 ≤ task.size) × (s.limits.min_part ≤ piece)
          in_pieces piece pieces has =
              let large = in_parts s.config s.limits task.size piece pieces scheduled.limits is_size (transfer piece pieces has) in
              let least = scheduled.threshold in
              let reaches = large.2 in (
                large.0,
                level_count (joins c known is_job).0.piece piece (joins c known is_job).0.count pieces (joins c known is_job).0.pieces has ∙ large.1,
                omega arith,
                least_piece s.config s.limits task.size piece pieces scheduled.limits is_size (transfer piece pieces has),
              )

          -- a whole piece of something of that size is long enough
          long_piece : (piece pieces : ℕ) → HasPieces s.config s.limits task.kind task.size piece pieces → (whole bytes : List ℕ) (number : ℕ) → length whole ≡ task.size → (1 ≤ number → number < count → bytes ≡ piece_of whole piece number)
              → Is number bytes
          long_piece piece pieces has whole bytes number size is low inside =
              let facts = in_pieces piece pieces has in
              let counted : count ≡ piece_count (length whole) piece = facts.1 ∙ ap (λ (k : ℕ). piece_count k piece) (sym size) in
              let within : number < piece_count (length whole) piece = subst (λ (k : ℕ). number < k) counted inside in
              let sized : 1 ≤ length whole = subst (λ (k : ℕ). 1 ≤ k) (sym size) facts.2 in
              let long : length bytes ≡ piece = ap length (is low inside) ∙ whole_piece whole piece number facts.0 sized low within in
              subst (λ (k : ℕ). s.limits.min_part ≤ k) (sym long) facts.3

          is_piece : (d : Dispatched) (before : State) (number : ℕ) (bytes : List ℕ) → Contains dispatched d → Has (states start trace) before → StoresPart d.ask d.body before by.bucket by.key all.id number bytes → Is number bytes
          is_piece d before number bytes known_d among stores = by_ask stores
            where
              d_job : d.dispatch.job ≡ job_of n (part_of task.kind) number
              d_job = opens.storer Shows s shown.journal dispatched coming scheduled start trace p n task by.bucket by.key is_task by.is_dest lasts d known_d by.bucket by.key all.id number before bytes
                  (c.dispatch.given_at, all.created) stores

              row : tasks.IsRow Shows s shown.journal dispatched coming scheduled n task d
              row = own_row d known_d (ap (λ (j : JobId). j.task) d_job)

              by_ask : StoresPart d.ask d.body before by.bucket by.key all.id number bytes → Is number bytes
              by_ask (inl part) =
                  let says = rows.row_part (Gains d.dispatch.given_at) task (known_by row.piece row.count) by.bucket by.key all.id number task.kind (is_small s task) d.dispatch.job.op d.dispatch.job.number d.ask d.body row.row part.0 in
                  let file = sources.files n task is_task says.is_upload in
                  let same : source_bytes s.held task.source ≡ file.1.bytes = ap (source_bytes s.held) file.2 ∙ ap bytes_of file.3 in
                  long_piece row.piece row.count row.pieces (source_bytes s.held task.source) bytes number (ap length same ∙ file.4) (λ low inside. part.1 ∙ says.is_piece)
              by_ask (inr copy) =
                  let says = rows.row_copy (Gains d.dispatch.given_at) task (known_by row.piece row.count) by.bucket by.key all.id number copy.0 copy.1 copy.2 copy.3 task.kind (is_small s task)
                  d.dispatch.job.op d.dispatch.job.number d.ask d.body row.row copy.5 in
                  let first = sources.there n task says.from.bucket says.from.key is_task says.is_copy says.from.is_source in
                  let held : object_at before says.from.bucket says.from.key ≡ Some copy.4 =
                  subst (λ (k : List ℕ). object_at before says.from.bucket k ≡ Some copy.4) says.key_is (subst (λ (b : List ℕ). object_at before b copy.1 ≡ Some copy.4) says.bucket_is copy.6.held) in
                  let same : first.0.bytes ≡ copy.4.bytes =
                  p.honest.one_content start before says.from.bucket says.from.key first.0 copy.4 (contains_of (states start trace) start (inl refl)) (contains_of (states start trace) before among) first.1.held held
                  (first.1.etag ∙ sym (copy.6.etag ∙ says.etag_is)) in
                  let size : length copy.4.bytes ≡ task.size = ap length (sym same) ∙ first.2 in
                  long_piece row.piece row.count row.pieces copy.4.bytes bytes number size
                  (λ low inside.
                  let facts = in_pieces row.piece row.count row.pieces in
                  let counted : count ≡ piece_count (length copy.4.bytes) row.piece = facts.1 ∙ ap (λ (k : ℕ). piece_count k row.piece) (sym size) in
                  let high : number ≤ piece_count (length copy.4.bytes) row.piece = subst (λ (k : ℕ). number ≤ k) counted (omega arith) in
                  let sized : 1 ≤ length copy.4.bytes = subst (λ (k : ℕ). 1 ≤ k) (sym size) facts.2 in
                  copy.7 ∙ ap (λ (range : ℕ × ℕ). bytes_within range copy.4.bytes) (says.range_is ∙ ap (λ (k : ℕ). asked_range k row.piece number) (sym size))
                  ∙ piece_is_range copy.4.bytes row.piece number facts.0 (begins_inside (length copy.4.bytes) row.piece number facts.0 sized low high))

          -- each part is there under the ETag that was given
          part_there : (i : ℕ) (etag : List ℕ) → slice_get all.etags i ≡ Some etag → HasPartAt Is open_here.upload (1 + i) etag
          part_there i etag at_etag =
              let g = all.are.in_order i etag at_etag in
              let q = g.0 in
              let q_task : q.dispatch.job.task ≡ Some n = ap (λ (j : JobId). j.task) g.2 in
              let counted = all.are.each_part in
              let inside : i < count = subst (λ (k : ℕ). i < k) counted (slice_get_within all.etags i etag at_etag) in
              let d = first_given.first in
              let d_job : d.dispatch.job ≡ job_of n op.Complete 0 = first_given.is_job ∙ is_job in
              let d_row = (joins d first_given.known d_job).0 in
              let earlier = part_gained d first_given.known d_job i count
              (level_count d_row.piece (joins c known is_job).0.piece d_row.count (joins c known is_job).0.count d_row.pieces (joins c known is_job).0.pieces) inside in
              let same = one_gained d.dispatch.given_at c.dispatch.given_at (job_of n (part_of task.kind) (i + 1)) (reply.PartStored earlier.0) (reply.PartStored etag) earlier.1 g in
              let q_come = subst (λ (e : Dispatched). HasCome (filter_map event_of (events_of there.front)) e) same (come_first earlier.1.0 earlier.1.1 earlier.1.3) in
              let q_row = own_row q g.1 q_task in
              let says = opens.row_asks_part (Gains q.dispatch.given_at) task (known_by q_row.piece q_row.count) q.dispatch.job.number q.ask q.body task.kind (is_small s task)
              (subst (λ (f : Op). IsTaskAsk (Gains q.dispatch.given_at) task (known_by q_row.piece q_row.count) task.kind (is_small s task) f q.dispatch.job.number q.ask q.body) (ap (λ (j : JobId). j.op) g.2) q_row.row) in
              let same_id = opens.one_id Shows s shown.journal dispatched coming scheduled start trace p n task by.bucket by.key is_task by.is_dest lasts says.1 all.id (q.dispatch.given_at, says.2) (c.dispatch.given_at, all.created) in
              let at_dest = rows.same_place task.dest says.0.bucket says.0.key by.bucket by.key says.0.is_dest (subst (λ (d : Place). IsObject d by.bucket by.key) (sym by.is_dest) (refl, refl)) in
              let asks : AsksPart q.ask by.bucket by.key all.id (i + 1) =
              subst (λ (k : ℕ). AsksPart q.ask by.bucket by.key all.id k) (ap (λ (j : JobId). j.number) g.2)
              (subst (λ (x : List ℕ). AsksPart q.ask by.bucket by.key x q.dispatch.job.number) same_id
              (subst (λ (x : List ℕ). AsksPart q.ask by.bucket x says.1 q.dispatch.job.number) at_dest.1 (subst (λ (x : List ℕ). AsksPart q.ask x says.0.key says.1 q.dispatch.job.number) at_dest.0 says.3))) in
              let part = opens.part_at Shows s shown.journal dispatched coming scheduled start trace p n task by.bucket by.key is_task by.is_dest lasts all.id (c.dispatch.given_at, all.created) alone (come c known).0
              (λ e known_e given before answered bytes after served ends. never e known_e given before answered bytes after served ends) Is is_piece q g.1 (i + 1) etag g.2 g.4 asks
              there.front (there.step ∷ there.back) there.is there.early q_come in
              let upload_is : part.upload ≡ open_here.upload = some_is part.upload open_here.upload (sym part.is_open.held ∙ open_here.is_open.held) in
              let next : i + 1 ≡ 1 + i = omega arith in
              subst (λ (k : ℕ). HasPartAt Is open_here.upload k etag) next (subst (λ (u : Upload). HasPartAt Is u (i + 1) etag) upload_is part.such)

          joined_or_taken : (task.fresh ≡ true) × (is_listed taken_codes code ≡ true)
          joined_or_taken =
              let facts = in_pieces row_here.piece row_here.count row_here.pieces in
              let some : 1 ≤ count = subst (λ (k : ℕ). 1 ≤ k) (sym facts.1) (some_pieces task.size row_here.piece facts.2 facts.0) in
              let whole = completes_by s.limits count open_here.upload all.etags all.are.each_part some part_there in
              let met = vacant_or_taken all.to (λ vacant.
              possible.complete_possible s.limits old c.ask c.body all.to.bucket all.to.key all.id (record { items = all.etags; spare = all.spare }) task.fresh open_here.upload whole.0 all.asks
              (open_to all.to all.id open_here.upload open_here.is_open) vacant whole.1 vain) in
              (met.0, subst (λ (a : Ask). SaysIfThere old a code) all.asks there.says_taken met.0 met.1)

        -- an Abort finds its upload open
        abort_here : c.dispatch.job ≡ job_of n op.Abort 0 → (to : Target task) (id : List ℕ) → IsUpload (Gains c.dispatch.given_at) n id → c.ask ≡ ask.Abort to.bucket to.key id → ⊥
        abort_here is_job to id created asks =
            let open_here = open_now (subst UsesUpload (sym (ap (λ (j : JobId). j.op) is_job)) tt) (never_ended not_joined (inr is_job)) id created in
            possible.abort_possible s.limits old c.ask c.body to.bucket to.key id open_here.upload asks (open_to to id open_here.upload open_here.is_open) vain
          where
            not_joined : (e : Dispatched) → Contains dispatched e → (before : State) (answered : Reply) (bytes : List ℕ) (after : State) → HereServed e before answered bytes after → e.dispatch.job ≡ job_of n op.Complete 0 → ⊥
            not_joined e known_e before answered bytes after served ends =
                let says = (joins e known_e ends).1 in
                let completed = completed_says s.limits e.ask e.body says.to.bucket says.to.key says.id (record { items = says.etags; spare = says.spare }) task.fresh before answered bytes after says.asks served.succeeds in
                let said = said_last e before answered bytes after served (enough_for e (ap (λ (j : JobId). j.task) ends)) (task_asks_no_page n e (ap (λ (j : JobId). j.task) ends)) in
                let is_completed : said.0 ≡ reply.Completed = same_completed said.0 (subst (λ (any : Reply). IsSameReply said.0 any) completed said.2) in
                let place = come e known_e in
                let by_end : IsBefore e.dispatch.came_at (place.0 + 1) = subst (λ (at : Option ℕ). IsBefore at (place.0 + 1)) (sym place.2) (omega arith) in
                o.schedule.completed_stays n (place.0 + 1) c known is_job
                (e, known_e, ends, by_end, subst (λ (any : Reply). HasReply Shows e (last_of e.dispatch.attempts) any) is_completed said.1)

        is_taken : (of_kind : Kind) (small : Bool) (of_op : Op) → task.kind ≡ of_kind → is_small s task ≡ small → c.dispatch.job.op ≡ of_op → OwnAsk of_kind small of_op → IsTaken
        is_taken kind.Upload true op.Put is_kind is_size is_op row =
            let to = row.0 in
            let met = vacant_or_taken to (λ vacant. possible.put_possible s.limits old c.ask c.body to.bucket to.key task.content task.fresh row.2 (dest_bucket to there.front (there.step ∷ there.back) there.is) vacant vain) in
            (met.0, is_kind, decides kind.Upload true is_kind is_size is_op row.1, subst (λ (a : Ask). SaysIfThere old a code) row.2 there.says_taken met.0 met.1)
        is_taken kind.Copy true op.Copy is_kind is_size is_op row =
            let from = row.1 in
            let is_job = decides kind.Copy true is_kind is_size is_op row.2 in
            let source = source_stays (λ when answered g. never_gained when answered (subst (λ (j : JobId). Gains when j answered) (sym is_job) g)) is_kind from.bucket from.key from.is_source there.front (there.step ∷ there.back) there.is in
            absurd (possible.copy_possible s.limits old c.ask c.body row.0.bucket row.0.key from.bucket from.key task.etag source.0 row.3 (dest_bucket row.0 there.front (there.step ∷ there.back) there.is) source.1 vain)
        is_taken kind.Copy small op.Delete is_kind is_size is_op row =
            let from = row.0.0 in
            let first = sources.there n task from.bucket from.key is_task is_kind from.is_source in
            absurd (possible.delete_possible s.limits old c.ask c.body from.bucket from.key row.0.2
            (bucket_stays from.bucket there.front (there.step ∷ there.back) there.is (bucket_of_object start from.bucket from.key first.0 first.1.held)) vain)
        is_taken kind.RemoveObject small op.Delete is_kind is_size is_op row =
            absurd (possible.delete_possible s.limits old c.ask c.body row.0.bucket row.0.key row.2 (dest_bucket row.0 there.front (there.step ∷ there.back) there.is) vain)
        is_taken kind.Upload false op.Create is_kind is_size is_op row =
            absurd (possible.create_possible s.limits old c.ask c.body row.0.bucket row.0.key task.content row.2 (dest_bucket row.0 there.front (there.step ∷ there.back) there.is) vain)
        is_taken kind.Copy false op.Create is_kind is_size is_op row =
            absurd (possible.create_possible s.limits old c.ask c.body row.0.bucket row.0.key None row.2 (dest_bucket row.0 there.front (there.step ∷ there.back) there.is) vain)
        is_taken kind.Upload false op.Part is_kind is_size is_op row =
            let is_part = part_by kind.Upload is_kind is_op row.3 in
            let open_here = open_now (subst UsesUpload (sym is_op) tt) (never_ended (λ e known_e before answered bytes after served ends. never_joined e known_e ends (inr is_part)) (inl (λ aborts. part_is_no_abort (sym is_op ∙ aborts)))) row.1 row.2 in
            absurd (possible.part_possible s.limits old c.ask c.body row.0.bucket row.0.key row.1 c.dispatch.job.number open_here.upload row.4 (open_to row.0 row.1 open_here.upload open_here.is_open) vain)
        is_taken kind.Copy false op.PartCopy is_kind is_size is_op row =
            let from = row.1 in
            let is_part = part_by kind.Copy is_kind is_op row.4 in
            let open_here = open_now (subst UsesUpload (sym is_op) tt) (never_ended (λ e known_e before answered bytes after served ends. never_joined e known_e ends (inr is_part)) (inl (λ aborts. copied_is_no_abort (sym is_op ∙ aborts)))) row.2 row.3 in
            let source = source_stays (never_decided_in_parts is_size is_kind is_part) is_kind from.bucket from.key from.is_source there.front (there.step ∷ there.back) there.is in
            let large = in_parts s.config s.limits task.size own.piece own.count scheduled.limits is_size (subst (λ (k : Kind). HasPieces s.config s.limits k task.size own.piece own.count) is_kind own.pieces) in
            let least = scheduled.threshold in
            let reaches = large.2 in
            let sized : 1 ≤ length source.0.bytes = subst (λ (k : ℕ). 1 ≤ k) (sym source.2) (omega arith) in
            let high : c.dispatch.job.number ≤ piece_count (length source.0.bytes) own.piece = subst (λ (k : ℕ). c.dispatch.job.number ≤ piece_count k own.piece) (sym source.2) (subst (λ (k : ℕ). c.dispatch.job.number ≤ k) large.1 row.4.1) in
            let within = subst (λ (k : ℕ). LiesWithin (asked_range k own.piece c.dispatch.job.number) source.0.bytes) source.2 (range_within source.0.bytes own.piece c.dispatch.job.number large.0 sized row.4.0 high) in
            absurd (possible.part_copy_possible s.limits old c.ask c.body row.0.bucket row.0.key row.2 c.dispatch.job.number from.bucket from.key task.etag (asked_range task.size own.piece c.dispatch.job.number) open_here.upload source.0
            row.5 (open_to row.0 row.2 open_here.upload open_here.is_open) source.1 within vain)
        is_taken kind.Upload false op.Complete is_kind is_size is_op row =
            let is_job = job_is c.dispatch.job (job_of n op.Complete 0) of_task is_op row.1 in
            let met = joined_or_taken is_job is_size (λ a b has. subst (λ (k : Kind). HasPieces s.config s.limits k task.size a b) is_kind has) in
            (met.0, is_kind, decides kind.Upload false is_kind is_size is_op row.1, met.1)
        is_taken kind.Copy false op.Complete is_kind is_size is_op row =
            let is_job = job_is c.dispatch.job (job_of n op.Complete 0) of_task is_op row.1 in
            let met = joined_or_taken is_job is_size (λ a b has. subst (λ (k : Kind). HasPieces s.config s.limits k task.size a b) is_kind has) in
            absurd (subst (λ (k : Kind). MayBeFresh k) is_kind (may_be_fresh met.0))
        is_taken kind.Upload false op.Abort is_kind is_size is_op row = absurd (abort_here (job_is c.dispatch.job (job_of n op.Abort 0) of_task is_op row.1) row.0.0 row.0.1 row.0.2 row.0.3)
        is_taken kind.Copy false op.Abort is_kind is_size is_op row = absurd (abort_here (job_is c.dispatch.job (job_of n op.Abort 0) of_task is_op row.1) row.0.0 row.0.1 row.0.2 row.0.3)
        is_taken kind.Download small of_op is_kind is_size is_op row = absurd (subst (λ (k : Kind). IsDecidedByRequest k) is_kind by.decided)
        is_taken of_kind small of_op is_kind is_size is_op row = absurd row

        pub taken : IsTaken
        taken = is_taken task.kind (is_small s task) c.dispatch.job.op refl refl refl own.row
