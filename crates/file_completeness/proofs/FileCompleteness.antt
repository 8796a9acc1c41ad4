-- Over a service that does what it may, downloads and removals of files are done.
use Rattle.std.proofs.Common.{◌≡◌, ◌∙◌, ◌⊎◌, ◌<◌, ◌≤◌, ◌++◌, ℕ, Bool, true, false, List, [], ◌∷◌, Option, Some, None, refl, sym, ap, subst, inl, inr, AllPairs, Contains, get_or, length, slice_get, arith, ◌-◌, ◌*◌, min, drop}
use Rattle.std.specs.Prelude.{IsSome, is_some, unwrap_or}
use Rattle.std.specs.FinMap.{empty, get}
use Rattle.std.proofs.lemmas.Bool.{cases_order}
use Rattle.std.proofs.lemmas.List.{length-drop, length-take}
use Rattle.std.proofs.lemmas.List.Sorted.{Contains-permutation, IsPermutation-sym}
use Rattle.std.proofs.lemmas.Option.{get_or_from_slice_get, slice_get-get_or, slice_get_within}
use Rattle.s3_model.specs.declared.answers.Class.{Class}
use Rattle.s3_model.specs.declared.answers.Class.TheVariants as class
use Rattle.s3_model.specs.declared.answers.Reply.{Reply}
use Rattle.s3_model.specs.declared.outcomes.Cause.{Cause}
use Rattle.s3_model.specs.declared.outcomes.Cause.TheVariants as cause
use Rattle.s3_model.specs.declared.outcomes.FileCall.TheVariants as call
use Rattle.s3_model.specs.declared.outcomes.JobId.{JobId}
use Rattle.s3_model.specs.declared.outcomes.Outcome.{Outcome}
use Rattle.s3_model.specs.declared.outcomes.Outcome.TheVariants as outcome
use Rattle.s3_model.specs.declared.places.Place.{Place}
use Rattle.s3_model.specs.declared.places.Place.TheVariants as place
use Rattle.s3_model.specs.declared.requests.Ask.{Ask}
use Rattle.s3_model.specs.declared.requests.Ask.TheVariants as ask
use Rattle.s3_model.specs.declared.requests.Op.{Op}
use Rattle.s3_model.specs.declared.requests.Op.TheVariants as op
use Rattle.s3_model.specs.declared.tasks.Kind.{Kind}
use Rattle.s3_model.specs.declared.tasks.Kind.TheVariants as kind
use Rattle.s3_model.specs.declared.tasks.Task.{Task}
use Rattle.s3_model.specs.Maps.{MapOf}
use Rattle.s3_model.specs.Parts.{HasPieces, piece_count, piece_of, piece_range}
use Rattle.s3_model.specs.Talks.{Talk}
use Rattle.s3_service.specs.ServiceState.{State, Object, HasBucket, object_at}
use Rattle.s3_service.specs.Serves.{Answer, IsThere, LiesWithin, MayChange, Succeeds, bytes_within}
use Rattle.run_promise.specs.Dispatches.{FitsAsk, IsSuccessLast}
use Rattle.job_terms.specs.Dispatches.{Attempt, Dispatched, last_of}
use Rattle.run_promise.specs.Outcomes.{FailsFirstBy, FailsFor, HasOutcome, IsCauseOf, IsDecidedByRequest, IsFilePlace, IsSkippedByFile, IsSkippedByRequest, StaysFor, StoodAt}
use Rattle.run_promise.specs.Schedule.{Gained, IsBefore, IsDecidedBy, IsFailed, IsPart, IsTaskAsk, Known, Setting, asked_range, gained_before, is_small, limit_of, source_bytes}
use Rattle.job_terms.specs.Jobs.{IsSource, Origin, job_of}
use Rattle.run_promise.specs.Endings.{IsThereIn}
use Rattle.run_promise.specs.Fits.{request_at}
use Rattle.run_promise.specs.Traces.{IsTrace, IsWilling, IsWillingAt, Serve, Step, Steps, state_after}
use Rattle.s3_service.specs.Willing.{HasRange, IsWholeObject}
use Rattle.run_promise.specs.Truthful.{AreCertain, IsAlone, IsFinished, MayBeFresh, Shown, WasTaken}
use Rattle.run_promise.specs.Runs.{Run}
use Rattle.shared_lemmas.proofs.Clashes.{some_is, true_is_false}
use Rattle.shared_lemmas.proofs.Maps.{found_in_empty}
use Rattle.shared_lemmas.proofs.Members.{Has, contains_of, has, found_or_not, has_middle}
use Rattle.world_laws.specs.Completeness.{AreCallsCounted, IsOwed}
use Rattle.world_laws.specs.Premises.{HasCome}
use Rattle.world_laws.specs.Promises.{run_of}
use Rattle.world_laws.specs.Tasks.{IsScheduled, IsTraceOf}
use Rattle.world_laws.proofs.Fitting.{task_asks_no_page}
use Rattle.world_laws.proofs.Buckets.{bucket_is_stable}
use Rattle.world_laws.proofs.Early as early
use Rattle.world_laws.proofs.Early.{reached}
use Rattle.job_terms.proofs.SameJobs.{either_way, job_is, op_same}
use Rattle.world_laws.proofs.Marks as marks
use Rattle.world_laws.proofs.Pieces.{piece_is_range, range_within}
use Rattle.job_terms.proofs.PieceCounts.{begins_inside}
use Rattle.world_laws.proofs.Possible as possible
use Rattle.world_laws.proofs.Promises as promises
use Rattle.world_laws.proofs.Requests.{may_change_decided, success_elsewhere}
use Rattle.world_laws.proofs.Rows as rows
use Rattle.world_laws.proofs.Tasks as tasks
use Rattle.world_laws.proofs.Tasks.{last_place, planning_changes_nothing}
use Rattle.world_laws.proofs.Traces.{begun_through, stable_along, trace_beginning}
use Rattle.run_promise.specs.FileOutcomes.{IsByFiles, IsDestChanged}
use Rattle.run_promise.specs.FileCalls.{TaskCall}
use Rattle.file_laws.specs.PlanEnds.{IsPlanCarriedOut}
use Rattle.file_laws.proofs.Ranges.{are_sound}
use Rattle.file_completeness.specs.FileCompleteness.{IsDownloadThere, WillingFilesAreDone}
use Rattle.file_completeness.proofs.Answered.{IsAnsweredEarly, answered_early}
use Rattle.file_completeness.proofs.Gets.{AsksFor, IsInside, get_fits, get_possible, same_fits}

-- ---- rows of a download

-- the range that a Get asks for
abbrev range_for : Bool → ℕ → ℕ → ℕ → Option (ℕ × ℕ)
range_for true size piece number = None
range_for false size piece number = Some (asked_range size piece number)

-- the number of a Get
abbrev IsNumber : Bool → Known → ℕ → Type 0
IsNumber true known number = number ≡ 0
IsNumber false known number = IsPart known number

-- what a download asks: a Get of its source, or the Delete of it
abbrev Gets : Task → Known → Bool → Op → ℕ → Ask → Type 0
Gets task known small of_op number asked = (from : Origin task) × IsNumber small known number × (of_op ≡ op.Get) × (asked ≡ ask.Get from.bucket from.key task.etag (range_for small task.size known.piece number))

abbrev Deletes : Task → Ask → Type 0
Deletes task asked = (from : Origin task) × (asked ≡ ask.Delete from.bucket from.key)

gets_or_deletes : (gained : Gained) (task : Task) (known : Known) (small : Bool) (of_op : Op) (number : ℕ) (asked : Ask) (body : List ℕ) → IsTaskAsk gained task known kind.Download small of_op number asked body
    → Gets task known small of_op number asked ⊎ Deletes task asked
gets_or_deletes gained task known true op.Get number asked body row = inl (row.0, row.1, refl, row.2)
gets_or_deletes gained task known false op.Get number asked body row = inl (row.0, row.1, refl, row.2)
gets_or_deletes gained task known small op.Delete number asked body row = inr (row.0.0, row.0.2)
gets_or_deletes gained task known small of_op number asked body row = absurd row

-- the removal of a file asks nothing
removal_asks_nothing : (gained : Gained) (task : Task) (known : Known) (small : Bool) (of_op : Op) (number : ℕ) (asked : Ask) (body : List ℕ) → IsTaskAsk gained task known kind.RemoveFile small of_op number asked body → ⊥
removal_asks_nothing gained task known small of_op number asked body row = row

-- where each Get came with success, one of that number did
get_gained : (small : Bool) (n : ℕ) (known : Known) (number : ℕ) (gained : Gained) → IsNumber small known number → IsDecidedBy kind.Download small n known.count gained → (answered : Reply) × gained (job_of n op.Get number) answered
get_gained true n known number gained is decided = (decided.0, subst (λ (k : ℕ). gained (job_of n op.Get k) decided.0) (sym is) decided.1)
get_gained false n known number gained is decided = decided number is.0 is.1

limit_of_get : (asked : Ask) (bucket key etag : List ℕ) (range : Option (ℕ × ℕ)) (size piece number : ℕ) → asked ≡ ask.Get bucket key etag range → limit_of size piece number asked ≡ limit_of size piece number (ask.Get bucket key etag range)
limit_of_get asked bucket key etag range size piece number is = ap (limit_of size piece number) is

-- how long a piece is
piece_long : (bytes : List ℕ) (piece number : ℕ) → length (piece_of bytes piece number) ≡ (piece_range (length bytes) piece number).1
piece_long bytes piece number = length-take piece (drop ((number - 1) * piece) bytes) ∙ ap (min piece) (length-drop ((number - 1) * piece) bytes)

-- ---- places

index_of : {X : Type 0} (xs : List X) (x : X) → Contains xs x → (k : ℕ) × (slice_get xs k ≡ Some x)
index_of xs x h = (h.0, slice_get-get_or xs h.0 x h.1 ∙ ap Some h.2)

pair_of : {X : Type 0} (R : X → X → Type 0) (xs : List X) → AllPairs R xs → (i j : ℕ) (a b : X) → i < j → slice_get xs i ≡ Some a → slice_get xs j ≡ Some b → R a b
pair_of R xs all i j a b before at_i at_j =
    subst (λ x. R a x) (get_or_from_slice_get xs j b a at_j) (subst (λ x. R x (get_or xs j a)) (get_or_from_slice_get xs i a a at_i) (all i j a before (slice_get_within xs j b at_j)))

download_is_no_upload : kind.Download ≡ kind.Upload → ⊥
download_is_no_upload e = cc

removal_is_no_upload : kind.RemoveFile ≡ kind.Upload → ⊥
removal_is_no_upload e = cc

removal_is_no_download : kind.RemoveFile ≡ kind.Download → ⊥
removal_is_no_download e = cc

none_some : (n : ℕ) → ◌≡◌ {A = Option ℕ} None (Some n) → ⊥
none_some n e = cc

module _ (Shows : Ask → ℕ → Talk → Class → List ℕ → Type 0) (HasStatus : Ask → ℕ → Talk → ℕ → Type 0) (Plans : List Dispatched → Type 0) (CallFailed : ℕ → Cause → Type 0)
    (request_text : Ask → List ℕ → ℕ → List ℕ) (host : List ℕ) (port : ℕ) (shown : Shown) (dispatched coming : List Dispatched) (calls : List TaskCall)
    (o : IsPlanCarriedOut Shows HasStatus Plans CallFailed request_text host port shown dispatched coming calls)
    (certain : AreCertain Shows dispatched) (not_cancelled : shown.setting.cancelled_at ≡ None)
    (start : State) (trace : List Step) (p : IsTraceOf Shows shown.setting (run_of shown dispatched start trace)) (willing : IsWilling shown.setting.limits start trace) (alone : IsAlone trace) where
  abbrev s : Setting
  s = shown.setting

  scheduled : IsScheduled Shows s shown.journal dispatched coming
  scheduled = promises.scheduled Shows HasStatus Plans CallFailed request_text host port shown dispatched coming o.over_wires

  come : (c : Dispatched) → Contains dispatched c → HasCome shown.journal c
  come c known = scheduled.come c known

  known_failed : (c : Dispatched) → IsFailed Shows s coming c → Contains dispatched c
  known_failed c failed =
      Contains-permutation coming dispatched c (IsPermutation-sym dispatched coming o.over_wires.schedule.is_coming)
      (contains_of coming c (subst (λ (all : List Dispatched). Has all c) (sym failed.2) (has_middle failed.0 c failed.1)))

  -- a bucket that is there stays
  bucket_stays : (bucket : List ℕ) (front back : List Step) → trace ≡ front ++ back → HasBucket start bucket → HasBucket (state_after start front) bucket
  bucket_stays bucket front back is there =
      stable_along s.limits (λ (t : State). HasBucket t bucket) (bucket_is_stable bucket s.limits) front [] start (trace_beginning s.limits front back [] start (subst (λ (t : List Step). IsTrace s.limits [] start t) is p.runs)) there

  abbrev IsGivenAgain : Dispatched → Dispatched → Type 0
  IsGivenAgain a b = a.dispatch.job ≡ b.dispatch.job → IsBefore a.dispatch.came_at b.dispatch.given_at × ¬ (IsSuccessLast (last_of a.dispatch.attempts))

  -- a success of the same job came no earlier
  no_earlier_success : (e c : Dispatched) → Contains dispatched e → (known : Contains dispatched c) → e.dispatch.job ≡ c.dispatch.job → IsSuccessLast (last_of e.dispatch.attempts) → IsBefore e.dispatch.came_at (come c known).0 → ⊥
  no_earlier_success e c known_e known same ok before = by_place (cases_order at_e.0 at_c.0)
    where
      again : AllPairs IsGivenAgain dispatched
      again i j d first inside alike = let says = o.over_wires.schedule.twice i j d first inside alike in (says.0, says.1)

      at_e : (k : ℕ) × (slice_get dispatched k ≡ Some e)
      at_e = index_of dispatched e known_e

      at_c : (k : ℕ) × (slice_get dispatched k ≡ Some c)
      at_c = index_of dispatched c known

      came_first : (come e known_e).0 < (come c known).0
      came_first = subst (λ (at : Option ℕ). IsBefore at (come c known).0) (come e known_e).2 before

      by_place : (at_e.0 ≡ at_c.0) ⊎ (at_e.0 < at_c.0) ⊎ (at_c.0 < at_e.0) → ⊥
      by_place (inl level) =
          let is : e ≡ c = some_is e c (sym at_e.1 ∙ ap (slice_get dispatched) level ∙ at_c.1) in
          let one : Some (come e known_e).0 ≡ Some (come c known).0 = sym (come e known_e).2 ∙ ap (λ (d : Dispatched). d.dispatch.came_at) is ∙ (come c known).2 in
          let same_place : (come e known_e).0 ≡ (come c known).0 = one_place (come e known_e).0 (come c known).0 one in
          let first = came_first in
          absurd (omega arith)
        where
          one_place : (a b : ℕ) → Some a ≡ Some b → a ≡ b
          one_place a b q = cc
      by_place (inr (inl first)) = (pair_of IsGivenAgain dispatched again at_e.0 at_c.0 e c first at_e.1 at_c.1 same).1 ok
      by_place (inr (inr after)) =
          let waits : IsBefore c.dispatch.came_at e.dispatch.given_at = (pair_of IsGivenAgain dispatched again at_c.0 at_e.0 c e after at_c.1 at_e.1 (sym same)).0 in
          let later : (come c known).0 < e.dispatch.given_at = subst (λ (at : Option ℕ). IsBefore at e.dispatch.given_at) (come c known).2 waits in
          let given = scheduled.given.in_order e (come e known_e).0 known_e (come e known_e).2 in
          let first = came_first in
          absurd (omega arith)

  -- ---- one task

  module _ (n : ℕ) (task : Task) (is_task : slice_get s.tasks n ≡ Some task) (by : IsByFiles task) (enough : s.wanted_memory (Some n) ≡ true → ⊥)
      (sourced : task.kind ≡ kind.Download → IsDownloadThere s.tasks start n task) where
    abbrev Gains : ℕ → JobId → Reply → Type 0
    Gains place = gained_before Shows dispatched place

    abbrev known_by : ℕ → ℕ → Known
    known_by piece count = record { number = n; bytes = source_bytes s.held task.source; piece = piece; count = count }

    -- a request of a task, by its row
    record IsOwn (of_task : Task) (c : Dispatched) : Type 0 where
      pub piece : ℕ
      pub count : ℕ
      pub pieces : HasPieces s.config s.limits of_task.kind of_task.size piece count
      pub size : c.size ≡ of_task.size
      pub limit : c.limit ≡ limit_of of_task.size piece c.dispatch.job.number c.ask
      pub row : IsTaskAsk (Gains c.dispatch.given_at) of_task (record { number = n; bytes = source_bytes s.held of_task.source; piece = piece; count = count })
          of_task.kind (is_small s of_task) c.dispatch.job.op c.dispatch.job.number c.ask c.body

    own_of : (c : Dispatched) → Contains dispatched c → c.dispatch.job.task ≡ Some n → IsOwn task c
    own_of c known of_task =
        let says = o.over_wires.schedule.asks c n known of_task in
        let same : says.0 ≡ task = some_is says.0 task (sym says.3 ∙ is_task) in
        subst (λ (t : Task). IsOwn t c) same (record { piece = says.1; count = says.2; pieces = says.4; size = says.5; limit = says.6; row = says.7 })

    -- ---- a download

    module _ (load : task.kind ≡ kind.Download) where
      sources : IsDownloadThere s.tasks start n task
      sources = sourced load

      as_download : (c : Dispatched) (own : IsOwn task c) → Gets task (known_by own.piece own.count) (is_small s task) c.dispatch.job.op c.dispatch.job.number c.ask ⊎ Deletes task c.ask
      as_download c own =
          gets_or_deletes (Gains c.dispatch.given_at) task (known_by own.piece own.count) (is_small s task) c.dispatch.job.op c.dispatch.job.number c.ask c.body
          (subst (λ (k : Kind). IsTaskAsk (Gains c.dispatch.given_at) task (known_by own.piece own.count) k (is_small s task) c.dispatch.job.op c.dispatch.job.number c.ask c.body) load own.row)

      module _ (bucket key : List ℕ) (is_source : IsSource task.source bucket key) where
        first : (object : Object) × IsThere start bucket key task.etag object × (length object.bytes ≡ task.size)
        first = sources.there bucket key is_source

        bucket_there : (front back : List Step) → trace ≡ front ++ back → HasBucket (state_after start front) bucket
        bucket_there front back is = bucket_stays bucket front back is (bucket_of start first.0 first.1.held)
          where
            bucket_of : (t : State) (object : Object) → object_at t bucket key ≡ Some object → HasBucket t bucket
            bucket_of t object at = elim (found_or_not (get t.objects bucket)) [
              | inr found ↦ ap (λ (x : Option (MapOf Object)). is_some x) found.1
              | inl none ↦ absurd (found_in_empty _ key object (ap (λ (x : Option (MapOf Object)). get (unwrap_or x empty) key) (sym none) ∙ at))
            ]

        -- ---- its source, until one of its Gets came

        module _ (c : Dispatched) (known : Contains dispatched c) (own : IsOwn task c) (is_number : IsNumber (is_small s task) (known_by own.piece own.count) c.dispatch.job.number) (is_job : c.dispatch.job ≡ job_of n op.Get c.dispatch.job.number) where
          -- no Delete of it was given by then
          no_delete : (d : Dispatched) → Contains dispatched d → d.dispatch.job.task ≡ Some n → d.dispatch.job.op ≡ op.Delete → task.moves ≡ true → d.dispatch.given_at < (come c known).0 → ⊥
          no_delete d known_d of_this is_delete moves before =
              let waits = o.over_wires.schedule.moves_last d n task known_d of_this is_task moves is_delete own.piece own.count own.pieces in
              let by_kind = subst (λ (k : Kind). IsDecidedBy k (is_small s task) n own.count (Gains d.dispatch.given_at)) load waits in
              let got = get_gained (is_small s task) n (known_by own.piece own.count) c.dispatch.job.number (Gains d.dispatch.given_at) is_number by_kind in
              let e = got.1.0 in
              let came : (come e got.1.1).0 < d.dispatch.given_at = subst (λ (at : Option ℕ). IsBefore at d.dispatch.given_at) (come e got.1.1).2 got.1.3 in
              let by_then : (come e got.1.1).0 < (come c known).0 = omega arith in
              no_earlier_success e c got.1.1 known (got.1.2 ∙ sym is_job) (marks.replied_last Shows e (last_of e.dispatch.attempts) got.0 got.1.4)
              (subst (λ (at : Option ℕ). IsBefore at (come c known).0) (sym (come e got.1.1).2) by_then)

          -- nothing that was given by then changes it
          module _ (e : Dispatched) (known_e : Contains dispatched e) (before : e.dispatch.given_at < (come c known).0) where
            deletes_never : (d : Dispatched) (m : ℕ) (other : Task) → Contains dispatched d → e.dispatch.job ≡ d.dispatch.job → d.dispatch.job.task ≡ Some m → slice_get s.tasks m ≡ Some other
                → (row : tasks.IsRow Shows s shown.journal dispatched coming scheduled m other d) → rows.DeletesSource other d.ask bucket key → ⊥
            deletes_never d m other known_d is_job_d of_other at row deletes =
                let same : n ≡ m = sources.moved_once m other bucket key at is_source deletes.moves deletes.is_source in
                let is : other ≡ task = some_is other task (sym at ∙ ap (slice_get s.tasks) (sym same) ∙ is_task) in
                let is_op : d.dispatch.job.op ≡ op.Delete = op_same d.dispatch.job.op op.Delete
                (sym (rows.row_op (Gains d.dispatch.given_at) other (record { number = m; bytes = source_bytes s.held other.source; piece = row.piece; count = row.count }) other.kind (is_small s other)
                d.dispatch.job.op d.dispatch.job.number d.ask d.body row.row) ∙ ap rows.ask_number deletes.deletes) in
                no_delete e known_e (ap (λ (j : JobId). j.task) is_job_d ∙ of_other ∙ ap Some (sym same)) (ap (λ (j : JobId). j.op) is_job_d ∙ is_op) (ap (λ (t : Task). t.moves) (sym is) ∙ deletes.moves) before

            never_changed : (d : Dispatched) → Contains dispatched d → e.dispatch.job ≡ d.dispatch.job → MayChange d.ask bucket key → ⊥
            never_changed d known_d is_job_d may = elim (found_or_not d.dispatch.job.task) [
              | inl none ↦ planning_changes_nothing d.ask bucket key (o.over_wires.questions d known_d none) may
              | inr some ↦
                  let found = tasks.row_of Shows s shown.journal dispatched coming scheduled d some.0 known_d some.1 in
                  elim (rows.row_changes (Gains d.dispatch.given_at) found.0 (record { number = some.0; bytes = source_bytes s.held found.0.source; piece = found.2.piece; count = found.2.count }) bucket key
                  found.0.kind (is_small s found.0) d.dispatch.job.op d.dispatch.job.number d.ask d.body found.2.row may) [
                    | inl decides ↦ sources.no_dest some.0 found.0 bucket key found.1 is_source decides.is_dest
                    | inr deletes ↦ deletes_never d some.0 found.0 known_d is_job_d some.1 found.1 found.2 deletes
                  ]
            ]

          source_stays : (front back : List Step) → trace ≡ front ++ back → reached front ≤ (come c known).0 → IsThere (state_after start front) bucket key task.etag first.0
          source_stays front back is by_then =
              let held = early.holds_until Shows s.limits start trace dispatched shown.journal p.runs p.fits scheduled.given alone (come c known).0 (λ (t : State). object_at t bucket key ≡ Some first.0)
              (λ d old answered bytes new served given holds. elim (may_change_decided bucket key d.ask) [
                | inr apart ↦ success_elsewhere bucket key s.limits old d.ask d.body answered bytes new served.succeeds apart ∙ holds
                | inl may ↦ absurd (never_changed given.first given.known given.before d served.known given.is_job may)
              ])
              front back is by_then first.1.held in
              record { held = held; etag = first.1.etag }

          -- its range lies in the source, and has the limit
          abbrev range : Option (ℕ × ℕ)
          range = range_for (is_small s task) task.size own.piece c.dispatch.job.number

          sound : is_small s task ≡ false → (1 ≤ own.piece) × (own.count ≡ piece_count task.size own.piece) × (1 ≤ task.size)
          sound large = are_sound s task own.piece own.count scheduled.threshold scheduled.limits load own.pieces large

          inside : IsInside range first.0.bytes
          inside = by_size (is_small s task) refl is_number
            where
              by_size : (small : Bool) → is_small s task ≡ small → IsNumber small (known_by own.piece own.count) c.dispatch.job.number → IsInside (range_for small task.size own.piece c.dispatch.job.number) first.0.bytes
              by_size true is_size number = tt
              by_size false is_size number =
                  let is = sound is_size in
                  let sized : 1 ≤ length first.0.bytes = subst (λ (k : ℕ). 1 ≤ k) (sym first.2) is.2 in
                  let high : c.dispatch.job.number ≤ piece_count (length first.0.bytes) own.piece = subst (λ (k : ℕ). c.dispatch.job.number ≤ piece_count k own.piece) (sym first.2) (subst (λ (k : ℕ). c.dispatch.job.number ≤ k) is.1 number.1) in
                  subst (λ (k : ℕ). LiesWithin (asked_range k own.piece c.dispatch.job.number) first.0.bytes) first.2 (range_within first.0.bytes own.piece c.dispatch.job.number is.0 sized number.0 high)

          asks_for : (from_bucket from_key : List ℕ) → c.ask ≡ ask.Get from_bucket from_key task.etag range → AsksFor c range first.0.bytes
          asks_for from_bucket from_key asks = by_size (is_small s task) refl is_number (own.limit ∙ ap (limit_of task.size own.piece c.dispatch.job.number) asks)
            where
              by_size : (small : Bool) → is_small s task ≡ small → IsNumber small (known_by own.piece own.count) c.dispatch.job.number
                  → c.limit ≡ limit_of task.size own.piece c.dispatch.job.number (ask.Get from_bucket from_key task.etag (range_for small task.size own.piece c.dispatch.job.number))
                  → AsksFor c (range_for small task.size own.piece c.dispatch.job.number) first.0.bytes
              by_size true is_size number limit = limit ∙ sym first.2
              by_size false is_size number limit =
                  let is = sound is_size in
                  let sized : 1 ≤ length first.0.bytes = subst (λ (k : ℕ). 1 ≤ k) (sym first.2) is.2 in
                  let high : c.dispatch.job.number ≤ piece_count (length first.0.bytes) own.piece = subst (λ (k : ℕ). c.dispatch.job.number ≤ piece_count k own.piece) (sym first.2) (subst (λ (k : ℕ). c.dispatch.job.number ≤ k) is.1 number.1) in
                  let begins = begins_inside (length first.0.bytes) own.piece c.dispatch.job.number is.0 sized number.0 high in
                  let long : length (bytes_within (asked_range (length first.0.bytes) own.piece c.dispatch.job.number) first.0.bytes) ≡ (piece_range (length first.0.bytes) own.piece c.dispatch.job.number).1 =
                  ap length (piece_is_range first.0.bytes own.piece c.dispatch.job.number is.0 begins) ∙ piece_long first.0.bytes own.piece c.dispatch.job.number in (
                    own.size ∙ sym first.2,
                    limit ∙ ap (λ (k : ℕ). (piece_range k own.piece c.dispatch.job.number).1) (sym first.2) ∙ sym long ∙ ap (λ (k : ℕ). length (bytes_within (asked_range k own.piece c.dispatch.job.number) first.0.bytes)) first.2,
                  )

      -- ---- what its jobs are answered

      module _ (c : Dispatched) (known : Contains dispatched c) (of_task : c.dispatch.job.task ≡ Some n) (at_place : ℕ) (attempt : Attempt) (at : slice_get c.dispatch.attempts at_place ≡ Some attempt) where
        own : IsOwn task c
        own = own_of c known of_task

        get_job : c.dispatch.job.op ≡ op.Get → c.dispatch.job ≡ job_of n op.Get c.dispatch.job.number
        get_job is_op = job_is c.dispatch.job (job_of n op.Get c.dispatch.job.number) of_task is_op refl

        -- a refusal
        module _ (code message bytes : List ℕ) (shows : Shows c.ask c.limit attempt.talk (class.Refusal code message) bytes) where
          answered : IsAnsweredEarly s.limits start trace c at_place (class.Refusal code message) bytes (come c known).0
          answered = answered_early Shows s.limits start trace dispatched shown.journal p.runs p.fits willing c known (come c known) at_place attempt (class.Refusal code message) bytes at shows tt

          abbrev old : State
          old = state_after start answered.front

          vain : possible.IsInVain s.limits old c.ask c.body
          vain = (subst (λ (answer : Answer). IsWillingAt s.limits old (Serve (request_at c at_place) answer)) answered.names answered.willing).0

          never_refused : ⊥
          never_refused = elim (as_download c own) [
            | inl gets ↦
                let from = gets.0 in
                let there = source_stays from.bucket from.key from.is_source c known own gets.1 (get_job gets.2) answered.front (answered.step ∷ answered.back) answered.is answered.early in
                get_possible s.limits old c.ask c.body from.bucket from.key task.etag (range_for (is_small s task) task.size own.piece c.dispatch.job.number) (first from.bucket from.key from.is_source).0 gets.3 there
                (inside from.bucket from.key from.is_source c known own gets.1 (get_job gets.2)) vain
            | inr deletes ↦
                let from = deletes.0 in
                possible.delete_possible s.limits old c.ask c.body from.bucket from.key deletes.1 (bucket_there from.bucket from.key from.is_source answered.front (answered.step ∷ answered.back) answered.is) vain
          ]

        -- a success
        module _ (said : Reply) (bytes : List ℕ) (shows : Shows c.ask c.limit attempt.talk (class.Success said) bytes) where
          replied : IsAnsweredEarly s.limits start trace c at_place (class.Success said) bytes (come c known).0
          replied = answered_early Shows s.limits start trace dispatched shown.journal p.runs p.fits willing c known (come c known) at_place attempt (class.Success said) bytes at shows
              (λ page. task_asks_no_page n c of_task (page.0, page.1))

          abbrev before : State
          before = state_after start replied.front

          abbrev same : Reply
          same = replied.names.0

          succeeds : Succeeds s.limits before c.ask c.body same bytes replied.step.state
          succeeds = (subst (λ (answer : Answer). Steps s.limits (begun_through [] replied.front) before (Serve (request_at c at_place) answer) replied.step.state) replied.names.2 replied.steps).1

          partial : HasRange c.ask → IsWholeObject same → ⊥
          partial = subst (λ (answer : Answer). IsWillingAt s.limits before (Serve (request_at c at_place) answer)) replied.names.2 replied.willing

          always_fits : FitsAsk c c.ask (class.Success said)
          always_fits = elim (as_download c own) [
            | inr deletes ↦ subst (λ (a : Ask). FitsAsk c a (class.Success said)) (sym deletes.1) tt
            | inl gets ↦
                let from = gets.0 in
                let range = range_for (is_small s task) task.size own.piece c.dispatch.job.number in
                let there = source_stays from.bucket from.key from.is_source c known own gets.1 (get_job gets.2) replied.front (replied.step ∷ replied.back) replied.is replied.early in
                let fits = get_fits s.limits before from.bucket from.key task.etag range c.body same bytes replied.step.state
                (subst (λ (a : Ask). Succeeds s.limits before a c.body same bytes replied.step.state) gets.3 succeeds)
                (subst (λ (a : Ask). HasRange a → IsWholeObject same → ⊥) gets.3 partial) (first from.bucket from.key from.is_source).0 there c
                (asks_for from.bucket from.key from.is_source c known own gets.1 (get_job gets.2) from.bucket from.key gets.3) in
                subst (λ (a : Ask). FitsAsk c a (class.Success said)) (sym gets.3) (same_fits c from.bucket from.key task.etag range said same replied.names.1 fits)
          ]

        no_cause : (why : Cause) → IsCauseOf Shows HasStatus c (Some attempt) why → ⊥
        no_cause (cause.Service of_op code message) h = never_refused code message h.1.0 h.1.1
        no_cause (cause.Lost of_op reason) h = certain c at_place attempt reason h.2 known at h.3
        no_cause cause.Changed h = never_refused h.1.0 h.1.1 h.1.2 h.1.3
        no_cause (cause.BadReply of_op) h = h.4 (always_fits h.1 h.2 h.3)
        no_cause (cause.Files of_call) h = h
        no_cause (cause.Blocked length) h = h
        no_cause (cause.Cancelled reason) h = h
        no_cause cause.Memory h = h

    -- ---- no request of the task fails

    abbrev First : Cause → Type 0
    First why = FailsFirstBy Shows HasStatus CallFailed s dispatched coming n why

    none_first : (why : Cause) → First why → ⊥
    none_first why fails = elim by.decided [
      | inr removal ↦
          let own = own_of fails.0 known of_task in
          removal_asks_nothing (Gains fails.0.dispatch.given_at) task (known_by own.piece own.count) (is_small s task) fails.0.dispatch.job.op fails.0.dispatch.job.number fails.0.ask fails.0.body
          (subst (λ (k : Kind). IsTaskAsk (Gains fails.0.dispatch.given_at) task (known_by own.piece own.count) k (is_small s task) fails.0.dispatch.job.op fails.0.dispatch.job.number fails.0.ask fails.0.body) removal own.row)
      | inl load ↦ elim (found_or_not (last_of fails.0.dispatch.attempts)) [
        | inl none ↦ subst (λ (last : Option Attempt). IsCauseOf Shows HasStatus fails.0 last why) none fails.2
        | inr last ↦
            let at = last_place fails.0.dispatch.attempts last.0 last.1 in
            no_cause load fails.0 known of_task at.0 last.0 at.1 why (subst (λ (any : Option Attempt). IsCauseOf Shows HasStatus fails.0 any why) last.1 fails.2)
      ]
    ]
      where
        known : Contains dispatched fails.0
        known = known_failed fails.0 fails.1.0.0

        of_task : fails.0.dispatch.job.task ≡ Some n
        of_task = fails.1.0.1

    no_cancel : IsSome s.cancelled_at → ⊥
    no_cancel some = true_is_false (sym some ∙ ap (λ (place : Option ℕ). is_some place) not_cancelled)

    -- it fails by a call on files alone
    fails_by_call : (why : Cause) → FailsFor Shows HasStatus CallFailed s dispatched coming n task why → CallFailed n why
    fails_by_call cause.Memory fails = absurd (enough fails)
    fails_by_call (cause.Files of_call) fails = fails.1
    fails_by_call (cause.Blocked length) fails = fails.1
    fails_by_call (cause.Cancelled reason) fails = absurd (no_cancel fails.0)
    fails_by_call cause.Changed (inl by_file) = by_file.1
    fails_by_call cause.Changed (inr fails) = absurd (none_first cause.Changed fails)
    fails_by_call (cause.Service of_op code message) fails = absurd (none_first (cause.Service of_op code message) fails.0)
    fails_by_call (cause.Lost of_op reason) fails = absurd (none_first (cause.Lost of_op reason) fails)
    fails_by_call (cause.BadReply of_op) fails = absurd (none_first (cause.BadReply of_op) fails)

    -- the source of its move is an object, and goes
    stays_never : task.moves ≡ true → (why : Cause) → StaysFor Shows HasStatus CallFailed s dispatched coming n task why → ⊥
    stays_never moves (cause.Files call.Remove) stays = elim by.decided [
      | inr removal ↦ true_is_false (sym moves ∙ by.keeps removal)
      | inl load ↦ subst (λ (source : Option Place). IsFilePlace source) (by.from load).2 stays.0
    ]
    stays_never moves (cause.Files of_call) stays = stays
    stays_never moves cause.Memory stays = enough stays
    stays_never moves (cause.Blocked length) stays = stays
    stays_never moves (cause.Cancelled reason) stays = no_cancel stays.0
    stays_never moves cause.Changed stays = stays
    stays_never moves (cause.Service of_op code message) stays = none_first (cause.Service of_op code message) stays.0
    stays_never moves (cause.Lost of_op reason) stays = none_first (cause.Lost of_op reason) stays
    stays_never moves (cause.BadReply of_op) stays = none_first (cause.BadReply of_op) stays

    -- ---- what is owed to it

    -- a dry run changes no file
    not_dry : IsDestChanged task.kind calls n → s.dryrun ≡ true → ⊥
    not_dry changed dried = made (by_kind task.kind changed)
      where
        by_kind : (k : Kind) → IsDestChanged k calls n → (c : TaskCall) × Contains calls c
        by_kind kind.Download h = (h.0, h.1)
        by_kind kind.RemoveFile h = (h.0, h.1)
        by_kind k h = absurd h

        made : ((c : TaskCall) × Contains calls c) → ⊥
        made h = has [] h.0 (subst (λ (all : List TaskCall). Contains all h.0) (o.over_files.keep.keep.dry dried) h.1)

    in_earnest : (how : Outcome) → (s.dryrun ≡ true → ⊥) → IsFinished false (WasTaken shown start n) how → IsFinished s.dryrun (WasTaken shown start n) how
    in_earnest how real finished = elim (either_way s.dryrun) [
      | inl dried ↦ absurd (real dried)
      | inr wet ↦ subst (λ (dry : Bool). IsFinished dry (WasTaken shown start n) how) (sym wet) finished
    ]

    no_upload : task.kind ≡ kind.Upload → ⊥
    no_upload upload = elim by.decided [ inl load ↦ download_is_no_upload (sym load ∙ upload) | inr removal ↦ removal_is_no_upload (sym removal ∙ upload) ]

    no_request : IsDecidedByRequest task.kind → ⊥
    no_request decided = elim by.decided [ inl load ↦ subst IsDecidedByRequest load decided | inr removal ↦ subst IsDecidedByRequest removal decided ]

    never_taken : (task.fresh ≡ true → task.kind ≡ kind.Download → ¬ (StoodAt s.held s.others task.dest)) → WasTaken shown start n → ⊥
    never_taken free taken = elim by.decided [
      | inr removal ↦ subst (λ (k : Kind). MayBeFresh k) (ap (λ (t : Task). t.kind) is ∙ removal) taken.3
      | inl load ↦
          free (ap (λ (t : Task). t.fresh) (sym is) ∙ taken.2) load
          (there_at task.dest by.is_dest (subst (λ (t : Task). IsThereIn (record { state = start; held = s.held; others = s.others }) t.dest) is taken.4))
    ]
      where
        is : taken.0 ≡ task
        is = some_is taken.0 task (sym taken.1 ∙ is_task)

        there_at : (d : Place) → d ≡ place.File by.path → IsThereIn (record { state = start; held = s.held; others = s.others }) d → StoodAt s.held s.others d
        there_at d is_dest h = subst (λ (q : Place). StoodAt s.held s.others q) (sym is_dest) (subst (λ (q : Place). IsThereIn (record { state = start; held = s.held; others = s.others }) q) is_dest h)

    was_taken : IsSkippedByFile Shows HasStatus CallFailed s dispatched coming n task → WasTaken shown start n
    was_taken skipped = (
      task,
      is_task,
      skipped.0,
      subst (λ (k : Kind). MayBeFresh k) (sym skipped.1) tt,
      subst (λ (q : Place). IsThereIn (record { state = start; held = s.held; others = s.others }) q) (sym by.is_dest) (subst (λ (q : Place). StoodAt s.held s.others q) by.is_dest skipped.2),
    )

    module _ (counted : AreCallsCounted Shows HasStatus Plans CallFailed shown) where
      owed : (how : Outcome) → slice_get shown.outcomes n ≡ Some how → HasOutcome Shows HasStatus CallFailed s dispatched coming n task how → IsOwed shown start n how
      owed outcome.Done at caused = inl (in_earnest outcome.Done (not_dry (o.over_files.decided n task outcome.Done is_task at by).0) (never_taken caused.3))
      owed (outcome.Copied why) at caused = absurd (stays_never caused.0 why caused.3)
      owed (outcome.Failed why) at caused = inr (inl (counted n why at (fails_by_call why caused.2)))
      owed (outcome.Unknown why) at caused = absurd (no_request caused.0.0.2.0)
      owed outcome.Dry at caused = inl (subst (λ (dry : Bool). IsFinished dry (WasTaken shown start n) outcome.Dry) (sym caused) refl)
      owed outcome.Skipped at caused = inl (subst (λ (dry : Bool). IsFinished dry (WasTaken shown start n) outcome.Skipped) (sym caused.0) (by_which caused.1))
        where
          by_which : IsSkippedByRequest Shows HasStatus CallFailed s dispatched coming n task ⊎ IsSkippedByFile Shows HasStatus CallFailed s dispatched coming n task → WasTaken shown start n
          by_which (inl by_request) = absurd (no_upload by_request.1)
          by_which (inr by_file) = was_taken by_file

module _ (Shows : Ask → ℕ → Talk → Class → List ℕ → Type 0) (HasStatus : Ask → ℕ → Talk → ℕ → Type 0) (Plans : List Dispatched → Type 0) (CallFailed : ℕ → Cause → Type 0) where
  pub files_are_done : WillingFilesAreDone Shows HasStatus Plans CallFailed
  files_are_done request_text host port shown run coming calls o counted of_shown willing certain alone not_cancelled n task how is_task by sourced at =
      elim (either_way (shown.setting.wanted_memory (Some n))) [
        | inl wanting ↦ inr (inr wanting)
        | inr none ↦
            owed Shows HasStatus Plans CallFailed request_text host port shown run.dispatched coming calls o certain not_cancelled run.start run.trace
            (subst (λ (r : Run). IsTraceOf Shows shown.setting r) (promises.run_is shown run.dispatched run refl of_shown.of_journal of_shown.of_page) of_shown.fitting) willing alone
            n task is_task by (λ wanting. true_is_false (sym wanting ∙ none)) sourced counted how at (o.over_wires.causes n task how is_task at)
      ]
