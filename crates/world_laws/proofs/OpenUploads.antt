-- An upload in parts of a task stays open with its parts, until a request of its own ends it.
use Rattle.std.proofs.Common.{append_assoc, ◌≡◌, ◌∙◌, ◌⊎◌, ◌≤◌, ◌++◌, ℕ, Bool, true, false, List, [], ◌∷◌, Option, Some, refl, sym, ap, subst, inl, inr, Contains, filter_map, slice_get}
use Rattle.std.proofs.lemmas.List.{append-nil}
use Rattle.std.specs.Cmp.{nat_cmp_total}
use Rattle.std.specs.Cmp.Lexicographic.{nat_list_cmp_total}
use Rattle.std.specs.FinMap.{get, insert, nat_cmp-IsAntisymmetric}
use Rattle.s3_model.specs.declared.requests.Ask.{Ask}
use Rattle.s3_model.specs.declared.requests.Ask.TheVariants as ask
use Rattle.s3_model.specs.declared.requests.Op.{Op}
use Rattle.s3_model.specs.declared.requests.Op.TheVariants as op
use Rattle.s3_model.specs.declared.answers.Class.{Class}
use Rattle.s3_model.specs.declared.answers.Reply.{Reply}
use Rattle.s3_model.specs.declared.answers.Reply.TheVariants as reply
use Rattle.s3_model.specs.declared.outcomes.Event.{Event}
use Rattle.s3_model.specs.declared.outcomes.JobId.{JobId}
use Rattle.s3_model.specs.declared.places.Place.TheVariants as place
use Rattle.s3_model.specs.declared.settings.Limits.{Limits}
use Rattle.s3_model.specs.declared.tasks.Kind.{Kind}
use Rattle.s3_model.specs.declared.tasks.Kind.TheVariants as kind
use Rattle.s3_model.specs.declared.tasks.Task.{Task}
use Rattle.s3_model.specs.Lists.{Reserved}
use Rattle.s3_model.specs.Replies.{IsSameReply}
use Rattle.s3_model.specs.Talks.{Talk}
use Rattle.s3_service.specs.ServiceState.{State, Upload, StoredPart, Ended, CompletedBy, Aborted}
use Rattle.s3_service.specs.Serves.{Replied, Succeeds, IsOpen, IsVacant, bytes_within}
use Rattle.run_promise.specs.Dispatches.{IsSuccessLast}
use Rattle.job_terms.specs.Dispatches.{Dispatched, last_of}
use Rattle.job_terms.specs.Ops.{op_number, IsPlanning}
use Rattle.run_promise.specs.Fits.{request_at}
use Rattle.run_promise.specs.Schedule.{Setting, AreETags, Gained, HasReply, IsTaskAsk, IsUpload, Known, asked_range, gained_before, is_small, source_bytes}
use Rattle.job_terms.specs.Jobs.{Target, job_of}
use Rattle.run_promise.specs.Traces.{SentRequest, Step, TraceEvent, Serve, Steps, state_after, states, events_of, event_of}
use Rattle.run_promise.specs.Truthful.{IsAlone}
use Rattle.shared_lemmas.proofs.Clashes.{some_is}
use Rattle.shared_lemmas.proofs.Lists.{head_is, tail_is}
use Rattle.shared_lemmas.proofs.Maps.{get-insert_other, get-insert_same, key_decided, text_exact}
use Rattle.shared_lemmas.proofs.Members.{found_or_not, Has}
use Rattle.world_laws.specs.Premises.{HasCome}
use Rattle.world_laws.specs.Tasks.{AreQuestions, IsScheduled, IsTraceOf}
use Rattle.world_laws.proofs.Early as early
use Rattle.world_laws.proofs.Early.{reached}
use Rattle.world_laws.proofs.Fitting as fitting
use Rattle.world_laws.proofs.Fitting.{IsServed}
use Rattle.job_terms.proofs.SameJobs.{job_is, op_same}
use Rattle.world_laws.proofs.Marks as marks
use Rattle.world_laws.proofs.Multipart as multi
use Rattle.world_laws.proofs.Rows as rows
use Rattle.world_laws.proofs.TaskLaws as laws
use Rattle.world_laws.proofs.Tasks as tasks
use Rattle.world_laws.proofs.Traces.{begun_through, has_state_after, state_after_step, step_of}
use Rattle.world_laws.proofs.UploadIds.{ids_are_created_once}
use Rattle.world_laws.proofs.Uploads as up
use Rattle.world_laws.proofs.Uploads.{Change, EndsUpload, StoresPart}

-- ---- lists and events

same_middle : {X : Type 0} (front : List X) (x y : X) (back back' : List X) → front ++ x ∷ back ≡ front ++ y ∷ back' → x ≡ y
same_middle [] x y back back' e = head_is x y back back' e
same_middle (z ∷ front) x y back back' e = same_middle front x y back back' (tail_is z z (front ++ x ∷ back) (front ++ y ∷ back') e)

same_request : (a b : SentRequest) (x y : _) → Serve a x ≡ Serve b y → a ≡ b
same_request a b x y e = cc

same_task : (m n : ℕ) → ◌≡◌ {A = Option ℕ} (Some m) (Some n) → m ≡ n
same_task m n e = cc

same_id : (answered : Reply) (a b : List ℕ) → reply.Created a ≡ answered → reply.Created b ≡ answered → a ≡ b
same_id answered a b e f = cc

same_etag : (answered : Reply) (a b : List ℕ) → reply.PartStored a ≡ answered → answered ≡ reply.PartStored b → b ≡ a
same_etag answered a b e f = cc

-- ---- rows that end an upload

completes_is : {x y i b k id : List ℕ} {e e' : Reserved (List ℕ)} {f f' : Bool} → ask.Complete x y i e f ≡ ask.Complete b k id e' f' → i ≡ id
completes_is e = cc

aborts_is : {x y i b k id : List ℕ} → ask.Abort x y i ≡ ask.Abort b k id → i ≡ id
aborts_is e = cc

module _ (gained : Gained) (task : Task) (known : Known) (number : ℕ) (asked : Ask) (body : List ℕ) (b k id : List ℕ) where
  complete_row : (of_kind : Kind) (small : Bool) (etags : Reserved (List ℕ)) (fresh : Bool) → IsTaskAsk gained task known of_kind small op.Complete number asked body → asked ≡ ask.Complete b k id etags fresh
      → IsUpload gained known.number id × (number ≡ 0)
  complete_row of_kind small etags fresh row e = rows.in_parts gained task known number asked body (λ k. IsUpload gained known.number id × (number ≡ 0)) of_kind small op.Complete tt
      (λ row. (subst (λ (i : List ℕ). IsUpload gained known.number i) (completes_is (sym row.0.6 ∙ e)) row.0.4, row.1))
      (λ row. (subst (λ (i : List ℕ). IsUpload gained known.number i) (completes_is (sym row.0.6 ∙ e)) row.0.4, row.1)) row

  abort_row : (of_kind : Kind) (small : Bool) → IsTaskAsk gained task known of_kind small op.Abort number asked body → asked ≡ ask.Abort b k id → IsUpload gained known.number id × (number ≡ 0)
  abort_row of_kind small row e = rows.in_parts gained task known number asked body (λ k. IsUpload gained known.number id × (number ≡ 0)) of_kind small op.Abort tt
      (λ row. (subst (λ (i : List ℕ). IsUpload gained known.number i) (aborts_is (sym row.0.3 ∙ e)) row.0.2, row.1))
      (λ row. (subst (λ (i : List ℕ). IsUpload gained known.number i) (aborts_is (sym row.0.3 ∙ e)) row.0.2, row.1)) row

-- the request that stores a part, by the kind of its task
abbrev pub part_of : Kind → Op
part_of kind.Copy = op.PartCopy
part_of of_kind = op.Part

module _ (gained : Gained) (task : Task) (known : Known) (number : ℕ) (asked : Ask) (body : List ℕ) (b k id : List ℕ) (m : ℕ) where
  abbrev IsPartOf : Kind → Op → Type 0
  IsPartOf of_kind of_op = IsUpload gained known.number id × (of_op ≡ part_of of_kind) × (number ≡ m)

  part_row : (of_kind : Kind) (small : Bool) → IsTaskAsk gained task known of_kind small op.Part number asked body → asked ≡ ask.Part b k id m → IsPartOf of_kind op.Part
  part_row of_kind small row e =
      let is = rows.row_part gained task known b k id m of_kind small op.Part number asked body row e in
      (is.created, ap part_of (sym is.is_upload), is.numbered)

  copied_row : (of_kind : Kind) (small : Bool) (f g u : List ℕ) (range : ℕ × ℕ) → IsTaskAsk gained task known of_kind small op.PartCopy number asked body → asked ≡ ask.PartCopy b k id m f g u range → IsPartOf of_kind op.PartCopy
  copied_row of_kind small f g u range row e =
      let is = rows.row_copy gained task known b k id m f g u range of_kind small op.PartCopy number asked body row e in
      (is.created, ap part_of (sym is.is_copy), is.numbered)

-- it stores that part of the upload
abbrev pub AsksPart : Ask → List ℕ → List ℕ → List ℕ → ℕ → Type 0
AsksPart asked bucket key id number =
    (asked ≡ ask.Part bucket key id number)
    ⊎ ((from_bucket : List ℕ) × (from_key : List ℕ) × (under : List ℕ) × (range : ℕ × ℕ) × (asked ≡ ask.PartCopy bucket key id number from_bucket from_key under range))

-- the requests that name an upload
abbrev pub UsesUpload : Op → Type 0
UsesUpload op.Part = Unit {0}
UsesUpload op.PartCopy = Unit {0}
UsesUpload op.Complete = Unit {0}
UsesUpload op.Abort = Unit {0}
UsesUpload other = ⊥

module _ (gained : Gained) (task : Task) (known : Known) (number : ℕ) (asked : Ask) (body : List ℕ) where
  pub row_upload : (of_kind : Kind) (small : Bool) (of_op : Op) → IsTaskAsk gained task known of_kind small of_op number asked body → UsesUpload of_op → (id : List ℕ) × IsUpload gained known.number id
  row_upload kind.Upload false op.Part row uses = (row.1, row.2)
  row_upload kind.Upload false op.Complete row uses = (row.0.1, row.0.4)
  row_upload kind.Upload false op.Abort row uses = (row.0.1, row.0.2)
  row_upload kind.Copy false op.PartCopy row uses = (row.2, row.3)
  row_upload kind.Copy false op.Complete row uses = (row.0.1, row.0.4)
  row_upload kind.Copy false op.Abort row uses = (row.0.1, row.0.2)
  row_upload kind.Upload true op.Put row uses = absurd uses
  row_upload kind.Upload false op.Create row uses = absurd uses
  row_upload kind.Download true op.Get row uses = absurd uses
  row_upload kind.Download false op.Get row uses = absurd uses
  row_upload kind.Download small op.Delete row uses = absurd uses
  row_upload kind.Copy true op.Copy row uses = absurd uses
  row_upload kind.Copy false op.Create row uses = absurd uses
  row_upload kind.Copy small op.Delete row uses = absurd uses
  row_upload kind.RemoveObject small op.Delete row uses = absurd uses
  row_upload of_kind small of_op row uses = absurd row

  -- what a Complete waits for
  pub record Joins (of_kind : Kind) : Type 0 where
    pub to : Target task
    pub id : List ℕ
    pub etags : List (List ℕ)
    pub spare : ℕ
    pub created : IsUpload gained known.number id
    pub are : AreETags gained known.number (part_of of_kind) known.count etags
    pub asks : asked ≡ ask.Complete to.bucket to.key id (record { items = etags; spare = spare }) task.fresh

  pub row_joins : (of_kind : Kind) (small : Bool) → IsTaskAsk gained task known of_kind small op.Complete number asked body → Joins of_kind
  row_joins of_kind small row = rows.in_parts gained task known number asked body Joins of_kind small op.Complete tt
      (λ row. record { to = row.0.0; id = row.0.1; etags = row.0.2; spare = row.0.3; created = row.0.4; are = row.0.5; asks = row.0.6 })
      (λ row. record { to = row.0.0; id = row.0.1; etags = row.0.2; spare = row.0.3; created = row.0.4; are = row.0.5; asks = row.0.6 }) row

  -- a request for a part
  pub row_asks_part : (of_kind : Kind) (small : Bool) → IsTaskAsk gained task known of_kind small (part_of of_kind) number asked body
      → (to : Target task) × (id : List ℕ) × IsUpload gained known.number id × AsksPart asked to.bucket to.key id number
  row_asks_part kind.Upload false row = (row.0, row.1, row.2, inl row.4)
  row_asks_part kind.Copy false row = (row.0, row.2, row.3, inr (row.1.bucket, row.1.key, task.etag, asked_range task.size known.piece number, row.5))
  row_asks_part kind.Upload true row = absurd row
  row_asks_part kind.Copy true row = absurd row
  row_asks_part kind.Download true row = absurd row
  row_asks_part kind.Download false row = absurd row
  row_asks_part kind.RemoveObject true row = absurd row
  row_asks_part kind.RemoveObject false row = absurd row
  row_asks_part kind.RemoveFile true row = absurd row
  row_asks_part kind.RemoveFile false row = absurd row

pub completed_says : (limits : Limits) (asked : Ask) (body b k id : List ℕ) (etags : Reserved (List ℕ)) (fresh : Bool) (old : State) (answered : Reply) (bytes : List ℕ) (new : State) → asked ≡ ask.Complete b k id etags fresh
    → Succeeds limits old asked body answered bytes new → answered ≡ reply.Completed
completed_says limits asked body b k id etags fresh old answered bytes new is succeeds = by_reply answered (subst (λ (a : Ask). Succeeds limits old a body answered bytes new) is succeeds)
  where
    by_reply : (said : Reply) → Succeeds limits old (ask.Complete b k id etags fresh) body said bytes new → said ≡ reply.Completed
    by_reply reply.Completed h = refl
    by_reply said h = absurd h

-- a Complete that succeeds finds its destination vacant, or was done before
pub complete_vacant : (limits : Limits) (asked : Ask) (body b k id : List ℕ) (etags : Reserved (List ℕ)) (fresh : Bool) (old : State) (answered : Reply) (bytes : List ℕ) (new : State) → asked ≡ ask.Complete b k id etags fresh
    → Succeeds limits old asked body answered bytes new → IsVacant fresh old b k ⊎ (get old.ended id ≡ Some (CompletedBy etags.items))
complete_vacant limits asked body b k id etags fresh old answered bytes new is succeeds = by_reply answered (subst (λ (a : Ask). Succeeds limits old a body answered bytes new) is succeeds)
  where
    by_reply : (said : Reply) → Succeeds limits old (ask.Complete b k id etags fresh) body said bytes new → IsVacant fresh old b k ⊎ (get old.ended id ≡ Some (CompletedBy etags.items))
    by_reply reply.Completed (inl h) = inl h.4
    by_reply reply.Completed (inr h) = inr h.0
    by_reply said h = absurd h

no_question_ends : (asked : Ask) (b k id : List ℕ) (how : Ended) → IsPlanning asked → EndsUpload asked b k id how → ⊥
no_question_ends asked b k id (CompletedBy etags) plans ends = subst IsPlanning ends.2 plans
no_question_ends asked b k id Aborted plans ends = subst IsPlanning ends plans

-- ---- a request that stores a part

pub record Stores (asked : Ask) (body : List ℕ) (bucket key id : List ℕ) (number : ℕ) (old : State) (answered : Reply) (new : State) : Type 0 where
  pub upload : Upload
  pub part : StoredPart
  pub was_open : IsOpen old id bucket key upload
  pub stores : StoresPart asked body old bucket key id number part.bytes
  pub says : answered ≡ reply.PartStored part.etag
  pub is_uploads : new.uploads ≡ insert old.uploads id (record upload { parts = insert upload.parts number part })

stores_part : (limits : Limits) (asked : Ask) (body bucket key id : List ℕ) (number : ℕ) (old : State) (answered : Reply) (bytes : List ℕ) (new : State) → AsksPart asked bucket key id number
    → Succeeds limits old asked body answered bytes new → Stores asked body bucket key id number old answered new
stores_part limits asked body bucket key id number old answered bytes new (inl is) succeeds = by_reply answered (subst (λ (a : Ask). Succeeds limits old a body answered bytes new) is succeeds)
  where
    by_reply : (said : Reply) → Succeeds limits old (ask.Part bucket key id number) body said bytes new → Stores asked body bucket key id number old said new
    by_reply (reply.PartStored etag) h = record { upload = h.0; part = record { bytes = body; etag = etag }; was_open = h.1; stores = inl (is, refl); says = refl; is_uploads = ap (λ (t : State). t.uploads) h.2 }
    by_reply said h = absurd h
stores_part limits asked body bucket key id number old answered bytes new (inr copy) succeeds = by_reply answered (subst (λ (a : Ask). Succeeds limits old a body answered bytes new) copy.4 succeeds)
  where
    by_reply : (said : Reply) → Succeeds limits old (ask.PartCopy bucket key id number copy.0 copy.1 copy.2 copy.3) body said bytes new → Stores asked body bucket key id number old said new
    by_reply (reply.PartStored etag) h = record {
      upload = h.0;
      part = record { bytes = bytes_within copy.3 h.1.bytes; etag = etag };
      was_open = h.2;
      stores = inr (copy.0, copy.1, copy.2, copy.3, h.1, copy.4, h.3, refl);
      says = refl;
      is_uploads = ap (λ (t : State). t.uploads) h.5;
    }
    by_reply said h = absurd h

-- the upload is open there, and such
pub record IsOpenWith (bucket key id : List ℕ) (IsSuch : Upload → Type 0) (t : State) : Type 0 where
  pub upload : Upload
  pub is_open : IsOpen t id bucket key upload
  pub such : IsSuch upload

module _ {page : Option ℕ} (Shows : Ask → ℕ → Talk → Class → List ℕ → Type 0) (s : Setting) (journal : List Event) (dispatched coming : List Dispatched) (r : IsScheduled Shows s journal dispatched coming)
    (start : State) (trace : List Step) (p : IsTraceOf Shows s (record { start = start; trace = trace; journal = journal; dispatched = dispatched; refused_page = page })) (n : ℕ) (task : Task) (bucket key : List ℕ) (is_task : slice_get s.tasks n ≡ Some task) (is_dest : task.dest ≡ place.Object bucket key) where
  abbrev pub HereServed : Dispatched → State → Reply → List ℕ → State → Type 0
  HereServed = IsServed Shows s.limits start trace dispatched

  -- what was served with success is what the last attempt shows
  pub record IsLast (c : Dispatched) (answered : Reply) : Type 0 where
    pub succeeded : IsSuccessLast (last_of c.dispatch.attempts)
    pub says : (said : Reply) → HasReply Shows c (last_of c.dispatch.attempts) said → IsSameReply said answered

  -- a success within a part of the trace
  pub record IsServedIn (front : List Step) (c : Dispatched) : Type 0 where
    pub before : List Step
    pub step : Step
    pub after : List Step
    pub is : front ≡ before ++ step ∷ after
    pub place : ℕ
    pub answered : Reply
    pub bytes : List ℕ
    pub is_event : step.event ≡ Serve (request_at c place) (Replied answered bytes)

  served_in : (front back : List Step) → trace ≡ front ++ back → (c : Dispatched) → Contains dispatched c → HasCome (filter_map event_of (events_of front)) c → (m : ℕ) → c.dispatch.job.task ≡ Some m → (said : Reply) → HasReply Shows c (last_of c.dispatch.attempts) said
      → (at : IsServedIn front c) × IsSameReply said at.answered
  served_in front back is c known come m of_task said h =
      let succeeded = tasks.replied Shows c said h in
      let served = fitting.success_is_served Shows s.limits start trace dispatched journal p.runs p.fits front back is c known come succeeded.0
      (λ is_page. fitting.task_asks_no_page m c of_task (is_page.0, is_page.1)) in
      let at = step_of front (Serve (request_at c succeeded.0.place) (Replied served.0 succeeded.0.bytes)) served.2 in (
        record { before = at.front; step = at.step; after = at.back; is = at.is; place = succeeded.0.place; answered = served.0; bytes = succeeded.0.bytes; is_event = at.is_event },
        subst (λ (a : Reply). IsSameReply a served.0) succeeded.1 served.1,
      )

  in_trace : (front back : List Step) → trace ≡ front ++ back → (c : Dispatched) (at : IsServedIn front c) → trace ≡ at.before ++ at.step ∷ (at.after ++ back)
  in_trace front back is c at = is ∙ ap (λ (f : List Step). f ++ back) at.is ∙ append_assoc at.before (at.step ∷ at.after) back

  come_in_all : (c : Dispatched) → Contains dispatched c → HasCome (filter_map event_of (events_of trace)) c
  come_in_all c known = let come = r.come c known in (come.0, come.1, come.2, ap (λ (j : List Event). slice_get j come.0) p.fits.moves ∙ come.3)

  module _ (lasts : (c : Dispatched) (old : State) (answered : Reply) (bytes : List ℕ) (new : State) → HereServed c old answered bytes new → c.dispatch.job.task ≡ Some n → IsLast c answered) where
    one_success : (a b : Dispatched) → Contains dispatched a → Contains dispatched b → a.dispatch.job ≡ b.dispatch.job → IsSuccessLast (last_of a.dispatch.attempts) → IsSuccessLast (last_of b.dispatch.attempts) → a ≡ b
    one_success a b known_a known_b same ok_a ok_b = marks.one_success Shows AreQuestions s journal dispatched coming r.schedule r.given r.come a b known_a known_b same ok_a ok_b

    -- the answer to a job that came with success
    pub the_answer : (c : Dispatched) → Contains dispatched c → c.dispatch.job.task ≡ Some n → (said : Reply) → HasReply Shows c (last_of c.dispatch.attempts) said
        → (answered : Reply) × ((any : Reply) → HasReply Shows c (last_of c.dispatch.attempts) any → IsSameReply any answered)
    the_answer c known of_task said h =
        let at = (served_in trace [] (sym (append-nil trace)) c known (come_in_all c known) n of_task said h).0 in
        let found = fitting.success_at Shows s.limits start trace dispatched journal p.runs p.fits at.before at.step at.after (request_at c at.place) at.answered at.bytes at.is at.is_event in
        let same_job : c.dispatch.job ≡ found.0.dispatch.job = ap (λ (q : SentRequest). q.job) found.2.is_sent in
        let last = lasts found.0 (state_after start at.before) at.answered at.bytes at.step.state found.1 (ap (λ (j : JobId). j.task) (sym same_job) ∙ of_task) in
        let is : found.0 ≡ c = one_success found.0 c found.1.known known (sym same_job) last.succeeded (marks.replied_last Shows c (last_of c.dispatch.attempts) said h) in
        (at.answered, (subst (λ (d : Dispatched). IsLast d at.answered) is last).says)

    -- ---- ids

    abbrev pub HasId : List ℕ → Type 0
    HasId id = (place : ℕ) × IsUpload (gained_before Shows dispatched place) n id

    -- the task has one upload
    pub one_id : (id other : List ℕ) → HasId id → HasId other → id ≡ other
    one_id id other a b =
        let is : b.1.0 ≡ a.1.0 = one_success b.1.0 a.1.0 b.1.1 a.1.1 (b.1.2 ∙ sym a.1.2)
        (marks.replied_last Shows b.1.0 (last_of b.1.0.dispatch.attempts) (reply.Created other) b.1.4) (marks.replied_last Shows a.1.0 (last_of a.1.0.dispatch.attempts) (reply.Created id) a.1.4) in
        let answer = the_answer a.1.0 a.1.1 (ap (λ (j : JobId). j.task) a.1.2) (reply.Created id) a.1.4 in
        same_id answer.0 id other (answer.1 (reply.Created id) a.1.4)
        (answer.1 (reply.Created other) (subst (λ (d : Dispatched). HasReply Shows d (last_of d.dispatch.attempts) (reply.Created other)) is b.1.4))

    -- no other task has it
    ours : (m : ℕ) (id : List ℕ) (place : ℕ) → HasId id → IsUpload (gained_before Shows dispatched place) m id → m ≡ n
    ours m id place a b =
        let x = served_in trace [] (sym (append-nil trace)) a.1.0 a.1.1 (come_in_all a.1.0 a.1.1) n (ap (λ (j : JobId). j.task) a.1.2) (reply.Created id) a.1.4 in
        let y = served_in trace [] (sym (append-nil trace)) b.0 b.1 (come_in_all b.0 b.1) m (ap (λ (j : JobId). j.task) b.2) (reply.Created id) b.4 in
        let x_event : x.0.step.event ≡ Serve (request_at a.1.0 x.0.place) (Replied (reply.Created id) x.0.bytes) = x.0.is_event ∙ ap (λ (said : Reply). Serve (request_at a.1.0 x.0.place) (Replied said x.0.bytes)) (sym x.1) in
        let y_event : y.0.step.event ≡ Serve (request_at b.0 y.0.place) (Replied (reply.Created id) y.0.bytes) = y.0.is_event ∙ ap (λ (said : Reply). Serve (request_at b.0 y.0.place) (Replied said y.0.bytes)) (sym y.1) in
        let level : x.0.before ≡ y.0.before =
        ids_are_created_once s.limits start trace x.0.before y.0.before x.0.step y.0.step x.0.after y.0.after id p.runs x.0.is y.0.is
        (request_at a.1.0 x.0.place, x.0.bytes, x_event) (request_at b.0 y.0.place, y.0.bytes, y_event) in
        let same : x.0.step ≡ y.0.step = same_middle x.0.before x.0.step y.0.step x.0.after y.0.after
        (sym x.0.is ∙ y.0.is ∙ ap (λ (f : List Step). f ++ y.0.step ∷ y.0.after) (sym level)) in
        let request : request_at a.1.0 x.0.place ≡ request_at b.0 y.0.place = same_request _ _ _ _ (sym x_event ∙ ap (λ (t : Step). t.event) same ∙ y_event) in
        same_task m n (sym (ap (λ (j : JobId). j.task) b.2) ∙ ap (λ (q : SentRequest). q.job.task) (sym request) ∙ ap (λ (j : JobId). j.task) a.1.2)

    -- what ends it is the task's Complete or its Abort
    abbrev pub Ends : Dispatched → Type 0
    Ends c = (c.dispatch.job ≡ job_of n op.Complete 0) ⊎ (c.dispatch.job ≡ job_of n op.Abort 0)

    pub ender : (c : Dispatched) → Contains dispatched c → (b k id : List ℕ) (how : Ended) → HasId id → EndsUpload c.ask b k id how → Ends c
    ender c known b k id how has ends = elim (found_or_not c.dispatch.job.task) [
      | inl none ↦ absurd (no_question_ends c.ask b k id how (tasks.asks_only Shows s journal dispatched coming r c known none) ends)
      | inr some ↦ by_how some.0 some.1 (tasks.row_of Shows s journal dispatched coming r c some.0 known some.1) how ends
    ]
      where
        by_how : (m : ℕ) → c.dispatch.job.task ≡ Some m → (found : (t : Task) × (slice_get s.tasks m ≡ Some t) × tasks.IsRow Shows s journal dispatched coming r m t c) → (of_how : Ended) → EndsUpload c.ask b k id of_how → Ends c
        by_how m of_task found (CompletedBy etags) e =
            let row = found.2 in
            let known_m : Known = record { number = m; bytes = source_bytes s.held found.0.source; piece = row.piece; count = row.count } in
            let is_op : c.dispatch.job.op ≡ op.Complete = op_same c.dispatch.job.op op.Complete
            (sym (rows.row_op (gained_before Shows dispatched c.dispatch.given_at) found.0 known_m found.0.kind (is_small s found.0) c.dispatch.job.op c.dispatch.job.number c.ask c.body row.row) ∙ ap rows.ask_number e.2) in
            let says = complete_row (gained_before Shows dispatched c.dispatch.given_at) found.0 known_m c.dispatch.job.number c.ask c.body b k id found.0.kind (is_small s found.0) (record { items = etags; spare = e.0 }) e.1
            (subst (λ (o : Op). IsTaskAsk (gained_before Shows dispatched c.dispatch.given_at) found.0 known_m found.0.kind (is_small s found.0) o c.dispatch.job.number c.ask c.body) is_op row.row) e.2 in
            inl (job_is c.dispatch.job (job_of n op.Complete 0) (of_task ∙ ap Some (ours m id c.dispatch.given_at has says.0)) is_op says.1)
        by_how m of_task found Aborted e =
            let row = found.2 in
            let known_m : Known = record { number = m; bytes = source_bytes s.held found.0.source; piece = row.piece; count = row.count } in
            let is_op : c.dispatch.job.op ≡ op.Abort = op_same c.dispatch.job.op op.Abort
            (sym (rows.row_op (gained_before Shows dispatched c.dispatch.given_at) found.0 known_m found.0.kind (is_small s found.0) c.dispatch.job.op c.dispatch.job.number c.ask c.body row.row) ∙ ap rows.ask_number e) in
            let says = abort_row (gained_before Shows dispatched c.dispatch.given_at) found.0 known_m c.dispatch.job.number c.ask c.body b k id found.0.kind (is_small s found.0)
            (subst (λ (o : Op). IsTaskAsk (gained_before Shows dispatched c.dispatch.given_at) found.0 known_m found.0.kind (is_small s found.0) o c.dispatch.job.number c.ask c.body) is_op row.row) e in
            inr (job_is c.dispatch.job (job_of n op.Abort 0) (of_task ∙ ap Some (ours m id c.dispatch.given_at has says.0)) is_op says.1)

    -- what stores a part of it is the task's job of that number
    pub storer : (c : Dispatched) → Contains dispatched c → (b k id : List ℕ) (number : ℕ) (old : State) (bytes : List ℕ) → HasId id → StoresPart c.ask c.body old b k id number bytes
        → c.dispatch.job ≡ job_of n (part_of task.kind) number
    storer c known b k id number old bytes has stores = elim (found_or_not c.dispatch.job.task) [
      | inl none ↦ absurd (asks_none (tasks.asks_only Shows s journal dispatched coming r c known none) stores)
      | inr some ↦ by_row some.0 some.1 (tasks.row_of Shows s journal dispatched coming r c some.0 known some.1) stores
    ]
      where
        asks_none : IsPlanning c.ask → StoresPart c.ask c.body old b k id number bytes → ⊥
        asks_none plans (inl part) = tasks.planning_is_no_part c.ask b k id number plans part.0
        asks_none plans (inr copy) = tasks.planning_is_no_copy c.ask b k id number copy.0 copy.1 copy.2 copy.3 plans copy.5

        by_row : (m : ℕ) → c.dispatch.job.task ≡ Some m → (found : (t : Task) × (slice_get s.tasks m ≡ Some t) × tasks.IsRow Shows s journal dispatched coming r m t c) → StoresPart c.ask c.body old b k id number bytes
            → c.dispatch.job ≡ job_of n (part_of task.kind) number
        by_row m of_task found does = finish (by_ask does)
          where
            row : tasks.IsRow Shows s journal dispatched coming r m found.0 c
            row = found.2

            as_op : (of_op : Op) → c.dispatch.job.op ≡ of_op
                → IsTaskAsk (gained_before Shows dispatched c.dispatch.given_at) found.0 (record { number = m; bytes = source_bytes s.held found.0.source; piece = row.piece; count = row.count })
                found.0.kind (is_small s found.0) of_op c.dispatch.job.number c.ask c.body
            as_op of_op is = subst (λ (o : Op). IsTaskAsk (gained_before Shows dispatched c.dispatch.given_at) found.0 (record { number = m; bytes = source_bytes s.held found.0.source; piece = row.piece; count = row.count })
                found.0.kind (is_small s found.0) o c.dispatch.job.number c.ask c.body) is row.row

            is_op : (of_op : Op) → rows.ask_number c.ask ≡ op_number of_op → c.dispatch.job.op ≡ of_op
            is_op of_op same = op_same c.dispatch.job.op of_op
                (sym (rows.row_op (gained_before Shows dispatched c.dispatch.given_at) found.0 (record { number = m; bytes = source_bytes s.held found.0.source; piece = row.piece; count = row.count })
                found.0.kind (is_small s found.0) c.dispatch.job.op c.dispatch.job.number c.ask c.body row.row) ∙ same)

            by_ask : StoresPart c.ask c.body old b k id number bytes → IsUpload (gained_before Shows dispatched c.dispatch.given_at) m id × (c.dispatch.job.op ≡ part_of found.0.kind) × (c.dispatch.job.number ≡ number)
            by_ask (inl part) =
                let same = is_op op.Part (ap rows.ask_number part.0) in
                let says = part_row (gained_before Shows dispatched c.dispatch.given_at) found.0 (record { number = m; bytes = source_bytes s.held found.0.source; piece = row.piece; count = row.count })
                c.dispatch.job.number c.ask c.body b k id number found.0.kind (is_small s found.0) (as_op op.Part same) part.0 in
                (says.0, same ∙ says.1, says.2)
            by_ask (inr copy) =
                let same = is_op op.PartCopy (ap rows.ask_number copy.5) in
                let says = copied_row (gained_before Shows dispatched c.dispatch.given_at) found.0 (record { number = m; bytes = source_bytes s.held found.0.source; piece = row.piece; count = row.count })
                c.dispatch.job.number c.ask c.body b k id number found.0.kind (is_small s found.0) copy.0 copy.1 copy.2 copy.3 (as_op op.PartCopy same) copy.5 in
                (says.0, same ∙ says.1, says.2)

            finish : IsUpload (gained_before Shows dispatched c.dispatch.given_at) m id × (c.dispatch.job.op ≡ part_of found.0.kind) × (c.dispatch.job.number ≡ number) → c.dispatch.job ≡ job_of n (part_of task.kind) number
            finish says =
                let same : m ≡ n = ours m id c.dispatch.given_at has says.0 in
                let is : found.0 ≡ task = some_is found.0 task (sym found.1 ∙ ap (slice_get s.tasks) same ∙ is_task) in
                job_is c.dispatch.job (job_of n (part_of task.kind) number) (of_task ∙ ap Some same) (says.1 ∙ ap (λ (t : Task). part_of t.kind) is) says.2

    ends_task : (c : Dispatched) → Ends c → c.dispatch.job.task ≡ Some n
    ends_task c (inl is) = ap (λ (j : JobId). j.task) is
    ends_task c (inr is) = ap (λ (j : JobId). j.task) is

    -- ---- while it is open

    module _ (id : List ℕ) (has : HasId id) (alone : IsAlone trace) (place : ℕ)
        (never : (c : Dispatched) → Contains dispatched c → early.IsGivenEarly Shows s.limits start trace dispatched journal p.runs p.fits r.given alone place c
        → (old : State) (answered : Reply) (bytes : List ℕ) (new : State) → HereServed c old answered bytes new → Ends c → ⊥) where
      abbrev pub Open : (Upload → Type 0) → State → Type 0
      Open IsSuch t = IsOpenWith bucket key id IsSuch t

      module _ (IsSuch : Upload → Type 0)
          (keeps : (c : Dispatched) (old : State) (answered : Reply) (bytes : List ℕ) (new : State) → HereServed c old answered bytes new → (number : ℕ) (part : StoredPart)
          → StoresPart c.ask c.body old bucket key id number part.bytes → answered ≡ reply.PartStored part.etag → (upload : Upload) → IsSuch upload → IsSuch (record upload { parts = insert upload.parts number part })) where
        by_change : (c : Dispatched) (old new : State) (answered : Reply) (bytes : List ℕ) → HereServed c old answered bytes new
            → early.IsGivenEarly Shows s.limits start trace dispatched journal p.runs p.fits r.given alone place c → Change c.ask c.body answered old new → Open IsSuch old → Open IsSuch new
        by_change c old new answered bytes served given change way = which (up.open_afterwards c.ask c.body answered old new id bucket key way.upload change way.is_open)
          where
            which : up.Afterwards c.ask c.body answered old new id bucket key way.upload → Open IsSuch new
            which (up.stays is_open same_ended) = record { upload = way.upload; is_open = is_open; such = way.such }
            which (up.gains number part stores says is_open same_ended) = record {
              upload = record way.upload { parts = insert way.upload.parts number part };
              is_open = is_open;
              such = keeps c old answered bytes new served number part stores says way.upload way.such;
            }
            which (up.ends how closes ended) = absurd (never c served.known given old answered bytes new served (ender c served.known bucket key id how has closes))

        -- from one step on
        stays_open : (front back : List Step) → trace ≡ front ++ back → reached front ≤ place → (before : List Step) (step : Step) (after : List Step) → front ≡ before ++ step ∷ after → Open IsSuch step.state → Open IsSuch (state_after start front)
        stays_open front back is by_then before step after split first =
            let whole : front ≡ (before ++ step ∷ []) ++ after = split ∙ sym (append_assoc before (step ∷ []) after) in
            let in_all : trace ≡ (before ++ step ∷ []) ++ (after ++ back) = is ∙ ap (λ (f : List Step). f ++ back) whole ∙ append_assoc (before ++ step ∷ []) after back in
            subst (λ (f : List Step). Open IsSuch (state_after start f)) (sym whole)
            (early.holds_on Shows s.limits start trace dispatched journal p.runs p.fits r.given alone place (Open IsSuch)
            (λ c old answered bytes new served given way. by_change c old new answered bytes served given (up.success_changes s.limits old c.ask c.body answered bytes new served.succeeds) way)
            after (before ++ step ∷ []) back in_all (subst (λ (f : List Step). reached f ≤ place) whole by_then)
            (subst (Open IsSuch) (sym (state_after_step before step start)) first))

      abbrev pub AnyUpload : Upload → Type 0
      AnyUpload upload = Unit {0}

      -- it is open once its Create has come
      pub open_at : (front back : List Step) → trace ≡ front ++ back → reached front ≤ place → HasCome (filter_map event_of (events_of front)) has.1.0 → Open AnyUpload (state_after start front)
      open_at front back is by_then come =
          let create = has.1.0 in
          let made = served_in front back is create has.1.1 come n (ap (λ (j : JobId). j.task) has.1.2) (reply.Created id) has.1.4 in
          let at = made.0 in
          let own = tasks.row_of_job Shows s journal dispatched coming r n task bucket key is_task is_dest create op.Create 0 has.1.1 has.1.2 in
          let row = rows.row_create (gained_before Shows dispatched create.dispatch.given_at) task (record { number = n; bytes = source_bytes s.held task.source; piece = own.piece; count = own.count }) task.kind (is_small s task)
          create.dispatch.job.number create.ask create.body
          (subst (λ (o : Op). IsTaskAsk (gained_before Shows dispatched create.dispatch.given_at) task (record { number = n; bytes = source_bytes s.held task.source; piece = own.piece; count = own.count }) task.kind (is_small s task) o
          create.dispatch.job.number create.ask create.body) (ap (λ (j : JobId). j.op) has.1.2) own.row) in
          let place_is = rows.same_place task.dest row.to.bucket row.to.key bucket key row.to.is_dest (tasks.here Shows s journal dispatched coming r n task bucket key is_task is_dest) in
          let asks : create.ask ≡ ask.Create bucket key row.content = rows.create_moved create.ask row.to.bucket row.to.key bucket key row.content row.creates place_is.0 place_is.1 in
          let steps = subst (λ (event : TraceEvent). Steps s.limits (begun_through [] at.before) (state_after start at.before) event at.step.state) at.is_event
          (fitting.steps_at Shows s.limits start trace dispatched journal p.runs p.fits at.before at.step (at.after ++ back) (in_trace front back is create at)) in
          let succeeds = subst (λ (said : Reply). Succeeds s.limits (state_after start at.before) (ask.Create bucket key row.content) create.body said at.bytes at.step.state) (sym made.1)
          (subst (λ (a : Ask). Succeeds s.limits (state_after start at.before) a create.body at.answered at.bytes at.step.state) asks steps.1) in
          let opened = multi.opened Shows s.limits (record { start = start; trace = trace; journal = journal; dispatched = dispatched; refused_page = page }) bucket key
          (laws.fitting Shows s (record { start = start; trace = trace; journal = journal; dispatched = dispatched; refused_page = page }) coming r n task bucket key is_task is_dest p)
          (state_after start at.before) id create.body at.bytes row.content at.step.state succeeds in
          stays_open AnyUpload (λ c old answered bytes new served number part stores says upload such. tt) front back is by_then at.before at.step at.after at.is
          (record { upload = opened.1.0; is_open = opened.1.1; such = tt })

      -- ---- its parts

      module _ (Is : ℕ → List ℕ → Type 0)
          (is_piece : (c : Dispatched) (old : State) (number : ℕ) (bytes : List ℕ) → Contains dispatched c → Has (states start trace) old → StoresPart c.ask c.body old bucket key id number bytes → Is number bytes)
          (q : Dispatched) (q_known : Contains dispatched q) (number : ℕ) (etag : List ℕ) (q_job : q.dispatch.job ≡ job_of n (part_of task.kind) number)
          (q_says : HasReply Shows q (last_of q.dispatch.attempts) (reply.PartStored etag)) where
        -- its part is there, under the ETag that was given
        abbrev pub HasPart : Upload → Type 0
        HasPart upload = (part : StoredPart) × (get upload.parts number ≡ Some part) × (part.etag ≡ etag) × Is number part.bytes

        keeps_part : (c : Dispatched) (old : State) (answered : Reply) (bytes : List ℕ) (new : State) → HereServed c old answered bytes new → (m : ℕ) (part : StoredPart)
            → StoresPart c.ask c.body old bucket key id m part.bytes → answered ≡ reply.PartStored part.etag → (upload : Upload) → HasPart upload → HasPart (record upload { parts = insert upload.parts m part })
        keeps_part c old answered bytes new served m part stores says upload such = elim (key_decided nat_cmp_total nat_cmp-IsAntisymmetric number m) [
          | inr apart ↦ (such.0, get-insert_other nat_cmp_total nat_cmp-IsAntisymmetric upload.parts m part number apart ∙ such.1, such.2, such.3)
          | inl same ↦
              let is_job : c.dispatch.job ≡ q.dispatch.job = storer c served.known bucket key id m old part.bytes has stores ∙ ap (job_of n (part_of task.kind)) (sym same) ∙ sym q_job in
              let last = lasts c old answered bytes new served (ap (λ (j : JobId). j.task) (is_job ∙ q_job)) in
              let is : q ≡ c = one_success q c q_known served.known (sym is_job) (marks.replied_last Shows q (last_of q.dispatch.attempts) (reply.PartStored etag) q_says) last.succeeded in
              let told = last.says (reply.PartStored etag) (subst (λ (d : Dispatched). HasReply Shows d (last_of d.dispatch.attempts) (reply.PartStored etag)) is q_says) in (
                part,
                ap (get (insert upload.parts m part)) same ∙ get-insert_same nat_cmp_total nat_cmp-IsAntisymmetric upload.parts m part,
                same_etag answered etag part.etag told says,
                subst (λ (k : ℕ). Is k part.bytes) (sym same) (is_piece c old m part.bytes served.known served.among stores),
              )
        ]

        pub part_at : AsksPart q.ask bucket key id number → (front back : List Step) → trace ≡ front ++ back → reached front ≤ place → HasCome (filter_map event_of (events_of front)) q → Open HasPart (state_after start front)
        part_at asks front back is by_then come =
            let made = served_in front back is q q_known come n (ap (λ (j : JobId). j.task) q_job) (reply.PartStored etag) q_says in
            let at = made.0 in
            let split = in_trace front back is q at in
            let steps = subst (λ (event : TraceEvent). Steps s.limits (begun_through [] at.before) (state_after start at.before) event at.step.state) at.is_event
            (fitting.steps_at Shows s.limits start trace dispatched journal p.runs p.fits at.before at.step (at.after ++ back) split) in
            let stored = stores_part s.limits q.ask q.body bucket key id number (state_after start at.before) at.answered at.bytes at.step.state asks steps.1 in
            let among = subst (λ (t : List Step). Has (states start t) (state_after start at.before)) (sym split) (has_state_after at.before (at.step ∷ (at.after ++ back)) start) in
            let changed : Upload = record stored.upload { parts = insert stored.upload.parts number stored.part } in
            stays_open HasPart keeps_part front back is by_then at.before at.step at.after at.is
            (record {
              upload = changed;
              is_open = record {
                held = ap (λ uploads. get uploads id) stored.is_uploads ∙ get-insert_same nat_list_cmp_total text_exact (state_after start at.before).uploads id changed;
                bucket = stored.was_open.bucket;
                key = stored.was_open.key;
              };
              such = (
                stored.part,
                get-insert_same nat_cmp_total nat_cmp-IsAntisymmetric stored.upload.parts number stored.part,
                same_etag at.answered etag stored.part.etag made.1 stored.says,
                is_piece q (state_after start at.before) number stored.part.bytes q_known among stored.stores,
              );
            })
