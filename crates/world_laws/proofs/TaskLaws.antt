-- A task whose destination is an object is new after a success, as before after refusals, and else one or the other.
use Rattle.std.proofs.Common.{◌≡◌, ◌∙◌, ◌⊎◌, ◌≤◌, ℕ, Bool, true, false, List, Option, Some, None, refl, sym, ap, subst, inl, inr, Contains, length, filter_map, slice_get, arith}
use Rattle.std.specs.FinMap.{get}
use Rattle.s3_model.specs.declared.requests.Ask.{Ask}
use Rattle.s3_model.specs.declared.requests.Op.{Op}
use Rattle.s3_model.specs.declared.answers.Class.{Class}
use Rattle.s3_model.specs.declared.outcomes.JobId.{JobId}
use Rattle.s3_model.specs.declared.outcomes.Event.{Event}
use Rattle.s3_model.specs.declared.places.Place.{Place}
use Rattle.s3_model.specs.declared.places.Place.TheVariants as place
use Rattle.s3_model.specs.declared.tasks.Kind.{Kind}
use Rattle.s3_model.specs.declared.tasks.Kind.TheVariants as kind
use Rattle.s3_model.specs.declared.tasks.Task.{Task}
use Rattle.s3_model.specs.Maps.{MapOf}
use Rattle.s3_model.specs.Talks.{Talk}
use Rattle.s3_model.specs.Files.{HeldFile}
use Rattle.s3_model.specs.Parts.{HasPieces, IsTransfer, piece_of, piece_count}
use Rattle.s3_service.specs.Serves.{MayChange, bytes_within}
use Rattle.s3_service.specs.ServiceState.{State, object_at, HasBytes}
use Rattle.job_terms.specs.Dispatches.{Dispatched}
use Rattle.run_promise.specs.Traces.{Step, state_after, events_of, event_of}
use Rattle.run_promise.specs.Schedule.{Setting, IsTaskAsk, is_small, source_bytes, bytes_of, gained_before, asked_range}
use Rattle.job_terms.specs.Jobs.{job_of}
use Rattle.run_promise.specs.Endings.{Excused, Scene, HasContent, Holds, IsAbsent, IsNew}
use Rattle.run_promise.specs.Truthful.{IsDest, IsOldAfter}
use Rattle.world_laws.specs.Premises.{BeginsWith, IsPlace, HasCome, HasSucceeded}
use Rattle.run_promise.specs.Runs.{Run, moments, IsFitting}
use Rattle.world_laws.specs.Destinations.{AllThatChange, Making, Requests, IsNewOnceCome, IsOldOrNew}
use Rattle.world_laws.specs.SmallTransfers.{AsksPut, AsksCopy, AsksDelete, HadContent, IsStored, IsCopied, IsRemoved}
use Rattle.world_laws.specs.Multipart.{AreParts, AreCopiedParts, IsCopiedInParts, joined}
use Rattle.world_laws.specs.Tasks.{HasSource, IsRefusedIn, IsScheduled, IsTaskNew, IsTraceOf, TaskIsNew, TaskIsOld, TaskIsWhole}
use Rattle.job_terms.specs.Ops.{deciding}
use Rattle.shared_lemmas.proofs.Members.{contains_of, has_at}
use Rattle.world_laws.proofs.Frame.{asked_decided}
use Rattle.world_laws.proofs.Kept.{kept_at}
use Rattle.world_laws.proofs.Fitting.{come_by}
use Rattle.world_laws.proofs.Pieces.{pieces_make_whole, ranges_make_whole}
use Rattle.job_terms.proofs.PieceCounts.{in_parts}
use Rattle.world_laws.proofs.SmallTransfers as small
use Rattle.world_laws.proofs.InParts as parts
use Rattle.world_laws.proofs.Rows as rows
use Rattle.world_laws.proofs.Tasks as tasks

module _ (Shows : Ask → ℕ → Talk → Class → List ℕ → Type 0) (s : Setting) (run : Run) (coming : List Dispatched) (r : IsScheduled Shows s run.journal run.dispatched coming)
    (n : ℕ) (task : Task) (bucket key : List ℕ) (is_task : slice_get s.tasks n ≡ Some task) (is_dest : task.dest ≡ place.Object bucket key) where
  abbrev journal : List Event
  journal = run.journal

  abbrev dispatched : List Dispatched
  dispatched = run.dispatched

  -- ---- a destination that is new

  module _ (excused : Excused) (held : MapOf HeldFile) (seen : List State) where
    abbrev scene : State → Scene
    scene t = record { state = t; held = held; others = s.others }

    holds : (t : State) (bytes : List ℕ) → HasBytes t bucket key bytes → Holds excused (scene t) task.dest task.micros bytes
    holds t bytes has = subst (λ (p : Place). Holds excused (scene t) p task.micros bytes) (sym is_dest) has

    abbrev source : List ℕ
    source = source_bytes s.held task.source

    uploaded : (path : List ℕ) (file : HeldFile) → task.source ≡ Some (place.File path) → get s.held path ≡ Some file → (t : State) → HasBytes t bucket key source → IsNew excused s.held seen (scene t) task kind.Upload
    uploaded path file is_source at t has =
        let same : source ≡ file.bytes = ap (source_bytes s.held) is_source ∙ ap bytes_of at in
        (source, subst (λ (o : Option Place). HasContent s.held seen task.etag o source) (sym is_source) (file, at, sym same), holds t source has)

    copied : (from_bucket from_key : List ℕ) → task.source ≡ Some (place.Object from_bucket from_key) → (t : State) (bytes : List ℕ) → HadContent seen from_bucket from_key task.etag bytes → HasBytes t bucket key bytes
        → IsNew excused s.held seen (scene t) task kind.Copy
    copied from_bucket from_key is_source t bytes had has =
        (bytes, subst (λ (o : Option Place). HasContent s.held seen task.etag o bytes) (sym is_source) had, holds t bytes has)

    removed : (t : State) → object_at t bucket key ≡ None → IsNew excused s.held seen (scene t) task kind.RemoveObject
    removed t gone = subst (λ (p : Place). IsAbsent excused (scene t) p) (sym is_dest) gone

    -- ---- the law of a destination

    -- which requests are for it, how they make it, and what is known of both
    pub record HasLaw : Type 1 where
      pub AreOurs : Requests
      pub IsMade : Making
      pub once_come : IsNewOnceCome Shows bucket key AreOurs IsMade
      pub whole : IsOldOrNew Shows bucket key AreOurs IsMade
      pub ours : AreOurs journal dispatched
      pub is_new : (t : State) → IsMade seen t → IsNew excused s.held seen (scene t) task task.kind

    -- as the kind is known
    as_kind : (of_kind : Kind) → task.kind ≡ of_kind → (t : State) → IsNew excused s.held seen (scene t) task of_kind → IsNew excused s.held seen (scene t) task task.kind
    as_kind of_kind is_kind t is_new = subst (λ (k : Kind). IsNew excused s.held seen (scene t) task k) (sym is_kind) is_new

    module _ (piece count : ℕ) (pieces : HasPieces s.config s.limits task.kind task.size piece count) where
      -- from the threshold on
      large : (of_kind : Kind) → task.kind ≡ of_kind → (HasPieces s.config s.limits of_kind task.size piece count → IsTransfer s.config s.limits task.size piece count) → is_small s task ≡ false
          → (1 ≤ piece) × (count ≡ piece_count task.size piece) × (1 ≤ task.size)
      large of_kind is_kind is_transfer is_size =
          let all = in_parts s.config s.limits task.size piece count r.limits is_size (is_transfer (subst (λ (k : Kind). HasPieces s.config s.limits k task.size piece count) is_kind pieces)) in
          let least = r.threshold in
          let reached = all.2 in
          (all.0, all.1, omega arith)

      joined_is_source : (path : List ℕ) (file : HeldFile) → task.source ≡ Some (place.File path) → get s.held path ≡ Some file → length file.bytes ≡ task.size → task.kind ≡ kind.Upload → is_small s task ≡ false
          → joined (piece_of source piece) 1 count ≡ source
      joined_is_source path file is_source at long is_kind is_size =
          let facts = large kind.Upload is_kind (λ p. p) is_size in
          let same : source ≡ file.bytes = ap (source_bytes s.held) is_source ∙ ap bytes_of at in
          let size : task.size ≡ length source = sym long ∙ ap length (sym same) in
          ap (joined (piece_of source piece) 1) (facts.1 ∙ ap (λ (k : ℕ). piece_count k piece) size) ∙ pieces_make_whole source piece facts.0

      joined_is_content : (bytes : List ℕ) → length bytes ≡ task.size → task.kind ≡ kind.Copy → is_small s task ≡ false → joined (λ k. bytes_within (asked_range task.size piece k) bytes) 1 count ≡ bytes
      joined_is_content bytes long is_kind is_size =
          let facts = large kind.Copy is_kind (λ p. p) is_size in
          let some : 1 ≤ length bytes = subst (λ k. 1 ≤ k) (sym long) facts.2 in
          ap (joined (λ k. bytes_within (asked_range task.size piece k) bytes) 1) (facts.1 ∙ ap (λ (k : ℕ). piece_count k piece) (sym long))
          ∙ ap (λ (size : ℕ). joined (λ k. bytes_within (asked_range size piece k) bytes) 1 (piece_count (length bytes) piece)) (sym long) ∙ ranges_make_whole bytes piece facts.0 some

      law_by : (of_kind : Kind) (size_is_small : Bool) → task.kind ≡ of_kind → is_small s task ≡ size_is_small → HasSource s.held seen task of_kind size_is_small → HasLaw
      law_by kind.Upload true is_kind is_size has = record {
        AreOurs = λ j d. AllThatChange bucket key (AsksPut bucket key source) d;
        IsMade = IsStored bucket key source;
        once_come = small.upload_once_come Shows bucket key source;
        whole = small.upload_is_whole Shows bucket key source;
        ours = tasks.puts_alone Shows s journal dispatched coming r n task bucket key is_task is_dest piece count pieces is_kind is_size;
        is_new = λ t made. as_kind kind.Upload is_kind t (uploaded has.0 has.1 has.2 has.3 t made);
      }
      law_by kind.Upload false is_kind is_size has = record {
        AreOurs = AreParts Shows bucket key (piece_of source piece) count;
        IsMade = IsStored bucket key (joined (piece_of source piece) 1 count);
        once_come = parts.parts_once_come Shows bucket key (piece_of source piece) count;
        whole = parts.parts_are_whole Shows bucket key (piece_of source piece) count;
        ours = tasks.parts_alone Shows s journal dispatched coming r n task bucket key is_task is_dest piece count pieces is_kind is_size;
        is_new = λ t made. as_kind kind.Upload is_kind t (uploaded has.0 has.1 has.2 has.3 t (subst (λ (b : List ℕ). HasBytes t bucket key b) (joined_is_source has.0 has.1 has.2 has.3 has.4 is_kind is_size) made));
      }
      law_by kind.Copy true is_kind is_size has = record {
        AreOurs = λ j d. AllThatChange bucket key (AsksCopy bucket key has.0 has.1 task.etag) d;
        IsMade = IsCopied bucket key has.0 has.1 task.etag;
        once_come = small.copy_once_come Shows bucket key has.0 has.1 task.etag;
        whole = small.copy_is_whole Shows bucket key has.0 has.1 task.etag;
        ours = tasks.copies_alone Shows s journal dispatched coming r n task bucket key is_task is_dest piece count pieces has.0 has.1 is_kind is_size has.2;
        is_new = λ t made. as_kind kind.Copy is_kind t (copied has.0 has.1 has.2 t made.0 made.1 made.2);
      }
      law_by kind.Copy false is_kind is_size has = record {
        AreOurs = AreCopiedParts Shows bucket key has.0 has.1 task.etag (asked_range task.size piece) count;
        IsMade = IsCopiedInParts bucket key has.0 has.1 task.etag (asked_range task.size piece) count;
        once_come = parts.copied_parts_once_come Shows bucket key has.0 has.1 task.etag (asked_range task.size piece) count;
        whole = parts.copied_parts_are_whole Shows bucket key has.0 has.1 task.etag (asked_range task.size piece) count;
        ours = tasks.copied_parts_alone Shows s journal dispatched coming r n task bucket key is_task is_dest piece count pieces has.0 has.1 is_kind is_size has.2;
        is_new = λ t made. as_kind kind.Copy is_kind t (copied has.0 has.1 has.2 t made.0 made.1 (subst (λ (b : List ℕ). HasBytes t bucket key b) (joined_is_content made.0 (has.3 made.0 made.1) is_kind is_size) made.2));
      }
      law_by kind.RemoveObject size_is_small is_kind is_size has = record {
        AreOurs = λ j d. AllThatChange bucket key (AsksDelete bucket key) d;
        IsMade = IsRemoved bucket key;
        once_come = small.delete_once_come Shows bucket key;
        whole = small.delete_is_whole Shows bucket key;
        ours = tasks.deletes_alone Shows s journal dispatched coming r n task bucket key is_task is_dest piece count pieces size_is_small is_kind is_size;
        is_new = λ t made. as_kind kind.RemoveObject is_kind t (removed t made);
      }
      law_by kind.Download size_is_small is_kind is_size has = absurd has
      law_by kind.RemoveFile size_is_small is_kind is_size has = absurd has

    pub law : (piece count : ℕ) → HasPieces s.config s.limits task.kind task.size piece count → HasSource s.held seen task task.kind (is_small s task) → HasLaw
    law piece count pieces has = law_by piece count pieces task.kind (is_small s task) refl refl has

  -- ---- the trace

  pub fitting : IsTraceOf Shows s run → IsFitting Shows s.limits run (IsPlace bucket key)
  fitting p = record {
    runs = p.runs;
    honest = kept_at run.start run.trace (IsDest s.tasks) p.honest bucket key (task, contains_of s.tasks task (has_at s.tasks n task is_task), is_dest);
    fits = p.fits;
  }

  -- a dispatch of the deciding job may change the destination
  decides : (seen : List State) → HasSource s.held seen task task.kind (is_small s task) → (c : Dispatched) → Contains dispatched c → c.dispatch.job ≡ job_of n (deciding task.kind (is_small s task)) 0 → MayChange c.ask bucket key
  decides seen has c known is_job =
      let own = tasks.row_of_job Shows s journal dispatched coming r n task bucket key is_task is_dest c (deciding task.kind (is_small s task)) 0 known is_job in
      elim (rows.row_decides (gained_before Shows dispatched c.dispatch.given_at) task (record { number = n; bytes = source_bytes s.held task.source; piece = own.piece; count = own.count })
      task.kind (is_small s task) c.dispatch.job.number c.ask c.body
      (subst (λ (o : Op). IsTaskAsk (gained_before Shows dispatched c.dispatch.given_at) task (record { number = n; bytes = source_bytes s.held task.source; piece = own.piece; count = own.count })
      task.kind (is_small s task) o c.dispatch.job.number c.ask c.body) (ap (λ (j : JobId). j.op) is_job) own.row)) [
        | inr download ↦ absurd (no_download (is_small s task) (subst (λ (k : Kind). HasSource s.held seen task k (is_small s task)) download has))
        | inl at ↦
            let same = rows.same_place task.dest at.0.bucket at.0.key bucket key at.0.is_dest (tasks.here Shows s journal dispatched coming r n task bucket key is_task is_dest) in
            subst (λ (k : List ℕ). MayChange c.ask bucket k) same.1 (subst (λ (b : List ℕ). MayChange c.ask b at.0.key) same.0 at.1)
      ]
    where
      no_download : (size_is_small : Bool) → HasSource s.held seen task kind.Download size_is_small → ⊥
      no_download true h = h
      no_download false h = h

  -- once the deciding request has come with success
  pub new_once_come : (excused : Excused) (held : MapOf HeldFile) (part : List Step) → IsTraceOf Shows s run → BeginsWith run part
      → HasSource s.held (moments run) task task.kind (is_small s task) → (c : Dispatched) → Contains dispatched c → c.dispatch.job ≡ job_of n (deciding task.kind (is_small s task)) 0
      → HasCome (filter_map event_of (events_of part)) c → HasSucceeded Shows c → IsTaskNew s excused held (moments run) task (state_after run.start part)
  new_once_come excused held part p begins has c known is_job come succeeded =
      let may = decides (moments run) has c known is_job in
      let own = (tasks.changes Shows s journal dispatched coming r n task bucket key is_task is_dest c known may).row in
      let here = law excused held (moments run) own.piece own.count own.pieces has in
      here.is_new (state_after run.start part) (here.once_come s.limits run part (fitting p) here.ours begins (record { request = c; known = known; may = may; come = come; succeeded = succeeded }))

  pub whole_always : (excused : Excused) (held : MapOf HeldFile) (part : List Step) → IsTraceOf Shows s run → BeginsWith run part → HasSource s.held (moments run) task task.kind (is_small s task)
      → IsOldAfter run part bucket key ⊎ IsTaskNew s excused held (moments run) task (state_after run.start part)
  whole_always excused held part p begins has = elim (asked_decided dispatched bucket key) [
    | inr unasked ↦ inl (small.old_after_refusals Shows s.limits run part bucket key (fitting p) (λ c known may. absurd (unasked (c, known, may))) begins)
    | inl asked ↦
        let own = (tasks.changes Shows s journal dispatched coming r n task bucket key is_task is_dest asked.0 asked.1 asked.2).row in
        let here = law excused held (moments run) own.piece own.count own.pieces has in
        elim (here.whole s.limits run part (fitting p) here.ours begins) [
          | inl old ↦ inl old
          | inr made ↦ inr (here.is_new (state_after run.start part) made)
        ]
  ]

  pub old_where_refused : (part : List Step) → IsTraceOf Shows s run → BeginsWith run part → IsRefusedIn Shows s dispatched n task → IsOldAfter run part bucket key
  old_where_refused part p begins refused =
      small.old_after_refusals Shows s.limits run part bucket key (fitting p)
      (λ c known may. refused c known (tasks.changes Shows s journal dispatched coming r n task bucket key is_task is_dest c known may).is_job) begins

-- ---- the laws

module _ (Shows : Ask → ℕ → Talk → Class → List ℕ → Type 0) where
  pub task_is_new : TaskIsNew Shows
  task_is_new s excused held run part of whole n task bucket key is decided =
      new_once_come Shows s run of.coming of.scheduled n task bucket key is.is_task is.is_dest excused held part of.traced (whole.0, whole.1) is.has_source decided.request decided.known decided.decides
      (come_by run.journal run.trace part whole decided.request (of.scheduled.come decided.request decided.known)) decided.succeeded

  pub task_is_old : TaskIsOld Shows
  task_is_old s run part of begins n task bucket key is_task is_dest refused =
      old_where_refused Shows s run of.coming of.scheduled n task bucket key is_task is_dest part of.traced begins refused

  pub task_is_whole : TaskIsWhole Shows
  task_is_whole s excused held run part of begins n task bucket key is =
      whole_always Shows s run of.coming of.scheduled n task bucket key is.is_task is.is_dest excused held part of.traced begins is.has_source
