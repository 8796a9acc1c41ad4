-- What the laws on requests give to those on files: what the Gets of a download tell of its source, and that a deleted source is gone.
use Rattle.std.proofs.Common.{◌≡◌, ◌∙◌, ◌-◌, ◌*◌, ◌≤◌, ℕ, Bool, true, false, min, List, Option, Some, None, refl, sym, ap, subst, Contains, length, take, drop, slice_get, arith}
use Rattle.std.proofs.lemmas.List.{length-drop, take_min}
use Rattle.std.proofs.lemmas.Option.{slice_get-get_or}
use Rattle.std.proofs.Math.Seq.{take_all}
use Rattle.s3_model.specs.declared.answers.Class.{Class}
use Rattle.s3_model.specs.declared.answers.Class.TheVariants as class
use Rattle.s3_model.specs.declared.answers.Reply.{Reply}
use Rattle.s3_model.specs.declared.answers.Reply.TheVariants as reply
use Rattle.s3_model.specs.declared.outcomes.Event.{Event}
use Rattle.s3_model.specs.declared.outcomes.Event.TheVariants as entry
use Rattle.s3_model.specs.declared.outcomes.JobId.{JobId}
use Rattle.s3_model.specs.declared.places.Place.{Place}
use Rattle.s3_model.specs.declared.places.Place.TheVariants as place
use Rattle.s3_model.specs.declared.requests.Ask.{Ask}
use Rattle.s3_model.specs.declared.requests.Ask.TheVariants as ask
use Rattle.s3_model.specs.declared.requests.Op.{Op}
use Rattle.s3_model.specs.declared.requests.Op.TheVariants as op
use Rattle.s3_model.specs.declared.tasks.Kind.{Kind}
use Rattle.s3_model.specs.declared.tasks.Kind.TheVariants as kind
use Rattle.s3_model.specs.declared.tasks.Task.{Task}
use Rattle.s3_model.specs.Files.{HeldFile}
use Rattle.s3_model.specs.Maps.{MapOf}
use Rattle.s3_model.specs.Parts.{HasPieces, piece_count, piece_of}
use Rattle.s3_model.specs.Talks.{Talk}
use Rattle.s3_service.specs.ServiceState.{State}
use Rattle.run_promise.specs.Dispatches.{FitsAsk, FitsLast}
use Rattle.job_terms.specs.Dispatches.{Attempt, Dispatched, last_of}
use Rattle.run_promise.specs.Endings.{HasContent, IsGone}
use Rattle.run_promise.specs.Schedule.{Gained, HasReply, IsTaskAsk, Known, Setting, asked_range, gained_before, is_small, source_bytes}
use Rattle.job_terms.specs.Jobs.{IsSource, Origin, job_of}
use Rattle.run_promise.specs.Traces.{Step, state_after, states}
use Rattle.run_promise.specs.Runs.{HasJournal, IsFitting}
use Rattle.world_laws.specs.Downloads.{IsGot, IsPartial}
use Rattle.world_laws.specs.Multipart.{joined}
use Rattle.world_laws.specs.Premises.{HasSucceeded, IsNoPlace}
use Rattle.world_laws.specs.SmallTransfers.{HadContent}
use Rattle.world_laws.specs.Tasks.{HasSourceObject, IsScheduled, IsTraceOf}
use Rattle.world_laws.proofs.Downloads.{ranges_tell, whole_tells}
use Rattle.job_terms.proofs.PieceCounts.{pieces_are_one}
use Rattle.world_laws.proofs.Pieces.{pieces_make_whole}
use Rattle.world_laws.proofs.MovedTasks.{moved_source_is_gone}
use Rattle.world_laws.proofs.Tasks.{last_place, replied}
use Rattle.run_promise.specs.FileCalls.{IsBody, IsRangeIn}
use Rattle.file_laws.proofs.Keeping.{same_task, some_place}
use Rattle.file_laws.proofs.Ranges.{AreSound, are_sound, range_in, range_one}

-- ---- jobs and moved sources

download_removes_object : kind.Download ≡ kind.RemoveObject → ⊥
download_removes_object e = cc

module _ (Shows : Ask → ℕ → Talk → Class → List ℕ → Type 0) (s : Setting) (journal : List Event) (dispatched coming : List Dispatched) (r : IsScheduled Shows s journal dispatched coming) where
  -- what the journal gave was dispatched
  pub given_is_dispatched : (job : JobId) (lane : ℕ) → Contains journal (entry.Given job lane) → (c : Dispatched) × Contains dispatched c × (c.dispatch.job ≡ job)
  given_is_dispatched job lane h =
      let given = r.given.each_given h.0 lane job (slice_get-get_or journal h.0 (entry.Given job lane) h.1 ∙ ap Some h.2) in
      (given.0, given.1, given.2)

  -- the source of a moved download is gone once its Delete came with success
  pub deleted_is_gone : {page : Option ℕ} (held : MapOf HeldFile) (start : State) (trace part : List Step) → IsTraceOf Shows s (record { start = start; trace = trace; journal = journal; dispatched = dispatched; refused_page = page }) → HasJournal journal trace part
      → (n : ℕ) (task : Task) (bucket key : List ℕ) → slice_get s.tasks n ≡ Some task → task.kind ≡ kind.Download → task.moves ≡ true → task.source ≡ Some (place.Object bucket key)
      → (c : Dispatched) → Contains dispatched c → c.dispatch.job ≡ job_of n op.Delete 0 → (answered : Reply) → HasReply Shows c (last_of c.dispatch.attempts) answered
      → IsGone trace (record { state = state_after start part; held = held; others = s.others }) task.source
  deleted_is_gone {page = page} held start trace part traced whole n task bucket key is_task load moves source c known is answered replies =
      moved_source_is_gone Shows s held (record { start = start; trace = trace; journal = journal; dispatched = dispatched; refused_page = page }) part
      (record { coming = coming; scheduled = r; traced = traced }) whole n task bucket key is_task moves source
      (λ removal. download_removes_object (sym load ∙ removal)) (c, known, is, (replied Shows c answered replies).0)

-- ---- Gets

-- the range that a Get asks for
abbrev range_for : Bool → ℕ → ℕ → ℕ → Option (ℕ × ℕ)
range_for true size piece number = None
range_for false size piece number = Some (asked_range size piece number)

row_asks : (gained : Gained) (task : Task) (known : Known) (small : Bool) (number : ℕ) (asked : Ask) (body : List ℕ) → IsTaskAsk gained task known kind.Download small op.Get number asked body
    → (from : Origin task) × (asked ≡ ask.Get from.bucket from.key task.etag (range_for small task.size known.piece number))
row_asks gained task known true number asked body h = (h.0, h.2)
row_asks gained task known false number asked body h = (h.0, h.2)

same_object : (b k bucket key : List ℕ) → place.Object b k ≡ place.Object bucket key → (b ≡ bucket) × (k ≡ key)
same_object b k bucket key e = (cc, cc)

origin_is : (source : Option Place) (b k bucket key : List ℕ) → IsSource source b k → source ≡ Some (place.Object bucket key) → (b ≡ bucket) × (k ≡ key)
origin_is None b k bucket key h e = absurd h
origin_is (Some (place.File path)) b k bucket key h e = absurd h
origin_is (Some (place.Object c l)) b k bucket key h e =
    let same = same_object c l bucket key (some_place (place.Object c l) (place.Object bucket key) e) in
    (sym h.0 ∙ same.0, sym h.1 ∙ same.1)

-- a part that was asked for came as one
part_fits : (c : Dispatched) (asked : Ask) (bucket key etag : List ℕ) (range : ℕ × ℕ) (status size : ℕ) (told : Option (ℕ × ℕ × ℕ)) → asked ≡ ask.Get bucket key etag (Some range)
    → FitsAsk c asked (class.Success (reply.Got status told size)) → status ≡ 206
part_fits c asked bucket key etag range status size told is fits = (subst (λ (x : Ask). FitsAsk c x (class.Success (reply.Got status told size))) is fits).0

module _ {page : Option ℕ} (Shows : Ask → ℕ → Talk → Class → List ℕ → Type 0) (s : Setting) (journal : List Event) (dispatched coming : List Dispatched) (r : IsScheduled Shows s journal dispatched coming)
    (start : State) (trace : List Step) (traced : IsTraceOf Shows s (record { start = start; trace = trace; journal = journal; dispatched = dispatched; refused_page = page })) (n : ℕ) (task : Task) (is_task : slice_get s.tasks n ≡ Some task) (load : task.kind ≡ kind.Download)
    (source : HasSourceObject (states start trace) task) (piece count : ℕ) (has : HasPieces s.config s.limits task.kind task.size piece count) where
  abbrev bucket : List ℕ
  bucket = source.0

  abbrev key : List ℕ
  key = source.1

  abbrev small : Bool
  small = is_small s task

  sound : AreSound small task.size piece count
  sound = are_sound s task piece count r.threshold r.limits load has

  fitting : IsFitting Shows s.limits (record { start = start; trace = trace; journal = journal; dispatched = dispatched; refused_page = page }) IsNoPlace
  fitting = record {
    runs = traced.runs;
    honest = record { one_content = traced.honest.one_content; not_written = λ b k object h kept. kept; not_removed = λ b k h kept. kept };
    fits = traced.fits;
  }

  -- a Get of the task asks for its range
  get_asks : (get : Dispatched) (number : ℕ) → Contains dispatched get → get.dispatch.job ≡ record { task = Some n; op = op.Get; number = number }
      → get.ask ≡ ask.Get bucket key task.etag (range_for small task.size piece number)
  get_asks get number known is =
      let own = r.schedule.asks get n known (ap (λ (j : JobId). j.task) is) in
      let same : own.0 ≡ task = same_task own.0 task (sym own.3 ∙ is_task) in
      let gained = gained_before Shows dispatched get.dispatch.given_at in
      let of = own.7 in
      let row = subst (λ (t : Task). IsTaskAsk gained t (record { number = n; bytes = source_bytes s.held t.source; piece = own.1; count = own.2 }) t.kind (is_small s t) get.dispatch.job.op get.dispatch.job.number get.ask get.body) same of in
      let known_by : Known = record { number = n; bytes = source_bytes s.held task.source; piece = own.1; count = own.2 } in
      let by_kind = subst (λ (k : Kind). IsTaskAsk gained task known_by k small get.dispatch.job.op get.dispatch.job.number get.ask get.body) load row in
      let by_op = subst (λ (o : Op). IsTaskAsk gained task known_by kind.Download small o get.dispatch.job.number get.ask get.body) (ap (λ (j : JobId). j.op) is) by_kind in
      let by_number = subst (λ (k : ℕ). IsTaskAsk gained task known_by kind.Download small op.Get k get.ask get.body) (ap (λ (j : JobId). j.number) is) by_op in
      let asks = row_asks gained task known_by small number get.ask get.body by_number in
      let place = origin_is task.source asks.0.bucket asks.0.key bucket key asks.0.is_source source.2 in
      let pieces = subst (λ (t : Task). HasPieces s.config s.limits t.kind t.size own.1 own.2) same own.4 in
      let one = pieces_are_one s.config s.limits task.kind task.size own.1 piece own.2 count pieces has in
      asks.1 ∙ ap (λ (b : List ℕ). ask.Get b asks.0.key task.etag (range_for small task.size own.1 number)) place.0
      ∙ ap (λ (k : List ℕ). ask.Get bucket k task.etag (range_for small task.size own.1 number)) place.1
      ∙ ap (λ (p : ℕ). ask.Get bucket key task.etag (range_for small task.size p number)) one.0

  -- the body of a Get is what it got
  module _ (number at : ℕ) (bytes : List ℕ) (before : ℕ) (body : IsBody Shows s dispatched n task before at bytes) (is_number : body.number ≡ number) where
    asks : body.get.ask ≡ ask.Get bucket key task.etag (range_for small task.size piece number)
    asks = get_asks body.get body.number body.known body.is_get ∙ ap (λ (k : ℕ). ask.Get bucket key task.etag (range_for small task.size piece k)) is_number

    abbrev succeeded : HasSucceeded Shows body.get
    succeeded =
        let at_last = last_place body.get.dispatch.attempts body.attempt body.is_last in
        record { place = at_last.0; attempt = body.attempt; reply = reply.Got body.status body.told body.size; bytes = bytes; is_attempt = at_last.1; shows = body.shows }

    abbrev got_by : (range : Option (ℕ × ℕ)) → body.get.ask ≡ ask.Get bucket key task.etag range → IsGot Shows journal dispatched bucket key task.etag range bytes
    got_by range is = record { get = body.get; known = body.known; is_get = is; come = r.come body.get body.known; succeeded = succeeded; is_body = refl }

    partial : (range : ℕ × ℕ) → body.get.ask ≡ ask.Get bucket key task.etag (Some range) → body.status ≡ 206
    partial range is = part_fits body.get body.get.ask bucket key task.etag range body.status body.size body.told is (last_fits (class.Success (reply.Got body.status body.told body.size)) bytes body.shows)
      where
        last_fits : FitsLast Shows body.get (Some body.attempt)
        last_fits = subst (λ (o : Option Attempt). FitsLast Shows body.get o) body.is_last body.well.1

    part_by : (range : ℕ × ℕ) → body.get.ask ≡ ask.Get bucket key task.etag (Some range) → (got : IsGot Shows journal dispatched bucket key task.etag (Some range) bytes) × IsPartial got.succeeded.reply
    part_by range is = (got_by (Some range) is, partial range is)

  -- each range of these bytes is the body of a Get
  abbrev pub AreBodies : List ℕ → Type 0
  AreBodies all = (number at long : ℕ) → IsRangeIn small task.size piece count number at long → (before : ℕ) × IsBody Shows s dispatched n task before at (take long (drop at all))

  content : (all : List ℕ) → length all ≡ task.size → AreBodies all → HadContent (states start trace) bucket key task.etag all
  content all sized bodies = by small refl
    where
      number_of : (number at long : ℕ) (range : IsRangeIn small task.size piece count number at long) → (bodies number at long range).1.number ≡ number
      number_of number at long range =
          let body = (bodies number at long range).1 in
          (range_one small task.size piece count body.number at (length (take long (drop at all))) number long sound (range_in s task piece count body.number at (length (take long (drop at all))) has body.range) range).0

      asks_of : (number at long : ℕ) (range : IsRangeIn small task.size piece count number at long) → (bodies number at long range).1.get.ask ≡ ask.Get bucket key task.etag (range_for small task.size piece number)
      asks_of number at long range =
          asks number at (take long (drop at all)) (bodies number at long range).0 (bodies number at long range).1 (number_of number at long range)

      by : (b : Bool) → small ≡ b → HadContent (states start trace) bucket key task.etag all
      by true is =
          let range : IsRangeIn small task.size piece count 0 0 task.size = subst (λ (b : Bool). IsRangeIn b task.size piece count 0 0 task.size) (sym is) (refl, refl, refl) in
          let body = bodies 0 0 task.size range in
          let whole : take task.size (drop 0 all) ≡ all = take_all task.size all (omega arith) in
          subst (λ (xs : List ℕ). HadContent (states start trace) bucket key task.etag xs) whole
          (whole_tells Shows s.limits (record { start = start; trace = trace; journal = journal; dispatched = dispatched; refused_page = page }) bucket key task.etag (take task.size (drop 0 all)) fitting
          (got_by 0 0 (take task.size (drop 0 all)) body.0 body.1 (number_of 0 0 task.size range) None
          (asks_of 0 0 task.size range ∙ ap (λ (b : Bool). ask.Get bucket key task.etag (range_for b task.size piece 0)) is)))
      by false is = subst (λ (xs : List ℕ). HadContent (states start trace) bucket key task.etag xs) joined_is
          (ranges_tell Shows s.limits (record { start = start; trace = trace; journal = journal; dispatched = dispatched; refused_page = page }) bucket key task.etag task.size piece (piece_of all piece) fitting whole.2 whole.0 source.3 each)
        where
          whole : (1 ≤ piece) × (count ≡ piece_count task.size piece) × (1 ≤ task.size)
          whole = sound is

          joined_is : joined (piece_of all piece) 1 (piece_count task.size piece) ≡ all
          joined_is = ap (λ (k : ℕ). joined (piece_of all piece) 1 (piece_count k piece)) (sym sized) ∙ pieces_make_whole all piece whole.0

          each : (k : ℕ) → 1 ≤ k → k ≤ piece_count task.size piece → (got : IsGot Shows journal dispatched bucket key task.etag (Some (asked_range task.size piece k)) (piece_of all piece k)) × IsPartial got.succeeded.reply
          each k low high =
              let at = (k - 1) * piece in
              let long = min piece (task.size - (k - 1) * piece) in
              let range : IsRangeIn small task.size piece count k at long =
              subst (λ (b : Bool). IsRangeIn b task.size piece count k at long) (sym is) (low, subst (λ (c : ℕ). k ≤ c) (sym whole.1) high, refl) in
              let body = bodies k at long range in
              let asked : body.1.get.ask ≡ ask.Get bucket key task.etag (Some (asked_range task.size piece k)) =
              asks_of k at long range ∙ ap (λ (b : Bool). ask.Get bucket key task.etag (range_for b task.size piece k)) is in
              let bytes_is : take long (drop at all) ≡ piece_of all piece k =
              ap (λ (l : ℕ). take (min piece l) (drop at all)) (ap (λ (l : ℕ). l - at) (sym sized) ∙ sym (length-drop at all)) ∙ take_min piece (drop at all) in
              subst (λ (xs : List ℕ). (got : IsGot Shows journal dispatched bucket key task.etag (Some (asked_range task.size piece k)) xs) × IsPartial got.succeeded.reply) bytes_is
              (part_by k at (take long (drop at all)) body.0 body.1 (number_of k at long range) (asked_range task.size piece k) asked)

  pub has_content : (all : List ℕ) → length all ≡ task.size → AreBodies all → HasContent s.held (states start trace) task.etag task.source all
  has_content all sized bodies = subst (λ (o : Option Place). HasContent s.held (states start trace) task.etag o all) (sym source.2) (content all sized bodies)
