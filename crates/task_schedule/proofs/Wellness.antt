-- Whether a job did what it was to do: by its ending, and by what its talks show.
use Rattle.std.proofs.Common.{◌≡◌, ◌∙◌, ◌==◌, ◌&&◌, ◌+◌, ◌-◌, ◌≤◌, ◌∷◌, ℕ, Bool, true, false, List, Option, Some, None, Contains, refl, sym, subst, ap, arith, slice_get}
use Rattle.std.proofs.lemmas.Bool.{and_parts, eqb-true}
use Rattle.std.specs.Prelude.{if◌then◌else◌, is_some}
use Rattle.jobs.specs.Endings.{IsEnded, IsReplyTo, SeenCarried}
use Rattle.jobs.specs.declared.ending.Ending.{Ending}
use Rattle.jobs.specs.declared.ending.Ending.TheVariants as ending
use Rattle.run_promise.specs.Dispatches.{FitsAsk, FitsLast, IsCompletedWell, IsSuccessLast}
use Rattle.job_terms.specs.Dispatches.{Attempt, Dispatched, last_of}
use Rattle.run_promise.specs.Schedule.{HasReply, gained_before, source_bytes, IsTaskAsk, Known, Setting, asked_range, is_small, limit_of}
use Rattle.s3_model.specs.Parts.{HasPieces, piece_range}
use Rattle.s3_model.specs.Replies.{IsSameClass}
use Rattle.s3_model.specs.Talks.{Talk}
use Rattle.s3_model.specs.declared.answers.Class.{Class}
use Rattle.s3_model.specs.declared.answers.Class.TheVariants as class
use Rattle.s3_model.specs.declared.answers.Reply.{Reply}
use Rattle.s3_model.specs.declared.answers.Reply.TheVariants as reply
use Rattle.s3_model.specs.declared.outcomes.Cause.{Cause}
use Rattle.s3_model.specs.declared.outcomes.Cause.TheVariants as cause
use Rattle.s3_model.specs.declared.outcomes.JobId.{JobId}
use Rattle.s3_model.specs.declared.requests.Ask.{Ask}
use Rattle.s3_model.specs.declared.requests.Ask.TheVariants as ask
use Rattle.s3_model.specs.declared.requests.Op.{Op}
use Rattle.s3_model.specs.declared.requests.Op.TheVariants as op
use Rattle.s3_model.specs.declared.tasks.Kind.{Kind}
use Rattle.s3_model.specs.declared.tasks.Kind.TheVariants as kind
use Rattle.s3_model.specs.declared.tasks.Task.{Task}
use Rattle.task_acts.specs.declared.work.Work.{Work}
use Rattle.task_acts.specs.Failures.{carried_cause, ended_cause, is_asked_for, is_range, is_same_range, is_whole_object}
use Rattle.shared_lemmas.proofs.Clashes.{some_is}
use Rattle.job_terms.proofs.PieceCounts.{pieces_are_one}
use Rattle.task_progress.proofs.Endings.{chosen, no, skipped}
use Rattle.task_progress.proofs.Progress.{both}
use Rattle.manager_moves.specs.Runs.{Events, Sent, Shared}
use Rattle.task_schedule.specs.Journals.{EndsAs, IsBack, IsRunOf, ShowOne, ShowsLast}
use Rattle.task_schedule.proofs.Joined.{all_ask, gained_shown, is_ended, its_last}
use Rattle.task_schedule.proofs.Marks.{gained_by}
use Rattle.task_schedule.proofs.SentJobs.{IsAt}

-- ---- the request of a Get

abbrev IsNotGet : Ask → Type 0
IsNotGet (ask.Get bucket key etag range) = ⊥
IsNotGet asked = Unit {0}

abbrev IsGetOf : (size piece : ℕ) → Bool → (number : ℕ) → Ask → Type 0
IsGetOf size piece true number asked = (b : List ℕ) × (k : List ℕ) × (e : List ℕ) × (number ≡ 0) × (asked ≡ ask.Get b k e None)
IsGetOf size piece false number asked = (b : List ℕ) × (k : List ℕ) × (e : List ℕ) × (1 ≤ number) × (asked ≡ ask.Get b k e (Some (asked_range size piece number)))

abbrev pub HasShape : (size piece : ℕ) → Bool → Op → (number : ℕ) → Ask → Type 0
HasShape size piece small op.Get number asked = IsGetOf size piece small number asked
HasShape size piece small o number asked = IsNotGet asked

not_get : (asked is : Ask) → asked ≡ is → IsNotGet is → IsNotGet asked
not_get asked is e h = subst IsNotGet (sym e) h

module _ (gained : JobId → Reply → Type 0) (task : Task) (known : Known) (number : ℕ) (asked : Ask) (body : List ℕ) where
  abbrev Shape : Bool → Op → Type 0
  Shape small o = HasShape task.size known.piece small o number asked

  shape_of : (k : Kind) (small : Bool) (o : Op) → IsTaskAsk gained task known k small o number asked body → Shape small o
  shape_of kind.Upload true op.Put h = not_get asked _ h.2 tt
  shape_of kind.Upload true o h = absurd h
  shape_of kind.Upload false op.Create h = not_get asked _ h.2 tt
  shape_of kind.Upload false op.Part h = not_get asked _ h.4 tt
  shape_of kind.Upload false op.Complete h = not_get asked _ h.0.6 tt
  shape_of kind.Upload false op.Abort h = not_get asked _ h.0.3 tt
  shape_of kind.Upload false o h = absurd h
  shape_of kind.Download true op.Get h = (h.0.bucket, h.0.key, task.etag, h.1, h.2)
  shape_of kind.Download true op.Delete h = not_get asked _ h.0.2 tt
  shape_of kind.Download true o h = absurd h
  shape_of kind.Download false op.Get h = (h.0.bucket, h.0.key, task.etag, h.1.0, h.2)
  shape_of kind.Download false op.Delete h = not_get asked _ h.0.2 tt
  shape_of kind.Download false o h = absurd h
  shape_of kind.Copy true op.Copy h = not_get asked _ h.3 tt
  shape_of kind.Copy true op.Delete h = not_get asked _ h.0.2 tt
  shape_of kind.Copy true o h = absurd h
  shape_of kind.Copy false op.Create h = not_get asked _ h.2 tt
  shape_of kind.Copy false op.PartCopy h = not_get asked _ h.5 tt
  shape_of kind.Copy false op.Complete h = not_get asked _ h.0.6 tt
  shape_of kind.Copy false op.Abort h = not_get asked _ h.0.3 tt
  shape_of kind.Copy false op.Delete h = not_get asked _ h.0.2 tt
  shape_of kind.Copy false o h = absurd h
  shape_of kind.RemoveObject small op.Delete h = not_get asked _ h.2 tt
  shape_of kind.RemoveObject small o h = absurd h
  shape_of kind.RemoveFile small o h = absurd h

-- ---- what was asked for

abbrev IsOther : Op → Type 0
IsOther op.Get = ⊥
IsOther o = Unit {0}

got_is_get : (o : Op) (status : ℕ) (range : Option (ℕ × ℕ × ℕ)) (length : ℕ) → IsOther o → IsReplyTo o (reply.Got status range length) → ⊥
got_is_get op.Get status range length other is = other
got_is_get o status range length other is = is

asked_unless_get : (w : Work) (o : Op) (number : ℕ) (said : Reply) → IsOther o → IsReplyTo o said → is_asked_for w number said ≡ true
asked_unless_get w o number (reply.Got status range length) other is = absurd (got_is_get o status range length other is)
asked_unless_get w o number said other is = refl

fits_unless_get : (c : Dispatched) (asked : Ask) (of_class : Class) → IsNotGet asked → FitsAsk c asked of_class
fits_unless_get c (ask.Get b k e range) of_class h = absurd h
fits_unless_get c asked of_class h = tt

got_class : (status : ℕ) (range : Option (ℕ × ℕ × ℕ)) (length : ℕ) (b : Class) → IsSameClass (class.Success (reply.Got status range length)) b → class.Success (reply.Got status range length) ≡ b
got_class status range length (class.Success said) same = ap class.Success same
got_class status range length (class.Refusal code message) same = same
got_class status range length (class.Uncertain reason) same = same

fits_same : (c : Dispatched) (asked : Ask) (a b : Class) → IsSameClass a b → FitsAsk c asked b → FitsAsk c asked a
fits_same c (ask.Get bucket key etag None) (class.Success (reply.Got status range length)) b same f =
    subst (λ (x : Class). FitsAsk c (ask.Get bucket key etag None) x) (sym (got_class status range length b same)) f
fits_same c (ask.Get bucket key etag (Some asked)) (class.Success (reply.Got status range length)) b same f =
    subst (λ (x : Class). FitsAsk c (ask.Get bucket key etag (Some asked)) x) (sym (got_class status range length b same)) f
fits_same c (ask.Get bucket key etag None) a b same f = tt
fits_same c (ask.Get bucket key etag (Some asked)) a b same f = tt
fits_same c asked a b same f = tt

same_numbers : (m n : ℕ) → m ≡ n → (m == n) ≡ true
same_numbers m n e = grind arith

one_is_not_zero : (n : ℕ) → 1 ≤ n → (n == 0) ≡ false
one_is_not_zero n l = grind arith

three : (a b c : Bool) → (a && b && c) ≡ true → (a ≡ true) × (b ≡ true) × (c ≡ true)
three a b c e = let two = and_parts (a && b) c e in let one = and_parts a b two.0 in (one.0, one.1, two.1)

range_same : (range : Option (ℕ × ℕ × ℕ)) (first last size : ℕ) → is_same_range range first last size ≡ true → range ≡ Some (first, last, size)
range_same None first last size e = no e
range_same (Some range) first last size e =
    let all = three (range.0 == first) (range.1 == last) (range.2 == size) e in
    same range first last size (eqb-true range.0 first all.0) (eqb-true range.1 last all.1) (eqb-true range.2 size all.2)
  where
    same : (r : ℕ × ℕ × ℕ) (a b c : ℕ) → r.0 ≡ a → r.1 ≡ b → r.2 ≡ c → Some r ≡ Some (a, b, c)
    same r a b c e f g = ap (λ (x : ℕ). Some (x, r.1, r.2)) e ∙ ap (λ (x : ℕ). Some (a, x, r.2)) f ∙ ap (λ (x : ℕ). Some (a, b, x)) g

same_range : (range : Option (ℕ × ℕ × ℕ)) (first last size : ℕ) → range ≡ Some (first, last, size) → is_same_range range first last size ≡ true
same_range range first last size e = subst (λ (r : Option (ℕ × ℕ × ℕ)). is_same_range r first last size ≡ true) (sym e)
    (both _ _ (both _ _ (same_numbers first first refl) (same_numbers last last refl)) (same_numbers size size refl))

module _ (w : Work) (c : Dispatched) (number : ℕ) (size_is : c.size ≡ w.size) (limit_is : c.limit ≡ limit_of w.size w.piece number c.ask) where
  -- a Get of the whole
  module _ (b k e : List ℕ) (zero_is : number ≡ 0) (is : c.ask ≡ ask.Get b k e None) (status length : ℕ) (range : Option (ℕ × ℕ × ℕ)) where
    whole_limit : c.limit ≡ w.size
    whole_limit = limit_is ∙ ap (limit_of w.size w.piece number) is

    whole_is : is_asked_for w number (reply.Got status range length) ≡ is_whole_object w status length
    whole_is = chosen (number == 0) (is_whole_object w status length) (is_range w number status range length) (same_numbers number 0 zero_is)

    whole_fits : is_asked_for w number (reply.Got status range length) ≡ true → FitsAsk c c.ask (class.Success (reply.Got status range length))
    whole_fits f =
        let two = and_parts (status == 200) (length == w.size) (sym whole_is ∙ f) in
        subst (λ (x : Ask). FitsAsk c x (class.Success (reply.Got status range length))) (sym is) (eqb-true status 200 two.0, eqb-true length w.size two.1 ∙ sym whole_limit)

    whole_asked : FitsAsk c c.ask (class.Success (reply.Got status range length)) → is_asked_for w number (reply.Got status range length) ≡ true
    whole_asked f =
        let two : (status ≡ 200) × (length ≡ c.limit) = subst (λ (x : Ask). FitsAsk c x (class.Success (reply.Got status range length))) is f in
        whole_is ∙ both (status == 200) (length == w.size) (same_numbers status 200 two.0) (same_numbers length w.size (two.1 ∙ whole_limit))

  -- a Get of a range
  module _ (b k e : List ℕ) (one_is : 1 ≤ number) (is : c.ask ≡ ask.Get b k e (Some (asked_range w.size w.piece number))) (status length : ℕ) (range : Option (ℕ × ℕ × ℕ)) where
    abbrev asked : ℕ × ℕ
    asked = piece_range w.size w.piece number

    part_limit : c.limit ≡ asked.1
    part_limit = limit_is ∙ ap (limit_of w.size w.piece number) is

    part_is : is_asked_for w number (reply.Got status range length) ≡ is_range w number status range length
    part_is = skipped (number == 0) (is_whole_object w status length) (is_range w number status range length) (one_is_not_zero number one_is)

    part_fits : is_asked_for w number (reply.Got status range length) ≡ true → FitsAsk c c.ask (class.Success (reply.Got status range length))
    part_fits f =
        let all = three (status == 206) (is_same_range range asked.0 (asked.0 + asked.1 - 1) w.size) (length == asked.1) (sym part_is ∙ f) in
        subst (λ (x : Ask). FitsAsk c x (class.Success (reply.Got status range length))) (sym is) (
          eqb-true status 206 all.0,
          range_same range asked.0 (asked.0 + asked.1 - 1) w.size all.1 ∙ ap (λ (size : ℕ). Some (asked.0, asked.0 + asked.1 - 1, size)) (sym size_is),
          eqb-true length asked.1 all.2 ∙ sym part_limit,
        )

    part_asked : FitsAsk c c.ask (class.Success (reply.Got status range length)) → is_asked_for w number (reply.Got status range length) ≡ true
    part_asked f =
        let all : (status ≡ 206) × (range ≡ Some (asked.0, asked.0 + asked.1 - 1, c.size)) × (length ≡ c.limit) = subst (λ (x : Ask). FitsAsk c x (class.Success (reply.Got status range length))) is f in
        part_is ∙ both ((status == 206) && is_same_range range asked.0 (asked.0 + asked.1 - 1) w.size) (length == asked.1)
        (both (status == 206) (is_same_range range asked.0 (asked.0 + asked.1 - 1) w.size) (same_numbers status 206 all.0)
        (same_range range asked.0 (asked.0 + asked.1 - 1) w.size (all.1 ∙ ap (λ (size : ℕ). Some (asked.0, asked.0 + asked.1 - 1, size)) size_is)))
        (same_numbers length asked.1 (all.2 ∙ part_limit))

  module _ (small : Bool) where
    pub fits : (o : Op) (said : Reply) → HasShape w.size w.piece small o number c.ask → IsReplyTo o said → is_asked_for w number said ≡ true → FitsAsk c c.ask (class.Success said)
    fits op.Get (reply.Got status range length) shape is f = by small shape
      where
        by : (b : Bool) → IsGetOf w.size w.piece b number c.ask → FitsAsk c c.ask (class.Success (reply.Got status range length))
        by true s = whole_fits s.0 s.1 s.2 s.3 s.4 status length range f
        by false s = part_fits s.0 s.1 s.2 s.3 s.4 status length range f
    fits op.Get said shape is f = absurd is
    fits o said shape is f = fits_unless_get c c.ask (class.Success said) shape

    pub asked_for : (o : Op) (said : Reply) → HasShape w.size w.piece small o number c.ask → IsReplyTo o said → FitsAsk c c.ask (class.Success said) → is_asked_for w number said ≡ true
    asked_for op.Get (reply.Got status range length) shape is f = by small shape
      where
        by : (b : Bool) → IsGetOf w.size w.piece b number c.ask → is_asked_for w number (reply.Got status range length) ≡ true
        by true s = whole_asked s.0 s.1 s.2 s.3 s.4 status length range f
        by false s = part_asked s.0 s.1 s.2 s.3 s.4 status length range f
    asked_for op.Get said shape is f = absurd is
    asked_for o said shape is f = asked_unless_get w o number said tt is

-- ---- a job without a cause

pub gained_without_cause : (w : Work) (c : SeenCarried) (of : Ending) → c.ending ≡ of → is_some (ended_cause w c.job.id.op c.job.id.number of) ≡ false → (said : Reply) × (c.ending ≡ ending.Gained said) × (is_asked_for w c.job.id.number said ≡ true)
gained_without_cause w c (ending.Gained said) e none = (said, e, by (is_asked_for w c.job.id.number said) none)
  where
    by : (b : Bool) → is_some (if b then None else Some (cause.BadReply c.job.id.op)) ≡ false → b ≡ true
    by true f = refl
    by false f = no (sym f)
gained_without_cause w c (ending.Refused status code message) e none = no (sym none)
gained_without_cause w c (ending.Uncertain reason) e none = no (sym none)
gained_without_cause w c (ending.Cancelled reason) e none = no (sym none)
gained_without_cause w c ending.Memory e none = no (sym none)

pub no_cause_of : (w : Work) (c : SeenCarried) (said : Reply) → c.ending ≡ ending.Gained said → is_asked_for w c.job.id.number said ≡ true → is_some (carried_cause w c) ≡ false
no_cause_of w c said gained asked = ap (λ (e : Ending). is_some (ended_cause w c.job.id.op c.job.id.number e)) gained
    ∙ ap (λ (x : Option Cause). is_some x) (chosen (is_asked_for w c.job.id.number said) None (Some (cause.BadReply c.job.id.op)) asked)

module _ (Shows : Ask → ℕ → Talk → Class → List ℕ → Type 0) (s : Shared) (setting : Setting) (planned : ℕ) (events : Events) (dispatched coming : List Dispatched)
    (r : IsRunOf Shows s setting planned events dispatched coming) (n : ℕ) (w : Work) (of_plan : slice_get s.works n ≡ Some w)
    (o : Op) (k : ℕ) (x : Dispatched) (known : Contains dispatched x) (a : IsAt Shows s setting planned events dispatched coming r n w of_plan o k x)
    (back : IsBack Shows planned a.later (Sent n o k a.lane ∷ a.before) x) where
  -- what the dispatch is of
  pub record IsAskedAs : Type 0 where
    pub size_is : x.size ≡ w.size
    pub limit_is : x.limit ≡ limit_of w.size w.piece k x.ask
    pub small : Bool
    pub shape : HasShape w.size w.piece small o k x.ask

  pub asked_as : IsAskedAs
  asked_as =
      let all = all_ask Shows s setting planned events dispatched coming r x n known (ap (λ (j : JobId). j.task) a.job_is) in
      let works = r.works.each n w of_plan in
      let same : all.0 ≡ works.0 = some_is all.0 works.0 (sym all.3 ∙ works.1) in
      let task_size : all.0.size ≡ w.size = ap (λ (t : Task). t.size) same ∙ sym works.2.size_is in
      let pieces = pieces_are_one setting.config setting.limits works.0.kind works.0.size all.1 w.piece all.2 w.count
      (subst (λ (t : Task). HasPieces setting.config setting.limits t.kind t.size all.1 all.2) same all.4) works.2.pieces in
      let op_is : x.dispatch.job.op ≡ o = ap (λ (j : JobId). j.op) a.job_is in
      let number_is : x.dispatch.job.number ≡ k = ap (λ (j : JobId). j.number) a.job_is in
      let shape = shape_of (gained_before Shows dispatched x.dispatch.given_at) all.0 (record { number = n; bytes = source_bytes setting.held all.0.source; piece = all.1; count = all.2 }) x.dispatch.job.number x.ask x.body all.0.kind (is_small setting all.0) x.dispatch.job.op all.7 in
      record {
        size_is = all.5 ∙ task_size;
        limit_is = all.6 ∙ ap (λ (size : ℕ). limit_of size all.1 x.dispatch.job.number x.ask) task_size
            ∙ ap (λ (piece : ℕ). limit_of w.size piece x.dispatch.job.number x.ask) pieces.0
            ∙ ap (λ (m : ℕ). limit_of w.size w.piece m x.ask) number_is;
        small = is_small setting all.0;
        shape = subst (λ (p : Op). HasShape w.size w.piece (is_small setting all.0) p k x.ask) op_is
            (subst (λ (m : ℕ). HasShape w.size w.piece (is_small setting all.0) x.dispatch.job.op m x.ask) number_is
            (subst (λ (piece : ℕ). HasShape w.size piece (is_small setting all.0) x.dispatch.job.op x.dispatch.job.number x.ask) pieces.0
            (subst (λ (size : ℕ). HasShape size all.1 (is_small setting all.0) x.dispatch.job.op x.dispatch.job.number x.ask) task_size shape)));
      }

  pub op_is : back.carried.job.id.op ≡ o
  op_is = ap (λ (j : JobId). j.op) (back.of_job ∙ a.job_is)

  pub number_is : back.carried.job.id.number ≡ k
  number_is = ap (λ (j : JobId). j.number) (back.of_job ∙ a.job_is)

  pub replies : (said : Reply) → back.carried.ending ≡ ending.Gained said → IsReplyTo o said
  replies said gained =
      let ended = subst (λ (e : Ending). IsEnded e back.carried.job.id.op back.carried.job.part back.carried.job.cell back.carried.tries) gained
      (is_ended Shows s setting planned events dispatched coming r n w of_plan o k x a back) in
      subst (λ (p : Op). IsReplyTo p said) op_is ended.1

  -- a job without a cause did it well
  pub well : ShowOne Shows → is_some (carried_cause w back.carried) ≡ false → IsCompletedWell Shows x
  well one none =
      let found = gained_without_cause w back.carried back.carried.ending refl none in
      let its = asked_as in
      let fit = fits w x k its.size_is its.limit_is its.small o found.0 its.shape (replies found.0 found.1) (subst (λ (m : ℕ). is_asked_for w m found.0 ≡ true) number_is found.2) in
      by (last_of x.dispatch.attempts) found.0 (gained_shown Shows s setting planned events dispatched coming r n w of_plan o k x a back found.0 found.1) fit
    where
      by : (last : Option Attempt) → (said : Reply) → HasReply Shows x last said → FitsAsk x x.ask (class.Success said) → IsSuccessLast last × FitsLast Shows x last
      by None said has fit = absurd has
      by (Some attempt) said has fit = (has.0, λ of_class bytes shows. fits_same x x.ask of_class (class.Success said) (one x.ask x.limit attempt.talk of_class (class.Success said) bytes has.1 shows has.2) fit)

  -- and what was done well has none
  pub well_is : IsCompletedWell Shows x → is_some (carried_cause w back.carried) ≡ false
  well_is done = by (last_of x.dispatch.attempts) refl done
    where
      by : (last : Option Attempt) → last_of x.dispatch.attempts ≡ last → IsSuccessLast last × FitsLast Shows x last → is_some (carried_cause w back.carried) ≡ false
      by None e d = absurd d.0
      by (Some attempt) e d =
          let ended = is_ended Shows s setting planned events dispatched coming r n w of_plan o k x a back in
          let gained = gained_by back.carried back.carried.ending ended (its_last Shows s setting planned events dispatched coming r n w of_plan o k x a back attempt e ∙ ap Some d.0) in
          let shown : ShowsLast Shows x (class.Success gained.0) = subst (λ (f : Ending). EndsAs Shows x f) gained.1 back.brings.ends in
          let same = some_is shown.attempt attempt (sym shown.last ∙ e) in
          let its = asked_as in
          let fit = d.1 (class.Success gained.0) shown.bytes (subst (λ (t : Attempt). Shows x.ask x.limit t.talk (class.Success gained.0) shown.bytes) same shown.shows) in
          no_cause_of w back.carried gained.0 gained.1 (subst (λ (m : ℕ). is_asked_for w m gained.0 ≡ true) (sym number_is)
          (asked_for w x k its.size_is its.limit_is its.small o gained.0 its.shape (replies gained.0 gained.1) fit))
