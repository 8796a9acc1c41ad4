-- What a lane asks for a job that was formed as its task says.
use Rattle.std.proofs.Common.{◌≡◌, ◌∙◌, ◌==◌, ◌*◌, ◌-◌, ◌<◌, ℕ, Bool, true, false, List, Option, Some, None}
use Rattle.std.proofs.Common.{refl, sym, subst, ap, arith, inl, inr, min, if◌then◌else◌}
use Rattle.std.proofs.lemmas.Bool.{and_parts, eqb-true, ltb-true}
use Rattle.std.specs.Arc.{arc_value}
use Rattle.std.specs.Prelude.{unwrap_or}
use Rattle.attempts.specs.Payloads.{body_of}
use Rattle.job_terms.specs.Ops.{op_of}
use Rattle.jobs.specs.Jobs.{IsAskOf, IsStepAsk, bytes_of, ends_of, range_of}
use Rattle.jobs.specs.declared.what.What.{What}
use Rattle.jobs.specs.declared.what.What.TheVariants as what
use Rattle.kept_jobs.specs.Steps.{IsStepOf}
use Rattle.lane_jobs.proofs.EndingLemmas.{asked_op}
use Rattle.lane_jobs.specs.Lanes as lane
use Rattle.manager_moves.specs.Runs.{share}
use Rattle.run_promise.specs.Schedule.{limit_of, most_body, source_bytes}
use Rattle.s3_model.specs.Lists.{Reserved}
use Rattle.s3_model.specs.Parts.{HasPieces, IsTransfer, piece_range}
use Rattle.s3_model.specs.declared.outcomes.JobId.{JobId}
use Rattle.s3_model.specs.declared.requests.Ask.{Ask}
use Rattle.s3_model.specs.declared.requests.Ask.TheVariants as ask
use Rattle.s3_model.specs.declared.requests.Op.{Op}
use Rattle.s3_model.specs.declared.requests.Op.TheVariants as op
use Rattle.s3_model.specs.declared.settings.Config.{Config}
use Rattle.s3_model.specs.declared.settings.Limits.{Limits}
use Rattle.s3_model.specs.declared.tasks.Kind.{Kind}
use Rattle.s3_model.specs.declared.tasks.Kind.TheVariants as kind
use Rattle.s3_model.specs.declared.tasks.Task.{Task}
use Rattle.shared_lemmas.proofs.Clashes.{some_is}
use Rattle.task_acts.specs.Failures.{is_stopped}
use Rattle.task_acts.specs.Histories.{History}
use Rattle.task_acts.specs.Rule.{is_due, is_named, is_ready_in}
use Rattle.task_acts.specs.Stages.{may_be_given, stage}
use Rattle.task_acts.specs.Work.{IsWorkOf, is_piece}
use Rattle.task_acts.specs.declared.acts.Act.{Act}
use Rattle.task_acts.specs.declared.acts.Act.TheVariants as act
use Rattle.task_acts.specs.declared.acts.Stage.{Stage}
use Rattle.task_acts.specs.declared.work.Work.{Work}
use Rattle.task_progress.proofs.Endings.{no}
use Rattle.task_progress.proofs.PieceNumbers.{of_part}
use Rattle.task_schedule.specs.Asks.{IsBodyOf}
use Rattle.whole_runs.proofs.Asked.{jobs_are_formed}
use Rattle.whole_runs.specs.Carried.{CarriedJobsAreAsked, CarriedRunsAreAsked, SendsItsPiece}
use Rattle.whole_runs.specs.Given.{WasFormed}

-- ---- the body

body_so : (w : Work) (bytes : List ℕ) (number : ℕ) (sent : List ℕ) (asked : Ask)
    → SendsItsPiece w bytes (op_of asked) number sent → IsBodyOf w bytes (op_of asked) number asked (body_of asked sent)
body_so w bytes number sent (ask.Put bucket key content fresh) sends = sends
body_so w bytes number sent (ask.Part bucket key upload part) sends = sends
body_so w bytes number sent asked sends = refl

-- ---- the limit

-- a Get is of a piece of a download
get_due : (w : Work) (stage_of : Act → Stage) (number : ℕ) (of_kind : Kind)
    → is_due w stage_of false of_kind (act.Send op.Get number) ≡ true
    → (of_kind ≡ kind.Download) × (is_piece w number ≡ true)
get_due w stage_of number kind.Download due = (refl, (and_parts (is_piece w number) _ due).0)
get_due w stage_of number of_kind due = no due

get_named : (w : Work) (stage_of : Act → Stage) (stopped : Bool) (number : ℕ)
    → is_named w stage_of stopped (act.Send op.Get number) ≡ true
    → (w.of_kind ≡ kind.Download) × (is_piece w number ≡ true)
get_named w stage_of true number named = no named
get_named w stage_of false number named = get_due w stage_of number w.of_kind named

module _ (task : Task) (config : Config) (limits : Limits) (w : Work) (of_task : IsWorkOf task config limits w) where
  one_piece : w.small ≡ true → w.of_kind ≡ kind.Download → w.piece ≡ w.size
  one_piece small down = by (subst (λ (k : Kind). HasPieces config limits k task.size w.piece w.count)
      (sym of_task.kind_is ∙ down) of_task.pieces)
    where
      below : task.size < config.threshold
      below = ltb-true task.size config.threshold (sym of_task.small_is ∙ small)

      by : IsTransfer config limits task.size w.piece w.count → w.piece ≡ w.size
      by (inl whole) = whole.1 ∙ sym of_task.size_is
      by (inr parts) = let above = parts.0 in absurd (omega (arith, below, above))

  -- without a number it is of a task with one piece
  whole : (h : History) → is_ready_in w h (act.Send op.Get 0) ≡ true → w.piece ≡ w.size
  whole h ready = by w.small refl
    where
      named : (w.of_kind ≡ kind.Download) × (is_piece w 0 ≡ true)
      named = get_named w (stage w h) (is_stopped w h) 0
          (and_parts (may_be_given (stage w h (act.Send op.Get 0)))
          (is_named w (stage w h) (is_stopped w h) (act.Send op.Get 0)) ready).1

      by : (b : Bool) → w.small ≡ b → w.piece ≡ w.size
      by true small = one_piece small named.0
      by false large = let least = (of_part w 0 large named.1).0 in absurd (omega (arith, least))

  module _ (number : ℕ) where
    abbrev range : ℕ × ℕ
    range = piece_range w.size w.piece number

    abbrev HasLimit : Ask → Type 0
    HasLimit asked = unwrap_or (lane.limit_of asked range.1) most_body ≡ limit_of task.size w.piece number asked

    get_limit : (bucket key etag : List ℕ) (b : Bool) → (number == 0) ≡ b
        → ((number == 0) ≡ true → w.piece ≡ w.size)
        → HasLimit (ask.Get bucket key etag (if b then None else Some (ends_of range)))
    get_limit bucket key etag true zero_is one =
        let none : number ≡ 0 = eqb-true number 0 zero_is in
        let length : (piece_range w.size w.piece number).1 ≡ w.size =
        ap (λ (k : ℕ). (piece_range w.size w.piece k).1) none
        ∙ ap (λ (piece : ℕ). min piece (w.size - 0 * piece)) (one zero_is) ∙ least w.size in
        length ∙ of_task.size_is
      where
        least : (size : ℕ) → min size (size - 0 * size) ≡ size
        least size = omega arith
    get_limit bucket key etag false more one =
        ap (λ (size : ℕ). (piece_range size w.piece number).1) of_task.size_is

    abbrev IsNoGet : Ask → Type 0
    IsNoGet (ask.Get bucket key etag asked_for) = ⊥
    IsNoGet asked = Unit {0}

    other_limit : (asked : Ask) → IsNoGet asked → HasLimit asked
    other_limit (ask.Get bucket key etag asked_for) none = absurd none
    other_limit asked none = refl

    limit_so : (of : Task) (upload : Option (List ℕ)) (etags : Option (Reserved (List ℕ))) (o : Op) (asked : Ask)
        → IsStepAsk of range upload etags o number asked → op_of asked ≡ o
        → (o ≡ op.Get → (number == 0) ≡ true → w.piece ≡ w.size) → HasLimit asked
    limit_so of upload etags o (ask.Get bucket key etag asked_for) asks same one =
        let get = subst (λ (x : Op). IsStepAsk of range upload etags x number (ask.Get bucket key etag asked_for))
        (sym same) asks in
        subst (λ (x : Ask). HasLimit x) (sym get.1)
        (get_limit get.0.bucket get.0.key of.etag (number == 0) refl (one (sym same)))
    limit_so of upload etags o asked asks same one = refl

  job_limit : (h : History) (id : JobId) (for : What) (asked : Ask) → IsStepOf task w h id.op id.number for
      → IsAskOf id for asked → is_ready_in w h (act.Send id.op id.number) ≡ true
      → unwrap_or (lane.limit_of asked (range_of for).1) most_body ≡ limit_of task.size w.piece id.number asked
  job_limit h id (what.Plan planned) asked step asks ready = absurd step
  job_limit h id (what.Step of range_is upload etags) asked step asks ready =
      subst (λ (r : ℕ × ℕ). unwrap_or (lane.limit_of asked r.1) most_body
      ≡ limit_of task.size w.piece id.number asked) (sym step.1)
      (limit_so id.number (arc_value of) upload etags id.op asked
      (subst (λ (r : ℕ × ℕ). IsStepAsk (arc_value of) r upload etags id.op id.number asked) step.1 asks.1)
      (asked_op id (what.Step of range_is upload etags) asked asks)
      (λ get zero_is. whole h (subst (λ (o : Op). is_ready_in w h (act.Send o 0) ≡ true) get
      (subst (λ (k : ℕ). is_ready_in w h (act.Send id.op k) ≡ true) (eqb-true id.number 0 zero_is) ready))))

-- ---- the laws

pub carried_jobs_are_asked : CarriedJobsAreAsked
carried_jobs_are_asked setting task w n past job c of_task formed was =
    let its = was.of_job in
    let asked = was.by.asked in
    let bytes = source_bytes setting.held task.source in
    let sent = bytes_of job.part in
    let same = asked_op job.id job.what asked was.by.asks in
    let body = subst (λ (o : Op). IsBodyOf w bytes o job.id.number asked (body_of asked sent)) same
    (body_so w bytes job.id.number sent asked
    (subst (λ (o : Op). SendsItsPiece w bytes o job.id.number sent) (sym same) was.sends)) in
    let limit = job_limit task setting.config setting.limits w of_task (share w n formed.first) job.id job.what asked
    formed.step was.by.asks formed.ready in
    record {
      asks = subst (λ (id : JobId). IsAskOf id job.what c.ask) (sym its.id)
          (subst (λ (x : Ask). IsAskOf job.id job.what x) (sym its.ask_is) was.by.asks);
      body = subst (λ (sends : List ℕ). IsBodyOf w bytes c.dispatch.job.op c.dispatch.job.number c.ask sends)
          (sym its.body)
          (subst (λ (x : Ask). IsBodyOf w bytes c.dispatch.job.op c.dispatch.job.number x (body_of asked sent))
          (sym its.ask_is)
          (subst (λ (id : JobId). IsBodyOf w bytes id.op id.number asked (body_of asked sent)) (sym its.id) body));
      size = was.size;
      limit = its.limit
          ∙ subst (λ (x : Ask). unwrap_or (lane.limit_of asked (range_of job.what).1) most_body
          ≡ limit_of task.size w.piece c.dispatch.job.number x) (sym its.ask_is)
          (subst (λ (id : JobId). unwrap_or (lane.limit_of asked (range_of job.what).1) most_body
          ≡ limit_of task.size w.piece id.number asked) (sym its.id) limit);
    }

pub carried_runs_are_asked : CarriedRunsAreAsked
carried_runs_are_asked s setting planned events jobs dispatched run works out come carried c n to task w later before
    known is_task of_plan is at =
    let was = carried c n to task w later before known is_task of_plan is at in
    let formed = jobs_are_formed s setting.tasks events jobs run out come later before n c.dispatch.job.number to
    c.dispatch.job.op task w is is_task of_plan in
    let its = works.each n w of_plan in
    carried_jobs_are_asked setting task w n before (jobs before) c
    (subst (λ (t : Task). IsWorkOf t setting.config setting.limits w) (some_is its.0 task (sym its.1 ∙ is_task)) its.2)
    (subst (λ (id : JobId). WasFormed task w n before id.op id.number (jobs before).what) was.of_job.id formed) was
