-- What a job is given fits it.
use Rattle.std.proofs.Common.{◌≡◌, ◌∙◌, ◌≤◌, ℕ, true, false, List, Option, Some, None, IfSome, refl, sym, subst, ap}
use Rattle.std.proofs.Common.{arith}
use Rattle.std.specs.Prelude.{is_some}
use Rattle.jobs.specs.Jobs.{HasPart, IsOfKind, IsOfTask}
use Rattle.manager_moves.proofs.CountLemmas.{no}
use Rattle.run_needs.specs.Needs.{part_bytes, piece_bytes}
use Rattle.job_terms.specs.Buffers.{holds_buffer}
use Rattle.s3_model.specs.declared.bytes.Part.{Part}
use Rattle.s3_model.specs.declared.requests.Op.{Op}
use Rattle.s3_model.specs.declared.requests.Op.TheVariants as op
use Rattle.s3_model.specs.declared.settings.Config.{Config}
use Rattle.s3_model.specs.declared.settings.Limits.{Limits}
use Rattle.s3_model.specs.declared.tasks.Kind.{Kind}
use Rattle.s3_model.specs.declared.tasks.Kind.TheVariants as kind
use Rattle.s3_model.specs.declared.tasks.Task.{Task}
use Rattle.step_jobs.specs.declared.step_jobs.Given.{Given}
use Rattle.step_jobs.proofs.Requests.{ready_steps_have_requests}
use Rattle.step_jobs.specs.Formed.{FitsJob, range_at}
use Rattle.step_jobs.specs.Requests.{BeginsWithin, HasRequest}
use Rattle.task_acts.specs.declared.acts.Act.TheVariants as act
use Rattle.task_acts.specs.declared.work.Work.{Work}
use Rattle.task_acts.specs.Histories.{History}
use Rattle.task_acts.specs.Kept.{IsHistory, upload_of}
use Rattle.task_acts.specs.Rule.{is_ready_in}
use Rattle.step_laws.specs.Fitting.{GivenJobsFit, HasItsWork, IsGivenIn}

none_there : {X : Type 0} (x : Option X) → is_some x ≡ false → x ≡ None
none_there None e = refl
none_there (Some x) e = no (sym e)

-- a Get takes a part with room for its bytes, and each other op as it is
its_part : (o : Op) (bytes room : ℕ) (part : Option Part) → is_some part ≡ holds_buffer o
    → IfSome part (λ p. room ≤ p.bytes.room) → (o ≡ op.Get → bytes ≤ room) → HasPart o bytes part
its_part op.Put bytes room part e fits few = e
its_part op.Part bytes room part e fits few = e
its_part op.Get bytes room None e fits few = no e
its_part op.Get bytes room (Some p) e fits few = (p, refl, (let l = few refl in omega (arith, fits)))
its_part op.Head bytes room part e fits few = none_there part e
its_part op.Copy bytes room part e fits few = none_there part e
its_part op.Delete bytes room part e fits few = none_there part e
its_part op.Create bytes room part e fits few = none_there part e
its_part op.PartCopy bytes room part e fits few = none_there part e
its_part op.Complete bytes room part e fits few = none_there part e
its_part op.Abort bytes room part e fits few = none_there part e
its_part op.List bytes room part e fits few = none_there part e
its_part op.Buckets bytes room part e fits few = none_there part e

downloads : (k : Kind) → IsOfKind k op.Get → k ≡ kind.Download
downloads kind.Download of = refl
downloads kind.Upload of = absurd of
downloads kind.Copy of = absurd of
downloads kind.RemoveObject of = absurd of
downloads kind.RemoveFile of = absurd of

module _ (config : Config) (limits : Limits) (task : Task) (w : Work) (h : History) (room : ℕ) (given : Given)
    (has : HasItsWork config limits task w) (few : part_bytes w ≤ room) (is : IsHistory w h)
    (ready : is_ready_in w h (act.Send given.id.op given.id.number) ≡ true) (in_it : IsGivenIn w h room given) where
  request : HasRequest task (range_at w given.id.number) (upload_of h) given.etags given.id.op given.id.number
      × BeginsWithin w given.id.number
  request = ready_steps_have_requests task config limits w h given.id.op given.id.number given.etags has.config_is
      has.limits_are has.size has.work has.objects is ready in_it.tags

  its_request : HasRequest task (range_at w given.id.number) given.upload given.etags given.id.op given.id.number
  its_request = subst (λ (upload : Option (List ℕ)).
      HasRequest task (range_at w given.id.number) upload given.etags given.id.op given.id.number) (sym in_it.upload)
      request.0

  few_bytes : given.id.op ≡ op.Get → (range_at w given.id.number).1 ≤ room
  few_bytes e =
      let its : IsOfTask task op.Get = subst (λ (o : Op). IsOfTask task o) e its_request.of_task in
      let down : w.of_kind ≡ kind.Download = has.work.kind_is ∙ downloads task.kind its in
      let piece : part_bytes w ≡ w.piece = ap (λ (k : Kind). piece_bytes k w.piece) down in
      omega (arith, few, piece)

  pub fits : FitsJob task w given
  fits = record {
    asks = its_request;
    part = its_part given.id.op (range_at w given.id.number).1 room given.part in_it.takes in_it.room_is few_bytes;
    within = request.1;
  }

pub given_jobs_fit : GivenJobsFit
given_jobs_fit config limits task w h room given has few is ready in_it =
    fits config limits task w h room given has few is ready in_it
