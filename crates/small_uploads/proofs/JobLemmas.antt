-- The job of an upload is its Put, and what the carrier did for it.
use Rattle.std.proofs.Common.{◌≡◌, ◌∙◌, ◌+◌, ℕ, Bool, false, List, Option, Some, None, refl, sym, ap, subst, inr, IfSome, length, arith}
use Rattle.shared_lemmas.proofs.Clashes.{none_is_some}
use Rattle.attempts.specs.Attempts.{SignedRequest}
use Rattle.jobs.specs.Endings.{SeenCarried}
use Rattle.jobs.specs.Holders.{Holder}
use Rattle.jobs.specs.Jobs.{IsAskOf, IsOfKind, IsOfTask, IsStepAsk, SeenJob, bytes_of, range_of}
use Rattle.jobs.specs.declared.what.What.{What}
use Rattle.jobs.specs.declared.what.What.TheVariants as what
use Rattle.lane_jobs.specs.Lanes.{Carries, Ends, IsCarriedBy, IsSameJob, IsShare, KeepsCell, SeenCarrier, most_attempts, reason_of, request_for}
use Rattle.job_terms.specs.Gains.{Gains}
use Rattle.job_terms.proofs.GainLemmas.{gains_as}
use Rattle.job_terms.specs.Jobs.{IsObject}
use Rattle.s3_model.specs.declared.bytes.Part.{Part}
use Rattle.s3_model.specs.declared.outcomes.Event.{Event}
use Rattle.s3_model.specs.declared.outcomes.JobId.{JobId}
use Rattle.s3_model.specs.declared.outcomes.Outcome.{Outcome}
use Rattle.s3_model.specs.declared.outcomes.Reason.{Reason}
use Rattle.s3_model.specs.declared.places.Place.{Place}
use Rattle.s3_model.specs.declared.places.Place.TheVariants as place
use Rattle.s3_model.specs.declared.requests.Ask.{Ask}
use Rattle.s3_model.specs.declared.requests.Ask.TheVariants as ask
use Rattle.s3_model.specs.declared.requests.Op.TheVariants as op
use Rattle.s3_model.specs.declared.tasks.Kind.{Kind}
use Rattle.s3_model.specs.declared.tasks.Task.{Task}
use Rattle.s3_model.specs.declared.tries.Mark.{Mark}
use Rattle.s3_model.specs.Talks.{WireLog}
use Rattle.s3_outside.specs.Files.{SeenFiles}
use Rattle.upload_promise.specs.Puts.{put_job}
use Rattle.upload_promise.specs.Sources.{AreFirstBytes}
use Rattle.upload_promise.specs.Uploads.{put_events}
use Rattle.small_uploads.specs.Uploading.{GoesToObject, IsPutTask, IsStepOf, Uploads, ask_for, most_puts, outcome_of, put_ask, put_request}

-- ---- its request

put_same : (content : Option (List ℕ)) (fresh : Bool) (bucket key b k : List ℕ) → bucket ≡ b → key ≡ k → fresh ≡ false → ask.Put b k content fresh ≡ ask.Put bucket key content false
put_same content fresh bucket key b k e f g = cc

put_as : (dest : Place) (content : Option (List ℕ)) (fresh : Bool) (b k : List ℕ) → IsObject dest b k → fresh ≡ false → ask.Put b k content fresh ≡ ask_for dest content
put_as (place.Object bucket key) content fresh b k is replaces = put_same content fresh bucket key b k is.0 is.1 replaces
put_as (place.File path) content fresh b k is replaces = absurd is

step_ask : (task : Task) (for : What) (asked : Ask) → IsPutTask task → IsStepOf task for → IsAskOf put_job for asked → asked ≡ put_ask task
step_ask task (what.Plan planned) asked put is asks = absurd is
step_ask task (what.Step shared range upload etags) asked put is asks =
    let (to, e) = subst (λ (t : Task). IsStepAsk t range upload etags op.Put 0 asked) is asks.1 in
    e ∙ put_as task.dest task.content task.fresh to.bucket to.key to.is_dest put.replaces

named : (dest : Place) → GoesToObject dest → (bucket : List ℕ) × (key : List ℕ) × IsObject dest bucket key
named (place.Object bucket key) is = (bucket, key, (refl, refl))
named (place.File path) is = absurd is

-- a step of such a task asks for its Put
pub put_asks : (task : Task) → IsPutTask task → (range : ℕ × ℕ) → (asked : Ask) × (IsOfTask task op.Put × IsStepAsk task range None None op.Put 0 asked)
put_asks task put range =
    let (bucket, key, is) = named task.dest put.to_object in (
      ask.Put bucket key task.content task.fresh,
      (subst (λ (k : Kind). IsOfKind k op.Put) (sym put.kind_is) tt, (record { bucket = bucket; key = key; is_dest = is }, refl)),
    )

-- its body is what the part has
put_is : (carrier : SeenCarrier) (dest : Place) (content : Option (List ℕ)) (part : Option Part) (size : ℕ)
    → request_for carrier (ask_for dest content) part size ≡ put_request carrier.endpoint carrier.keys (ask_for dest content) (bytes_of part)
put_is carrier (place.Object bucket key) content part size = refl
put_is carrier (place.File path) content part size = refl

-- ---- it has no cell

pub no_cell : (before after : Option Holder) → before ≡ None → KeepsCell before after → after ≡ None
no_cell None None e keeps = refl
no_cell None (Some after) e keeps = absurd keeps
no_cell (Some before) after e keeps = absurd (none_is_some before (sym e))

-- ---- what was carried

from_none : (n : ℕ) → 0 + n ≡ n
from_none n = omega arith

module _ (carrier : SeenCarrier) (task : Task) (put : IsPutTask task) (job : SeenJob) (is_put : job.id ≡ put_job) (is_step : IsStepOf task job.what) (no_holder : job.cell ≡ None) (none_had : job.had ≡ 0)
    (carried : SeenCarried) (first last : Option WireLog) (same : IsSameJob job carried.job) where
  abbrev CarriesAs : Ask → ℕ → Option Reason → List ℕ → Type 0
  CarriesAs asked had gave place = Carries (request_for carrier asked job.part (range_of job.what).1) had (most_attempts carrier.attempts had) gave place first last carried.tries carried.ending

  no_reason : reason_of carried.job.cell ≡ None
  no_reason = ap reason_of (no_cell job.cell carried.job.cell no_holder same.cell)

  abbrev CarriesPut : List ℕ → Type 0
  CarriesPut place = Carries (put_request carrier.endpoint carrier.keys (put_ask task) (bytes_of job.part)) 0 (most_attempts carrier.attempts 0) None place first last carried.tries carried.ending

  pub carries_put : (h : IsCarriedBy carrier job first last carried) → CarriesPut h.place
  carries_put h =
      let is = step_ask task job.what h.asked put is_step (subst (λ (id : JobId). IsAskOf id job.what h.asked) is_put h.asks) in
      let asked = subst (λ (a : Ask). CarriesAs a job.had (reason_of carried.job.cell) h.place) is h.carries in
      let had = subst (λ (n : ℕ). CarriesAs (put_ask task) n (reason_of carried.job.cell) h.place) none_had asked in
      let gave = subst (λ (r : Option Reason). CarriesAs (put_ask task) 0 r h.place) no_reason had in
      subst (λ (r : SignedRequest). Carries r 0 (most_attempts carrier.attempts 0) None h.place first last carried.tries carried.ending) (put_is carrier task.dest task.content job.part (range_of job.what).1) gave

  pub given : IsCarriedBy carrier job first last carried → (seen : Option SeenFiles) (path : List ℕ) (length_of before after : ℕ) (journal : List Event) (how : Outcome) (body : List ℕ)
      → journal ≡ put_events carried.tries → how ≡ outcome_of carried.tries carried.ending → bytes_of job.part ≡ body → length body ≡ length_of → IfSome seen (λ files. AreFirstBytes files.store path body)
      → Gains first last (Uploads carrier.endpoint carrier.keys carrier.attempts (put_ask task) seen path length_of before after journal how)
  given h seen path length_of before after journal how body journals is same_body whole read =
      let k = carries_put h in
      gains_as (IsShare (put_request carrier.endpoint carrier.keys (put_ask task) (bytes_of job.part)) 0 h.place k.classes carried.ending)
      (Uploads carrier.endpoint carrier.keys carrier.attempts (put_ask task) seen path length_of before after journal how)
      (λ talks notes share. inr (record {
        bytes = bytes_of job.part;
        size_is = ap (λ (bytes : List ℕ). length bytes) same_body ∙ whole;
        read = subst (λ (bytes : List ℕ). IfSome seen (λ files. AreFirstBytes files.store path bytes)) (sym same_body) read;
        carries = record {
          classes = k.classes;
          ended = carried.ending;
          place = h.place;
          journals = journals ∙ ap put_events k.marks;
          comes_to = is ∙ ap (λ (marks : List Mark). outcome_of marks carried.ending) k.marks;
          at_most = let few = k.at_most in omega (arith, few);
          again = k.again;
          ends = subst (λ (made : ℕ). Ends made (most_puts carrier.attempts) None k.classes carried.ending) (from_none (length k.classes)) k.ends;
          shared = share;
        };
      }))
      first last k.shared
