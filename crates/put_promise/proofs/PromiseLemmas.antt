-- A run with its one upload keeps its promise.
use Rattle.std.proofs.Common.{◌≡◌, ◌<◌, ◌≤◌, ℕ, List, [], ◌∷◌, Option, Some, None, sym, ap, subst, length, filter_map}
use Rattle.std.specs.FinMap.{get}
use Rattle.s3_model.specs.declared.outcomes.Event.{Event}
use Rattle.s3_model.specs.declared.outcomes.Outcome.{Outcome}
use Rattle.s3_model.specs.declared.places.Endpoint.{Endpoint}
use Rattle.s3_model.specs.declared.settings.Config.{Config}
use Rattle.s3_model.specs.declared.settings.Keys.{Keys}
use Rattle.s3_model.specs.declared.settings.Limits.{Limits}
use Rattle.s3_model.specs.declared.tasks.Task.{Task}
use Rattle.s3_model.specs.declared.tasks.Warning.{Warning}
use Rattle.s3_model.specs.Files.{HeldFile}
use Rattle.s3_model.specs.Talks.{Talk, Note}
use Rattle.s3_model.specs.Validity.{IsValidConfig, IsValidLimits}
use Rattle.s3_outside.specs.Files.{SeenFiles, shape_at}
use Rattle.s3_outside.specs.declared.files.Shape.TheVariants as shape
use Rattle.answer_classes.specs.Showing.{HasStatus, Shows}
use Rattle.attempts.specs.Attempts.{text_of}
use Rattle.job_terms.specs.Dispatches.{Dispatched}
use Rattle.run_promise.specs.Settled.{left_by, untimed_by}
use Rattle.run_promise.specs.Schedule.{bytes_of, source_bytes}
use Rattle.upload_promise.specs.Shown.{CallFailed, KeepsPromise, end_of, start_of}
use Rattle.upload_promise.specs.Uploads.{upload_ask, upload_task}
use Rattle.upload_promise.proofs.JobLemmas.{Planned}
use Rattle.upload_promise.proofs.PromiseLemmas as promise
use Rattle.small_uploads.specs.Uploading.{IsPutCarried, Uploads}
use Rattle.put_promise.proofs.CarriedLemmas.{attempts, put_carried, tries}
use Rattle.put_promise.proofs.OutcomeLemmas.{put_outcome}
use Rattle.upload_promise.specs.Sources.{AreLeft}

module _ (endpoint : Endpoint) (keys : Keys) (Plans : Option ℕ → List Dispatched → Type 0) (plans_none : Plans None []) (config : Config) (configured : IsValidConfig config) (limits : Limits) (valid : IsValidLimits limits)
    (wires : ℕ) (has_wire : 1 ≤ wires) (status before after : ℕ) (path : List ℕ) (was now : SeenFiles) (same : AreLeft was now) (warnings : List Warning)
    (no_left : filter_map left_by warnings ≡ []) (no_untimed : filter_map untimed_by warnings ≡ []) where
  abbrev KeepsUpload : Task → Outcome → List Event → List Talk → List Note → Type 0
  KeepsUpload task how journal talks notes =
      KeepsPromise Shows HasStatus (text_of endpoint keys) endpoint.host endpoint.port Plans (CallFailed path now before after (task ∷ [])) (start_of config limits wires (task ∷ []) was)
      (end_of status (how ∷ []) warnings journal talks notes was now) None ⊥ ⊥

  module _ (bucket key : List ℕ) (content : Option (List ℕ)) (size micros : ℕ) (is_below : size < config.threshold) (file : HeldFile) (held : get was.store.held path ≡ Some file) (long : length file.bytes ≡ size) where
    abbrev upload : Outcome → Planned
    upload how = record {
      config = config;
      limits = limits;
      wires = wires;
      has_lane = promise.has_lanes config wires configured has_wire;
      status = status;
      bucket = bucket;
      key = key;
      path = path;
      content = content;
      size = size;
      micros = micros;
      is_below = is_below;
      how = how;
      was = was;
    }

    abbrev IsKept : Outcome → List Event → List Talk → List Note → Type 0
    IsKept = promise.IsKept Shows HasStatus (text_of endpoint keys) endpoint.host endpoint.port Plans plans_none config configured limits valid wires has_wire status before after path was now same warnings no_left no_untimed bucket key content size micros is_below file held long

    kept : (how : Outcome) (journal : List Event) (talks : List Talk) (notes : List Note) → IsPutCarried endpoint keys config.attempts (upload_ask bucket key content) file.bytes journal how talks notes
        → IsKept how journal talks notes
    kept how journal talks notes carried =
        let bytes_are : source_bytes was.store.held (upload_task path bucket key content size micros).source ≡ file.bytes = ap bytes_of held in
        let c = subst (λ (body : List ℕ). IsPutCarried endpoint keys config.attempts (upload_ask bucket key content) body journal how talks notes) (sym bytes_are) carried in
        let has = put_outcome endpoint keys (CallFailed path now before after (upload_task path bucket key content size micros ∷ [])) (upload how) journal talks notes c in
        record {
          tries = tries endpoint keys (upload how) configured.attempts.least journal talks notes c;
          attempts = attempts endpoint keys (upload how) configured.attempts.least journal talks notes c;
          journals = c.journals;
          carried = put_carried endpoint keys (upload how) configured.attempts.least journal talks notes c;
          has = has.0;
          ordinary = has.1;
        }

    keeps : (journal : List Event) (how : Outcome) (talks : List Talk) (notes : List Note)
        → Uploads endpoint keys config.attempts (upload_ask bucket key content) (Some now) path size before after journal how talks notes
        → KeepsUpload (upload_task path bucket key content size micros) how journal talks notes
    keeps =
        promise.upload_keeps Shows HasStatus (text_of endpoint keys) endpoint.host endpoint.port Plans plans_none config configured limits valid wires has_wire status before after path was now same warnings no_left no_untimed bucket key content size micros is_below file held long (IsPutCarried endpoint keys config.attempts) kept

  -- an upload whose file stood there, with the size that was planned
  pub uploaded : (bucket key : List ℕ) (content : Option (List ℕ)) (size micros : ℕ) → size < config.threshold → shape_at was.store path ≡ shape.File size micros
      → (journal : List Event) (how : Outcome) (talks : List Talk) (notes : List Note)
      → Uploads endpoint keys config.attempts (upload_ask bucket key content) (Some now) path size before after journal how talks notes
      → KeepsUpload (upload_task path bucket key content size micros) how journal talks notes
  uploaded bucket key content size micros is_below stands journal how talks notes =
      let found = promise.shape_file was.store path (get was.store.held path) size micros stands in
      keeps bucket key content size micros is_below found.0 found.1 found.2 journal how talks notes
