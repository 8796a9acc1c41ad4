use Rattle.std.proofs.Common.{◌∙◌, List, ℕ, subst, rules}
use Rattle.upload_plans.specs.declared.plan.Fate.{Fate}
use Rattle.s3_model.specs.declared.places.Endpoint.{Endpoint}
use Rattle.s3_model.specs.declared.settings.Keys.{Keys}
use Rattle.job_terms.specs.Gains.{Gains}
use Rattle.run_task.specs.Uploaded.{MayUpload}
use Rattle.upload_promise.specs.Sources.{LooksAt}
use Rattle.upload_promise.proofs.SourceLemmas.{looks_both}
use Rattle.s3_main.specs.Plans.{IsFate}
use Rattle.s3_main.proofs.ExecutionLemmas as lemma
use Rattle.s3_main.proofs.execution.execute_command.Goals as goal

pub execute_upload-requires-clause-upload : goal.execute_upload-requires-clause-upload
execute_upload-requires-clause-upload g c =
    let fated = subst (λ (f : Fate). IsFate c.args.start.command c.args.start.settings c.args.limits.now (g.F.Files.seen c.args.files.now) f) c.in-Ok-Upload.field-0-is c.in-Ok-Upload.ensures.fate in
    (lemma.is_upload c.args.start.command c.args.start.settings c.args.limits.now (g.F.Files.seen c.args.files.now) c.in-Ok-Upload.task fated).0

pub returns-in-Ok-Upload-clause-went : goal.returns-in-Ok-Upload-clause-went
returns-in-Ok-Upload-clause-went g c =
    let fated = subst (λ (f : Fate). IsFate c.args.start.command c.args.start.settings c.args.limits.now (g.F.Files.seen c.args.files.now) f) c.in-Ok-Upload.field-0-is c.in-Ok-Upload.ensures.fate in
    lemma.uploaded_goes c.args.start.command c.args.start.settings c.args.limits.now (g.F.Files.seen c.args.files.now) (g.F.Files.seen c.execute_upload.new.files)
    (g.F.Files.faults c.args.files.now) (g.F.Files.faults c.find_fate.new.files) (g.F.Files.faults c.execute_upload.new.files) c.execute_upload.result.run c.in-Ok-Upload.task
    c.in-Ok-Upload.ensures.later _ _ fated
    (subst (λ (endpoint : Endpoint). Gains (g.W.Wire.seen c.args.wire.now) (g.W.Wire.seen c.execute_upload.new.wire) (MayUpload endpoint c.args.start.settings.keys c.args.start.settings.config.attempts c.in-Ok-Upload.task
    (g.F.Files.seen c.execute_upload.new.files) (g.F.Files.faults c.find_fate.new.files) (g.F.Files.faults c.execute_upload.new.files) c.execute_upload.result.run)) (c.service_of.ensures.endpoint ∙ c.in-Ok-Upload.ensures.endpoint)
    (subst (λ (keys : Keys). Gains (g.W.Wire.seen c.args.wire.now) (g.W.Wire.seen c.execute_upload.new.wire) (MayUpload c.service_of.result.endpoint keys c.args.start.settings.config.attempts c.in-Ok-Upload.task
    (g.F.Files.seen c.execute_upload.new.files) (g.F.Files.faults c.find_fate.new.files) (g.F.Files.faults c.execute_upload.new.files) c.execute_upload.result.run)) c.service_of.ensures.keys
    (subst (λ (attempts : ℕ). Gains (g.W.Wire.seen c.args.wire.now) (g.W.Wire.seen c.execute_upload.new.wire) (MayUpload c.service_of.result.endpoint c.service_of.result.keys attempts c.in-Ok-Upload.task
    (g.F.Files.seen c.execute_upload.new.files) (g.F.Files.faults c.find_fate.new.files) (g.F.Files.faults c.execute_upload.new.files) c.execute_upload.result.run)) c.service_of.ensures.attempts c.execute_upload.ensures.went)))

pub returns-in-Ok-Upload-clause-files : goal.returns-in-Ok-Upload-clause-files
returns-in-Ok-Upload-clause-files g c =
    let fated = subst (λ (f : Fate). IsFate c.args.start.command c.args.start.settings c.args.limits.now (g.F.Files.seen c.args.files.now) f) c.in-Ok-Upload.field-0-is c.in-Ok-Upload.ensures.fate in
    let is = lemma.is_upload c.args.start.command c.args.start.settings c.args.limits.now (g.F.Files.seen c.args.files.now) c.in-Ok-Upload.task fated in
    looks_both _ _ _ _ c.in-Ok-Upload.ensures.files
    (subst (λ (path : List ℕ). LooksAt path (g.F.Files.seen c.find_fate.new.files) (g.F.Files.seen c.execute_upload.new.files)) is.2 c.execute_upload.ensures.files)

pub returns-in-Ok : goal.returns-in-Ok
returns-in-Ok g c =
    let was = g.F.Files.seen c.args.files.now in
    let now = g.F.Files.seen c.find_fate.new.files in
    let before = g.F.Files.faults c.args.files.now in
    let after = g.F.Files.faults c.find_fate.new.files in
    let fated = c.in-Ok.ensures.fate in
    let none = c.end_with.ensures.no_task in
    let ended = c.end_with.ensures.ended in
    record {
      went = lemma.ended_goes c.args.start.command c.args.start.settings c.args.limits.now was now before after after c.end_with.result.run (g.W.Wire.seen c.args.wire.now) c.in-Ok.fate none fated ended;
      text = c.end_with.ensures.text;
      stops = lemma.ended_stops c.args.start.command c.args.start.settings c.args.limits.now was now before after after c.end_with.result.run c.in-Ok.fate none fated ended;
      does = lemma.ended_does c.args.start.command c.args.start.settings c.args.limits.now was now before after after c.end_with.result.run c.in-Ok.fate none fated ended;
      files = c.in-Ok.ensures.files;
      files_later = c.in-Ok.ensures.later;
      wire_later = search rules;
    }

pub returns-in-Err-clause-went : goal.returns-in-Err-clause-went
returns-in-Err-clause-went g c =
    lemma.unseen_goes c.args.start.command c.args.start.settings c.args.limits.now (g.F.Files.seen c.args.files.now) (g.F.Files.seen c.find_fate.new.files)
    (g.F.Files.faults c.args.files.now) (g.F.Files.faults c.args.files.now) (g.F.Files.faults c.find_fate.new.files) c.end_early.result.run (g.W.Wire.seen c.args.wire.now) c.in-Err.fatal c.end_early.ensures.run c.in-Err.ensures.fault

pub execute_upload-requires-clause-source : goal.execute_upload-requires-clause-source
execute_upload-requires-clause-source g c =
    let fated = subst (λ (f : Fate). IsFate c.args.start.command c.args.start.settings c.args.limits.now (g.F.Files.seen c.args.files.now) f) c.in-Ok-Upload.field-0-is c.in-Ok-Upload.ensures.fate in
    (lemma.is_upload c.args.start.command c.args.start.settings c.args.limits.now (g.F.Files.seen c.args.files.now) c.in-Ok-Upload.task fated).1

pub returns-in-Ok-Upload-clause-text : goal.returns-in-Ok-Upload-clause-text
returns-in-Ok-Upload-clause-text g c = c.execute_upload.ensures.text

pub returns-in-Ok-Upload-clause-stops : goal.returns-in-Ok-Upload-clause-stops
returns-in-Ok-Upload-clause-stops g c =
    lemma.uploaded_stops c.args.start.command c.args.start.settings c.args.limits.now (g.F.Files.seen c.args.files.now) (g.F.Files.seen c.execute_upload.new.files)
    (g.F.Files.faults c.args.files.now) (g.F.Files.faults c.find_fate.new.files) (g.F.Files.faults c.execute_upload.new.files) c.execute_upload.result.run c.in-Ok-Upload.task
    c.in-Ok-Upload.ensures.later c.execute_upload.ensures.does

pub returns-in-Ok-Upload-clause-does : goal.returns-in-Ok-Upload-clause-does
returns-in-Ok-Upload-clause-does g c =
    let fated = subst (λ (f : Fate). IsFate c.args.start.command c.args.start.settings c.args.limits.now (g.F.Files.seen c.args.files.now) f) c.in-Ok-Upload.field-0-is c.in-Ok-Upload.ensures.fate in
    lemma.uploaded_does c.args.start.command c.args.start.settings c.args.limits.now (g.F.Files.seen c.args.files.now) (g.F.Files.seen c.execute_upload.new.files)
    (g.F.Files.faults c.args.files.now) (g.F.Files.faults c.find_fate.new.files) (g.F.Files.faults c.execute_upload.new.files) c.execute_upload.result.run c.in-Ok-Upload.task
    c.in-Ok-Upload.ensures.later fated c.execute_upload.ensures.does

pub returns-in-Ok-Upload-clause-wire_later : goal.returns-in-Ok-Upload-clause-wire_later
returns-in-Ok-Upload-clause-wire_later g c = c.execute_upload.ensures.wire_later

pub returns-in-Err-clause-stops : goal.returns-in-Err-clause-stops
returns-in-Err-clause-stops g c =
    lemma.unseen_stops c.args.start.command c.args.start.settings c.args.limits.now (g.F.Files.seen c.args.files.now) (g.F.Files.seen c.find_fate.new.files)
    (g.F.Files.faults c.args.files.now) (g.F.Files.faults c.args.files.now) (g.F.Files.faults c.find_fate.new.files) c.end_early.result.run c.in-Err.fatal c.end_early.ensures.run c.in-Err.ensures.fault

pub returns-in-Err-clause-does : goal.returns-in-Err-clause-does
returns-in-Err-clause-does g c =
    lemma.unseen_does c.args.start.command c.args.start.settings c.args.limits.now (g.F.Files.seen c.args.files.now) (g.F.Files.seen c.find_fate.new.files)
    (g.F.Files.faults c.args.files.now) (g.F.Files.faults c.args.files.now) (g.F.Files.faults c.find_fate.new.files) c.end_early.result.run c.in-Err.fatal c.end_early.ensures.run c.in-Err.ensures.fault

pub returns-in-Err-clause-files : goal.returns-in-Err-clause-files
returns-in-Err-clause-files g c = c.in-Err.ensures.files

pub returns-in-Err-clause-files_later : goal.returns-in-Err-clause-files_later
returns-in-Err-clause-files_later g c = c.in-Err.ensures.later
