use Rattle.std.proofs.Common.{Err, sym, ap, subst}
use Rattle.std.specs.Arc.{arc_value}
use Rattle.s3_model.specs.declared.outcomes.Outcome.TheVariants as outcome
use Rattle.s3_model.specs.declared.outcomes.Cause.{Cause}
use Rattle.job_terms.specs.Gains.{Gains}
use Rattle.upload_promise.specs.Uploads.{WantsJournal}
use Rattle.small_uploads.specs.Uploading.{Uploads, put_ask}
use Rattle.jobs.specs.Jobs.{bytes_of}
use Rattle.small_uploads.proofs.JobLemmas.{given}
use Rattle.small_uploads.proofs.UploadLemmas as lemma
use Rattle.small_uploads.proofs.transfer.upload.Goals as goal

pub returns-in-Err-clause-went : goal.returns-in-Err-clause-went
returns-in-Err-clause-went g c =
    let seen = g.W.Wire.seen c.args.wire.now in
    let how = λ (cause : Cause). Gains seen seen (Uploads c.args.carrier.now.endpoint c.args.carrier.now.keys c.args.carrier.now.attempts (put_ask (arc_value c.args.task)) (g.F.Files.seen c.read_whole.new.files)
    c.args.path.now c.args.size (g.F.Files.faults c.args.files.now) (g.F.Files.faults c.read_whole.new.files) c.args.journal.now.items (outcome.Failed cause)) in
    subst how (sym c.read_cause.ensures)
    (lemma.unread c.args.carrier.now.endpoint c.args.carrier.now.keys c.args.carrier.now.attempts (put_ask (arc_value c.args.task)) (g.F.Files.seen c.read_whole.new.files) c.args.path.now c.args.size _ _
    c.args.journal.now.items seen c.in-Err.fault (λ e. c.in-Err.ensures.failed (ap Err e)) (lemma.short_told _ _ c.args.path.now c.args.size c.in-Err.fault c.in-Err.ensures.short) c.requires.empty)

pub returns-in-Err-clause-wants : goal.returns-in-Err-clause-wants
returns-in-Err-clause-wants g c =
    let before = g.F.Files.faults c.args.files.now in
    let after = g.F.Files.faults c.read_whole.new.files in
    subst (λ (cause : Cause). WantsJournal before after (outcome.Failed cause) c.args.journal.now.items) (sym c.read_cause.ensures)
    (lemma.read_wants before after c.in-Err.fault c.args.journal.now.items (λ e. c.in-Err.ensures.failed (ap Err e)) c.requires.empty)

pub returns-in-Ok-clause-went : goal.returns-in-Ok-clause-went
returns-in-Ok-clause-went g c =
    let sent = c.carry_put.ensures.sent in
    given c.args.carrier.now (arc_value c.args.task) c.requires.put c.job_of.result c.job_of.ensures.id c.job_of.ensures.step c.job_of.ensures.cell c.job_of.ensures.had
    sent.carried _ _ sent.same sent.by (g.F.Files.seen c.read_whole.new.files) c.args.path.now c.args.size (g.F.Files.faults c.args.files.now) (g.F.Files.faults c.read_whole.new.files)
    c.carry_put.new.journal.items c.carry_put.result c.in-Ok.bytes.bytes
    sent.journals sent.comes_to (ap bytes_of c.job_of.ensures.part) c.in-Ok.ensures.length c.in-Ok.ensures.bytes

pub returns-in-Ok-clause-wants : goal.returns-in-Ok-clause-wants
returns-in-Ok-clause-wants g c =
    c.carry_put.ensures.wants c.job_of.ensures.cell (g.F.Files.faults c.args.files.now) (g.F.Files.faults c.read_whole.new.files)
