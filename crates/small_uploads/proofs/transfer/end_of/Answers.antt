use Rattle.std.proofs.Common.{refl, rules, sym, ap, subst, ◌∙◌}
use Rattle.jobs.specs.Endings.{SeenCarried}
use Rattle.s3_model.specs.declared.outcomes.Outcome.{Outcome}
use Rattle.upload_promise.specs.Uploads.{WantsJournal, put_events}
use Rattle.small_uploads.proofs.UploadLemmas.{ended_wants}
use Rattle.small_uploads.proofs.transfer.end_of.Goals as goal

pub returns-clause-wants : goal.returns-clause-wants
returns-clause-wants c = λ none before after.
    let inside = c.carried.inside in
    let has_none = ap (λ (s : SeenCarried). s.job.cell) c.carried.view_is ∙ none in
    subst (λ (how : Outcome). WantsJournal before after how (put_events inside.tries)) (sym c.outcome_of-outcome.ensures)
    (ended_wants before after (put_events inside.tries) inside.tries refl inside.ending inside.job.id.op inside.job.part inside.job.cell has_none c.carried.invariant)

pub returns-clause-outcome : goal.returns-clause-outcome
returns-clause-outcome c = search rules
