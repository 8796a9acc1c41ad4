use Rattle.std.proofs.Common.{◌∙◌, List, ap, subst, sym}
use Rattle.s3_model.specs.declared.outcomes.Event.{Event}
use Rattle.upload_promise.specs.Uploads.{WantsJournal, put_events}
use Rattle.small_uploads.proofs.JobLemmas.{no_cell}
use Rattle.small_uploads.proofs.UploadLemmas as lemma
use Rattle.small_uploads.proofs.transfer.carry_put.Goals as goal

pub returns-clause-sent : goal.returns-clause-sent
returns-clause-sent g c =
    let journal = lemma.journal_of c.args.journal.now.items c.push.new.self.items c.push-2.new.self.items c.end_of-tries.result.tries c.requires.empty c.push.ensures.items c.push-2.ensures.items in
    record {
      carried = c.carry.result;
      by = c.carry.ensures.carried;
      same = c.carry.ensures.job;
      journals = journal ∙ ap put_events c.end_of-tries.ensures.tries;
      comes_to = c.end_of-tries.ensures.outcome;
    }

pub returns-clause-wants : goal.returns-clause-wants
returns-clause-wants g c = λ none before after.
    let journal = lemma.journal_of c.args.journal.now.items c.push.new.self.items c.push-2.new.self.items c.end_of-tries.result.tries c.requires.empty c.push.ensures.items c.push-2.ensures.items in
    let stays = no_cell c.args.put.cell c.carry.result.job.cell none c.carry.ensures.job.cell in
    subst (λ (events : List Event). WantsJournal before after c.end_of-tries.result.outcome events) (sym journal) (c.end_of-tries.ensures.wants stays before after)
