-- The law of journals that fit: each entry takes of what the jobs of its task have left.
use Rattle.std.proofs.Common.{◌≡◌, ◌+◌, ◌≤◌, [], ◌∷◌, ℕ, Bool, true, false, List}
use Rattle.std.proofs.Common.{refl, arith, length}
use Rattle.std.proofs.lemmas.List.{length-append}
use Rattle.std.proofs.lemmas.List.Sums.{sum_by-cons}
use Rattle.job_terms.specs.Jobs.{job_of}
use Rattle.s3_model.specs.declared.outcomes.Event.TheVariants as entry
use Rattle.shared_lemmas.proofs.Members.{Has}
use Rattle.task_acts.specs.declared.acts.Act.{Act}
use Rattle.task_acts.specs.declared.acts.Act.TheVariants as act
use Rattle.task_acts.specs.declared.work.Work.{Work}
use Rattle.task_acts.specs.Histories.{History}
use Rattle.task_acts.specs.Kept.{IsHistory}
use Rattle.task_acts.specs.Rule.{is_ready_in}
use Rattle.task_progress.proofs.Endings.{no}
use Rattle.manager_moves.proofs.MoveLaws.{given}
use Rattle.manager_moves.specs.Laws.{IsRun}
use Rattle.manager_moves.specs.Parts.{sum_from}
use Rattle.manager_moves.specs.Runs.{Back, Called, Events, Lined, Made, Sent, Shared, Stopped, journal_of}
use Rattle.run_needs.specs.Entries.{JournalsFit, journal_room, most_entries}
use Rattle.run_needs.specs.Jobs.{jobs_of}
use Rattle.run_needs.proofs.GivenCounts.{AreAmong, all_happened, back_step, called_step, most_of, sent_step}
use Rattle.run_needs.proofs.JobLemmas.{begun_job, ready_job}

-- an entry is of a job
abbrev is_job : Act → Bool
is_job (act.Send o n) = true
is_job a = false

module _ (w : Work) where
  ready_among : (h : History) → IsHistory w h → (a : Act) → is_job a ≡ true → is_ready_in w h a ≡ true
      → Has (jobs_of w) a
  ready_among h holds (act.Send o n) job ready = ready_job w h holds o n ready
  ready_among h holds a job ready = no job

  among : AreAmong is_job w (jobs_of w)
  among = record { ready = ready_among; begun = begun_job w }

same_sum : (n : ℕ) (works : List Work) → sum_from (λ (k : ℕ) (w : Work). most_entries w) n works ≡ journal_room works
same_sum n [] = refl
same_sum n (w ∷ works) =
    let rest = same_sum (n + 1) works in
    let more = sum_by-cons most_entries w works in
    omega arith

module _ (s : Shared) where
  counted : (events : Events) → IsRun s events → length (journal_of events) ≤ all_happened is_job s events
  counted [] run = omega arith
  counted (Made fits ∷ before) run = counted before run.1
  counted (Lined ∷ before) run = counted before run.1
  counted (Stopped reason ∷ before) run = counted before run.1
  counted (Sent t o k lane ∷ before) run =
      let so_far = counted before run.1 in
      let its = given s before t o k lane run.0 in
      let more = sent_step is_job s before t o k lane its.work its.of_plan refl in
      let longer = length-append (journal_of before) (entry.Given (job_of t o k) lane ∷ []) in
      omega (arith, longer)
  counted (Back lane c ∷ before) run =
      let so_far = counted before run.1 in
      let more = back_step is_job s before c c.job.id.task run.0.1 in
      let longer = length-append (journal_of before) (entry.Came c.job.id lane c.tries ∷ []) in
      omega (arith, longer)
  counted (Called t a r ∷ before) run =
      let so_far = counted before run.1 in
      let more = called_step is_job s before t a r in
      omega arith

pub journals_fit : JournalsFit
journals_fit s events run =
    let some = counted s events run in
    let all = most_of is_job s jobs_of among events run in
    let same = same_sum 0 s.works in
    omega (arith, same)
