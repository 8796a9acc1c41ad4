-- A piece that is to be read is no longer than the longest piece of the run.
use Rattle.std.proofs.Common.{◌≡◌, ◌∙◌, ◌≤◌, ℕ, Bool, true, false, Some, refl, sym, ap, arith, if◌then◌else◌}
use Rattle.std.proofs.lemmas.Bool.{and_parts}
use Rattle.std.specs.Prelude.{slice_get}
use Rattle.manager_moves.proofs.CountLemmas.{no}
use Rattle.manager_moves.proofs.MoveLaws.{in_front}
use Rattle.manager_moves.proofs.PartLaws.{find_passes, ready_act, same_value}
use Rattle.manager_moves.proofs.ShareLaws.{IsReady, act_of, is_next}
use Rattle.manager_moves.specs.declared.moves.Move.TheVariants as move
use Rattle.manager_moves.specs.Moves.{next_move}
use Rattle.manager_moves.specs.Runs.{Events, Shared, lacks_memory, made_count, share}
use Rattle.run_needs.specs.Needs.{most_bytes, part_bytes, piece_bytes}
use Rattle.s3_model.specs.declared.tasks.Kind.{Kind}
use Rattle.s3_model.specs.declared.tasks.Kind.TheVariants as kind
use Rattle.step_jobs.specs.Formed.{range_at}
use Rattle.task_acts.specs.declared.acts.Act.{Act}
use Rattle.task_acts.specs.declared.acts.Act.TheVariants as act
use Rattle.task_acts.specs.declared.acts.Stage.{Stage}
use Rattle.task_acts.specs.declared.work.Work.{Work}
use Rattle.task_acts.specs.Failures.{is_stopped}
use Rattle.task_acts.specs.Histories.{History}
use Rattle.task_acts.specs.Rule.{acts_of, first_ready_in, is_due, is_named, is_ready_in}
use Rattle.task_acts.specs.Stages.{may_be_given, stage}
use Rattle.manager_core.proofs.FormedJobs.{most_of}

-- only an upload reads
reads_up : (w : Work) (stage_of : Act → Stage) (number : ℕ) (k : Kind) (stopped now : Bool)
    → (if now then false else is_due w stage_of stopped k (act.Read number)) ≡ true → k ≡ kind.Upload
reads_up w stage_of number k stopped true e = no e
reads_up w stage_of number kind.Upload stopped false e = refl
reads_up w stage_of number kind.Download stopped false e = no e
reads_up w stage_of number kind.Copy stopped false e = no e
reads_up w stage_of number kind.RemoveObject stopped false e = no e
reads_up w stage_of number kind.RemoveFile stopped false e = no e

module _ (s : Shared) (events : Events) (task number : ℕ) (w : Work) (there : slice_get s.works task ≡ Some w)
    (next : next_move s events ≡ move.Read task number) where
  is_ready : IsReady s events task (act.Read number)
  is_ready = is_next s events task (act.Read number) (ap act_of next)

  abbrev its : Work
  its = is_ready.0

  abbrev h : History
  h = share its task events

  is_first : first_ready_in its h ≡ Some (act.Read number)
  is_first = ready_act (lacks_memory task events) (first_ready_in its h) (act.Read number) is_ready.2

  uploads : its.of_kind ≡ kind.Upload
  uploads = reads_up its (stage its h) number its.of_kind (is_stopped its h) (is_stopped its h)
      (and_parts (may_be_given (stage its h (act.Read number)))
      (is_named its (stage its h) (is_stopped its h) (act.Read number))
      (find_passes (is_ready_in its h) (acts_of its) (act.Read number) is_first)).1

  same : its ≡ w
  same = same_value (sym (in_front (made_count events) s.works task its is_ready.1) ∙ there)

  pub fits_read : (range_at w number).1 ≤ most_bytes s.works
  fits_read =
      let most = most_of s.works 0 task w there in
      let piece : part_bytes w ≡ w.piece =
      ap (λ (k : Kind). piece_bytes k w.piece) (ap (λ (x : Work). x.of_kind) (sym same) ∙ uploads) in
      omega (arith, most, piece)
