-- The law of runs that are finite: each move takes of what the acts of its task have left.
use Rattle.std.proofs.Common.{◌≡◌, ◌+◌, ◌*◌, ◌≤◌, [], ◌∷◌, ℕ, Bool, true, List, refl, arith, length}
use Rattle.std.proofs.lemmas.List.Sums.{sum_by-cons}
use Rattle.task_acts.specs.declared.acts.Act.{Act}
use Rattle.task_acts.specs.declared.acts.Act.TheVariants as act
use Rattle.task_acts.specs.declared.work.Work.{Work}
use Rattle.task_acts.specs.Rule.{acts_of}
use Rattle.task_progress.proofs.Begun.{begun_known, ready_known}
use Rattle.manager_moves.proofs.MoveLaws.{given, in_front}
use Rattle.manager_moves.proofs.ShareLaws.{is_called}
use Rattle.manager_moves.specs.Laws.{IsRun}
use Rattle.manager_moves.specs.Parts.{sum_from}
use Rattle.manager_moves.specs.Runs.{Back, Called, Events, Lined, Made, Sent, Shared, Stopped, lined_count, made_count}
use Rattle.run_progress.proofs.Limits.{few_lined, few_made}
use Rattle.run_needs.specs.Moves.{RunsAreFinite, most_moves, move_count, run_moves}
use Rattle.run_needs.proofs.GivenCounts.{AreAmong, all_happened, back_step, called_step_one, most_of, sent_step}

-- every act counts
abbrev each_act : Act → Bool
each_act a = true

among : (w : Work) → AreAmong each_act w (acts_of w)
among w = record {
  ready = λ h holds a counted ready. ready_known w h a ready;
  begun = λ h holds o n begun. begun_known w h holds (act.Send o n) begun;
}

module _ (s : Shared) where
  counted : (events : Events) → IsRun s events
      → move_count events ≤ all_happened each_act s events + made_count events + lined_count events
  counted [] run = omega arith
  counted (Made fits ∷ before) run = let so_far = counted before run.1 in omega arith
  counted (Lined ∷ before) run = let so_far = counted before run.1 in omega arith
  counted (Stopped reason ∷ before) run = counted before run.1
  counted (Sent t o k lane ∷ before) run =
      let so_far = counted before run.1 in
      let its = given s before t o k lane run.0 in
      let more = sent_step each_act s before t o k lane its.work its.of_plan refl in
      omega arith
  counted (Back lane c ∷ before) run =
      let so_far = counted before run.1 in
      let more = back_step each_act s before c c.job.id.task run.0.1 in
      omega arith
  counted (Called t a r ∷ before) run =
      let so_far = counted before run.1 in
      let its = is_called s before t a run.0.0 in
      let more = called_step_one each_act s before t a r its.0
      (in_front (made_count before) s.works t its.0 its.1) refl in
      omega arith

all_moves : (n : ℕ) (works : List Work)
    → sum_from (λ (k : ℕ) (w : Work). 4 * length (acts_of w)) n works + 2 * length works
    ≡ run_moves works
all_moves n [] = refl
all_moves n (w ∷ works) =
    let rest = all_moves (n + 1) works in
    let more = sum_by-cons most_moves w works in
    omega arith

pub runs_are_finite : RunsAreFinite
runs_are_finite s events run =
    let some = counted s events run in
    let all = most_of each_act s acts_of among events run in
    let made = few_made s events run in
    let lined = few_lined s events run in
    let same = all_moves 0 s.works in
    omega (arith, same)
