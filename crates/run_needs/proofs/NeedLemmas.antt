-- The needs of one task more.
use Rattle.std.proofs.Common.{◌≡◌, ◌∙◌, ◌+◌, ◌*◌, ◌++◌, ◌<◌, [], ◌∷◌, ℕ, List, refl, sym, subst, ap, get_or, length}
use Rattle.std.proofs.Common.{max, take}
use Rattle.std.proofs.lemmas.List.{take_more}
use Rattle.std.proofs.lemmas.List.Sums.{fold_push, sum_by_push}
use Rattle.s3_model.specs.declared.settings.Config.{Config}
use Rattle.s3_model.specs.declared.settings.Limits.{Limits}
use Rattle.s3_model.specs.declared.tasks.Task.{Task}
use Rattle.task_acts.specs.declared.work.Work.{Work}
use Rattle.task_acts.specs.Work.{IsWorkOf}
use Rattle.run_needs.specs.declared.needs.Needs.{Needs}
use Rattle.run_needs.specs.Entries.{most_entries}
use Rattle.run_needs.specs.Jobs.{jobs_of}
use Rattle.run_needs.specs.Needs.{AreNeedsOf, AreWorksOf, part_bytes}

module _ (config : Config) (limits : Limits) where
  works_push : (tasks : List Task) (works : List Work) (task : Task) (w : Work) → AreWorksOf config limits tasks works
      → IsWorkOf task config limits w → AreWorksOf config limits (tasks ++ task ∷ []) (works ++ w ∷ [])
  works_push [] [] task w are is = (is, tt)
  works_push (t ∷ tasks) (v ∷ works) task w are is = (are.0, works_push tasks works task w are.1 is)
  works_push [] (v ∷ works) task w are is = absurd are
  works_push (t ∷ tasks) [] task w are is = absurd are

  pub none_needed : AreNeedsOf config limits [] (record { entries = 0; bytes = 0 })
  none_needed = record { works = []; works_are = tt; entries_are = refl; bytes_are = refl }

  -- the needs of the tasks below the next place
  pub needs_more : (tasks : List Task) (i : ℕ) (task d : Task) (w : Work) (needs new : Needs) → i < length tasks
      → task ≡ get_or tasks i d → AreNeedsOf config limits (take i tasks) needs → IsWorkOf task config limits w
      → new.entries ≡ needs.entries + 4 * length (jobs_of w) → new.bytes ≡ max needs.bytes (part_bytes w)
      → AreNeedsOf config limits (take (i + 1) tasks) new
  needs_more tasks i task d w needs new below at so_far is entries bytes = record {
    works = so_far.works ++ w ∷ [];
    works_are = subst (λ (ts : List Task). AreWorksOf config limits ts (so_far.works ++ w ∷ []))
        (ap (λ (t : Task). take i tasks ++ t ∷ []) at ∙ sym (take_more tasks i d below))
        (works_push (take i tasks) so_far.works task w so_far.works_are is);
    entries_are = entries ∙ ap (λ (n : ℕ). n + most_entries w) so_far.entries_are
        ∙ sym (sum_by_push most_entries so_far.works w);
    bytes_are = bytes ∙ ap (λ (n : ℕ). max n (part_bytes w)) so_far.bytes_are
        ∙ sym (fold_push (λ (most : ℕ) (v : Work). max most (part_bytes v)) 0 so_far.works w);
  }
