-- Where memory ran out for a warning, failed calls may leave a temporary file and another time, and no others may.
use Rattle.std.proofs.Common.{◌≡◌, ◌∙◌, ◌⊎◌, ℕ, true, List, [], ◌∷◌, Option, Some, None, refl, sym, ap, subst, inl, inr, slice_get}
use Rattle.std.specs.Prelude.{IsSome}
use Rattle.std.specs.Cmp.Lexicographic.{nat_list_cmp_total, slice_cmp}
use Rattle.std.specs.Ordering.{nat_cmp}
use Rattle.std.specs.FinMap.{empty, get, get-empty, insert, remove}
use Rattle.s3_model.specs.declared.answers.Class.{Class}
use Rattle.s3_model.specs.declared.answers.Listed.{Listed}
use Rattle.s3_model.specs.declared.outcomes.Outcome.{Outcome}
use Rattle.s3_model.specs.declared.outcomes.Outcome.TheVariants as outcome
use Rattle.s3_model.specs.declared.places.Place.TheVariants as place
use Rattle.s3_model.specs.declared.requests.Ask.{Ask}
use Rattle.s3_model.specs.declared.tasks.Kind.TheVariants as kind
use Rattle.s3_model.specs.declared.tasks.Task.{Task}
use Rattle.s3_model.specs.Files.{HeldFile}
use Rattle.s3_model.specs.Maps.{MapOf}
use Rattle.s3_model.specs.Talks.{Talk}
use Rattle.local_files.specs.Calls.{Remove}
use Rattle.run_promise.specs.Endings.{IsLeftover}
use Rattle.run_promise.specs.FileCalls.{AreFilesApart, HasFailedBefore, TaskCall}
use Rattle.run_promise.specs.FileOutcomes.{HasFailedAct, IsByFiles, IsDestChanged, IsShownByCalls}
use Rattle.run_promise.specs.Schedule.{IsBefore}
use Rattle.shared_lemmas.proofs.Clashes.{false_true as never, some_is}
use Rattle.shared_lemmas.proofs.Lists.{no_middle}
use Rattle.shared_lemmas.proofs.Maps.{get-insert_other, get-insert_same, get-remove_other, text_decided, text_exact}
use Rattle.world_laws.proofs.ScheduleWitness.{one_task}
use Rattle.file_laws.specs.FileWitnesses.{file_removal}
use Rattle.file_laws.proofs.Keeping.{same_path, upload_removes}
use Rattle.promise_examples.specs.BothKinds as both
use Rattle.promise_examples.specs.BothKinds.{call_of, with_bytes}
use Rattle.promise_examples.specs.Reading.{Reads}
use Rattle.promise_examples.proofs.BothKinds.{both_kinds_are_met}
use Rattle.promise_examples.proofs.Concrete.{at, has}
use Rattle.promise_examples.proofs.ManyCalls as many
use Rattle.rare_runs.specs.MovedDownload.{filled, load, path, renamed, setting, stamped, temp, with_temp}
use Rattle.refused_outcomes.proofs.OneTask.{only}
use Rattle.refused_outcomes.specs.ToldFiles.{AreTold, EachUnwarnedFileIsMet, ExceptionsLetThrough, UnwarnedFilesAreMet, both_unwarned, excusing, held, removal, removing, temp_again}
use Rattle.refused_outcomes.proofs.Placed.{not_timed}

-- ---- the removal

abbrev removed_task : Task
removed_task = file_removal temp

abbrev removes : TaskCall
removes = call_of 0 0 (Remove temp true) (remove held temp)

still : (n : ℕ) (task : Task) → slice_get (removed_task ∷ []) n ≡ Some task → task.moves ≡ true → ⊥
still = only removed_task (λ n t. t.moves ≡ true → ⊥) never

is_there : get held temp ≡ Some (with_bytes [])
is_there = get-insert_same nat_list_cmp_total text_exact empty temp (with_bytes [])

apart : AreFilesApart held (removed_task ∷ [])
apart = record {
  destinations = λ m n a b p to_a to_b. (one_task removed_task m a to_a.0).0 ∙ sym (one_task removed_task n b to_b.0).0;
  sources = λ m n a b p move to_b. still m a move.0 move.1;
  moved_once = λ m n a b p move too. absurd (still m a move.0 move.1);
  uploads = λ n task p move. absurd (still n task move.0 move.1);
  one_way = λ m n a b p move is_b loads. still m a move.0 move.1;
  names = λ m n a b p to_a is_b loads loads_too named. (one_task removed_task m a to_a.0).0 ∙ sym (one_task removed_task n b is_b).0;
  there = λ n task p to_x removes. only removed_task (λ k t. t.dest ≡ place.File p → IsSome (get held p))
      (λ e. subst (λ (q : List ℕ). IsSome (get held q)) (same_path temp p e) (subst (λ (o : Option HeldFile). IsSome o) (sym is_there) refl)) n task to_x.0 to_x.1;
}

module _ (page_of : List ℕ → Listed) where
  abbrev Shows : Ask → ℕ → Talk → Class → List ℕ → Type 0
  Shows = Reads page_of

  undisturbed : (IsBefore None 0 ⊎ HasFailedBefore Shows (removal removing held).setting [] 0 0) → ⊥
  undisturbed (inl cancelled) = cancelled
  undisturbed (inr failed) = no_middle failed.1.0 failed.0 failed.1.1 failed.1.2

  kept : many.AreKept Shows (removal removing held).setting (excusing true) [] [] (removes ∷ [])
  kept = record {
    named = ((removed_task, refl, refl), tt);
    in_order = (tt, tt);
    carried_out = refl;
    order = (tt, tt);
    stops = ((λ stopped. absurd (undisturbed stopped)), tt);
    made = (tt, tt);
    made_first = tt;
    writes = ((λ task is. tt), tt);
    renames = ((λ task is. tt), tt);
    stamps = (tt, tt);
    stamps_last = (tt, tt);
    warned = (tt, tt);
    untimed_only = λ p known. absurd (has [] p known);
    drops = (tt, tt);
    left_only = λ p known. absurd (has [] p known);
    moves_last = ((λ task is upload. absurd (upload_removes (sym (ap (λ (t : Task). t.kind) (some_is removed_task task is) ∙ upload)))), tt);
    deletes_last = tt;
  }

  removed : AreTold Shows (removal removing (remove held temp)) (removes ∷ [])
  removed = record {
    dispatched = [];
    coming = [];
    are_jobs = refl;
    files = record {
      told = refl;
      keep = record { keep = many.all_keep Shows (removal removing held).setting (excusing true) [] [] (removes ∷ []) kept; runs = (refl, tt); apart = apart };
      held_after = refl;
      decided = λ n task how is at_how. only removed_task (λ k t. slice_get (outcome.Done ∷ []) k ≡ Some how → IsByFiles t → IsShownByCalls how (IsDestChanged t.kind (removes ∷ []) k) (HasFailedAct (removes ∷ []) k))
          (λ e by. subst (λ (o : Outcome). IsShownByCalls o (IsDestChanged kind.RemoveFile (removes ∷ []) 0) (HasFailedAct (removes ∷ []) 0)) (some_is outcome.Done how e) ((removes, at (removes ∷ []) 0 removes refl, refl, temp, refl), tt))
          n task is at_how;
      moved = λ n task how p move at_how. absurd (still n task move.0 move.1);
    };
  }

  -- ---- a temporary file that could not be dropped

  not_dropped : AreTold Shows both_unwarned both.calls
  not_dropped =
      let run = both_kinds_are_met page_of in
      let over = run.carried_out.over_files in
      let k = over.keep.keep in
      record {
        dispatched = run.dispatched;
        coming = run.dispatched;
        are_jobs = run.carried_out.over_wires.carried.shown;
        files = record {
          told = over.told;
          keep = record {
            keep = record {
              named = k.named;
              in_order = k.in_order;
              dry = k.dry;
              order = k.order;
              stops = k.stops;
              made = k.made;
              made_first = k.made_first;
              writes = k.writes;
              renames = k.renames;
              stamps = k.stamps;
              stamps_last = k.stamps_last;
              untimed = λ c p micros known e. inr refl;
              untimed_only = λ p known. absurd (has [] p known);
              drops = k.drops;
              left = λ c t known e. ((k.left c t known e).0, inr refl);
              left_only = λ t known. absurd (has [] t known);
              moves_last = k.moves_last;
              deletes_last = k.deletes_last;
            };
            runs = over.keep.runs;
            apart = over.keep.apart;
          };
          held_after = over.held_after;
          decided = over.decided;
          moved = over.moved;
        };
      }

  met : UnwarnedFilesAreMet page_of
  met = record { not_timed = not_timed page_of; not_dropped = not_dropped; removed = removed }

pub each_unwarned_file_is_met : EachUnwarnedFileIsMet
each_unwarned_file_is_met page_of = met page_of

-- ---- what the exceptions let through

elsewhere : (p : List ℕ) → (p ≡ temp → ⊥) → (p ≡ path → ⊥) → get temp_again p ≡ get setting.held p
elsewhere p no_temp no_path =
    other stamped temp (with_bytes []) no_temp ∙ other renamed path _ no_path ∙ other (remove filled temp) path _ no_path ∙ get-remove_other nat_list_cmp_total text_exact filled temp p no_temp
    ∙ other with_temp temp _ no_temp ∙ other empty temp _ no_temp
  where
    other : (m : MapOf HeldFile) (q : List ℕ) (file : HeldFile) → (p ≡ q → ⊥) → get (insert m q file) p ≡ get m p
    other m q file differs = get-insert_other nat_list_cmp_total text_exact m q file p differs

pub exceptions_let_through : ExceptionsLetThrough
exceptions_let_through = record {
  temp_again = λ p. elim (text_decided p temp) [
    | inl is ↦ inr (inl (subst (λ (q : List ℕ). IsLeftover (excusing true) empty q) (sym is) ((refl, inr refl), get-empty (slice_cmp nat_cmp) temp)))
    | inr no_temp ↦ elim (text_decided p path) [
      | inl is ↦ inl (load, at (load ∷ []) 0 load refl, inl (ap (λ (q : List ℕ). place.File q) (sym is)))
      | inr no_path ↦ inr (inr (elsewhere p no_temp no_path))
    ]
  ];
  other_time = λ state. (_, get-insert_same nat_list_cmp_total text_exact stamped path (record { bytes = 7 ∷ 8 ∷ []; micros = 6 }), refl, inr (inr refl));
  stands = λ state. inr (refl, inr refl);
}
