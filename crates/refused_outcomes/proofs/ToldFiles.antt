-- What calls made of local files is what these hold, whatever a service did and whatever is excused.
use Rattle.std.proofs.Common.{◌≡◌, ◌∙◌, ℕ, Bool, true, false, List, [], ◌∷◌, Option, Some, None, Ok, refl, sym, ap, inl, inr, arith}
use Rattle.std.specs.Cmp.Lexicographic.{nat_list_cmp_total, slice_cmp}
use Rattle.std.specs.Ordering.{nat_cmp}
use Rattle.std.specs.FinMap.{empty, get, get-empty, insert, remove}
use Rattle.s3_model.specs.declared.answers.Class.{Class}
use Rattle.s3_model.specs.declared.outcomes.Outcome.TheVariants as outcome
use Rattle.s3_model.specs.declared.requests.Ask.{Ask}
use Rattle.s3_model.specs.Files.{HeldFile}
use Rattle.s3_model.specs.Maps.{MapOf}
use Rattle.s3_model.specs.Talks.{Talk}
use Rattle.job_terms.specs.Dispatches.{Dispatched}
use Rattle.local_files.specs.Calls.{Call, DropTemp, IsCallRun, MakeTemp, Remove, Rename, Stamp, WriteAt, written_at}
use Rattle.run_promise.specs.FileCalls.{TaskCall, files_after, steps_of}
use Rattle.run_promise.specs.FileOutcomes.{IsByFiles}
use Rattle.run_promise.specs.Truthful.{AreToldByCalls, Shown}
use Rattle.world_laws.proofs.ScheduleWitness.{one_task}
use Rattle.file_laws.proofs.Keeping.{removal_downloads}
use Rattle.shared_lemmas.proofs.Clashes.{none_is_some, some_is, some_is_none}
use Rattle.shared_lemmas.proofs.Maps.{get-insert_other, get-insert_same, get-remove_same, text_exact}
use Rattle.shared_lemmas.proofs.Lists.{map_none}
use Rattle.file_laws.specs.FileWitnesses.{file_removal}
use Rattle.promise_examples.specs.BothKinds.{with_bytes}
use Rattle.promise_examples.specs.Reading.{Reads}
use Rattle.promise_examples.proofs.BothPlan.{other_length}
use Rattle.rare_runs.specs.MovedDownload.{bucket, content, filled, key, load, path, renamed, stamped, temp, written}
use Rattle.refused_outcomes.specs.ToldFiles.{EachUntoldFileIsRefused, EachUnwarnedFileIsRefused, FilesAreRefused, Strange, UnwarnedFilesAreRefused, dropping, ends_with as shown_as, held, other_bytes, other_time, placing, removal, removing, temp_again, timed}
use Rattle.refused_outcomes.proofs.CallEnds.{EndsWith, called, ends_with, made_as, none_is}

-- ---- files

found : (m : MapOf HeldFile) (p : List ℕ) (file : HeldFile) → get (insert m p file) p ≡ Some file
found m p file = get-insert_same nat_list_cmp_total text_exact m p file

gone : (m : MapOf HeldFile) (p : List ℕ) → get (remove m p) p ≡ None
gone m p = get-remove_same nat_list_cmp_total text_exact m p

temp_apart : temp ≡ path → ⊥
temp_apart e = other_length temp path 17 1 refl refl (λ is. omega arith) e

not_held : (m : MapOf HeldFile) (file : HeldFile) (p : List ℕ) → get m p ≡ Some file → m ≡ empty → ⊥
not_held m file p is e = none_is_some file (sym (get-empty (slice_cmp nat_cmp) p) ∙ ap (λ (x : MapOf HeldFile). get x p) (sym e) ∙ is)

-- ---- a download whose calls are told

abbrev timed_with : List ℕ → HeldFile
timed_with bytes = record { bytes = bytes; micros = 5 }

abbrev timed_to : HeldFile
timed_to = timed_with written

-- of what was written, where each call is told
written_is : (b2 : MapOf HeldFile) (file : HeldFile) → EndsWith empty (MakeTemp path (Ok temp) ∷ []) (WriteAt temp 0 content true) b2 → get b2 temp ≡ Some file → file.bytes ≡ written
written_is b2 file write is =
    let make = ends_with empty write.earlier [] (MakeTemp path (Ok temp)) write.told write.runs in
    let puts = make.leads.2 in
    let emptied : get (files_after empty write.earlier) temp ≡ Some (record { bytes = []; micros = puts.0 }) = ap (λ (m : MapOf HeldFile). get m temp) puts.1 ∙ found _ temp _ in
    let old = some_is _ _ (sym write.leads.1 ∙ emptied) in
    let new = some_is _ _ (sym is ∙ ap (λ (m : MapOf HeldFile). get m temp) write.leads.2.1 ∙ found _ temp _) in
    ap (λ (f : HeldFile). f.bytes) new ∙ ap (λ (f : HeldFile). written_at 0 content f.bytes) old

module _ (calls : List TaskCall) (told : called calls ≡ timed true) (runs : IsCallRun empty (steps_of calls)) where
  stamp : EndsWith empty placing (Stamp path 5 true) (files_after empty calls)
  stamp = ends_with empty calls placing (Stamp path 5 true) told runs

  rename : EndsWith empty (MakeTemp path (Ok temp) ∷ WriteAt temp 0 content true ∷ []) (Rename temp path None) (files_after empty stamp.earlier)
  rename = ends_with empty stamp.earlier (MakeTemp path (Ok temp) ∷ WriteAt temp 0 content true ∷ []) (Rename temp path None) stamp.told stamp.runs

  downloaded : get (files_after empty calls) path ≡ Some timed_to
  downloaded =
      let write = ends_with empty rename.earlier (MakeTemp path (Ok temp) ∷ []) (WriteAt temp 0 content true) rename.told rename.runs in
      let same = some_is _ _ (sym stamp.leads.1 ∙ ap (λ (m : MapOf HeldFile). get m path) rename.leads.2 ∙ found _ path _) in
      let bytes_are = ap (λ (f : HeldFile). f.bytes) same ∙ written_is (files_after empty rename.earlier) rename.leads.0 write rename.leads.1 in
      ap (λ (m : MapOf HeldFile). get m path) stamp.leads.2 ∙ found _ path _ ∙ ap (λ (b : List ℕ). Some (timed_with b)) bytes_are

  temp_gone : get (files_after empty calls) temp ≡ None
  temp_gone =
      ap (λ (m : MapOf HeldFile). get m temp) stamp.leads.2 ∙ other _ _ ∙ ap (λ (m : MapOf HeldFile). get m temp) rename.leads.2 ∙ other _ _ ∙ gone _ temp
    where
      other : (m : MapOf HeldFile) (file : HeldFile) → get (insert m path file) temp ≡ get m temp
      other m file = get-insert_other nat_list_cmp_total text_exact m path file temp temp_apart

-- ---- calls that are not told

make_stamps : (p : List ℕ) (m : ℕ) (fine : Bool) → MakeTemp path (Ok temp) ≡ Stamp p m fine → ⊥
make_stamps p m fine e = cc

write_stamps : (p : List ℕ) (m : ℕ) (fine : Bool) → WriteAt temp 0 content true ≡ Stamp p m fine → ⊥
write_stamps p m fine e = cc

rename_stamps : (p : List ℕ) (m : ℕ) (fine : Bool) → Rename temp path None ≡ Stamp p m fine → ⊥
rename_stamps p m fine e = cc

make_renames : (t d : List ℕ) → MakeTemp path (Ok temp) ≡ Rename t d None → ⊥
make_renames t d e = cc

write_renames : (t d : List ℕ) → WriteAt temp 0 content true ≡ Rename t d None → ⊥
write_renames t d e = cc

drop_renames : (t d : List ℕ) → DropTemp temp true ≡ Rename t d None → ⊥
drop_renames t d e = cc

load_by_files : IsByFiles load
load_by_files = record { path = path; is_dest = refl; decided = inl refl; from = λ load. (bucket, key, refl); keeps = λ removal. absurd (removal_downloads (sym removal)) }

removal_by_files : IsByFiles (file_removal temp)
removal_by_files = record { path = temp; is_dest = refl; decided = inr refl; from = λ load. absurd (removal_downloads load); keeps = λ removal. refl }

module _ (Shows : Ask → ℕ → Talk → Class → List ℕ → Type 0) where
  abbrev Told : Shown → List Dispatched → List Dispatched → List TaskCall → Type 0
  Told shown dispatched coming calls = AreToldByCalls Shows shown dispatched coming calls

  -- what the files at the end hold at a path, and what the calls made
  holds : (shown : Shown) (dispatched coming : List Dispatched) (calls : List TaskCall) (p : List ℕ) (a b : Option HeldFile) → Told shown dispatched coming calls
      → get shown.held_after p ≡ a → get (files_after shown.setting.held calls) p ≡ b → a ≡ b
  holds shown dispatched coming calls p a b told at_end made = sym at_end ∙ ap (λ (m : MapOf HeldFile). get m p) told.held_after ∙ made

  untimed : (dispatched coming : List Dispatched) (calls : List TaskCall) → Told (shown_as false placing renamed) dispatched coming calls → ⊥
  untimed dispatched coming calls t =
      let made = made_as placing calls t.told (Rename temp path None) (inr (inr (inl refl))) in
      let of = t.keep.keep.named made.0 made.1 in
      let timed_at = t.keep.keep.stamps 0 (made.0, made.1, (one_task load made.0.task of.0 of.1).0, temp, path, made.2) in
      none_is (λ (k : Call). k ≡ Stamp timed_at.3 timed_at.4 timed_at.5) placing calls t.told
      (make_stamps timed_at.3 timed_at.4 timed_at.5, (write_stamps timed_at.3 timed_at.4 timed_at.5, (rename_stamps timed_at.3 timed_at.4 timed_at.5, tt))) timed_at.0 timed_at.1 timed_at.6

  not_renamed : (dispatched coming : List Dispatched) (calls : List TaskCall) → Told (shown_as false dropping (remove filled temp)) dispatched coming calls → ⊥
  not_renamed dispatched coming calls t =
      let moved = (t.decided 0 load outcome.Done refl refl load_by_files).0 in
      none_is (λ (k : Call). k ≡ Rename moved.3 moved.4 None) dropping calls t.told (make_renames moved.3 moved.4, (write_renames moved.3 moved.4, (drop_renames moved.3 moved.4, tt))) moved.0 moved.1 moved.5

  never_removed : (dispatched coming : List Dispatched) (calls : List TaskCall) → Told (removal [] held) dispatched coming calls → ⊥
  never_removed dispatched coming calls t =
      let removed = (t.decided 0 (file_removal temp) outcome.Done refl refl removal_by_files).0 in
      none_is (λ (k : Call). k ≡ Remove removed.3 true) [] calls t.told tt removed.0 removed.1 removed.4

  refused : FilesAreRefused Shows
  refused = record {
    other_bytes = λ dispatched coming calls t.
        let same = holds (shown_as false (timed true) other_bytes) dispatched coming calls path _ _ t (found renamed path _) (downloaded calls t.told t.keep.runs) in
        other_length (9 ∷ []) written 1 2 refl refl (λ e. omega arith) (ap (λ (f : HeldFile). f.bytes) (some_is _ _ same));
    nothing = λ dispatched coming calls t. none_is_some timed_to (holds (shown_as false (timed true) empty) dispatched coming calls path _ _ t (get-empty (slice_cmp nat_cmp) path) (downloaded calls t.told t.keep.runs));
    untold = λ dispatched coming calls t. not_held stamped _ path (found renamed path _) (t.held_after ∙ ap (λ (cs : List TaskCall). files_after empty cs) (map_none (λ (c : TaskCall). c.step.call) calls t.told));
    untimed = untimed;
    not_renamed = not_renamed;
  }

  unwarned : UnwarnedFilesAreRefused Shows
  unwarned = record {
    temp_again = λ dispatched coming calls t. some_is_none (with_bytes []) (holds (shown_as true (timed true) temp_again) dispatched coming calls temp _ _ t (found stamped temp (with_bytes [])) (temp_gone calls t.told t.keep.runs));
    other_time = λ dispatched coming calls t.
        let same = holds (shown_as true (timed true) other_time) dispatched coming calls path _ _ t (found stamped path _) (downloaded calls t.told t.keep.runs) in
        let times : ◌≡◌ {A = ℕ} 6 5 = ap (λ (f : HeldFile). f.micros) (some_is _ _ same) in omega arith;
    stands = λ dispatched coming calls t.
        let last = ends_with held calls [] (Remove temp true) t.told t.keep.runs in
        some_is_none (with_bytes []) (holds (removal removing held) dispatched coming calls temp _ _ t (found empty temp (with_bytes [])) (ap (λ (m : MapOf HeldFile). get m temp) last.leads ∙ gone _ temp));
    never_removed = never_removed;
  }

pub each_untold_file_is_refused : EachUntoldFileIsRefused
each_untold_file_is_refused page_of = refused (Strange page_of)

pub each_unwarned_file_is_refused : EachUnwarnedFileIsRefused
each_unwarned_file_is_refused page_of = unwarned (Reads page_of)
