-- Downloads: the destination is as before until its temporary file is renamed, and then has the content of its source.
use Rattle.std.proofs.Common.{◌≡◌, ◌∙◌, ◌⊎◌, ◌+◌, ◌≤◌, ◌++◌, ℕ, Bool, true, false, List, [], ◌∷◌, Some, None, Ok, refl, sym, ap, subst, inl, inr, Contains, length, take, drop, slice_get, arith, Option}
use Rattle.std.proofs.lemmas.List.{append-nil}
use Rattle.std.specs.FinMap.{get}
use Rattle.s3_model.specs.declared.answers.Class.{Class}
use Rattle.s3_model.specs.declared.outcomes.Event.{Event}
use Rattle.s3_model.specs.declared.places.Place.TheVariants as place
use Rattle.s3_model.specs.declared.requests.Ask.{Ask}
use Rattle.s3_model.specs.declared.tasks.Kind.TheVariants as kind
use Rattle.s3_model.specs.declared.tasks.Task.{Task}
use Rattle.s3_model.specs.Files.{HeldFile}
use Rattle.s3_model.specs.Maps.{MapOf}
use Rattle.s3_model.specs.Parts.{HasPieces}
use Rattle.s3_model.specs.Talks.{Talk}
use Rattle.s3_service.specs.ServiceState.{State}
use Rattle.job_terms.specs.Dispatches.{Dispatched}
use Rattle.run_promise.specs.Endings.{Excused, HasContent}
use Rattle.run_promise.specs.Schedule.{Setting, is_small}
use Rattle.run_promise.specs.Traces.{Step, states}
use Rattle.run_promise.specs.Runs.{Run}
use Rattle.local_files.specs.Calls.{Call, DropTemp, IsCallRun, IsTempFor, Leads, MakeTemp, Remove, Rename, Stamp, WriteAt}
use Rattle.world_laws.specs.Tasks.{HasSourceObject, IsScheduled, IsTraceOf}
use Rattle.shared_lemmas.proofs.Clashes.{some_is}
use Rattle.shared_lemmas.proofs.Members.{contains_of, Has, has, has-append_left, split_of}
use Rattle.run_promise.specs.FileCalls.{AreWritten, IsBody, IsMade, IsRangeIn, IsRenamed, IsStamped, MayFollow, TaskCall, UsesTemp, files_after, steps_of}
use Rattle.run_promise.specs.FileCalls.{AreCalls}
use Rattle.file_laws.specs.FileLaws.{FileIsDownloaded, FileIsKeptSafe, HasOtherTime, HasStayed}
use Rattle.file_laws.proofs.Effects.{Effect, Spares, arrives, drops, effect, goes, leaves, makes, removes, spoils, stamps, stays, writes}
use Rattle.file_laws.proofs.Files as files
use Rattle.file_laws.proofs.Files.{Free, Kept, Left}
use Rattle.file_laws.proofs.Filling as filling
use Rattle.file_laws.proofs.Requests as requests
use Rattle.file_laws.proofs.Keeping as keeping
use Rattle.file_laws.proofs.Keeping.{has_last, last_cases, only_download_makes, only_download_renames, only_download_stamps, removal_downloads, run_of, same_path, same_task, who_removes}
use Rattle.file_laws.proofs.Ranges.{AreSound, are_sound, last_range, range_one}
use Rattle.file_laws.proofs.Runs.{leads_at, through}

stamp_renames : (p temp dest : List ℕ) (micros : ℕ) → Stamp p micros true ≡ Rename temp dest None → ⊥
stamp_renames p temp dest micros e = cc

rename_stamps : (p temp dest : List ℕ) (micros : ℕ) → Rename temp dest None ≡ Stamp p micros true → ⊥
rename_stamps p temp dest micros e = cc

module _ (Shows : Ask → ℕ → Talk → Class → List ℕ → Type 0) (s : Setting) (excused : Excused) (dispatched coming : List Dispatched) (calls : List TaskCall) (a : AreCalls Shows (run_of s excused dispatched coming calls)) where
  -- a temporary file stands at no download's destination
  temp_free : (c : TaskCall) → Contains calls c → (dest p : List ℕ) → c.step.call ≡ MakeTemp dest (Ok p)
      → (m : ℕ) (other : Task) → slice_get s.tasks m ≡ Some other → other.kind ≡ kind.Download → other.dest ≡ place.File p → ⊥
  temp_free c known dest p e m other is load there = differs (same_path dest p (sym makes.1 ∙ ap (λ (t : Task). t.dest) (sym alike) ∙ there))
    where
      split : (front : List TaskCall) × (back : List TaskCall) × (calls ≡ front ++ c ∷ back)
      split = let found = split_of calls c (has calls c known) in (found.front, found.back, found.is)

      temp : IsTempFor dest p
      temp =
          let leads = leads_at split.0 c split.1 s.held (subst (λ (all : List TaskCall). IsCallRun s.held (steps_of all)) split.2 a.runs) in
          (subst (λ (x : Call). Leads x (files_after s.held split.0) c.step.held) e leads).0

      differs : dest ≡ p → ⊥
      differs same = temp.0 (sym same)

      own : keeping.Named Shows s excused dispatched coming calls a c (MakeTemp dest (Ok p))
      own = keeping.named Shows s excused dispatched coming calls a c (MakeTemp dest (Ok p)) known e

      makes : (own.task.kind ≡ kind.Download) × (own.task.dest ≡ place.File dest)
      makes = only_download_makes own.task own.task.kind dest (Ok p) own.is_call

      alike : other ≡ own.task
      alike = same_task other own.task (sym is ∙ ap (slice_get s.tasks) (a.apart.names m c.task other own.task p (is, there) own.is_task load makes.0 temp.2) ∙ own.is_task)

  module _ (n : ℕ) (task : Task) (path : List ℕ) (is_task : slice_get s.tasks n ≡ Some task) (load : task.kind ≡ kind.Download) (is_dest : task.dest ≡ place.File path) where
    abbrev Renamed : List TaskCall → Type 0
    Renamed front = (c : TaskCall) × Has front c × (c.task ≡ n) × (temp : List ℕ) × (dest : List ℕ) × (c.step.call ≡ Rename temp dest None)

    abbrev Stamped : List TaskCall → Type 0
    Stamped front = (c : TaskCall) × Has front c × (c.task ≡ n) × (at : List ℕ) × (micros : ℕ) × (c.step.call ≡ Stamp at micros true)

    to_has : (front : List TaskCall) → IsRenamed front n → Renamed front
    to_has front r = (r.0, has front r.0 r.1, r.2, r.3, r.4, r.5)

    to_contains : (front : List TaskCall) → Renamed front → IsRenamed front n
    to_contains front r = (r.0, contains_of front r.0 r.1, r.2, r.3, r.4, r.5)

    module _ (front : List TaskCall) (c : TaskCall) (back : List TaskCall) (is : calls ≡ front ++ c ∷ back) where
      abbrev longer : List TaskCall
      longer = front ++ c ∷ []

      known : Contains calls c
      known = keeping.within Shows s excused dispatched coming calls a front c back is

      renamed_on : Renamed front → Renamed longer
      renamed_on r = (r.0, has-append_left front (c ∷ []) r.0 r.1, r.2, r.3, r.4, r.5)

      -- who replaces the destination or sets its time is its task
      own_rename : (temp dest : List ℕ) → c.step.call ≡ Rename temp dest None → dest ≡ path → c.task ≡ n
      own_rename temp dest e same =
          let own = keeping.named Shows s excused dispatched coming calls a c (Rename temp dest None) known e in
          let renames = only_download_renames own.task own.task.kind temp dest None own.is_call in
          a.apart.destinations c.task n own.task task path (own.is_task, renames.1 ∙ ap place.File same) (is_task, is_dest)

      renames_own : (temp dest : List ℕ) → c.task ≡ n → c.step.call ≡ Rename temp dest None → dest ≡ path
      renames_own temp dest same e =
          let own = keeping.named Shows s excused dispatched coming calls a c (Rename temp dest None) known e in
          let alike = same_task own.task task (sym own.is_task ∙ ap (slice_get s.tasks) same ∙ is_task) in
          same_path dest path (sym (only_download_renames own.task own.task.kind temp dest None own.is_call).1 ∙ ap (λ (t : Task). t.dest) alike ∙ is_dest)

      stamps_own : (at : List ℕ) (micros : ℕ) → c.task ≡ n → c.step.call ≡ Stamp at micros true → (at ≡ path) × (micros ≡ task.micros)
      stamps_own at micros same e =
          let own = keeping.named Shows s excused dispatched coming calls a c (Stamp at micros true) known e in
          let alike = same_task own.task task (sym own.is_task ∙ ap (slice_get s.tasks) same ∙ is_task) in
          let is_stamp = only_download_stamps own.task own.task.kind at micros true own.is_call in
          (same_path at path (sym is_stamp.1 ∙ ap (λ (t : Task). t.dest) alike ∙ is_dest), is_stamp.2 ∙ ap (λ (t : Task). t.micros) alike)

      own_stamp : (micros : ℕ) → c.step.call ≡ Stamp path micros true → c.task ≡ n
      own_stamp micros e =
          let own = keeping.named Shows s excused dispatched coming calls a c (Stamp path micros true) known e in
          a.apart.destinations c.task n own.task task path (own.is_task, (only_download_stamps own.task own.task.kind path micros true own.is_call).1) (is_task, is_dest)

      no_make : (dest : List ℕ) → c.step.call ≡ MakeTemp dest (Ok path) → ⊥
      no_make dest e = temp_free c known dest path e n task is_task load is_dest

      no_use : UsesTemp c.step.call path → ⊥
      no_use uses =
          let made = a.keep.made front c path (back, is) uses in
          temp_free made.0 (keeping.within_front Shows s excused dispatched coming calls a front c back made.0 is (has front made.0 made.1)) made.3 path made.4 n task is_task load is_dest

      uses_none : (call : Call) → c.step.call ≡ call → UsesTemp call path → ⊥
      uses_none call e uses = no_use (subst (λ (x : Call). UsesTemp x path) (sym e) uses)

      no_removal : c.step.call ≡ Remove path true → ⊥
      no_removal e =
          let own = keeping.named Shows s excused dispatched coming calls a c (Remove path true) known e in
          elim (who_removes own.task own.task.kind path true own.is_call) [
            | inr upload ↦ a.apart.sources c.task n own.task task path (own.is_task, upload.1, upload.2) (is_task, is_dest)
            | inl removal ↦
                let one = a.apart.destinations c.task n own.task task path (own.is_task, removal.1) (is_task, is_dest) in
                let alike = same_task own.task task (sym own.is_task ∙ ap (slice_get s.tasks) one ∙ is_task) in
                removal_downloads (sym removal.0 ∙ ap (λ (t : Task). t.kind) alike ∙ load)
          ]

      renamed_before_stamp : (micros : ℕ) → c.step.call ≡ Stamp path micros true → Renamed front
      renamed_before_stamp micros e =
          let r = a.keep.stamps_last front c path micros true (back, is) e in
          (r.0, has front r.0 r.1, r.2 ∙ own_stamp micros e, r.3, r.4, r.5)

      -- ---- until it is renamed

      old_step : (old new : MapOf HeldFile) → ((Renamed front → ⊥) → get old path ≡ get s.held path) → Effect path c.step.call old new → (Renamed longer → ⊥) → get new path ≡ get s.held path
      old_step old new before (stays spares f) none = f ∙ before (λ r. none (renamed_on r))
      old_step old new before (makes dest e temp absent micros f) none = absurd (no_make dest e)
      old_step old new before (writes at bytes e file was micros f) none = absurd (uses_none (WriteAt path at bytes true) e refl)
      old_step old new before (spoils at bytes e f) none = absurd (uses_none (WriteAt path at bytes false) e refl)
      old_step old new before (goes dest e other f) none = absurd (uses_none (Rename path dest None) e refl)
      old_step old new before (arrives temp e file was f) none = absurd (none (c, has_last front c, own_rename temp path e refl, temp, path, e))
      old_step old new before (drops e f) none = absurd (uses_none (DropTemp path true) e refl)
      old_step old new before (leaves e f) none = absurd (uses_none (DropTemp path false) e refl)
      old_step old new before (removes e f) none = absurd (no_removal e)
      old_step old new before (stamps micros e file was f) none = absurd (none (renamed_on (renamed_before_stamp micros e)))

    pub old_until : (part late : List TaskCall) → calls ≡ part ++ late → ¬ (IsRenamed part n) → get (files_after s.held part) path ≡ get s.held path
    old_until part late is none = through s.held calls (λ front now. (Renamed front → ⊥) → get now path ≡ get s.held path)
        (λ front c back split before. old_step front c back split (files_after s.held front) c.step.held before
        (effect path c.step.call (files_after s.held front) c.step.held (leads_at front c back s.held (subst (λ (all : List TaskCall). IsCallRun s.held (steps_of all)) split a.runs))))
        (λ free. refl) part late is (λ r. none (to_contains part r))

    -- ---- from then on

    -- what holds of the bytes of the file that is renamed holds of the destination from then on
    module _ (IsContent : List ℕ → Type 0)
        (whole : (front : List TaskCall) (c : TaskCall) (back : List TaskCall) → calls ≡ front ++ c ∷ back → c.task ≡ n → (temp : List ℕ) → c.step.call ≡ Rename temp path None
        → (file : HeldFile) → get (files_after s.held front) temp ≡ Some file → IsContent file.bytes) where
      record IsWhole (front : List TaskCall) (now : MapOf HeldFile) : Type 0 where
        file : HeldFile
        there : get now path ≡ Some file
        content : IsContent file.bytes
        timed : Stamped front → file.micros ≡ task.micros

      module _ (front : List TaskCall) (c : TaskCall) (back : List TaskCall) (is : calls ≡ front ++ c ∷ back) (new : MapOf HeldFile) where
        abbrev old : MapOf HeldFile
        old = files_after s.held front

        stamped_cases : Stamped (front ++ c ∷ []) → Stamped front ⊎ ((c.task ≡ n) × (at : List ℕ) × (micros : ℕ) × (c.step.call ≡ Stamp at micros true))
        stamped_cases st = elim (last_cases front c st.0 st.1) [
          | inl before ↦ inl (st.0, before, st.2, st.3, st.4, st.5)
          | inr here ↦ inr (ap (λ (x : TaskCall). x.task) here ∙ st.2, st.3, st.4, ap (λ (x : TaskCall). x.step.call) here ∙ st.5)
        ]

        renamed_cases : Renamed (front ++ c ∷ []) → Renamed front ⊎ ((c.task ≡ n) × (temp : List ℕ) × (dest : List ℕ) × (c.step.call ≡ Rename temp dest None))
        renamed_cases re = elim (last_cases front c re.0 re.1) [
          | inl before ↦ inl (re.0, before, re.2, re.3, re.4, re.5)
          | inr here ↦ inr (ap (λ (x : TaskCall). x.task) here ∙ re.2, re.3, re.4, ap (λ (x : TaskCall). x.step.call) here ∙ re.5)
        ]

        new_step : (Renamed front → IsWhole front old) → Effect path c.step.call old new → Renamed (front ++ c ∷ []) → IsWhole (front ++ c ∷ []) new
        new_step before (stays spares f) re = elim (renamed_cases re) [
          | inl earlier ↦
              let was = before earlier in
              record {
                file = was.file;
                there = f ∙ was.there;
                content = was.content;
                timed = λ st. elim (stamped_cases st) [
                  | inl first ↦ was.timed first
                  | inr here ↦ absurd (subst (λ (x : Call). Spares path x) here.3 spares (stamps_own front c back is here.1 here.2 here.0 here.3).0)
                ];
              }
          | inr here ↦ absurd ((subst (λ (x : Call). Spares path x) here.3 spares).1 (renames_own front c back is here.1 here.2 here.0 here.3))
        ]
        new_step before (makes dest e temp absent micros f) re = absurd (no_make front c back is dest e)
        new_step before (writes at bytes e file was micros f) re = absurd (uses_none front c back is (WriteAt path at bytes true) e refl)
        new_step before (spoils at bytes e f) re = absurd (uses_none front c back is (WriteAt path at bytes false) e refl)
        new_step before (goes dest e other f) re = absurd (uses_none front c back is (Rename path dest None) e refl)
        new_step before (arrives temp e file was f) re = record { file = file; there = f; content = whole front c back is own temp e file was; timed = never }
          where
            own : c.task ≡ n
            own = own_rename front c back is temp path e refl

            never : Stamped (front ++ c ∷ []) → file.micros ≡ task.micros
            never st = elim (stamped_cases st) [
              | inr here ↦ absurd (rename_stamps here.1 temp path here.2 (sym e ∙ here.3))
              | inl first ↦ absurd (subst (λ (x : Call). MayFollow x (Rename temp path None)) first.5
                  (subst (λ (x : Call). MayFollow first.0.step.call x) e (keeping.follows Shows s excused dispatched coming calls a front c back first.0 is first.1 (first.2 ∙ sym own))))
            ]
        new_step before (drops e f) re = absurd (uses_none front c back is (DropTemp path true) e refl)
        new_step before (leaves e f) re = absurd (uses_none front c back is (DropTemp path false) e refl)
        new_step before (removes e f) re = absurd (no_removal front c back is e)
        new_step before (stamps micros e file found f) re =
            let was = before (renamed_before_stamp front c back is micros e) in
            let same : was.file ≡ file = some_is was.file file (sym was.there ∙ found) in
            record {
              file = record file { micros = micros };
              there = f;
              content = subst IsContent (ap (λ (x : HeldFile). x.bytes) same) was.content;
              timed = λ st. (stamps_own front c back is path micros (own_stamp front c back is micros e) e).1;
            }

      whole_after : (part late : List TaskCall) → calls ≡ part ++ late → Renamed part → IsWhole part (files_after s.held part)
      whole_after part late is = through s.held calls (λ front now. Renamed front → IsWhole front now)
          (λ front c back split before. new_step front c back split c.step.held before
          (effect path c.step.call (files_after s.held front) c.step.held (leads_at front c back s.held (subst (λ (all : List TaskCall). IsCallRun s.held (steps_of all)) split a.runs))))
          (λ re. absurd re.1) part late is

    -- its time was set, or this failed
    pub timed_in_the_end : IsRenamed calls n → (file : HeldFile) × (get (files_after s.held calls) path ≡ Some file) × ((file.micros ≡ task.micros) ⊎ HasOtherTime (run_of s excused dispatched coming calls) path)
    timed_in_the_end re = (w.file, w.there, by st.5 st.6)
      where
        w : IsWhole (λ (bytes : List ℕ). Unit {0}) (λ front c back is own temp e file there. tt) calls (files_after s.held calls)
        w = whole_after (λ (bytes : List ℕ). Unit {0}) (λ front c back is own temp e file there. tt) calls [] (sym (append-nil calls)) (to_has calls re)

        st : IsStamped calls n
        st = a.keep.stamps n re

        by : (fine : Bool) → st.0.step.call ≡ Stamp st.3 st.4 fine → (w.file.micros ≡ task.micros) ⊎ HasOtherTime (run_of s excused dispatched coming calls) path
        by true e = inl (w.timed (st.0, has calls st.0 st.1, st.2, st.3, st.4, e))
        by false e =
            let own = keeping.named Shows s excused dispatched coming calls a st.0 (Stamp st.3 st.4 false) st.1 e in
            let alike = same_task own.task task (sym own.is_task ∙ ap (slice_get s.tasks) st.2 ∙ is_task) in
            let at = same_path st.3 path (sym (only_download_stamps own.task own.task.kind st.3 st.4 false own.is_call).1 ∙ ap (λ (t : Task). t.dest) alike ∙ is_dest) in
            inr (subst (λ (q : List ℕ). HasOtherTime (run_of s excused dispatched coming calls) q) at ((st.0, st.1, st.4, e), a.keep.untimed st.0 st.3 st.4 st.1 e))

    module _ {page : Option ℕ} (start : State) (trace : List Step) (journal : List Event) (r : IsScheduled Shows s journal dispatched coming) (traced : IsTraceOf Shows s (record { start = start; trace = trace; journal = journal; dispatched = dispatched; refused_page = page }))
        (source : HasSourceObject (states start trace) task) where
      abbrev IsContent : List ℕ → Type 0
      IsContent all = HasContent s.held (states start trace) task.etag task.source all

      -- a range of the whole with the write that brought it
      record Brought (temp all : List ℕ) (at long : ℕ) : Type 0 where
        w : TaskCall
        bytes : List ℕ
        known : Contains calls w
        of : w.task ≡ n
        is_write : w.step.call ≡ WriteAt temp at bytes true
        long_is : length bytes ≡ long
        fits : at + length bytes ≤ length all
        stands : take (length bytes) (drop at all) ≡ bytes

      -- what is renamed is whole
      renamed_whole : (front : List TaskCall) (c : TaskCall) (back : List TaskCall) → calls ≡ front ++ c ∷ back → c.task ≡ n → (temp : List ℕ) → c.step.call ≡ Rename temp path None
          → (file : HeldFile) → get (files_after s.held front) temp ≡ Some file → IsContent file.bytes
      renamed_whole front c back is own temp e file there =
          requests.has_content Shows s journal dispatched coming r start trace traced n task is_task load source all_written.piece all_written.count pieces file.bytes sized bodies
        where
          at_own : slice_get s.tasks c.task ≡ Some task
          at_own = ap (slice_get s.tasks) own ∙ is_task

          all_written : AreWritten s front c.task task temp
          all_written = a.keep.renames front c task temp path None (back, is) at_own e

          pieces : HasPieces s.config s.limits task.kind task.size all_written.piece all_written.count
          pieces = all_written.pieces

          sound : AreSound (is_small s task) task.size all_written.piece all_written.count
          sound = are_sound s task all_written.piece all_written.count r.threshold r.limits load pieces

          made : IsMade front c.task temp
          made = a.keep.made front c temp (back, is) (subst (λ (x : Call). UsesTemp x temp) (sym e) refl)

          free : (m : ℕ) (other : Task) → slice_get s.tasks m ≡ Some other → other.kind ≡ kind.Download → other.dest ≡ place.File temp → ⊥
          free = temp_free made.0 (keeping.within_front Shows s excused dispatched coming calls a front c back made.0 is (has front made.0 made.1)) made.3 temp made.4

          full : filling.IsFilled Shows s excused dispatched coming calls a n task is_task temp path free all_written.piece all_written.count pieces sound front (files_after s.held front)
          full = filling.filled Shows s excused dispatched coming calls a n task is_task temp path free all_written.piece all_written.count pieces sound front (c ∷ back) is
              (made.0, has front made.0 made.1, made.2 ∙ own, made.3, made.4)
              (λ x h of. subst (λ (y : Call). MayFollow x.step.call y) e (keeping.follows Shows s excused dispatched coming calls a front c back x is h (of ∙ sym own)))

          same : full.file.bytes ≡ file.bytes
          same = ap (λ (x : HeldFile). x.bytes) (some_is full.file file (sym full.there ∙ there))

          brought : (number at long : ℕ) → IsRangeIn (is_small s task) task.size all_written.piece all_written.count number at long → Brought temp file.bytes at long
          brought number at long range =
              let found = all_written.each number at long range in
              let in_front = has front found.0 found.1 in
              let known = keeping.within_front Shows s excused dispatched coming calls a front c back found.0 is in_front in
              let of : found.0.task ≡ n = found.2 ∙ own in
              let holds = full.holds found.0 at found.3 in_front of found.4 in
              let ranged = filling.write_range Shows s excused dispatched coming calls a n task is_task temp path free all_written.piece all_written.count pieces sound found.0 temp at found.3 true known of found.4 in
              record {
                w = found.0;
                bytes = found.3;
                known = known;
                of = of;
                is_write = found.4;
                long_is = (range_one (is_small s task) task.size all_written.piece all_written.count ranged.0 at (length found.3) number long sound ranged.1 range).1;
                fits = subst (λ (xs : List ℕ). at + length found.3 ≤ length xs) same holds.0;
                stands = subst (λ (xs : List ℕ). take (length found.3) (drop at xs) ≡ found.3) same holds.1;
              }

          sized : length file.bytes ≡ task.size
          sized =
              let last = last_range (is_small s task) task.size all_written.piece all_written.count sound in
              let b = brought last.0 last.1 last.2 last.3 in
              let inside : length file.bytes ≤ task.size = subst (λ (xs : List ℕ). length xs ≤ task.size) same full.inside in
              let ends = last.4 in
              let long_is = b.long_is in
              let fits = b.fits in
              omega arith

          bodies : requests.AreBodies Shows s journal dispatched coming r start trace traced n task is_task load source all_written.piece all_written.count pieces file.bytes
          bodies number at long range =
              let b = brought number at long range in
              let body = a.keep.writes b.w task temp at b.bytes true b.known (ap (slice_get s.tasks) b.of ∙ is_task) b.is_write in
              let bytes_is : b.bytes ≡ take long (drop at file.bytes) = sym b.stands ∙ ap (λ (k : ℕ). take k (drop at file.bytes)) b.long_is in (
                b.w.events_before,
                subst (λ (xs : List ℕ). IsBody Shows s dispatched n task b.w.events_before at xs) bytes_is (subst (λ (m : ℕ). IsBody Shows s dispatched m task b.w.events_before at b.bytes) b.of body),
              )

      pub new_from : (part late : List TaskCall) → calls ≡ part ++ late → IsRenamed part n → (file : HeldFile) × (get (files_after s.held part) path ≡ Some file) × IsContent file.bytes
      new_from part late is re = let w = whole_after IsContent renamed_whole part late is (to_has part re) in (w.file, w.there, w.content)

    -- ---- temporary files

    unopened : (c : TaskCall) (at : ℕ) (bytes : List ℕ) (fine : Bool) → Contains calls c → c.step.call ≡ WriteAt path at bytes fine → ⊥
    unopened c at bytes fine known e = let split = split_of calls c (has calls c known) in uses_none split.front c split.back split.is (WriteAt path at bytes fine) e refl

    tidy : (temp : List ℕ) → IsMade calls n temp → (get (files_after s.held calls) temp ≡ None) ⊎ HasStayed (run_of s excused dispatched coming calls) temp
    tidy temp made = by (files.end Shows s excused dispatched coming calls a temp free)
      where
        free : (m : ℕ) (other : Task) → slice_get s.tasks m ≡ Some other → other.kind ≡ kind.Download → other.dest ≡ place.File temp → ⊥
        free = temp_free made.0 made.1 made.3 temp made.4

        by : files.End Shows s excused dispatched coming calls a temp free → (get (files_after s.held calls) temp ≡ None) ⊎ HasStayed (run_of s excused dispatched coming calls) temp
        by (Kept e none kept) = absurd (none n (made.0, has calls made.0 made.1, made.2, made.3, made.4))
        by (Free e freed) = inl e
        by (Left excuse m other freed) = inr excuse

-- a trace of a run is one of the run with the same dispatched requests
pub traced_as : (Shows : Ask → ℕ → Talk → Class → List ℕ → Type 0) (s : Setting) (over : Run) (dispatched : List Dispatched) → over.dispatched ≡ dispatched → IsTraceOf Shows s over
    → IsTraceOf Shows s (record { start = over.start; trace = over.trace; journal = over.journal; dispatched = dispatched; refused_page = over.refused_page })
traced_as Shows s over dispatched same traced =
    subst (λ (all : List Dispatched). IsTraceOf Shows s (record { start = over.start; trace = over.trace; journal = over.journal; dispatched = all; refused_page = over.refused_page })) same traced

module _ (Shows : Ask → ℕ → Talk → Class → List ℕ → Type 0) where
  pub file_is_kept_safe : FileIsKeptSafe Shows
  file_is_kept_safe run a n task path to load = record {
    old = old_until Shows run.setting run.excused run.dispatched run.coming run.calls a n task path to.0 load to.1;
    timed = timed_in_the_end Shows run.setting run.excused run.dispatched run.coming run.calls a n task path to.0 load to.1;
    unopened = unopened Shows run.setting run.excused run.dispatched run.coming run.calls a n task path to.0 load to.1;
    tidy = tidy Shows run.setting run.excused run.dispatched run.coming run.calls a n task path to.0 load to.1;
  }

  pub file_is_downloaded : FileIsDownloaded Shows
  file_is_downloaded run over same a r traced n task path to load source =
      new_from Shows run.setting run.excused run.dispatched run.coming run.calls a n task path to.0 load to.1 over.start over.trace over.journal r
      (traced_as Shows run.setting over run.dispatched same traced) source
