-- Calls on files with one thing changed.
use Rattle.std.proofs.Common.{◌≡◌, ◌∙◌, ◌+◌, ◌++◌, ◌≤◌, ℕ, Bool, true, false, List, [], ◌∷◌, Some, None, Ok, refl, sym, ap, subst, inl, inr, map, arith}
use Rattle.s3_model.specs.declared.answers.Listed.{Listed}
use Rattle.s3_model.specs.declared.outcomes.JobId.{JobId}
use Rattle.s3_model.specs.declared.requests.Ask.{Ask}
use Rattle.s3_model.specs.declared.requests.Op.TheVariants as op
use Rattle.s3_model.specs.declared.tasks.Task.{Task}
use Rattle.s3_model.specs.declared.tries.Mark.{Mark}
use Rattle.s3_model.specs.declared.tries.Mark.TheVariants as mark
use Rattle.s3_model.specs.Talks.{Talk}
use Rattle.job_terms.specs.Dispatches.{Dispatch, Dispatched, dispatches}
use Rattle.job_terms.specs.Jobs.{job_of}
use Rattle.local_files.specs.Calls.{Call, DropTemp, MakeTemp, Remove, Rename, Stamp, WriteAt}
use Rattle.run_promise.specs.Dispatches.{IsCut}
use Rattle.run_promise.specs.FileCalls.{IsCallFor, TaskCall}
use Rattle.run_promise.specs.Schedule.{IsBefore}
use Rattle.shared_lemmas.proofs.Clashes.{false_true as never, none_is_some, some_is}
use Rattle.shared_lemmas.proofs.Lists.{head_is}
use Rattle.file_laws.proofs.Keeping.{same_path}
use Rattle.promise_examples.specs.BothKinds.{drops_second, first_load, first_path, first_talk, first_temp, get_job, makes_first, makes_second, put_job, put_talk, removes, renames_first, second_path, second_talk, second_temp, shown, source_path, stamps_first, upload, writes_first}
use Rattle.promise_examples.specs.Reading.{Reads}
use Rattle.promise_examples.proofs.BothKinds.{both_kinds_are_met}
use Rattle.promise_examples.proofs.Concrete.{at, each, has}
use Rattle.promise_examples.proofs.Readings.{refusal_success}
use Rattle.promise_examples.proofs.Scheduling.{other_op}
use Rattle.promise_examples.proofs.Shown.{made, of_shown}
use Rattle.rare_runs.specs.FileNeighbours.{AreRefused, CallsAreRefused, FileCallsAreMet, FileCallsAreRefused, Keep, begun, ending, given_up, made_elsewhere, made_late, not_stamped, of_no_task, other_time, placed, removes_source, renamed_early, stamped_unrenamed, written_early, written_refused}

pub file_calls_are_met : FileCallsAreMet
file_calls_are_met page_of =
    let run = both_kinds_are_met page_of in
    record { jobs = run.dispatched; are_given = run.carried_out.over_wires.carried.shown; keep = run.carried_out.over_files.keep.keep }

-- ---- what clashes

abbrev call_number : Call → ℕ
call_number (MakeTemp dest answer) = 0
call_number (WriteAt temp at bytes fine) = 1
call_number (Rename temp dest fault) = 2
call_number (DropTemp temp fine) = 3
call_number (Remove path fine) = 4
call_number (Stamp path micros fine) = 5

-- two calls of other kinds
other_call : (a b : Call) → (call_number a ≡ call_number b → ⊥) → a ≡ b → ⊥
other_call a b apart e = apart (ap call_number e)

abbrev is_fine : Call → Bool
is_fine (Stamp path micros fine) = fine
is_fine call = true

abbrev temp_of : Call → List ℕ
temp_of (DropTemp temp fine) = temp
temp_of call = []

not_empty : (c : TaskCall) (cs : List TaskCall) → c ∷ cs ≡ [] → ⊥
not_empty c cs e = cc

removing : (task : Task) → Some upload ≡ Some task → IsCallFor task task.kind (Remove source_path true) → ⊥
removing task is call = never (subst (λ (t : Task). IsCallFor t t.kind (Remove source_path true)) (sym (some_is upload task is)) call).0

elsewhere : (task : Task) → Some first_load ≡ Some task → IsCallFor task task.kind (MakeTemp second_path (Ok first_temp)) → ⊥
elsewhere task is call =
    let same = subst (λ (t : Task). IsCallFor t t.kind (MakeTemp second_path (Ok first_temp))) (sym (some_is first_load task is)) call in
    let byte : ◌≡◌ {A = ℕ} 107 108 = head_is 107 108 [] [] (same_path first_path second_path same) in
    omega arith

timing : (task : Task) → Some first_load ≡ Some task → IsCallFor task task.kind (Stamp first_path 6 true) → ⊥
timing task is call =
    let same : ◌≡◌ {A = ℕ} 6 5 = (subst (λ (t : Task). IsCallFor t t.kind (Stamp first_path 6 true)) (sym (some_is first_load task is)) call).1 in
    omega arith

-- ---- the jobs

abbrev given : JobId → ℕ → Mark → Talk → Dispatch
given job place of_mark talk = record {
  job = job;
  lane = 0;
  given_at = place;
  came_at = Some (place + 1);
  earlier = 0;
  is_second = false;
  attempts = record { mark = of_mark; talk = talk } ∷ [];
}

abbrev put_given : Dispatch
put_given = given put_job 0 mark.Success put_talk

abbrev first_given : Dispatch
first_given = given (get_job 1) 2 mark.Success first_talk

abbrev second_given : Dispatch
second_given = given (get_job 2) 4 mark.Refusal second_talk

are_given : dispatches shown.journal shown.logs ≡ put_given ∷ first_given ∷ second_given ∷ []
are_given = refl

-- whatever each of them asks
abbrev jobs : (a b c : Ask) (p q r : List ℕ) (i j k l m n : ℕ) → List Dispatched
jobs a b c p q r i j k l m n = made put_given a p i l ∷ made first_given b q j m ∷ made second_given c r k n ∷ []

-- the refused Get is not cut: it used its one attempt, and is not given again
not_cut : (page_of : List ℕ → Listed) (c : Ask) (r : List ℕ) (k n : ℕ) (Stopped : Type 0) → IsCut (Reads page_of) 1 (made second_given c r k n) [] Stopped → ⊥
not_cut page_of c r k n Stopped (inl again) = has [] again.0 again.1
not_cut page_of c r k n Stopped (inr cut) = let left = cut.3.4 in absurd (omega arith)

module _ (page_of : List ℕ → Listed) where
  abbrev Keeps : List TaskCall → List Dispatched → List Dispatched → Type 0
  Keeps = Keep page_of shown.setting shown.excused

  -- ---- the temporary file is made late

  abbrev with_late : List TaskCall
  with_late = removes ∷ made_late ∷ writes_first ∷ placed ++ given_up

  late_is_refused : AreRefused page_of with_late
  late_is_refused dispatched coming told = of_shown (put_given ∷ first_given ∷ second_given ∷ []) (λ (ds : List Dispatched). Keeps with_late ds coming → ⊥) by dispatched (told ∙ are_given)
    where
      by : (a : Ask) (p : List ℕ) (i l : ℕ) (b : Ask) (q : List ℕ) (j m : ℕ) (c : Ask) (r : List ℕ) (k n : ℕ) → Keeps with_late (jobs a b c p q r i j k l m n) coming → ⊥
      by a p i l b q j m c r k n keep =
          let first = made first_given b q j m in
          let make = keep.made_first first 1 0 (at (jobs a b c p q r i j k l m n) 1 first refl) refl in
          each (λ (x : TaskCall). x.task ≡ 1 → x.events_before ≤ 2 → ⊥) with_late (
            (λ of early. omega arith),
            ((λ of early. omega arith), ((λ of early. omega arith), ((λ of early. omega arith), ((λ of early. omega arith), ((λ of early. omega arith), ((λ of early. omega arith), tt)))))),
          ) make.0 make.1 make.2 make.6

  -- ---- it is written before its Get came

  abbrev with_early : List TaskCall
  with_early = removes ∷ makes_first ∷ written_early ∷ placed ++ given_up

  early_is_refused : AreRefused page_of with_early
  early_is_refused dispatched coming told = of_shown (put_given ∷ first_given ∷ second_given ∷ []) (λ (ds : List Dispatched). Keeps with_early ds coming → ⊥) by dispatched (told ∙ are_given)
    where
      by : (a : Ask) (p : List ℕ) (i l : ℕ) (b : Ask) (q : List ℕ) (j m : ℕ) (c : Ask) (r : List ℕ) (k n : ℕ)
          → Keeps with_early (jobs a b c p q r i j k l m n) coming → ⊥
      by a p i l b q j m c r k n keep =
          let body = keep.writes written_early first_load first_temp 0 (7 ∷ 8 ∷ []) true (at with_early 2 written_early refl) refl refl in
          each (λ (d : Dispatched). d.dispatch.job ≡ job_of 1 op.Get body.number → IsBefore d.dispatch.came_at 3 → ⊥) (jobs a b c p q r i j k l m n) (
            (λ same early. other_op op.Put op.Get refl (ap (λ (job : JobId). job.op) same)),
            ((λ same early. omega arith), ((λ same early. omega arith), tt)),
          ) body.get body.known body.is_get body.came

  -- ---- it is written after its Get was refused

  abbrev with_refused : List TaskCall
  with_refused = begun ++ placed ++ makes_second ∷ written_refused ∷ drops_second ∷ []

  refused_is_refused : (dispatched : List Dispatched) → map (λ (c : Dispatched). c.dispatch) dispatched ≡ dispatches shown.journal shown.logs → Keeps with_refused dispatched dispatched → ⊥
  refused_is_refused dispatched told = of_shown (put_given ∷ first_given ∷ second_given ∷ []) (λ (ds : List Dispatched). Keeps with_refused ds ds → ⊥) by dispatched (told ∙ are_given)
    where
      by : (a : Ask) (p : List ℕ) (i l : ℕ) (b : Ask) (q : List ℕ) (j m : ℕ) (c : Ask) (r : List ℕ) (k n : ℕ) → Keeps with_refused (jobs a b c p q r i j k l m n) (jobs a b c p q r i j k l m n) → ⊥
      by a p i l b q j m c r k n keep =
          let second = made second_given c r k n in
          keep.stops written_refused (at with_refused 6 written_refused refl)
          (inr (second, (made put_given a p i l ∷ made first_given b q j m ∷ [], [], refl, (λ cut. not_cut page_of c r k n _ cut), λ done. refusal_success done.0), refl, omega arith))

  -- ---- each neighbour

  abbrev all : List TaskCall
  all = begun ++ placed ++ given_up

  refused : CallsAreRefused page_of
  refused = record {
    removes_source = λ dispatched coming told keep. let n = keep.named removes_source (at (ending removes_source) 7 removes_source refl) in removing n.0 n.1 n.2;
    of_no_task = λ dispatched coming told keep. let n = keep.named of_no_task (at (ending of_no_task) 7 of_no_task refl) in none_is_some n.0 n.1;
    made_elsewhere = λ dispatched coming told keep.
        let n = keep.named made_elsewhere (at (removes ∷ made_elsewhere ∷ writes_first ∷ placed ++ given_up) 1 made_elsewhere refl) in elsewhere n.0 n.1 n.2;
    other_time = λ dispatched coming told keep.
        let n = keep.named other_time (at (begun ++ renames_first ∷ other_time ∷ given_up) 4 other_time refl) in timing n.0 n.1 n.2;
    out_of_order = λ dispatched coming told keep. let late : 2 ≤ 0 = keep.in_order 0 6 removes (omega arith) (omega arith) in omega arith;
    dry = λ dispatched coming told keep. not_empty removes _ (keep.dry refl);
    written_twice = λ dispatched coming told keep. keep.order begun writes_first writes_first (placed ++ given_up, refl) (at begun 2 writes_first refl) refl refl;
    renamed_twice = λ dispatched coming told keep.
        keep.order (begun ++ renames_first ∷ []) renames_first renames_first (stamps_first ∷ given_up, refl) (at (begun ++ renames_first ∷ []) 3 renames_first refl) refl;
    written_late = λ dispatched coming told keep.
        keep.order (removes ∷ makes_first ∷ renames_first ∷ []) renames_first writes_first (stamps_first ∷ given_up, refl) (at (removes ∷ makes_first ∷ renames_first ∷ []) 2 renames_first refl) refl;
    made_twice = λ dispatched coming told keep.
        keep.order (removes ∷ makes_first ∷ []) makes_first makes_first (writes_first ∷ placed ++ given_up, refl) (at (removes ∷ makes_first ∷ []) 1 makes_first refl) refl;
    cancelled = λ dispatched coming told keep. keep.stops writes_first (at all 2 writes_first refl) (inl (omega arith));
    after_failure = refused_is_refused;
    never_made = λ dispatched coming told keep.
        let m = keep.made (removes ∷ []) writes_first first_temp (placed ++ given_up, refl) refl in
        each (λ (c : TaskCall). c.task ≡ 1 → ⊥) (removes ∷ []) ((λ of. omega arith), tt) m.0 m.1 m.2;
    made_late = late_is_refused;
    written_early = early_is_refused;
    renamed_early = λ dispatched coming told keep.
        let written = keep.renames (removes ∷ makes_first ∷ []) renamed_early first_load first_temp first_path None (stamps_first ∷ given_up, refl) refl refl in
        let w = written.each 0 0 2 (refl, refl, refl) in
        each (λ (c : TaskCall). c.step.call ≡ WriteAt first_temp 0 w.3 true → ⊥) (removes ∷ makes_first ∷ [])
        (other_call removes.step.call _ (λ e. omega arith), (other_call makes_first.step.call _ (λ e. omega arith), tt)) w.0 w.1 w.4;
    never_stamped = λ dispatched coming told keep.
        let placed_at : List TaskCall = begun ++ renames_first ∷ given_up in
        let s = keep.stamps 1 (renames_first, at placed_at 3 renames_first refl, refl, first_temp, first_path, refl) in
        each (λ (c : TaskCall). c.step.call ≡ Stamp s.3 s.4 s.5 → ⊥) placed_at (
          other_call removes.step.call _ (λ e. omega arith),
          (
            other_call makes_first.step.call _ (λ e. omega arith),
            (
              other_call writes_first.step.call _ (λ e. omega arith),
              (other_call renames_first.step.call _ (λ e. omega arith), (other_call makes_second.step.call _ (λ e. omega arith), (other_call drops_second.step.call _ (λ e. omega arith), tt))),
            ),
          ),
        ) s.0 s.1 s.6;
    stamped_unrenamed = λ dispatched coming told keep.
        let front : List TaskCall = begun ++ placed ++ makes_second ∷ [] in
        let r = keep.stamps_last front stamped_unrenamed second_path 5 true (drops_second ∷ [], refl) refl in
        each (λ (c : TaskCall). c.task ≡ 2 → c.step.call ≡ Rename r.3 r.4 None → ⊥) front (
          (λ of e. omega arith),
          ((λ of e. omega arith), ((λ of e. omega arith), ((λ of e. omega arith), ((λ of e. omega arith), ((λ of e. other_call makes_second.step.call _ (λ same. omega arith) e), tt))))),
        ) r.0 r.1 r.2 r.5;
    unwarned_time = λ dispatched coming told keep. elim (keep.untimed not_stamped first_path 5 (at (begun ++ renames_first ∷ not_stamped ∷ given_up) 4 not_stamped refl) refl) [
      | inl known ↦ has [] first_path known
      | inr wanting ↦ never wanting
    ];
    warned_time = λ dispatched coming told keep.
        let f = keep.untimed_only first_path (at (first_path ∷ []) 0 first_path refl) in
        each (λ (c : TaskCall). c.step.call ≡ Stamp first_path f.2 false → ⊥) all (
          other_call removes.step.call _ (λ e. omega arith),
          (
            other_call makes_first.step.call _ (λ e. omega arith),
            (
              other_call writes_first.step.call _ (λ e. omega arith),
              (
                other_call renames_first.step.call _ (λ e. omega arith),
                ((λ e. never (sym (ap is_fine e))), (other_call makes_second.step.call _ (λ e. omega arith), (other_call drops_second.step.call _ (λ e. omega arith), tt))),
              ),
            ),
          ),
        ) f.0 f.1 f.3;
    never_dropped = λ dispatched coming told keep.
        let left : List TaskCall = begun ++ placed ++ makes_second ∷ [] in
        elim (keep.drops 2 second_temp (makes_second, at left 5 makes_second refl, refl, second_path, refl)) [
          | inl r ↦ each (λ (c : TaskCall). c.task ≡ 2 → c.step.call ≡ Rename r.3 r.4 None → ⊥) left (
            (λ of e. omega arith),
            ((λ of e. omega arith), ((λ of e. omega arith), ((λ of e. omega arith), ((λ of e. omega arith), ((λ of e. other_call makes_second.step.call _ (λ same. omega arith) e), tt))))),
          ) r.0 r.1 r.2 r.5
          | inr d ↦ each (λ (c : TaskCall). c.task ≡ 2 → c.step.call ≡ DropTemp d.3 d.4 → ⊥) left (
            (λ of e. omega arith),
            ((λ of e. omega arith), ((λ of e. omega arith), ((λ of e. omega arith), ((λ of e. omega arith), ((λ of e. other_call makes_second.step.call _ (λ same. omega arith) e), tt))))),
          ) d.0 d.1 d.2 d.5
        ];
    unwarned_file = λ dispatched coming told keep. elim (keep.left drops_second second_temp (at all 6 drops_second refl) refl).1 [
      | inl known ↦ has [] second_temp known
      | inr wanting ↦ never wanting
    ];
    warned_file = λ dispatched coming told keep.
        let f = keep.left_only first_temp (at (first_temp ∷ second_temp ∷ []) 0 first_temp refl) in
        each (λ (c : TaskCall). c.step.call ≡ DropTemp first_temp false → ⊥) all (
          other_call removes.step.call _ (λ e. omega arith),
          (
            other_call makes_first.step.call _ (λ e. omega arith),
            (
              other_call writes_first.step.call _ (λ e. omega arith),
              (
                other_call renames_first.step.call _ (λ e. omega arith),
                (other_call stamps_first.step.call _ (λ e. omega arith), (other_call makes_second.step.call _ (λ e. omega arith), (other_temp, tt))),
              ),
            ),
          ),
        ) f.0 f.1 f.2;
  }
    where
      other_temp : DropTemp second_temp false ≡ DropTemp first_temp false → ⊥
      other_temp e = let byte : ◌≡◌ {A = ℕ} 108 107 = head_is 108 107 _ _ (ap temp_of e) in omega arith

pub file_calls_are_refused : FileCallsAreRefused
file_calls_are_refused page_of = refused page_of
