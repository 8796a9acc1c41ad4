-- Files that no download replaces: removed ones, the sources of moves, and all others.
use Rattle.std.proofs.Common.{◌≡◌, ◌∙◌, ◌⊎◌, ◌++◌, ℕ, Bool, true, false, List, [], ◌∷◌, Option, Some, None, Ok, refl, sym, ap, subst, inl, inr, Contains, slice_get}
use Rattle.std.proofs.lemmas.List.{append-nil}
use Rattle.std.specs.FinMap.{get}
use Rattle.s3_model.specs.declared.answers.Class.{Class}
use Rattle.s3_model.specs.declared.places.Place.{Place}
use Rattle.s3_model.specs.declared.places.Place.TheVariants as place
use Rattle.s3_model.specs.declared.requests.Ask.{Ask}
use Rattle.s3_model.specs.declared.tasks.Kind.TheVariants as kind
use Rattle.s3_model.specs.declared.tasks.Task.{Task}
use Rattle.s3_model.specs.Talks.{Talk}
use Rattle.job_terms.specs.Dispatches.{Dispatched}
use Rattle.run_promise.specs.Endings.{Excused}
use Rattle.run_promise.specs.Schedule.{Setting}
use Rattle.run_promise.specs.Truthful.{IsTouchedFile}
use Rattle.local_files.specs.Calls.{Call, MakeTemp, Remove}
use Rattle.shared_lemmas.proofs.Maps.{text_decided}
use Rattle.shared_lemmas.proofs.Members.{contains_of, Has, has, has-append_left, has_at}
use Rattle.run_promise.specs.FileCalls.{IsDecidedBefore, IsMade, IsRemoved, TaskCall, files_after}
use Rattle.run_promise.specs.FileCalls.{AreCalls}
use Rattle.file_laws.specs.FileLaws.{FileIsMoved, FileIsRemoved, FilesStay, HasStayed, IsCalledOnceDecided, IsUntouched}
use Rattle.file_laws.proofs.Keeping as keeping
use Rattle.file_laws.proofs.Keeping.{IsClosing, only_download_makes, removal_downloads, run_of, same_path, same_task, some_none, some_place, true_false, upload_downloads, upload_removes, who_removes}
use Rattle.file_laws.proofs.TempFiles as temps
use Rattle.file_laws.proofs.TempFiles.{Absent, InUse, Stayed, Untouched}

-- ---- touched files

is_that_file : (q : Place) (p : List ℕ) → (q ≡ place.File p) ⊎ (q ≡ place.File p → ⊥)
is_that_file (place.Object bucket key) p = inr (λ e. clash e)
  where
    clash : place.Object bucket key ≡ place.File p → ⊥
    clash e = cc
is_that_file (place.File q) p = elim (text_decided q p) [ inl e ↦ inl (ap place.File e) | inr other ↦ inr (λ e. other (same_path q p e)) ]

is_that_source : (q : Option Place) (p : List ℕ) → (q ≡ Some (place.File p)) ⊎ (q ≡ Some (place.File p) → ⊥)
is_that_source None p = inr (λ e. clash e)
  where
    clash : ◌≡◌ {A = Option Place} None (Some (place.File p)) → ⊥
    clash e = cc
is_that_source (Some q) p = elim (is_that_file q p) [ inl e ↦ inl (ap Some e) | inr other ↦ inr (λ e. other (some_place q (place.File p) e)) ]

Touches : Task → List ℕ → Type 0
Touches task p = (task.dest ≡ place.File p) ⊎ (task.moves ≡ true) × (task.source ≡ Some (place.File p))

moves_or_not : (b : Bool) → (b ≡ true) ⊎ (b ≡ true → ⊥)
moves_or_not true = inl refl
moves_or_not false = inr (λ e. true_false (sym e))

touches_or_not : (task : Task) (p : List ℕ) → Touches task p ⊎ (Touches task p → ⊥)
unfolding Touches
touches_or_not task p = elim (is_that_file task.dest p) [
  | inl e ↦ inl (inl e)
  | inr other ↦ elim (is_that_source task.source p) [
    | inr third ↦ inr (λ touches. elim touches [ inl e ↦ other e | inr m ↦ third m.1 ])
    | inl source ↦ elim (moves_or_not task.moves) [ inl moves ↦ inl (inr (moves, source)) | inr stays ↦ inr (λ touches. elim touches [ inl e ↦ other e | inr m ↦ stays m.0 ]) ]
  ]
]

one_touches : (tasks : List Task) (p : List ℕ) → ((task : Task) × Has tasks task × Touches task p) ⊎ ((task : Task) → Has tasks task → Touches task p → ⊥)
one_touches [] p = inr (λ task h touches. h)
one_touches (task ∷ tasks) p = elim (touches_or_not task p) [
  | inl touches ↦ inl (task, inl refl, touches)
  | inr spared ↦ elim (one_touches tasks p) [
    | inl later ↦ inl (later.0, inr later.1, later.2)
    | inr none ↦ inr (λ other h touches. elim h [ inl e ↦ spared (subst (λ (t : Task). Touches t p) (back_to task other e) touches) | inr rest ↦ none other rest touches ])
  ]
]
  where
    back_to : (a b : Task) → a ≡ b → b ≡ a
    back_to a b e = cc

touched_or_not : (tasks : List Task) (p : List ℕ) → IsTouchedFile tasks p ⊎ ((n : ℕ) (task : Task) → slice_get tasks n ≡ Some task → Touches task p → ⊥)
unfolding Touches
touched_or_not tasks p = elim (one_touches tasks p) [
  | inl one ↦ inl (one.0, contains_of tasks one.0 one.1, one.2)
  | inr none ↦ inr (λ n task is touches. none task (has_at tasks n task is) touches)
]

module _ (Shows : Ask → ℕ → Talk → Class → List ℕ → Type 0) (s : Setting) (excused : Excused) (dispatched coming : List Dispatched) (calls : List TaskCall) (a : AreCalls Shows (run_of s excused dispatched coming calls)) where
  known_in : (part late : List TaskCall) → calls ≡ part ++ late → (c : TaskCall) → Has part c → Contains calls c
  known_in part late is c h = subst (λ (all : List TaskCall). Contains all c) (sym is) (contains_of (part ++ late) c (has-append_left part late c h))

  -- a file that was made is a download's
  made_loads : (front late : List TaskCall) → calls ≡ front ++ late → (m : TaskCall) → Has front m → (dest temp : List ℕ) → m.step.call ≡ MakeTemp dest (Ok temp)
      → (task : Task) × (slice_get s.tasks m.task ≡ Some task) × (task.kind ≡ kind.Download)
  made_loads front late is m h dest temp e =
      let known = known_in front late is m h in
      let own = keeping.named Shows s excused dispatched coming calls a m (MakeTemp dest (Ok temp)) known e in
      (own.task, own.is_task, (only_download_makes own.task own.task.kind dest (Ok temp) own.is_call).0)

  whole : calls ≡ calls ++ []
  whole = sym (append-nil calls)

  module _ (p : List ℕ) (undownloaded : (n : ℕ) (task : Task) → slice_get s.tasks n ≡ Some task → task.kind ≡ kind.Download → task.dest ≡ place.File p → ⊥) where
    abbrev Made : ℕ → Type 0
    Made n = temps.Made Shows s excused dispatched coming calls a p undownloaded calls n

    abbrev Closed : ℕ → Type 0
    Closed n = temps.Closed Shows s excused dispatched coming calls a p undownloaded calls n

    -- in the end each temporary file was renamed or dropped
    closed_in_the_end : (n : ℕ) → Made n → Closed n
    closed_in_the_end n made = elim (a.keep.drops n p (made.0, contains_of calls made.0 made.1, made.2, made.3, made.4)) [
      | inl renamed ↦ (renamed.0, has calls renamed.0 renamed.1, renamed.2, subst (λ (x : Call). IsClosing x) (sym renamed.5) tt)
      | inr dropped ↦ (dropped.0, has calls dropped.0 dropped.1, dropped.2, subst (λ (x : Call). IsClosing x) (sym dropped.5) tt)
    ]

    -- so in the end the file is as before, or free and absent, or one that stayed
    pub data End : Type 0 where
      Kept : get (files_after s.held calls) p ≡ get s.held p → ((n : ℕ) → Made n → ⊥) → (temps.Removed Shows s excused dispatched coming calls a p undownloaded calls → ⊥) → End
      Free : get (files_after s.held calls) p ≡ None → temps.Freed Shows s excused dispatched coming calls a p undownloaded calls → End
      Left : HasStayed (run_of s excused dispatched coming calls) p → (n : ℕ) → Made n → temps.Freed Shows s excused dispatched coming calls a p undownloaded calls → End

    pub end : End
    end = by (temps.standing Shows s excused dispatched coming calls a p undownloaded calls [] whole)
      where
        by : temps.Standing Shows s excused dispatched coming calls a p undownloaded calls (files_after s.held calls) → End
        by (Untouched e none kept) = Kept e none kept
        by (Absent e all freed) = Free e freed
        by (InUse n there made unclosed others freed) = absurd (unclosed (closed_in_the_end n made))
        by (Stayed excuse there n made all freed) = Left excuse n made freed

  -- ---- all others

  others : (p : List ℕ) → ((n : ℕ) (task : Task) → slice_get s.tasks n ≡ Some task → Touches task p → ⊥) → IsUntouched (run_of s excused dispatched coming calls) p
  unfolding Touches
  others p untouched = record { throughout = throughout; ended = by (end p undownloaded) }
    where
      undownloaded : (n : ℕ) (task : Task) → slice_get s.tasks n ≡ Some task → task.kind ≡ kind.Download → task.dest ≡ place.File p → ⊥
      undownloaded n task is load dest = untouched n task is (inl dest)

      none_removes : (c : TaskCall) → Contains calls c → c.step.call ≡ Remove p true → ⊥
      none_removes c known e =
          let own = keeping.named Shows s excused dispatched coming calls a c (Remove p true) known e in
          elim (who_removes own.task own.task.kind p true own.is_call) [
            | inl removal ↦ untouched c.task own.task own.is_task (inl removal.1)
            | inr upload ↦ untouched c.task own.task own.is_task (inr (upload.1, upload.2))
          ]

      -- so nothing was there where it is free
      absent : (part late : List TaskCall) → calls ≡ part ++ late → temps.Freed Shows s excused dispatched coming calls a p undownloaded part → get s.held p ≡ None
      absent part late is (inl none) = none
      absent part late is (inr removed) = absurd (none_removes removed.0 (known_in part late is removed.0 removed.1) removed.2)

      throughout : (part late : List TaskCall) → calls ≡ part ++ late → (get (files_after s.held part) p ≡ get s.held p) ⊎ ((n : ℕ) × IsMade part n p × (get s.held p ≡ None))
      throughout part late is = during (temps.standing Shows s excused dispatched coming calls a p undownloaded part late is)
        where
          during : temps.Standing Shows s excused dispatched coming calls a p undownloaded part (files_after s.held part)
              → (get (files_after s.held part) p ≡ get s.held p) ⊎ ((n : ℕ) × IsMade part n p × (get s.held p ≡ None))
          during (Untouched e none kept) = inl e
          during (Absent e all freed) = inl (e ∙ sym (absent part late is freed))
          during (InUse n there made unclosed others freed) = inr (n, (made.0, contains_of part made.0 made.1, made.2, made.3, made.4), absent part late is freed)
          during (Stayed excuse there n made all freed) = inr (n, (made.0, contains_of part made.0 made.1, made.2, made.3, made.4), absent part late is freed)

      by : End p undownloaded → (get (files_after s.held calls) p ≡ get s.held p) ⊎ (HasStayed (run_of s excused dispatched coming calls) p × (get s.held p ≡ None))
      by (Kept e none kept) = inl e
      by (Free e freed) = inl (e ∙ sym (absent calls [] whole freed))
      by (Left excuse n made freed) = inr (excuse, absent calls [] whole freed)

  -- ---- removed files

  module _ (n : ℕ) (task : Task) (p : List ℕ) (is_task : slice_get s.tasks n ≡ Some task) (removal : task.kind ≡ kind.RemoveFile) (is_dest : task.dest ≡ place.File p) where
    only_removed : (m : ℕ) (other : Task) → slice_get s.tasks m ≡ Some other → other.kind ≡ kind.Download → other.dest ≡ place.File p → ⊥
    only_removed m other is load dest =
        let one = a.apart.destinations m n other task p (is, dest) (is_task, is_dest) in
        let alike = same_task other task (sym is ∙ ap (slice_get s.tasks) one ∙ is_task) in
        removal_downloads (sym removal ∙ ap (λ (t : Task). t.kind) (sym alike) ∙ load)

    own_path : IsRemoved calls n → temps.Removed Shows s excused dispatched coming calls a p only_removed calls
    own_path removed =
        let own = keeping.named Shows s excused dispatched coming calls a removed.0 (Remove removed.3 true) removed.1 removed.4 in
        let alike = same_task own.task task (sym own.is_task ∙ ap (slice_get s.tasks) removed.2 ∙ is_task) in
        elim (who_removes own.task own.task.kind removed.3 true own.is_call) [
          | inl is ↦ (removed.0, has calls removed.0 removed.1, removed.4 ∙ ap (λ (q : List ℕ). Remove q true) (same_path removed.3 p (sym is.1 ∙ ap (λ (t : Task). t.dest) alike ∙ is_dest)))
          | inr upload ↦ absurd (upload_removes (sym upload.0 ∙ ap (λ (t : Task). t.kind) alike ∙ removal))
        ]

    own_task : (part late : List TaskCall) → calls ≡ part ++ late → temps.Removed Shows s excused dispatched coming calls a p only_removed part → IsRemoved part n
    own_task part late is removed =
        let own = keeping.named Shows s excused dispatched coming calls a removed.0 (Remove p true) (known_in part late is removed.0 removed.1) removed.2 in
        elim (who_removes own.task own.task.kind p true own.is_call) [
          | inl of ↦ (removed.0, contains_of part removed.0 removed.1, a.apart.destinations removed.0.task n own.task task p (own.is_task, of.1) (is_task, is_dest), p, removed.2)
          | inr upload ↦ absurd (a.apart.sources removed.0.task n own.task task p (own.is_task, upload.1, upload.2) (is_task, is_dest))
        ]

    after_removal : IsRemoved calls n → (get (files_after s.held calls) p ≡ None) ⊎ HasStayed (run_of s excused dispatched coming calls) p
    after_removal removed = by (end p only_removed)
      where
        by : End p only_removed → (get (files_after s.held calls) p ≡ None) ⊎ HasStayed (run_of s excused dispatched coming calls) p
        by (Kept e none kept) = absurd (kept (own_path removed))
        by (Free e freed) = inl e
        by (Left excuse m made freed) = inr excuse

    until_removed : (part late : List TaskCall) → calls ≡ part ++ late → (IsRemoved part n → ⊥) → get (files_after s.held part) p ≡ get s.held p
    until_removed part late is kept = by (temps.standing Shows s excused dispatched coming calls a p only_removed part late is)
      where
        freed_by : temps.Freed Shows s excused dispatched coming calls a p only_removed part → ⊥
        freed_by (inl none) = some_none (get s.held p) (a.apart.there n task p (is_task, is_dest) removal) none
        freed_by (inr removed) = kept (own_task part late is removed)

        by : temps.Standing Shows s excused dispatched coming calls a p only_removed part (files_after s.held part) → get (files_after s.held part) p ≡ get s.held p
        by (Untouched e none stays) = e
        by (Absent e all freed) = absurd (freed_by freed)
        by (InUse m there made unclosed others freed) = absurd (freed_by freed)
        by (Stayed excuse there m made all freed) = absurd (freed_by freed)

  -- ---- moved files

  module _ (n : ℕ) (task : Task) (p : List ℕ) (is_task : slice_get s.tasks n ≡ Some task) (upload : task.kind ≡ kind.Upload) (moves : task.moves ≡ true) (is_source : task.source ≡ Some (place.File p)) where
    only_moved : (m : ℕ) (other : Task) → slice_get s.tasks m ≡ Some other → other.kind ≡ kind.Download → other.dest ≡ place.File p → ⊥
    only_moved m other is load dest = a.apart.sources n m task other p (is_task, moves, is_source) (is, dest)

    source_path : IsRemoved calls n → temps.Removed Shows s excused dispatched coming calls a p only_moved calls
    source_path removed =
        let own = keeping.named Shows s excused dispatched coming calls a removed.0 (Remove removed.3 true) removed.1 removed.4 in
        let alike = same_task own.task task (sym own.is_task ∙ ap (slice_get s.tasks) removed.2 ∙ is_task) in
        elim (who_removes own.task own.task.kind removed.3 true own.is_call) [
          | inl removal ↦ absurd (upload_removes (sym upload ∙ ap (λ (t : Task). t.kind) (sym alike) ∙ removal.0))
          | inr is ↦ (
            removed.0,
            has calls removed.0 removed.1,
            removed.4 ∙ ap (λ (q : List ℕ). Remove q true) (same_path removed.3 p (some_place (place.File removed.3) (place.File p) (sym is.2 ∙ ap (λ (t : Task). t.source) alike ∙ is_source))),
          )
        ]

    source_task : (c : TaskCall) → Contains calls c → c.step.call ≡ Remove p true → c.task ≡ n
    source_task c known e =
        let own = keeping.named Shows s excused dispatched coming calls a c (Remove p true) known e in
        elim (who_removes own.task own.task.kind p true own.is_call) [
          | inl removal ↦ absurd (a.apart.sources n c.task task own.task p (is_task, moves, is_source) (own.is_task, removal.1))
          | inr is ↦ a.apart.moved_once c.task n own.task task p (own.is_task, is.1, is.2) (is_task, moves, is_source)
        ]

    no_temp : (front late : List TaskCall) → calls ≡ front ++ late → (m : TaskCall) → Has front m → (dest : List ℕ) → m.step.call ≡ MakeTemp dest (Ok p) → ⊥
    no_temp front late is m h dest e = let load = made_loads front late is m h dest p e in a.apart.one_way n m.task task load.0 p (is_task, moves, is_source) load.1 load.2

    after_move : IsRemoved calls n → get (files_after s.held calls) p ≡ None
    after_move removed = by (end p only_moved)
      where
        by : End p only_moved → get (files_after s.held calls) p ≡ None
        by (Kept e none kept) = absurd (kept (source_path removed))
        by (Free e freed) = e
        by (Left excuse m made freed) = absurd (no_temp calls [] whole made.0 made.1 made.3 made.4)

    until_moved : (part late : List TaskCall) → calls ≡ part ++ late → (IsRemoved part n → ⊥) → get (files_after s.held part) p ≡ get s.held p
    until_moved part late is kept = by (temps.standing Shows s excused dispatched coming calls a p only_moved part late is)
      where
        by : temps.Standing Shows s excused dispatched coming calls a p only_moved part (files_after s.held part) → get (files_after s.held part) p ≡ get s.held p
        by (Untouched e none stays) = e
        by (Absent e all (inl none)) = e ∙ sym none
        by (Absent e all (inr removed)) =
            absurd (kept (removed.0, contains_of part removed.0 removed.1, source_task removed.0 (known_in part late is removed.0 removed.1) removed.2, p, removed.2))
        by (InUse m there made unclosed others freed) = absurd (no_temp part late is made.0 made.1 made.3 made.4)
        by (Stayed excuse there m made all freed) = absurd (no_temp part late is made.0 made.1 made.3 made.4)

    until_decided : (part late : List TaskCall) → calls ≡ part ++ late → (get (files_after s.held part) p ≡ get s.held p) ⊎ IsCalledOnceDecided Shows (run_of s excused dispatched coming calls) part n task
    until_decided part late is = by (temps.standing Shows s excused dispatched coming calls a p only_moved part late is)
      where
        decided : (c : TaskCall) → Has part c → c.step.call ≡ Remove p true → IsCalledOnceDecided Shows (run_of s excused dispatched coming calls) part n task
        decided c h e =
            let known = known_in part late is c h in
            let one = source_task c known e in
            let at : slice_get s.tasks c.task ≡ Some task = ap (slice_get s.tasks) one ∙ is_task in
            (c, contains_of part c h, one, subst (λ (k : ℕ). IsDecidedBefore Shows s dispatched k task c.events_before) one (a.keep.moves_last c task p true known at upload e))

        by : temps.Standing Shows s excused dispatched coming calls a p only_moved part (files_after s.held part) → (get (files_after s.held part) p ≡ get s.held p) ⊎ IsCalledOnceDecided Shows (run_of s excused dispatched coming calls) part n task
        by (Untouched e none kept) = inl e
        by (Absent e all (inl none)) = inl (e ∙ sym none)
        by (Absent e all (inr removed)) = inr (decided removed.0 removed.1 removed.2)
        by (InUse m there made unclosed others freed) = absurd (no_temp part late is made.0 made.1 made.3 made.4)
        by (Stayed excuse there m made all freed) = absurd (no_temp part late is made.0 made.1 made.3 made.4)

module _ (Shows : Ask → ℕ → Talk → Class → List ℕ → Type 0) where
  pub files_stay : FilesStay Shows
  files_stay run a p = elim (touched_or_not run.setting.tasks p) [
    | inl touched ↦ inl touched
    | inr untouched ↦ inr (others Shows run.setting run.excused run.dispatched run.coming run.calls a p untouched)
  ]

  pub file_is_removed : FileIsRemoved Shows
  file_is_removed run a n task p to removal = (
    after_removal Shows run.setting run.excused run.dispatched run.coming run.calls a n task p to.0 removal to.1,
    until_removed Shows run.setting run.excused run.dispatched run.coming run.calls a n task p to.0 removal to.1,
  )

  pub file_is_moved : FileIsMoved Shows
  file_is_moved run a n task p move = let upload = a.apart.uploads n task p move in (
    after_move Shows run.setting run.excused run.dispatched run.coming run.calls a n task p move.0 upload move.1 move.2,
    until_moved Shows run.setting run.excused run.dispatched run.coming run.calls a n task p move.0 upload move.1 move.2,
    until_decided Shows run.setting run.excused run.dispatched run.coming run.calls a n task p move.0 upload move.1 move.2,
  )
