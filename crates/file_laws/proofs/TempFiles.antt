-- A path where no download puts its file: it is as at the start, or absent, or the temporary file of one task, or one that stayed.
use Rattle.std.proofs.Common.{◌≡◌, ◌∙◌, ◌⊎◌, ◌++◌, ℕ, Bool, true, false, List, [], ◌∷◌, Option, Some, None, Ok, refl, sym, ap, subst, inl, inr, Contains, slice_get}
use Rattle.std.specs.Prelude.{IsSome}
use Rattle.std.specs.FinMap.{get}
use Rattle.s3_model.specs.declared.answers.Class.{Class}
use Rattle.s3_model.specs.declared.places.Place.TheVariants as place
use Rattle.s3_model.specs.declared.requests.Ask.{Ask}
use Rattle.s3_model.specs.declared.tasks.Kind.TheVariants as kind
use Rattle.s3_model.specs.declared.tasks.Task.{Task}
use Rattle.s3_model.specs.Files.{HeldFile}
use Rattle.s3_model.specs.Maps.{MapOf}
use Rattle.s3_model.specs.Talks.{Talk}
use Rattle.job_terms.specs.Dispatches.{Dispatched}
use Rattle.run_promise.specs.Endings.{Excused}
use Rattle.run_promise.specs.Schedule.{Setting}
use Rattle.local_files.specs.Calls.{Call, DropTemp, Fault, IsCallRun, MakeTemp, Remove, Rename, Stamp, WriteAt}
use Rattle.shared_lemmas.proofs.Members.{Has, has, has-append_left}
use Rattle.run_promise.specs.FileCalls.{MayFollow, TaskCall, UsesTemp, files_after, steps_of}
use Rattle.run_promise.specs.FileCalls.{AreCalls}
use Rattle.file_laws.specs.FileLaws.{HasStayed}
use Rattle.file_laws.proofs.Effects.{Effect, Spares, arrives, drops, effect, goes, leaves, makes, removes, spoils, stamps, stays, writes}
use Rattle.file_laws.proofs.Keeping as keeping
use Rattle.file_laws.proofs.Keeping.{closed_unused, closes_own, first_is_make, has_last, IsClosing, last_cases, only_download_makes, only_download_renames, only_download_stamps, removal_downloads, run_of, same_number, same_path, same_task, some_is_there, some_none, upload_downloads, who_removes}
use Rattle.file_laws.proofs.Runs.{leads_at, through}

spares_make : (p dest temp : List ℕ) (call : Call) → Spares p call → call ≡ MakeTemp dest (Ok temp) → temp ≡ p → ⊥
spares_make p dest temp call spares e = subst (λ (x : Call). Spares p x) e spares

spares_use : (p : List ℕ) (call : Call) → Spares p call → IsClosing call → UsesTemp call p → ⊥
spares_use p (Rename temp dest None) spares closes uses = spares.0 uses
spares_use p (Rename temp dest (Some fault)) spares closes uses = absurd closes
spares_use p (DropTemp temp fine) spares closes uses = spares uses
spares_use p call spares closes uses = absurd closes

spares_removal : (p : List ℕ) (call : Call) → Spares p call → call ≡ Remove p true → ⊥
spares_removal p call spares e = subst (λ (x : Call). Spares p x) e spares refl

pub write_makes : (temp path dest : List ℕ) (at : ℕ) (bytes : List ℕ) (fine : Bool) → WriteAt temp at bytes fine ≡ MakeTemp dest (Ok path) → ⊥
write_makes temp path dest at bytes fine e = cc

rename_makes : (temp to path dest : List ℕ) (fault : Option Fault) → Rename temp to fault ≡ MakeTemp dest (Ok path) → ⊥
rename_makes temp to path dest fault e = cc

drop_makes : (temp path dest : List ℕ) (fine : Bool) → DropTemp temp fine ≡ MakeTemp dest (Ok path) → ⊥
drop_makes temp path dest fine e = cc

remove_makes : (q path dest : List ℕ) (fine : Bool) → Remove q fine ≡ MakeTemp dest (Ok path) → ⊥
remove_makes q path dest fine e = cc

module _ (Shows : Ask → ℕ → Talk → Class → List ℕ → Type 0) (s : Setting) (excused : Excused) (dispatched coming : List Dispatched) (calls : List TaskCall) (a : AreCalls Shows (run_of s excused dispatched coming calls))
    (p : List ℕ) (undownloaded : (n : ℕ) (task : Task) → slice_get s.tasks n ≡ Some task → task.kind ≡ kind.Download → task.dest ≡ place.File p → ⊥) where
  -- ---- of the calls so far

  abbrev pub Made : List TaskCall → ℕ → Type 0
  Made front n = (c : TaskCall) × Has front c × (c.task ≡ n) × (dest : List ℕ) × (c.step.call ≡ MakeTemp dest (Ok p))

  abbrev pub Closed : List TaskCall → ℕ → Type 0
  Closed front n = (c : TaskCall) × Has front c × (c.task ≡ n) × IsClosing c.step.call

  abbrev pub Removed : List TaskCall → Type 0
  Removed front = (c : TaskCall) × Has front c × (c.step.call ≡ Remove p true)

  abbrev pub Freed : List TaskCall → Type 0
  Freed front = (get s.held p ≡ None) ⊎ Removed front

  pub data Standing (front : List TaskCall) (now : MapOf HeldFile) : Type 0 where
    Untouched : get now p ≡ get s.held p → ((m : ℕ) → Made front m → ⊥) → (Removed front → ⊥) → Standing front now
    Absent : get now p ≡ None → ((m : ℕ) → Made front m → Closed front m) → Freed front → Standing front now
    InUse : (n : ℕ) → IsSome (get now p) → Made front n → (Closed front n → ⊥) → ((m : ℕ) → Made front m → (m ≡ n → ⊥) → Closed front m) → Freed front → Standing front now
    Stayed : HasStayed (run_of s excused dispatched coming calls) p → IsSome (get now p) → (n : ℕ) → Made front n → ((m : ℕ) → Made front m → Closed front m) → Freed front → Standing front now

  module _ (front : List TaskCall) (c : TaskCall) (back : List TaskCall) (is : calls ≡ front ++ c ∷ back) where
    abbrev longer : List TaskCall
    longer = front ++ c ∷ []

    known : Contains calls c
    known = keeping.within Shows s excused dispatched coming calls a front c back is

    pub made_on : (n : ℕ) → Made front n → Made longer n
    made_on n m = (m.0, has-append_left front (c ∷ []) m.0 m.1, m.2, m.3, m.4)

    pub closed_on : (n : ℕ) → Closed front n → Closed longer n
    closed_on n m = (m.0, has-append_left front (c ∷ []) m.0 m.1, m.2, m.3)

    removed_on : Removed front → Removed longer
    removed_on m = (m.0, has-append_left front (c ∷ []) m.0 m.1, m.2)

    freed_on : Freed front → Freed longer
    freed_on (inl none) = inl none
    freed_on (inr gone) = inr (removed_on gone)

    -- made before, where this call makes none
    pub made_before : ((dest : List ℕ) → c.step.call ≡ MakeTemp dest (Ok p) → ⊥) → (n : ℕ) → Made longer n → Made front n
    made_before none n m = elim (last_cases front c m.0 m.1) [
      | inl before ↦ (m.0, before, m.2, m.3, m.4)
      | inr here ↦ absurd (none m.3 (ap (λ (x : TaskCall). x.step.call) here ∙ m.4))
    ]

    removed_before : (c.step.call ≡ Remove p true → ⊥) → Removed longer → Removed front
    removed_before none m = elim (last_cases front c m.0 m.1) [ inl before ↦ (m.0, before, m.2) | inr here ↦ absurd (none (ap (λ (x : TaskCall). x.step.call) here ∙ m.2)) ]

    -- closed before, or by this call
    closed_cases : (n : ℕ) → Closed longer n → Closed front n ⊎ ((c.task ≡ n) × IsClosing c.step.call)
    closed_cases n m = elim (last_cases front c m.0 m.1) [
      | inl before ↦ inl (m.0, before, m.2, m.3)
      | inr here ↦ inr (ap (λ (x : TaskCall). x.task) here ∙ m.2, subst (λ (x : TaskCall). IsClosing x.step.call) (sym_call here) m.3)
    ]
      where
        sym_call : c ≡ m.0 → m.0 ≡ c
        sym_call e = cc

    all_closed_on : ((dest : List ℕ) → c.step.call ≡ MakeTemp dest (Ok p) → ⊥) → ((m : ℕ) → Made front m → Closed front m) → (m : ℕ) → Made longer m → Closed longer m
    all_closed_on none all m made = closed_on m (all m (made_before none m made))

    -- ---- who uses the path

    pub made_by_user : UsesTemp c.step.call p → Made front c.task
    made_by_user uses = let m = a.keep.made front c p (back, is) uses in (m.0, has front m.0 m.1, m.2, m.3, m.4)

    pub user_not_closed : UsesTemp c.step.call p → Closed front c.task → ⊥
    user_not_closed uses closed = closed_unused closed.0.step.call c.step.call p closed.3 uses (keeping.follows Shows s excused dispatched coming calls a front c back closed.0 is closed.1 closed.2)

    -- a task that made the file and closes it, closes this one
    closer_uses : (n : ℕ) → Made front n → c.task ≡ n → IsClosing c.step.call → UsesTemp c.step.call p
    closer_uses n m same closes = closes_own m.3 p c.step.call
        (subst (λ (x : Call). MayFollow x c.step.call) m.4 (keeping.follows Shows s excused dispatched coming calls a front c back m.0 is m.1 (m.2 ∙ sym same))) closes

    pub record OpenedBy (now : MapOf HeldFile) (n : ℕ) : Type 0 where
      pub there : IsSome (get now p)
      pub made : Made front n
      pub unclosed : Closed front n → ⊥
      pub others : (m : ℕ) → Made front m → (m ≡ n → ⊥) → Closed front m
      pub freed : Freed front

    pub opened_by_user : (now : MapOf HeldFile) → Standing front now → UsesTemp c.step.call p → OpenedBy now c.task
    opened_by_user now (Untouched e none kept) uses = absurd (none c.task (made_by_user uses))
    opened_by_user now (Absent e all freed) uses = absurd (user_not_closed uses (all c.task (made_by_user uses)))
    opened_by_user now (Stayed excuse there n made all freed) uses = absurd (user_not_closed uses (all c.task (made_by_user uses)))
    opened_by_user now (InUse n there made unclosed others freed) uses = elim (same_number c.task n) [
      | inl e ↦ subst (λ (k : ℕ). OpenedBy now k) (back_to e) (record { there = there; made = made; unclosed = unclosed; others = others; freed = freed })
      | inr other ↦ absurd (user_not_closed uses (others c.task (made_by_user uses) other))
    ]
      where
        back_to : c.task ≡ n → n ≡ c.task
        back_to e = cc

    downloads : (m : TaskCall) (n : ℕ) → Contains calls m → m.task ≡ n → (dest : List ℕ) → m.step.call ≡ MakeTemp dest (Ok p) → (task : Task) × (slice_get s.tasks n ≡ Some task) × (task.kind ≡ kind.Download)
    downloads m n known same dest e =
        let own = keeping.named Shows s excused dispatched coming calls a m (MakeTemp dest (Ok p)) known e in
        (own.task, subst (λ (k : ℕ). slice_get s.tasks k ≡ Some own.task) same own.is_task, (only_download_makes own.task own.task.kind dest (Ok p) own.is_call).0)

    -- a path that was free when a temporary file took it is not removed as a task's file
    pub no_removal : (n : ℕ) → Made front n → Freed front → (fine : Bool) → c.step.call ≡ Remove p fine → ⊥
    no_removal n made freed fine e = by (who_removes own.task own.task.kind p fine own.is_call) freed
      where
        own : keeping.Named Shows s excused dispatched coming calls a c (Remove p fine)
        own = keeping.named Shows s excused dispatched coming calls a c (Remove p fine) known e

        load : (task : Task) × (slice_get s.tasks n ≡ Some task) × (task.kind ≡ kind.Download)
        load = downloads made.0 n (keeping.within_front Shows s excused dispatched coming calls a front c back made.0 is made.1) made.2 made.3 made.4

        one_way : (m : ℕ) (task : Task) → slice_get s.tasks m ≡ Some task → task.moves ≡ true → task.source ≡ Some (place.File p) → ⊥
        one_way m task is_task moves source = a.apart.one_way m n task load.0 p (is_task, moves, source) load.1 load.2

        twice : (x : TaskCall) → Has front x → x.step.call ≡ Remove p true → x.task ≡ c.task → ⊥
        twice x h f same = subst (λ (y : Call). MayFollow y c.step.call) f (keeping.follows Shows s excused dispatched coming calls a front c back x is h same)

        by : ((own.task.kind ≡ kind.RemoveFile) × (own.task.dest ≡ place.File p)) ⊎ ((own.task.kind ≡ kind.Upload) × (own.task.moves ≡ true) × (own.task.source ≡ Some (place.File p))) → Freed front → ⊥
        by (inr upload) freed = one_way c.task own.task own.is_task upload.1 upload.2
        by (inl removal) (inl none) = some_none (get s.held p) (a.apart.there c.task own.task p (own.is_task, removal.1) removal.0) none
        by (inl removal) (inr before) =
            let earlier = keeping.named Shows s excused dispatched coming calls a before.0 (Remove p true) (keeping.within_front Shows s excused dispatched coming calls a front c back before.0 is before.1) before.2 in
            elim (who_removes earlier.task earlier.task.kind p true earlier.is_call) [
              | inr upload ↦ one_way before.0.task earlier.task earlier.is_task upload.1 upload.2
              | inl other ↦ twice before.0 before.1 before.2 (a.apart.destinations before.0.task c.task earlier.task own.task p (earlier.is_task, other.1) (own.is_task, removal.1))
            ]

    pub no_arrival : (temp : List ℕ) → c.step.call ≡ Rename temp p None → ⊥
    no_arrival temp e =
        let own = keeping.named Shows s excused dispatched coming calls a c (Rename temp p None) known e in
        let load = only_download_renames own.task own.task.kind temp p None own.is_call in
        undownloaded c.task own.task own.is_task load.0 load.1

    pub no_stamp : (micros : ℕ) → c.step.call ≡ Stamp p micros true → ⊥
    no_stamp micros e =
        let own = keeping.named Shows s excused dispatched coming calls a c (Stamp p micros true) known e in
        let load = only_download_stamps own.task own.task.kind p micros true own.is_call in
        undownloaded c.task own.task own.is_task load.0 load.1

    -- ---- the next call

    module _ (old new : MapOf HeldFile) where
      -- the path stays in use
      still_open : OpenedBy old c.task → ((dest : List ℕ) → c.step.call ≡ MakeTemp dest (Ok p) → ⊥) → (IsClosing c.step.call → ⊥) → IsSome (get new p) → Standing longer new
      still_open o makes_none closes_none there = InUse c.task there (made_on c.task o.made) unclosed others (freed_on o.freed)
        where
          unclosed : Closed longer c.task → ⊥
          unclosed closed = elim (closed_cases c.task closed) [ inl before ↦ o.unclosed before | inr here ↦ closes_none here.1 ]

          others : (m : ℕ) → Made longer m → (m ≡ c.task → ⊥) → Closed longer m
          others m made other = closed_on m (o.others m (made_before makes_none m made) other)

      -- its task is done with it
      all_closed : OpenedBy old c.task → ((dest : List ℕ) → c.step.call ≡ MakeTemp dest (Ok p) → ⊥) → IsClosing c.step.call → (m : ℕ) → Made longer m → Closed longer m
      all_closed o makes_none closes m made = elim (same_number m c.task) [
        | inl e ↦ (c, has_last front c, back_to e, closes)
        | inr other ↦ closed_on m (o.others m (made_before makes_none m made) other)
      ]
        where
          back_to : m ≡ c.task → c.task ≡ m
          back_to e = cc

      spared : Spares p c.step.call → (dest : List ℕ) → c.step.call ≡ MakeTemp dest (Ok p) → ⊥
      spared spares dest e = spares_make p dest p c.step.call spares e refl

      step_by : Standing front old → Effect p c.step.call old new → Standing longer new
      step_by (Untouched e none kept) (stays spares f) = Untouched (f ∙ e) (λ m made. none m (made_before (spared spares) m made)) (λ removed. kept (removed_before (spares_removal p c.step.call spares) removed))
      step_by (Absent e all freed) (stays spares f) = Absent (f ∙ e) (all_closed_on (spared spares) all) (freed_on freed)
      step_by (InUse n there made unclosed others freed) (stays spares f) =
          InUse n (subst (λ (o : Option HeldFile). IsSome o) (sym f) there) (made_on n made)
          (λ closed. elim (closed_cases n closed) [ inl before ↦ unclosed before | inr here ↦ spares_use p c.step.call spares here.1 (closer_uses n made here.0 here.1) ])
          (λ m other_made other. closed_on m (others m (made_before (spared spares) m other_made) other)) (freed_on freed)
      step_by (Stayed excuse there n made all freed) (stays spares f) =
          Stayed excuse (subst (λ (o : Option HeldFile). IsSome o) (sym f) there) n (made_on n made) (all_closed_on (spared spares) all) (freed_on freed)
      step_by stood (makes dest e temp absent micros f) = fresh stood
        where
          nothing_before : (n : ℕ) → Closed front n → n ≡ c.task → ⊥
          nothing_before n closed same = first_is_make closed.0.step.call dest (Ok p)
              (subst (λ (x : Call). MayFollow closed.0.step.call x) e (keeping.follows Shows s excused dispatched coming calls a front c back closed.0 is closed.1 (closed.2 ∙ same)))

          own : Made longer c.task
          own = (c, has_last front c, refl, dest, e)

          unclosed : Closed longer c.task → ⊥
          unclosed closed = elim (closed_cases c.task closed) [ inl before ↦ nothing_before c.task before refl | inr here ↦ subst (λ (x : Call). IsClosing x) e here.1 ]

          present : IsSome (get new p)
          present = some_is_there (get new p) _ f

          made_cases : (m : ℕ) → Made longer m → Made front m ⊎ (c.task ≡ m)
          made_cases m made = elim (last_cases front c made.0 made.1) [ inl before ↦ inl (made.0, before, made.2, made.3, made.4) | inr here ↦ inr (ap (λ (x : TaskCall). x.task) here ∙ made.2) ]

          others_from : ((m : ℕ) → Made front m → Closed front m) → (m : ℕ) → Made longer m → (m ≡ c.task → ⊥) → Closed longer m
          others_from all m made other = elim (made_cases m made) [ inl before ↦ closed_on m (all m before) | inr here ↦ absurd (other (sym here)) ]

          fresh : Standing front old → Standing longer new
          fresh (Untouched g none kept) = InUse c.task present own unclosed (others_from (λ m made. absurd (none m made))) (inl (sym g ∙ absent))
          fresh (Absent g all freed) = InUse c.task present own unclosed (others_from all) (freed_on freed)
          fresh (InUse n there made free others freed) = absurd (some_none (get old p) there absent)
          fresh (Stayed excuse there n made all freed) = absurd (some_none (get old p) there absent)
      step_by stood (writes at bytes e file was micros f) =
          still_open (opened_by_user old stood (subst (λ (x : Call). UsesTemp x p) (sym e) refl)) (λ dest g. write_makes p p dest at bytes true (sym e ∙ g)) (λ closes. subst (λ (x : Call). IsClosing x) e closes)
          (some_is_there (get new p) _ f)
      step_by stood (spoils at bytes e f) =
          let o = opened_by_user old stood (subst (λ (x : Call). UsesTemp x p) (sym e) refl) in
          still_open o (λ dest g. write_makes p p dest at bytes false (sym e ∙ g)) (λ closes. subst (λ (x : Call). IsClosing x) e closes)
          (elim f [ inl kept ↦ subst (λ (o : Option HeldFile). IsSome o) (sym kept) o.there | inr any ↦ some_is_there (get new p) any.0 any.1 ])
      step_by stood (goes dest e other f) =
          let o = opened_by_user old stood (subst (λ (x : Call). UsesTemp x p) (sym e) refl) in
          Absent f (all_closed o (λ d g. rename_makes p dest p d None (sym e ∙ g)) (subst (λ (x : Call). IsClosing x) (sym e) tt)) (freed_on o.freed)
      step_by stood (arrives temp e file was f) = absurd (no_arrival temp e)
      step_by stood (drops e f) =
          let o = opened_by_user old stood (subst (λ (x : Call). UsesTemp x p) (sym e) refl) in
          Absent f (all_closed o (λ d g. drop_makes p p d true (sym e ∙ g)) (subst (λ (x : Call). IsClosing x) (sym e) tt)) (freed_on o.freed)
      step_by stood (leaves e f) =
          let o = opened_by_user old stood (subst (λ (x : Call). UsesTemp x p) (sym e) refl) in
          Stayed ((c, known, e), a.keep.left c p known e) (subst (λ (o : Option HeldFile). IsSome o) (sym f) o.there) c.task (made_on c.task o.made)
          (all_closed o (λ d g. drop_makes p p d false (sym e ∙ g)) (subst (λ (x : Call). IsClosing x) (sym e) tt)) (freed_on o.freed)
      step_by (Untouched g none kept) (removes e f) = Absent f (λ m made. absurd (none m (made_before (λ d h. remove_makes p p d true (sym e ∙ h)) m made))) (inr (c, has_last front c, e))
      step_by (Absent g all freed) (removes e f) = Absent f (all_closed_on (λ d h. remove_makes p p d true (sym e ∙ h)) all) (freed_on freed)
      step_by (InUse n there made unclosed others freed) (removes e f) = absurd (no_removal n made freed true e)
      step_by (Stayed excuse there n made all freed) (removes e f) = absurd (no_removal n made freed true e)
      step_by stood (stamps micros e file was f) = absurd (no_stamp micros e)

  pub standing : (part late : List TaskCall) → calls ≡ part ++ late → Standing part (files_after s.held part)
  standing part late is = through s.held calls Standing
      (λ front c back split stood. step_by front c back split (files_after s.held front) c.step.held stood
      (effect p c.step.call (files_after s.held front) c.step.held (leads_at front c back s.held (subst (λ (all : List TaskCall). IsCallRun s.held (steps_of all)) split a.runs))))
      (Untouched refl (λ m made. absurd made.1) (λ removed. absurd removed.1)) part late is
