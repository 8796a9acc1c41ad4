-- What the clauses on calls say of any one call and of those before it.
use Rattle.std.proofs.Common.{◌≡◌, ◌⊎◌, ◌++◌, ℕ, Bool, true, false, List, [], ◌∷◌, Option, Some, None, Result, Ok, Err, refl, sym, subst, inl, inr, Contains, slice_get, arith}
use Rattle.std.specs.Prelude.{IsSome}
use Rattle.s3_model.specs.declared.answers.Class.{Class}
use Rattle.s3_model.specs.declared.places.Place.{Place}
use Rattle.s3_model.specs.declared.places.Place.TheVariants as place
use Rattle.s3_model.specs.declared.requests.Ask.{Ask}
use Rattle.s3_model.specs.declared.tasks.Kind.{Kind}
use Rattle.s3_model.specs.declared.tasks.Kind.TheVariants as kind
use Rattle.s3_model.specs.declared.tasks.Task.{Task}
use Rattle.s3_model.specs.Files.{HeldFile}
use Rattle.s3_model.specs.Talks.{Talk}
use Rattle.job_terms.specs.Dispatches.{Dispatched}
use Rattle.run_promise.specs.Endings.{Excused}
use Rattle.run_promise.specs.Schedule.{Setting}
use Rattle.local_files.specs.Calls.{Call, DropTemp, Fault, MakeTemp, Remove, Rename, Stamp, WriteAt}
use Rattle.shared_lemmas.proofs.Members.{contains_of, Has, has-append_cases, has-append_left, has_middle}
use Rattle.run_promise.specs.FileCalls.{IsCallFor, MayFollow, TaskCall, UsesTemp}
use Rattle.run_promise.specs.FileCalls.{AreCalls, FileRun}

abbrev pub run_of : Setting → Excused → (dispatched coming : List Dispatched) → List TaskCall → FileRun
run_of s excused dispatched coming calls = record { setting = s; excused = excused; dispatched = dispatched; coming = coming; calls = calls }

-- ---- members

pub has_last : (front : List TaskCall) (c : TaskCall) → Has (front ++ c ∷ []) c
has_last front c = has_middle front c []

pub last_cases : (front : List TaskCall) (c x : TaskCall) → Has (front ++ c ∷ []) x → Has front x ⊎ (c ≡ x)
last_cases front c x h = elim (has-append_cases front (c ∷ []) x h) [ inl before ↦ inl before | inr here ↦ inr (only here) ]
  where
    only : Has (c ∷ []) x → c ≡ x
    only (inl e) = e
    only (inr none) = absurd none

pub same_number : (a b : ℕ) → (a ≡ b) ⊎ (a ≡ b → ⊥)
same_number a b = grind arith

pub some_none : (found : Option HeldFile) → IsSome found → found ≡ None → ⊥
some_none None is e = cc
some_none (Some file) is e = cc

pub some_is_there : (found : Option HeldFile) (file : HeldFile) → found ≡ Some file → IsSome found
some_is_there found file e = subst (λ (o : Option HeldFile). IsSome o) (sym e) refl

pub same_path : (p q : List ℕ) → place.File p ≡ place.File q → p ≡ q
same_path p q e = cc

pub some_place : (a b : Place) → ◌≡◌ {A = Option Place} (Some a) (Some b) → a ≡ b
some_place a b e = cc

pub same_task : (a b : Task) → Some a ≡ Some b → a ≡ b
same_task a b e = cc

-- ---- calls

-- after it the task's temporary file is used no more
abbrev pub IsClosing : Call → Type 0
IsClosing (Rename temp dest None) = Unit {0}
IsClosing (DropTemp temp fine) = Unit {0}
IsClosing call = ⊥

pub closed_unused : (x y : Call) (p : List ℕ) → IsClosing x → UsesTemp y p → MayFollow x y → ⊥
closed_unused (Rename temp dest None) (Stamp path micros fine) p closes uses follows = absurd uses
closed_unused (Rename temp dest None) y p closes uses follows = absurd follows
closed_unused (Rename temp dest (Some fault)) y p closes uses follows = absurd closes
closed_unused (DropTemp temp fine) y p closes uses follows = absurd follows
closed_unused x y p closes uses follows = absurd closes

pub first_is_make : (x : Call) (dest : List ℕ) (answer : Result (List ℕ) Fault) → MayFollow x (MakeTemp dest answer) → ⊥
first_is_make (MakeTemp d (Ok temp)) dest answer follows = absurd follows
first_is_make (MakeTemp d (Err fault)) dest answer follows = absurd follows
first_is_make (WriteAt temp at bytes true) dest answer follows = absurd follows
first_is_make (WriteAt temp at bytes false) dest answer follows = absurd follows
first_is_make (Rename temp d None) dest answer follows = absurd follows
first_is_make (Rename temp d (Some fault)) dest answer follows = absurd follows
first_is_make (DropTemp temp fine) dest answer follows = absurd follows
first_is_make (Remove path fine) dest answer follows = absurd follows
first_is_make (Stamp path micros fine) dest answer follows = absurd follows

-- what closes after a file was made closes that file
pub closes_own : (dest temp : List ℕ) (y : Call) → MayFollow (MakeTemp dest (Ok temp)) y → IsClosing y → UsesTemp y temp
closes_own dest temp (Rename same to None) follows closes = follows
closes_own dest temp (DropTemp same fine) follows closes = follows
closes_own dest temp (Rename same to (Some fault)) follows closes = absurd closes
closes_own dest temp y follows closes = absurd closes

pub only_download_makes : (task : Task) (of_kind : Kind) (dest : List ℕ) (answer : Result (List ℕ) Fault) → IsCallFor task of_kind (MakeTemp dest answer) → (of_kind ≡ kind.Download) × (task.dest ≡ place.File dest)
only_download_makes task kind.Download dest answer h = (refl, h)
only_download_makes task of_kind dest answer h = absurd h

pub only_download_renames : (task : Task) (of_kind : Kind) (temp dest : List ℕ) (fault : Option Fault) → IsCallFor task of_kind (Rename temp dest fault) → (of_kind ≡ kind.Download) × (task.dest ≡ place.File dest)
only_download_renames task kind.Download temp dest fault h = (refl, h)
only_download_renames task of_kind temp dest fault h = absurd h

pub only_download_stamps : (task : Task) (of_kind : Kind) (path : List ℕ) (micros : ℕ) (fine : Bool) → IsCallFor task of_kind (Stamp path micros fine)
    → (of_kind ≡ kind.Download) × (task.dest ≡ place.File path) × (micros ≡ task.micros)
only_download_stamps task kind.Download path micros fine h = (refl, h.0, h.1)
only_download_stamps task of_kind path micros fine h = absurd h

pub who_removes : (task : Task) (of_kind : Kind) (path : List ℕ) (fine : Bool) → IsCallFor task of_kind (Remove path fine)
    → ((of_kind ≡ kind.RemoveFile) × (task.dest ≡ place.File path)) ⊎ ((of_kind ≡ kind.Upload) × (task.moves ≡ true) × (task.source ≡ Some (place.File path)))
who_removes task kind.RemoveFile path fine h = inl (refl, h)
who_removes task kind.Upload path fine h = inr (refl, h.0, h.1)
who_removes task of_kind path fine h = absurd h

pub true_false : true ≡ false → ⊥
true_false e = cc

pub removal_downloads : kind.RemoveFile ≡ kind.Download → ⊥
removal_downloads e = cc

pub upload_downloads : kind.Upload ≡ kind.Download → ⊥
upload_downloads e = cc

pub upload_removes : kind.Upload ≡ kind.RemoveFile → ⊥
upload_removes e = cc

module _ (Shows : Ask → ℕ → Talk → Class → List ℕ → Type 0) (s : Setting) (excused : Excused) (dispatched coming : List Dispatched) (calls : List TaskCall) (a : AreCalls Shows (run_of s excused dispatched coming calls)) where
  pub within : (front : List TaskCall) (c : TaskCall) (back : List TaskCall) → calls ≡ front ++ c ∷ back → Contains calls c
  within front c back is = subst (λ (all : List TaskCall). Contains all c) (sym is) (contains_of (front ++ c ∷ back) c (has_middle front c back))

  pub within_front : (front : List TaskCall) (c : TaskCall) (back : List TaskCall) (x : TaskCall) → calls ≡ front ++ c ∷ back → Has front x → Contains calls x
  within_front front c back x is h = subst (λ (all : List TaskCall). Contains all x) (sym is) (contains_of (front ++ c ∷ back) x (has-append_left front (c ∷ back) x h))

  -- a call and one before it, of one task
  pub follows : (front : List TaskCall) (c : TaskCall) (back : List TaskCall) (x : TaskCall) → calls ≡ front ++ c ∷ back → Has front x → x.task ≡ c.task → MayFollow x.step.call c.step.call
  follows front c back x is h same = a.keep.order front x c (back, is) (contains_of front x h) same

  -- the task of a call
  pub record Named (c : TaskCall) (call : Call) : Type 0 where
    pub task : Task
    pub is_task : slice_get s.tasks c.task ≡ Some task
    pub is_call : IsCallFor task task.kind call

  pub named : (c : TaskCall) (call : Call) → Contains calls c → c.step.call ≡ call → Named c call
  named c call known is =
      let own = a.keep.named c known in
      record { task = own.0; is_task = own.1; is_call = subst (λ (x : Call). IsCallFor own.0 own.0.kind x) is own.2 }
