-- Calls of any number of tasks that are written out: when they keep their clauses.
use Rattle.std.proofs.Common.{◌≡◌, ◌∙◌, ◌⊎◌, ◌≤◌, ℕ, true, false, List, Some, None, Ok, sym, subst, Contains, slice_get}
use Rattle.s3_model.specs.declared.answers.Class.{Class}
use Rattle.s3_model.specs.declared.requests.Ask.{Ask}
use Rattle.s3_model.specs.declared.requests.Op.TheVariants as op
use Rattle.s3_model.specs.declared.tasks.Kind.TheVariants as kind
use Rattle.s3_model.specs.declared.tasks.Task.{Task}
use Rattle.s3_model.specs.Talks.{Talk}
use Rattle.job_terms.specs.Dispatches.{Dispatched}
use Rattle.run_promise.specs.Endings.{Excused}
use Rattle.run_promise.specs.Schedule.{IsBefore, Setting}
use Rattle.job_terms.specs.Jobs.{job_of}
use Rattle.local_files.specs.Calls.{Call, DropTemp, MakeTemp, Rename, WriteAt}
use Rattle.run_promise.specs.FileCalls.{AreFileCalls, AreWritten, HasFailedBefore, HasFailedDrop, HasFailedStamp, IsBody, IsCallFor, IsDecidedBefore, IsDropped, IsMade, IsRenamed, IsStamped, IsTidying, MayFollow, TaskCall, UsesTemp}
use Rattle.file_laws.proofs.CallWitness.{IsWarned, OnRename, OnStamp, OnUse, OnWrite}
use Rattle.promise_examples.proofs.Concrete.{Cuts, Each, Pairs, cut, each, pairs}

-- what is asked of a call that made a temporary file, and of one that renamed it
abbrev pub OnMade : Type 0 → Call → Type 0
OnMade P (MakeTemp dest (Ok temp)) = P
OnMade P call = Unit {0}

abbrev pub OnPlaced : Type 0 → Call → Type 0
OnPlaced P (Rename temp dest None) = P
OnPlaced P call = Unit {0}

on_use : (P : List ℕ → Type 0) (call : Call) (temp : List ℕ) → OnUse P call → UsesTemp call temp → P temp
on_use P (WriteAt q at bytes fine) temp h e = subst P e h
on_use P (Rename q dest fault) temp h e = subst P e h
on_use P (DropTemp q fine) temp h e = subst P e h
on_use P call temp h e = absurd e

clash : false ≡ true → ⊥
clash e = cc

module _ (Shows : Ask → ℕ → Talk → Class → List ℕ → Type 0) (s : Setting) (excused : Excused) (dispatched coming : List Dispatched) (calls : List TaskCall) where
  -- ---- what is said of each call, by its task

  abbrev OfTask : (Task → Type 0) → TaskCall → Type 0
  OfTask P c = (task : Task) → slice_get s.tasks c.task ≡ Some task → P task

  abbrev pub IsNamed : TaskCall → Type 0
  IsNamed c = (task : Task) × (slice_get s.tasks c.task ≡ Some task) × IsCallFor task task.kind c.step.call

  abbrev pub Follows : List TaskCall → TaskCall → Type 0
  Follows front c = Each (λ (earlier : TaskCall). earlier.task ≡ c.task → MayFollow earlier.step.call c.step.call) front

  abbrev pub Stops : TaskCall → Type 0
  Stops c = IsBefore s.cancelled_at c.events_before ⊎ HasFailedBefore Shows s coming c.task c.events_before → IsTidying c.step.call

  abbrev pub UsesMade : List TaskCall → TaskCall → Type 0
  UsesMade front c = OnUse (IsMade front c.task) c.step.call

  abbrev pub IsMadeFirst : Dispatched → Type 0
  IsMadeFirst get = (n number : ℕ) → get.dispatch.job ≡ job_of n op.Get number
      → (c : TaskCall) × Contains calls c × (c.task ≡ n) × (dest : List ℕ) × (temp : List ℕ) × (c.step.call ≡ MakeTemp dest (Ok temp)) × (c.events_before ≤ get.dispatch.given_at)

  abbrev pub WritesBody : TaskCall → Type 0
  WritesBody c = OfTask (λ task. OnWrite (λ temp at bytes. IsBody Shows s dispatched c.task task c.events_before at bytes) c.step.call) c

  abbrev pub RenamesWhole : List TaskCall → TaskCall → Type 0
  RenamesWhole front c = OfTask (λ task. OnRename (AreWritten s front c.task task) c.step.call) c

  abbrev pub IsTimed : TaskCall → Type 0
  IsTimed c = OnPlaced (IsStamped calls c.task) c.step.call

  abbrev pub StampsRenamed : List TaskCall → TaskCall → Type 0
  StampsRenamed front c = OnStamp (IsRenamed front c.task) c.step.call

  abbrev pub HasWarning : TaskCall → Type 0
  HasWarning c = IsWarned excused c.step.call

  abbrev pub IsTidied : TaskCall → Type 0
  IsTidied c = OnMade (IsRenamed calls c.task ⊎ IsDropped calls c.task) c.step.call

  abbrev pub MovesDecided : TaskCall → Type 0
  MovesDecided c = OfTask (λ task. task.kind ≡ kind.Upload → IsDecidedBefore Shows s dispatched c.task task c.events_before) c

  abbrev pub DeletesRenamed : Dispatched → Type 0
  DeletesRenamed delete = (n : ℕ) (task : Task) → delete.dispatch.job.task ≡ Some n → delete.dispatch.job.op ≡ op.Delete → slice_get s.tasks n ≡ Some task → task.kind ≡ kind.Download
      → (c : TaskCall) × Contains calls c × (c.task ≡ n) × (temp : List ℕ) × (dest : List ℕ) × (c.step.call ≡ Rename temp dest None) × (c.events_before ≤ delete.dispatch.given_at)

  pub record AreKept : Type 0 where
    pub named : Each IsNamed calls
    pub in_order : Pairs (λ (a b : TaskCall). a.events_before ≤ b.events_before) calls
    pub carried_out : s.dryrun ≡ false
    pub order : Cuts Follows calls
    pub stops : Each Stops calls
    pub made : Cuts UsesMade calls
    pub made_first : Each IsMadeFirst dispatched
    pub writes : Each WritesBody calls
    pub renames : Cuts RenamesWhole calls
    pub stamps : Each IsTimed calls
    pub stamps_last : Cuts StampsRenamed calls
    pub warned : Each HasWarning calls
    pub untimed_only : (path : List ℕ) → Contains excused.untimed path → HasFailedStamp calls path
    pub drops : Each IsTidied calls
    pub left_only : (temp : List ℕ) → Contains excused.left temp → HasFailedDrop calls temp
    pub moves_last : Each MovesDecided calls
    pub deletes_last : Each DeletesRenamed dispatched

  module _ (w : AreKept) where
    pub all_keep : AreFileCalls Shows s excused dispatched coming calls
    all_keep = record {
      named = λ c known. each IsNamed calls w.named c known;
      in_order = pairs (λ (a b : TaskCall). a.events_before ≤ b.events_before) calls w.in_order;
      dry = λ dried. absurd (clash (sym w.carried_out ∙ dried));
      order = λ front earlier later is h same.
          each (λ (c : TaskCall). c.task ≡ later.task → MayFollow c.step.call later.step.call) front (cut Follows calls w.order front later is.0 is.1) earlier h same;
      stops = λ c known. each Stops calls w.stops c known;
      made = λ front c temp is uses. on_use (IsMade front c.task) c.step.call temp (cut UsesMade calls w.made front c is.0 is.1) uses;
      made_first = λ get n number known is. each IsMadeFirst dispatched w.made_first get known n number is;
      writes = λ c task temp at bytes fine known is e.
          subst (λ (x : Call). OnWrite (λ temp at bytes. IsBody Shows s dispatched c.task task c.events_before at bytes) x) e (each WritesBody calls w.writes c known task is);
      renames = λ front c task temp dest fault is is_task e. subst (λ (x : Call). OnRename (AreWritten s front c.task task) x) e (cut RenamesWhole calls w.renames front c is.0 is.1 task is_task);
      stamps = λ n re. subst (IsStamped calls) re.2 (subst (λ (x : Call). OnPlaced (IsStamped calls re.0.task) x) re.5 (each IsTimed calls w.stamps re.0 re.1));
      stamps_last = λ front c path micros fine is e. subst (λ (x : Call). OnStamp (IsRenamed front c.task) x) e (cut StampsRenamed calls w.stamps_last front c is.0 is.1);
      untimed = λ c path micros known e. subst (λ (x : Call). IsWarned excused x) e (each HasWarning calls w.warned c known);
      untimed_only = w.untimed_only;
      drops = λ n temp made.
          subst (λ (m : ℕ). IsRenamed calls m ⊎ IsDropped calls m) made.2
          (subst (λ (x : Call). OnMade (IsRenamed calls made.0.task ⊎ IsDropped calls made.0.task) x) made.4 (each IsTidied calls w.drops made.0 made.1));
      left = λ c temp known e. subst (λ (x : Call). IsWarned excused x) e (each HasWarning calls w.warned c known);
      left_only = w.left_only;
      moves_last = λ c task path fine known is upload e. each MovesDecided calls w.moves_last c known task is upload;
      deletes_last = λ delete n task known of is_delete is_task load. each DeletesRenamed dispatched w.deletes_last delete known n task of is_delete is_task load;
    }
