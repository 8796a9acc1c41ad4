-- Calls that are written out keep their clauses, where each does by itself and beside those before it.
use Rattle.std.proofs.Common.{append_assoc, ◌≡◌, ◌∙◌, ◌⊎◌, ◌≤◌, ◌++◌, ℕ, true, false, List, [], ◌∷◌, Some, Ok, sym, ap, subst, inl, inr, AllPairs, Contains, get_or, slice_get, arith}
use Rattle.std.specs.Prelude.{IsSome}
use Rattle.std.specs.FinMap.{get}
use Rattle.std.proofs.lemmas.List.{append-nil}
use Rattle.std.proofs.lemmas.List.Elements.{Contains-get_or}
use Rattle.std.proofs.lemmas.List.Kept.{AllPairs-cons}
use Rattle.s3_model.specs.declared.answers.Class.{Class}
use Rattle.s3_model.specs.declared.outcomes.JobId.{JobId}
use Rattle.s3_model.specs.declared.places.Place.TheVariants as place
use Rattle.s3_model.specs.declared.requests.Ask.{Ask}
use Rattle.s3_model.specs.declared.requests.Op.TheVariants as op
use Rattle.s3_model.specs.declared.tasks.Kind.TheVariants as kind
use Rattle.s3_model.specs.declared.tasks.Task.{Task}
use Rattle.s3_model.specs.Files.{HeldFile}
use Rattle.s3_model.specs.Maps.{MapOf}
use Rattle.s3_model.specs.Talks.{Talk}
use Rattle.job_terms.specs.Dispatches.{Dispatched}
use Rattle.run_promise.specs.Endings.{Excused, IsLeft, IsUntimed}
use Rattle.run_promise.specs.Schedule.{IsBefore, Setting}
use Rattle.local_files.specs.Calls.{Call, DropTemp, MakeTemp, Rename, Stamp, WriteAt}
use Rattle.shared_lemmas.proofs.Lists.{head_is, no_middle, tail_is}
use Rattle.shared_lemmas.proofs.Members.{Has, has, split_of}
use Rattle.world_laws.proofs.ScheduleWitness.{one_task}
use Rattle.file_laws.proofs.Keeping.{true_false}
use Rattle.run_promise.specs.FileCalls.{AreFileCalls, AreFilesApart, AreWritten, HasFailedBefore, HasFailedDrop, HasFailedStamp, IsBody, IsCallFor, IsDecidedBefore, IsDropped, IsMade, IsRenamed, IsStamped, IsTidying, MayFollow, TaskCall, UsesTemp}

-- ---- lists that are written out

abbrev pub ForAll : {X : Type 0} → (X → Type 0) → List X → Type 0
ForAll P [] = Unit {0}
ForAll P (x ∷ xs) = P x × ForAll P xs

pub for_each : {X : Type 0} (P : X → Type 0) (xs : List X) → ForAll P xs → (x : X) → Has xs x → P x
for_each P [] all x h = absurd h
for_each P (y ∷ xs) all x (inl e) = subst P e all.0
for_each P (y ∷ xs) all x (inr h) = for_each P xs all.1 x h

abbrev pub Pairs : {X : Type 0} → (X → X → Type 0) → List X → Type 0
Pairs R [] = Unit {0}
Pairs R (x ∷ xs) = ForAll (R x) xs × Pairs R xs

pub all_pairs : {X : Type 0} (R : X → X → Type 0) (xs : List X) → Pairs R xs → AllPairs R xs
all_pairs R [] pairs = λ i j d before inside. absurd (omega arith)
all_pairs R (x ∷ xs) pairs =
    AllPairs-cons R x xs (λ k d inside. for_each (R x) xs pairs.0 (get_or xs k d) (has xs (get_or xs k d) (Contains-get_or xs k d inside))) (all_pairs R xs pairs.1)

-- each with those before it
abbrev pub Along : {X : Type 0} → (List X → X → Type 0) → List X → List X → Type 0
Along P before [] = Unit {0}
Along P before (x ∷ xs) = P before x × Along P (before ++ x ∷ []) xs

along_from : {X : Type 0} (P : List X → X → Type 0) (front before xs : List X) (x : X) (back : List X) → Along P before xs → xs ≡ front ++ x ∷ back → P (before ++ front) x
along_from P front before [] x back all is = absurd (no_middle front x back is)
along_from P [] before (y ∷ xs) x back all is = subst (P (before ++ [])) (head_is y x xs back is) (subst (λ (l : List _). P l y) (sym (append-nil before)) all.0)
along_from P (z ∷ front) before (y ∷ xs) x back all is =
    subst (λ (l : List _). P l x) (append_assoc before (y ∷ []) front ∙ ap (λ (w : _). before ++ w ∷ front) (head_is y z xs (front ++ x ∷ back) is))
    (along_from P front (before ++ y ∷ []) xs x back all.1 (tail_is y z xs (front ++ x ∷ back) is))

-- ---- a plan of one task that moves nothing

pub still_apart : (held : MapOf HeldFile) (task : Task) → task.moves ≡ false → ((path : List ℕ) → task.kind ≡ kind.RemoveFile → task.dest ≡ place.File path → IsSome (get held path)) → AreFilesApart held (task ∷ [])
still_apart held task still there = record {
  destinations = λ m n x y p to_x to_y. (one_task task m x to_x.0).0 ∙ sym (one_task task n y to_y.0).0;
  sources = λ m n x y p move to_y. stays m x move.0 move.1;
  moved_once = λ m n x y p move too. absurd (stays m x move.0 move.1);
  uploads = λ n x p move. absurd (stays n x move.0 move.1);
  one_way = λ m n x y p move is_y load. stays m x move.0 move.1;
  names = λ m n x y p to_x is_y load load_too named. (one_task task m x to_x.0).0 ∙ sym (one_task task n y is_y).0;
  there = λ n x p to_x removal.
      let only = sym (one_task task n x to_x.0).1 in
      there p (ap (λ (t : Task). t.kind) only ∙ removal) (ap (λ (t : Task). t.dest) only ∙ to_x.1);
}
  where
    stays : (n : ℕ) (x : Task) → slice_get (task ∷ []) n ≡ Some x → x.moves ≡ true → ⊥
    stays n x is moves = true_false (sym moves ∙ ap (λ (t : Task). t.moves) (one_task task n x is).1 ∙ still)

-- ---- what a call is to be, by what it is

abbrev pub OnWrite : (List ℕ → ℕ → List ℕ → Type 0) → Call → Type 0
OnWrite P (WriteAt temp at bytes fine) = P temp at bytes
OnWrite P call = Unit {0}

abbrev pub OnRename : (List ℕ → Type 0) → Call → Type 0
OnRename P (Rename temp dest fault) = P temp
OnRename P call = Unit {0}

abbrev pub OnStamp : Type 0 → Call → Type 0
OnStamp P (Stamp path micros fine) = P
OnStamp P call = Unit {0}

abbrev pub OnUse : (List ℕ → Type 0) → Call → Type 0
OnUse P (WriteAt temp at bytes fine) = P temp
OnUse P (Rename temp dest fault) = P temp
OnUse P (DropTemp temp fine) = P temp
OnUse P call = Unit {0}

-- a drop or a time that failed has its warning
abbrev pub IsWarned : Excused → Call → Type 0
IsWarned excused (DropTemp temp false) = IsLeft excused temp
IsWarned excused (Stamp path micros false) = IsUntimed excused path
IsWarned excused call = Unit {0}

on_use : (P : List ℕ → Type 0) (call : Call) (temp : List ℕ) → OnUse P call → UsesTemp call temp → P temp
on_use P (WriteAt q at bytes fine) temp h e = subst P e h
on_use P (Rename q dest fault) temp h e = subst P e h
on_use P (DropTemp q fine) temp h e = subst P e h
on_use P call temp h e = absurd e

module _ (Shows : Ask → ℕ → Talk → Class → List ℕ → Type 0) (s : Setting) (excused : Excused) (dispatched coming : List Dispatched) (task : Task) where
  -- a call keeps its clauses beside those before it
  pub record Keeps (front : List TaskCall) (c : TaskCall) : Type 0 where
    pub first : c.task ≡ 0
    pub is_call : IsCallFor task task.kind c.step.call
    pub warned : IsWarned excused c.step.call
    pub follows : ForAll (λ (earlier : TaskCall). MayFollow earlier.step.call c.step.call) front
    pub uses : OnUse (IsMade front 0) c.step.call
    pub writes : OnWrite (λ temp at bytes. IsBody Shows s dispatched 0 task c.events_before at bytes) c.step.call
    pub renames : OnRename (AreWritten s front 0 task) c.step.call
    pub stamps : OnStamp (IsRenamed front 0) c.step.call

  module _ (only : (n : ℕ) (other : Task) → slice_get s.tasks n ≡ Some other → other ≡ task) (first_task : slice_get s.tasks 0 ≡ Some task) (calls : List TaskCall) (keep : Along Keeps [] calls) where
    kept : (front : List TaskCall) (c : TaskCall) (back : List TaskCall) → calls ≡ front ++ c ∷ back → Keeps front c
    kept front c back is = along_from Keeps front [] calls c back keep is

    kept_one : (c : TaskCall) → Contains calls c → (front : List TaskCall) × Keeps front c
    kept_one c known = let split = split_of calls c (has calls c known) in (split.front, kept split.front c split.back split.is)

    pub calls_keep : s.dryrun ≡ false → ((c : TaskCall) → Contains calls c → task.kind ≡ kind.Upload → IsDecidedBefore Shows s dispatched 0 task c.events_before) → Pairs (λ (a b : TaskCall). a.events_before ≤ b.events_before) calls
        → ((c : Dispatched) → Contains dispatched c → c.dispatch.job.op ≡ op.Delete → ⊥)
        → ((c : Dispatched) → Contains dispatched c → c.dispatch.job.op ≡ op.Get → (made : TaskCall) × Contains calls made × (c.dispatch.job.task ≡ Some made.task) × (dest : List ℕ) × (temp : List ℕ) × (made.step.call ≡ MakeTemp dest (Ok temp))
        × (made.events_before ≤ c.dispatch.given_at))
        → ((c : TaskCall) → Contains calls c → IsBefore s.cancelled_at c.events_before ⊎ HasFailedBefore Shows s coming c.task c.events_before → IsTidying c.step.call)
        → ((path : List ℕ) → Contains excused.untimed path → HasFailedStamp calls path) → ((temp : List ℕ) → Contains excused.left temp → HasFailedDrop calls temp)
        → (IsRenamed calls 0 → IsStamped calls 0) → ((temp : List ℕ) → IsMade calls 0 temp → IsRenamed calls 0 ⊎ IsDropped calls 0)
        → AreFileCalls Shows s excused dispatched coming calls
    calls_keep carried_out decided places no_delete made_first stops untimed_only left_only stamped dropped = record {
      stops = stops;
      untimed_only = untimed_only;
      left_only = left_only;
      named = λ c known. let k = kept_one c known in (task, ap (slice_get s.tasks) k.1.first ∙ first_task, k.1.is_call);
      in_order = all_pairs (λ (a b : TaskCall). a.events_before ≤ b.events_before) calls places;
      dry = λ dried. absurd (clash (sym carried_out ∙ dried));
      order = λ front earlier later is h same. for_each (λ (x : TaskCall). MayFollow x.step.call later.step.call) front (kept front later is.0 is.1).follows earlier (has front earlier h);
      made = λ front c temp is uses. let k = kept front c is.0 is.1 in subst (λ (n : ℕ). IsMade front n temp) (sym k.first) (on_use (IsMade front 0) c.step.call temp k.uses uses);
      made_first = λ c n number known is.
          let m = made_first c known (ap (λ (j : JobId). j.op) is) in
          (m.0, m.1, some_is m.0.task n (sym m.2 ∙ ap (λ (j : JobId). j.task) is), m.3, m.4, m.5, m.6);
      writes = λ c other temp at bytes fine known is_other e.
          let k = (kept_one c known).1 in
          let body = subst (λ (x : Call). OnWrite (λ temp at bytes. IsBody Shows s dispatched 0 task c.events_before at bytes) x) e k.writes in
          subst (λ (t : Task). IsBody Shows s dispatched c.task t c.events_before at bytes) (sym (only c.task other is_other)) (subst (λ (n : ℕ). IsBody Shows s dispatched n task c.events_before at bytes) (sym k.first) body);
      renames = λ front c other temp dest fault is is_other e.
          let k = kept front c is.0 is.1 in
          let written = subst (λ (x : Call). OnRename (AreWritten s front 0 task) x) e k.renames in
          subst (λ (t : Task). AreWritten s front c.task t temp) (sym (only c.task other is_other)) (subst (λ (n : ℕ). AreWritten s front n task temp) (sym k.first) written);
      stamps = λ n re. let k = (kept_one re.0 re.1).1 in let zero = sym k.first ∙ re.2 in
          subst (IsStamped calls) zero (stamped (re.0, re.1, k.first, re.3, re.4, re.5));
      stamps_last = λ front c path micros fine is e. let k = kept front c is.0 is.1 in subst (IsRenamed front) (sym k.first) (subst (λ (x : Call). OnStamp (IsRenamed front 0) x) e k.stamps);
      untimed = λ c path micros known e. subst (λ (x : Call). IsWarned excused x) e (kept_one c known).1.warned;
      drops = λ n temp made. let k = (kept_one made.0 made.1).1 in let zero = sym k.first ∙ made.2 in
          subst (λ (m : ℕ). IsRenamed calls m ⊎ IsDropped calls m) zero (dropped temp (made.0, made.1, k.first, made.3, made.4));
      left = λ c temp known e. subst (λ (x : Call). IsWarned excused x) e (kept_one c known).1.warned;
      moves_last = λ c other path fine known is_other upload e.
          let by = decided c known (ap (λ (t : Task). t.kind) (sym (only c.task other is_other)) ∙ upload) in
          subst (λ (t : Task). IsDecidedBefore Shows s dispatched c.task t c.events_before) (sym (only c.task other is_other))
          (subst (λ (n : ℕ). IsDecidedBefore Shows s dispatched n task c.events_before) (sym (kept_one c known).1.first) by);
      deletes_last = λ c n other known of is_delete is_other load. absurd (no_delete c known is_delete);
    }
      where
        clash : false ≡ true → ⊥
        clash e = cc

        some_is : (m n : ℕ) → Some m ≡ Some n → m ≡ n
        some_is m n e = cc
