-- The temporary file of a download while it is filled: what was written to it stands in it.
use Rattle.std.proofs.Common.{◌≡◌, ◌∙◌, ◌⊎◌, ◌+◌, ◌≤◌, ◌++◌, ℕ, Bool, true, false, List, [], ◌∷◌, Some, None, Ok, refl, sym, ap, subst, inl, inr, Contains, length, take, drop, slice_get, arith}
use Rattle.std.specs.FinMap.{get}
use Rattle.s3_model.specs.declared.answers.Class.{Class}
use Rattle.s3_model.specs.declared.places.Place.TheVariants as place
use Rattle.s3_model.specs.declared.requests.Ask.{Ask}
use Rattle.s3_model.specs.declared.tasks.Kind.TheVariants as kind
use Rattle.s3_model.specs.declared.tasks.Task.{Task}
use Rattle.s3_model.specs.Files.{HeldFile}
use Rattle.s3_model.specs.Maps.{MapOf}
use Rattle.s3_model.specs.Parts.{HasPieces}
use Rattle.s3_model.specs.Talks.{Talk}
use Rattle.job_terms.specs.Dispatches.{Dispatched}
use Rattle.run_promise.specs.Endings.{Excused}
use Rattle.run_promise.specs.Schedule.{Setting, is_small}
use Rattle.local_files.specs.Calls.{Call, DropTemp, IsCallRun, Leads, MakeTemp, Rename, WriteAt, written_at}
use Rattle.shared_lemmas.proofs.Clashes.{some_is}
use Rattle.shared_lemmas.proofs.Maps.{not_both}
use Rattle.shared_lemmas.proofs.Members.{Has, has-append_left}
use Rattle.run_promise.specs.FileCalls.{IsRangeIn, MayFollow, TaskCall, UsesTemp, files_after, steps_of}
use Rattle.run_promise.specs.FileCalls.{AreCalls}
use Rattle.file_laws.proofs.Effects.{Effect, Spares, arrives, drops, effect, goes, inserted, leaves, makes, removes, spoils, stamps, stays, writes}
use Rattle.file_laws.proofs.Keeping as keeping
use Rattle.file_laws.proofs.Keeping.{closed_unused, first_is_make, has_last, last_cases, run_of, same_number}
use Rattle.file_laws.proofs.Ranges.{AreSound, range_in, range_inside, ranges_apart}
use Rattle.file_laws.proofs.Runs.{leads_at, through}
use Rattle.file_laws.proofs.TempFiles as temps
use Rattle.file_laws.proofs.TempFiles.{Absent, InUse, Stayed, Untouched, write_makes}
use Rattle.local_files.proofs.Written.{written_beside, written_length, written_there}

swapped : {A B : Type 0} → A ⊎ B → B ⊎ A
swapped (inl a) = inr a
swapped (inr b) = inl b

module _ (Shows : Ask → ℕ → Talk → Class → List ℕ → Type 0) (s : Setting) (excused : Excused) (dispatched coming : List Dispatched) (calls : List TaskCall) (a : AreCalls Shows (run_of s excused dispatched coming calls))
    (n : ℕ) (task : Task) (is_task : slice_get s.tasks n ≡ Some task) (p d : List ℕ)
    (undownloaded : (m : ℕ) (other : Task) → slice_get s.tasks m ≡ Some other → other.kind ≡ kind.Download → other.dest ≡ place.File p → ⊥)
    (piece count : ℕ) (has : HasPieces s.config s.limits task.kind task.size piece count) (sound : AreSound (is_small s task) task.size piece count) where
  abbrev Made : List TaskCall → Type 0
  Made front = temps.Made Shows s excused dispatched coming calls a p undownloaded front n

  -- the rename may still come
  abbrev pub Precedes : List TaskCall → Type 0
  Precedes front = (x : TaskCall) → Has front x → x.task ≡ n → MayFollow x.step.call (Rename p d None)

  abbrev pub HoldsAll : List TaskCall → List ℕ → Type 0
  HoldsAll front all = (w : TaskCall) (at : ℕ) (bytes : List ℕ) → Has front w → w.task ≡ n → w.step.call ≡ WriteAt p at bytes true → (at + length bytes ≤ length all) × (take (length bytes) (drop at all) ≡ bytes)

  pub record IsFilled (front : List TaskCall) (now : MapOf HeldFile) : Type 0 where
    pub file : HeldFile
    pub there : get now p ≡ Some file
    pub inside : length file.bytes ≤ task.size
    pub holds : HoldsAll front file.bytes

  abbrev Filling : List TaskCall → MapOf HeldFile → Type 0
  Filling front now = Made front → Precedes front → IsFilled front now

  -- what the task writes has its range
  pub write_range : (w : TaskCall) (temp : List ℕ) (at : ℕ) (bytes : List ℕ) (fine : Bool) → Contains calls w → w.task ≡ n → w.step.call ≡ WriteAt temp at bytes fine
      → (number : ℕ) × IsRangeIn (is_small s task) task.size piece count number at (length bytes)
  write_range w temp at bytes fine known own e =
      let body = a.keep.writes w task temp at bytes fine known (ap (slice_get s.tasks) own ∙ is_task) e in
      (body.number, range_in s task piece count body.number at (length bytes) has body.range)

  module _ (front : List TaskCall) (c : TaskCall) (back : List TaskCall) (is : calls ≡ front ++ c ∷ back) (old new : MapOf HeldFile) where
    abbrev longer : List TaskCall
    longer = front ++ c ∷ []

    known : Contains calls c
    known = keeping.within Shows s excused dispatched coming calls a front c back is

    started : (dest : List ℕ) → c.task ≡ n → c.step.call ≡ MakeTemp dest (Ok p) → Leads c.step.call old new → IsFilled longer new
    started dest own e leads =
        let g = subst (λ (x : Call). Leads x old new) e leads in
        record { file = record { bytes = []; micros = g.2.0 }; there = inserted p (record { bytes = []; micros = g.2.0 }) old new g.2.1; inside = omega arith; holds = nothing }
      where
        nothing : HoldsAll longer []
        nothing w at bytes h of write = elim (last_cases front c w h) [
          | inl before ↦ absurd (first_is_make w.step.call dest (Ok p) (subst (λ (x : Call). MayFollow w.step.call x) e (keeping.follows Shows s excused dispatched coming calls a front c back w is before (of ∙ sym own))))
          | inr here ↦ absurd (write_makes p p dest at bytes true (sym write ∙ sym (ap (λ (x : TaskCall). x.step.call) here) ∙ e))
        ]

    module _ (before : Made front) (precedes : Precedes longer) (was : IsFilled front old) (stood : temps.Standing Shows s excused dispatched coming calls a p undownloaded front old) where
      abbrev Opened : ℕ → Type 0
      Opened m = temps.OpenedBy Shows s excused dispatched coming calls a p undownloaded front c back is old m

      unclosed : temps.Closed Shows s excused dispatched coming calls a p undownloaded front n → ⊥
      unclosed closed = closed_unused closed.0.step.call (Rename p d None) p closed.3 refl (precedes closed.0 (has-append_left front (c ∷ []) closed.0 closed.1) closed.2)

      opened : Opened n
      opened = by stood
        where
          by : temps.Standing Shows s excused dispatched coming calls a p undownloaded front old → Opened n
          by (Untouched e none kept) = absurd (none n before)
          by (Absent e all freed) = absurd (unclosed (all n before))
          by (Stayed excuse there m made all freed) = absurd (unclosed (all n before))
          by (InUse m there made free others freed) = elim (same_number n m) [
            | inl e ↦ subst Opened (sym e) (record { there = there; made = made; unclosed = free; others = others; freed = freed })
            | inr other ↦ absurd (unclosed (others n before other))
          ]

      -- who uses the file is its task
      own_use : UsesTemp c.step.call p → c.task ≡ n
      own_use uses = elim (same_number c.task n) [
        | inl e ↦ e
        | inr other ↦ absurd (temps.user_not_closed Shows s excused dispatched coming calls a p undownloaded front c back is uses
            (opened.others c.task (temps.made_by_user Shows s excused dispatched coming calls a p undownloaded front c back is uses) other))
      ]

      not_last : (call : Call) → c.step.call ≡ call → UsesTemp call p → MayFollow call (Rename p d None)
      not_last call e uses = subst (λ (x : Call). MayFollow x (Rename p d None)) e (precedes c (has_last front c) (own_use (subst (λ (x : Call). UsesTemp x p) (sym e) uses)))

      on : Effect p c.step.call old new → IsFilled longer new
      on (stays spares f) = record { file = was.file; there = f ∙ was.there; inside = was.inside; holds = kept }
        where
          kept : HoldsAll longer was.file.bytes
          kept w at bytes h of write = elim (last_cases front c w h) [
            | inl earlier ↦ was.holds w at bytes earlier of write
            | inr here ↦ absurd (subst (λ (x : Call). Spares p x) (ap (λ (x : TaskCall). x.step.call) here ∙ write) spares refl)
          ]
      on (makes dest e temp absent micros f) = absurd (not_both (get old p) was.file absent was.there)
      on (writes at bytes e file found micros f) = record {
        file = record { bytes = written; micros = micros };
        there = f;
        inside = sizes.0;
        holds = kept;
      }
        where
          written : List ℕ
          written = written_at at bytes file.bytes

          same : was.file.bytes ≡ file.bytes
          same = ap (λ (x : HeldFile). x.bytes) (some_is was.file file (sym was.there ∙ found))

          own : c.task ≡ n
          own = own_use (subst (λ (x : Call). UsesTemp x p) (sym e) refl)

          range : (number : ℕ) × IsRangeIn (is_small s task) task.size piece count number at (length bytes)
          range = write_range c p at bytes true known own e

          sizes : (length written ≤ task.size) × (at + length bytes ≤ length written) × (length file.bytes ≤ length written)
          sizes = written_length at bytes file.bytes task.size (subst (λ (xs : List ℕ). length xs ≤ task.size) same was.inside)
              (range_inside (is_small s task) task.size piece count range.0 at (length bytes) sound range.1)

          beside : (w : TaskCall) (from : ℕ) (more : List ℕ) → Has front w → w.task ≡ n → w.step.call ≡ WriteAt p from more true → (from + length more ≤ at) ⊎ (at + length bytes ≤ from)
          beside w from more h of write =
              let other = write_range w p from more true (keeping.within_front Shows s excused dispatched coming calls a front c back w is h) of write in
              let apart = subst (λ (x : Call). MayFollow x (WriteAt p at bytes true)) write
              (subst (λ (x : Call). MayFollow w.step.call x) e (keeping.follows Shows s excused dispatched coming calls a front c back w is h (of ∙ sym own))) in
              swapped (ranges_apart (is_small s task) task.size piece count other.0 from (length more) range.0 at (length bytes) other.1 range.1 apart)

          kept : HoldsAll longer written
          kept w from more h of write = elim (last_cases front c w h) [
            | inl earlier ↦
                let stands = was.holds w from more earlier of write in
                let fits : from + length more ≤ length file.bytes = subst (λ (xs : List ℕ). from + length more ≤ length xs) same stands.0 in
                let room = sizes.2 in (
                  omega arith,
                  written_beside at from (length more) bytes file.bytes fits (beside w from more earlier of write) ∙ ap (λ (xs : List ℕ). take (length more) (drop from xs)) (sym same) ∙ stands.1,
                )
            | inr here ↦
                let one = sym e ∙ ap (λ (x : TaskCall). x.step.call) here ∙ write in
                let at_is = write_at at from bytes more one in
                let bytes_is = write_bytes at from bytes more one in
                subst (λ (k : ℕ). (k + length more ≤ length written) × (take (length more) (drop k written) ≡ more)) at_is
                (subst (λ (xs : List ℕ). (at + length xs ≤ length written) × (take (length xs) (drop at written) ≡ xs)) bytes_is (sizes.1, written_there at bytes file.bytes))
          ]
            where
              write_at : (i j : ℕ) (xs ys : List ℕ) → WriteAt p i xs true ≡ WriteAt p j ys true → i ≡ j
              write_at i j xs ys e = cc

              write_bytes : (i j : ℕ) (xs ys : List ℕ) → WriteAt p i xs true ≡ WriteAt p j ys true → xs ≡ ys
              write_bytes i j xs ys e = cc
      on (spoils at bytes e f) = absurd (not_last (WriteAt p at bytes false) e refl)
      on (goes dest e other f) = absurd (not_last (Rename p dest None) e refl)
      on (arrives temp e file found f) = absurd (temps.no_arrival Shows s excused dispatched coming calls a p undownloaded front c back is temp e)
      on (drops e f) = absurd (not_last (DropTemp p true) e refl)
      on (leaves e f) = absurd (not_last (DropTemp p false) e refl)
      on (removes e f) = absurd (temps.no_removal Shows s excused dispatched coming calls a p undownloaded front c back is n before opened.freed true e)
      on (stamps micros e file found f) = absurd (temps.no_stamp Shows s excused dispatched coming calls a p undownloaded front c back is micros e)

    next : Filling front old → temps.Standing Shows s excused dispatched coming calls a p undownloaded front old → Leads c.step.call old new → Filling longer new
    next filling stood leads made precedes = elim (last_cases front c made.0 made.1) [
      | inr here ↦ started made.3 (ap (λ (x : TaskCall). x.task) here ∙ made.2) (ap (λ (x : TaskCall). x.step.call) here ∙ made.4) leads
      | inl earlier ↦
          let before : Made front = (made.0, earlier, made.2, made.3, made.4) in
          on before precedes (filling before (λ x h own. precedes x (has-append_left front (c ∷ []) x h) own)) stood (effect p c.step.call old new leads)
    ]

  pub filled : (part late : List TaskCall) → calls ≡ part ++ late → Filling part (files_after s.held part)
  filled part late is = through s.held calls Filling
      (λ front c back split filling. next front c back split (files_after s.held front) c.step.held filling
      (temps.standing Shows s excused dispatched coming calls a p undownloaded front (c ∷ back) split)
      (leads_at front c back s.held (subst (λ (all : List TaskCall). IsCallRun s.held (steps_of all)) split a.runs)))
      (λ made precedes. absurd made.1) part late is
