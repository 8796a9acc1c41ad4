-- Runs whose jobs stand in the wrong order, or lack one, are refused.
use Rattle.std.proofs.Common.{◌≡◌, ◌∙◌, ◌<◌, ◌≤◌, ◌++◌, ℕ, zero, suc, Bool, true, false, List, [], ◌∷◌, Some, None, refl, sym, ap, subst, inl, inr, AllPairs, Contains, length, slice_get, arith}
use Rattle.std.specs.Prelude.{codes, nat_lt}
use Rattle.std.proofs.lemmas.List.Sorted.{IsPermutation-sym, Contains-permutation}
use Rattle.s3_model.specs.declared.requests.Ask.{Ask}
use Rattle.s3_model.specs.declared.requests.Ask.TheVariants as ask
use Rattle.s3_model.specs.declared.requests.Op.{Op}
use Rattle.s3_model.specs.declared.requests.Op.TheVariants as op
use Rattle.s3_model.specs.declared.answers.Class.{Class}
use Rattle.s3_model.specs.declared.answers.Class.TheVariants as class
use Rattle.s3_model.specs.declared.answers.Listed.{Listed}
use Rattle.s3_model.specs.declared.answers.Reply.TheVariants as reply
use Rattle.s3_model.specs.declared.tasks.Kind.TheVariants as kind
use Rattle.s3_model.specs.declared.tasks.Task.{Task}
use Rattle.s3_model.specs.declared.tries.Mark.TheVariants as mark
use Rattle.s3_model.specs.Lists.{Reserved}
use Rattle.s3_model.specs.Parts.{HasPieces, piece_count, within_limits}
use Rattle.s3_model.specs.Talks.{Talk}
use Rattle.run_promise.specs.Carried.{IsCarried}
use Rattle.run_promise.specs.Dispatches.{IsCut}
use Rattle.job_terms.specs.Dispatches.{Dispatched}
use Rattle.run_promise.specs.Schedule.{Gained, IsSchedule, IsTaskAsk, IsUpload, IsBefore, IsBeforeAny, gained_before, is_small, source_bytes}
use Rattle.shared_lemmas.proofs.Clashes.{false_true as never}
use Rattle.promise_examples.specs.Everything.{create_job, part_job, complete_job, copy_job, delete_job, create_answered, copy_answered, complete_again, upload, copy, id, limits, eventful_run}
use Rattle.promise_examples.specs.Orders as specs
use Rattle.promise_examples.specs.Orders.{OrdersAreRefused, abort_job, part_denied, first_stored, second_stored, third_stored, complete_answered, abort_answered, delete_answered}
use Rattle.promise_examples.specs.Reading.{Reads, signed_body}
use Rattle.promise_examples.specs.Runs.{Example}
use Rattle.promise_examples.proofs.Carrying.{same_again}
use Rattle.promise_examples.proofs.Concrete.{Has, at, contains_of, each, has, some_is}
use Rattle.promise_examples.proofs.GivenAgain.{of_pair}
use Rattle.promise_examples.proofs.Refuted.{refute}
use Rattle.promise_examples.proofs.Repeats.{other_job}
use Rattle.promise_examples.proofs.Scheduling.{other_op}
use Rattle.promise_examples.proofs.Shown.{made}

module _ (page_of : List ℕ → Listed) where
  abbrev Shows : Ask → ℕ → Talk → Class → List ℕ → Type 0
  Shows = Reads page_of

  abbrev Sched : List Dispatched → List Dispatched → Type 0
  Sched xs coming = IsSchedule Shows eventful_run.setting (λ planning. planning ≡ []) xs coming

  abbrev Carries : Example → List Dispatched → List Dispatched → Type 0
  Carries e xs coming = IsCarried Shows signed_body [] 80 e.setting e.journal e.logs e.notes xs coming

  -- ---- lists

  pub split_of : {X : Type 0} (xs : List X) (x : X) → Has xs x → (front : List X) × (back : List X) × (xs ≡ front ++ x ∷ back)
  split_of [] x h = absurd h
  split_of (y ∷ ys) x (inl e) = ([], ys, ap (λ z. z ∷ ys) e)
  split_of (y ∷ ys) x (inr h) = let rest = split_of ys x h in (y ∷ rest.0, rest.1, ap (λ zs. y ∷ zs) rest.2)

  has_behind : {X : Type 0} (front : List X) (x : X) (later : List X) (y : X) → Has later y → Has (front ++ x ∷ later) y
  has_behind [] x later y h = inr h
  has_behind (z ∷ front) x later y h = inr (has_behind front x later y h)

  place_of : {X : Type 0} (xs : List X) (x : X) → Has xs x → (k : ℕ) × (slice_get xs k ≡ Some x)
  place_of [] x h = absurd h
  place_of (y ∷ ys) x (inl e) = (0, ap Some e)
  place_of (y ∷ ys) x (inr h) = let rest = place_of ys x h in (suc rest.0, rest.1)

  behind_of : {X : Type 0} (R : X → X → Type 0) (front : List X) (x : X) (later : List X) (y : X) → AllPairs R (front ++ x ∷ later) → Has later y → R x y
  behind_of R [] x later y all h = let place = place_of later y h in of_pair R (x ∷ later) all 0 (suc place.0) x y (omega arith) refl place.1
  behind_of R (z ∷ front) x later y all h = behind_of R front x later y (λ i j d before within. all (suc i) (suc j) d (omega arith) (omega arith)) h

  -- ---- what the jobs of the upload ask

  abbrev Asks : Gained → Task → ℕ → ℕ → Op → ℕ → Ask → List ℕ → Type 0
  Asks gained task piece count of_op number asked body =
      IsTaskAsk gained task (record { number = 0; bytes = source_bytes eventful_run.setting.held task.source; piece = piece; count = count }) task.kind (is_small eventful_run.setting task) of_op number asked body

  part_upload : (gained : Gained) (task : Task) (piece count number : ℕ) (asked : Ask) (body : List ℕ) → Some upload ≡ Some task → Asks gained task piece count op.Part number asked body → (name : List ℕ) × IsUpload gained 0 name
  part_upload gained task piece count number asked body is asks =
      let here : Asks gained upload piece count op.Part number asked body = subst (λ (t : Task). Asks gained t piece count op.Part number asked body) (sym (some_is upload task is)) asks in (here.1, here.2)

  create_ask : (gained : Gained) (task : Task) (piece count number : ℕ) (asked : Ask) (body : List ℕ) → Some upload ≡ Some task → Asks gained task piece count op.Create number asked body
      → (bucket : List ℕ) × (key : List ℕ) × (asked ≡ ask.Create bucket key None)
  create_ask gained task piece count number asked body is asks =
      let here : Asks gained upload piece count op.Create number asked body = subst (λ (t : Task). Asks gained t piece count op.Create number asked body) (sym (some_is upload task is)) asks in (here.0.bucket, here.0.key, here.2)

  reads_created : (asked : Ask) (limit : ℕ) (bucket key : List ℕ) → asked ≡ ask.Create bucket key None → Shows asked limit create_answered (class.Success (reply.Created id)) []
  reads_created asked limit bucket key is = subst (λ (a : Ask). Shows a limit create_answered (class.Success (reply.Created id)) []) (sym is) (refl, refl)

  complete_ask : (gained : Gained) (task : Task) (piece count number : ℕ) (asked : Ask) (body : List ℕ) → Some upload ≡ Some task → Asks gained task piece count op.Complete number asked body
      → (bucket : List ℕ) × (key : List ℕ) × (of_id : List ℕ) × (etags : Reserved (List ℕ)) × (fresh : Bool) × (asked ≡ ask.Complete bucket key of_id etags fresh)
  complete_ask gained task piece count number asked body is asks =
      let here : Asks gained upload piece count op.Complete number asked body = subst (λ (t : Task). Asks gained t piece count op.Complete number asked body) (sym (some_is upload task is)) asks in
      (here.0.0.bucket, here.0.0.key, here.0.1, record { items = here.0.2; spare = here.0.3 }, false, here.0.6)

  reads_completed : (asked : Ask) (limit : ℕ) (bucket key of_id : List ℕ) (etags : Reserved (List ℕ)) (fresh : Bool) → asked ≡ ask.Complete bucket key of_id etags fresh
      → Shows asked limit complete_answered (class.Success reply.Completed) []
  reads_completed asked limit bucket key of_id etags fresh is = subst (λ (a : Ask). Shows a limit complete_answered (class.Success reply.Completed) []) (sym is) (refl, refl)

  -- ---- its pieces

  one_byte : (found : ℕ) → within_limits limits found ≡ 1
  one_byte zero = refl
  one_byte (suc zero) = refl
  one_byte (suc (suc n)) = let above : nat_lt 1 (suc (suc n)) ≡ true = grind arith in rw above refl

  two_pieces : (piece count : ℕ) → HasPieces eventful_run.setting.config limits kind.Upload 2 piece count → count ≡ 2
  two_pieces piece count (inl small) = absurd (omega arith)
  two_pieces piece count (inr parts) = parts.1.3 ∙ ap (piece_count 2) (parts.1.2 ∙ one_byte parts.1.0)

  second_of : (etags : List (List ℕ)) → length etags ≡ 2 → (etag : List ℕ) × (slice_get etags 1 ≡ Some etag)
  second_of [] e = absurd (omega arith)
  second_of (a ∷ []) e = absurd (omega arith)
  second_of (a ∷ b ∷ rest) e = (b, refl)

  complete_etags : (gained : Gained) (task : Task) (piece count number : ℕ) (asked : Ask) (body : List ℕ) → Some upload ≡ Some task → HasPieces eventful_run.setting.config limits task.kind task.size piece count
      → Asks gained task piece count op.Complete number asked body → (etag : List ℕ) × gained (part_job 2) (reply.PartStored etag)
  complete_etags gained task piece count number asked body is pieces asks =
      let same = sym (some_is upload task is) in
      let here : Asks gained upload piece count op.Complete number asked body = subst (λ (t : Task). Asks gained t piece count op.Complete number asked body) same asks in
      let two = two_pieces piece count (subst (λ (t : Task). HasPieces eventful_run.setting.config limits t.kind t.size piece count) same pieces) in
      let etags = here.0.5 in
      let second = second_of here.0.2 (etags.each_part ∙ two) in
      (second.0, etags.in_order 1 second.0 second.1)

  part_within : (gained : Gained) (task : Task) (piece count number : ℕ) (asked : Ask) (body : List ℕ) → Some upload ≡ Some task → HasPieces eventful_run.setting.config limits task.kind task.size piece count
      → Asks gained task piece count op.Part number asked body → number ≤ 2
  part_within gained task piece count number asked body is pieces asks =
      let same = sym (some_is upload task is) in
      let here : Asks gained upload piece count op.Part number asked body = subst (λ (t : Task). Asks gained t piece count op.Part number asked body) same asks in
      let two = two_pieces piece count (subst (λ (t : Task). HasPieces eventful_run.setting.config limits t.kind t.size piece count) same pieces) in
      let within : number ≤ count = here.3.1 in
      omega arith

  -- ---- an upload is left open after a part failed

  module _ (a1 : Ask) (b1 : List ℕ) (l1 s1 : ℕ) (a2 : Ask) (b2 : List ℕ) (l2 s2 : ℕ) (coming : List Dispatched) where
    abbrev no_abort_create : Dispatched
    no_abort_create = made (record { job = create_job; lane = 0; given_at = 0; came_at = Some 1; earlier = 0; is_second = false; attempts = record { mark = mark.Success; talk = create_answered } ∷ [] }) a1 b1 l1 s1

    abbrev no_abort_part1 : Dispatched
    no_abort_part1 = made (record { job = part_job 1; lane = 0; given_at = 2; came_at = Some 3; earlier = 0; is_second = false; attempts = record { mark = mark.Refusal; talk = part_denied } ∷ [] }) a2 b2 l2 s2

    abbrev jobs_no_abort : List Dispatched
    jobs_no_abort = no_abort_create ∷ no_abort_part1 ∷ []

    on_no_abort : Sched jobs_no_abort coming → ⊥
    on_no_abort schedule =
        let asks = schedule.asks no_abort_create 0 (at jobs_no_abort 0 no_abort_create refl) refl in
        let created = create_ask (gained_before Shows jobs_no_abort 0) asks.0 asks.1 asks.2 0 a1 b1 asks.3 asks.7 in
        elim (schedule.aborts 0 id 4 (λ c known. each (λ (d : Dispatched). IsBefore d.dispatch.came_at 4) jobs_no_abort (omega arith, (omega arith, tt)) c known)
        (no_abort_create, at jobs_no_abort 0 no_abort_create refl, refl, omega arith, (refl, _, reads_created a1 l1 created.0 created.1 created.2))) [
          | inl completed ↦ each (λ (c : Dispatched). c.dispatch.job ≡ complete_job → ⊥) jobs_no_abort (other_job create_job complete_job refl, (other_job (part_job 1) complete_job refl, tt)) completed.0 completed.1 completed.2
          | inr aborted ↦ each (λ (c : Dispatched). c.dispatch.job ≡ abort_job → ⊥) jobs_no_abort (other_job create_job abort_job refl, (other_job (part_job 1) abort_job refl, tt)) aborted.0 aborted.1 aborted.2
        ]

  -- ---- an Abort is given while a part is out

  module _ (a1 : Ask) (b1 : List ℕ) (l1 s1 : ℕ) (a2 : Ask) (b2 : List ℕ) (l2 s2 : ℕ) (a3 : Ask) (b3 : List ℕ) (l3 s3 : ℕ) (coming : List Dispatched) where
    abbrev early_abort_create : Dispatched
    early_abort_create = made (record { job = create_job; lane = 0; given_at = 0; came_at = Some 1; earlier = 0; is_second = false; attempts = record { mark = mark.Success; talk = create_answered } ∷ [] }) a1 b1 l1 s1

    abbrev early_abort_part1 : Dispatched
    early_abort_part1 = made (record { job = part_job 1; lane = 1; given_at = 2; came_at = Some 5; earlier = 0; is_second = false; attempts = record { mark = mark.Refusal; talk = part_denied } ∷ [] }) a2 b2 l2 s2

    abbrev early_abort_abort : Dispatched
    early_abort_abort = made (record { job = abort_job; lane = 0; given_at = 3; came_at = Some 4; earlier = 0; is_second = false; attempts = record { mark = mark.Success; talk = abort_answered } ∷ [] }) a3 b3 l3 s3

    abbrev jobs_early_abort : List Dispatched
    jobs_early_abort = early_abort_create ∷ early_abort_part1 ∷ early_abort_abort ∷ []

    on_early_abort : Sched jobs_early_abort coming → ⊥
    on_early_abort schedule =
        let late : 5 < 3 = schedule.abort_last early_abort_abort early_abort_part1 (at jobs_early_abort 2 early_abort_abort refl) (at jobs_early_abort 1 early_abort_part1 refl) refl refl (other_op op.Part op.Abort refl) in omega arith

  -- ---- the source of a move is deleted while its copy is out

  module _ (a1 : Ask) (b1 : List ℕ) (l1 s1 : ℕ) (a2 : Ask) (b2 : List ℕ) (l2 s2 : ℕ) (coming : List Dispatched) where
    abbrev early_delete_copy : Dispatched
    early_delete_copy = made (record { job = copy_job; lane = 0; given_at = 0; came_at = Some 2; earlier = 0; is_second = false; attempts = record { mark = mark.Success; talk = copy_answered } ∷ [] }) a1 b1 l1 s1

    abbrev early_delete_delete : Dispatched
    early_delete_delete = made (record { job = delete_job; lane = 1; given_at = 1; came_at = Some 3; earlier = 0; is_second = false; attempts = record { mark = mark.Success; talk = delete_answered } ∷ [] }) a2 b2 l2 s2

    abbrev jobs_early_delete : List Dispatched
    jobs_early_delete = early_delete_copy ∷ early_delete_delete ∷ []

    on_early_delete : Sched jobs_early_delete coming → ⊥
    on_early_delete schedule =
        let copied = schedule.moves_last early_delete_delete 1 copy (at jobs_early_delete 1 early_delete_delete refl) refl refl refl refl 1 1 (inl (omega arith, refl, refl)) in
        each (λ (c : Dispatched). c.dispatch.job ≡ copy_job → IsBefore c.dispatch.came_at 1 → ⊥) jobs_early_delete ((λ same late. absurd (omega arith)), ((λ same late. other_job delete_job copy_job refl same), tt))
        copied.0 copied.1 copied.2 copied.3

  -- ---- a part is given after another one failed

  module _ (a1 : Ask) (b1 : List ℕ) (l1 s1 : ℕ) (a2 : Ask) (b2 : List ℕ) (l2 s2 : ℕ) (a3 : Ask) (b3 : List ℕ) (l3 s3 : ℕ) (a4 : Ask) (b4 : List ℕ) (l4 s4 : ℕ) (coming : List Dispatched) where
    abbrev after_failure_create : Dispatched
    after_failure_create = made (record { job = create_job; lane = 0; given_at = 0; came_at = Some 1; earlier = 0; is_second = false; attempts = record { mark = mark.Success; talk = create_answered } ∷ [] }) a1 b1 l1 s1

    abbrev after_failure_part1 : Dispatched
    after_failure_part1 = made (record { job = part_job 1; lane = 0; given_at = 2; came_at = Some 3; earlier = 0; is_second = false; attempts = record { mark = mark.Refusal; talk = part_denied } ∷ [] }) a2 b2 l2 s2

    abbrev after_failure_part2 : Dispatched
    after_failure_part2 = made (record { job = part_job 2; lane = 0; given_at = 4; came_at = Some 5; earlier = 0; is_second = false; attempts = record { mark = mark.Success; talk = second_stored } ∷ [] }) a3 b3 l3 s3

    abbrev after_failure_abort : Dispatched
    after_failure_abort = made (record { job = abort_job; lane = 0; given_at = 6; came_at = Some 7; earlier = 0; is_second = false; attempts = record { mark = mark.Success; talk = abort_answered } ∷ [] }) a4 b4 l4 s4

    abbrev jobs_after_failure : List Dispatched
    jobs_after_failure = after_failure_create ∷ after_failure_part1 ∷ after_failure_part2 ∷ after_failure_abort ∷ []

    on_after_failure : Sched jobs_after_failure coming → ⊥
    on_after_failure schedule =
        let placed = split_of coming after_failure_part1 (has coming after_failure_part1 (Contains-permutation jobs_after_failure coming after_failure_part1 schedule.is_coming (at jobs_after_failure 1 after_failure_part1 refl))) in
        other_op op.Part op.Abort refl (schedule.stops after_failure_part1 after_failure_part2 (placed.0, placed.1, placed.2, uncut schedule placed.0 placed.1 placed.2 _, (λ well. refused_well well.0)) refl (other_op op.Part op.Abort refl)
        (at jobs_after_failure 2 after_failure_part2 refl) refl (omega arith))
      where
        refused_well : mark.Refusal ≡ mark.Success → ⊥
        refused_well e = cc

        uncut : Sched jobs_after_failure coming → (front later : List Dispatched) → coming ≡ front ++ after_failure_part1 ∷ later → (WasStopped : Type 0) → IsCut Shows 2 after_failure_part1 later WasStopped → ⊥
        uncut schedule front later e WasStopped (inl again) =
            let known : Contains jobs_after_failure again.0 = Contains-permutation coming jobs_after_failure again.0 (IsPermutation-sym jobs_after_failure coming schedule.is_coming)
            (contains_of coming again.0 (subst (λ (xs : List Dispatched). Has xs again.0) (sym e) (has_behind front after_failure_part1 later again.0 (has later again.0 again.1)))) in
            let after = behind_of (λ (c d : Dispatched). IsBeforeAny c.dispatch.came_at d.dispatch.came_at) front after_failure_part1 later again.0 (subst (AllPairs (λ (c d : Dispatched). IsBeforeAny c.dispatch.came_at d.dispatch.came_at)) e schedule.in_order) (has later again.0 again.1) in
            each (λ (c : Dispatched). c.dispatch.job ≡ part_job 1 → IsBeforeAny (Some 3) c.dispatch.came_at → ⊥) jobs_after_failure
            ((λ same late. other_job create_job (part_job 1) refl same), ((λ same late. absurd (omega arith)), ((λ same late. other_job (part_job 2) (part_job 1) refl same), ((λ same late. other_job abort_job (part_job 1) refl same), tt))))
            again.0 known again.2 after
        uncut schedule front later e WasStopped (inr stopped) =
            let goes = stopped.3 in never (same_again (class.Refusal (codes "AccessDenied") []) goes.0 goes.2.0 ∙ goes.3)

  -- ---- a part is given while Create is out

  module _ (a1 : Ask) (b1 : List ℕ) (l1 s1 : ℕ) (a2 : Ask) (b2 : List ℕ) (l2 s2 : ℕ) (coming : List Dispatched) where
    abbrev early_part_create : Dispatched
    early_part_create = made (record { job = create_job; lane = 0; given_at = 0; came_at = Some 2; earlier = 0; is_second = false; attempts = record { mark = mark.Success; talk = create_answered } ∷ [] }) a1 b1 l1 s1

    abbrev early_part_part1 : Dispatched
    early_part_part1 = made (record { job = part_job 1; lane = 1; given_at = 1; came_at = Some 3; earlier = 0; is_second = false; attempts = record { mark = mark.Success; talk = first_stored } ∷ [] }) a2 b2 l2 s2

    abbrev jobs_early_part : List Dispatched
    jobs_early_part = early_part_create ∷ early_part_part1 ∷ []

    on_early_part : Sched jobs_early_part coming → ⊥
    on_early_part schedule =
        let asks = schedule.asks early_part_part1 0 (at jobs_early_part 1 early_part_part1 refl) refl in
        let uploads = part_upload (gained_before Shows jobs_early_part 1) asks.0 asks.1 asks.2 1 a2 b2 asks.3 asks.7 in
        each (λ (c : Dispatched). c.dispatch.job ≡ create_job → IsBefore c.dispatch.came_at 1 → ⊥) jobs_early_part ((λ same late. absurd (omega arith)), ((λ same late. other_job (part_job 1) create_job refl same), tt))
        uploads.1.0 uploads.1.1 uploads.1.2 uploads.1.3

  -- ---- a lane gives back its second job before its first

  module _ (a1 : Ask) (b1 : List ℕ) (l1 s1 : ℕ) (a2 : Ask) (b2 : List ℕ) (l2 s2 : ℕ) (a3 : Ask) (b3 : List ℕ) (l3 s3 : ℕ) (a4 : Ask) (b4 : List ℕ) (l4 s4 : ℕ) (coming : List Dispatched) where
    abbrev out_of_turn_create : Dispatched
    out_of_turn_create = made (record { job = create_job; lane = 0; given_at = 0; came_at = Some 1; earlier = 0; is_second = false; attempts = record { mark = mark.Success; talk = create_answered } ∷ [] }) a1 b1 l1 s1

    abbrev out_of_turn_part1 : Dispatched
    out_of_turn_part1 = made (record { job = part_job 1; lane = 0; given_at = 2; came_at = Some 5; earlier = 0; is_second = false; attempts = record { mark = mark.Success; talk = first_stored } ∷ [] }) a2 b2 l2 s2

    abbrev out_of_turn_part2 : Dispatched
    out_of_turn_part2 = made (record { job = part_job 2; lane = 0; given_at = 3; came_at = Some 4; earlier = 0; is_second = false; attempts = record { mark = mark.Success; talk = second_stored } ∷ [] }) a3 b3 l3 s3

    abbrev out_of_turn_complete : Dispatched
    out_of_turn_complete = made (record { job = complete_job; lane = 0; given_at = 6; came_at = Some 7; earlier = 0; is_second = false; attempts = record { mark = mark.Success; talk = complete_answered } ∷ [] }) a4 b4 l4 s4

    abbrev jobs_out_of_turn : List Dispatched
    jobs_out_of_turn = out_of_turn_create ∷ out_of_turn_part1 ∷ out_of_turn_part2 ∷ out_of_turn_complete ∷ []

    on_out_of_turn : Carries specs.out_of_turn jobs_out_of_turn coming → ⊥
    on_out_of_turn carried =
        let late : 5 < 4 = of_pair (λ (a b : Dispatched). (place : ℕ) → b.dispatch.came_at ≡ Some place → IsBefore a.dispatch.came_at place) jobs_out_of_turn (carried.in_turn 0) 1 2 out_of_turn_part1 out_of_turn_part2
        (omega arith) refl refl 4 refl in omega arith

  -- ---- an upload that was completed is aborted

  module _ (a1 : Ask) (b1 : List ℕ) (l1 s1 : ℕ) (a2 : Ask) (b2 : List ℕ) (l2 s2 : ℕ) (a3 : Ask) (b3 : List ℕ) (l3 s3 : ℕ) (a4 : Ask) (b4 : List ℕ) (l4 s4 : ℕ) (a5 : Ask) (b5 : List ℕ) (l5 s5 : ℕ) (coming : List Dispatched) where
    abbrev abort_after_complete_create : Dispatched
    abort_after_complete_create = made (record { job = create_job; lane = 0; given_at = 0; came_at = Some 1; earlier = 0; is_second = false; attempts = record { mark = mark.Success; talk = create_answered } ∷ [] }) a1 b1 l1 s1

    abbrev abort_after_complete_part1 : Dispatched
    abort_after_complete_part1 = made (record { job = part_job 1; lane = 0; given_at = 2; came_at = Some 3; earlier = 0; is_second = false; attempts = record { mark = mark.Success; talk = first_stored } ∷ [] }) a2 b2 l2 s2

    abbrev abort_after_complete_part2 : Dispatched
    abort_after_complete_part2 = made (record { job = part_job 2; lane = 0; given_at = 4; came_at = Some 5; earlier = 0; is_second = false; attempts = record { mark = mark.Success; talk = second_stored } ∷ [] }) a3 b3 l3 s3

    abbrev abort_after_complete_complete : Dispatched
    abort_after_complete_complete = made (record { job = complete_job; lane = 0; given_at = 6; came_at = Some 7; earlier = 0; is_second = false; attempts = record { mark = mark.Success; talk = complete_answered } ∷ [] }) a4 b4 l4 s4

    abbrev abort_after_complete_abort : Dispatched
    abort_after_complete_abort = made (record { job = abort_job; lane = 0; given_at = 8; came_at = Some 9; earlier = 0; is_second = false; attempts = record { mark = mark.Success; talk = abort_answered } ∷ [] }) a5 b5 l5 s5

    abbrev jobs_abort_after_complete : List Dispatched
    jobs_abort_after_complete = abort_after_complete_create ∷ abort_after_complete_part1 ∷ abort_after_complete_part2 ∷ abort_after_complete_complete ∷ abort_after_complete_abort ∷ []

    on_abort_after_complete : Sched jobs_abort_after_complete coming → ⊥
    on_abort_after_complete schedule =
        let asks = schedule.asks abort_after_complete_complete 0 (at jobs_abort_after_complete 3 abort_after_complete_complete refl) refl in
        let joined = complete_ask (gained_before Shows jobs_abort_after_complete 6) asks.0 asks.1 asks.2 0 a4 b4 asks.3 asks.7 in
        schedule.completed_stays 0 10 abort_after_complete_abort (at jobs_abort_after_complete 4 abort_after_complete_abort refl) refl
        (abort_after_complete_complete, at jobs_abort_after_complete 3 abort_after_complete_complete refl, refl, omega arith, (refl, _, reads_completed a4 l4 joined.0 joined.1 joined.2 joined.3 joined.4 joined.5))

  -- ---- Complete is given without one of the parts

  module _ (a1 : Ask) (b1 : List ℕ) (l1 s1 : ℕ) (a2 : Ask) (b2 : List ℕ) (l2 s2 : ℕ) (a3 : Ask) (b3 : List ℕ) (l3 s3 : ℕ) (coming : List Dispatched) where
    abbrev early_complete_create : Dispatched
    early_complete_create = made (record { job = create_job; lane = 0; given_at = 0; came_at = Some 1; earlier = 0; is_second = false; attempts = record { mark = mark.Success; talk = create_answered } ∷ [] }) a1 b1 l1 s1

    abbrev early_complete_part1 : Dispatched
    early_complete_part1 = made (record { job = part_job 1; lane = 0; given_at = 2; came_at = Some 3; earlier = 0; is_second = false; attempts = record { mark = mark.Success; talk = first_stored } ∷ [] }) a2 b2 l2 s2

    abbrev early_complete_complete : Dispatched
    early_complete_complete = made (record { job = complete_job; lane = 0; given_at = 4; came_at = Some 5; earlier = 0; is_second = false; attempts = record { mark = mark.Success; talk = complete_answered } ∷ [] }) a3 b3 l3 s3

    abbrev jobs_early_complete : List Dispatched
    jobs_early_complete = early_complete_create ∷ early_complete_part1 ∷ early_complete_complete ∷ []

    on_early_complete : Sched jobs_early_complete coming → ⊥
    on_early_complete schedule =
        let asks = schedule.asks early_complete_complete 0 (at jobs_early_complete 2 early_complete_complete refl) refl in
        let parts = complete_etags (gained_before Shows jobs_early_complete 4) asks.0 asks.1 asks.2 0 a3 b3 asks.3 asks.4 asks.7 in
        each (λ (c : Dispatched). c.dispatch.job ≡ part_job 2 → ⊥) jobs_early_complete (other_job create_job (part_job 2) refl, (other_job (part_job 1) (part_job 2) refl, (other_job complete_job (part_job 2) refl, tt)))
        parts.1.0 parts.1.1 parts.1.2

  -- ---- a part is given behind the last one

  module _ (a1 : Ask) (b1 : List ℕ) (l1 s1 : ℕ) (a2 : Ask) (b2 : List ℕ) (l2 s2 : ℕ) (a3 : Ask) (b3 : List ℕ) (l3 s3 : ℕ) (a4 : Ask) (b4 : List ℕ) (l4 s4 : ℕ) (a5 : Ask) (b5 : List ℕ) (l5 s5 : ℕ) (coming : List Dispatched) where
    abbrev part_beyond_create : Dispatched
    part_beyond_create = made (record { job = create_job; lane = 0; given_at = 0; came_at = Some 1; earlier = 0; is_second = false; attempts = record { mark = mark.Success; talk = create_answered } ∷ [] }) a1 b1 l1 s1

    abbrev part_beyond_part1 : Dispatched
    part_beyond_part1 = made (record { job = part_job 1; lane = 0; given_at = 2; came_at = Some 3; earlier = 0; is_second = false; attempts = record { mark = mark.Success; talk = first_stored } ∷ [] }) a2 b2 l2 s2

    abbrev part_beyond_part2 : Dispatched
    part_beyond_part2 = made (record { job = part_job 2; lane = 0; given_at = 4; came_at = Some 5; earlier = 0; is_second = false; attempts = record { mark = mark.Success; talk = second_stored } ∷ [] }) a3 b3 l3 s3

    abbrev part_beyond_part3 : Dispatched
    part_beyond_part3 = made (record { job = part_job 3; lane = 0; given_at = 6; came_at = Some 7; earlier = 0; is_second = false; attempts = record { mark = mark.Success; talk = third_stored } ∷ [] }) a4 b4 l4 s4

    abbrev part_beyond_complete : Dispatched
    part_beyond_complete = made (record { job = complete_job; lane = 0; given_at = 8; came_at = Some 9; earlier = 0; is_second = false; attempts = record { mark = mark.Success; talk = complete_again } ∷ [] }) a5 b5 l5 s5

    abbrev jobs_part_beyond : List Dispatched
    jobs_part_beyond = part_beyond_create ∷ part_beyond_part1 ∷ part_beyond_part2 ∷ part_beyond_part3 ∷ part_beyond_complete ∷ []

    on_part_beyond : Sched jobs_part_beyond coming → ⊥
    on_part_beyond schedule =
        let asks = schedule.asks part_beyond_part3 0 (at jobs_part_beyond 3 part_beyond_part3 refl) refl in
        let within : 3 ≤ 2 = part_within (gained_before Shows jobs_part_beyond 6) asks.0 asks.1 asks.2 3 a4 b4 asks.3 asks.4 asks.7 in omega arith

  pub orders : OrdersAreRefused page_of
  orders = record {
    no_abort = refute page_of specs.no_abort (λ a1 b1 l1 s1 a2 b2 l2 s2 coming schedule carried. on_no_abort a1 b1 l1 s1 a2 b2 l2 s2 coming schedule);
    early_abort = refute page_of specs.early_abort (λ a1 b1 l1 s1 a2 b2 l2 s2 a3 b3 l3 s3 coming schedule carried. on_early_abort a1 b1 l1 s1 a2 b2 l2 s2 a3 b3 l3 s3 coming schedule);
    early_delete = refute page_of specs.early_delete (λ a1 b1 l1 s1 a2 b2 l2 s2 coming schedule carried. on_early_delete a1 b1 l1 s1 a2 b2 l2 s2 coming schedule);
    after_failure = refute page_of specs.after_failure (λ a1 b1 l1 s1 a2 b2 l2 s2 a3 b3 l3 s3 a4 b4 l4 s4 coming schedule carried. on_after_failure a1 b1 l1 s1 a2 b2 l2 s2 a3 b3 l3 s3 a4 b4 l4 s4 coming schedule);
    early_part = refute page_of specs.early_part (λ a1 b1 l1 s1 a2 b2 l2 s2 coming schedule carried. on_early_part a1 b1 l1 s1 a2 b2 l2 s2 coming schedule);
    out_of_turn = refute page_of specs.out_of_turn (λ a1 b1 l1 s1 a2 b2 l2 s2 a3 b3 l3 s3 a4 b4 l4 s4 coming schedule carried. on_out_of_turn a1 b1 l1 s1 a2 b2 l2 s2 a3 b3 l3 s3 a4 b4 l4 s4 coming carried);
    abort_after_complete = refute page_of specs.abort_after_complete (λ a1 b1 l1 s1 a2 b2 l2 s2 a3 b3 l3 s3 a4 b4 l4 s4 a5 b5 l5 s5 coming schedule carried. on_abort_after_complete a1 b1 l1 s1 a2 b2 l2 s2 a3 b3 l3 s3 a4 b4 l4 s4 a5 b5 l5 s5 coming schedule);
    early_complete = refute page_of specs.early_complete (λ a1 b1 l1 s1 a2 b2 l2 s2 a3 b3 l3 s3 coming schedule carried. on_early_complete a1 b1 l1 s1 a2 b2 l2 s2 a3 b3 l3 s3 coming schedule);
    part_beyond = refute page_of specs.part_beyond (λ a1 b1 l1 s1 a2 b2 l2 s2 a3 b3 l3 s3 a4 b4 l4 s4 a5 b5 l5 s5 coming schedule carried. on_part_beyond a1 b1 l1 s1 a2 b2 l2 s2 a3 b3 l3 s3 a4 b4 l4 s4 a5 b5 l5 s5 coming schedule);
  }
