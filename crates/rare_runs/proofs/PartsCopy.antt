-- A copy in two parts keeps to the schedule, and its trace is one that fits.
use Rattle.std.proofs.Common.{◌≡◌, ◌∙◌, ◌+◌, ◌≤◌, ℕ, zero, suc, true, List, [], ◌∷◌, Some, refl, sym, ap, subst, inl, inr, Contains, slice_get, arith}
use Rattle.std.proofs.lemmas.List.{append-nil}
use Rattle.std.specs.Cmp.Lexicographic.{nat_list_cmp_total, slice_cmp}
use Rattle.std.specs.Cmp.{nat_cmp_total}
use Rattle.std.specs.Ordering.{nat_cmp}
use Rattle.std.specs.FinMap.{get, get-empty, insert, nat_cmp-IsAntisymmetric}
use Rattle.s3_model.specs.declared.answers.Reply.TheVariants as reply
use Rattle.s3_model.specs.declared.outcomes.JobId.{JobId}
use Rattle.s3_model.specs.declared.requests.Op.{Op}
use Rattle.s3_model.specs.declared.requests.Op.TheVariants as op
use Rattle.s3_model.specs.declared.tasks.Kind.TheVariants as kind
use Rattle.s3_model.specs.declared.tasks.Task.{Task}
use Rattle.s3_model.specs.Parts.{HasPieces}
use Rattle.s3_service.specs.ServiceState.{HasBucket, State, objects_in}
use Rattle.s3_service.specs.Serves.{IsOpen, IsThere}
use Rattle.job_terms.specs.Dispatches.{Dispatched}
use Rattle.job_terms.specs.Jobs.{Origin, Target, job_of}
use Rattle.run_promise.specs.Runs.{IsFitting}
use Rattle.run_promise.specs.Schedule.{AreETags, IsBefore, IsFailed, IsTaskAsk, IsUpload, gained_before, is_small, limit_of, source_bytes}
use Rattle.run_promise.specs.Truthful.{IsDest}
use Rattle.shared_lemmas.proofs.Clashes.{false_true as never, none_is_some, some_is}
use Rattle.shared_lemmas.proofs.Maps.{get-insert_other, get-insert_same, is_nothing, text_exact}
use Rattle.world_laws.specs.Rounds.{AreServed, Round, Told, dispatch_at}
use Rattle.world_laws.proofs.Faithful.{IsFaithful, faithful_with, rounds_fitting}
use Rattle.world_laws.proofs.Objects.{object_at-with_object}
use Rattle.world_laws.proofs.Rounds.{AreApart}
use Rattle.world_laws.proofs.ScheduleWitness.{AllPlain, CameWell, IsPlainRound, not_failed, rounds_schedule}
use Rattle.promise_examples.specs.Services.{object_of, one_bucket}
use Rattle.promise_examples.proofs.Concrete.{Each, Has, at, each, each_has}
use Rattle.promise_examples.proofs.Honest.{has_bucket, one_bucket_is_faithful}
use Rattle.promise_examples.proofs.Repeats.{other_job}
use Rattle.promise_examples.proofs.Scheduling.{other_op}
use Rattle.rare_runs.specs.CopyInParts.{CopyInPartsIsMet, after_both, after_one, both_parts, bucket, completing, content, copying, created, creating, etags, from_key, id, jobs, key, limits, no_part, one_part, part, rounds, run, setting, start, stored, task}

-- ---- what the service does

there : HasBucket start bucket
there = has_bucket (one_bucket bucket) bucket (insert (objects_in (one_bucket bucket) bucket) from_key (object_of content))

source_is : (t : State) → t.objects ≡ start.objects → IsThere t bucket from_key content (object_of content)
source_is t same = record {
  held = ap (λ objects. get (objects_in (record start { objects = objects }) bucket) from_key) same ∙ object_at-with_object (one_bucket bucket) bucket from_key (object_of content);
  etag = refl;
}

opened : IsOpen created id bucket key no_part
opened = record { held = get-insert_same nat_list_cmp_total text_exact start.uploads id no_part; bucket = refl; key = refl }

open_one : IsOpen after_one id bucket key one_part
open_one = record { held = get-insert_same nat_list_cmp_total text_exact created.uploads id one_part; bucket = refl; key = refl }

open_both : IsOpen after_both id bucket key both_parts
open_both = record { held = get-insert_same nat_list_cmp_total text_exact after_one.uploads id both_parts; bucket = refl; key = refl }

first_is_there : get both_parts.parts 1 ≡ Some (part 7 49)
first_is_there =
    get-insert_other nat_cmp_total nat_cmp-IsAntisymmetric one_part.parts 2 (part 8 50) 1 (λ e. absurd (omega arith))
    ∙ get-insert_same nat_cmp_total nat_cmp-IsAntisymmetric no_part.parts 1 (part 7 49)

second_is_there : get both_parts.parts 2 ≡ Some (part 8 50)
second_is_there = get-insert_same nat_cmp_total nat_cmp-IsAntisymmetric one_part.parts 2 (part 8 50)

served : AreServed limits start rounds
served = (
  (there, is_nothing (get start.uploads id) (get-empty (slice_cmp nat_cmp) id), is_nothing (get start.ended id) (get-empty (slice_cmp nat_cmp) id), no_part, record { bucket = refl; key = refl; parts = refl }, refl),
  (
    (no_part, object_of content, opened, source_is created refl, (omega arith, omega arith), refl),
    (
      (one_part, object_of content, open_one, source_is after_one refl, (omega arith, omega arith), refl),
      (
        inl (
          both_parts,
          content,
          stored,
          open_both,
          (λ fresh. absurd (never fresh)),
          ((7 ∷ []) ∷ (8 ∷ []) ∷ [], (first_is_there, (second_is_there, refl)), (omega arith, tt), omega arith, refl),
          (object_of content, refl, refl),
          refl,
        ),
        tt,
      ),
    ),
  ),
)

start_is : IsFaithful start
start_is = faithful_with (one_bucket bucket) bucket from_key content (one_bucket_is_faithful bucket)

stored_is : IsFaithful stored
stored_is = faithful_with after_both bucket key content start_is

-- ---- its jobs

of_round : (P : Round → Type 0) → Each P rounds → (r : Round) → Has rounds r → P r
of_round P all r h = each_has P rounds all r h

plain : (of_op : Op) → (of_op ≡ op.Abort → ⊥) → (number : ℕ) (r : Round) → r.job ≡ job_of 0 of_op number → IsPlainRound r
plain of_op no_abort number r is = record { task = 0; of_task = ap (λ (j : JobId). j.task) is; no_abort = λ e. no_abort (sym (ap (λ (j : JobId). j.op) is) ∙ e) }

all_plain : AllPlain rounds
all_plain = of_round IsPlainRound (
  plain op.Create (other_op op.Create op.Abort refl) 0 _ refl,
  (
    plain op.PartCopy (other_op op.PartCopy op.Abort refl) 1 _ refl,
    (plain op.PartCopy (other_op op.PartCopy op.Abort refl) 2 _ refl, (plain op.Complete (other_op op.Complete op.Abort refl) 0 _ refl, tt)),
  ),
)

all_well : (r : Round) → Has rounds r → CameWell r
all_well = of_round CameWell (
  record { not_refused = refl; fits_ask = λ place shown. tt },
  (record { not_refused = refl; fits_ask = λ place shown. tt }, (record { not_refused = refl; fits_ask = λ place shown. tt }, (record { not_refused = refl; fits_ask = λ place shown. tt }, tt))),
)

abbrev IsOther : Round → Round → Type 0
IsOther r other = r.job ≡ other.job → ⊥

apart : AreApart rounds
apart = (
  (λ other h. each_has (IsOther creating) (copying 1 49 after_one ∷ copying 2 50 after_both ∷ completing ∷ []) (other_job _ _ refl, (other_job _ _ refl, (other_job _ _ refl, tt))) other h),
  (
    (λ other h. each_has (IsOther (copying 1 49 after_one)) (copying 2 50 after_both ∷ completing ∷ []) (other_job _ _ refl, (other_job _ _ refl, tt)) other h),
    ((λ other h. each_has (IsOther (copying 2 50 after_both)) (completing ∷ []) (other_job _ _ refl, tt) other h), ((λ other h. absurd h), tt)),
  ),
)

none_failed : (c : Dispatched) → IsFailed Told setting jobs c → ⊥
none_failed c failed = not_failed setting rounds all_well c failed

-- ---- what they ask

pieces : HasPieces setting.config limits kind.Copy 2 1 2
pieces = inr (omega arith, (1, record { doublings = 0; is_multiple = refl; fits = omega arith; first = λ k below. absurd (omega arith) }, refl, refl))

abbrev to : Target task
to = record { bucket = bucket; key = key; is_dest = (refl, refl) }

abbrev from : Origin task
from = record { bucket = bucket; key = from_key; is_source = (refl, refl) }

abbrev Asks : Dispatched → ℕ → Type 0
Asks c n = (t : Task) × (piece : ℕ) × (count : ℕ) × (slice_get setting.tasks n ≡ Some t) × HasPieces setting.config setting.limits t.kind t.size piece count × (c.size ≡ t.size)
    × (c.limit ≡ limit_of t.size piece c.dispatch.job.number c.ask)
    × IsTaskAsk (gained_before Told jobs c.dispatch.given_at) t (record { number = n; bytes = source_bytes setting.held t.source; piece = piece; count = count })
    t.kind (is_small setting t) c.dispatch.job.op c.dispatch.job.number c.ask c.body

is_upload : (place : ℕ) → 2 ≤ place → IsUpload (gained_before Told jobs place) 0 id
is_upload place late = (dispatch_at 0 creating, at jobs 0 _ refl, refl, omega arith, (refl, [], (refl, refl)))

are_etags : AreETags (gained_before Told jobs 6) 0 op.PartCopy 2 etags
are_etags = record { each_part = refl; in_order = in_order }
  where
    in_order : (n : ℕ) (etag : List ℕ) → slice_get etags n ≡ Some etag → gained_before Told jobs 6 (job_of 0 op.PartCopy (n + 1)) (reply.PartStored etag)
    in_order zero etag is = subst (λ (e : List ℕ). gained_before Told jobs 6 (job_of 0 op.PartCopy 1) (reply.PartStored e)) (some_is (49 ∷ []) etag is)
        (dispatch_at 2 (copying 1 49 after_one), at jobs 1 _ refl, refl, omega arith, (refl, [], (refl, refl)))
    in_order (suc zero) etag is = subst (λ (e : List ℕ). gained_before Told jobs 6 (job_of 0 op.PartCopy 2) (reply.PartStored e)) (some_is (50 ∷ []) etag is)
        (dispatch_at 4 (copying 2 50 after_both), at jobs 2 _ refl, refl, omega arith, (refl, [], (refl, refl)))
    in_order (suc (suc n)) etag is = absurd (none_is_some etag is)

create_asks : Asks (dispatch_at 0 creating) 0
create_asks = (task, 1, 2, refl, pieces, refl, refl, (to, refl, refl, refl))

first_asks : Asks (dispatch_at 2 (copying 1 49 after_one)) 0
first_asks = (task, 1, 2, refl, pieces, refl, refl, (to, from, id, is_upload 2 (omega arith), (omega arith, omega arith), refl, refl))

second_asks : Asks (dispatch_at 4 (copying 2 50 after_both)) 0
second_asks = (task, 1, 2, refl, pieces, refl, refl, (to, from, id, is_upload 4 (omega arith), (omega arith, omega arith), refl, refl))

complete_asks : Asks (dispatch_at 6 completing) 0
complete_asks = (task, 1, 2, refl, pieces, refl, refl, ((to, id, etags, 0, is_upload 6 (omega arith), are_etags, refl), refl, refl))

abbrev AsksFirst : Dispatched → Type 0
AsksFirst c = (c.dispatch.job.task ≡ Some 0) × Asks c 0

all_ask : Each AsksFirst jobs
all_ask = ((refl, create_asks), ((refl, first_asks), ((refl, second_asks), ((refl, complete_asks), tt))))

asks : (c : Dispatched) (n : ℕ) → Contains jobs c → c.dispatch.job.task ≡ Some n → Asks c n
asks c n known of_task =
    let first = each AsksFirst jobs all_ask c known in
    subst (Asks c) (some_is 0 n (sym first.0 ∙ of_task)) first.1

-- ---- the upload is completed

all_completed : (n : ℕ) (i : List ℕ) (end : ℕ) → ((c : Dispatched) → Contains jobs c → IsBefore c.dispatch.came_at end) → IsUpload (gained_before Told jobs end) n i → gained_before Told jobs end (job_of n op.Complete 0) reply.Completed
all_completed n i end come created_it =
    let of_task = each (λ (c : Dispatched). c.dispatch.job.task ≡ Some 0) jobs (refl, (refl, (refl, (refl, tt)))) created_it.0 created_it.1 in
    let zero_is : 0 ≡ n = some_is 0 n (sym of_task ∙ ap (λ (j : JobId). j.task) created_it.2) in
    (dispatch_at 6 completing, at jobs 3 _ refl, ap (λ (m : ℕ). job_of m op.Complete 0) zero_is, come (dispatch_at 6 completing) (at jobs 3 _ refl), (refl, [], (refl, refl)))

stays : (n : ℕ) (t : Task) → slice_get (task ∷ []) n ≡ Some t → t.moves ≡ true → ⊥
stays zero t is moves = never (ap (λ (x : Task). x.moves) (some_is task t is) ∙ moves)
stays (suc n) t is moves = none_is_some t is

fitting : IsFitting Told limits run (IsDest setting.tasks)
fitting = rounds_fitting limits start rounds served apart start_is (start_is, (start_is, (start_is, (stored_is, tt)))) (IsDest setting.tasks)

pub copy_in_parts_is_met : CopyInPartsIsMet
copy_in_parts_is_met = record {
  schedule = rounds_schedule setting rounds apart all_plain (λ planning. planning ≡ []) refl refl (λ failed c is_failed known before. none_failed failed is_failed) all_completed asks
      (λ c n t known of_task is moves deletes. absurd (stays n t is moves));
  fitting = fitting;
  whole = ([], sym (append-nil run.trace), fitting.fits.moves);
  ended = (
    (λ c failing. none_failed c failing.0),
    (dispatch_at 6 completing, at jobs 3 _ refl, (tt, refl), (0, _, refl, refl)),
    (λ moves. absurd (never moves)),
    (λ fresh. absurd (never fresh)),
  );
}
