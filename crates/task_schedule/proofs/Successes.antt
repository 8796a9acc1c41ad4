-- What a history says came with success.
use Rattle.std.proofs.Common.{◌≡◌, ◌∙◌, ◌+◌, ◌<◌, ◌≤◌, ℕ, zero, suc, Bool, true, false, List, [], ◌∷◌, Option, Some, None, refl, sym, ap, inl, inr, arith, length, map, slice_get}
use Rattle.std.specs.List.{range_with_len}
use Rattle.std.specs.Option.{option_or}
use Rattle.std.specs.Prelude.{is_some, if◌then◌else◌}
use Rattle.jobs.specs.Endings.{SeenCarried}
use Rattle.jobs.specs.declared.ending.Ending.{Ending}
use Rattle.jobs.specs.declared.ending.Ending.TheVariants as ending
use Rattle.kept_jobs.specs.Tags.{present}
use Rattle.job_terms.specs.Jobs.{job_of}
use Rattle.s3_model.specs.declared.answers.Reply.{Reply}
use Rattle.s3_model.specs.declared.answers.Reply.TheVariants as reply
use Rattle.s3_model.specs.declared.requests.Op.{Op}
use Rattle.s3_model.specs.declared.requests.Op.TheVariants as op
use Rattle.task_acts.specs.declared.acts.Act.{Act}
use Rattle.task_acts.specs.declared.acts.Act.TheVariants as act
use Rattle.task_acts.specs.Histories.{Came, Cancelled, Gave, Happening, History, Returned, Taken, is_act, sent}
use Rattle.task_acts.specs.Kept.{created_in, etag_in, etag_of, upload_in, upload_of}
use Rattle.shared_lemmas.proofs.Clashes.{none_is_some, some_is}
use Rattle.shared_lemmas.proofs.Members.{Has, contains_of}
use Rattle.job_terms.proofs.SameJobs.{job_is}
use Rattle.task_progress.proofs.Begun.{same_act}
use Rattle.task_progress.proofs.Endings.{no}
use Rattle.task_schedule.specs.Asks.{AreOfTask, gained_in}

-- ---- a job that came with that reply

-- the same, by op and number
pub record CameWith (h : History) (o : Op) (k : ℕ) (said : Reply) : Type 0 where
  pub carried : SeenCarried
  pub known : Has h (Came carried)
  pub op_is : carried.job.id.op ≡ o
  pub number_is : carried.job.id.number ≡ k
  pub gains : carried.ending ≡ ending.Gained said

pub before_too : (e : Happening) (h : History) (o : Op) (k : ℕ) (said : Reply) → CameWith h o k said → CameWith (e ∷ h) o k said
before_too e h o k said c = record { carried = c.carried; known = inr c.known; op_is = c.op_is; number_is = c.number_is; gains = c.gains }

pub is_gained : (n : ℕ) (h : History) (o : Op) (k : ℕ) (said : Reply) → AreOfTask n h → CameWith h o k said → gained_in h (job_of n o k) said
is_gained n h o k said of c = (
  c.carried,
  contains_of h (Came c.carried) c.known,
  job_is c.carried.job.id (job_of n o k) (of c.carried (contains_of h (Came c.carried) c.known)) c.op_is c.number_is,
  c.gains,
)

op_in : Act → Op
op_in (act.Send o k) = o
op_in a = op.Head

number_in : Act → ℕ
number_in (act.Send o k) = k
number_in a = 0

pub sends : (o : Op) (k : ℕ) (c : SeenCarried) → is_act (act.Send o k) (sent c) ≡ true → (c.job.id.op ≡ o) × (c.job.id.number ≡ k)
unfolding op_in number_in
sends o k c e = let is = same_act (act.Send o k) (sent c) e in (ap op_in (sym is), ap number_in (sym is))

-- ---- uploads

created_by : (e : Ending) (id : List ℕ) → created_in e ≡ Some id → e ≡ ending.Gained (reply.Created id)
created_by (ending.Gained (reply.Created upload)) id is = ap (λ (u : List ℕ). ending.Gained (reply.Created u)) (some_is upload id is)
created_by e id is = absurd (none_is_some id is)

named_in : (c : SeenCarried) (id : List ℕ) (b : Bool) → is_act (act.Send op.Create 0) (sent c) ≡ b → (if b then created_in c.ending else None) ≡ Some id
    → (is_act (act.Send op.Create 0) (sent c) ≡ true) × (c.ending ≡ ending.Gained (reply.Created id))
named_in c id true same is = (same, created_by c.ending id is)
named_in c id false same is = absurd (none_is_some id is)

pub upload_came : (h : History) (id : List ℕ) → upload_of h ≡ Some id → CameWith h op.Create 0 (reply.Created id)
upload_came [] id is = absurd (none_is_some id is)
upload_came (Came c ∷ h) id is = by (upload_in c) refl is (λ e. upload_came h id e)
  where
    by : (x : Option (List ℕ)) → upload_in c ≡ x → option_or x (upload_of h) ≡ Some id → (upload_of h ≡ Some id → CameWith h op.Create 0 (reply.Created id))
        → CameWith (Came c ∷ h) op.Create 0 (reply.Created id)
    by None e f rest = before_too (Came c) h op.Create 0 (reply.Created id) (rest f)
    by (Some upload) e f rest =
        let found = named_in c id (is_act (act.Send op.Create 0) (sent c)) refl (e ∙ f) in
        let at = sends op.Create 0 c found.0 in
        record { carried = c; known = inl refl; op_is = at.0; number_is = at.1; gains = found.1 }
upload_came (Gave g ∷ h) id is = before_too (Gave g) h op.Create 0 (reply.Created id) (upload_came h id is)
upload_came (Returned a r ∷ h) id is = before_too (Returned a r) h op.Create 0 (reply.Created id) (upload_came h id is)
upload_came (Cancelled reason ∷ h) id is = before_too (Cancelled reason) h op.Create 0 (reply.Created id) (upload_came h id is)
upload_came (Taken o k ∷ h) id is = before_too (Taken o k) h op.Create 0 (reply.Created id) (upload_came h id is)

-- ---- entity tags

tagged_by : (e : Ending) (etag : List ℕ) → etag_in e ≡ Some etag → e ≡ ending.Gained (reply.PartStored etag)
tagged_by (ending.Gained (reply.PartStored tag)) etag is = ap (λ (t : List ℕ). ending.Gained (reply.PartStored t)) (some_is tag etag is)
tagged_by e etag is = absurd (none_is_some etag is)

module _ (o : Op) (k : ℕ) (etag : List ℕ) where
  pub tag_came : (h : History) → etag_of h (act.Send o k) ≡ Some etag → CameWith h o k (reply.PartStored etag)
  tag_came [] is = absurd (none_is_some etag is)
  tag_came (Came c ∷ h) is = by (is_act (act.Send o k) (sent c)) refl is (λ e. tag_came h e)
    where
      by : (b : Bool) → is_act (act.Send o k) (sent c) ≡ b → (if b then etag_in c.ending else etag_of h (act.Send o k)) ≡ Some etag
          → (etag_of h (act.Send o k) ≡ Some etag → CameWith h o k (reply.PartStored etag)) → CameWith (Came c ∷ h) o k (reply.PartStored etag)
      by true same f rest =
          let at = sends o k c same in
          record { carried = c; known = inl refl; op_is = at.0; number_is = at.1; gains = tagged_by c.ending etag f }
      by false same f rest = before_too (Came c) h o k (reply.PartStored etag) (rest f)
  tag_came (Gave g ∷ h) is = before_too (Gave g) h o k (reply.PartStored etag) (tag_came h is)
  tag_came (Returned a r ∷ h) is = before_too (Returned a r) h o k (reply.PartStored etag) (tag_came h is)
  tag_came (Cancelled reason ∷ h) is = before_too (Cancelled reason) h o k (reply.PartStored etag) (tag_came h is)
  tag_came (Taken p n ∷ h) is = before_too (Taken p n) h o k (reply.PartStored etag) (tag_came h is)

-- ---- the tags of numbers in a row

module _ (f : ℕ → Option (List ℕ)) where
  -- so many tags stand in the list, each at its place
  abbrev pub AreAt : (start count : ℕ) → List (List ℕ) → Type 0
  AreAt start count tags = (length tags ≡ count) × ((i : ℕ) (tag : List ℕ) → slice_get tags i ≡ Some tag → f (start + i) ≡ Some tag)

  one_more : (start count : ℕ) (tags : List (List ℕ)) (first : List ℕ) → f start ≡ Some first → AreAt (start + 1) count tags → AreAt start (suc count) (first ∷ tags)
  one_more start count tags first is rest = (ap suc rest.0, at)
    where
      at : (i : ℕ) (tag : List ℕ) → slice_get (first ∷ tags) i ≡ Some tag → f (start + i) ≡ Some tag
      at zero tag e = ap f (omega arith) ∙ is ∙ e
      at (suc i) tag e = let moved : start + suc i ≡ (start + 1) + i = omega arith in ap f moved ∙ rest.1 i tag e

  with_first : (start count : ℕ) (tags : List (Option (List ℕ))) (x : Option (List ℕ)) → f start ≡ x → is_some x ≡ true → AreAt (start + 1) count (present tags)
      → AreAt start (suc count) (present (x ∷ tags))
  with_first start count tags None is some rest = no some
  with_first start count tags (Some first) is some rest = one_more start count (present tags) first is rest

  pub all_present : (start count : ℕ) → ((n : ℕ) → start ≤ n → n < start + count → is_some (f n) ≡ true) → AreAt start count (present (map f (range_with_len start count)))
  all_present start zero each = (refl, λ i tag e. absurd (none_is_some tag e))
  all_present start (suc count) each = with_first start count (map f (range_with_len (start + 1) count)) (f start) refl (each start (omega arith) (omega arith))
      (all_present (start + 1) count (λ n least below. each n (omega arith) (omega arith)))
