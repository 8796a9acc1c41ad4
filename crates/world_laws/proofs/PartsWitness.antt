-- Runs with an upload in two parts, with one that is aborted, and with one that stays open.
use Rattle.std.proofs.Common.{false, ◌≡◌, ◌∙◌, ◌++◌, ◌<◌, ◌≤◌, ℕ, List, [], ◌∷◌, Some, None, refl, sym, ap, subst, inl, inr, Contains, length, arith}
use Rattle.std.specs.Cmp.{nat_cmp_total}
use Rattle.std.specs.Cmp.Lexicographic.{nat_list_cmp_total}
use Rattle.std.specs.FinMap.{get, insert, empty, nat_cmp-IsAntisymmetric}
use Rattle.s3_model.specs.declared.requests.Ask.{Ask}
use Rattle.s3_model.specs.declared.requests.Ask.TheVariants as ask
use Rattle.s3_model.specs.declared.requests.Op.TheVariants as op
use Rattle.s3_model.specs.declared.answers.Reply.TheVariants as reply
use Rattle.s3_model.specs.declared.outcomes.JobId.{JobId}
use Rattle.s3_model.specs.declared.settings.Limits.{Limits}
use Rattle.s3_model.specs.Lists.{Reserved}
use Rattle.s3_service.specs.ServiceState.{State, Upload, StoredPart, CompletedBy, Aborted, objects_in, HasBucket, with_object, without_object, with_upload, with_part, with_ended}
use Rattle.s3_service.specs.Serves.{Serves, MayChange, IsOpen, IsThere, LiesWithin, Succeeds, bytes_within}
use Rattle.job_terms.specs.Dispatches.{Dispatched}
use Rattle.job_terms.specs.Ops.{op_number}
use Rattle.run_promise.specs.Schedule.{IsBefore}
use Rattle.job_terms.specs.Jobs.{job_of}
use Rattle.run_promise.specs.Fits.{request_at}
use Rattle.s3_model.specs.Documents.{document_of}
use Rattle.shared_lemmas.proofs.Clashes.{false_true}
use Rattle.shared_lemmas.proofs.Maps.{get-insert_other, get-insert_same, is_nothing, not_both, text_exact}
use Rattle.shared_lemmas.proofs.Members.{Has, has}
use Rattle.world_laws.specs.Destinations.{Requests}
use Rattle.world_laws.specs.Multipart.{AreParts, AreCopiedParts, CompletesHere, IsCreated}
use Rattle.world_laws.specs.Uploads.{NamesUpload}
use Rattle.world_laws.specs.Rounds.{Told, Round, answer_by, dispatch_at, dispatched_from, journal_of, steps_from, AreServed}
use Rattle.world_laws.specs.Witnesses.{IsDestMet, IsMoveMet, IsOtherUploadMet, PartsAreMet, CopiedPartsAreMet, CopiedMoveIsMet, AbortIsMet, OtherUploadIsMet}
use Rattle.world_laws.proofs.Rounds.{AreApart, round_of, rounds_trace, rounds_fit, rounds_come}
use Rattle.world_laws.proofs.Faithful.{run_by, IsFaithful, AreFaithful, object_of, bare, bare_is_faithful, bare_has, bare_uploads, bare_ended, faithful_with, faithful_without, has_bucket_after, has_bucket_still}
use Rattle.world_laws.proofs.Witnesses.{moved_by, round, succeeds, met, by_op, two_buckets, with_source, source_is_there, bucket_is_there, source_is_faithful}

-- two jobs of one task with other ops, or other numbers, are apart
apart_by_op : (a b : JobId) → (op_number a.op < op_number b.op) → a ≡ b → ⊥
apart_by_op a b below e = let level = by_op a b e in absurd (omega arith)

apart_by_number : (a b : JobId) → a.number < b.number → a ≡ b → ⊥
apart_by_number a b below e = let level = ap (λ (j : JobId). j.number) e in absurd (omega arith)

create_part : {b k id x y : List ℕ} {content : _} {n : ℕ} → ask.Create x y content ≡ ask.Part b k id n → ⊥
create_part e = cc

create_copy : {b k id x y f g u : List ℕ} {content : _} {n : ℕ} {r : ℕ × ℕ} → ask.Create x y content ≡ ask.PartCopy b k id n f g u r → ⊥
create_copy e = cc

complete_part : {b k id x y i : List ℕ} {etags : _} {fresh : _} {n : ℕ} → ask.Complete x y i etags fresh ≡ ask.Part b k id n → ⊥
complete_part e = cc

complete_copy : {b k id x y i f g u : List ℕ} {etags : _} {fresh : _} {n : ℕ} {r : ℕ × ℕ} → ask.Complete x y i etags fresh ≡ ask.PartCopy b k id n f g u r → ⊥
complete_copy e = cc

delete_part : {b k id x y : List ℕ} {n : ℕ} → ask.Delete x y ≡ ask.Part b k id n → ⊥
delete_part e = cc

delete_copy : {b k id x y f g u : List ℕ} {n : ℕ} {r : ℕ × ℕ} → ask.Delete x y ≡ ask.PartCopy b k id n f g u r → ⊥
delete_copy e = cc

part_copy : {b k id x y i f g u : List ℕ} {m n : ℕ} {r : ℕ × ℕ} → ask.Part x y i m ≡ ask.PartCopy b k id n f g u r → ⊥
part_copy e = cc

part_number : {b k id x y i : List ℕ} {m n : ℕ} → ask.Part x y i m ≡ ask.Part b k id n → m ≡ n
part_number e = cc

copy_is : {x y i f g u b k id f' g' u' : List ℕ} {m n : ℕ} {r r' : ℕ × ℕ} → ask.PartCopy x y i m f g u r ≡ ask.PartCopy b k id n f' g' u' r' → (f' ≡ f) × (g' ≡ g) × (u' ≡ u) × (r' ≡ r) × (m ≡ n)
copy_is e = (cc, cc, cc, cc, cc)

-- the bucket is there, the empty id is free, and each ETag is its object's content
pub record IsReady (start : State) (bucket : List ℕ) : Type 0 where
  pub is_there : HasBucket start bucket
  pub not_open : get start.uploads [] ≡ None
  pub not_ended : get start.ended [] ≡ None
  pub first : IsFaithful start

pub bucket_is_ready : (bucket : List ℕ) → IsReady (bare (bucket ∷ [])) bucket
bucket_is_ready bucket =
    record { is_there = bare_has bucket []; not_open = bare_uploads (bucket ∷ []) []; not_ended = bare_ended (bucket ∷ []) []; first = bare_is_faithful (bucket ∷ []) }

-- what may follow a Complete: at most a Delete of another object
pub record AreLater (bucket key : List ℕ) (more : State → List Round) : Type 0 where
  pub is_job : (t : State) (r : Round) → Has (more t) r → r.job ≡ job_of 0 op.Delete 0
  pub place : List ℕ × List ℕ
  pub is_ask : (t : State) (r : Round) → Has (more t) r → r.ask ≡ ask.Delete place.0 place.1
  pub elsewhere : (place.0 ≡ bucket) × (place.1 ≡ key) → ⊥
  pub apart : (t : State) → AreApart (more t)
  pub faithful : (t : State) → IsFaithful t → AreFaithful (more t)

pub none_later : (bucket key : List ℕ) → AreLater bucket key (λ t. [])
none_later bucket key = record {
  is_job = λ t r h. absurd h;
  place = (0 ∷ bucket, key);
  is_ask = λ t r h. absurd h;
  elsewhere = λ same. longer (ap length same.0);
  apart = λ t. tt;
  faithful = λ t first. tt;
}
  where
    longer : length (0 ∷ bucket) ≡ length bucket → ⊥
    longer e = absurd (omega arith)

-- an upload in two parts: what each part has, asks and carries, what follows the Complete, and the size of its source
pub record TwoParts : Type 0 where
  pub limits : Limits
  pub bucket : List ℕ
  pub key : List ℕ
  pub start : State
  pub ready : IsReady start bucket
  pub pieces : ℕ → List ℕ
  pub part_ask : ℕ → Ask
  pub part_body : ℕ → List ℕ
  pub more : State → List Round
  pub later : AreLater bucket key more
  pub size : ℕ

module _ (two : TwoParts) where
  abbrev limits : Limits
  limits = two.limits

  abbrev bucket : List ℕ
  bucket = two.bucket

  abbrev key : List ℕ
  key = two.key

  abbrev start : State
  start = two.start

  abbrev pieces : ℕ → List ℕ
  pieces = two.pieces

  abbrev part_ask : ℕ → Ask
  part_ask = two.part_ask

  abbrev part_body : ℕ → List ℕ
  part_body = two.part_body

  abbrev more : State → List Round
  more = two.more

  -- ---- the states

  abbrev pub begun : Upload
  begun = record { bucket = bucket; key = key; parts = empty }

  abbrev part : ℕ → StoredPart
  part n = record { bytes = pieces n; etag = [] }

  abbrev pub created : State
  created = with_upload start [] begun

  abbrev pub one_part : Upload
  one_part = record begun { parts = insert begun.parts 1 (part 1) }

  abbrev pub after_one : State
  after_one = with_part created [] begun 1 (part 1)

  abbrev two_parts : Upload
  two_parts = record one_part { parts = insert one_part.parts 2 (part 2) }

  abbrev pub after_two : State
  after_two = with_part after_one [] one_part 2 (part 2)

  abbrev whole : List ℕ
  whole = pieces 1 ++ (pieces 2 ++ [])

  abbrev stored : State
  stored = with_object after_two bucket key (object_of whole)

  abbrev pub etags : Reserved (List ℕ)
  etags = record { items = [] ∷ [] ∷ []; spare = 0 }

  abbrev completed : State
  completed = with_ended stored [] (CompletedBy etags.items)

  -- ---- the rounds

  -- a request of a task whose source has that size
  abbrev pub sized_round : JobId → Ask → List ℕ → State → Round
  sized_round job asked body after = record (round job asked body [] after) { size = two.size }

  abbrev pub create : Round
  create = sized_round (job_of 0 op.Create 0) (ask.Create bucket key None) [] created

  abbrev pub part_round : ℕ → State → Round
  part_round n after = sized_round (job_of 0 op.Part n) (part_ask n) (part_body n) after

  abbrev pub completing : Ask
  completing = ask.Complete bucket key [] etags false

  abbrev pub complete : Round
  complete = sized_round (job_of 0 op.Complete 0) completing (document_of completing) completed

  abbrev pub upload : List Round
  upload = create ∷ part_round 1 after_one ∷ part_round 2 after_two ∷ complete ∷ more completed

  pub open_created : IsOpen created [] bucket key begun
  open_created = record { held = get-insert_same nat_list_cmp_total text_exact start.uploads [] begun; bucket = refl; key = refl }

  pub open_one : IsOpen after_one [] bucket key one_part
  open_one = record { held = get-insert_same nat_list_cmp_total text_exact created.uploads [] one_part; bucket = refl; key = refl }

  open_two : IsOpen after_two [] bucket key two_parts
  open_two = record { held = get-insert_same nat_list_cmp_total text_exact after_one.uploads [] two_parts; bucket = refl; key = refl }

  one_is_there : get two_parts.parts 1 ≡ Some (part 1)
  one_is_there = get-insert_other nat_cmp_total nat_cmp-IsAntisymmetric one_part.parts 2 (part 2) 1 (λ e. absurd (omega arith)) ∙ get-insert_same nat_cmp_total nat_cmp-IsAntisymmetric begun.parts 1 (part 1)

  two_is_there : get two_parts.parts 2 ≡ Some (part 2)
  two_is_there = get-insert_same nat_cmp_total nat_cmp-IsAntisymmetric one_part.parts 2 (part 2)

  served_create : Succeeds limits start (ask.Create bucket key None) [] (reply.Created []) [] created
  served_create = (two.ready.is_there, is_nothing (get start.uploads []) two.ready.not_open, is_nothing (get start.ended []) two.ready.not_ended, begun, record { bucket = refl; key = refl; parts = refl }, refl)

  served_complete : limits.min_part ≤ length (pieces 1) → Succeeds limits after_two completing (document_of completing) reply.Completed [] completed
  served_complete long =
      inl (two_parts, whole, stored, open_two, λ never. absurd (false_true never), (pieces 1 ∷ pieces 2 ∷ [], (one_is_there, (two_is_there, refl)), (long, tt), omega arith, refl), (object_of whole, refl, refl), refl)

  pub all_faithful : AreFaithful upload
  all_faithful = (two.ready.first, (two.ready.first, (two.ready.first, (faithful_with after_two bucket key whole two.ready.first, two.later.faithful completed (faithful_with after_two bucket key whole two.ready.first)))))

  -- a Delete is apart from the others
  from_later : (job : JobId) → (op_number job.op ≡ 4 → ⊥) → (other : Round) → Has (more completed) other → job ≡ other.job → ⊥
  from_later job apart other h same = apart (ap (λ (j : JobId). op_number j.op) (same ∙ two.later.is_job completed other h))

  pub upload_apart : AreApart upload
  upload_apart = ((λ other h. from_create other h), ((λ other h. from_one other h), ((λ other h. from_two other h), ((λ other h. from_later (job_of 0 op.Complete 0) (λ e. absurd (omega arith)) other h), two.later.apart completed))))
    where
      from_create : (other : Round) → Has (part_round 1 after_one ∷ part_round 2 after_two ∷ complete ∷ more completed) other → job_of 0 op.Create 0 ≡ other.job → ⊥
      from_create other (inl e) same = apart_by_op (job_of 0 op.Create 0) (job_of 0 op.Part 1) (omega arith) (same ∙ sym (ap (λ (r : Round). r.job) e))
      from_create other (inr (inl e)) same = apart_by_op (job_of 0 op.Create 0) (job_of 0 op.Part 2) (omega arith) (same ∙ sym (ap (λ (r : Round). r.job) e))
      from_create other (inr (inr (inl e))) same = apart_by_op (job_of 0 op.Create 0) (job_of 0 op.Complete 0) (omega arith) (same ∙ sym (ap (λ (r : Round). r.job) e))
      from_create other (inr (inr (inr h))) same = from_later (job_of 0 op.Create 0) (λ e. absurd (omega arith)) other h same

      from_one : (other : Round) → Has (part_round 2 after_two ∷ complete ∷ more completed) other → job_of 0 op.Part 1 ≡ other.job → ⊥
      from_one other (inl e) same = apart_by_number (job_of 0 op.Part 1) (job_of 0 op.Part 2) (omega arith) (same ∙ sym (ap (λ (r : Round). r.job) e))
      from_one other (inr (inl e)) same = apart_by_op (job_of 0 op.Part 1) (job_of 0 op.Complete 0) (omega arith) (same ∙ sym (ap (λ (r : Round). r.job) e))
      from_one other (inr (inr h)) same = from_later (job_of 0 op.Part 1) (λ e. absurd (omega arith)) other h same

      from_two : (other : Round) → Has (complete ∷ more completed) other → job_of 0 op.Part 2 ≡ other.job → ⊥
      from_two other (inl e) same = apart_by_op (job_of 0 op.Part 2) (job_of 0 op.Complete 0) (omega arith) (same ∙ sym (ap (λ (r : Round). r.job) e))
      from_two other (inr h) same = from_later (job_of 0 op.Part 2) (λ e. absurd (omega arith)) other h same

  -- the id was created by the first
  is_created : IsCreated Told bucket key (journal_of upload) (dispatched_from 0 upload) []
  is_created = record {
    create = dispatch_at 0 create;
    known = (0, omega arith, refl);
    content = None;
    is_create = refl;
    has_come = rounds_come upload start upload_apart (dispatch_at 0 create) (inl refl);
    succeeded = succeeds 0 create refl;
    names = refl;
  }

  -- what holds of these four requests, and of the Delete of another object, holds of all
  each_of : (IsSuch : Dispatched → Type 0) → IsSuch (dispatch_at 0 create) → IsSuch (dispatch_at 2 (part_round 1 after_one)) → IsSuch (dispatch_at 4 (part_round 2 after_two)) → IsSuch (dispatch_at 6 complete)
      → ((c : Dispatched) → c.ask ≡ ask.Delete two.later.place.0 two.later.place.1 → IsSuch c) → (c : Dispatched) → Contains (dispatched_from 0 upload) c → IsSuch c
  each_of IsSuch a b d e f c known = which (has (dispatched_from 0 upload) c known)
    where
      which : Has (dispatched_from 0 upload) c → IsSuch c
      which (inl is) = subst IsSuch is a
      which (inr (inl is)) = subst IsSuch is b
      which (inr (inr (inl is))) = subst IsSuch is d
      which (inr (inr (inr (inl is)))) = subst IsSuch is e
      which (inr (inr (inr (inr h)))) = let found = round_of (more completed) 8 c h in f c (sym (ap (λ (x : Dispatched). x.ask) found.3) ∙ two.later.is_ask completed found.0 found.2)

  completes_here : CompletesHere Told bucket key 2 (journal_of upload) (dispatched_from 0 upload) (dispatch_at 6 complete)
  completes_here = record { id = []; etags = etags; fresh = false; is_complete = refl; counted = refl; created = is_created }

  pub upload_served : Serves limits created (part_ask 1) (part_body 1) (answer_by false (part_ask 1) [] two.size) after_one → Serves limits after_one (part_ask 2) (part_body 2) (answer_by false (part_ask 2) [] two.size) after_two
      → limits.min_part ≤ length (pieces 1) → AreServed limits completed (more completed) → AreServed limits start upload
  upload_served first second long rest = (served_create, (first, (second, (served_complete long, rest))))

  upload_met : (AreOurs : Requests) → AreOurs (journal_of upload) (dispatched_from 0 upload) → AreServed limits start upload → IsDestMet limits bucket key AreOurs
  upload_met AreOurs ours served = met limits bucket key AreOurs start upload served upload_apart two.ready.first all_faithful ours 6 complete refl (inr (inr (inr (inl refl)))) (refl, refl)

-- ---- parts with their bytes

module _ (limits : Limits) (bucket key : List ℕ) (pieces : ℕ → List ℕ) (long : limits.min_part ≤ length (pieces 1)) where
  abbrev one_bucket : State
  one_bucket = bare (bucket ∷ [])

  abbrev part_of : ℕ → Ask
  part_of n = ask.Part bucket key [] n

  abbrev in_two : TwoParts
  in_two = record {
    limits = limits;
    bucket = bucket;
    key = key;
    start = one_bucket;
    ready = bucket_is_ready bucket;
    pieces = pieces;
    part_ask = part_of;
    part_body = pieces;
    more = λ t. [];
    later = none_later bucket key;
    size = 0;
  }

  abbrev rounds : List Round
  rounds = upload in_two

  rounds_served : AreServed limits one_bucket rounds
  rounds_served = upload_served in_two (begun in_two, open_created in_two, refl) (one_part in_two, open_one in_two, refl) long tt

  only_completes : (c : Dispatched) → Contains (dispatched_from 0 rounds) c → MayChange c.ask bucket key → CompletesHere Told bucket key 2 (journal_of rounds) (dispatched_from 0 rounds) c
  only_completes =
      each_of in_two (λ (c : Dispatched). MayChange c.ask bucket key → CompletesHere Told bucket key 2 (journal_of rounds) (dispatched_from 0 rounds) c)
      (λ may. absurd may) (λ may. absurd may) (λ may. absurd may) (λ may. completes_here in_two)
      (λ c is may. absurd ((none_later bucket key).elsewhere (subst (λ (a : Ask). MayChange a bucket key) is may)))

  has_piece : (c : Dispatched) → Contains (dispatched_from 0 rounds) c → (id : List ℕ) (number : ℕ) → c.ask ≡ ask.Part bucket key id number → c.body ≡ pieces number
  has_piece =
      each_of in_two (λ (c : Dispatched). (id : List ℕ) (number : ℕ) → c.ask ≡ ask.Part bucket key id number → c.body ≡ pieces number)
      (λ id number e. absurd (create_part e)) (λ id number e. ap pieces (part_number e)) (λ id number e. ap pieces (part_number e)) (λ id number e. absurd (complete_part e)) (λ c is id number e. absurd (delete_part (sym is ∙ e)))

  no_copies : (c : Dispatched) → Contains (dispatched_from 0 rounds) c → (id : List ℕ) (number : ℕ) (b k under : List ℕ) (range : ℕ × ℕ) → c.ask ≡ ask.PartCopy bucket key id number b k under range → ⊥
  no_copies =
      each_of in_two (λ (c : Dispatched). (id : List ℕ) (number : ℕ) (b k under : List ℕ) (range : ℕ × ℕ) → c.ask ≡ ask.PartCopy bucket key id number b k under range → ⊥)
      (λ id number b k under range e. create_copy e) (λ id number b k under range e. part_copy e) (λ id number b k under range e. part_copy e) (λ id number b k under range e. complete_copy e)
      (λ c is id number b k under range e. delete_copy (sym is ∙ e))

  are_parts : AreParts Told bucket key pieces 2 (journal_of rounds) (dispatched_from 0 rounds)
  are_parts = record {
    completes = only_completes;
    parts = λ c id number known e. has_piece c known id number e;
    no_copies = λ c id number b k under range known e. no_copies c known id number b k under range e;
  }

  parts_met : IsDestMet limits bucket key (AreParts Told bucket key pieces 2)
  parts_met = upload_met in_two (AreParts Told bucket key pieces 2) are_parts rounds_served

pub parts_are_met : PartsAreMet
parts_are_met limits bucket key pieces long = parts_met limits bucket key pieces long

-- ---- parts that are copied

module _ (limits : Limits) (bucket key from_bucket from_key etag : List ℕ) (ranges : ℕ → ℕ × ℕ) (inside_one : LiesWithin (ranges 1) etag) (inside_two : LiesWithin (ranges 2) etag)
    (long : limits.min_part ≤ length (bytes_within (ranges 1) etag)) (more : State → List Round) (later : AreLater bucket key more)
    (rest_served : (t : State) → HasBucket t from_bucket → AreServed limits t (more t)) where
  abbrev source_there : State
  source_there = with_source limits bucket key from_bucket from_key etag

  abbrev range_of : ℕ → List ℕ
  range_of n = bytes_within (ranges n) etag

  abbrev copy_of : ℕ → Ask
  copy_of n = ask.PartCopy bucket key [] n from_bucket from_key etag (ranges n)

  abbrev no_body : ℕ → List ℕ
  no_body n = []

  source_ready : IsReady source_there bucket
  source_ready = record {
    is_there = bucket_is_there limits bucket key from_bucket from_key etag;
    not_open = bare_uploads (bucket ∷ from_bucket ∷ []) [];
    not_ended = bare_ended (bucket ∷ from_bucket ∷ []) [];
    first = source_is_faithful limits bucket key from_bucket from_key etag;
  }

  abbrev copied_in_two : TwoParts
  copied_in_two = record {
    limits = limits;
    bucket = bucket;
    key = key;
    start = source_there;
    ready = source_ready;
    pieces = range_of;
    part_ask = copy_of;
    part_body = no_body;
    more = more;
    later = later;
    size = 0;
  }

  abbrev copied_rounds : List Round
  copied_rounds = upload copied_in_two

  copied_served : AreServed limits source_there copied_rounds
  copied_served =
      upload_served copied_in_two (
        begun copied_in_two,
        object_of etag,
        open_created copied_in_two,
        source_there_still,
        inside_one,
        refl,
      ) (
        one_part copied_in_two,
        object_of etag,
        open_one copied_in_two,
        source_there_again,
        inside_two,
        refl,
      ) long (rest_served (completed copied_in_two) still_there)
    where
      still_there : HasBucket (completed copied_in_two) from_bucket
      still_there =
          has_bucket_still (after_two copied_in_two) bucket
          (insert (objects_in (after_two copied_in_two) bucket) key (object_of (whole copied_in_two)))
          from_bucket (has_bucket_after (two_buckets limits bucket key from_bucket from_key etag) from_bucket (insert (objects_in (two_buckets limits bucket key from_bucket from_key etag) from_bucket) from_key (object_of etag)))

      is_source : IsThere source_there from_bucket from_key etag (object_of etag)
      is_source = source_is_there limits bucket key from_bucket from_key etag

      source_there_still : IsThere (created copied_in_two) from_bucket from_key etag (object_of etag)
      source_there_still = record { held = is_source.held; etag = refl }

      source_there_again : IsThere (after_one copied_in_two) from_bucket from_key etag (object_of etag)
      source_there_again = record { held = is_source.held; etag = refl }

  copied_completes : (c : Dispatched) → Contains (dispatched_from 0 copied_rounds) c → MayChange c.ask bucket key → CompletesHere Told bucket key 2 (journal_of copied_rounds) (dispatched_from 0 copied_rounds) c
  copied_completes =
      each_of copied_in_two (λ (c : Dispatched). MayChange c.ask bucket key → CompletesHere Told bucket key 2 (journal_of copied_rounds) (dispatched_from 0 copied_rounds) c)
      (λ may. absurd may) (λ may. absurd may) (λ may. absurd may) (λ may. completes_here copied_in_two)
      (λ c is may. absurd (later.elsewhere (subst (λ (a : Ask). MayChange a bucket key) is may)))

  no_parts : (c : Dispatched) → Contains (dispatched_from 0 copied_rounds) c → (id : List ℕ) (number : ℕ) → c.ask ≡ ask.Part bucket key id number → ⊥
  no_parts =
      each_of copied_in_two (λ (c : Dispatched). (id : List ℕ) (number : ℕ) → c.ask ≡ ask.Part bucket key id number → ⊥)
      (λ id number e. create_part e) (λ id number e. part_copy (sym e)) (λ id number e. part_copy (sym e)) (λ id number e. complete_part e) (λ c is id number e. delete_part (sym is ∙ e))

  abbrev IsOfSource : Dispatched → Type 0
  IsOfSource c = (id : List ℕ) (number : ℕ) (b k under : List ℕ) (range : ℕ × ℕ) → c.ask ≡ ask.PartCopy bucket key id number b k under range
      → (b ≡ from_bucket) × (k ≡ from_key) × (under ≡ etag) × (range ≡ ranges number)

  of_source : (c : Dispatched) → Contains (dispatched_from 0 copied_rounds) c → IsOfSource c
  of_source =
      each_of copied_in_two IsOfSource
      (λ id number b k under range e. absurd (create_copy e))
      (λ id number b k under range e. let is = copy_is e in (is.0, is.1, is.2, is.3 ∙ ap ranges is.4))
      (λ id number b k under range e. let is = copy_is e in (is.0, is.1, is.2, is.3 ∙ ap ranges is.4))
      (λ id number b k under range e. absurd (complete_copy e))
      (λ c is id number b k under range e. absurd (delete_copy (sym is ∙ e)))

  copied_met : IsDestMet limits bucket key (AreCopiedParts Told bucket key from_bucket from_key etag ranges 2)
  copied_met =
      upload_met copied_in_two (AreCopiedParts Told bucket key from_bucket from_key etag ranges 2)
      (record {
        completes = copied_completes;
        no_parts = λ c id number known e. no_parts c known id number e;
        copies = λ c id number b k under range known e. of_source c known id number b k under range e;
      })
      copied_served

pub copied_parts_are_met : CopiedPartsAreMet
copied_parts_are_met limits bucket key from_bucket from_key etag ranges two =
    copied_met limits bucket key from_bucket from_key etag ranges two.0 two.1 two.2 (λ t. []) (none_later bucket key) (λ t there. tt)

-- ---- and whose source is deleted afterwards

module _ (bucket key from_bucket from_key : List ℕ) (apart : (from_bucket ≡ bucket) × (from_key ≡ key) → ⊥) where
  abbrev source_deleted : State → List Round
  source_deleted t = round (job_of 0 op.Delete 0) (ask.Delete from_bucket from_key) [] [] (without_object t from_bucket from_key) ∷ []

  delete_later : AreLater bucket key source_deleted
  delete_later = record {
    is_job = λ t r h. which_job t r h;
    place = (from_bucket, from_key);
    is_ask = λ t r h. which_ask t r h;
    elsewhere = apart;
    apart = λ t. ((λ other h. absurd h), tt);
    faithful = λ t first. (faithful_without t from_bucket from_key first, tt);
  }
    where
      which_job : (t : State) (r : Round) → Has (source_deleted t) r → r.job ≡ job_of 0 op.Delete 0
      which_job t r (inl e) = sym (ap (λ (x : Round). x.job) e)
      which_job t r (inr h) = absurd h

      which_ask : (t : State) (r : Round) → Has (source_deleted t) r → r.ask ≡ ask.Delete from_bucket from_key
      which_ask t r (inl e) = sym (ap (λ (x : Round). x.ask) e)
      which_ask t r (inr h) = absurd h

module _ (limits : Limits) (bucket key from_bucket from_key etag : List ℕ) (ranges : ℕ → ℕ × ℕ) (apart : (from_bucket ≡ bucket) × (from_key ≡ key) → ⊥) (inside_one : LiesWithin (ranges 1) etag)
    (inside_two : LiesWithin (ranges 2) etag) (long : limits.min_part ≤ length (bytes_within (ranges 1) etag)) where
  abbrev moved_rounds : List Round
  moved_rounds =
      copied_rounds limits bucket key from_bucket from_key etag ranges inside_one inside_two long (source_deleted bucket key from_bucket from_key apart) (delete_later bucket key from_bucket from_key apart)
      (λ t there. ((there, refl), tt))

  -- the Complete comes at place 7, and the Delete is given at place 8
  waits : (d : Dispatched) → Has (dispatched_from 0 moved_rounds) d → d.dispatch.job ≡ job_of 0 op.Delete 0 → IsBefore (Some 7) d.dispatch.given_at
  waits d (inl e) same = absurd (apart_by_op (job_of 0 op.Delete 0) (job_of 0 op.Create 0) (omega arith) (sym (ap (λ (x : Dispatched). x.dispatch.job) e ∙ same)))
  waits d (inr (inl e)) same = absurd (apart_by_op (job_of 0 op.Delete 0) (job_of 0 op.Part 1) (omega arith) (sym (ap (λ (x : Dispatched). x.dispatch.job) e ∙ same)))
  waits d (inr (inr (inl e))) same = absurd (apart_by_op (job_of 0 op.Delete 0) (job_of 0 op.Part 2) (omega arith) (sym (ap (λ (x : Dispatched). x.dispatch.job) e ∙ same)))
  waits d (inr (inr (inr (inl e)))) same = absurd (apart_by_op (job_of 0 op.Delete 0) (job_of 0 op.Complete 0) (omega arith) (sym (ap (λ (x : Dispatched). x.dispatch.job) e ∙ same)))
  waits d (inr (inr (inr (inr (inl e))))) same = subst (λ (x : Dispatched). IsBefore (Some 7) x.dispatch.given_at) e (omega arith)
  waits d (inr (inr (inr (inr (inr h))))) same = absurd h

  abbrev done : IsDestMet limits bucket key (AreCopiedParts Told bucket key from_bucket from_key etag ranges 2)
  done = copied_met limits bucket key from_bucket from_key etag ranges inside_one inside_two long (source_deleted bucket key from_bucket from_key apart) (delete_later bucket key from_bucket from_key apart)
      (λ t there. ((there, refl), tt))

  copied_move : IsMoveMet limits bucket key from_bucket from_key (AreCopiedParts Told bucket key from_bucket from_key etag ranges 2)
  unfolding copied_met upload_met met
  copied_move =
      moved_by limits bucket key from_bucket from_key (AreCopiedParts Told bucket key from_bucket from_key etag ranges 2) done
      (request_at (dispatch_at 8 (round (job_of 0 op.Delete 0) (ask.Delete from_bucket from_key) [] [] (with_source limits bucket key from_bucket from_key etag))) 0)
      (λ d known same. waits d (has (dispatched_from 0 moved_rounds) d known) same) (17, omega arith, refl) refl refl

pub copied_move_is_met : CopiedMoveIsMet
copied_move_is_met limits bucket key from_bucket from_key etag ranges apart two = copied_move limits bucket key from_bucket from_key etag ranges apart two.0 two.1 two.2

-- ---- an upload that is aborted, and one that stays open

module _ (limits : Limits) (bucket key id : List ℕ) where
  abbrev empty_service : State
  empty_service = bare (bucket ∷ [])

  abbrev new_upload : Upload
  new_upload = record { bucket = bucket; key = key; parts = empty }

  abbrev opened : State
  opened = with_upload empty_service id new_upload

  abbrev creates : Round
  creates = round (job_of 0 op.Create 0) (ask.Create bucket key None) [] id opened

  served_creates : Succeeds limits empty_service (ask.Create bucket key None) [] (reply.Created id) [] opened
  served_creates = (
    bare_has bucket [],
    is_nothing (get empty_service.uploads id) (bare_uploads (bucket ∷ []) id),
    is_nothing (get empty_service.ended id) (bare_ended (bucket ∷ []) id),
    new_upload,
    record { bucket = refl; key = refl; parts = refl },
    refl,
  )

  is_held : get opened.uploads id ≡ Some new_upload
  is_held = get-insert_same nat_list_cmp_total text_exact empty_service.uploads id new_upload

  abbrev aborts : Round
  aborts = round (job_of 0 op.Abort 0) (ask.Abort bucket key id) [] [] (with_ended opened id Aborted)

  served_aborts : Succeeds limits opened (ask.Abort bucket key id) [] reply.Gone [] (with_ended opened id Aborted)
  served_aborts = (new_upload, record { held = is_held; bucket = refl; key = refl }, refl)

  abbrev puts : Round
  puts = round (job_of 0 op.Put 0) (ask.Put bucket key None false) [] [] (with_object opened bucket key (object_of []))

  put_create : job_of 0 op.Create 0 ≡ job_of 0 op.Put 0 → ⊥
  put_create e = apart_by_op (job_of 0 op.Put 0) (job_of 0 op.Create 0) (omega arith) (sym e)

  two_apart : AreApart (creates ∷ puts ∷ [])
  two_apart = ((λ other h. which other h), ((λ other h. absurd h), tt))
    where
      which : (other : Round) → Has (puts ∷ []) other → job_of 0 op.Create 0 ≡ other.job → ⊥
      which other (inl e) same = put_create (same ∙ sym (ap (λ (r : Round). r.job) e))
      which other (inr h) same = h

  unnamed : (c : Dispatched) → Has (dispatched_from 0 (creates ∷ puts ∷ [])) c → NamesUpload c.ask id → ⊥
  unnamed c (inl e) names = subst (λ (d : Dispatched). NamesUpload d.ask id) (sym e) names
  unnamed c (inr (inl e)) names = subst (λ (d : Dispatched). NamesUpload d.ask id) (sym e) names
  unnamed c (inr (inr h)) names = h

  stays_open : IsOtherUploadMet limits id
  stays_open = record {
    run = run_by empty_service (creates ∷ puts ∷ []);
    front = steps_from 0 empty_service (creates ∷ []);
    rest = steps_from 2 opened (puts ∷ []);
    is = refl;
    traced = record {
      runs = rounds_trace limits (creates ∷ puts ∷ []) 0 [] empty_service (served_creates, ((bare_has bucket [], λ never. absurd (false_true never), (object_of [], refl, refl)), tt));
      fits = rounds_fit (creates ∷ puts ∷ []) empty_service two_apart;
    };
    unnamed = λ c known names. unnamed c (has (dispatched_from 0 (creates ∷ puts ∷ [])) c known) names;
    begun = λ free. not_both (get opened.uploads id) new_upload free.not_open is_held;
    goes_on = omega arith;
  }

pub abort_is_met : AbortIsMet
abort_is_met limits bucket key id = (
  empty_service limits bucket key id,
  steps_from 0 (empty_service limits bucket key id) (creates limits bucket key id ∷ aborts limits bucket key id ∷ []),
  request_at (dispatch_at 2 (aborts limits bucket key id)) 0,
  rounds_trace limits (creates limits bucket key id ∷ aborts limits bucket key id ∷ []) 0 [] (empty_service limits bucket key id) (served_creates limits bucket key id, (served_aborts limits bucket key id, tt)),
  refl,
  (6, omega arith, refl),
)

pub other_upload_is_met : OtherUploadIsMet
other_upload_is_met limits id = stays_open limits [] [] id
