-- What the rows of a task's requests say of its destination.
use Rattle.std.proofs.Common.{◌≡◌, ◌∙◌, ◌⊎◌, ℕ, Bool, true, false, List, Option, Some, None, refl, sym, ap, subst, inl, inr, length}
use Rattle.s3_model.specs.declared.requests.Ask.{Ask}
use Rattle.s3_model.specs.declared.requests.Ask.TheVariants as ask
use Rattle.s3_model.specs.declared.answers.Class.{Class}
use Rattle.s3_model.specs.declared.requests.Op.{Op}
use Rattle.s3_model.specs.declared.requests.Op.TheVariants as op
use Rattle.s3_model.specs.declared.places.Place.{Place}
use Rattle.s3_model.specs.declared.places.Place.TheVariants as place
use Rattle.s3_model.specs.declared.tasks.Kind.{Kind}
use Rattle.s3_model.specs.declared.tasks.Kind.TheVariants as kind
use Rattle.s3_model.specs.declared.tasks.Task.{Task}
use Rattle.s3_model.specs.Lists.{Reserved}
use Rattle.run_promise.specs.Dispatches.{FitsAsk}
use Rattle.job_terms.specs.Dispatches.{Dispatched}
use Rattle.job_terms.specs.Ops.{op_number, deciding}
use Rattle.s3_model.specs.Parts.{piece_of}
use Rattle.s3_service.specs.ServiceState.{State}
use Rattle.s3_service.specs.Serves.{MayChange, MayRefuse, IsTakenOnlyWhereThere}
use Rattle.world_laws.specs.Tasks.{IsConditional}
use Rattle.run_promise.specs.Schedule.{Gained, IsUpload, Known, IsTaskAsk, asked_range}
use Rattle.job_terms.specs.Jobs.{IsObject, IsSource, Target, Origin}
use Rattle.run_promise.specs.Outcomes.{IsDecidedByRequest}
use Rattle.job_terms.proofs.SameJobs.{op_same}

-- a place is an object in one way
pub moved_place : (of_place : Place) (b k bucket key : List ℕ) → IsObject of_place b k → b ≡ bucket → k ≡ key → IsObject of_place bucket key
moved_place of_place b k bucket key is same_bucket same_key = subst (λ (x : List ℕ). IsObject of_place bucket x) same_key (subst (λ (x : List ℕ). IsObject of_place x k) same_bucket is)

pub same_place : (of_place : Place) (b k bucket key : List ℕ) → IsObject of_place b k → IsObject of_place bucket key → (b ≡ bucket) × (k ≡ key)
same_place (place.Object x y) b k bucket key here there = (sym here.0 ∙ there.0, sym here.1 ∙ there.1)
same_place (place.File path) b k bucket key here there = absurd here

pub moved_source : (source : Option Place) (b k bucket key : List ℕ) → IsSource source b k → b ≡ bucket → k ≡ key → IsSource source bucket key
moved_source None b k bucket key is same_bucket same_key = absurd is
moved_source (Some of_place) b k bucket key is same_bucket same_key = moved_place of_place b k bucket key is same_bucket same_key

-- an object's place, and a source that is one
pub place_is : (of_place : Place) (bucket key : List ℕ) → IsObject of_place bucket key → of_place ≡ place.Object bucket key
place_is (place.Object b k) bucket key is = ap (λ (x : List ℕ). place.Object x k) is.0 ∙ ap (place.Object bucket) is.1
place_is (place.File path) bucket key is = absurd is

pub source_is : (source : Option Place) (bucket key : List ℕ) → IsSource source bucket key → source ≡ Some (place.Object bucket key)
source_is None bucket key is = absurd is
source_is (Some of_place) bucket key is = ap Some (place_is of_place bucket key is)

pub create_moved : (asked : Ask) (b k bucket key : List ℕ) (content : Option (List ℕ)) → asked ≡ ask.Create b k content → b ≡ bucket → k ≡ key → asked ≡ ask.Create bucket key content
create_moved asked b k bucket key content is same_bucket same_key = is ∙ ap (λ (x : List ℕ). ask.Create x k content) same_bucket ∙ ap (λ (x : List ℕ). ask.Create bucket x content) same_key

-- a Complete of an upload that the run created, with as many ETags as there are pieces
pub record CompletesAt (gained : Gained) (known : Known) (asked : Ask) (bucket key : List ℕ) : Type 0 where
  pub id : List ℕ
  pub etags : Reserved (List ℕ)
  pub counted : length etags.items ≡ known.count
  pub created : IsUpload gained known.number id
  pub fresh : Bool
  pub is_complete : asked ≡ ask.Complete bucket key id etags fresh

-- the request changes its task's destination, as its kind does
abbrev pub ChangesAs : Gained → Task → Known → Kind → Bool → Ask → List ℕ → List ℕ → List ℕ → Type 0
ChangesAs gained task known kind.Upload true asked body bucket key = (content : Option (List ℕ)) × (fresh : Bool) × (asked ≡ ask.Put bucket key content fresh) × (body ≡ known.bytes)
ChangesAs gained task known kind.Upload false asked body bucket key = CompletesAt gained known asked bucket key
ChangesAs gained task known kind.Copy true asked body bucket key = (from : Origin task) × (asked ≡ ask.Copy bucket key from.bucket from.key task.etag)
ChangesAs gained task known kind.Copy false asked body bucket key = CompletesAt gained known asked bucket key
ChangesAs gained task known kind.RemoveObject small asked body bucket key = asked ≡ ask.Delete bucket key
ChangesAs gained task known of_kind small asked body bucket key = ⊥

-- or it deletes the source of its move
pub record DeletesSource (task : Task) (asked : Ask) (bucket key : List ℕ) : Type 0 where
  pub moves : task.moves ≡ true
  pub is_source : IsSource task.source bucket key
  pub deletes : asked ≡ ask.Delete bucket key

module _ (gained : Gained) (task : Task) (known : Known) (bucket key : List ℕ) where
  -- it changes the destination, as the request that decides the task
  pub record IsDeciding (of_kind : Kind) (small : Bool) (of_op : Op) (number : ℕ) (asked : Ask) (body : List ℕ) : Type 0 where
    pub is_dest : IsObject task.dest bucket key
    pub changes : ChangesAs gained task known of_kind small asked body bucket key
    pub is_op : of_op ≡ deciding of_kind small
    pub is_first : number ≡ 0

  abbrev pub IsChange : Kind → Bool → Op → ℕ → Ask → List ℕ → Type 0
  IsChange of_kind small of_op number asked body = IsDeciding of_kind small of_op number asked body ⊎ DeletesSource task asked bucket key

  put_is : (to : Target task) (content : Option (List ℕ)) (fresh : Bool) (asked : Ask) → asked ≡ ask.Put to.bucket to.key content fresh → MayChange asked bucket key → (to.bucket ≡ bucket) × (to.key ≡ key)
  put_is to content fresh asked is may = subst (λ (a : Ask). MayChange a bucket key) is may

  completes_at : (to : Target task) (id : List ℕ) (etags : List (List ℕ)) (spare : ℕ) (asked : Ask) → IsUpload gained known.number id → length etags ≡ known.count
      → asked ≡ ask.Complete to.bucket to.key id (record { items = etags; spare = spare }) task.fresh → MayChange asked bucket key → IsObject task.dest bucket key × CompletesAt gained known asked bucket key
  completes_at to id etags spare asked created counted is may =
      let same : (to.bucket ≡ bucket) × (to.key ≡ key) = subst (λ (a : Ask). MayChange a bucket key) is may in (
        moved_place task.dest to.bucket to.key bucket key to.is_dest same.0 same.1,
        record {
          id = id;
          etags = record { items = etags; spare = spare };
          counted = counted;
          created = created;
          fresh = task.fresh;
          is_complete = is ∙ ap (λ (b : List ℕ). ask.Complete b to.key id (record { items = etags; spare = spare }) task.fresh) same.0
              ∙ ap (λ (k : List ℕ). ask.Complete bucket k id (record { items = etags; spare = spare }) task.fresh) same.1;
        },
      )

  deletes_source : (from : Origin task) (asked : Ask) → task.moves ≡ true → asked ≡ ask.Delete from.bucket from.key → MayChange asked bucket key → DeletesSource task asked bucket key
  deletes_source from asked moves is may =
      let same : (from.bucket ≡ bucket) × (from.key ≡ key) = subst (λ (a : Ask). MayChange a bucket key) is may in
      record {
        moves = moves;
        is_source = moved_source task.source from.bucket from.key bucket key from.is_source same.0 same.1;
        deletes = is ∙ ap (λ (b : List ℕ). ask.Delete b from.key) same.0 ∙ ap (ask.Delete bucket) same.1;
      }

  no_change : (asked other : Ask) → asked ≡ other → (MayChange other bucket key → ⊥) → MayChange asked bucket key → ⊥
  no_change asked other is never may = never (subst (λ (a : Ask). MayChange a bucket key) is may)

  -- a task's request that may change an object changes its destination, or deletes the source of its move
  pub row_changes : (of_kind : Kind) (small : Bool) (of_op : Op) (number : ℕ) (asked : Ask) (body : List ℕ) → IsTaskAsk gained task known of_kind small of_op number asked body → MayChange asked bucket key
      → IsChange of_kind small of_op number asked body
  row_changes kind.Upload true op.Put number asked body row may =
      let same : (row.0.bucket ≡ bucket) × (row.0.key ≡ key) = subst (λ (a : Ask). MayChange a bucket key) row.2 may in
      inl (record {
        is_dest = moved_place task.dest row.0.bucket row.0.key bucket key row.0.is_dest same.0 same.1;
        changes = (task.content, task.fresh, row.2 ∙ ap (λ (b : List ℕ). ask.Put b row.0.key task.content task.fresh) same.0 ∙ ap (λ (k : List ℕ). ask.Put bucket k task.content task.fresh) same.1, row.3);
        is_op = refl;
        is_first = row.1;
      })
  row_changes kind.Upload false op.Create number asked body row may = absurd (no_change asked _ row.2 (λ never. never) may)
  row_changes kind.Upload false op.Part number asked body row may = absurd (no_change asked _ row.4 (λ never. never) may)
  row_changes kind.Upload false op.Complete number asked body row may =
      let is = completes_at row.0.0 row.0.1 row.0.2 row.0.3 asked row.0.4 row.0.5.each_part row.0.6 may in
      inl (record { is_dest = is.0; changes = is.1; is_op = refl; is_first = row.1 })
  row_changes kind.Upload false op.Abort number asked body row may = absurd (no_change asked _ row.0.3 (λ never. never) may)
  row_changes kind.Download true op.Get number asked body row may = absurd (no_change asked _ row.2 (λ never. never) may)
  row_changes kind.Download false op.Get number asked body row may = absurd (no_change asked _ row.2 (λ never. never) may)
  row_changes kind.Download small op.Delete number asked body row may = inr (deletes_source row.0.0 asked row.0.1 row.0.2 may)
  row_changes kind.Copy true op.Copy number asked body row may =
      let same : (row.0.bucket ≡ bucket) × (row.0.key ≡ key) = subst (λ (a : Ask). MayChange a bucket key) row.3 may in
      inl (record {
        is_dest = moved_place task.dest row.0.bucket row.0.key bucket key row.0.is_dest same.0 same.1;
        changes = (row.1, row.3 ∙ ap (λ (b : List ℕ). ask.Copy b row.0.key row.1.bucket row.1.key task.etag) same.0 ∙ ap (λ (k : List ℕ). ask.Copy bucket k row.1.bucket row.1.key task.etag) same.1);
        is_op = refl;
        is_first = row.2;
      })
  row_changes kind.Copy false op.Create number asked body row may = absurd (no_change asked _ row.2 (λ never. never) may)
  row_changes kind.Copy false op.PartCopy number asked body row may = absurd (no_change asked _ row.5 (λ never. never) may)
  row_changes kind.Copy false op.Complete number asked body row may =
      let is = completes_at row.0.0 row.0.1 row.0.2 row.0.3 asked row.0.4 row.0.5.each_part row.0.6 may in
      inl (record { is_dest = is.0; changes = is.1; is_op = refl; is_first = row.1 })
  row_changes kind.Copy false op.Abort number asked body row may = absurd (no_change asked _ row.0.3 (λ never. never) may)
  row_changes kind.Copy small op.Delete number asked body row may = inr (deletes_source row.0.0 asked row.0.1 row.0.2 may)
  row_changes kind.RemoveObject true op.Delete number asked body row may =
      let same : (row.0.bucket ≡ bucket) × (row.0.key ≡ key) = subst (λ (a : Ask). MayChange a bucket key) row.2 may in
      inl (record {
        is_dest = moved_place task.dest row.0.bucket row.0.key bucket key row.0.is_dest same.0 same.1;
        changes = row.2 ∙ ap (λ (b : List ℕ). ask.Delete b row.0.key) same.0 ∙ ap (ask.Delete bucket) same.1;
        is_op = refl;
        is_first = row.1;
      })
  row_changes kind.RemoveObject false op.Delete number asked body row may =
      let same : (row.0.bucket ≡ bucket) × (row.0.key ≡ key) = subst (λ (a : Ask). MayChange a bucket key) row.2 may in
      inl (record {
        is_dest = moved_place task.dest row.0.bucket row.0.key bucket key row.0.is_dest same.0 same.1;
        changes = row.2 ∙ ap (λ (b : List ℕ). ask.Delete b row.0.key) same.0 ∙ ap (ask.Delete bucket) same.1;
        is_op = refl;
        is_first = row.1;
      })
  row_changes of_kind small of_op number asked body row may = absurd row

-- ---- which request an op makes

abbrev pub ask_number : Ask → ℕ
ask_number (ask.Head bucket key) = 0
ask_number (ask.Get bucket key etag range) = 1
ask_number (ask.Put bucket key content fresh) = 2
ask_number (ask.Copy bucket key from_bucket from_key etag) = 3
ask_number (ask.Delete bucket key) = 4
ask_number (ask.Create bucket key content) = 5
ask_number (ask.Part bucket key upload number) = 6
ask_number (ask.PartCopy bucket key upload number from_bucket from_key etag range) = 7
ask_number (ask.Complete bucket key upload etags fresh) = 8
ask_number (ask.Abort bucket key upload) = 9
ask_number (ask.List bucket prefix delimited token) = 10
ask_number ask.Buckets = 11

pub row_op : (gained : Gained) (task : Task) (known : Known) (of_kind : Kind) (small : Bool) (of_op : Op) (number : ℕ) (asked : Ask) (body : List ℕ) → IsTaskAsk gained task known of_kind small of_op number asked body
    → ask_number asked ≡ op_number of_op
row_op gained task known kind.Upload true op.Put number asked body row = ap ask_number row.2
row_op gained task known kind.Upload false op.Create number asked body row = ap ask_number row.2
row_op gained task known kind.Upload false op.Part number asked body row = ap ask_number row.4
row_op gained task known kind.Upload false op.Complete number asked body row = ap ask_number row.0.6
row_op gained task known kind.Upload false op.Abort number asked body row = ap ask_number row.0.3
row_op gained task known kind.Download true op.Get number asked body row = ap ask_number row.2
row_op gained task known kind.Download false op.Get number asked body row = ap ask_number row.2
row_op gained task known kind.Download small op.Delete number asked body row = ap ask_number row.0.2
row_op gained task known kind.Copy true op.Copy number asked body row = ap ask_number row.3
row_op gained task known kind.Copy false op.Create number asked body row = ap ask_number row.2
row_op gained task known kind.Copy false op.PartCopy number asked body row = ap ask_number row.5
row_op gained task known kind.Copy false op.Complete number asked body row = ap ask_number row.0.6
row_op gained task known kind.Copy false op.Abort number asked body row = ap ask_number row.0.3
row_op gained task known kind.Copy small op.Delete number asked body row = ap ask_number row.0.2
row_op gained task known kind.RemoveObject small op.Delete number asked body row = ap ask_number row.2
row_op gained task known of_kind small of_op number asked body row = absurd row

-- ---- uploads in parts

-- the requests of an upload in parts
abbrev pub IsOfParts : Op → Type 0
IsOfParts op.Create = Unit {0}
IsOfParts op.Part = Unit {0}
IsOfParts op.PartCopy = Unit {0}
IsOfParts op.Complete = Unit {0}
IsOfParts op.Abort = Unit {0}
IsOfParts other = ⊥

module _ (gained : Gained) (task : Task) (known : Known) (number : ℕ) (asked : Ask) (body : List ℕ) where
  abbrev IsRowOf : Kind → Bool → Op → Type 0
  IsRowOf of_kind small of_op = IsTaskAsk gained task known of_kind small of_op number asked body

  -- what has such a request is an upload or a copy, in parts
  pub in_parts : (IsSuch : Kind → Type 0) (of_kind : Kind) (small : Bool) (of_op : Op) → IsOfParts of_op → (IsRowOf kind.Upload false of_op → IsSuch kind.Upload)
      → (IsRowOf kind.Copy false of_op → IsSuch kind.Copy) → IsRowOf of_kind small of_op → IsSuch of_kind
  in_parts IsSuch kind.Upload false of_op is upload copy row = upload row
  in_parts IsSuch kind.Copy false of_op is upload copy row = copy row
  in_parts IsSuch kind.Upload true op.Put is upload copy row = absurd is
  in_parts IsSuch kind.Download true op.Get is upload copy row = absurd is
  in_parts IsSuch kind.Download false op.Get is upload copy row = absurd is
  in_parts IsSuch kind.Download small op.Delete is upload copy row = absurd is
  in_parts IsSuch kind.Copy true op.Copy is upload copy row = absurd is
  in_parts IsSuch kind.Copy true op.Delete is upload copy row = absurd is
  in_parts IsSuch kind.RemoveObject small op.Delete is upload copy row = absurd is
  in_parts IsSuch of_kind small of_op is upload copy row = absurd row

part_is : {x y i b k id : List ℕ} {m n : ℕ} → ask.Part x y i m ≡ ask.Part b k id n → (x ≡ b) × (y ≡ k) × (m ≡ n) × (i ≡ id)
part_is e = (cc, cc, cc, cc)

copy_is : {x y i f g u b k id f' g' u' : List ℕ} {m n : ℕ} {r r' : ℕ × ℕ} → ask.PartCopy x y i m f g u r ≡ ask.PartCopy b k id n f' g' u' r'
    → (x ≡ b) × (y ≡ k) × (m ≡ n) × (f' ≡ f) × (g' ≡ g) × (u' ≡ u) × (r' ≡ r) × (i ≡ id)
copy_is e = (cc, cc, cc, cc, cc, cc, cc, cc)

module _ (gained : Gained) (task : Task) (known : Known) (bucket key id : List ℕ) (n : ℕ) where
  -- a part is one of an upload to its task's destination, and has its piece
  pub record IsPieceOf (number : ℕ) (body : List ℕ) (of_kind : Kind) : Type 0 where
    pub is_dest : IsObject task.dest bucket key
    pub created : IsUpload gained known.number id
    pub numbered : number ≡ n
    pub is_upload : of_kind ≡ kind.Upload
    pub is_piece : body ≡ piece_of known.bytes known.piece n

  part_row : (of_kind : Kind) (small : Bool) (number : ℕ) (asked : Ask) (body : List ℕ) → IsTaskAsk gained task known of_kind small op.Part number asked body → asked ≡ ask.Part bucket key id n → IsPieceOf number body of_kind
  part_row of_kind small number asked body row e = in_parts gained task known number asked body (IsPieceOf number body) of_kind small op.Part tt (λ row.
      let is = part_is (sym row.4 ∙ e) in
      record {
        is_dest = moved_place task.dest row.0.bucket row.0.key bucket key row.0.is_dest is.0 is.1;
        created = subst (λ (i : List ℕ). IsUpload gained known.number i) is.3 row.2;
        numbered = is.2;
        is_upload = refl;
        is_piece = row.5 ∙ ap (piece_of known.bytes known.piece) is.2;
      }) (λ row. absurd row) row

  pub row_part : (of_kind : Kind) (small : Bool) (of_op : Op) (number : ℕ) (asked : Ask) (body : List ℕ) → IsTaskAsk gained task known of_kind small of_op number asked body → asked ≡ ask.Part bucket key id n → IsPieceOf number body of_kind
  row_part of_kind small of_op number asked body row e =
      let is_op : of_op ≡ op.Part = op_same of_op op.Part (sym (row_op gained task known of_kind small of_op number asked body row) ∙ ap ask_number e) in
      part_row of_kind small number asked body (subst (λ (o : Op). IsTaskAsk gained task known of_kind small o number asked body) is_op row) e

  -- a copied part is one of an upload to its task's destination, and names its range of the task's source
  module _ (b k under : List ℕ) (range : ℕ × ℕ) where
    pub record IsRangeOf (number : ℕ) (of_kind : Kind) : Type 0 where
      pub is_dest : IsObject task.dest bucket key
      pub created : IsUpload gained known.number id
      pub numbered : number ≡ n
      pub is_copy : of_kind ≡ kind.Copy
      pub from : Origin task
      pub bucket_is : b ≡ from.bucket
      pub key_is : k ≡ from.key
      pub etag_is : under ≡ task.etag
      pub range_is : range ≡ asked_range task.size known.piece n

    copy_row : (of_kind : Kind) (small : Bool) (number : ℕ) (asked : Ask) (body : List ℕ) → IsTaskAsk gained task known of_kind small op.PartCopy number asked body
        → asked ≡ ask.PartCopy bucket key id n b k under range → IsRangeOf number of_kind
    copy_row of_kind small number asked body row e = in_parts gained task known number asked body (IsRangeOf number) of_kind small op.PartCopy tt (λ row. absurd row) (λ row.
        let is = copy_is (sym row.5 ∙ e) in
        record {
          is_dest = moved_place task.dest row.0.bucket row.0.key bucket key row.0.is_dest is.0 is.1;
          created = subst (λ (i : List ℕ). IsUpload gained known.number i) is.7 row.3;
          numbered = is.2;
          is_copy = refl;
          from = row.1;
          bucket_is = is.3;
          key_is = is.4;
          etag_is = is.5;
          range_is = is.6 ∙ ap (asked_range task.size known.piece) is.2;
        }) row

    pub row_copy : (of_kind : Kind) (small : Bool) (of_op : Op) (number : ℕ) (asked : Ask) (body : List ℕ) → IsTaskAsk gained task known of_kind small of_op number asked body → asked ≡ ask.PartCopy bucket key id n b k under range → IsRangeOf number of_kind
    row_copy of_kind small of_op number asked body row e =
        let is_op : of_op ≡ op.PartCopy = op_same of_op op.PartCopy (sym (row_op gained task known of_kind small of_op number asked body row) ∙ ap ask_number e) in
        copy_row of_kind small number asked body (subst (λ (o : Op). IsTaskAsk gained task known of_kind small o number asked body) is_op row) e

module _ (gained : Gained) (task : Task) (known : Known) where
  -- a Create goes to its task's destination
  pub record CreatesAt (asked : Ask) : Type 0 where
    pub to : Target task
    pub content : Option (List ℕ)
    pub creates : asked ≡ ask.Create to.bucket to.key content

  pub row_create : (of_kind : Kind) (small : Bool) (number : ℕ) (asked : Ask) (body : List ℕ) → IsTaskAsk gained task known of_kind small op.Create number asked body → CreatesAt asked
  row_create of_kind small number asked body row =
      in_parts gained task known number asked body (λ k. CreatesAt asked) of_kind small op.Create tt (λ row. record { to = row.0; content = task.content; creates = row.2 })
      (λ row. record { to = row.0; content = None; creates = row.2 }) row

  -- the request that decides a task may change its destination
  changes_dest : (to : Target task) (asked other : Ask) → asked ≡ other → MayChange other to.bucket to.key → (at : Target task) × MayChange asked at.bucket at.key
  changes_dest to asked other is may = (to, subst (λ (a : Ask). MayChange a to.bucket to.key) (sym is) may)

  pub row_decides : (of_kind : Kind) (small : Bool) (number : ℕ) (asked : Ask) (body : List ℕ) → IsTaskAsk gained task known of_kind small (deciding of_kind small) number asked body
      → ((at : Target task) × MayChange asked at.bucket at.key) ⊎ (of_kind ≡ kind.Download)
  row_decides kind.Upload true number asked body row = inl (changes_dest row.0 asked _ row.2 (refl, refl))
  row_decides kind.Upload false number asked body row = inl (changes_dest row.0.0 asked _ row.0.6 (refl, refl))
  row_decides kind.Copy true number asked body row = inl (changes_dest row.0 asked _ row.3 (refl, refl))
  row_decides kind.Copy false number asked body row = inl (changes_dest row.0.0 asked _ row.0.6 (refl, refl))
  row_decides kind.RemoveObject true number asked body row = inl (changes_dest row.0 asked _ row.2 (refl, refl))
  row_decides kind.RemoveObject false number asked body row = inl (changes_dest row.0 asked _ row.2 (refl, refl))
  row_decides kind.Download small number asked body row = inr refl
  row_decides kind.RemoveFile small number asked body row = absurd row

  -- the request that decides a task and can be told not to replace is told so where the task is not to replace
  pub row_fresh : (of_kind : Kind) (small : Bool) (number : ℕ) (asked : Ask) (body : List ℕ) → IsTaskAsk gained task known of_kind small (deciding of_kind small) number asked body → IsConditional of_kind small
      → (to : Target task) × ((t : State) (code : List ℕ) → MayRefuse t asked code → IsTakenOnlyWhereThere task.fresh t to.bucket to.key code)
  row_fresh kind.Upload true number asked body row may = (row.0, λ t code refused. subst (λ (a : Ask). MayRefuse t a code) row.2 refused)
  row_fresh kind.Upload false number asked body row may = (row.0.0, λ t code refused. subst (λ (a : Ask). MayRefuse t a code) row.0.6 refused)
  row_fresh kind.Copy false number asked body row may = (row.0.0, λ t code refused. subst (λ (a : Ask). MayRefuse t a code) row.0.6 refused)
  row_fresh kind.Copy true number asked body row may = absurd may
  row_fresh kind.Download true number asked body row may = absurd may
  row_fresh kind.Download false number asked body row may = absurd may
  row_fresh kind.RemoveObject true number asked body row may = absurd may
  row_fresh kind.RemoveObject false number asked body row may = absurd may
  row_fresh kind.RemoveFile true number asked body row may = absurd may
  row_fresh kind.RemoveFile false number asked body row may = absurd may

  -- every success fits the request that decides a task
  pub row_fits : (of_kind : Kind) (small : Bool) (number : ℕ) (asked : Ask) (body : List ℕ) → IsTaskAsk gained task known of_kind small (deciding of_kind small) number asked body → IsDecidedByRequest of_kind
      → (c : Dispatched) (shown : Class) → FitsAsk c asked shown
  row_fits kind.Upload true number asked body row by c shown = subst (λ (a : Ask). FitsAsk c a shown) (sym row.2) tt
  row_fits kind.Upload false number asked body row by c shown = subst (λ (a : Ask). FitsAsk c a shown) (sym row.0.6) tt
  row_fits kind.Copy true number asked body row by c shown = subst (λ (a : Ask). FitsAsk c a shown) (sym row.3) tt
  row_fits kind.Copy false number asked body row by c shown = subst (λ (a : Ask). FitsAsk c a shown) (sym row.0.6) tt
  row_fits kind.RemoveObject true number asked body row by c shown = subst (λ (a : Ask). FitsAsk c a shown) (sym row.2) tt
  row_fits kind.RemoveObject false number asked body row by c shown = subst (λ (a : Ask). FitsAsk c a shown) (sym row.2) tt
  row_fits kind.Download small number asked body row by c shown = absurd by
  row_fits kind.RemoveFile small number asked body row by c shown = absurd by

  -- a Delete of a task that removes nothing is that of its moved source
  pub record IsOfSource (asked : Ask) : Type 0 where
    pub moves : task.moves ≡ true
    pub from : Origin task
    pub deletes : asked ≡ ask.Delete from.bucket from.key

  pub row_source : (of_kind : Kind) (small : Bool) (number : ℕ) (asked : Ask) (body : List ℕ) → IsTaskAsk gained task known of_kind small op.Delete number asked body → (of_kind ≡ kind.RemoveObject → ⊥) → IsOfSource asked
  row_source kind.Download true number asked body row other = record { moves = row.0.1; from = row.0.0; deletes = row.0.2 }
  row_source kind.Download false number asked body row other = record { moves = row.0.1; from = row.0.0; deletes = row.0.2 }
  row_source kind.Copy true number asked body row other = record { moves = row.0.1; from = row.0.0; deletes = row.0.2 }
  row_source kind.Copy false number asked body row other = record { moves = row.0.1; from = row.0.0; deletes = row.0.2 }
  row_source kind.RemoveObject small number asked body row other = absurd (other refl)
  row_source kind.Upload true number asked body row other = absurd row
  row_source kind.Upload false number asked body row other = absurd row
  row_source kind.RemoveFile true number asked body row other = absurd row
  row_source kind.RemoveFile false number asked body row other = absurd row
