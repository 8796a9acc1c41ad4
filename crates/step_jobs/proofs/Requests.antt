-- The request of each act that is ready.
use Rattle.std.proofs.Common.{◌≡◌, ◌∙◌, ◌==◌, ◌&&◌, ◌⊎◌, ◌-◌, ◌*◌, ◌^◌, ◌<◌, ◌≤◌, ℕ, Bool, true, false, List, Option, Some, None}
use Rattle.std.proofs.Common.{refl, sym, subst, inl, inr, arith, not}
use Rattle.std.proofs.lemmas.Bool.{and_parts}
use Rattle.std.specs.Prelude.{is_some}
use Rattle.jobs.specs.Jobs.{HasBytes, HasRange, IsDelete, IsOfKind, asked_range, ends_of, stated_content}
use Rattle.job_terms.specs.Jobs.{Origin, Target}
use Rattle.s3_model.specs.Lists.{Reserved}
use Rattle.s3_model.specs.Parts.{HasPieces, IsTransfer, piece_count, piece_range}
use Rattle.s3_model.specs.Validity.{IsValidConfig, IsValidLimits}
use Rattle.s3_model.specs.declared.requests.Ask.{Ask}
use Rattle.s3_model.specs.declared.requests.Ask.TheVariants as ask
use Rattle.s3_model.specs.declared.requests.Op.{Op}
use Rattle.s3_model.specs.declared.requests.Op.TheVariants as op
use Rattle.s3_model.specs.declared.settings.Config.{Config}
use Rattle.s3_model.specs.declared.settings.Limits.{Limits}
use Rattle.s3_model.specs.declared.tasks.Kind.{Kind}
use Rattle.s3_model.specs.declared.tasks.Kind.TheVariants as kind
use Rattle.s3_model.specs.declared.tasks.Task.{Task}
use Rattle.task_acts.specs.declared.acts.Act.TheVariants as act
use Rattle.task_acts.specs.declared.work.Work.{Work}
use Rattle.task_acts.specs.Failures.{is_stopped}
use Rattle.task_acts.specs.Histories.{History}
use Rattle.task_acts.specs.Kept.{IsHistory, upload_of}
use Rattle.task_acts.specs.Rule.{is_due, is_left_over, is_named}
use Rattle.task_acts.specs.Stages.{has_done, may_be_given, stage}
use Rattle.task_acts.specs.Work.{IsWorkOf, is_piece}
use Rattle.task_progress.proofs.Begun.{begun_calls, is_false}
use Rattle.task_progress.proofs.Endings.{decided_or, no}
use Rattle.task_progress.proofs.Quiet.{done_has_begun}
use Rattle.kept_jobs.specs.Steps.{HasTags}
use Rattle.task_progress.proofs.PieceNumbers.{is_zero, of_part, only_piece, one_piece}
use Rattle.job_terms.proofs.PieceCounts.{in_parts, begins_inside}
use Rattle.step_jobs.specs.Requests.{BeginsWithin, HasObjects, HasRequest, ReadyStepsHaveRequests}
use Rattle.step_jobs.proofs.Uploads.{upload_read, upload_there}

some_value : {X : Type 0} (x : Option X) → is_some x ≡ true → (y : X) × (x ≡ Some y)
some_value (Some y) e = (y, refl)
some_value None e = no e

-- ---- where a piece stands

begins_first : (w : Work) (m : ℕ) → m ≡ 0 → BeginsWithin w m
begins_first w m e = subst (λ (n : ℕ). BeginsWithin w n) (sym e) (omega arith)

module _ (task : Task) (config : Config) (limits : Limits) (w : Work) (valid : IsValidConfig config)
    (fit : IsValidLimits limits) (sized : task.size < 2 ^ 64) (is : IsWorkOf task config limits w) where
  pieces_as : (k : Kind) → task.kind ≡ k → HasPieces config limits k task.size w.piece w.count
  pieces_as k ik = subst (λ (x : Kind). HasPieces config limits x task.size w.piece w.count) ik is.pieces

  module _ (m : ℕ) where
    -- a piece of a transfer in parts has bytes
    module _ (large : w.small ≡ false) (piece : is_piece w m ≡ true) (t : IsTransfer config limits task.size w.piece w.count) where
      begins : (1 ≤ w.piece) × ((m - 1) * w.piece < task.size)
      begins =
          let of = of_part w m large piece in
          let parts = in_parts config limits task.size w.piece w.count fit (sym is.small_is ∙ large) t in
          let least = valid.threshold.least in
          let reaches = parts.2 in
          let counted = parts.1 in
          let most = of.1 in
          let within : m ≤ piece_count task.size w.piece = omega (arith, counted, most) in
          (parts.0, begins_inside task.size w.piece m parts.0 (omega (arith, least, reaches)) of.0 within)

      begins_in : BeginsWithin w m
      begins_in =
          let inside = begins.1 in
          let same = is.size_is in
          omega (arith, inside, same)

      has_bytes : HasBytes (piece_range w.size w.piece m)
      has_bytes =
          let inside = begins.1 in
          let some = begins.0 in
          let same = is.size_is in
          let few = sized in
          (omega (arith, inside, some, same), omega (arith, inside, same, few))

    module _ (h : History) (holds : IsHistory w h) (etags : Option (Reserved (List ℕ))) where
      abbrev Request : Op → Type 0
      Request o = HasRequest task (piece_range w.size w.piece m) (upload_of h) etags o m × BeginsWithin w m

      abbrev Due : Kind → Op → Type 0
      Due k o = is_due w (stage w h) false k (act.Send o m) ≡ true

      of_kind : (k : Kind) (o : Op) → task.kind ≡ k → IsOfKind k o → IsOfKind task.kind o
      of_kind k o ik of = subst (λ (x : Kind). IsOfKind x o) (sym ik) of

      first : m ≡ 0 → BeginsWithin w m
      first e = begins_first w m e

      created : has_done (stage w h (act.Send op.Create 0)) ≡ true → (id : List ℕ) × (upload_of h ≡ Some id)
      created done = some_value (upload_of h) (upload_there w h holds done)

      put : task.kind ≡ kind.Upload → Target task → Due kind.Upload op.Put → Request op.Put
      put ik to due =
          let two = and_parts w.small (is_piece w m) (and_parts (w.small && is_piece w m) _ due).0 in
          let one = one_piece config limits task.kind task.size w.piece w.count is.pieces (sym is.small_is ∙ two.0) in (
            record {
              of_task = of_kind kind.Upload op.Put ik tt;
              asked = ask.Put to.bucket to.key task.content task.fresh;
              asks = (to, refl);
              has_range = tt;
            },
            first (only_piece w m two.0 one two.1),
          )

      create : (k : Kind) → task.kind ≡ k → IsOfKind k op.Create → Target task → (m == 0) ≡ true → Request op.Create
      create k ik of to zero_is = (
        record {
          of_task = of_kind k op.Create ik of;
          asked = ask.Create to.bucket to.key (stated_content task.kind task.content);
          asks = (to, refl);
          has_range = tt;
        },
        first (is_zero m zero_is),
      )

      part : task.kind ≡ kind.Upload → Target task → Due kind.Upload op.Part → Request op.Part
      part ik to due =
          let done = (and_parts (not w.small && is_piece w m) _ due).1 in
          let two = and_parts (not w.small) (is_piece w m) (and_parts (not w.small && is_piece w m) _ due).0 in
          let large = is_false w.small two.0 in
          let up = is.kind_is ∙ ik in
          let known = some_value (upload_of h)
          (upload_read w large up m h holds (done_has_begun (stage w h (act.Read m)) done)) in (
            record {
              of_task = of_kind kind.Upload op.Part ik tt;
              asked = ask.Part to.bucket to.key known.0 m;
              asks = (to, known.0, known.1, refl);
              has_range = tt;
            },
            begins_in large two.1 (pieces_as kind.Upload ik),
          )

      get : task.kind ≡ kind.Download → Origin task → Due kind.Download op.Get → Request op.Get
      get ik from due = by (decided_or w.small)
        where
          piece : is_piece w m ≡ true
          piece = (and_parts (is_piece w m) _ due).0

          with_range : HasRange op.Get m (piece_range w.size w.piece m) → BeginsWithin w m → Request op.Get
          with_range range begin = (
            record {
              of_task = of_kind kind.Download op.Get ik tt;
              asked = ask.Get from.bucket from.key task.etag (asked_range m (piece_range w.size w.piece m));
              asks = (from, refl);
              has_range = range;
            },
            begin,
          )

          by : (w.small ≡ true) ⊎ (w.small ≡ false) → Request op.Get
          by (inl small) =
              let one = one_piece config limits task.kind task.size w.piece w.count is.pieces (sym is.small_is ∙ small) in
              let zero_is = only_piece w m small one piece in
              with_range (λ some. absurd (omega (arith, some, zero_is))) (first zero_is)
          by (inr large) =
              with_range (λ some. has_bytes large piece (pieces_as kind.Download ik))
              (begins_in large piece (pieces_as kind.Download ik))

      copy : task.kind ≡ kind.Copy → Target task → Origin task → Due kind.Copy op.Copy → Request op.Copy
      copy ik to from due =
          let two = and_parts w.small (is_piece w m) due in
          let one = one_piece config limits task.kind task.size w.piece w.count is.pieces (sym is.small_is ∙ two.0) in (
            record {
              of_task = of_kind kind.Copy op.Copy ik tt;
              asked = ask.Copy to.bucket to.key from.bucket from.key task.etag;
              asks = (to, from, refl);
              has_range = tt;
            },
            first (only_piece w m two.0 one two.1),
          )

      part_copy : task.kind ≡ kind.Copy → Target task → Origin task → Due kind.Copy op.PartCopy → Request op.PartCopy
      part_copy ik to from due =
          let done = (and_parts (not w.small && is_piece w m) _ due).1 in
          let two = and_parts (not w.small) (is_piece w m) (and_parts (not w.small && is_piece w m) _ due).0 in
          let large = is_false w.small two.0 in
          let known = created done in (
            record {
              of_task = of_kind kind.Copy op.PartCopy ik tt;
              asked = ask.PartCopy to.bucket to.key known.0 m from.bucket from.key task.etag
                  (ends_of (piece_range w.size w.piece m));
              asks = (to, from, known.0, known.1, refl);
              has_range = has_bytes large two.1 (pieces_as kind.Copy ik);
            },
            begins_in large two.1 (pieces_as kind.Copy ik),
          )

      complete : (k : Kind) → task.kind ≡ k → IsOfKind k op.Complete → Target task
          → has_done (stage w h (act.Send op.Create 0)) ≡ true → (m == 0) ≡ true → HasTags w h op.Complete etags
          → Request op.Complete
      complete k ik of to done zero_is tags =
          let known = created done in (
            record {
              of_task = of_kind k op.Complete ik of;
              asked = ask.Complete to.bucket to.key known.0 (record { items = tags.0.items; spare = 0 }) task.fresh;
              asks = (to, known.0, tags.0, 0, known.1, tags.1, refl);
              has_range = tt;
            },
            first (is_zero m zero_is),
          )

      source : (k : Kind) → task.kind ≡ k → ((asked : Ask) → IsDelete task k asked → IsDelete task task.kind asked)
          → ((from : Origin task) → IsDelete task k (ask.Delete from.bucket from.key)) → Origin task → task.moves ≡ true
          → (m == 0) ≡ true → Request op.Delete
      source k ik same is_source from moves zero_is = (
        record {
          of_task = inr moves;
          asked = ask.Delete from.bucket from.key;
          asks = same (ask.Delete from.bucket from.key) (is_source from);
          has_range = tt;
        },
        first (is_zero m zero_is),
      )

      delete_as : (k : Kind) → task.kind ≡ k → (asked : Ask) → IsDelete task k asked → IsDelete task task.kind asked
      delete_as k ik asked of = subst (λ (x : Kind). IsDelete task x asked) (sym ik) of

      moved : w.moves ≡ true → task.moves ≡ true
      moved e = sym is.moves_is ∙ e

      removal : task.kind ≡ kind.RemoveObject → Target task → (m == 0) ≡ true → Request op.Delete
      removal ik to zero_is = (
        record {
          of_task = inl (of_kind kind.RemoveObject op.Delete ik tt);
          asked = ask.Delete to.bucket to.key;
          asks = delete_as kind.RemoveObject ik (ask.Delete to.bucket to.key) (to, refl);
          has_range = tt;
        },
        first (is_zero m zero_is),
      )

      abort : Target task → (m == 0) ≡ true → has_done (stage w h (act.Send op.Create 0)) ≡ true → Request op.Abort
      abort to zero_is done =
          let known = created done in (
            record {
              of_task = tt;
              asked = ask.Abort to.bucket to.key known.0;
              asks = (to, known.0, known.1, refl);
              has_range = tt;
            },
            first (is_zero m zero_is),
          )

      middle : (a b c : Bool) → (a && b && c) ≡ true → b ≡ true
      middle a b c e = (and_parts a b (and_parts (a && b) c e).0).1

      front : (a b c : Bool) → (a && b && c) ≡ true → a ≡ true
      front a b c e = (and_parts a b (and_parts (a && b) c e).0).0

      due_request : (k : Kind) → task.kind ≡ k → HasObjects k task → (o : Op) → Due k o → HasTags w h o etags → Request o
      due_request kind.Upload ik to op.Put due tags = put ik to due
      due_request kind.Upload ik to op.Create due tags = create kind.Upload ik tt to (and_parts (not w.small) (m == 0) due).1
      due_request kind.Upload ik to op.Part due tags = part ik to due
      due_request kind.Upload ik to op.Complete due tags =
          let three = and_parts _ _ (and_parts _ _ due).0 in
          complete kind.Upload ik tt to three.1 (and_parts (not w.small) (m == 0) three.0).1 tags
      due_request kind.Upload ik to o due tags = no due
      due_request kind.Download ik from op.Get due tags = get ik from due
      due_request kind.Download ik from op.Delete due tags =
          source kind.Download ik (delete_as kind.Download ik) (λ f. (f, moved (front w.moves (m == 0) _ due), refl)) from
          (moved (front w.moves (m == 0) _ due)) (middle w.moves (m == 0) _ due)
      due_request kind.Download ik from o due tags = no due
      due_request kind.Copy ik both op.Copy due tags = copy ik both.0 both.1 due
      due_request kind.Copy ik both op.Create due tags = create kind.Copy ik tt both.0 (and_parts (not w.small) (m == 0) due).1
      due_request kind.Copy ik both op.PartCopy due tags = part_copy ik both.0 both.1 due
      due_request kind.Copy ik both op.Complete due tags =
          let three = and_parts _ _ (and_parts _ _ due).0 in
          complete kind.Copy ik tt both.0 three.1 (and_parts (not w.small) (m == 0) three.0).1 tags
      due_request kind.Copy ik both op.Delete due tags =
          source kind.Copy ik (delete_as kind.Copy ik) (λ f. (f, moved (front w.moves (m == 0) _ due), refl)) both.1
          (moved (front w.moves (m == 0) _ due)) (middle w.moves (m == 0) _ due)
      due_request kind.Copy ik both o due tags = no due
      due_request kind.RemoveObject ik to op.Delete due tags = removal ik to due
      due_request kind.RemoveObject ik to o due tags = no due
      due_request kind.RemoveFile ik none o due tags = no due

      -- ---- after a failure or a cancel

      target : (k : Kind) → task.kind ≡ k → HasObjects k task → (w.of_kind ≡ kind.Upload) ⊎ (w.of_kind ≡ kind.Copy)
          → Target task
      target kind.Upload ik to of = to
      target kind.Copy ik both of = both.0
      target kind.RemoveObject ik to of = to
      target kind.Download ik from of = absurd (apart (is.kind_is ∙ ik) of)
        where
          apart : w.of_kind ≡ kind.Download → (w.of_kind ≡ kind.Upload) ⊎ (w.of_kind ≡ kind.Copy) → ⊥
          apart e (inl up) = let clash : kind.Upload ≡ kind.Download = sym up ∙ e in cc
          apart e (inr over) = let clash : kind.Copy ≡ kind.Download = sym over ∙ e in cc
      target kind.RemoveFile ik none of = absurd (apart (is.kind_is ∙ ik) of)
        where
          apart : w.of_kind ≡ kind.RemoveFile → (w.of_kind ≡ kind.Upload) ⊎ (w.of_kind ≡ kind.Copy) → ⊥
          apart e (inl up) = let clash : kind.Upload ≡ kind.RemoveFile = sym up ∙ e in cc
          apart e (inr over) = let clash : kind.Copy ≡ kind.RemoveFile = sym over ∙ e in cc

      left_request : HasObjects task.kind task → (o : Op) → is_left_over w (stage w h) true (act.Send o m) ≡ true
          → Request o
      left_request objects op.Abort left =
          let made = (and_parts _ _ (and_parts _ _ left).0).0 in
          let two = and_parts (m == 0) (has_done (stage w h (act.Send op.Create 0))) made in
          let parts = begun_calls w h holds (act.Send op.Create 0) (done_has_begun (stage w h (act.Send op.Create 0)) two.1) in
          abort (target task.kind refl objects parts.1) two.0 two.1
      left_request objects o left = no left

      request : HasObjects task.kind task → (stopped : Bool) → (o : Op)
          → is_named w (stage w h) stopped (act.Send o m) ≡ true → HasTags w h o etags → Request o
      request objects true o named tags = left_request objects o named
      request objects false o named tags =
          due_request task.kind refl objects o
          (subst (λ (x : Kind). is_due w (stage w h) false x (act.Send o m) ≡ true) is.kind_is named) tags

pub ready_steps_have_requests : ReadyStepsHaveRequests
ready_steps_have_requests task config limits w h o m etags valid fit sized is objects holds ready tags =
    request task config limits w valid fit sized is m h holds etags objects (is_stopped w h) o
    (and_parts (may_be_given (stage w h (act.Send o m))) _ ready).1 tags
