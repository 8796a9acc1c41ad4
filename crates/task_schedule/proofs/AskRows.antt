-- The request of each act that is ready is the row of the schedule.
use Rattle.std.proofs.Common.{◌≡◌, ◌∙◌, ◌==◌, ◌&&◌, ◌⊎◌, ◌+◌, ◌<◌, ◌≤◌, ℕ, Bool, true, false, List, [], Option, Some, None, refl, sym, subst, ap, inl, inr, arith, not}
use Rattle.std.proofs.lemmas.Bool.{and_parts, eqb-true}
use Rattle.std.specs.Arc.{arc_value}
use Rattle.std.specs.Prelude.{length, slice_get, nat_lt}
use Rattle.jobs.specs.Jobs.{IsDelete, IsStepAsk, ends_of, stated_content}
use Rattle.jobs.specs.declared.what.What.TheVariants as what
use Rattle.kept_jobs.specs.Tags.{present}
use Rattle.run_promise.specs.Schedule.{AreETags, IsTaskAsk, IsUpload}
use Rattle.job_terms.specs.Jobs.{job_of, IsSourceDelete}
use Rattle.s3_model.specs.Documents.{document_of}
use Rattle.s3_model.specs.Lists.{Reserved}
use Rattle.s3_model.specs.Parts.{HasPieces, IsTransfer, piece_of, piece_range}
use Rattle.s3_model.specs.declared.settings.Config.{Config}
use Rattle.s3_model.specs.declared.settings.Limits.{Limits}
use Rattle.s3_model.specs.declared.answers.Reply.TheVariants as reply
use Rattle.s3_model.specs.declared.requests.Ask.{Ask}
use Rattle.s3_model.specs.declared.requests.Ask.TheVariants as ask
use Rattle.s3_model.specs.declared.requests.Op.{Op}
use Rattle.s3_model.specs.declared.requests.Op.TheVariants as op
use Rattle.s3_model.specs.declared.tasks.Kind.{Kind}
use Rattle.s3_model.specs.declared.tasks.Kind.TheVariants as kind
use Rattle.s3_model.specs.declared.tasks.Task.{Task}
use Rattle.task_acts.specs.declared.acts.Act.TheVariants as act
use Rattle.task_acts.specs.declared.work.Work.{Work}
use Rattle.task_acts.specs.Failures.{is_stopped}
use Rattle.task_acts.specs.Histories.{History}
use Rattle.task_acts.specs.Kept.{IsHistory, etag_of, etags_of, upload_of}
use Rattle.task_acts.specs.Rule.{is_due, is_left_over, is_named, is_ready_in}
use Rattle.task_acts.specs.Stages.{may_be_given, stage}
use Rattle.task_acts.specs.Work.{is_piece, piece_op}
use Rattle.shared_lemmas.proofs.Clashes.{some_is}
use Rattle.task_progress.proofs.Begun.{begun_calls, is_false, from_range}
use Rattle.task_progress.proofs.Endings.{chosen, no, skipped}
use Rattle.task_progress.proofs.Quiet.{done_has_begun}
use Rattle.task_progress.proofs.Tags.{each_part, tag_there}
use Rattle.task_schedule.specs.Asks.{AreOfTask, AsksAreOfSchedule, IsBodyOf, bytes_at, gained_in, known_of}
use Rattle.kept_jobs.specs.Steps.{HasTags}
use Rattle.task_schedule.proofs.Successes.{all_present, is_gained, tag_came, upload_came}
use Rattle.std.proofs.lemmas.Bool.{ltb-true}
use Rattle.task_acts.specs.Work.{first_number}
use Rattle.run_promise.specs.Schedule.{IsAbort, IsComplete}
use Rattle.task_acts.specs.Stages.{has_done}
use Rattle.task_progress.proofs.PieceNumbers.{is_zero, of_part, one_piece, only_piece}

-- the kinds that may go in parts
abbrev GoesInParts : Kind → Type 0
GoesInParts kind.Upload = Unit {0}
GoesInParts kind.Copy = Unit {0}
GoesInParts k = ⊥

-- ---- documents

abbrev HasNoDocument : Ask → Type 0
HasNoDocument (ask.Complete bucket key id etags fresh) = ⊥
HasNoDocument asked = Unit {0}

no_document : (asked : Ask) → HasNoDocument asked → document_of asked ≡ []
unfolding document_of
no_document (ask.Complete bucket key id etags fresh) h = absurd h
no_document asked h = refl

empty : (asked is : Ask) (body : List ℕ) → asked ≡ is → HasNoDocument is → body ≡ document_of asked → body ≡ []
empty asked is body e h b = b ∙ ap document_of e ∙ no_document is h

not_zero : (m : ℕ) → 1 ≤ m → (m == 0) ≡ false
not_zero m l = grind arith

module _ (task : Task) (w : Work) (h : History) (n : ℕ) (bytes : List ℕ) (holds : IsHistory w h) (of : AreOfTask n h)
    (one : w.small ≡ true → w.count ≡ 1) (size_is : w.size ≡ task.size) where
  -- ---- uploads and entity tags

  named : (id : List ℕ) → upload_of h ≡ Some id → IsUpload (gained_in h) n id
  named id e = is_gained n h op.Create 0 (reply.Created id) of (upload_came h id e)

  module _ (part : Op) (part_is : piece_op w.of_kind w.small ≡ part) (large : w.small ≡ false) (m : ℕ) (ready : is_ready_in w h (act.Send op.Complete m) ≡ true) where
    stored : (i : ℕ) (tag : List ℕ) → etag_of h (act.Send (piece_op w.of_kind w.small) (first_number w + i)) ≡ Some tag → gained_in h (job_of n part (i + 1)) (reply.PartStored tag)
    stored i tag e =
        let first : first_number w ≡ 1 = skipped w.small 0 1 large in
        let moved : first_number w + i ≡ i + 1 = omega arith in
        let by_number = subst (λ (number : ℕ). etag_of h (act.Send (piece_op w.of_kind w.small) number) ≡ Some tag) moved e in
        let by_op = subst (λ (o : Op). etag_of h (act.Send o (i + 1)) ≡ Some tag) part_is by_number in
        is_gained n h part (i + 1) (reply.PartStored tag) of (tag_came part (i + 1) tag h by_op)

    tagged : (items : List (List ℕ)) → items ≡ present (etags_of w h) → AreETags (gained_in h) n part w.count items
    tagged items is =
        let parts = each_part w h m ready in
        let all = all_present (λ number. etag_of h (act.Send (piece_op w.of_kind w.small) number)) (first_number w) w.count
        (λ number least below. tag_there w (piece_op w.of_kind w.small) number parts.0 h holds (parts.1 number (from_range (first_number w) w.count number least below))) in
        record {
          each_part = ap (λ (xs : List (List ℕ)). length xs) is ∙ all.0;
          in_order = λ i tag e. stored i tag (all.1 i tag (ap (λ (xs : List (List ℕ)). slice_get xs i) (sym is) ∙ e));
        }

  -- ---- the rows

  module _ (m : ℕ) (asked : Ask) (body : List ℕ) (etags : Option (Reserved (List ℕ))) where
    abbrev Row : Kind → Bool → Op → Type 0
    Row k small o = IsTaskAsk (gained_in h) task (known_of n w bytes) k small o m asked body

    abbrev Step : Kind → Op → Type 0
    Step k o = IsStepAsk task (piece_range w.size w.piece m) (upload_of h) etags o m asked

    abbrev Body : Op → Type 0
    Body o = IsBodyOf w bytes o m asked body

    whole : w.small ≡ true → body ≡ bytes_at w bytes m → body ≡ bytes
    whole small b = b ∙ chosen w.small bytes (piece_of bytes w.piece m) small

    piece : w.small ≡ false → body ≡ bytes_at w bytes m → body ≡ piece_of bytes w.piece m
    piece large b = b ∙ skipped w.small bytes (piece_of bytes w.piece m) large

    abbrev Due : Kind → Op → Type 0
    Due k o = is_due w (stage w h) false k (act.Send o m) ≡ true

    -- an upload in one request
    put_row : w.small ≡ true → Due kind.Upload op.Put → Step kind.Upload op.Put → Body op.Put → Row kind.Upload true op.Put
    put_row small due step b =
        let two = and_parts w.small (is_piece w m) (and_parts (w.small && is_piece w m) _ due).0 in
        (step.0, only_piece w m small (one small) two.1, step.1, whole small b)

    create_row : task.kind ≡ kind.Upload → Due kind.Upload op.Create → Step kind.Upload op.Create → Body op.Create → Row kind.Upload false op.Create
    create_row ik due step b =
        let asks : asked ≡ ask.Create step.0.bucket step.0.key task.content = step.1 ∙ ap (λ (k : Kind). ask.Create step.0.bucket step.0.key (stated_content k task.content)) ik in
        (step.0, is_zero m (and_parts (not w.small) (m == 0) due).1, asks, empty asked (ask.Create step.0.bucket step.0.key task.content) body asks tt b)

    part_row : w.small ≡ false → Due kind.Upload op.Part → Step kind.Upload op.Part → Body op.Part → Row kind.Upload false op.Part
    part_row large due step b =
        let two = and_parts (not w.small) (is_piece w m) (and_parts (not w.small && is_piece w m) _ due).0 in
        (step.0, step.1, named step.1 step.2, of_part w m large two.1, step.3, piece large b)

    get_row : w.small ≡ true → Due kind.Download op.Get → Step kind.Download op.Get → Body op.Get → Row kind.Download true op.Get
    get_row small due step b =
        let zero_is = only_piece w m small (one small) (and_parts (is_piece w m) _ due).0 in
        let asks : asked ≡ ask.Get step.0.bucket step.0.key task.etag None = step.1
        ∙ ap (ask.Get step.0.bucket step.0.key task.etag) (chosen (m == 0) None (Some (ends_of (piece_range w.size w.piece m))) (subst (λ (x : ℕ). (x == 0) ≡ true) (sym zero_is) refl)) in
        (step.0, zero_is, asks, empty asked (ask.Get step.0.bucket step.0.key task.etag None) body asks tt b)

    range_row : w.small ≡ false → Due kind.Download op.Get → Step kind.Download op.Get → Body op.Get → Row kind.Download false op.Get
    range_row large due step b =
        let is_part = of_part w m large (and_parts (is_piece w m) _ due).0 in
        let asks : asked ≡ ask.Get step.0.bucket step.0.key task.etag (Some (ends_of (piece_range task.size w.piece m))) = step.1
        ∙ ap (ask.Get step.0.bucket step.0.key task.etag) (skipped (m == 0) None (Some (ends_of (piece_range w.size w.piece m))) (not_zero m is_part.0))
        ∙ ap (λ (size : ℕ). ask.Get step.0.bucket step.0.key task.etag (Some (ends_of (piece_range size w.piece m)))) size_is in
        (step.0, is_part, asks, empty asked (ask.Get step.0.bucket step.0.key task.etag (Some (ends_of (piece_range task.size w.piece m)))) body asks tt b)

    copy_row : w.small ≡ true → Due kind.Copy op.Copy → Step kind.Copy op.Copy → Body op.Copy → Row kind.Copy true op.Copy
    copy_row small due step b = (
      step.0,
      step.1,
      only_piece w m small (one small) (and_parts w.small (is_piece w m) due).1,
      step.2,
      empty asked (ask.Copy step.0.bucket step.0.key step.1.bucket step.1.key task.etag) body step.2 tt b,
    )

    copy_create_row : task.kind ≡ kind.Copy → Due kind.Copy op.Create → Step kind.Copy op.Create → Body op.Create → Row kind.Copy false op.Create
    copy_create_row ik due step b =
        let asks : asked ≡ ask.Create step.0.bucket step.0.key None = step.1 ∙ ap (λ (k : Kind). ask.Create step.0.bucket step.0.key (stated_content k task.content)) ik in
        (step.0, is_zero m (and_parts (not w.small) (m == 0) due).1, asks, empty asked (ask.Create step.0.bucket step.0.key None) body asks tt b)

    part_copy_row : w.small ≡ false → Due kind.Copy op.PartCopy → Step kind.Copy op.PartCopy → Body op.PartCopy → Row kind.Copy false op.PartCopy
    part_copy_row large due step b =
        let two = and_parts (not w.small) (is_piece w m) (and_parts (not w.small && is_piece w m) _ due).0 in
        let asks : asked ≡ ask.PartCopy step.0.bucket step.0.key step.2 m step.1.bucket step.1.key task.etag (ends_of (piece_range task.size w.piece m)) = step.4
        ∙ ap (λ (size : ℕ). ask.PartCopy step.0.bucket step.0.key step.2 m step.1.bucket step.1.key task.etag (ends_of (piece_range size w.piece m))) size_is in (
          step.0,
          step.1,
          step.2,
          named step.2 step.3,
          of_part w m large two.1,
          asks,
          empty asked (ask.PartCopy step.0.bucket step.0.key step.2 m step.1.bucket step.1.key task.etag (ends_of (piece_range task.size w.piece m))) body asks tt b,
        )

    -- the end of an upload in parts
    complete_row : (k : Kind) (part : Op) → piece_op w.of_kind w.small ≡ part → w.small ≡ false → is_ready_in w h (act.Send op.Complete m) ≡ true → (m == 0) ≡ true
        → Step k op.Complete → HasTags w h op.Complete etags → Body op.Complete → IsComplete (gained_in h) task (known_of n w bytes) part asked × (m ≡ 0) × (body ≡ document_of asked)
    complete_row k part part_is large ready zero_is step tags b =
        let same : step.2 ≡ tags.0 = some_is step.2 tags.0 (sym step.5 ∙ tags.1) in
        let items : step.2.items ≡ present (etags_of w h) = ap (λ (r : Reserved (List ℕ)). r.items) same ∙ tags.2 in
        ((step.0, step.1, step.2.items, step.3, named step.1 step.4, tagged part part_is large m ready step.2.items items, step.6), is_zero m zero_is, b)

    abort_row : (k : Kind) → (m == 0) ≡ true → Step k op.Abort → Body op.Abort → IsAbort (gained_in h) task (known_of n w bytes) asked × (m ≡ 0) × (body ≡ [])
    abort_row k zero_is step b = (
      (step.0, step.1, named step.1 step.2, step.3),
      is_zero m zero_is,
      empty asked (ask.Abort step.0.bucket step.0.key step.1) body step.3 tt b,
    )

    source_row : (m == 0) ≡ true → IsSourceDelete task asked → Body op.Delete → IsSourceDelete task asked × (m ≡ 0) × (body ≡ [])
    source_row zero_is step b = (step, is_zero m zero_is, empty asked (ask.Delete step.0.bucket step.0.key) body step.2 tt b)

    removal_row : task.kind ≡ kind.RemoveObject → (small : Bool) → Due kind.RemoveObject op.Delete → Step kind.RemoveObject op.Delete → Body op.Delete → Row kind.RemoveObject small op.Delete
    removal_row ik small due step b =
        let to = subst (λ (k : Kind). IsDelete task k asked) ik step in
        (to.0, is_zero m due, to.1, empty asked (ask.Delete to.0.bucket to.0.key) body to.1 tt b)

    middle : (a b c : Bool) → (a && b && c) ≡ true → b ≡ true
    middle a b c e = (and_parts a b (and_parts (a && b) c e).0).1

    no_small : w.small ≡ true → not w.small ≡ true → false ≡ true
    no_small small large = sym (is_false w.small large) ∙ small

    not_small : (a b : Bool) → (not w.small && a && b) ≡ true → not w.small ≡ true
    not_small a b e = (and_parts (not w.small) a (and_parts (not w.small && a) b e).0).0

    no_large : w.small ≡ false → w.small ≡ true → false ≡ true
    no_large large small = sym large ∙ small

    due_row : (k : Kind) → w.of_kind ≡ k → task.kind ≡ k → (small : Bool) → w.small ≡ small → (o : Op) → is_ready_in w h (act.Send o m) ≡ true → Due k o → Step k o → HasTags w h o etags → Body o → Row k small o
    due_row kind.Upload is ik true so op.Put ready due step tags b = put_row so due step b
    due_row kind.Upload is ik true so op.Create ready due step tags b = no (no_small so (and_parts (not w.small) (m == 0) due).0)
    due_row kind.Upload is ik true so op.Part ready due step tags b = no (no_small so (not_small (is_piece w m) _ due))
    due_row kind.Upload is ik true so op.Complete ready due step tags b = no (no_small so (not_small (m == 0) _ (and_parts _ _ due).0))
    due_row kind.Upload is ik true so o ready due step tags b = no due
    due_row kind.Upload is ik false so op.Put ready due step tags b = no (no_large so (and_parts w.small (is_piece w m) (and_parts (w.small && is_piece w m) _ due).0).0)
    due_row kind.Upload is ik false so op.Create ready due step tags b = create_row ik due step b
    due_row kind.Upload is ik false so op.Part ready due step tags b = part_row so due step b
    due_row kind.Upload is ik false so op.Complete ready due step tags b =
        complete_row kind.Upload op.Part (ap (λ (x : Kind). piece_op x w.small) is ∙ ap (piece_op kind.Upload) so) so ready (middle (not w.small) (m == 0) _ (and_parts _ _ due).0) step tags b
    due_row kind.Upload is ik false so o ready due step tags b = no due
    due_row kind.Download is ik true so op.Get ready due step tags b = get_row so due step b
    due_row kind.Download is ik true so op.Delete ready due step tags b = source_row (middle w.moves (m == 0) _ due) (subst (λ (k : Kind). IsDelete task k asked) ik step) b
    due_row kind.Download is ik true so o ready due step tags b = no due
    due_row kind.Download is ik false so op.Get ready due step tags b = range_row so due step b
    due_row kind.Download is ik false so op.Delete ready due step tags b = source_row (middle w.moves (m == 0) _ due) (subst (λ (k : Kind). IsDelete task k asked) ik step) b
    due_row kind.Download is ik false so o ready due step tags b = no due
    due_row kind.Copy is ik true so op.Copy ready due step tags b = copy_row so due step b
    due_row kind.Copy is ik true so op.Create ready due step tags b = no (no_small so (and_parts (not w.small) (m == 0) due).0)
    due_row kind.Copy is ik true so op.PartCopy ready due step tags b = no (no_small so (not_small (is_piece w m) _ due))
    due_row kind.Copy is ik true so op.Complete ready due step tags b = no (no_small so (not_small (m == 0) _ (and_parts _ _ due).0))
    due_row kind.Copy is ik true so op.Delete ready due step tags b = source_row (middle w.moves (m == 0) _ due) (subst (λ (k : Kind). IsDelete task k asked) ik step) b
    due_row kind.Copy is ik true so o ready due step tags b = no due
    due_row kind.Copy is ik false so op.Copy ready due step tags b = no (no_large so (and_parts w.small (is_piece w m) due).0)
    due_row kind.Copy is ik false so op.Create ready due step tags b = copy_create_row ik due step b
    due_row kind.Copy is ik false so op.PartCopy ready due step tags b = part_copy_row so due step b
    due_row kind.Copy is ik false so op.Complete ready due step tags b =
        complete_row kind.Copy op.PartCopy (ap (λ (x : Kind). piece_op x w.small) is ∙ ap (piece_op kind.Copy) so) so ready (middle (not w.small) (m == 0) _ (and_parts _ _ due).0) step tags b
    due_row kind.Copy is ik false so op.Delete ready due step tags b = source_row (middle w.moves (m == 0) _ due) (subst (λ (k : Kind). IsDelete task k asked) ik step) b
    due_row kind.Copy is ik false so o ready due step tags b = no due
    due_row kind.RemoveObject is ik small so op.Delete ready due step tags b = removal_row ik small due step b
    due_row kind.RemoveObject is ik small so o ready due step tags b = no due
    due_row kind.RemoveFile is ik small so o ready due step tags b = no due

    -- after a failure or a cancel an Abort alone
    left_row : (k : Kind) → w.of_kind ≡ k → (small : Bool) → w.small ≡ small → (o : Op) → is_left_over w (stage w h) true (act.Send o m) ≡ true → Step k o → Body o → Row k small o
    left_row k is small so op.Abort left step b =
        let made = (and_parts _ _ (and_parts _ _ left).0).0 in
        let two = and_parts (m == 0) (has_done (stage w h (act.Send op.Create 0))) made in
        let parts = begun_calls w h holds (act.Send op.Create 0) (done_has_begun (stage w h (act.Send op.Create 0)) two.1) in
        by k small so parts.0 (subst GoesInParts is (in_parts parts.1)) (abort_row k two.0 step b)
      where
        in_parts : (w.of_kind ≡ kind.Upload) ⊎ (w.of_kind ≡ kind.Copy) → GoesInParts w.of_kind
        in_parts (inl up) = subst GoesInParts (sym up) tt
        in_parts (inr over) = subst GoesInParts (sym over) tt

        by : (k : Kind) → (small : Bool) → w.small ≡ small → w.small ≡ false → GoesInParts k
            → IsAbort (gained_in h) task (known_of n w bytes) asked × (m ≡ 0) × (body ≡ []) → Row k small op.Abort
        by k true so large which row = no (sym large ∙ so)
        by kind.Upload false so large which row = row
        by kind.Copy false so large which row = row
        by k false so large which row = absurd which
    left_row k is small so o left step b = no left

    row : (stopped : Bool) → (k : Kind) → w.of_kind ≡ k → task.kind ≡ k → (o : Op) → is_ready_in w h (act.Send o m) ≡ true → is_named w (stage w h) stopped (act.Send o m) ≡ true → Step k o → HasTags w h o etags → Body o
        → Row k w.small o
    row true k is ik o ready named step tags b = left_row k is w.small refl o named step b
    row false k is ik o ready named step tags b = due_row k is ik w.small refl o ready (subst (λ (x : Kind). is_due w (stage w h) false x (act.Send o m) ≡ true) is named) step tags b

-- ---- the law

pub asks_are_of_schedule : AsksAreOfSchedule
asks_are_of_schedule task config limits w h n bytes o m (what.Plan planned) asked body is holds of ready step asks b = absurd step
asks_are_of_schedule task config limits w h n bytes o m (what.Step of_task range upload etags) asked body is holds of ready step asks b =
    row task w h n bytes holds of (λ small. one_piece config limits task.kind task.size w.piece w.count is.pieces (sym is.small_is ∙ small)) is.size_is m asked body etags
    (is_stopped w h) task.kind is.kind_is refl o ready (and_parts (may_be_given (stage w h (act.Send o m))) _ ready).1
    (subst (λ (t : Task). IsStepAsk t (piece_range w.size w.piece m) (upload_of h) etags o m asked) step.0
    (subst (λ (r : ℕ × ℕ). IsStepAsk (arc_value of_task) r (upload_of h) etags o m asked) step.1
    (subst (λ (u : Option (List ℕ)). IsStepAsk (arc_value of_task) range u etags o m asked) step.2 asks.1)))
    step.3 b
