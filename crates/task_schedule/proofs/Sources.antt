-- The source of a move goes after the success that decides its task.
use Rattle.std.proofs.Common.{◌≡◌, ◌≢◌, ℕ, Bool, true, false, ◌∷◌, refl, sym, subst, inr, arith}
use Rattle.std.proofs.lemmas.Bool.{and_parts}
use Rattle.std.specs.List.{range_with_len}
use Rattle.job_terms.specs.Ops.{deciding}
use Rattle.run_promise.specs.Schedule.{IsDecidedBy}
use Rattle.job_terms.specs.Jobs.{job_of}
use Rattle.s3_model.specs.declared.requests.Op.{Op}
use Rattle.s3_model.specs.declared.requests.Op.TheVariants as op
use Rattle.s3_model.specs.declared.tasks.Kind.{Kind}
use Rattle.s3_model.specs.declared.tasks.Kind.TheVariants as kind
use Rattle.task_acts.specs.declared.acts.Act.{Act}
use Rattle.task_acts.specs.declared.acts.Act.TheVariants as act
use Rattle.task_acts.specs.declared.acts.Stage.{Stage}
use Rattle.task_acts.specs.declared.acts.Stage.TheVariants as at
use Rattle.task_acts.specs.declared.work.Work.{Work}
use Rattle.task_acts.specs.Failures.{is_stopped}
use Rattle.task_acts.specs.Histories.{Came, Gave, History}
use Rattle.task_acts.specs.Kept.{IsHistory}
use Rattle.task_acts.specs.Laws.{MayLoseSource}
use Rattle.task_acts.specs.Rule.{is_decided, is_decided_by, is_due, is_each_done, is_named, is_ready_in}
use Rattle.task_acts.specs.Stages.{has_done, has_ended, may_be_given, stage}
use Rattle.task_acts.specs.Work.{first_number, is_piece, numbers}
use Rattle.task_acts.proofs.RuleLaws.{sources_go_last}
use Rattle.shared_lemmas.proofs.Members.{Has, contains_of, has, has-append_right}
use Rattle.task_progress.specs.Progress.{HasPiece}
use Rattle.task_progress.proofs.Begun.{from_range, has_begun}
use Rattle.task_progress.proofs.Endings.{chosen, no, skipped}
use Rattle.task_progress.proofs.Progress.{all_has, first_in_range}
use Rattle.task_progress.proofs.Quiet.{done_has_begun}
use Rattle.task_progress.proofs.Tags.{CameFine, came_fine}
use Rattle.task_schedule.specs.Asks.{AreOfTask, gained_in}
use Rattle.task_schedule.specs.Givings.{SourcesGoAfterSuccess}
use Rattle.task_schedule.proofs.Givings.{complete_reply, copy_reply, given_at}
use Rattle.task_schedule.proofs.Standing.{WasGiven, was_given}
use Rattle.task_schedule.proofs.Successes.{is_gained}

pub ended_has_begun : (how : Stage) → has_ended how ≡ true → has_begun how ≡ true
ended_has_begun at.Waiting e = e
ended_has_begun how e = refl

module _ (w : Work) where
  ready_named : (h : History) (a : Act) → is_ready_in w h a ≡ true → is_named w (stage w h) (is_stopped w h) a ≡ true
  ready_named h a e = (and_parts (may_be_given (stage w h a)) _ e).1

  -- ---- a download

  module _ (down : w.of_kind ≡ kind.Download) where
    due : (h : History) (a : Act) → is_due w (stage w h) false w.of_kind a ≡ true → is_due w (stage w h) false kind.Download a ≡ true
    due h a e = subst (λ (k : Kind). is_due w (stage w h) false k a ≡ true) down e

    rename_due : (h : History) (stopped : Bool) → is_named w (stage w h) stopped act.Rename ≡ true → is_each_done w (stage w h) false act.Place ≡ true
    rename_due h true e = no e
    rename_due h false e = (and_parts (has_done (stage w h act.Assemble)) _ (due h act.Rename e)).1

    place_due : (h : History) (n : ℕ) (stopped : Bool) → is_named w (stage w h) stopped (act.Place n) ≡ true → has_done (stage w h (act.Send op.Get n)) ≡ true
    place_due h n true e = no e
    place_due h n false e = (and_parts (is_piece w n) _ (due h (act.Place n) e)).1

    -- a success that came before a giving
    moved : (h : History) (a : Act) (given : WasGiven w h a) (o : Op) (k : ℕ) → CameFine w given.before o k → CameFine w h o k
    moved h a given o k c = record {
      carried = c.carried;
      known = subst (λ (x : History). Has x (Came c.carried)) (sym given.is) (has-append_right given.later (Gave a ∷ given.before) (Came c.carried) (inr c.known));
      op_is = c.op_is;
      number_is = c.number_is;
      said = c.said;
      gains = c.gains;
      replies = c.replies;
    }

    -- each Get of a renamed file came with success
    got : (h : History) → IsHistory w h → has_begun (stage w h act.Stamp) ≡ true → (n : ℕ) → Has (numbers w) n → CameFine w h op.Get n
    got h is stamped n known =
        let stamp = was_given w h is act.Stamp stamped in
        let rename = was_given w stamp.before stamp.holds act.Rename (done_has_begun (stage w stamp.before act.Rename) (ready_named stamp.before act.Stamp stamp.ready)) in
        let each = rename_due rename.before (is_stopped w rename.before) (ready_named rename.before act.Rename rename.ready) in
        let placed = all_has (λ number. has_done (stage w rename.before (act.Place number))) (numbers w) each n known in
        let place = was_given w rename.before rename.holds (act.Place n) (done_has_begun (stage w rename.before (act.Place n)) placed) in
        let came = came_fine w op.Get n place.before place.holds (place_due place.before n (is_stopped w place.before) (ready_named place.before (act.Place n) place.ready)) in
        moved h act.Stamp stamp op.Get n (moved stamp.before act.Rename rename op.Get n (moved rename.before (act.Place n) place op.Get n came))

  -- ---- by the kinds

  module _ (n : ℕ) (h : History) (is : IsHistory w h) (of : AreOfTask n h) where
    gained : (o : Op) (k : ℕ) (c : CameFine w h o k) → gained_in h (job_of n o k) c.said
    gained o k c = is_gained n h o k c.said of (record { carried = c.carried; known = c.known; op_is = c.op_is; number_is = c.number_is; gains = c.gains })

    copy_decided : (small : Bool) → has_done (stage w h (act.Send (deciding kind.Copy small) 0)) ≡ true → IsDecidedBy kind.Copy small n w.count (gained_in h)
    copy_decided true done = let c = came_fine w op.Copy 0 h is done in subst (gained_in h (job_of n op.Copy 0)) (copy_reply c.said c.replies) (gained op.Copy 0 c)
    copy_decided false done = let c = came_fine w op.Complete 0 h is done in subst (gained_in h (job_of n op.Complete 0)) (complete_reply c.said c.replies) (gained op.Complete 0 c)

    pub download_decided : HasPiece w → (small : Bool) → w.small ≡ small → ((k : ℕ) → Has (numbers w) k → CameFine w h op.Get k) → IsDecidedBy kind.Download small n w.count (gained_in h)
    download_decided piece true so got =
        let first : first_number w ≡ 0 = chosen w.small 0 1 so in
        let c = got 0 (subst (λ (k : ℕ). Has (range_with_len k w.count) 0) (sym first) (first_in_range 0 w.count piece.some)) in
        (c.said, gained op.Get 0 c)
    download_decided piece false so got = λ k least most.
        let first : first_number w ≡ 1 = skipped w.small 0 1 so in
        let c = got k (from_range (first_number w) w.count k (omega arith) (omega arith)) in
        (c.said, gained op.Get k c)

    copied : w.of_kind ≡ kind.Copy → is_decided w (stage w h) (is_stopped w h) ≡ true → has_done (stage w h (act.Send (deciding kind.Copy w.small) 0)) ≡ true
    copied so e = subst (λ (k : Kind). has_done (stage w h (act.Send (deciding k w.small) 0)) ≡ true) so (subst (λ (k : Kind). is_decided_by w (stage w h) (is_stopped w h) k ≡ true) so e)

    decided : HasPiece w → w.of_kind ≢ kind.RemoveObject → (k : Kind) → w.of_kind ≡ k → MayLoseSource w (stage w h) (is_stopped w h) k → IsDecidedBy k w.small n w.count (gained_in h)
    decided piece moved kind.Upload so lost = absurd lost
    decided piece moved kind.Download so lost = download_decided piece w.small refl (λ k known. got so h is (ended_has_begun (stage w h act.Stamp) lost.1) k known)
    decided piece moved kind.Copy so lost = copy_decided w.small (copied so lost.1)
    decided piece moved kind.RemoveObject so lost = absurd (moved so)
    decided piece moved kind.RemoveFile so lost = absurd lost

pub sources_go_after_success : SourcesGoAfterSuccess
sources_go_after_success w h later before n k piece is of moved at =
    let given = given_at w h later before op.Delete k is at in
    decided w n before given.1 (λ c known. of c (contains_of h (Came c) (subst (λ (x : History). Has x (Came c)) (sym at) (has-append_right later (Gave (act.Send op.Delete k) ∷ before) (Came c) (inr (has before (Came c) known))))))
    piece moved w.of_kind refl (sources_go_last w before k given.0)
