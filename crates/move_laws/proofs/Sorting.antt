-- What the act of a task needs, by its state and by its history.
use Rattle.std.proofs.Common.{◌≡◌, ◌∙◌, ℕ, Bool, true, false, Option, Some, None}
use Rattle.std.proofs.Common.{refl, sym, ap, not, if◌then◌else◌}
use Rattle.std.proofs.lemmas.Bool.{and_parts}
use Rattle.act_queues.specs.declared.act_queues.ActSort.{ActSort}
use Rattle.act_queues.specs.declared.act_queues.ActSort.TheVariants as sort
use Rattle.alike_histories.proofs.Alike.{alike_says_the_same}
use Rattle.manager_moves.proofs.CountLemmas.{no}
use Rattle.manager_moves.proofs.PartLaws.{find_passes}
use Rattle.manager_moves.specs.Parts.{has_part, holds_part, is_kept}
use Rattle.queue_laws.specs.ReadyActs.{sort_of}
use Rattle.queue_laws.specs.ReadyActs as laws
use Rattle.s3_model.specs.declared.requests.Op.TheVariants as op
use Rattle.s3_model.specs.declared.tasks.Kind.{Kind}
use Rattle.s3_model.specs.declared.tasks.Kind.TheVariants as kind
use Rattle.task_acts.specs.declared.acts.Act.{Act}
use Rattle.task_acts.specs.declared.acts.Act.TheVariants as act
use Rattle.task_acts.specs.declared.acts.Stage.{Stage}
use Rattle.task_acts.specs.declared.acts.Stage.TheVariants as at
use Rattle.task_acts.specs.declared.work.Work.{Work}
use Rattle.task_acts.specs.Failures.{is_stopped}
use Rattle.task_acts.specs.Histories.{History}
use Rattle.task_acts.specs.Rule.{acts_of, first_ready_in, is_due, is_left_over, is_named, is_ready_in}
use Rattle.task_acts.specs.Stages.{has_done, may_be_given, stage}
use Rattle.task_acts.specs.Work.{piece_op}
use Rattle.task_core.proofs.Standing as standing
use Rattle.task_core.specs.Machine.{SeenTask, ready_by}
use Rattle.task_stages.specs.Stages.{stage_by}
use Rattle.move_laws.specs.Follows.{IsTaskIn}
use Rattle.move_laws.specs.Kept.{sort_by, sort_if, sort_in}

-- ---- the part of a Get

-- a piece of a download that may be given holds a part where its job is kept
kept_holds : (read placed : Bool) (how : Stage) → may_be_given how ≡ true
    → holds_part kind.Download false read placed how ≡ is_kept how
kept_holds read placed at.Waiting e = refl
kept_holds read placed at.Kept e = refl
kept_holds read placed at.Out e = no e
kept_holds read placed at.Again e = no e
kept_holds read placed at.Fine e = no e
kept_holds read placed at.Failed e = no e

module _ (w : Work) (h : History) (n : ℕ) where
  abbrev get : Act
  get = act.Send op.Get n

  -- a Get is ready for a download alone that has not stopped
  due_get : (k : Kind) (stopped : Bool)
      → (if stopped then is_left_over w (stage w h) stopped get else is_due w (stage w h) stopped k get) ≡ true
      → (k ≡ kind.Download) × (stopped ≡ false)
  due_get k true e = no e
  due_get kind.Upload false e = no e
  due_get kind.Download false e = (refl, refl)
  due_get kind.Copy false e = no e
  due_get kind.RemoveObject false e = no e
  due_get kind.RemoveFile false e = no e

  abbrev held_by : Kind → (stopped : Bool) → Bool
  held_by k stopped = holds_part k stopped (has_done (stage w h (act.Read n))) (has_done (stage w h (act.Place n)))
      (stage w h (act.Send (piece_op k w.small) n))

  get_has : is_ready_in w h get ≡ true → has_part w h n ≡ is_kept (stage w h get)
  get_has e =
      let two = and_parts (may_be_given (stage w h get)) (is_named w (stage w h) (is_stopped w h) get) e in
      let due = due_get w.of_kind (is_stopped w h) two.1 in
      ap (λ (k : Kind). held_by k (is_stopped w h)) due.0 ∙ ap (λ (b : Bool). held_by kind.Download b) due.1
      ∙ kept_holds (has_done (stage w h (act.Read n))) (has_done (stage w h (act.Place n))) (stage w h get) two.0

-- ---- what the act needs

wants_part : (kept : Bool) → (if not kept then sort.Get else sort.Job) ≡ (if kept then sort.Job else sort.Get)
wants_part true = refl
wants_part false = refl

module _ (room : ℕ) (w : Work) (h : History) (t : SeenTask) (is : IsTaskIn room w h t) where
  pub ready_is : ready_by t ≡ first_ready_in w h
  ready_is =
      standing.ready w is.heard t is.stands ∙ (alike_says_the_same w is.heard h is.alike.told_are).ready

  pub stage_is : (a : Act) → stage_by t.stages a ≡ stage w h a
  stage_is a = sym (is.stands.stages a) ∙ (alike_says_the_same w is.heard h is.alike.told_are).stages a

  sort_is : (a : Act) → is_ready_in w h a ≡ true → sort_in t a ≡ sort_of w h a
  sort_is (act.Send op.Get n) e =
      wants_part (is_kept (stage_by t.stages (act.Send op.Get n)))
      ∙ ap (λ (b : Bool). if b then sort.Job else sort.Get)
      (ap is_kept (stage_is (act.Send op.Get n)) ∙ sym (get_has w h n e))
  sort_is (act.Send op.Head n) e = refl
  sort_is (act.Send op.Put n) e = refl
  sort_is (act.Send op.Copy n) e = refl
  sort_is (act.Send op.Delete n) e = refl
  sort_is (act.Send op.Create n) e = refl
  sort_is (act.Send op.Part n) e = refl
  sort_is (act.Send op.PartCopy n) e = refl
  sort_is (act.Send op.Complete n) e = refl
  sort_is (act.Send op.Abort n) e = refl
  sort_is (act.Send op.List n) e = refl
  sort_is (act.Send op.Buckets n) e = refl
  sort_is (act.Read n) e = refl
  sort_is act.Assemble e = refl
  sort_is (act.Place n) e = refl
  sort_is act.Rename e = refl
  sort_is act.DropTemp e = refl
  sort_is act.Remove e = refl
  sort_is act.Stamp e = refl

  by_ready : (a : Option Act) → first_ready_in w h ≡ a → sort_if t a ≡ laws.sort_if w h a
  by_ready None e = refl
  by_ready (Some a) e = ap (λ (x : ActSort). Some x) (sort_is a (find_passes (is_ready_in w h) (acts_of w) a e))

  pub sorted : sort_by t ≡ laws.sort_if w h (first_ready_in w h)
  sorted = ap (λ (a : Option Act). sort_if t a) ready_is ∙ by_ready (first_ready_in w h) refl
