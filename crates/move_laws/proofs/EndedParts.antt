-- A task that has ended holds no part, and one to which nothing but cancels happened holds none.
use Rattle.std.proofs.Common.{◌≡◌, ◌∙◌, ◌&&◌, ◌||◌, ℕ, Bool, true, false, refl, sym, subst, ap, is_some, not}
use Rattle.s3_model.specs.declared.requests.Op.TheVariants as op
use Rattle.s3_model.specs.declared.tasks.Kind.{Kind}
use Rattle.s3_model.specs.declared.tasks.Kind.TheVariants as kind
use Rattle.task_acts.specs.declared.acts.Act.{Act}
use Rattle.task_acts.specs.declared.acts.Act.TheVariants as act
use Rattle.task_acts.specs.declared.acts.Stage.{Stage}
use Rattle.task_acts.specs.declared.acts.Stage.TheVariants as at
use Rattle.task_acts.specs.declared.work.Work.{Work}
use Rattle.task_acts.specs.Ends.{outcome_of}
use Rattle.task_acts.specs.Failures.{is_stopped}
use Rattle.task_acts.specs.Histories.{History}
use Rattle.task_acts.specs.Kept.{IsHistory}
use Rattle.task_acts.specs.Rule.{is_due, is_named}
use Rattle.task_acts.specs.Stages.{has_done, is_out, may_be_given, stage}
use Rattle.task_acts.specs.Work.{is_piece, piece_op}
use Rattle.manager_moves.proofs.CountLemmas.{no}
use Rattle.manager_moves.specs.Parts.{has_part, holds_part}
use Rattle.task_progress.proofs.Progress.{IsCounted, all_three, both, failed_stops, has_failed, opposite}
use Rattle.task_progress.proofs.Quiet.{IsQuiet, not_out, not_ready, outcome_quiet}
use Rattle.task_progress.specs.Progress.{HasPiece}
use Rattle.part_changes.proofs.Changing.{both_false}
use Rattle.part_changes.specs.Changes.{moves_bytes}
use Rattle.part_tables.proofs.Tables.{stopped_has, unread_holds}
use Rattle.part_tables.specs.Tables.{job_of}

-- nothing was given of it
pub none_held_waiting : (w : Work) (h : History) (n : ℕ) → ((a : Act) → stage w h a ≡ at.Waiting)
    → has_part w h n ≡ false
none_held_waiting w h n waits =
    unread_holds w.of_kind (is_stopped w h) (has_done (stage w h (act.Read n))) (has_done (stage w h (act.Place n)))
    (stage w h (job_of w n)) (ap has_done (waits (act.Read n))) (waits (job_of w n))

none_if : (b : Bool) → (b ≡ true → false ≡ true) → b ≡ false
none_if true f = sym (f refl)
none_if false f = refl

-- what goes up, and what comes down
sent_none : (out read may : Bool) → out ≡ false → (read ≡ true → may ≡ true → false ≡ true)
    → (out || (not false && read && may)) ≡ false
sent_none true read may e f = no (sym e)
sent_none false true true e f = no (f refl refl)
sent_none false true false e f = refl
sent_none false false may e f = refl

got_none : (how : Stage) (placed : Bool) → has_done how ≡ true → placed ≡ true
    → holds_part kind.Download false false placed how ≡ false
got_none at.Fine true e f = refl
got_none at.Fine false e f = no f
got_none at.Waiting placed e f = no e
got_none at.Out placed e f = no e
got_none at.Kept placed e f = no e
got_none at.Again placed e f = no e
got_none at.Failed placed e f = no e

module _ (w : Work) (h : History) (piece : HasPiece w) (is : IsHistory w h) (quiet : IsQuiet w h) (n : ℕ)
    (its : is_piece w n ≡ true) where
  abbrev how : Act → Stage
  how a = stage w h a

  is_in : (a : Act) → is_out (how a) ≡ false
  is_in a = none_if (is_out (how a)) (not_out w h piece is quiet a)

  -- ---- nothing stopped it

  module _ (going : is_stopped w h ≡ false) where
    abbrev Named : Act → Type 0
    Named a = is_named w how false a ≡ true

    unready : (a : Act) → may_be_given (how a) ≡ true → Named a → false ≡ true
    unready a may named =
        not_ready w h piece is quiet a
        (both (may_be_given (how a)) (is_named w how (is_stopped w h) a) may
        (subst (λ (b : Bool). is_named w how b a ≡ true) (sym going) named))

    -- what is named has come with success
    fine : (a : Act) → IsCounted a → Named a → has_done (how a) ≡ true
    fine a counted named = by (how a) refl
      where
        by : (x : Stage) → how a ≡ x → has_done (how a) ≡ true
        by at.Fine e = ap has_done e
        by at.Waiting e = no (unready a (ap may_be_given e) named)
        by at.Kept e = no (unready a (ap may_be_given e) named)
        by at.Out e = no (not_out w h piece is quiet a (ap is_out e))
        by at.Again e = no (not_out w h piece is quiet a (ap is_out e))
        by at.Failed e = no (sym going ∙ failed_stops w h a counted (ap has_failed e))

    abbrev Due : Kind → Act → Type 0
    Due k a = is_due w how false k a ≡ true

    due : (k : Kind) → w.of_kind ≡ k → (a : Act) → Due k a → Due w.of_kind a
    due k e a d = subst (λ (x : Kind). Due x a) (sym e) d

    abbrev holds_by : Kind → (small : Bool) → Bool
    holds_by k small = holds_part k false (has_done (how (act.Read n))) (has_done (how (act.Place n)))
        (how (act.Send (piece_op k small) n))

    download : w.of_kind ≡ kind.Download → holds_by kind.Download w.small ≡ false
    download e =
        let assembled = fine act.Assemble tt (due kind.Download e act.Assemble refl) in
        let got = fine (act.Send op.Get n) tt (due kind.Download e (act.Send op.Get n)
        (both (is_piece w n) (has_done (how act.Assemble)) its assembled)) in
        let placed = fine (act.Place n) tt (due kind.Download e (act.Place n)
        (both (is_piece w n) (has_done (how (act.Send op.Get n))) its got)) in
        got_none (how (act.Send op.Get n)) (has_done (how (act.Place n))) got placed

    none_going : (k : Kind) → w.of_kind ≡ k → (small : Bool) → w.small ≡ small → holds_by k small ≡ false
    none_going kind.Upload e true f =
        sent_none (is_out (how (act.Send op.Put n))) (has_done (how (act.Read n)))
        (may_be_given (how (act.Send op.Put n))) (is_in (act.Send op.Put n))
        (λ read may. unready (act.Send op.Put n) may (due kind.Upload e (act.Send op.Put n)
        (all_three w.small (is_piece w n) (has_done (how (act.Read n))) f its read)))
    none_going kind.Upload e false f =
        sent_none (is_out (how (act.Send op.Part n))) (has_done (how (act.Read n)))
        (may_be_given (how (act.Send op.Part n))) (is_in (act.Send op.Part n))
        (λ read may. unready (act.Send op.Part n) may (due kind.Upload e (act.Send op.Part n)
        (all_three (not w.small) (is_piece w n) (has_done (how (act.Read n))) (opposite w.small f) its read)))
    none_going kind.Download e small f = download e
    none_going kind.Copy e small f = refl
    none_going kind.RemoveObject e small f = refl
    none_going kind.RemoveFile e small f = refl

  pub none_held_quiet : has_part w h n ≡ false
  none_held_quiet = by (is_stopped w h) refl
    where
      by : (b : Bool) → is_stopped w h ≡ b → has_part w h n ≡ false
      by true e =
          stopped_has w h n e ∙ both_false (moves_bytes w.of_kind) (is_out (how (job_of w n))) (is_in (job_of w n))
      by false e =
          ap (λ (b : Bool). holds_part w.of_kind b (has_done (how (act.Read n))) (has_done (how (act.Place n)))
          (how (job_of w n))) e ∙ none_going e w.of_kind refl w.small refl

-- a task that has ended holds none
pub none_held_ended : (w : Work) (h : History) (n : ℕ) → HasPiece w → IsHistory w h → is_some (outcome_of w h) ≡ true
    → is_piece w n ≡ true → has_part w h n ≡ false
none_held_ended w h n piece is ended its = none_held_quiet w h piece is (outcome_quiet w h piece is ended) n its
