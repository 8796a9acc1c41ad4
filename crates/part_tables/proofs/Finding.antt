-- What a table holds of a piece as the rule names its next move.
use Rattle.std.proofs.Common.{◌≡◌, ◌≢◌, ◌∙◌, ◌<◌, ◌&&◌, ◌||◌, ℕ, Bool, true, false, List, not, Option}
use Rattle.std.proofs.Common.{Some, None, refl, sym, subst, ap, is_some, slice_get, if◌then◌else◌}
use Rattle.std.proofs.lemmas.Bool.{ltb-true}
use Rattle.jobs.specs.Endings.{SeenCarried}
use Rattle.job_terms.specs.Buffers.{holds_buffer}
use Rattle.s3_model.specs.declared.bytes.Part.{Part}
use Rattle.s3_model.specs.declared.requests.Op.{Op}
use Rattle.s3_model.specs.declared.requests.Op.TheVariants as op
use Rattle.s3_model.specs.declared.tasks.Kind.{Kind}
use Rattle.s3_model.specs.declared.tasks.Kind.TheVariants as kind
use Rattle.task_acts.specs.declared.acts.Act.{Act}
use Rattle.task_acts.specs.declared.acts.Act.TheVariants as act
use Rattle.task_acts.specs.declared.acts.FileCame.TheVariants as file
use Rattle.task_acts.specs.declared.acts.Stage.{Stage}
use Rattle.task_acts.specs.declared.acts.Stage.TheVariants as at
use Rattle.task_acts.specs.declared.work.Work.{Work}
use Rattle.task_acts.specs.Failures.{is_stopped}
use Rattle.task_acts.specs.Histories.{History}
use Rattle.task_acts.specs.Kept.{IsHistory, kept_job}
use Rattle.task_acts.specs.Rule.{acts_of, first_ready_in, is_ready_in}
use Rattle.task_acts.specs.Stages.{has_done, is_out, may_be_given, stage}
use Rattle.task_acts.specs.Work.{is_piece, piece_op}
use Rattle.manager_moves.proofs.CountLemmas.{no}
use Rattle.manager_moves.proofs.HoldLemmas.{same_number}
use Rattle.manager_moves.proofs.MoveLaws.{given, in_front}
use Rattle.manager_moves.proofs.PartLaws.{find_passes, nothing, ready_act, same_value}
use Rattle.manager_moves.proofs.ShareLaws.{is_called, shares_are_histories}
use Rattle.manager_moves.specs.declared.moves.Move.{Move}
use Rattle.manager_moves.specs.declared.moves.Move.TheVariants as move
use Rattle.manager_moves.specs.Laws.{IsOfTask, IsRun}
use Rattle.manager_moves.specs.Moves.{has_free_part, lacks_part, next_move, ready}
use Rattle.manager_moves.specs.Parts.{has_part, holds_part, is_kept, lent}
use Rattle.manager_moves.specs.Runs.{Events, Shared, lacks_memory, made_count, share}
use Rattle.held_parts.specs.declared.held.Held.{Held}
use Rattle.held_parts.specs.Held.{AreSingle, IsHere, held_at, lent_in}
use Rattle.manager_parts.proofs.Counting.{tables_count}
use Rattle.manager_parts.specs.Counts.{holds_of}
use Rattle.part_changes.proofs.Calling.{came_fine, waits}
use Rattle.part_changes.proofs.Changing.{both_false, both_true}
use Rattle.part_changes.proofs.Pieces.{given_piece, goes_up, may_be, named, out_was_given, placing, was_given}
use Rattle.part_changes.specs.Changes.{moves_bytes}
use Rattle.part_tables.proofs.Following.{with_out}
use Rattle.part_tables.proofs.Freeing.{kept_jobs_wait}
use Rattle.part_tables.proofs.Tables.{none_with_fine, unread_holds}
use Rattle.part_tables.specs.Finding.{FindsPart, PlacingFindsPart, ReadingFindsFree, ReturningFindsAway}
use Rattle.part_tables.specs.Finding.{SendingFindsPart}
use Rattle.part_tables.specs.Tables.{IsTableOf, away_of, is_gone, is_with_job}

-- ---- what a piece holds

gone_is : (x : Option (Option Part)) → is_gone x ≡ true → x ≡ Some None
gone_is None e = no e
gone_is (Some None) e = refl
gone_is (Some (Some part)) e = no e

here_is : (x : Option (Option Part)) → x ≢ None → is_gone x ≡ false → IsHere x
here_is None h e = absurd (h refl)
here_is (Some None) h e = no (sym e)
here_is (Some (Some part)) h e = tt

some_here : (x : Option (Option Part)) → is_some x ≡ true → is_gone x ≡ false → IsHere x
some_here None h e = no h
some_here (Some None) h e = no (sym e)
some_here (Some (Some part)) h e = tt

none_is : (x : Option (Option Part)) → is_some x ≡ false → x ≡ None
none_is None e = refl
none_is (Some part) e = no (sym e)

-- ---- how far an act is

not_out : (how : Stage) → may_be_given how ≡ true → is_out how ≡ false
not_out at.Waiting e = refl
not_out at.Kept e = refl
not_out at.Out e = no e
not_out at.Again e = no e
not_out at.Fine e = no e
not_out at.Failed e = no e

not_done : (how : Stage) → may_be_given how ≡ true → has_done how ≡ false
not_done at.Waiting e = refl
not_done at.Kept e = refl
not_done at.Out e = no e
not_done at.Again e = no e
not_done at.Fine e = no e
not_done at.Failed e = no e

-- what was read and may be sent holds a part
upload_holds : (t r p : Bool) (how : Stage) → t ≡ false → r ≡ true → may_be_given how ≡ true
    → holds_part kind.Upload t r p how ≡ true
upload_holds t r p at.Waiting a b c =
    ap (λ (x : Bool). holds_part kind.Upload x r p at.Waiting) a
    ∙ ap (λ (x : Bool). holds_part kind.Upload false x p at.Waiting) b
upload_holds t r p at.Kept a b c =
    ap (λ (x : Bool). holds_part kind.Upload x r p at.Kept) a
    ∙ ap (λ (x : Bool). holds_part kind.Upload false x p at.Kept) b
upload_holds t r p at.Out a b c = no c
upload_holds t r p at.Again a b c = no c
upload_holds t r p at.Fine a b c = no c
upload_holds t r p at.Failed a b c = no c

up_holds : (k : Kind) (small t r p : Bool) (how : Stage) → moves_bytes k ≡ true → goes_up (piece_op k small) ≡ true
    → t ≡ false
    → r ≡ true → may_be_given how ≡ true → holds_part k t r p how ≡ true
up_holds kind.Upload small t r p how m u a b c = upload_holds t r p how a b c
up_holds kind.Download small t r p how m u a b c = no u
up_holds kind.Copy small t r p how m u a b c = no m
up_holds kind.RemoveObject small t r p how m u a b c = no m
up_holds kind.RemoveFile small t r p how m u a b c = no m

came_holds : (k : Kind) (t r p : Bool) (how : Stage) → k ≡ kind.Download → t ≡ false → p ≡ false → how ≡ at.Fine
    → holds_part k t r p how ≡ true
came_holds k t r p how a b c d =
    ap (λ (x : Kind). holds_part x t r p how) a ∙ ap (λ (x : Bool). holds_part kind.Download x r p how) b
    ∙ ap (λ (x : Bool). holds_part kind.Download false r x how) c
    ∙ ap (λ (x : Stage). holds_part kind.Download false r false x) d

comes_by_get : (o : Op) → holds_buffer o ≡ true → goes_up o ≡ false → o ≡ op.Get
comes_by_get op.Get b u = refl
comes_by_get op.Put b u = no (sym u)
comes_by_get op.Part b u = no (sym u)
comes_by_get op.Head b u = no b
comes_by_get op.Copy b u = no b
comes_by_get op.Delete b u = no b
comes_by_get op.Create b u = no b
comes_by_get op.PartCopy b u = no b
comes_by_get op.Complete b u = no b
comes_by_get op.Abort b u = no b
comes_by_get op.List b u = no b
comes_by_get op.Buckets b u = no b

lacks_none : (has free : Bool) → (not has && not free) ≡ false → has ≡ false → free ≡ true
lacks_none true free e f = no (sym f)
lacks_none false true e f = refl
lacks_none false false e f = no (sym e)

wants_part : (free : Bool) (n k : ℕ) (m : Move) → (if free then Some (move.Read n k) else None) ≡ Some m → free ≡ true
wants_part true n k m e = refl
wants_part false n k m e = absurd (nothing e)

module _ (s : Shared) (events : Events) (slots : List (Option Held)) (run : IsRun s events)
    (table : IsTableOf s.works events slots)
    (task : ℕ) (w : Work) (there : slice_get s.works task ≡ Some w) where
  abbrev h : History
  h = share w task events

  abbrev job : ℕ → Act
  job n = act.Send (piece_op w.of_kind w.small) n

  is : IsHistory w h
  is = shares_are_histories s events task w there run

  is_ready_act : (a : Act) → ready s events task w ≡ Some a → is_ready_in w h a ≡ true
  is_ready_act a e = find_passes (is_ready_in w h) (acts_of w) a
      (ready_act (lacks_memory task events) (first_ready_in w h) a e)

  gone_here : (n : ℕ) → is_gone (held_at slots task n)
      ≡ (is_piece w n && is_with_job w.of_kind (is_stopped w h) (stage w h (job n)))
  gone_here n = table.away task n ∙ ap (λ (o : Option Work). away_of false o events task n) there

  held_here : (n : ℕ) → is_some (held_at slots task n) ≡ (is_piece w n && has_part w h n)
  held_here n = table.held task n refl ∙ ap (λ (o : Option Work). holds_of o events task n) there

  -- a part is free
  free_is : AreSingle slots → has_free_part s events ≡ true → lent_in slots < s.buffers
  free_is single e = subst (λ (n : ℕ). n < s.buffers)
      (tables_count s.works events slots single (λ t n. table.held t n refl))
      (ltb-true (lent s.works events) s.buffers e)

  -- ---- a job is given

  module _ (single : AreSingle slots) (o : Op) (k : ℕ) (b : holds_buffer o ≡ true)
      (a_ready : ready s events task w ≡ Some (act.Send o k))
      (lacks : lacks_part s events task w o k ≡ false) where
    may_send : is_ready_in w h (act.Send o k) ≡ true
    may_send = is_ready_act (act.Send o k) a_ready

    waits_for_it : may_be_given (stage w h (job k)) ≡ true
    waits_for_it = subst (λ (x : Op). may_be_given (stage w h (act.Send x k)) ≡ true)
        (sym (named w h o k b may_send).1.of_piece)
        (may_be w h (act.Send o k) may_send)

    abbrev kept : Bool
    kept = is_some (kept_job w h (act.Send o k))

    -- it is kept where its stage says so
    kept_is : kept ≡ is_kept (stage w h (job k))
    kept_is = kept_jobs_wait s events task w o k run
        ∙ ap (λ (x : Op). is_kept (stage w h (act.Send x k))) (sym (named w h o k b may_send).1.of_piece)

    gone_by : is_gone (held_at slots task k) ≡ kept
    gone_by =
        let its = named w h o k b may_send in
        gone_here k
        ∙ ap (λ (p : Bool). p && is_with_job w.of_kind (is_stopped w h) (stage w h (job k))) its.1.piece
        ∙ ap (λ (m : Bool). m && (is_out (stage w h (job k)) || (not (is_stopped w h) && is_kept (stage w h (job k)))))
        its.1.moves
        ∙ ap (λ (x : Bool). x || (not (is_stopped w h) && is_kept (stage w h (job k)))) (not_out _ waits_for_it)
        ∙ ap (λ (t : Bool). not t && is_kept (stage w h (job k))) its.0
        ∙ sym kept_is

    has_none : held_at slots task k ≡ None → has_part w h k ≡ false
    has_none e = ap (λ (p : Bool). p && has_part w h k) (sym (named w h o k b may_send).1.piece)
        ∙ sym (held_here k) ∙ ap (λ (x : Option (Option Part)). is_some x) e

    free_by : held_at slots task k ≡ None → (u : Bool) → goes_up (piece_op w.of_kind w.small) ≡ u
        → has_free_part s events ≡ true
    free_by e true u =
        let its = named w h o k b may_send in
        no (sym (has_none e) ∙ up_holds w.of_kind w.small (is_stopped w h) (has_done (stage w h (act.Read k)))
        (has_done (stage w h (act.Place k))) (stage w h (job k)) its.1.moves u its.0
        (ap has_done (its.1.was_read (subst (λ (x : Op). goes_up x ≡ true) its.1.of_piece u))) waits_for_it)
    free_by e false u =
        let its = named w h o k b may_send in
        let get = comes_by_get o b (subst (λ (x : Op). goes_up x ≡ false) its.1.of_piece u) in
        lacks_none (has_part w h k) (has_free_part s events)
        (subst (λ (x : Op). lacks_part s events task w x k ≡ false) get lacks) (has_none e)

    finds : FindsPart kept s.buffers slots task k
    finds = record {
      away = λ e. gone_is _ (gone_by ∙ e);
      here = λ e n. here_is _ n (gone_by ∙ e);
      free = λ e n. free_is single (free_by n (goes_up (piece_op w.of_kind w.small)) refl);
    }

  -- ---- a job comes back

  back_away : (c : SeenCarried) → is_out (stage w h (act.Send c.job.id.op c.job.id.number)) ≡ true
      → holds_buffer c.job.id.op ≡ true → held_at slots task c.job.id.number ≡ Some None
  back_away c out b =
      let known = given_piece w c.job.id.op c.job.id.number b h is (out_was_given _ out) in
      let its : is_out (stage w h (job c.job.id.number)) ≡ true =
      subst (λ (x : Op). is_out (stage w h (act.Send x c.job.id.number)) ≡ true) (sym known.of_piece) out in
      gone_is _ (gone_here c.job.id.number
      ∙ both_true _ _ known.piece (with_out w (is_stopped w h) (stage w h (job c.job.id.number)) known.moves its))

  -- ---- a piece is read or placed

  read_finds : (k : ℕ) → ready s events task w ≡ Some (act.Read k) → held_at slots task k ≡ None
  read_finds k a_ready =
      let may = is_ready_act (act.Read k) a_ready in
      none_is _ (held_here k ∙ both_false (is_piece w k) _
      (unread_holds w.of_kind (is_stopped w h) (has_done (stage w h (act.Read k))) (has_done (stage w h (act.Place k)))
      (stage w h (job k)) (not_done _ (may_be w h (act.Read k) may))
      (waits w h file.Fine k k is may (same_number k) (was_given (stage w h (job k))) refl)))

  place_finds : (k : ℕ) → ready s events task w ≡ Some (act.Place k) → IsHere (held_at slots task k)
  place_finds k a_ready =
      let may = is_ready_act (act.Place k) a_ready in
      let its = placing w h k may in
      let fine = came_fine w h file.Fine k k is may (same_number k) in
      some_here _
      (held_here k ∙ both_true _ _ its.2
      (came_holds w.of_kind (is_stopped w h) (has_done (stage w h (act.Read k))) (has_done (stage w h (act.Place k)))
      (stage w h (job k)) its.1 its.0 (not_done _ (may_be w h (act.Place k) may)) fine))
      (gone_here k ∙ both_false (is_piece w k) _
      (ap (λ (x : Stage). is_with_job w.of_kind (is_stopped w h) x) fine
      ∙ none_with_fine w.of_kind (is_stopped w h)))

pub sending_finds_part : SendingFindsPart
sending_finds_part s events slots task o k lane v run single table there e b =
    let g = given s events task o k lane e in
    subst (λ (x : Work). FindsPart (is_some (kept_job x (share x task events) (act.Send o k))) s.buffers slots task k)
    (same_value (sym g.of_plan ∙ there))
    (finds s events slots run table task g.work g.of_plan single o k b g.is_ready g.has_part)

pub returning_finds_away : ReturningFindsAway
returning_finds_away s events slots lane c task run table its b =
    let of_task = subst (λ (x : Option ℕ). IsOfTask s events x c) its run.0.1 in
    back_away s events slots run.1 table task of_task.0 of_task.1 c of_task.2.0 b

pub reading_finds_free : ReadingFindsFree
reading_finds_free s events slots task k run single table e =
    let next = is_called s events task (act.Read k) e in
    let there = in_front (made_count events) s.works task next.0 next.1 in (
      read_finds s events slots run table task next.0 there k next.2,
      free_is s events slots run table task next.0 there single
          (wants_part (has_free_part s events) task k (next_move s events) e),
    )

pub placing_finds_part : PlacingFindsPart
placing_finds_part s events slots task k run table e =
    let next = is_called s events task (act.Place k) e in
    let there = in_front (made_count events) s.works task next.0 next.1 in
    place_finds s events slots run table task next.0 there k next.2
