-- The first act that is ready, by the order in which acts are asked for.
use Rattle.std.proofs.Common.{◌≡◌, ◌∙◌, ◌++◌, ◌&&◌, ◌||◌, Bool, false, not, Option, Some, None, length, map, refl, sym, ap, if◌then◌else◌}
use Rattle.std.specs.List.{find, list_all, position}
use Rattle.std.specs.Option.{option_or}
use Rattle.std.proofs.lemmas.List.Folds.{find-append}
use Rattle.piece_stages.specs.Pieces.{can_place, can_read, can_send, is_busy, is_placed, is_sent}
use Rattle.s3_model.specs.declared.requests.Op.TheVariants as op
use Rattle.task_acts.specs.declared.acts.Act.{Act}
use Rattle.task_acts.specs.declared.acts.Act.TheVariants as act
use Rattle.task_acts.specs.declared.work.Work.{Work}
use Rattle.task_acts.specs.Rule.{file_acts, first_ready, is_decided, is_due, is_idle, is_ready, piece_sends, single_sends}
use Rattle.task_acts.specs.Rule as rule
use Rattle.task_acts.specs.Stages.{has_done, has_ended}
use Rattle.task_acts.specs.Work.{first_number, numbers, piece_op}
use Rattle.task_stages.specs.Stages.{SeenStages, is_idle_single, piece_count, reads_first, stage_by}
use Rattle.task_readiness.specs.Readiness.{has_parts, is_download, is_upload, may_delete_by, may_remove_by, may_send, numbered, single_calls}
use Rattle.task_readiness.proofs.Idle as idles
use Rattle.task_readiness.proofs.PieceActs as piece_acts
use Rattle.task_readiness.proofs.SingleActs as single_acts

pub nested : (a b c d e : Option Act) → option_or (option_or (option_or (option_or a b) c) d) e ≡ option_or a (option_or b (option_or c (option_or d e)))
nested (Some x) b c d e = refl
nested None (Some x) c d e = refl
nested None None (Some x) d e = refl
nested None None None d e = refl

module _ (s : SeenStages) (stopped : Bool) (long : length s.pieces ≡ piece_count s.work) where
  abbrev w : Work
  w = s.work

  abbrev q : Act → Bool
  q = is_ready s.work (stage_by s) stopped

  -- ---- acts of pieces

  abbrev pub place_act : Option Act
  place_act = if not stopped && is_download w.of_kind then numbered act.Place (first_number w) (position can_place s.pieces) else None

  abbrev pub piece_act : Option Act
  piece_act = if not stopped && may_send s then numbered (act.Send (piece_op w.of_kind w.small)) (first_number w) (position (can_send (reads_first w.of_kind)) s.pieces) else None

  abbrev pub read_act : Option Act
  read_act = if not stopped && is_upload w.of_kind && (w.small || has_done s.singles.create) then numbered act.Read (first_number w) (position can_read s.pieces) else None

  places : find q (map act.Place (numbers w)) ≡ place_act
  places = piece_acts.places w.moves w.size w.piece w.count w.attempts s.singles s.pieces w.of_kind w.small stopped long

  read_acts : find q (rule.reads w) ≡ read_act
  read_acts = piece_acts.reads w.moves w.size w.piece w.count w.attempts s.singles s.pieces w.of_kind w.small stopped long

  jobs : option_or (find q single_sends) (option_or (find q (piece_sends w)) read_act) ≡ option_or (find q single_sends) (option_or piece_act read_act)
  jobs = piece_acts.jobs w.moves w.size w.piece w.count w.attempts s.singles s.pieces w.of_kind w.small stopped read_act long

  -- calls on files that are made once, what is written, single jobs, jobs of pieces, what is read
  pub in_order : option_or (find q single_calls) (option_or place_act (option_or (find q single_sends) (option_or piece_act read_act))) ≡ first_ready s.work (stage_by s) stopped
  in_order = sym (
      find-append q (file_acts w ++ single_sends ++ piece_sends w) (rule.reads w)
      ∙ ap (λ (o : Option Act). option_or o (find q (rule.reads w))) (find-append q (file_acts w ++ single_sends) (piece_sends w))
      ∙ ap (λ (o : Option Act). option_or (option_or o (find q (piece_sends w))) (find q (rule.reads w))) (find-append q (file_acts w) single_sends)
      ∙ ap (λ (o : Option Act). option_or (option_or (option_or o (find q single_sends)) (find q (piece_sends w))) (find q (rule.reads w))) (find-append q single_calls (map act.Place (numbers w)))
      ∙ nested (find q single_calls) (find q (map act.Place (numbers w))) (find q single_sends) (find q (piece_sends w)) (find q (rule.reads w))
      ∙ ap (λ (o : Option Act). option_or (find q single_calls) (option_or o (option_or (find q single_sends) (option_or (find q (piece_sends w)) (find q (rule.reads w)))))) places
      ∙ ap (λ (o : Option Act). option_or (find q single_calls) (option_or place_act (option_or (find q single_sends) (option_or (find q (piece_sends w)) o)))) read_acts
      ∙ ap (λ (o : Option Act). option_or (find q single_calls) (option_or place_act o)) jobs
      )

  -- ---- no act is out

  pub idle : is_idle s.work (stage_by s) stopped ≡ (is_idle_single s.singles && list_all (λ p. not (is_busy p)) s.pieces)
  idle = idles.idle w.moves w.size w.piece w.count w.attempts s.singles s.pieces w.of_kind w.small stopped long

  -- ---- acts that a task has once

  pub assemble : is_due s.work (stage_by s) stopped s.work.of_kind act.Assemble ≡ is_download s.work.of_kind
  assemble = single_acts.assemble w.moves w.size w.piece w.count w.attempts s.singles s.pieces w.of_kind w.small stopped

  pub rename : is_due s.work (stage_by s) stopped s.work.of_kind act.Rename ≡ (is_download s.work.of_kind && has_done s.singles.assemble && list_all is_placed s.pieces)
  rename = single_acts.rename w.moves w.size w.piece w.count w.attempts s.singles s.pieces w.of_kind w.small stopped long

  pub drop_temp : is_due s.work (stage_by s) stopped s.work.of_kind act.DropTemp ≡ false
  drop_temp = single_acts.drop_temp w.moves w.size w.piece w.count w.attempts s.singles s.pieces w.of_kind w.small stopped

  pub remove : is_due s.work (stage_by s) stopped s.work.of_kind act.Remove ≡ may_remove_by s.work.of_kind s.work.moves (is_decided s.work (stage_by s) stopped)
  remove = single_acts.remove w.moves w.size w.piece w.count w.attempts s.singles s.pieces w.of_kind w.small stopped

  pub create : is_due s.work (stage_by s) stopped s.work.of_kind (act.Send op.Create 0) ≡ (has_parts s.work.of_kind && not s.work.small)
  create = single_acts.create w.moves w.size w.piece w.count w.attempts s.singles s.pieces w.of_kind w.small stopped

  pub complete : is_due s.work (stage_by s) stopped s.work.of_kind (act.Send op.Complete 0)
      ≡ (has_parts s.work.of_kind && not s.work.small && has_done s.singles.create && list_all is_sent s.pieces)
  complete = single_acts.complete w.moves w.size w.piece w.count w.attempts s.singles s.pieces w.of_kind w.small stopped long

  pub abort : is_due s.work (stage_by s) stopped s.work.of_kind (act.Send op.Abort 0) ≡ false
  abort = single_acts.abort w.moves w.size w.piece w.count w.attempts s.singles s.pieces w.of_kind w.small stopped

  pub delete : is_due s.work (stage_by s) stopped s.work.of_kind (act.Send op.Delete 0)
      ≡ may_delete_by s.work.of_kind s.work.moves (is_decided s.work (stage_by s) stopped) (has_ended s.singles.stamp)
  delete = single_acts.delete w.moves w.size w.piece w.count w.attempts s.singles s.pieces w.of_kind w.small stopped
