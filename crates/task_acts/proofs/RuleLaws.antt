-- The laws of the rule, by cases of acts and kinds.
use Rattle.std.proofs.Common.{◌≡◌, ◌==◌, ◌&&◌, ℕ, Bool, true, false, not, refl, subst}
use Rattle.std.proofs.lemmas.Bool.{and_parts, eqb-true}
use Rattle.s3_model.specs.declared.requests.Op.TheVariants as op
use Rattle.s3_model.specs.declared.tasks.Kind.{Kind}
use Rattle.s3_model.specs.declared.tasks.Kind.TheVariants as kind
use Rattle.task_acts.specs.declared.acts.Act.{Act}
use Rattle.task_acts.specs.declared.acts.Act.TheVariants as act
use Rattle.task_acts.specs.declared.acts.Stage.{Stage}
use Rattle.task_acts.specs.declared.work.Work.{Work}
use Rattle.task_acts.specs.Failures.{is_stopped}
use Rattle.task_acts.specs.Histories.{History}
use Rattle.task_acts.specs.Laws.{AbortsAreLast, CompletesAreWhole, HasEachPart, IsLast, IsTidying, MayLoseSource, SourcesGoLast, StopsBegin}
use Rattle.task_acts.specs.Rule.{is_completed, is_created, is_decided, is_due, is_each_done, is_idle, is_named, is_ready}
use Rattle.task_acts.specs.Stages.{has_ended, may_be_given, stage}

clash : {P : Type 0} → false ≡ true → P
clash e = cc

not_true : (x : Bool) → not x ≡ true → x ≡ false
not_true true e = clash e
not_true false e = refl

module _ (w : Work) (f : Act → Stage) where
  named : (stopped : Bool) (a : Act) → is_ready w f stopped a ≡ true → is_named w f stopped a ≡ true
  named stopped a e = (and_parts (may_be_given (f a)) (is_named w f stopped a) e).1

  tidying : (a : Act) → is_named w f true a ≡ true → IsTidying a
  tidying (act.Send op.Abort n) e = tt
  tidying act.DropTemp e = tt
  tidying act.Stamp e = tt
  tidying a e = clash e

  never_due : (stopped : Bool) (k : Kind) (n : ℕ) → is_due w f stopped k (act.Send op.Abort n) ≡ true → false ≡ true
  never_due stopped kind.Upload n e = e
  never_due stopped kind.Download n e = e
  never_due stopped kind.Copy n e = e
  never_due stopped kind.RemoveObject n e = e
  never_due stopped kind.RemoveFile n e = e

  abort : (stopped : Bool) (n : ℕ) → is_named w f stopped (act.Send op.Abort n) ≡ true
      → (stopped ≡ true) × ((n == 0) && is_created w f stopped && not (is_completed w f stopped) && is_idle w f stopped ≡ true)
  abort true n e = (refl, e)
  abort false n e = clash (never_due false w.of_kind n e)

pub stops_begin : StopsBegin
stops_begin w history a stop e =
    tidying w (stage w history) a (subst (λ (b : Bool). is_named w (stage w history) b a ≡ true) stop
    (named w (stage w history) (is_stopped w history) a e))

module _ (w : Work) (history : History) (n : ℕ) where
  last : is_ready w (stage w history) (is_stopped w history) (act.Send op.Abort n) ≡ true
      → (n ≡ 0) × IsLast w history
  last e =
      let f = stage w history in
      let b = is_stopped w history in
      let h = abort w f b n (named w f b (act.Send op.Abort n) e) in
      let one = and_parts ((n == 0) && is_created w f b && not (is_completed w f b)) (is_idle w f b) h.1 in
      let two = and_parts ((n == 0) && is_created w f b) (not (is_completed w f b)) one.0 in
      let three = and_parts (n == 0) (is_created w f b) two.0 in (
        eqb-true n 0 three.0,
        record {
          stopped = h.0;
          created = three.1;
          not_completed = not_true (is_completed w f b) two.1;
          idle = one.1;
        },
      )

pub aborts_are_last : AbortsAreLast
aborts_are_last w history n e = last w history n e

parts3 : (a b c : Bool) → a && b && c ≡ true → (a ≡ true) × (c ≡ true)
parts3 a b c e = let h = and_parts (a && b) c e in ((and_parts a b h.0).0, h.1)

module _ (w : Work) (f : Act → Stage) where
  source : (stopped : Bool) (k : Kind) (n : ℕ) → is_due w f stopped k (act.Send op.Delete n) ≡ true → MayLoseSource w f stopped k
  source stopped kind.Upload n e = clash e
  source stopped kind.Download n e = parts3 w.moves (n == 0) (has_ended (f act.Stamp)) e
  source stopped kind.Copy n e = parts3 w.moves (n == 0) (is_decided w f stopped) e
  source stopped kind.RemoveObject n e = tt
  source stopped kind.RemoveFile n e = clash e

  gone : (stopped : Bool) (n : ℕ) → is_named w f stopped (act.Send op.Delete n) ≡ true → MayLoseSource w f stopped w.of_kind
  gone true n e = clash e
  gone false n e = source false w.of_kind n e

  whole_upload : (stopped : Bool) (k : Kind) (n : ℕ) → is_due w f stopped k (act.Send op.Complete n) ≡ true → HasEachPart w f stopped k
  whole_upload stopped kind.Upload n e =
      (and_parts (not w.small && (n == 0) && is_created w f stopped) (is_each_done w f stopped (act.Send op.Part)) e).1
  whole_upload stopped kind.Download n e = clash e
  whole_upload stopped kind.Copy n e =
      (and_parts (not w.small && (n == 0) && is_created w f stopped) (is_each_done w f stopped (act.Send op.PartCopy)) e).1
  whole_upload stopped kind.RemoveObject n e = clash e
  whole_upload stopped kind.RemoveFile n e = clash e

  completes : (stopped : Bool) (n : ℕ) → is_named w f stopped (act.Send op.Complete n) ≡ true → HasEachPart w f stopped w.of_kind
  completes true n e = clash e
  completes false n e = whole_upload false w.of_kind n e

pub sources_go_last : SourcesGoLast
sources_go_last w history n e =
    gone w (stage w history) (is_stopped w history) n (named w (stage w history) (is_stopped w history) (act.Send op.Delete n) e)

pub completes_are_whole : CompletesAreWhole
completes_are_whole w history n e =
    completes w (stage w history) (is_stopped w history) n (named w (stage w history) (is_stopped w history) (act.Send op.Complete n) e)
