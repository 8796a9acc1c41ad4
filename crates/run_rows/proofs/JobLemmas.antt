-- Each op has a job of a task of its kind.
use Rattle.std.proofs.Common.{◌≡◌, ◌≤◌, ℕ, true, false, List, Option, Some, None, IfSome, is_some, length, refl, sym, subst, inl, arith}
use Rattle.jobs.specs.Endings.{HasBody, IsEnded}
use Rattle.jobs.specs.Holders.{Holder}
use Rattle.jobs.specs.Jobs.{HasPart, HasRange, IsDelete, IsOfKind, IsOfTask, IsStepAsk, asked_range, ends_of, stated_content}
use Rattle.jobs.specs.declared.ending.Ending.{Ending}
use Rattle.jobs.specs.declared.ending.Ending.TheVariants as ending
use Rattle.job_terms.specs.Buffers.{holds_buffer}
use Rattle.job_terms.specs.Jobs.{IsObject, IsSource, Origin, Target}
use Rattle.s3_model.specs.Lists.{Reserved}
use Rattle.s3_model.specs.declared.answers.Reply.{Reply}
use Rattle.s3_model.specs.declared.answers.Reply.TheVariants as reply
use Rattle.s3_model.specs.declared.bytes.Part.{Part}
use Rattle.s3_model.specs.declared.places.Place.{Place}
use Rattle.s3_model.specs.declared.places.Place.TheVariants as place
use Rattle.s3_model.specs.declared.requests.Ask.{Ask}
use Rattle.s3_model.specs.declared.requests.Ask.TheVariants as ask
use Rattle.s3_model.specs.declared.requests.Op.{Op}
use Rattle.s3_model.specs.declared.requests.Op.TheVariants as op
use Rattle.s3_model.specs.declared.tasks.Kind.{Kind}
use Rattle.s3_model.specs.declared.tasks.Kind.TheVariants as kind
use Rattle.s3_model.specs.declared.tasks.Task.{Task}
use Rattle.s3_model.specs.declared.tries.Mark.{Mark}
use Rattle.row_words.specs.Endings.{IsEndedBy, can_end}
use Rattle.run_rows.specs.Rows.{IsAnObject, IsAnObjectIn, IsTaskFor, body_of, is_step, kind_for}

clash : false ≡ true → ⊥
clash e = cc

named : (at : Place) → IsAnObject at → (bucket : List ℕ) × (key : List ℕ) × IsObject at bucket key
named (place.Object bucket key) is = (bucket, key, (refl, refl))
named (place.File path) is = absurd is

named_in : (at : Option Place) → IsAnObjectIn at → (bucket : List ℕ) × (key : List ℕ) × IsSource at bucket key
named_in None is = absurd is
named_in (Some at) is = named at is

module _ (task : Task) (range : ℕ × ℕ) (id : List ℕ) (etags : Reserved (List ℕ)) (number : ℕ) where
  abbrev Asks : Op → Type 0
  Asks o = (asked : Ask) × (IsOfTask task o × IsStepAsk task range (Some id) (Some etags) o number asked)

  pub asks : (o : Op) → is_step o ≡ true → IsTaskFor o task → Asks o
  asks o step is = by o step is.kind_is
    where
      to : Target task
      to = let (bucket, key, at) = named task.dest is.dest in record { bucket = bucket; key = key; is_dest = at }

      from : Origin task
      from = let (bucket, key, at) = named_in task.source is.source in record { bucket = bucket; key = key; is_source = at }

      of_kind : (o : Op) (k : Kind) → task.kind ≡ k → IsOfKind k o → IsOfKind task.kind o
      of_kind o k e has = subst (λ (x : Kind). IsOfKind x o) (sym e) has

      by : (o : Op) → is_step o ≡ true → task.kind ≡ kind_for o → Asks o
      by op.Put s e = (ask.Put to.bucket to.key task.content task.fresh, (of_kind op.Put kind.Upload e tt, (to, refl)))
      by op.Get s e = (ask.Get from.bucket from.key task.etag (asked_range number range), (of_kind op.Get kind.Download e tt, (from, refl)))
      by op.Copy s e = (ask.Copy to.bucket to.key from.bucket from.key task.etag, (of_kind op.Copy kind.Copy e tt, (to, from, refl)))
      by op.Delete s e = (
        ask.Delete to.bucket to.key,
        (inl (of_kind op.Delete kind.RemoveObject e tt), subst (λ (k : Kind). IsDelete task k (ask.Delete to.bucket to.key)) (sym e) (to, refl)),
      )
      by op.Create s e =
          (ask.Create to.bucket to.key (stated_content task.kind task.content), (of_kind op.Create kind.Upload e tt, (to, refl)))
      by op.Part s e = (ask.Part to.bucket to.key id number, (of_kind op.Part kind.Upload e tt, (to, id, refl, refl)))
      by op.PartCopy s e = (
        ask.PartCopy to.bucket to.key id number from.bucket from.key task.etag (ends_of range),
        (of_kind op.PartCopy kind.Copy e tt, (to, from, id, refl, refl)),
      )
      by op.Complete s e = (
        ask.Complete to.bucket to.key id (record { items = etags.items; spare = etags.spare }) task.fresh,
        (of_kind op.Complete kind.Upload e tt, (to, id, etags, etags.spare, refl, refl, refl)),
      )
      by op.Abort s e = (ask.Abort to.bucket to.key id, (tt, (to, id, refl, refl)))
      by op.Head s e = absurd (clash s)
      by op.List s e = absurd (clash s)
      by op.Buckets s e = absurd (clash s)

-- ---- ranges and parts

pub some_bytes : (o : Op) (number : ℕ) → HasRange o number (0, 1)
some_bytes op.PartCopy number = (omega arith, omega arith)
some_bytes op.Get number = λ above. (omega arith, omega arith)
some_bytes o number = tt

pub needs_none : (o : Op) → holds_buffer o ≡ false → HasPart o 1 None
needs_none op.Put e = absurd (clash (sym e))
needs_none op.Part e = absurd (clash (sym e))
needs_none op.Get e = absurd (clash (sym e))
needs_none o e = refl

pub needs_part : (o : Op) (part : Part) → holds_buffer o ≡ true → 1 ≤ part.bytes.room → HasPart o 1 (Some part)
needs_part op.Put part e room = refl
needs_part op.Part part e room = refl
needs_part op.Get part e room = (part, refl, room)
needs_part o part e room = absurd (clash e)

-- ---- endings

has_body : (said : Reply) (part : Option Part) → IfSome part (λ p. length p.bytes.bytes ≡ body_of (ending.Gained said)) → HasBody said part
has_body (reply.Got status range count) part is = is
has_body said part is = tt

pub ended_is : (e : Ending) (o : Op) (part : Option Part) (cell : Option Holder) (tries : List Mark) → IsEndedBy e o tries
    → IfSome part (λ p. length p.bytes.bytes ≡ body_of e) → can_end e (is_some cell) ≡ true → IsEnded e o part cell tries
ended_is (ending.Gained said) o part cell tries is body can = (is.0, is.1, has_body said part body)
ended_is (ending.Refused status code message) o part cell tries is body can = is
ended_is (ending.Uncertain reason) o part cell tries is body can = is
ended_is (ending.Cancelled reason) o part cell tries is body can = (is, can)
ended_is ending.Memory o part cell tries is body can = is
