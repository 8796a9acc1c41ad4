-- What a job asks stays so where more successes have come.
use Rattle.std.proofs.Common.{ℕ, Bool, true, false, List}
use Rattle.run_promise.specs.Schedule.{IsAbort, IsComplete, IsDecidedBy, IsTaskAsk, Known}
use Rattle.s3_model.specs.declared.answers.Reply.{Reply}
use Rattle.s3_model.specs.declared.outcomes.JobId.{JobId}
use Rattle.s3_model.specs.declared.requests.Ask.{Ask}
use Rattle.s3_model.specs.declared.requests.Op.{Op}
use Rattle.s3_model.specs.declared.requests.Op.TheVariants as op
use Rattle.s3_model.specs.declared.tasks.Kind.{Kind}
use Rattle.s3_model.specs.declared.tasks.Kind.TheVariants as kind
use Rattle.s3_model.specs.declared.tasks.Task.{Task}

module _ (g more : JobId → Reply → Type 0) (grows : (job : JobId) (said : Reply) → g job said → more job said) (task : Task) (known : Known) where
  complete_grows : (sort : Op) (asked : Ask) → IsComplete g task known sort asked → IsComplete more task known sort asked
  complete_grows sort asked h = (h.0, h.1, h.2, h.3, grows _ _ h.4, record { each_part = h.5.each_part; in_order = λ i etag e. grows _ _ (h.5.in_order i etag e) }, h.6)

  abort_grows : (asked : Ask) → IsAbort g task known asked → IsAbort more task known asked
  abort_grows asked h = (h.0, h.1, grows _ _ h.2, h.3)

  module _ (number : ℕ) (asked : Ask) (body : List ℕ) where
    pub row_grows : (k : Kind) (small : Bool) (o : Op) → IsTaskAsk g task known k small o number asked body → IsTaskAsk more task known k small o number asked body
    row_grows kind.Upload true op.Put h = h
    row_grows kind.Upload true o h = absurd h
    row_grows kind.Upload false op.Create h = h
    row_grows kind.Upload false op.Part h = (h.0, h.1, grows _ _ h.2, h.3, h.4, h.5)
    row_grows kind.Upload false op.Complete h = (complete_grows op.Part asked h.0, h.1, h.2)
    row_grows kind.Upload false op.Abort h = (abort_grows asked h.0, h.1, h.2)
    row_grows kind.Upload false o h = absurd h
    row_grows kind.Download true op.Get h = h
    row_grows kind.Download true op.Delete h = h
    row_grows kind.Download true o h = absurd h
    row_grows kind.Download false op.Get h = h
    row_grows kind.Download false op.Delete h = h
    row_grows kind.Download false o h = absurd h
    row_grows kind.Copy true op.Copy h = h
    row_grows kind.Copy true op.Delete h = h
    row_grows kind.Copy true o h = absurd h
    row_grows kind.Copy false op.Create h = h
    row_grows kind.Copy false op.PartCopy h = (h.0, h.1, h.2, grows _ _ h.3, h.4, h.5, h.6)
    row_grows kind.Copy false op.Complete h = (complete_grows op.PartCopy asked h.0, h.1, h.2)
    row_grows kind.Copy false op.Abort h = (abort_grows asked h.0, h.1, h.2)
    row_grows kind.Copy false op.Delete h = h
    row_grows kind.Copy false o h = absurd h
    row_grows kind.RemoveObject small op.Delete h = h
    row_grows kind.RemoveObject small o h = absurd h
    row_grows kind.RemoveFile small o h = absurd h

module _ (g more : JobId → Reply → Type 0) (grows : (job : JobId) (said : Reply) → g job said → more job said) where
  pub decided_grows : (k : Kind) (small : Bool) (n count : ℕ) → IsDecidedBy k small n count g → IsDecidedBy k small n count more
  decided_grows kind.Upload small n count h = absurd h
  decided_grows kind.Download true n count h = (h.0, grows _ _ h.1)
  decided_grows kind.Download false n count h = λ k least most. let found = h k least most in (found.0, grows _ _ found.1)
  decided_grows kind.Copy true n count h = grows _ _ h
  decided_grows kind.Copy false n count h = grows _ _ h
  decided_grows kind.RemoveObject small n count h = absurd h
  decided_grows kind.RemoveFile small n count h = absurd h
