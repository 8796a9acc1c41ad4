-- How jobs end that rows speak of.
use Rattle.std.specs.Prelude.{◌≡◌, [], Bool, true, List}
use Rattle.jobs.specs.Endings.{EndIn, HaveNoSuccess, IsReplyTo}
use Rattle.jobs.specs.declared.ending.Ending.{Ending}
use Rattle.jobs.specs.declared.ending.Ending.TheVariants as ending
use Rattle.s3_model.specs.declared.requests.Op.{Op}
use Rattle.s3_model.specs.declared.tries.Mark.{Mark}
use Rattle.s3_model.specs.declared.tries.Mark.TheVariants as mark

-- how a job of that op ends after these attempts
abbrev pub IsEndedBy : Ending → Op → List Mark → Type 0
IsEndedBy (ending.Gained said) of_op tries = EndIn mark.Success tries × IsReplyTo of_op said
IsEndedBy (ending.Refused status code message) of_op tries = EndIn mark.Refusal tries
IsEndedBy (ending.Uncertain reason) of_op tries = EndIn mark.Uncertain tries
IsEndedBy (ending.Cancelled reason) of_op tries = tries ≡ []
IsEndedBy ending.Memory of_op tries = HaveNoSuccess tries

-- only a job that has a cell is cut by one
abbrev pub can_end : Ending → (has_cell : Bool) → Bool
can_end (ending.Cancelled reason) has_cell = has_cell
can_end ended has_cell = true
