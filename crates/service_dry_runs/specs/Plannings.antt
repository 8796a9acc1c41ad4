-- A planning over the lane of the first wire: what it asked, and what the wires are then.
use Rattle.std.specs.Prelude.{◌≡◌, ℕ, ◌≤◌, List, ◌∷◌, Option, Some, None, Result}
use Rattle.job_terms.specs.Gains.{Gains}
use Rattle.lane_jobs.specs.Lanes.{SeenCarrier}
use Rattle.planning_questions.specs.Questions.{Question, trace_of}
use Rattle.question_runs.specs.Asked.{AskedOver, log_of}
use Rattle.run_traces.specs.Traces.{journal_of}
use Rattle.s3_model.specs.Talks.{WireLog}
use Rattle.s3_model.specs.declared.outcomes.Event.{Event}
use Rattle.s3_model.specs.declared.settings.Limits.{Limits}
use Rattle.s3_words.specs.declared.commands.Command.{Command}
use Rattle.service_plans.specs.Local.{FilesSeen}
use Rattle.service_plans.specs.Plans.{PlansCommand}
use Rattle.service_plans.specs.declared.halted.Halted.{Halted}
use Rattle.service_plans.specs.declared.planned.Planned.{Planned}

-- what is to be planned, and what carries the requests for it
pub record Assignment : Type 0 where
  pub command : Command
  pub limits : Limits
  pub carrier : SeenCarrier

abbrev pub assignment : Command → Limits → SeenCarrier → Assignment
assignment command limits carrier = record { command = command; limits = limits; carrier = carrier }

-- The questions of the planning were asked over an unused wire, which then shows this, if it shows anything. The jobs
-- are theirs, and the result is what the command comes to by them and by the files.
pub record AsksForPlan (of_plan : Assignment) (files : FilesSeen) (events : List Event) (result : Result Planned Halted)
    (shows : Option WireLog) : Type 0 where
  pub questions : List Question
  pub asked : AskedOver of_plan.carrier questions shows
  pub jobs : events ≡ journal_of (trace_of 0 questions)
  pub plans : PlansCommand of_plan.command of_plan.limits files 0 questions result

-- P of the first of two lists, and the others stay
abbrev pub OnFirstAlone : {W : Type 0} → (before after : List W) → (W → W → Type 0) → Type 0
OnFirstAlone (before ∷ others) (after ∷ rest) P = P before after × (rest ≡ others)
OnFirstAlone before after P = ⊥

-- What the first wire gained is what its lane carried for the questions, and no other wire changed. `seen wire`: all
-- that is seen of the wire, if it is; `faults wire`: how often a call of it failed.
module _ {W : Type 0} (seen : W → Option WireLog) (faults : W → ℕ) where
  pub record PlansOverFirst (of_plan : Assignment) (files : FilesSeen) (before after : List W) (events : List Event)
      (result : Result Planned Halted) : Type 0 where
    pub gained : OnFirstAlone before after (λ was now. Gains (seen was) (seen now)
        (λ talks notes. AsksForPlan of_plan files events result (Some (log_of talks notes))))
    -- the same where the wire shows nothing
    pub unseen : AsksForPlan of_plan files events result None
    pub later : OnFirstAlone before after (λ was now. faults was ≤ faults now)
