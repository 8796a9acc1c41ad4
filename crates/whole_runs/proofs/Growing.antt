-- The jobs of a run are handed out and come back as they are to, event by event.
use Rattle.std.proofs.Common.{◌≡◌, ◌++◌, List, [], ◌∷◌, subst}
use Rattle.manager_moves.specs.Runs.{Back, Called, Event, Events, Lined, Made, Sent, Shared, Stopped}
use Rattle.s3_model.specs.declared.tasks.Task.{Task}
use Rattle.shared_lemmas.proofs.Lists.{head_is, no_middle, tail_is}
use Rattle.whole_runs.specs.Given.{AreHandedOut, ComeAsGiven, ComesAsGiven, HandsOutItsJob, Jobs, JobsGoOn}

-- what holds of the newest event behind its past, and of each earlier one, holds of each
pub grown : (Holds : Event → Events → Type 0) (e : Event) (before : Events) → Holds e before
    → ((later past : Events) (x : Event) → before ≡ later ++ x ∷ past → Holds x past)
    → (later past : Events) (x : Event) → e ∷ before ≡ later ++ x ∷ past → Holds x past
grown Holds e before here rest [] past x is =
    subst (λ (y : Event). Holds y past) (head_is e x before past is)
    (subst (λ (z : Events). Holds e z) (tail_is e x before past is) here)
grown Holds e before here rest (y ∷ later) past x is = rest later past x (tail_is e y before (later ++ x ∷ past) is)

module _ (s : Shared) (tasks : List Task) (jobs : Jobs) (before : Events) (all : AreHandedOut s tasks before jobs) where
  each_handed : (x : Event) (later past : Events) → before ≡ later ++ x ∷ past → HandsOutItsJob s tasks jobs past x
  each_handed (Sent n o k lane) later past is = all later past n k lane o is
  each_handed (Made fits) later past is = tt
  each_handed (Back lane c) later past is = tt
  each_handed (Called n a r) later past is = tt
  each_handed Lined later past is = tt
  each_handed (Stopped reason) later past is = tt

module _ (jobs : Jobs) (before : Events) (all : ComeAsGiven before jobs) where
  each_comes : (x : Event) (later past : Events) → before ≡ later ++ x ∷ past → ComesAsGiven jobs past x
  each_comes (Back lane c) later past is = λ n task. all later past n lane c is task
  each_comes (Sent n o k lane) later past is = tt
  each_comes (Made fits) later past is = tt
  each_comes (Called n a r) later past is = tt
  each_comes Lined later past is = tt
  each_comes (Stopped reason) later past is = tt

pub jobs_go_on : JobsGoOn
jobs_go_on = record {
  none = λ s tasks jobs. (
    λ later before n k lane o is. absurd (no_middle later (Sent n o k lane) before is),
    λ later before n lane c is. absurd (no_middle later (Back lane c) before is),
  );
  handed = λ s tasks jobs before e all one later past n k lane o is.
      grown (λ (x : Event) (z : Events). HandsOutItsJob s tasks jobs z x) e before one
      (λ l p x f. each_handed s tasks jobs before all x l p f) later past (Sent n o k lane) is;
  come = λ jobs before e all one later past n lane c is.
      grown (λ (x : Event) (z : Events). ComesAsGiven jobs z x) e before one
      (λ l p x f. each_comes jobs before all x l p f) later past (Back lane c) is n;
}
