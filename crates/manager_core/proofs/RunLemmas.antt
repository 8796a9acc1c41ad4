-- What is kept is what has happened, move by move.
use Rattle.std.proofs.Common.{◌≡◌, ◌∙◌, ◌+◌, ◌++◌, ◌≤◌, [], ◌∷◌, ℕ, true, List, Option, None, refl, sym}
use Rattle.std.proofs.Common.{subst, ap, arith, append_assoc, get_or, length}
use Rattle.std.proofs.lemmas.List.{length-append}
use Rattle.std.specs.Prelude.{is_some}
use Rattle.manager_moves.proofs.MoveLaws.{in_front}
use Rattle.manager_moves.specs.Moves.{next_move}
use Rattle.manager_moves.specs.Runs.{Event, Events, Lined, Shared, journal_of, lined_count, made_count}
use Rattle.manager_moves.specs.declared.moves.Move.{Move}
use Rattle.manager_moves.specs.declared.moves.Move.TheVariants as move
use Rattle.move_laws.proofs.NamedMoves.{IsLineOf, line_named}
use Rattle.move_laws.specs.Admits.{IsRunOf}
use Rattle.move_laws.specs.Follows.{Follows, outcome_at}
use Rattle.move_laws.specs.Kept.{SeenMoves, has_outcome}
use Rattle.move_laws.specs.Steady.{IsSteady}
use Rattle.run_needs.proofs.EntryCounts.{journals_fit}
use Rattle.run_needs.specs.Entries.{journal_room}
use Rattle.run_steps.specs.Following.{TellOutcomes}
use Rattle.s3_model.specs.Lists.{Reserved}
use Rattle.s3_model.specs.declared.outcomes.Event.{Event as Entry}
use Rattle.s3_model.specs.declared.outcomes.Outcome.{Outcome}
use Rattle.step_jobs.specs.Shares.{SeenSteps}
use Rattle.task_acts.specs.declared.work.Work.{Work}
use Rattle.manager_core.proofs.OneWork.{works_count}
use Rattle.manager_core.proofs.TagLemmas.{tags_same, tags_stay}
use Rattle.manager_core.specs.declared.due.Due.{Due}
use Rattle.manager_core.specs.declared.due.Due.TheVariants as due
use Rattle.manager_core.specs.Due.{IsSettled}
use Rattle.manager_core.specs.Kept.{SeenManager}
use Rattle.manager_core.specs.Running.{FollowsBut, IsAt, IsGivenTo, IsJournal, IsRunning, Start}

-- another state of moves and jobs, another journal, and something else to be answered
abbrev pub with : SeenManager → SeenMoves → List (Option SeenSteps) → Reserved Entry → Due → SeenManager
with m mv steps journal d = record m { moves = mv; steps = steps; journal = journal; due = d }

-- the outcomes that are kept are those of the run
pub tells : (s : Shared) (events : Events) (mv : SeenMoves) → Follows s events mv → TellOutcomes s events mv.outcomes
tells s events mv follows n w there =
    follows.outcomes n ∙ ap (λ (o : Option Work). outcome_at n o events) there

module _ (start : Start) (s : Shared) (events : Events) (m : SeenManager)
    (running : IsRunning start s events m) where
  pub at_due : (d : Due) → m.due ≡ d → IsAt d s events m
  at_due d e = subst (λ (x : Due). IsAt x s events m) e running.state

  pub given_by : (mv : SeenMoves) (steps : List (Option SeenSteps)) (journal : Reserved Entry) (d : Due)
      → mv.parts.pool.room ≡ m.moves.parts.pool.room → IsGivenTo start s (with m mv steps journal d)
  given_by mv steps journal d room = record {
    plan_is = running.given.plan_is;
    config_is = running.given.config_is;
    limits_are = running.given.limits_are;
    config = running.given.config;
    limits = running.given.limits;
    plan = running.given.plan;
    means = running.given.means;
    works = running.given.works;
    no_outcome = running.given.no_outcome;
    outcomes = running.given.outcomes;
    bytes = room ∙ running.given.bytes;
  }

  pub works_are : length s.works ≡ length m.plan.tasks.items
  works_are = works_count m.config m.limits m.plan.tasks.items s.works running.given.works

  pub same_journal : (event : Event) → journal_of (event ∷ events) ≡ journal_of events → (mv : SeenMoves)
      (steps : List (Option SeenSteps)) (d : Due)
      → IsJournal start.planning s (event ∷ events) (with m mv steps m.journal d)
  same_journal event same mv steps d = record {
    items = running.journal.items ∙ ap (λ (xs : List Entry). start.planning ++ xs) (sym same);
    room = subst (λ (xs : List Entry). journal_room s.works ≤ m.journal.spare + length xs) (sym same)
        running.journal.room;
  }

  pub kept_journal : (mv : SeenMoves) (steps : List (Option SeenSteps)) (d : Due)
      → IsJournal start.planning s events (with m mv steps m.journal d)
  kept_journal mv steps d = record { items = running.journal.items; room = running.journal.room }

  -- ---- a move that is dropped, and one that is named

  drop_at : (mv : SeenMoves) (d : Due) → IsSettled d → IsAt d s events m
      → (FollowsBut d s events m.moves → Follows s events mv) → IsSteady m.moves mv
      → IsAt due.Free s events (with m mv m.steps m.journal due.Free)
  drop_at mv due.Free settled at moved steady = record {
    run = at.run;
    follows = moved at.follows;
    named = tt;
    steps = at.steps;
    tags = tags_same s events m.moves mv steady at.tags;
  }
  drop_at mv (due.Next next) settled at moved steady = record {
    run = at.run;
    follows = moved at.follows;
    named = tt;
    steps = at.steps;
    tags = tags_same s events m.moves mv steady at.tags;
  }
  drop_at mv (due.Job task o k lane) settled at moved steady = absurd settled

  pub dropped_runs : (mv : SeenMoves) → IsSettled m.due → (FollowsBut m.due s events m.moves → Follows s events mv)
      → IsSteady m.moves mv → IsRunning start s events (with m mv m.steps m.journal due.Free)
  dropped_runs mv settled moved steady = record {
    given = given_by mv m.steps m.journal due.Free steady.room;
    journal = kept_journal mv m.steps due.Free;
    state = drop_at mv m.due settled running.state moved steady;
  }

  pub named_runs : (mv : SeenMoves) (next : Move) → m.due ≡ due.Free → next_move s events ≡ next
      → FollowsBut (due.Next next) s events mv → IsSteady m.moves mv
      → IsRunning start s events (with m mv m.steps m.journal (due.Next next))
  named_runs mv next free is follows steady =
      let at = at_due due.Free free in record {
        given = given_by mv m.steps m.journal (due.Next next) steady.room;
        journal = kept_journal mv m.steps (due.Next next);
        state = record {
          run = at.run;
          follows = follows;
          named = is;
          steps = at.steps;
          tags = tags_same s events m.moves mv steady at.tags;
        };
      }

  -- ---- a line

  module _ (task : ℕ) (is : m.due ≡ due.Next (move.Line task)) where
    line_at : IsAt (due.Next (move.Line task)) s events m
    line_at = at_due (due.Next (move.Line task)) is

    line : IsLineOf s events task
    line = line_named s events task line_at.named

    pub line_ended : has_outcome m.moves m.moves.lined ≡ true
    line_ended =
        ap (λ (n : ℕ). is_some (get_or m.moves.outcomes n None)) line_at.follows.lined
        ∙ ap (λ (o : Option Outcome). is_some o) (tells s events m.moves line_at.follows
        (lined_count events) line.work
        (in_front (made_count events) s.works (lined_count events) line.work line.there))
        ∙ line.ended

    pub line_run : IsRunOf s (Lined ∷ events)
    line_run = record {
      run = (line_at.named ∙ ap (λ (n : ℕ). move.Line n) line.number, line_at.run.run);
      pieces = line_at.run.pieces;
    }

    pub lined_runs : (mv : SeenMoves) → (Follows s events m.moves → Follows s (Lined ∷ events) mv)
        → IsSteady m.moves mv → IsRunning start s (Lined ∷ events) (with m mv m.steps m.journal due.Free)
    lined_runs mv moved steady = record {
      given = given_by mv m.steps m.journal due.Free steady.room;
      journal = same_journal Lined refl mv m.steps due.Free;
      state = record {
        run = line_run;
        follows = moved line_at.follows;
        named = tt;
        steps = record { count = line_at.steps.count; each = line_at.steps.each };
        tags = tags_stay s events m.moves mv steady line_at.tags Lined refl;
      };
    }

  -- ---- the journal

  module _ (x : Entry) (event : Event) (is : journal_of (event ∷ events) ≡ journal_of events ++ x ∷ [])
      (run : IsRunOf s (event ∷ events)) where
    longer : length (journal_of (event ∷ events)) ≡ length (journal_of events) + 1
    longer = let more = length-append (journal_of events) (x ∷ []) in
        let same = ap (λ (xs : List Entry). length xs) is in omega (arith, more, same)

    pub has_room : 1 ≤ m.journal.spare
    has_room =
        let most = journals_fit s (event ∷ events) run.run in
        let room = running.journal.room in
        omega (arith, most, room, longer)

    pub journal_grows : (journal : Reserved Entry) → journal.items ≡ m.journal.items ++ x ∷ []
        → journal.spare + 1 ≡ m.journal.spare → (mv : SeenMoves) (steps : List (Option SeenSteps)) (d : Due)
        → IsJournal start.planning s (event ∷ events) (with m mv steps journal d)
    journal_grows journal items spare mv steps d = record {
      items = items ∙ ap (λ (xs : List Entry). xs ++ x ∷ []) running.journal.items
          ∙ append_assoc start.planning (journal_of events) (x ∷ [])
          ∙ ap (λ (xs : List Entry). start.planning ++ xs) (sym is);
      room = let room = running.journal.room in omega (arith, room, spare, longer);
    }
