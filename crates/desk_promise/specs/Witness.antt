-- A dry run over two lanes that meets what the law takes: it lists two pages and would remove one object. And a run
-- that says of a task that it is done, which does not.
use Rattle.std.specs.Prelude.{ℕ, true, false, List, [], ◌∷◌, Option, None, Some}
use Rattle.std.specs.FinMap.{empty}
use Rattle.planning_questions.specs.Questions.{trace_of}
use Rattle.planning_laws.specs.Witness as planning
use Rattle.planning_laws.specs.Witness.{BringsPage, first_page, last_page, listing, page_ask}
use Rattle.run_promise.specs.Settled.{RunEnd, RunStart}
use Rattle.run_traces.specs.Traces.{journal_of}
use Rattle.s3_model.specs.Files.{FileStore}
use Rattle.s3_model.specs.Talks.{Note, Talk, WireLog}
use Rattle.s3_model.specs.declared.outcomes.Outcome.{Outcome}
use Rattle.s3_model.specs.declared.outcomes.Outcome.TheVariants as outcome
use Rattle.s3_model.specs.declared.places.Endpoint.{Endpoint}
use Rattle.s3_model.specs.declared.places.Place.TheVariants as place
use Rattle.s3_model.specs.declared.settings.Keys.{Keys}
use Rattle.s3_model.specs.declared.tasks.Kind.TheVariants as kind
use Rattle.s3_model.specs.declared.tasks.Task.{Task}
use Rattle.trace_laws.specs.Joined.{HaveGained}
use Rattle.trace_laws.specs.Witness.{befores, carrier}
use Rattle.desk_promise.specs.Desk.{IsDeskRun, IsIdle}

abbrev pub removal : Task
removal = record {
  kind = kind.RemoveObject;
  moves = false;
  source = None;
  dest = place.Object [] (9 ∷ []);
  size = 0;
  etag = [];
  micros = 0;
  content = None;
  fresh = false;
}

abbrev pub no_files : FileStore
no_files = record { held = empty; empty_folders = []; others = []; unnamed = empty }

abbrev pub dry_start : RunStart
dry_start = record {
  config = record { threshold = 8; chunk = 4; lanes = 2; queue = 1; buffers = 2; attempts = 2 };
  limits = record { min_part = 1; max_part = 10; max_parts = 10; max_object = 100 };
  wires = 2;
  dryrun = true;
  tasks = removal ∷ [];
  files = no_files;
}

abbrev pub end_with : List Outcome → (logs : ℕ → List Talk) → (notes : ℕ → List Note) → RunEnd
end_with outcomes logs notes = record {
  status = 0;
  outcomes = outcomes;
  warnings = [];
  journal = journal_of (trace_of 0 listing);
  logs = logs;
  notes = notes;
  files = no_files;
  file_calls = [];
  refused_page = None;
}

-- whatever the service and the keys, and for all talks that bring the pages
abbrev pub DryRunIsMet : Type 0
DryRunIsMet = (endpoint : Endpoint) (keys : Keys) (first last : Talk)
    → BringsPage endpoint keys (page_ask None) first_page first
    → BringsPage endpoint keys (page_ask (Some (7 ∷ []))) last_page last
    → let seen = λ (wire : Option WireLog). wire in
    let logs = planning.logs endpoint keys first last in
    let notes = planning.notes endpoint keys first last in
    IsDeskRun seen (carrier endpoint keys) dry_start (end_with (outcome.Dry ∷ []) logs notes) (befores endpoint keys)
    (planning.afters endpoint keys first last) listing
    × HaveGained seen (befores endpoint keys) (planning.afters endpoint keys first last) logs notes

-- such a run did something
abbrev pub DoneIsNotIdle : Type 0
DoneIsNotIdle = (logs : ℕ → List Talk) (notes : ℕ → List Note)
    → ¬ (IsIdle dry_start (end_with (outcome.Done ∷ []) logs notes))
