use Rattle.std.proofs.Common.{◌≡◌, ◌+◌, ◌*◌, ◌≤◌, false}
use Rattle.bounded_executor.specs.Desk.{SameDesk}
use Rattle.list_walk.specs.Pages.{IsSound, new_walk, total_of}
use Rattle.planning_questions.specs.Questions.{IsReadyToAsk, progress_of}
use Rattle.planning_questions.proofs.PageLemmas.{IsUnderway}
use Rattle.planning_questions.proofs.listing.list_all.Given as goal

abbrev pub invariant-loop : goal.invariant-loop
invariant-loop g l = record {
  underway : IsUnderway l.initial.number (new_walk l.bucket l.prefix l.delimited) l.number l.pages (progress_of l.initial.desk l.initial.journal.items) (progress_of l.desk l.journal.items);
  goes_on : l.pages.over ≡ false;
  sound : IsSound l.pages.prefix l.pages.gathered;
  bound : l.counter ≤ 1000 * total_of l.pages.gathered + l.pages.gathered.empty;
  few : l.number ≤ l.initial.number + l.counter;
  idle : IsReadyToAsk l.desk l.pending;
  same_desk : SameDesk l.initial.desk l.desk;
  pending : l.pending ≡ l.initial.pending;
}
