use Rattle.std.proofs.Common.{◌≡◌, ◌≤◌, ◌+◌, ◌++◌, ℕ, None, get_or, length, take}
use Rattle.kept_jobs.specs.Tags.{present}
use Rattle.kept_jobs.proofs.tags.give_all.Given as goal

abbrev pub invariant-loop-index : goal.invariant-loop-index
invariant-loop-index l = record {
  given : l.texts.items ≡ l.fn.texts.items ++ present (take l.index l.fn.tags);
  rest : (j : ℕ) → l.index ≤ j → get_or l.tags j None ≡ get_or l.fn.tags j None;
  long : length l.tags ≡ length l.fn.tags;
  end : l.index-end ≡ length l.fn.tags;
  spare : length l.fn.tags ≤ l.texts.spare + l.index;
}
