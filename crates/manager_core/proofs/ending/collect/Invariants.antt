use Rattle.std.proofs.Common.{◌≡◌, ◌≤◌, ◌+◌, ℕ, None, Some, get_or, length, map, take}
use Rattle.manager_core.proofs.ending.collect.Given as goal

-- those before this one are given, and the others are there
abbrev pub invariant-loop-index : goal.invariant-loop-index
invariant-loop-index l = record {
  given : map Some l.outcomes.items ≡ take l.index l.fn.ended;
  rest : (j : ℕ) → l.index ≤ j → get_or l.ended j None ≡ get_or l.fn.ended j None;
  long : length l.ended ≡ length l.fn.ended;
  end : l.index-end ≡ length l.fn.ended;
  spare : length l.fn.ended ≤ l.outcomes.spare + l.index;
}
