use Rattle.std.proofs.Common.{◌≡◌, ◌<◌, ℕ, true, false, get_or, length}
use Rattle.number_sets.proofs.number_set.NumberSet.all.Given as goal

abbrev pub invariant-loop-number : goal.invariant-loop-number
invariant-loop-number l = record {
  long : length l.set ≡ l.count;
  members : (k : ℕ) → k < l.number → get_or l.set k false ≡ true;
}
