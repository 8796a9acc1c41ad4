use Rattle.std.proofs.Common.{◌≡◌, ◌≤◌, ◌<◌, ℕ, true, length, get_or}
use Rattle.aws_profile.specs.Lines.{is_blank}
use Rattle.aws_profile.proofs.texts.without_trailing.Given as goal

-- the bytes from `end` on are blank
abbrev pub invariant-loop-end : goal.invariant-loop-end
invariant-loop-end l = record {
  inside : l.end ≤ length l.text;
  blank : (k : ℕ) → l.end ≤ k → k < length l.text → is_blank (get_or l.text k 0) ≡ true;
}

abbrev pub decreases-loop-end : goal.decreases-loop-end
decreases-loop-end l = l.end
