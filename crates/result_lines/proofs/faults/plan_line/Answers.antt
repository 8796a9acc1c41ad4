use Rattle.std.proofs.Common.{◌≡◌, ◌++◌, List, ℕ, IfOk, codes, subst}
use Rattle.result_lines.specs.Faults.{fatal_line}
use Rattle.result_lines.proofs.faults.plan_line.Goals as goal

pub returns-in-Overlap : goal.returns-in-Overlap
returns-in-Overlap c =
    rw c.in-Overlap.is
    (subst (λ (key : List ℕ). IfOk c.three_in_line.result (λ text. text ≡ fatal_line (codes "The key " ++ key ++ codes " is both read and written by this command")))
    c.as_str.ensures c.three_in_line.ensures)

pub returns-in-TooLarge : goal.returns-in-TooLarge
returns-in-TooLarge c = rw c.in-TooLarge.is c.too_large_line.ensures

pub returns-in-NoSource : goal.returns-in-NoSource
returns-in-NoSource c = rw c.in-NoSource.is c.path_line.ensures

pub returns-in-IsFolder : goal.returns-in-IsFolder
returns-in-IsFolder c = rw c.in-IsFolder.is c.path_line-in-IsFolder.ensures

pub returns-in-NotFolder : goal.returns-in-NotFolder
returns-in-NotFolder c = rw c.in-NotFolder.is c.path_line-in-NotFolder.ensures
