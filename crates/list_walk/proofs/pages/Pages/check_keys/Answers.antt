use Rattle.std.proofs.Common.{sym}
use Rattle.list_walk.proofs.pages.Pages.check_keys.Goals as goal

pub returns-clause-err : goal.returns-clause-err
returns-clause-err c =
    let fault = rw (c.as_str.ensures, c.last_name-last.ensures, c.as_slice.ensures, c.as_slice-2.ensures) at c.check_names.ensures.err in
    rw (sym c.self.view_is) fault
