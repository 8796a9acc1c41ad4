use Rattle.std.proofs.Common.{option_copied}
use Rattle.object_table.proofs.Pages.{goes_behind}
use Rattle.object_table.proofs.table.ObjectTable.list.Goals as goal

pub returns-clause-behind : goal.returns-clause-behind
returns-clause-behind c =
    goes_behind c.args.self.now (option_copied c.args.token) c.in_ok-place.place (option_copied c.lent-after.result) c.in_ok-page.page c.in_ok-page-2.page c.in_ok-place.ensures.place c.lent-after.ensures c.in_ok-page.ensures.behind c.in_ok-page-2.ensures.behind
