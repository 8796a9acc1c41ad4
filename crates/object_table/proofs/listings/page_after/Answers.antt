use Rattle.std.proofs.Common.{option_copied}
use Rattle.object_table.proofs.Pages.{page_grown, reaches_itself}
use Rattle.object_table.proofs.listings.page_after.Goals as goal

pub loop-key-init : goal.loop-key-init
loop-key-init c = (c.empty_page-page.ensures (option_copied c.args.after), reaches_itself (option_copied c.args.after))

pub loop-key-preserved : goal.loop-key-preserved
loop-key-preserved c =
    page_grown (option_copied c.args.after) (option_copied c.loop-key.last) c.loop-key.page c.add_name.new.page _ c.text.result.now c.text.ensures c.loop-key.invariant.0 c.loop-key.invariant.1 (c.is_after.ensures.0 c.if-not-is_after.false) c.in_ok-add_name.ensures
