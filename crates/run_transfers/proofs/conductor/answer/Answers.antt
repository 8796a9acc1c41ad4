use Rattle.std.proofs.Common.{◌∙◌, ap}
use Rattle.manager_core.specs.declared.due.Due.TheVariants as due
use Rattle.manager_moves.specs.declared.moves.Move.{Move}
use Rattle.run_transfers.proofs.RunLemmas.{goes_free}
use Rattle.run_transfers.proofs.StepLemmas.{all_back, lined_on, made_on, stays_on}
use Rattle.run_transfers.proofs.conductor.answer.Goals as goal

pub returns-in-End-clause-stops : goal.returns-in-End-clause-stops
returns-in-End-clause-stops g c =
    let is = c.requires.is ∙ ap (λ (m : Move). due.Next m) c.in-End.is in
    (record { run = c.requires.run; kept = c.requires.kept; is = is }, all_back c.requires.kept is, λ run k. stays_on c.args.manager.now k k.running)

pub returns-in-Make-clause-goes_on : goal.returns-in-Make-clause-goes_on
returns-in-Make-clause-goes_on g c run k =
    let after = c.made.ensures.running _ _ _ k.running in made_on k c.made.new.self c.made.ensures.free after.0 after.1

pub returns-in-Make-clause-free : goal.returns-in-Make-clause-free
returns-in-Make-clause-free g c =
    let k = c.requires.kept in
    let after = c.made.ensures.running _ _ _ k.running in
    goes_free (made_on k c.made.new.self c.made.ensures.free after.0 after.1) c.made.ensures.free

pub returns-in-Line-clause-goes_on : goal.returns-in-Line-clause-goes_on
returns-in-Line-clause-goes_on g c run k =
    lined_on k c.lined.new.self c.lined.ensures.free (c.lined.ensures.running _ _ _ k.running)

pub returns-in-Line-clause-free : goal.returns-in-Line-clause-free
returns-in-Line-clause-free g c =
    let k = c.requires.kept in
    goes_free (lined_on k c.lined.new.self c.lined.ensures.free (c.lined.ensures.running _ _ _ k.running))
    c.lined.ensures.free
