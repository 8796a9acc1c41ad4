use Rattle.std.proofs.Common.{◌++◌, ◌∷◌, [], List, ℕ, ap, ◌∙◌}
use Rattle.file_table.proofs.FolderLemmas.{index_pushed}
use Rattle.file_table.proofs.path_list.PathList.push.Goals as goal

pub invariant_of-self-2 : goal.invariant_of-self-2
invariant_of-self-2 c =
    index_pushed c.self.inside.paths.items c.push.new.self.items c.self.inside.index c.insert.new.self c.args.path.now tt c.self.invariant c.in_ok-insert.ensures.put
    (c.in-Ok.ensures.items ∙ ap (λ (ps : List (List ℕ)). ps ++ c.in_ok-owned.owned ∷ []) c.reserve.ensures.items ∙ ap (λ (p : List ℕ). c.self.inside.paths.items ++ p ∷ []) c.in_ok-owned.ensures)
