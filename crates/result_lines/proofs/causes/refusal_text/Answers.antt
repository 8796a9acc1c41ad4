use Rattle.std.proofs.Common.{◌≡◌, ◌++◌, List, ℕ, IfOk, codes, subst}
use Rattle.result_lines.proofs.causes.refusal_text.Goals as goal

pub returns : goal.returns
returns c =
    subst (λ (name : List ℕ). IfOk c.six_joined.result (λ text. text ≡ codes "An error occurred (" ++ c.args.code.now ++ codes ") when calling the " ++ name ++ codes " operation: " ++ c.args.message.now))
    c.op_name.ensures c.six_joined.ensures
