use Rattle.std.proofs.Common.{Some, None, lit<}
use Rattle.std.proofs.lemmas.Str.Pattern.{strip_prefix_char}
use Rattle.reply_values.proofs.ReferenceLemmas.{no_hash, no_hex, no_decimal}
use Rattle.reply_values.proofs.references.numbered.Goals as goal

pub returns-in_err-digits-clause-refused : goal.returns-in_err-digits-clause-refused
returns-in_err-digits-clause-refused c =
    let name = c.args.name.now in
    rw c.from_residual.ensures (no_hash name (strip_prefix_char 35 name None c.in_err-digits.ensures.cases (lit< tt)))

pub returns-in_err-number-in-Some-clause-refused :
    goal.returns-in_err-number-in-Some-clause-refused
returns-in_err-number-in-Some-clause-refused c =
    let name = c.args.name.now in
    let digits = c.in_ok-digits.digits in
    let hex = c.in-Some.digits in
    let hash = strip_prefix_char 35 name (Some digits) c.in_ok-digits.ensures.cases (lit< tt) in
    let x = strip_prefix_char 120 digits.now (Some hex) c.in-Some.ensures.cases (lit< tt) in
    rw c.from_residual-in_err-number-in-Some.ensures
    (no_hex name digits.now hex.now hash x c.in_err-number-in-Some.ensures.refused)

pub returns-in_err-number-in-None-clause-refused :
    goal.returns-in_err-number-in-None-clause-refused
returns-in_err-number-in-None-clause-refused c =
    let name = c.args.name.now in
    let digits = c.in_ok-digits.digits in
    let hash = strip_prefix_char 35 name (Some digits) c.in_ok-digits.ensures.cases (lit< tt) in
    let plain = strip_prefix_char 120 digits.now None c.in-None.ensures.cases (lit< tt) in
    rw c.from_residual-in_err-number-in-None.ensures
    (no_decimal name digits.now hash plain c.in_err-number-in-None.ensures.refused)
