use Rattle.std.proofs.Common.{◌≡◌, ◌≢◌, ℕ, Bool, true, false, List, sym}
use Rattle.std.specs.Bool.{MatchBool}
use Rattle.std.specs.Str.{bytes_eq}
use Rattle.std.proofs.lemmas.Slice.Eq.{bytes_eq-Decides}
use Rattle.std.proofs.lemmas.Bool.Decides.{not_from_Decides}
use Rattle.reply_xml.proofs.places.is_same.Goals as goal

by_cases : (b : Bool) (xs ys : List ℕ) → b ≡ bytes_eq xs ys → MatchBool b (xs ≡ ys) (xs ≢ ys)
by_cases true xs ys e = (bytes_eq-Decides xs ys).0 (sym e)
by_cases false xs ys e = not_from_Decides (bytes_eq xs ys) (bytes_eq-Decides xs ys) (sym e)

pub returns : goal.returns
returns c = by_cases c.eq.result c.args.one.now c.args.other.now c.eq.ensures
