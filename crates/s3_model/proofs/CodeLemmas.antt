-- Whether a code is one of three.
use Rattle.std.proofs.Common.{◌≡◌, ◌||◌, Bool, true, false}

pub one_of_three : (a b c r : Bool) → a ≡ false → b ≡ false → r ≡ c → r ≡ a || (b || (c || false))
one_of_three true b c r p q e = absurd (cc)
one_of_three false true c r p q e = absurd (cc)
one_of_three false false true r p q e = e
one_of_three false false false r p q e = e
