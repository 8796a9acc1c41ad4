-- How long a URL lasts.
use Rattle.std.proofs.Common.{◌≡◌, ◌≤◌, ◌&&◌, ℕ, Bool, true, false, List, Option, Some, None, refl, sym, subst, arith, if◌then◌else◌}
use Rattle.std.specs.Prelude.{nat_lt}
use Rattle.std.specs.Option.{unwrap_or}
use Rattle.std.specs.Str.{all_ascii_digits}
use Rattle.std.specs.Str.Parse.{digits_value}
use Rattle.s3_words.specs.declared.commands.Command.{Command}
use Rattle.s3_words.specs.Commands.{IsCommand, arguments_of, expires_of}
use Rattle.s3_words.specs.declared.options.OptionName.TheVariants.{ExpiresIn}
use Rattle.s3_words.specs.Given.{value_of}

within_if : (digits low high : Bool) (value : ℕ) → nat_lt 0 value ≡ low → nat_lt value 604801 ≡ high
    → (1 ≤ unwrap_or (if digits && low && high then Some value else None) 3600) × (unwrap_or (if digits && low && high then Some value else None) 3600 ≤ 604800)
within_if true true true value is_low is_high = (grind (arith, is_low), grind (arith, is_high))
within_if true true false value is_low is_high = (omega arith, omega arith)
within_if true false high value is_low is_high = (omega arith, omega arith)
within_if false low high value is_low is_high = (omega arith, omega arith)

expires_are : (text : Option (List ℕ)) → (1 ≤ expires_of text) × (expires_of text ≤ 604800)
expires_are None = (omega arith, omega arith)
expires_are (Some text) = within_if (all_ascii_digits text) (nat_lt 0 (digits_value 10 text)) (nat_lt (digits_value 10 text) 604801) (digits_value 10 text) refl refl

pub expires_within : (words : List (List ℕ)) (command : Command) → IsCommand words command → (1 ≤ command.expires) × (command.expires ≤ 604800)
expires_within words command is =
    subst (λ (n : ℕ). (1 ≤ n) × (n ≤ 604800)) (sym is.asks.expires) (expires_are (value_of ExpiresIn (arguments_of words)))
