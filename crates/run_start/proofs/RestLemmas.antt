-- What is left of a command says what the words say, but for its region and its profile.
use Rattle.std.proofs.Common.{◌≡◌, ◌∙◌, ℕ, List, Some, ap, sym}
use Rattle.s3_words.specs.declared.commands.Command.{Command}
use Rattle.s3_words.specs.declared.options.OptionName.TheVariants.{Recursive}
use Rattle.s3_words.specs.Commands.{arguments_of, first_of, mode_of, verb_of}
use Rattle.s3_words.specs.Given.{is_given}
use Rattle.s3_words.specs.Places.{places_in}
use Rattle.run_start.specs.Begun.{IsRestOf}

module _ (words : List (List ℕ)) (command : Command) (is : IsRestOf words command) where
  pub verb_is : verb_of words ≡ Some command.verb
  verb_is = is.reads.is_command.verb ∙ ap (λ (c : Command). Some c.verb) (sym is.is)

  pub from_is : command.from ≡ first_of (places_in (arguments_of words))
  from_is = ap (λ (c : Command). c.from) is.is ∙ is.reads.is_command.asks.from

  pub recursive_is : command.recursive ≡ is_given Recursive (arguments_of words)
  recursive_is = ap (λ (c : Command). c.recursive) is.is ∙ is.reads.is_command.asks.recursive

  pub mode_is : command.mode ≡ mode_of (arguments_of words)
  mode_is = ap (λ (c : Command). c.mode) is.is ∙ is.reads.is_command.asks.mode
