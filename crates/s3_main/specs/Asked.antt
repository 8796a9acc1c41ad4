-- What the words ask for.
use Rattle.std.specs.Prelude.{◌&&◌, ℕ, Bool, true, false, not, List, [], Option, Some, None, if◌then◌else◌}
use Rattle.s3_words.specs.declared.commands.Verb.{Verb}
use Rattle.s3_words.specs.Commands.{arguments_of, first_of, verb_of}
use Rattle.s3_words.specs.Places.{places_in}
use Rattle.service_listings.specs.Needs.{needs_of}
use Rattle.run_promise.specs.Planning.{Need}
use Rattle.s3_words.specs.declared.options.OptionName.TheVariants.{Recursive}
use Rattle.s3_words.specs.Given.{is_given}
use Rattle.run_report.specs.declared.run.Fatal.{Fatal}
use Rattle.run_report.specs.declared.run.Fatal.TheVariants as fatal
use Rattle.run_report.specs.Texts.{mode_in}
use Rattle.s3_model.specs.Places.{path_at}
use Rattle.s3_words.specs.Options.{is_listing, is_presign}

-- the first path of the words, where it is a local one
abbrev pub path_in : (words : List (List ℕ)) → List ℕ
path_in words = path_at (first_of (places_in (arguments_of words)))

abbrev pub presigns : Option Verb → Bool
presigns None = false
presigns (Some of_verb) = is_presign of_verb

-- the words ask for a URL
abbrev pub shows_url : (words : List (List ℕ)) → Bool
shows_url words = presigns (verb_of words)

abbrev pub lists_by : Option Verb → Bool
lists_by None = false
lists_by (Some of_verb) = is_listing of_verb

-- the words ask for a listing
abbrev pub lists_in : (words : List (List ℕ)) → Bool
lists_in words = lists_by (verb_of words)

-- the words ask for a dry run; a listing is none
abbrev pub dries_in : (words : List (List ℕ)) → Bool
dries_in words = not (lists_in words) && (mode_in words).dryrun

-- a fault of the words, of the settings, or of what is here ended the run
abbrev pub ends_here : Option Fatal → Bool
ends_here None = false
ends_here (Some (fatal.Listing fault)) = false
ends_here (Some (fatal.Answer why)) = false
ends_here (Some fatal.Memory) = false
ends_here (Some why) = true

-- What the planning of the words has to ask, by what ended the run early, if anything did: nothing behind a fault that
-- no request shows.
abbrev pub needs_in : (words : List (List ℕ)) → Option Fatal → List Need
needs_in words why =
    if lists_in words && not (ends_here why)
    then needs_of (first_of (places_in (arguments_of words))) (is_given Recursive (arguments_of words)) else []
