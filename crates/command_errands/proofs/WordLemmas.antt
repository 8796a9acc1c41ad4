-- The places of words without a fault are those that the command takes.
use Rattle.std.proofs.Common.{◌≡◌, ◌&&◌, ℕ, Bool, true, false, List, [], ◌∷◌, Option, Some, None, refl, sym, subst, length, if◌then◌else◌, arith}
use Rattle.std.specs.Option.{option_or}
use Rattle.s3_model.specs.declared.places.Place.{Place}
use Rattle.s3_model.specs.declared.places.Place.TheVariants as place
use Rattle.s3_words.specs.declared.commands.Command.{Command}
use Rattle.s3_words.specs.declared.commands.Verb.{Verb}
use Rattle.s3_words.specs.declared.commands.Verb.TheVariants as verb
use Rattle.s3_words.specs.declared.options.OptionName.TheVariants.{Recursive}
use Rattle.s3_words.specs.declared.roles.Expected.TheVariants.{Anything}
use Rattle.s3_words.specs.Commands.{IsCommand, first_of, second_of}
use Rattle.s3_words.specs.Faults.{command_fault, count_fault, endpoint_missing, first_fault, pair_fault, whole_fault, word_fault}
use Rattle.s3_words.specs.Given.{is_given}
use Rattle.s3_words.specs.Options.{changes}
use Rattle.s3_words.specs.Places.{is_pair, is_right_count, places_in}
use Rattle.s3_words.specs.Roles.{roles}
use Rattle.shared_lemmas.proofs.Clashes.{false_true, some_is_none}
use Rattle.shared_lemmas.proofs.Options.{neither}
use Rattle.command_errands.specs.Errands.{AreEnds, TakesPlaces}

holds : {X : Type 0} (b : Bool) (x : X) → (if b then None else Some x) ≡ None → b ≡ true
holds true x e = refl
holds false x e = absurd (some_is_none x e)

-- what is right of the paths of words without a fault
pub right_paths : (word : List ℕ) (words : List (List ℕ)) (command : Command) → word_fault (word ∷ words) ≡ None → IsCommand (word ∷ words) command
    → (is_right_count command.verb (length (places_in (roles Anything words))) ≡ true) × (is_pair command.verb (is_given Recursive (roles Anything words)) (places_in (roles Anything words)) ≡ true)
right_paths word words command right is_command =
    let places : List Place = places_in (roles Anything words) in
    let recursive : Bool = is_given Recursive (roles Anything words) in
    let whole : option_or (first_fault command.verb 1 [] (roles Anything words)) (whole_fault command.verb (roles Anything words)) ≡ None =
    subst (λ (v : Option Verb). command_fault v words ≡ None) is_command.verb right in
    let paths = neither (count_fault command.verb places) (option_or (pair_fault command.verb recursive places) (endpoint_missing (roles Anything words))) (neither _ _ whole).1 in
    let pair = (neither (pair_fault command.verb recursive places) (endpoint_missing (roles Anything words)) paths.1).0 in
    (holds _ _ paths.0, holds _ _ pair)

-- one of two places is in a bucket
ends : (a b : Place) → is_pair verb.Sync true (a ∷ b ∷ []) ≡ true → AreEnds (Some a) (Some b)
ends (place.Object bucket key) (place.Object other k) pair = tt
ends (place.Object bucket key) (place.File path) pair = tt
ends (place.File path) (place.Object bucket key) pair = tt
ends (place.File path) (place.File other) pair = absurd (false_true pair)

two_ends : (places : List Place) → is_right_count verb.Sync (length places) ≡ true → is_pair verb.Sync true places ≡ true → AreEnds (first_of places) (second_of places)
two_ends [] count pair = absurd (false_true count)
two_ends (a ∷ []) count pair = absurd (false_true count)
two_ends (a ∷ b ∷ []) count pair = ends a b pair
two_ends (a ∷ b ∷ c ∷ rest) count pair = absurd (grind (arith, count))

-- a transfer has a place in a bucket
some_object : (any other : Bool) → (any && other) ≡ true → any ≡ true
some_object true other e = refl
some_object false other e = absurd (false_true e)

fit : (of_verb : Verb) (recursive : Bool) (places : List Place) → changes of_verb ≡ true → is_right_count of_verb (length places) ≡ true → is_pair of_verb recursive places ≡ true
    → TakesPlaces of_verb (first_of places) (second_of places)
fit verb.Cp recursive places changing count pair = two_ends places count (some_object _ _ pair)
fit verb.Mv recursive places changing count pair = two_ends places count (some_object _ _ pair)
fit verb.Sync recursive places changing count pair = two_ends places count pair
fit verb.Rm recursive [] changing count pair = absurd (false_true count)
fit verb.Rm recursive (place.Object bucket key ∷ []) changing count pair = tt
fit verb.Rm recursive (place.File path ∷ []) changing count pair = absurd (false_true pair)
fit verb.Rm recursive (a ∷ b ∷ rest) changing count pair = absurd (grind (arith, count))
fit verb.Ls recursive places changing count pair = absurd (false_true changing)
fit verb.Presign recursive places changing count pair = absurd (false_true changing)

-- the command of words without a fault takes its places, where it is `cp`, `mv`, `sync` or `rm`
pub takes_places : (words : List (List ℕ)) (command : Command) → word_fault words ≡ None → IsCommand words command → changes command.verb ≡ true → TakesPlaces command.verb command.from command.to
takes_places [] command right is_command changing = absurd (some_is_none _ right)
takes_places (word ∷ words) command right is_command changing =
    let places : List Place = places_in (roles Anything words) in
    let paths = right_paths word words command right is_command in
    subst (λ (at : Option Place). TakesPlaces command.verb at command.to) (sym is_command.asks.from)
    (subst (λ (at : Option Place). TakesPlaces command.verb (first_of places) at) (sym is_command.asks.to) (fit command.verb (is_given Recursive (roles Anything words)) places changing paths.0 paths.1))
