-- A command that is done by now copies a local file to an object.
use Rattle.std.proofs.Common.{◌≡◌, ◌∙◌, ◌&&◌, ◌||◌, ℕ, Bool, true, false, not, List, [], ◌∷◌, Option, Some, None, refl, sym, ap, subst, length, if◌then◌else◌, arith}
use Rattle.std.specs.Option.{option_or}
use Rattle.s3_model.specs.declared.places.Place.{Place}
use Rattle.s3_model.specs.declared.places.Place.TheVariants as place
use Rattle.s3_words.specs.declared.commands.Command.{Command}
use Rattle.s3_words.specs.declared.commands.Verb.{Verb}
use Rattle.s3_words.specs.declared.commands.Verb.TheVariants as verb
use Rattle.s3_words.specs.declared.options.OptionName.TheVariants.{Recursive}
use Rattle.s3_words.specs.declared.roles.Expected.TheVariants.{Anything}
use Rattle.s3_words.specs.Commands.{IsCommand, first_of, second_of}
use Rattle.s3_words.specs.Faults.{command_fault, count_fault, endpoint_missing, first_fault, pair_fault, whole_fault, word_fault}
use Rattle.s3_words.specs.Given.{is_given}
use Rattle.s3_words.specs.Places.{is_pair, is_right_count, places_in}
use Rattle.s3_words.specs.Roles.{roles}
use Rattle.s3_model.specs.Places.{IsFile, IsListed, IsObject}
use Rattle.s3_words.specs.Options.{is_copy, is_listing, is_presign}
use Rattle.s3_words.specs.Commands.{NamesObject}
use Rattle.upload_plans.specs.Commands.{CopiesUp, IsOffline, is_move, is_offline_dry_run, is_removal, is_unbuilt, is_unbuilt_copy, reads_object}
use Rattle.shared_lemmas.proofs.Clashes.{false_true, some_is_none, true_is_false}
use Rattle.shared_lemmas.proofs.Options.{neither}

holds : {X : Type 0} (b : Bool) (x : X) → (if b then None else Some x) ≡ None → b ≡ true
holds true x e = refl
holds false x e = absurd (some_is_none x e)

none_of : (a b c : Bool) → (a || b || c) ≡ false → a ≡ false
none_of false b c e = refl
none_of true b c e = absurd (true_is_false e)

last_of : (a b c : Bool) → (a || b || c) ≡ false → c ≡ false
last_of false false c e = e
last_of false true c e = absurd (true_is_false e)
last_of true b c e = absurd (true_is_false e)

-- a command that is done, and is neither shown nor a dry run, is a copy
built_copy : (presign listing offline copy unbuilt : Bool) → (not (presign || listing || offline) && (not copy || unbuilt)) ≡ false → presign ≡ false → listing ≡ false → offline ≡ false → (copy ≡ true) × (unbuilt ≡ false)
built_copy false false false true false e other none carried = (refl, refl)
built_copy false false false true true e other none carried = absurd (true_is_false e)
built_copy false false false false unbuilt e other none carried = absurd (true_is_false e)
built_copy false false true copy unbuilt e other none carried = absurd (true_is_false carried)
built_copy false true offline copy unbuilt e other none carried = absurd (true_is_false none)
built_copy true listing offline copy unbuilt e other none carried = absurd (true_is_false other)

two : (recursive : Bool) (a b : Place) → reads_object (Some a) ≡ false → is_pair verb.Cp recursive (a ∷ b ∷ []) ≡ true → IsFile (Some a) × IsObject (Some b)
two recursive (place.Object bucket key) b reads pair = absurd (true_is_false reads)
two recursive (place.File path) (place.Object bucket key) reads pair = (tt, tt)
two recursive (place.File path) (place.File other) reads pair = absurd (false_true pair)

fits_pair : (recursive : Bool) (places : List Place) → reads_object (first_of places) ≡ false → is_right_count verb.Cp (length places) ≡ true → is_pair verb.Cp recursive places ≡ true
    → IsFile (first_of places) × IsObject (second_of places)
fits_pair recursive [] reads count pair = absurd (false_true count)
fits_pair recursive (a ∷ []) reads count pair = absurd (false_true count)
fits_pair recursive (a ∷ b ∷ []) reads count pair = two recursive a b reads pair
fits_pair recursive (a ∷ b ∷ c ∷ rest) reads count pair = absurd (grind (arith, count))

places_fit : (of_verb : Verb) (recursive : Bool) (places : List Place) → (is_copy of_verb || is_move of_verb) ≡ true → reads_object (first_of places) ≡ false → is_right_count of_verb (length places) ≡ true
    → is_pair of_verb recursive places ≡ true → IsFile (first_of places) × IsObject (second_of places)
places_fit verb.Cp recursive places copy reads count pair = fits_pair recursive places reads count pair
places_fit verb.Mv recursive places copy reads count pair = fits_pair recursive places reads count pair
places_fit of_verb recursive places copy reads count pair = absurd (false_true copy)

-- what is right of the paths of words without a fault
right_paths : (word : List ℕ) (words : List (List ℕ)) (command : Command) → word_fault (word ∷ words) ≡ None → IsCommand (word ∷ words) command
    → (is_right_count command.verb (length (places_in (roles Anything words))) ≡ true) × (is_pair command.verb (is_given Recursive (roles Anything words)) (places_in (roles Anything words)) ≡ true)
right_paths word words command right is_command =
    let places : List Place = places_in (roles Anything words) in
    let recursive : Bool = is_given Recursive (roles Anything words) in
    let whole : option_or (first_fault command.verb 1 [] (roles Anything words)) (whole_fault command.verb (roles Anything words)) ≡ None =
    subst (λ (v : Option Verb). command_fault v words ≡ None) is_command.verb right in
    let paths = neither (count_fault command.verb places) (option_or (pair_fault command.verb recursive places) (endpoint_missing (roles Anything words))) (neither _ _ whole).1 in
    let pair = (neither (pair_fault command.verb recursive places) (endpoint_missing (roles Anything words)) paths.1).0 in
    (holds _ _ paths.0, holds _ _ pair)

or_so : (a b : Bool) → a ≡ true → (a || b) ≡ true
or_so true b e = refl
or_so false b e = absurd (false_true e)

-- such words name a local file and an object
up_from : (word : List ℕ) (words : List (List ℕ)) (command : Command) → word_fault (word ∷ words) ≡ None → IsCommand (word ∷ words) command → (is_copy command.verb || is_move command.verb) ≡ true
    → reads_object command.from ≡ false → CopiesUp command
up_from word words command right is_command copy reads =
    let places : List Place = places_in (roles Anything words) in
    let paths = right_paths word words command right is_command in
    let fit = places_fit command.verb (is_given Recursive (roles Anything words)) places copy (ap reads_object (sym is_command.asks.from) ∙ reads) paths.0 paths.1 in
    record {
      from = subst (λ (at : Option Place). IsFile at) (sym is_command.asks.from) fit.0;
      to = subst (λ (at : Option Place). IsObject at) (sym is_command.asks.to) fit.1;
    }

-- a command that is carried out by now copies one local file
pub copies_up : (words : List (List ℕ)) (command : Command) → word_fault words ≡ None → IsCommand words command → is_unbuilt command ≡ false → is_presign command.verb ≡ false → is_listing command.verb ≡ false
    → is_offline_dry_run command ≡ false → CopiesUp command × (command.mode.dryrun ≡ false)
copies_up [] command right is_command built other none carried = absurd (some_is_none _ right)
copies_up (word ∷ words) command right is_command built other none carried =
    let copy = built_copy (is_presign command.verb) (is_listing command.verb) (is_offline_dry_run command) (is_copy command.verb) (is_unbuilt_copy command) built other none carried in
    let reads = none_of (reads_object command.from) command.recursive command.mode.dryrun copy.1 in
    (up_from word words command right is_command (or_so _ _ copy.0) reads, last_of (reads_object command.from) command.recursive command.mode.dryrun copy.1)

-- ---- dry runs

dry_upload : (dryrun copies reads removes recursive : Bool) → (dryrun && (copies && not reads || removes && not recursive)) ≡ true → removes ≡ false → (copies ≡ true) × (reads ≡ false)
dry_upload true true false removes recursive e none = (refl, refl)
dry_upload true true true false recursive e none = absurd (false_true e)
dry_upload true true true true recursive e none = absurd (true_is_false none)
dry_upload true false reads false recursive e none = absurd (false_true e)
dry_upload true false reads true recursive e none = absurd (true_is_false none)
dry_upload false copies reads removes recursive e none = absurd (false_true e)

one_removed : (of_verb : Verb) (recursive : Bool) (places : List Place) → is_removal of_verb ≡ true → is_right_count of_verb (length places) ≡ true → is_pair of_verb recursive places ≡ true → IsObject (first_of places)
one_removed verb.Rm recursive [] removes count pair = absurd (false_true count)
one_removed verb.Rm recursive (place.Object bucket key ∷ []) removes count pair = tt
one_removed verb.Rm recursive (place.File path ∷ []) removes count pair = absurd (false_true pair)
one_removed verb.Rm recursive (a ∷ b ∷ rest) removes count pair = absurd (grind (arith, count))
one_removed of_verb recursive places removes count pair = absurd (false_true removes)

pub is_offline : (words : List (List ℕ)) (command : Command) → word_fault words ≡ None → IsCommand words command → is_offline_dry_run command ≡ true → IsOffline command
is_offline [] command right is_command dry = absurd (some_is_none _ right)
is_offline (word ∷ words) command right is_command dry = record {
  copies = λ none.
      let up = dry_upload command.mode.dryrun (is_copy command.verb || is_move command.verb) (reads_object command.from) (is_removal command.verb) command.recursive dry none in
      let of_places = up_from word words command right is_command up.0 up.1 in
      record { from = of_places.from; to = of_places.to };
  removes = λ removes.
      let paths = right_paths word words command right is_command in
      subst (λ (at : Option Place). IsObject at) (sym is_command.asks.from) (one_removed command.verb (is_given Recursive (roles Anything words)) (places_in (roles Anything words)) removes paths.0 paths.1);
}

-- the one path of `presign`
one_object : (of_verb : Verb) (recursive : Bool) (places : List Place) → is_presign of_verb ≡ true → is_right_count of_verb (length places) ≡ true → is_pair of_verb recursive places ≡ true → IsObject (first_of places)
one_object verb.Presign recursive [] presign count pair = absurd (false_true count)
one_object verb.Presign recursive (place.Object bucket key ∷ []) presign count pair = tt
one_object verb.Presign recursive (place.File path ∷ []) presign count pair = absurd (false_true pair)
one_object verb.Presign recursive (a ∷ b ∷ rest) presign count pair = absurd (grind (arith, count))
one_object of_verb recursive places presign count pair = absurd (false_true presign)

pub names_object : (words : List (List ℕ)) (command : Command) → word_fault words ≡ None → IsCommand words command → is_presign command.verb ≡ true → NamesObject command
names_object [] command right is_command presign = absurd (some_is_none _ right)
names_object (word ∷ words) command right is_command presign =
    let paths = right_paths word words command right is_command in
    subst (λ (at : Option Place). IsObject at) (sym is_command.asks.from) (one_object command.verb (is_given Recursive (roles Anything words)) (places_in (roles Anything words)) presign paths.0 paths.1)

-- the path of `ls`, if it has one
one_listed : (of_verb : Verb) (recursive : Bool) (places : List Place) → is_listing of_verb ≡ true → is_pair of_verb recursive places ≡ true → IsListed (first_of places)
one_listed verb.Ls recursive [] listing pair = tt
one_listed verb.Ls recursive (place.Object bucket key ∷ rest) listing pair = tt
one_listed verb.Ls recursive (place.File path ∷ rest) listing pair = absurd (false_true pair)
one_listed of_verb recursive places listing pair = absurd (false_true listing)

pub names_listed : (words : List (List ℕ)) (command : Command) → word_fault words ≡ None → IsCommand words command → is_listing command.verb ≡ true → IsListed command.from
names_listed [] command right is_command listing = absurd (some_is_none _ right)
names_listed (word ∷ words) command right is_command listing =
    let paths = right_paths word words command right is_command in
    subst (λ (at : Option Place). IsListed at) (sym is_command.asks.from) (one_listed command.verb (is_given Recursive (roles Anything words)) (places_in (roles Anything words)) listing paths.1)
