-- Command lines, each with what it asks for or its first fault.
use Rattle.std.proofs.Common.{◌≡◌, ℕ, true, false, not, List, [], ◌∷◌, None, Some, codes, refl}
use Rattle.std.specs.List.{list_all}
use Rattle.s3_model.specs.declared.faults.EndpointFault.TheVariants.{Tls}
use Rattle.s3_model.specs.declared.faults.WordFault.TheVariants.{NoCommand, UnknownCommand, UnknownOption, NoValue, BadValue, PathCount, Pair, Twice, Endpoint, NoEndpoint}
use Rattle.s3_model.specs.declared.places.Place.TheVariants.{Object, File}
use Rattle.s3_model.specs.declared.tasks.Times.TheVariants.{SizeOnly}
use Rattle.s3_words.specs.declared.commands.Verb.TheVariants.{Rm}
use Rattle.s3_words.specs.declared.options.OptionName.{OptionName}
use Rattle.s3_words.specs.declared.options.OptionName.TheVariants as option
use Rattle.s3_words.specs.declared.options.OptionName.TheVariants.{EndpointUrl, Region, Profile, Recursive, Exclude, Include, Dryrun, Quiet, OnlyShowErrors, SizeOnly, ExactTimestamps, Delete, ContentType, NoGuessMimeType, NoProgress, ExpiresIn}
use Rattle.s3_words.specs.Commands.{arguments_of, expires_of, mode_of, times_of}
use Rattle.s3_words.specs.Faults.{word_fault}
use Rattle.s3_words.specs.Places.{places_in}
use Rattle.s3_words.specs.Given.{filters_in, is_given, value_of}
use Rattle.s3_words.specs.Options.{common_options, option_named, row_of, special_options, takes_option}

-- every option is found by its name
found : (option : OptionName) → option_named (row_of option).name ≡ Some option
found EndpointUrl = refl
found Region = refl
found Profile = refl
found Recursive = refl
found Exclude = refl
found Include = refl
found Dryrun = refl
found Quiet = refl
found OnlyShowErrors = refl
found SizeOnly = refl
found ExactTimestamps = refl
found Delete = refl
found ContentType = refl
found NoGuessMimeType = refl
found NoProgress = refl
found ExpiresIn = refl

common_with_rm : list_all (takes_option Rm) common_options ≡ true
common_with_rm = refl

none_special_to_rm : list_all (λ option. not (takes_option Rm option)) special_options ≡ true
none_special_to_rm = refl

-- the words of a command line that names the service, the rest of it first
abbrev with_endpoint : List (List ℕ) → List (List ℕ)
with_endpoint words = codes "--endpoint-url" ∷ codes "http://localhost:9000" ∷ words

-- cp a.txt s3://b/
abbrev upload : List (List ℕ)
upload = codes "cp" ∷ codes "a.txt" ∷ codes "s3://b/" ∷ with_endpoint []

upload_fault : word_fault upload ≡ None
upload_fault = refl

upload_places : places_in (arguments_of upload) ≡ File (codes "a.txt") ∷ Object (codes "b") [] ∷ []
upload_places = refl

-- sync s3://b/ d --delete --exclude *.log
abbrev mirror : List (List ℕ)
mirror = codes "sync" ∷ with_endpoint (codes "s3://b/" ∷ codes "d" ∷ codes "--delete" ∷ codes "--exclude" ∷ codes "*.log" ∷ [])

mirror_fault : word_fault mirror ≡ None
mirror_fault = refl

mirror_removes : is_given option.Delete (arguments_of mirror) ≡ true
mirror_removes = refl

-- rm s3://b --recursive --exclude * --include=*.txt --exclude a/*
filtered : filters_in (arguments_of (codes "rm" ∷ codes "s3://b" ∷ codes "--recursive" ∷ codes "--exclude" ∷ codes "*" ∷ codes "--include=*.txt" ∷ codes "--exclude" ∷ codes "a/*" ∷ []))
    ≡ record { keep = false; pattern = codes "*" } ∷ record { keep = true; pattern = codes "*.txt" } ∷ record { keep = false; pattern = codes "a/*" } ∷ []
filtered = refl

-- presign s3://examplebucket/test.txt --expires-in 86400
presigned : expires_of (value_of option.ExpiresIn (arguments_of (codes "presign" ∷ codes "s3://examplebucket/test.txt" ∷ codes "--expires-in" ∷ codes "86400" ∷ []))) ≡ 86400
presigned = refl

-- mv a.txt s3://b/a.txt --dryrun
rehearsed : mode_of (arguments_of (codes "mv" ∷ codes "a.txt" ∷ codes "s3://b/a.txt" ∷ codes "--dryrun" ∷ [])) ≡ record { dryrun = true; quiet = false; only_errors = false }
rehearsed = refl

-- size alone decides where both flags are given
by_size : times_of true true ≡ SizeOnly
by_size = refl

no_words : word_fault [] ≡ Some NoCommand
no_words = refl

-- ls --endpoint-url https://h
encrypted : word_fault (codes "ls" ∷ codes "--endpoint-url" ∷ codes "https://h" ∷ []) ≡ Some (Endpoint 2 Tls)
encrypted = refl

-- presign s3://b/k --expires-in 604801
too_long : word_fault (codes "presign" ∷ codes "s3://b/k" ∷ codes "--expires-in" ∷ codes "604801" ∷ []) ≡ Some (BadValue 3)
too_long = refl

-- cp a
one_path : word_fault (codes "cp" ∷ codes "a" ∷ with_endpoint []) ≡ Some (PathCount 1 2)
one_path = refl

-- sync x y
no_service : word_fault (codes "sync" ∷ codes "x" ∷ codes "y" ∷ with_endpoint []) ≡ Some Pair
no_service = refl

-- ls --region a --region: the option's name, then that it stands twice, then its value
twice : word_fault (codes "ls" ∷ codes "--region" ∷ codes "a" ∷ codes "--region" ∷ []) ≡ Some (Twice 3)
twice = refl

-- ls --region: no word follows
no_value : word_fault (codes "ls" ∷ codes "--region" ∷ []) ≡ Some (NoValue 1)
no_value = refl

-- cp --delete=: the option is not one of this command's
not_its : word_fault (codes "cp" ∷ codes "--delete=" ∷ []) ≡ Some (UnknownOption 1)
not_its = refl

unknown : word_fault (codes "copy" ∷ []) ≡ Some (UnknownCommand 0)
unknown = refl

no_endpoint : word_fault (codes "ls" ∷ []) ≡ Some NoEndpoint
no_endpoint = refl
