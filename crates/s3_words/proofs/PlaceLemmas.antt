-- The index in a fault is that of a word.
use Rattle.std.proofs.Common.{◌&&◌, is_none, ◌≡◌, ◌≢◌, ◌<◌, ◌≤◌, ◌+◌, ◌++◌, ℕ, Bool, true, false, List, [], ◌∷◌, length, Option, None, Some, Result, Ok, Err, IfErr, cond, option_map, refl, subst, arith}
use Rattle.std.specs.Option.{option_or}
use Rattle.s3_model.specs.declared.faults.EndpointFault.{EndpointFault}
use Rattle.s3_model.specs.declared.faults.WordFault.{WordFault}
use Rattle.s3_model.specs.declared.faults.WordFault.TheVariants.{NoCommand, UnknownCommand, UnknownOption, NoValue, BadValue, PathCount, Pair, Twice, Endpoint, NoEndpoint, Memory}
use Rattle.s3_paths.specs.Endpoints.{endpoint_fault}
use Rattle.s3_words.specs.declared.commands.Verb.{Verb}
use Rattle.s3_words.specs.declared.options.OptionName.{OptionName}
use Rattle.s3_words.specs.declared.options.OptionName.TheVariants.{EndpointUrl, Recursive}
use Rattle.s3_words.specs.declared.options.ValueKind.{ValueKind}
use Rattle.s3_words.specs.declared.options.ValueKind.TheVariants as kind
use Rattle.s3_words.specs.declared.roles.Expected.{Expected}
use Rattle.s3_words.specs.declared.roles.Expected.TheVariants.{Anything}
use Rattle.s3_words.specs.Faults.{IsPlaced, command_fault, count_fault, endpoint_missing, first_fault, missing_fault, name_fault, no_more, option_fault, pair_fault, role_fault, text_fault, twice_fault, whole_fault, word_fault}
use Rattle.s3_words.specs.Given.{is_given, value_of}
use Rattle.s3_words.specs.Options.{is_single, kind_of, takes_option, takes_value, verb_named}
use Rattle.s3_words.specs.Places.{is_pair, is_path, is_right_count, places_in, wanted}
use Rattle.s3_words.specs.Roles.{Role, Separator, Path, Unknown, Named, Assigned, Value, next, role_of, roles}
use Rattle.s3_words.specs.Values.{fits, value_fault}

-- a fault, where there is one, has its place among so many words
abbrev Placed : ℕ → Option WordFault → Type 0
Placed count None = Unit {0}
Placed count (Some fault) = IsPlaced count fault

placed_or : (count : ℕ) (a b : Option WordFault) → Placed count a → Placed count b → Placed count (option_or a b)
placed_or count None b here there = there
placed_or count (Some fault) b here there = here

placed_unless : (count : ℕ) (right : Bool) (fault : WordFault) → IsPlaced count fault → Placed count (cond right None (Some fault))
placed_unless count true fault is = tt
placed_unless count false fault is = is

placed_where : (count : ℕ) (wrong : Bool) (fault : WordFault) → IsPlaced count fault → Placed count (cond wrong (Some fault) None)
placed_where count true fault is = is
placed_where count false fault is = tt

placed_endpoint : (count at : ℕ) (fault : Option EndpointFault) → at < count → Placed count (option_map (Endpoint at) fault)
placed_endpoint count at None h = tt
placed_endpoint count at (Some fault) h = h

placed_value : (count : ℕ) (of : ValueKind) (at : ℕ) (text : List ℕ) → at < count → Placed count (value_fault of at text)
placed_value count kind.Url at text h = placed_endpoint count at (endpoint_fault text) h
placed_value count kind.NoValue at text h = placed_unless count (fits kind.NoValue text) (BadValue at) h
placed_value count kind.RegionName at text h = placed_unless count (fits kind.RegionName text) (BadValue at) h
placed_value count kind.ProfileName at text h = placed_unless count (fits kind.ProfileName text) (BadValue at) h
placed_value count kind.Pattern at text h = placed_unless count (fits kind.Pattern text) (BadValue at) h
placed_value count kind.MediaType at text h = placed_unless count (fits kind.MediaType text) (BadValue at) h
placed_value count kind.Seconds at text h = placed_unless count (fits kind.Seconds text) (BadValue at) h

module _ (count : ℕ) (verb : Verb) (at : ℕ) (before : List Role) (last : Bool) (h : at < count) where
  placed_name : (option : OptionName) → Placed count (name_fault verb at option)
  placed_name option = placed_unless count (takes_option verb option) (UnknownOption at) h

  placed_twice : (option : OptionName) → Placed count (twice_fault at before option)
  placed_twice option = placed_where count (is_single (kind_of option) && is_given option before) (Twice at) h

  placed_missing : (option : OptionName) → Placed count (missing_fault at last option)
  placed_missing option = placed_where count (takes_value (kind_of option) && last) (NoValue at) h

  placed_option : (role : Role) → Placed count (option_fault verb at before last role)
  placed_option Unknown = h
  placed_option (Named option) =
      placed_or count (name_fault verb at option) (option_or (twice_fault at before option) (missing_fault at last option)) (placed_name option)
      (placed_or count (twice_fault at before option) (missing_fault at last option) (placed_twice option) (placed_missing option))
  placed_option (Assigned option text) = placed_or count (name_fault verb at option) (twice_fault at before option) (placed_name option) (placed_twice option)
  placed_option Separator = tt
  placed_option (Path text) = tt
  placed_option (Value option text) = tt

  placed_text : (role : Role) → Placed count (text_fault at role)
  placed_text (Assigned option text) = placed_value count (kind_of option) at text h
  placed_text (Value option text) = placed_value count (kind_of option) at text h
  placed_text (Path text) = placed_unless count (is_path text) (BadValue at) h
  placed_text Unknown = tt
  placed_text (Named option) = tt
  placed_text Separator = tt

  placed_role : (role : Role) → Placed count (role_fault verb at before last role)
  placed_role role = placed_or count (option_fault verb at before last role) (text_fault at role) (placed_option role) (placed_text role)

placed_first : (count : ℕ) (verb : Verb) (at : ℕ) (before words : List Role) → at + length words ≤ count → Placed count (first_fault verb at before words)
placed_first count verb at before [] h = tt
placed_first count verb at before (word ∷ words) h =
    placed_or count (role_fault verb at before (no_more words) word) (first_fault verb (at + 1) (before ++ word ∷ []) words)
    (placed_role count verb at before (no_more words) (omega arith) word) (placed_first count verb (at + 1) (before ++ word ∷ []) words (omega arith))

placed_whole : (count : ℕ) (verb : Verb) (words : List Role) → Placed count (whole_fault verb words)
placed_whole count verb words =
    let places = places_in words in
    placed_or count (count_fault verb places) (option_or (pair_fault verb (is_given Recursive words) places) (endpoint_missing words))
    (placed_unless count (is_right_count verb (length places)) (PathCount (length places) (wanted verb)) tt)
    (placed_or count (pair_fault verb (is_given Recursive words) places) (endpoint_missing words)
    (placed_unless count (is_pair verb (is_given Recursive words) places) Pair tt) (placed_where count (is_none (value_of EndpointUrl words)) NoEndpoint tt))

length-roles : (expected : Expected) (words : List (List ℕ)) → length (roles expected words) ≡ length words
length-roles expected [] = refl
length-roles expected (word ∷ words) = let rest = length-roles (next expected (role_of expected word)) words in omega arith

placed_command : (verb : Option Verb) (words : List (List ℕ)) → Placed (length words + 1) (command_fault verb words)
placed_command None words = omega arith
placed_command (Some verb) words =
    placed_or (length words + 1) (first_fault verb 1 [] (roles Anything words)) (whole_fault verb (roles Anything words))
    (placed_first (length words + 1) verb 1 [] (roles Anything words) (let e = length-roles Anything words in omega arith)) (placed_whole (length words + 1) verb (roles Anything words))

placed : (words : List (List ℕ)) → Placed (length words) (word_fault words)
placed [] = tt
placed (word ∷ words) = subst (λ (count : ℕ). Placed count (word_fault (word ∷ words))) (omega arith) (placed_command (verb_named word) words)

placed_fault : (words : List (List ℕ)) (fault : WordFault) → word_fault words ≡ Some fault → IsPlaced (length words) fault
placed_fault words fault e = subst (λ (f : Option WordFault). Placed (length words) f) e (placed words)

-- so is that of a fault that comes for any other reason than memory
placed_known : (words : List (List ℕ)) (fault : WordFault) → (fault ≢ Memory → word_fault words ≡ Some fault) → IsPlaced (length words) fault
placed_known words Memory known = tt
placed_known words NoCommand known = tt
placed_known words (PathCount found wanted) known = tt
placed_known words Pair known = tt
placed_known words NoEndpoint known = tt
placed_known words (UnknownCommand at) known = placed_fault words (UnknownCommand at) (known (λ e. cc))
placed_known words (UnknownOption at) known = placed_fault words (UnknownOption at) (known (λ e. cc))
placed_known words (NoValue at) known = placed_fault words (NoValue at) (known (λ e. cc))
placed_known words (BadValue at) known = placed_fault words (BadValue at) (known (λ e. cc))
placed_known words (Twice at) known = placed_fault words (Twice at) (known (λ e. cc))
placed_known words (Endpoint at why) known = placed_fault words (Endpoint at why) (known (λ e. cc))

pub placed_answer : {X : Type 0} (words : List (List ℕ)) (count : ℕ) (answer : Result X WordFault) → length words ≡ count
    → IfErr answer (λ fault. fault ≢ Memory → word_fault words ≡ Some fault) → IfErr answer (λ fault. IsPlaced count fault)
placed_answer words count (Ok command) e known = tt
placed_answer words count (Err fault) e known = subst (λ (n : ℕ). IsPlaced n fault) e (placed_known words fault known)
