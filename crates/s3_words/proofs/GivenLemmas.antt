-- What one word more gives.
use Rattle.std.proofs.Common.{◌≡◌, ◌∙◌, ◌<◌, ◌+◌, ◌++◌, ℕ, List, [], ◌∷◌, length, take, drop, get_or, Option, None, Some, Bor, refl, sym, ap, append-nil}
use Rattle.std.specs.List.{cons_option}
use Rattle.std.specs.Option.{option_copied, option_or}
use Rattle.std.proofs.lemmas.List.{drop_more, map-append, take_more}
use Rattle.std.proofs.lemmas.List.Elements.{filter_map-append}
use Rattle.path_filters.specs.declared.filters.Filter.{Filter}
use Rattle.s3_words.specs.declared.options.OptionName.{OptionName}
use Rattle.s3_words.specs.declared.roles.Role as code
use Rattle.s3_words.specs.Commands.{AreFilters, IsFilter}
use Rattle.s3_words.specs.Given.{Given, filter_in, filters_in, value_in, value_of}
use Rattle.s3_words.specs.Roles.{Role}
use Rattle.s3_words.specs.Shown.{FiltersAfter, all_shown, shown}
use Rattle.shared_lemmas.proofs.Options.{or_none}

-- a word more, and the words left, at a place of the list
pub shown_more : (words : List code.Role) (at : ℕ) (d : code.Role) → at < length words → all_shown (take (at + 1) words) ≡ all_shown (take at words) ++ shown (get_or words at d) ∷ []
shown_more words at d h = ap all_shown (take_more words at d h) ∙ map-append shown (take at words) (get_or words at d ∷ [])

pub shown_left : (words : List code.Role) (at : ℕ) (d : code.Role) → at < length words → all_shown (drop at words) ≡ shown (get_or words at d) ∷ all_shown (drop (at + 1) words)
shown_left words at d h = ap all_shown (drop_more words at d h)

pub copied_or : {X : Type 0} (a b : Option (Bor X)) → option_copied (option_or a b) ≡ option_or (option_copied a) (option_copied b)
copied_or None b = refl
copied_or (Some x) b = refl

pub option_or_assoc : {X : Type 0} (a b c : Option X) → option_or (option_or a b) c ≡ option_or a (option_or b c)
option_or_assoc None b c = refl
option_or_assoc (Some x) b c = refl

pub value_of_more : (option : OptionName) (words : List Role) (word : Role) → value_of option (words ++ word ∷ []) ≡ option_or (value_in option word) (value_of option words)
value_of_more option [] word = sym (or_none (value_in option word))
value_of_more option (first ∷ words) word =
    ap (λ value. option_or value (value_in option first)) (value_of_more option words word) ∙ option_or_assoc (value_in option word) (value_of option words) (value_in option first)

pub AreFilters-more : (given : List Given) (filters : List Filter) (more : Given) (filter : Filter) → AreFilters given filters → IsFilter more filter → AreFilters (given ++ more ∷ []) (filters ++ filter ∷ [])
AreFilters-more [] [] more filter old new = (new, tt)
AreFilters-more (first ∷ given) (other ∷ filters) more filter old new = (old.0, AreFilters-more given filters more filter old.1 new)
AreFilters-more [] (other ∷ filters) more filter old new = absurd old
AreFilters-more (first ∷ given) [] more filter old new = absurd old

filters_after : (given : List Given) (more : Option Given) (old new : List Filter) → AreFilters given old → FiltersAfter more old new → AreFilters (given ++ cons_option more []) new
filters_after given None old new are e = rw (append-nil given, e) are
filters_after given (Some one) old new are (filter, is, e) = rw e (AreFilters-more given old one filter are is)

pub AreFilters-after : (words : List Role) (word : Role) (old new : List Filter) → AreFilters (filters_in words) old → FiltersAfter (filter_in word) old new → AreFilters (filters_in (words ++ word ∷ [])) new
AreFilters-after words word old new are after =
    rw (filter_map-append filter_in words (word ∷ [])) (filters_after (filters_in words) (filter_in word) old new are after)
