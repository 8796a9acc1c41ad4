-- Warnings of planning have lines, and the tasks of a plan have their sources.
use Rattle.std.proofs.Common.{◌≡◌, ◌==◌, ◌++◌, Bool, true, false, ℕ, List, [], ◌∷◌, Option, Some, None, IfSome, sym, filter_map, length, nat_lt, option_map, get_or, ◌≢◌, if◌then◌else◌}
use Rattle.std.specs.List.{All, AllByRecursion, cons_option, list_any}
use Rattle.std.proofs.lemmas.List.Elements.{All-append, All-cons, All-nil}
use Rattle.std.proofs.lemmas.Option.{slice_get-get_or}
use Rattle.shared_lemmas.proofs.Clashes.{false_true, none_is_some}
use Rattle.result_lines.specs.Tasks.{HasSource, is_removal}
use Rattle.result_lines.specs.Warnings.{IsShown}
use Rattle.run_report.specs.Texts.{IsOfLooking}
use Rattle.s3_model.specs.declared.faults.KeySkip.{KeySkip}
use Rattle.s3_model.specs.declared.faults.KeySkip.TheVariants as skip
use Rattle.s3_model.specs.declared.places.Entry.{Entry}
use Rattle.s3_model.specs.declared.places.Place.{Place}
use Rattle.s3_model.specs.declared.places.Place.TheVariants as place
use Rattle.s3_model.specs.declared.tasks.Kind.{Kind}
use Rattle.s3_model.specs.declared.tasks.Kind.TheVariants as kind
use Rattle.s3_model.specs.declared.tasks.Task.{Task}
use Rattle.s3_model.specs.declared.tasks.Warning.{Warning}
use Rattle.s3_model.specs.declared.tasks.Warning.TheVariants as warning
use Rattle.s3_model.specs.TempNames.{is_temp_name}
use Rattle.s3_paths.specs.Names.{components, is_dot_name, is_empty_name, key_skip, name_skip}
use Rattle.sync_plan.specs.declared.errand.Errand.{Errand}
use Rattle.sync_plan.specs.Errands.{is_joined, names_of, skip_by, skip_of, source_at}
use Rattle.sync_plan.specs.Fit.{IsFit, IsOfKind}
use Rattle.sync_plan.specs.Plans.{is_kept_by, skipped, warning_of, warnings_for}

-- ---- members, one by one

all_of : {X : Type 0} (P : X → Type 0) (xs : List X) → AllByRecursion P xs → All P xs
all_of P [] h = All-nil P
all_of P (x ∷ xs) h = All-cons P x xs h.0 (all_of P xs h.1)

with_some : {Y : Type 0} (P : Y → Type 0) (found : Option Y) (rest : List Y) → IfSome found P → AllByRecursion P rest → AllByRecursion P (cons_option found rest)
with_some P None rest h all = all
with_some P (Some y) rest h all = (h, all)

some_of : {X Y : Type 0} (P : Y → Type 0) (f : X → Option Y) → ((x : X) → IfSome (f x) P) → (xs : List X) → AllByRecursion P (filter_map f xs)
some_of P f each [] = tt
some_of P f each (x ∷ xs) = with_some P (f x) (filter_map f xs) (each x) (some_of P f each xs)

-- ---- warnings of looking

looked_shown : (w : Warning) → IsOfLooking w → IsShown w
looked_shown (warning.Unnamed count) h = tt
looked_shown (warning.NotAFile path) h = tt
looked_shown (warning.Skipped at why) h = absurd h
looked_shown (warning.TimeNotSet path) h = absurd h
looked_shown (warning.TempLeft path) h = absurd h

pub all_shown : (looked skips : List Warning) → AllByRecursion IsOfLooking looked → All IsShown skips → All IsShown (looked ++ skips)
all_shown looked skips looking shown = All-append IsShown looked skips (all_of IsShown looked (each looked looking)) shown
  where
    each : (all : List Warning) → AllByRecursion IsOfLooking all → AllByRecursion IsShown all
    each [] h = tt
    each (w ∷ all) h = (looked_shown w h.0, each all h.1)

-- ---- warnings of a plan

abbrev Says : Place → KeySkip → Type 0
Says at why = IsShown (warning.Skipped at why)

key_says : (at : Place) (key : List ℕ) → IfSome (key_skip key) (Says at)
key_says at key = by (length key == 0) (nat_lt 1024 (length key))
  where
    by : (empty long : Bool) → IfSome (if empty then Some skip.EmptyName else if long then Some (skip.LongKey (length key)) else None) (Says at)
    by true long = tt
    by false true = tt
    by false false = tt

name_says : (at : Place) (path : List ℕ) → IfSome (name_skip path) (Says at)
name_says at path = by (list_any is_empty_name (components path)) (list_any is_dot_name (components path)) (list_any is_temp_name (components path))
  where
    by : (empty dots temp : Bool) → IfSome (if empty then Some skip.EmptyName else if dots then Some skip.Dots else if temp then Some skip.TempLike else None) (Says at)
    by true dots temp = tt
    by false true temp = tt
    by false false true = tt
    by false false false = tt

skip_says : (at to : Place) (joined : Bool) (path : List ℕ) → IfSome (skip_by to joined path) (Says at)
skip_says at (place.Object bucket key) joined path = key_says at (if joined then key ++ path else key)
skip_says at (place.File root) true path = name_says at path
skip_says at (place.File root) false path = tt

warning_says : (errand : Errand) (to : Place) (many : Bool) (name : List ℕ × Entry) → IfSome (warning_of errand to many name) IsShown
warning_says errand to many name = by (is_kept_by errand name.0) (skip_of to many name.0) (skip_says (source_at errand.from many name.0) to (is_joined to many) name.0)
  where
    by : (kept : Bool) (why : Option KeySkip) → IfSome why (Says (source_at errand.from many name.0))
        → IfSome (if kept then option_map (λ (w : KeySkip). warning.Skipped (source_at errand.from many name.0) w) why else None) IsShown
    by false why h = tt
    by true None h = tt
    by true (Some why) h = h

skipped_shown : (errand : Errand) (to : Place) (many : Bool) (source : List Entry) → All IsShown (skipped errand to many source)
unfolding skipped
skipped_shown errand to many source = all_of IsShown _ (some_of IsShown (warning_of errand to many) (warning_says errand to many) (names_of errand.from many source))

pub skips_shown : (errand : Errand) (to : Option Place) (many : Bool) (source : List Entry) → All IsShown (warnings_for errand to many source)
skips_shown errand None many source = All-nil IsShown
skips_shown errand (Some to) many source = skipped_shown errand to many source

-- ---- tasks of a plan

kind_source : (of_kind : Kind) (source : Option Place) (dest : Place) (moves : Bool) → IsOfKind of_kind source dest moves → is_removal of_kind ≡ false → source ≢ None
kind_source kind.Upload (Some (place.File path)) (place.Object bucket key) moves h removes = λ none. none_is_some (place.File path) (sym none)
kind_source kind.Download (Some (place.Object bucket key)) (place.File path) moves h removes = λ none. none_is_some (place.Object bucket key) (sym none)
kind_source kind.Copy (Some (place.Object b k)) (place.Object bucket key) moves h removes = λ none. none_is_some (place.Object b k) (sym none)
kind_source kind.RemoveObject source dest moves h removes = absurd (false_true (sym removes))
kind_source kind.RemoveFile source dest moves h removes = absurd (false_true (sym removes))
kind_source of_kind source dest moves h removes = absurd h

pub have_sources : (most : ℕ) (tasks : List Task) → IsFit most tasks → All HasSource tasks
have_sources most tasks fit = λ k d inside.
    let task = get_or tasks k d in
    kind_source task.kind task.source task.dest task.moves (fit.kinds k task (slice_get-get_or tasks k d inside))
