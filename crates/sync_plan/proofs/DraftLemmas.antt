-- What one turn adds to a draft, and what is left behind it.
use Rattle.std.proofs.Common.{◌≡◌, ◌∙◌, ◌+◌, ◌<◌, ◌≤◌, ℕ, suc, Bool, true, false, cond, List, [], ◌∷◌, ◌++◌, Option, Some, None, refl, sym, ap, subst, add-one, append_assoc, arith, drop, drop-cons, filter, get_or, length, length-drop, filter_map, map, option_map}
use Rattle.std.specs.List.{cons_option}
use Rattle.std.specs.Map.{values_of}
use Rattle.std.specs.Option.{option_to_list}
use Rattle.s3_model.specs.declared.places.Entry.{Entry}
use Rattle.s3_model.specs.declared.places.Place.{Place}
use Rattle.s3_model.specs.declared.tasks.Task.{Task}
use Rattle.s3_model.specs.declared.tasks.Warning.{Warning}
use Rattle.std.proofs.lemmas.List.{nil_from_length}
use Rattle.merged_names.specs.Merging.{Ascend, chosen, in_order, merged}
use Rattle.merged_names.specs.Turns.{IsTurn}
use Rattle.merged_names.proofs.Merges.{merged_turn}
use Rattle.sync_plan.specs.declared.errand.Errand.{Errand}
use Rattle.sync_plan.specs.Errands.{named, names_of, relative}
use Rattle.sync_plan.specs.Plans.{is_kept_by, planned, planned_removals, removal_of, removed, skipped, task_at, transfer_of, warning_at, warning_of}

values_more : {X : Type 0} (path : List ℕ) (o : Option X) (items : List (List ℕ × X)) → values_of (cons_option (option_map (λ (x : X). (path, x)) o) items) ≡ option_to_list o ++ values_of items
values_more path None items = refl
values_more path (Some x) items = refl

gives_more : {X Y : Type 0} (f : X → Option Y) (x : X) (xs : List X) → filter_map f (x ∷ xs) ≡ option_to_list (f x) ++ filter_map f xs
gives_more f x xs = cons_is (f x) (filter_map f xs)
  where
    cons_is : {Y : Type 0} (o : Option Y) (ys : List Y) → cons_option o ys ≡ option_to_list o ++ ys
    cons_is None ys = refl
    cons_is (Some y) ys = refl

module _ {E : Type 0} where
  pub ours_ascend : (path : List ℕ) (ours theirs : Option E) (source dest source' dest' : List (List ℕ × E)) → IsTurn path ours theirs source dest source' dest' → Ascend source → Ascend source'
  ours_ascend path None None source dest source' dest' turn ascend = subst Ascend turn.0 ascend
  ours_ascend path None (Some other) source dest source' dest' turn ascend = subst Ascend turn.0 ascend
  ours_ascend path (Some entry) None source dest source' dest' turn ascend = let all : Ascend ((path, entry) ∷ source') = subst Ascend turn.0 ascend in all.1
  ours_ascend path (Some entry) (Some other) source dest source' dest' turn ascend = let all : Ascend ((path, entry) ∷ source') = subst Ascend turn.0 ascend in all.1

  pub theirs_ascend : (path : List ℕ) (ours theirs : Option E) (source dest source' dest' : List (List ℕ × E)) → IsTurn path ours theirs source dest source' dest' → Ascend dest → Ascend dest'
  theirs_ascend path None None source dest source' dest' turn ascend = subst Ascend turn.1 ascend
  theirs_ascend path (Some entry) None source dest source' dest' turn ascend = subst Ascend turn.1 ascend
  theirs_ascend path None (Some other) source dest source' dest' turn ascend = let all : Ascend ((path, other) ∷ dest') = subst Ascend turn.1 ascend in all.1
  theirs_ascend path (Some entry) (Some other) source dest source' dest' turn ascend = let all : Ascend ((path, other) ∷ dest') = subst Ascend turn.1 ascend in all.1

warned : (errand : Errand) (to : Place) (many : Bool) (path : List ℕ) (ours theirs : Option Entry) (source dest source' dest' : List (List ℕ × Entry)) → IsTurn path ours theirs source dest source' dest'
    → filter_map (warning_of errand to many) source ≡ option_to_list (warning_at errand to many path ours) ++ filter_map (warning_of errand to many) source'
warned errand to many path None None source dest source' dest' turn = ap (filter_map (warning_of errand to many)) turn.0
warned errand to many path None (Some other) source dest source' dest' turn = ap (filter_map (warning_of errand to many)) turn.0
warned errand to many path (Some entry) None source dest source' dest' turn = ap (filter_map (warning_of errand to many)) turn.0 ∙ gives_more (warning_of errand to many) (path, entry) source'
warned errand to many path (Some entry) (Some other) source dest source' dest' turn = ap (filter_map (warning_of errand to many)) turn.0 ∙ gives_more (warning_of errand to many) (path, entry) source'

module _ (errand : Errand) (to : Place) (many : Bool) (path : List ℕ) (ours theirs : Option Entry) (source dest source' dest' : List Entry)
    (turn : IsTurn path ours theirs (names_of errand.from many source) (names_of to many dest) (names_of errand.from many source') (names_of to many dest')) where
  -- the task of the turn stands in front of those of the rest
  pub tasks_left : (done now : List Task) → Ascend (names_of errand.from many source) → Ascend (names_of to many dest)
      → now ≡ done ++ option_to_list (task_at errand to many path ours theirs) → now ++ planned errand to many source' dest' ≡ done ++ planned errand to many source dest
  unfolding planned
  tasks_left done now ascend later added =
      let rest : List Task = values_of (merged (transfer_of errand to many) (removal_of errand to) (names_of errand.from many source') (names_of to many dest')) in
      let first : values_of (merged (transfer_of errand to many) (removal_of errand to) (names_of errand.from many source) (names_of to many dest)) ≡ option_to_list (task_at errand to many path ours theirs) ++ rest
      = ap values_of (merged_turn (transfer_of errand to many) (removal_of errand to) (λ name other. refl) path ours theirs _ _ _ _ ascend later turn)
      ∙ values_more path (task_at errand to many path ours theirs) (merged (transfer_of errand to many) (removal_of errand to) (names_of errand.from many source') (names_of to many dest')) in
      ap (λ (t : List Task). t ++ rest) added ∙ append_assoc done (option_to_list (task_at errand to many path ours theirs)) rest ∙ ap (λ (t : List Task). done ++ t) (sym first)

  pub warnings_left : (done now : List Warning) → now ≡ done ++ option_to_list (warning_at errand to many path ours) → now ++ skipped errand to many source' ≡ done ++ skipped errand to many source
  unfolding skipped
  warnings_left done now added =
      let rest : List Warning = filter_map (warning_of errand to many) (names_of errand.from many source') in
      ap (λ (w : List Warning). w ++ rest) added ∙ append_assoc done (option_to_list (warning_at errand to many path ours)) rest
      ∙ ap (λ (w : List Warning). done ++ w) (sym (warned errand to many path ours theirs (names_of errand.from many source) (names_of to many dest) (names_of errand.from many source') (names_of to many dest') turn))

-- ---- the end of both sides

right_nil : {X : Type 0} (xs : List X) → xs ++ [] ≡ xs
right_nil [] = refl
right_nil (x ∷ xs) = ap (λ (ys : List _). x ∷ ys) (right_nil xs)

pub all_done : {X : Type 0} (done rest whole : List X) → done ++ rest ≡ whole → rest ≡ [] → done ≡ whole
all_done {X} done rest whole e none = sym (right_nil done) ∙ ap (λ (r : List X). done ++ r) (sym none) ∙ e

pub nothing_more : {X : Type 0} (done more : List X) → more ≡ [] → done ≡ done ++ more
nothing_more {X} done more none = sym (right_nil done) ∙ ap (λ (r : List X). done ++ r) (sym none)

pub nothing_planned : (errand : Errand) (to : Place) (many : Bool) (source dest : List Entry) → names_of errand.from many source ≡ [] → names_of to many dest ≡ [] → planned errand to many source dest ≡ []
unfolding planned merged chosen in_order
nothing_planned errand to many source dest ours theirs =
    ap (λ (s : List (List ℕ × Entry)). values_of (merged (transfer_of errand to many) (removal_of errand to) s (names_of to many dest))) ours
    ∙ ap (λ (d : List (List ℕ × Entry)). values_of (merged (transfer_of errand to many) (removal_of errand to) [] d)) theirs

pub nothing_skipped : (errand : Errand) (to : Place) (many : Bool) (source : List Entry) → names_of errand.from many source ≡ [] → skipped errand to many source ≡ []
unfolding skipped
nothing_skipped errand to many source ours = ap (filter_map (warning_of errand to many)) ours

-- ---- removals

removals_more : (errand : Errand) (entry : Entry) (entries : List Entry) → planned_removals errand (entry ∷ entries) ≡ planned_removals errand (entry ∷ []) ++ planned_removals errand entries
unfolding planned_removals
removals_more errand entry entries =
    elim (is_kept_by errand (relative errand.from errand.many entry)) as (λ (b : Bool).
    map (removed errand) (cond b (named errand.from errand.many entry ∷ filter (λ name. is_kept_by errand name.0) (map (named errand.from errand.many) entries)) (filter (λ name. is_kept_by errand name.0) (map (named errand.from errand.many) entries)))
    ≡ map (removed errand) (cond b (named errand.from errand.many entry ∷ []) []) ++ map (removed errand) (filter (λ name. is_kept_by errand name.0) (map (named errand.from errand.many) entries))) [ true ↦ refl | false ↦ refl ]

pub one_kept : (errand : Errand) (entry : Entry) → is_kept_by errand (relative errand.from errand.many entry) ≡ true → planned_removals errand (entry ∷ []) ≡ removed errand (named errand.from errand.many entry) ∷ []
unfolding planned_removals
one_kept errand entry kept = ap (λ (b : Bool). map (removed errand) (cond b (named errand.from errand.many entry ∷ []) [])) kept

pub one_left_out : (errand : Errand) (entry : Entry) → is_kept_by errand (relative errand.from errand.many entry) ≡ false → planned_removals errand (entry ∷ []) ≡ []
unfolding planned_removals
one_left_out errand entry out = ap (λ (b : Bool). map (removed errand) (cond b (named errand.from errand.many entry ∷ []) [])) out

dropped : (entries : List Entry) (i : ℕ) (entry : Entry) → i < length entries → entry ≡ get_or entries i entry → drop i entries ≡ entry ∷ drop (i + 1) entries
dropped entries i entry inside is = rw (add-one, drop-cons entries i entry) (ap (λ (e : Entry). e ∷ drop (suc i) entries) (sym is))

pub removals_step : (errand : Errand) (entries : List Entry) (i : ℕ) (entry : Entry) (done now whole : List Task) → i < length entries → entry ≡ get_or entries i entry
    → now ≡ done ++ planned_removals errand (entry ∷ []) → done ++ planned_removals errand (drop i entries) ≡ whole → now ++ planned_removals errand (drop (i + 1) entries) ≡ whole
removals_step errand entries i entry done now whole inside is added left =
    ap (λ (t : List Task). t ++ planned_removals errand (drop (i + 1) entries)) added
    ∙ append_assoc done (planned_removals errand (entry ∷ [])) (planned_removals errand (drop (i + 1) entries))
    ∙ ap (λ (t : List Task). done ++ t) (sym (removals_more errand entry (drop (i + 1) entries)) ∙ ap (planned_removals errand) (sym (dropped entries i entry inside is)))
    ∙ left

no_removals : (errand : Errand) → planned_removals errand [] ≡ []
unfolding planned_removals
no_removals errand = refl

pub removals_end : (errand : Errand) (entries : List Entry) (i : ℕ) (done whole : List Task) → length entries ≤ i → done ++ planned_removals errand (drop i entries) ≡ whole → done ≡ whole
removals_end errand entries i done whole past left =
    all_done done (planned_removals errand (drop i entries)) whole left
    (ap (planned_removals errand) (nil_from_length (drop i entries) (omega (arith, length-drop i entries))) ∙ no_removals errand)
