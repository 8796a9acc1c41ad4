-- What is merged, turn by turn: the first paths of two lists that ascend come first.
use Rattle.std.proofs.Common.{◌≡◌, ◌∙◌, ◌+◌, ◌≤◌, ℕ, zero, suc, Bool, true, false, cond, List, [], ◌∷◌, ◌++◌, Option, Some, None, refl, sym, ap, subst, length, option_map, arith}
use Rattle.std.specs.Cmp.Lexicographic.{slice_cmp}
use Rattle.std.specs.List.{AllByRecursion, cons_option}
use Rattle.std.specs.Ordering.{is_lt, nat_cmp}
use Rattle.std.specs.Str.{bytes_eq}
use Rattle.std.specs.declared.cmp.Ordering.{Ordering}
use Rattle.std.specs.declared.cmp.Ordering.TheVariants.{Less, Equal, Greater}
use Rattle.std.proofs.lemmas.Cmp.{nat_list_cmp_total}
use Rattle.std.proofs.lemmas.Map.Entries.{lookup_head, lookup_tail}
use Rattle.merged_names.specs.Merging.{AllAbove, Ascend, chosen, found, in_order, merged, placed}
use Rattle.merged_names.specs.Turns.{IsBefore, IsTurn, chosen_at}
use Rattle.merged_names.proofs.Orders.{above_differs, below_differs, equal_is, equal_itself, greater, less}

-- ---- paths

pub all_above : {X : Type 0} (first second : List ℕ) (items : List (List ℕ × X)) → slice_cmp nat_cmp first second ≡ Less → AllAbove second items → AllAbove first items
all_above first second [] less above = tt
all_above first second (item ∷ items) less above = (nat_list_cmp_total.trans first second item.0 less above.0, all_above first second items less above.1)

pub above_all : {X : Type 0} (path : List ℕ) (items : List (List ℕ × X)) → IsBefore path items → Ascend items → AllAbove path items
above_all path [] before ascend = tt
above_all path (item ∷ items) before ascend = (before, all_above path item.0 items before ascend.0)

-- ---- what stands at a path

not_found : {E : Type 0} (path : List ℕ) (names : List (List ℕ × E)) → AllAbove path names → found path names ≡ None
unfolding found
not_found path [] above = refl
not_found path (name ∷ names) above = lookup_tail (bytes_eq path) name names (below_differs path name.0 above.0) ∙ not_found path names above.1

passed_over : {E : Type 0} (path : List ℕ) (name : List ℕ × E) (names : List (List ℕ × E)) → slice_cmp nat_cmp name.0 path ≡ Less → found path (name ∷ names) ≡ found path names
unfolding found
passed_over path name names less = lookup_tail (bytes_eq path) name names (above_differs name.0 path less)

found_first : {E : Type 0} (path : List ℕ) (entry : E) (names : List (List ℕ × E)) → found path ((path, entry) ∷ names) ≡ Some entry
unfolding found
found_first path entry names = lookup_head (bytes_eq path) (path, entry) names (equal_itself path)

-- ---- items

abbrev at_path : {X : Type 0} → List ℕ → Option X → Option (List ℕ × X)
at_path {X} path o = option_map (λ (x : X). (path, x)) o

module _ {X : Type 0} (Holds : List ℕ × X → Type 0) where
  all_cons_option : (o : Option (List ℕ × X)) (items : List (List ℕ × X)) → ((x : List ℕ × X) → o ≡ Some x → Holds x) → AllByRecursion Holds items → AllByRecursion Holds (cons_option o items)
  all_cons_option None items here all = all
  all_cons_option (Some x) items here all = (here x refl, all)

  all_append : (front back : List (List ℕ × X)) → AllByRecursion Holds front → AllByRecursion Holds back → AllByRecursion Holds (front ++ back)
  all_append [] back all later = later
  all_append (item ∷ front) back all later = (all.0, all_append front back all.1 later)

  all_placed : (item : List ℕ × X) (items : List (List ℕ × X)) → Holds item → AllByRecursion Holds items → AllByRecursion Holds (placed item items)
  unfolding placed
  all_placed item [] here all = (here, tt)
  all_placed item (next ∷ items) here all =
      elim (is_lt (slice_cmp nat_cmp item.0 next.0)) as (λ (b : Bool). AllByRecursion Holds (cond b (item ∷ next ∷ items) (next ∷ placed item items))) [
        | true ↦ (here, all)
        | false ↦ (all.0, all_placed item items here all.1)
      ]

  all_in_order : (items : List (List ℕ × X)) → AllByRecursion Holds items → AllByRecursion Holds (in_order items)
  unfolding in_order
  all_in_order [] all = tt
  all_in_order (item ∷ items) all = all_placed item (in_order items) all.0 (all_in_order items all.1)

mapped_is : {X : Type 0} (path : List ℕ) (o : Option X) (item : List ℕ × X) → at_path path o ≡ Some item → (x : X) × (o ≡ Some x) × (item ≡ (path, x))
mapped_is path None item e = absurd cc
mapped_is path (Some x) item e = (x, refl, cc)

module _ {E X : Type 0} where
  -- ---- one side

  chosen_first : (choose : List ℕ × E → Option E → Option X) (name : List ℕ × E) (names others : List (List ℕ × E)) → chosen choose (name ∷ names) others ≡ cons_option (at_path name.0 (choose name (found name.0 others))) (chosen choose names others)
  unfolding chosen
  chosen_first choose name names others = refl

  chosen_passes : (choose : List ℕ × E → Option E → Option X) (name : List ℕ × E) (names others : List (List ℕ × E)) → AllAbove name.0 names → chosen choose names (name ∷ others) ≡ chosen choose names others
  unfolding chosen
  chosen_passes choose name [] others above = refl
  chosen_passes choose name (next ∷ names) others above =
      ap (λ (f : Option E). cons_option (at_path next.0 (choose next f)) (chosen choose names (name ∷ others))) (passed_over next.0 name others above.0)
      ∙ ap (λ (later : List (List ℕ × X)). cons_option (at_path next.0 (choose next (found next.0 others))) later) (chosen_passes choose name names others above.1)

  -- each is chosen for a name of that side
  all_chosen : (Holds : List ℕ × X → Type 0) (choose : List ℕ × E → Option E → Option X) (names others : List (List ℕ × E))
      → AllByRecursion (λ name. (other : Option E) (x : X) → choose name other ≡ Some x → Holds (name.0, x)) names → AllByRecursion Holds (chosen choose names others)
  unfolding chosen
  all_chosen Holds choose [] others all = tt
  all_chosen Holds choose (name ∷ names) others all =
      all_cons_option Holds (at_path name.0 (choose name (found name.0 others))) (chosen choose names others)
      (λ item e. let is = mapped_is name.0 (choose name (found name.0 others)) item e in subst Holds (sym is.2) (all.0 (found name.0 others) is.0 is.1))
      (all_chosen Holds choose names others all.1)

  chosen_above : (path : List ℕ) (choose : List ℕ × E → Option E → Option X) (names others : List (List ℕ × E)) → AllAbove path names → AllAbove path (chosen choose names others)
  chosen_above path choose names others above = all_chosen (λ item. slice_cmp nat_cmp path item.0 ≡ Less) choose names others (each names above)
    where
      each : (names : List (List ℕ × E)) → AllAbove path names → AllByRecursion (λ name. (other : Option E) (x : X) → choose name other ≡ Some x → slice_cmp nat_cmp path name.0 ≡ Less) names
      each [] above = tt
      each (name ∷ names) above = ((λ other x e. above.0), each names above.1)

-- ---- in order

module _ {X : Type 0} where
  placed_first : (item : List ℕ × X) (items : List (List ℕ × X)) → AllAbove item.0 items → placed item items ≡ item ∷ items
  unfolding placed
  placed_first item [] above = refl
  placed_first item (next ∷ items) above = ap (λ (o : Ordering). cond (is_lt o) (item ∷ next ∷ items) (next ∷ placed item items)) above.0

  placed_behind : (item next : List ℕ × X) (items : List (List ℕ × X)) → slice_cmp nat_cmp next.0 item.0 ≡ Less → placed item (next ∷ items) ≡ next ∷ placed item items
  unfolding placed
  placed_behind item next items less = ap (λ (o : Ordering). cond (is_lt o) (item ∷ next ∷ items) (next ∷ placed item items)) (greater next.0 item.0 less)

  in_order_above : (path : List ℕ) (items : List (List ℕ × X)) → AllAbove path items → AllAbove path (in_order items)
  in_order_above path items above = all_in_order (λ item. slice_cmp nat_cmp path item.0 ≡ Less) items above

  in_order_first : (item : List ℕ × X) (items : List (List ℕ × X)) → AllAbove item.0 items → in_order (item ∷ items) ≡ item ∷ in_order items
  unfolding in_order
  in_order_first item items above = placed_first item (in_order items) (in_order_above item.0 items above)

  in_order_middle : (item : List ℕ × X) (front back : List (List ℕ × X)) → AllAbove item.0 front → AllAbove item.0 back → in_order (front ++ item ∷ back) ≡ item ∷ in_order (front ++ back)
  unfolding in_order
  in_order_middle item [] back above later = in_order_first item back later
  in_order_middle item (first ∷ front) back above later =
      ap (placed first) (in_order_middle item front back above.1 later) ∙ placed_behind first item (in_order (front ++ back)) above.0

  front_first : (path : List ℕ) (o : Option X) (front back : List (List ℕ × X)) → AllAbove path front → AllAbove path back → in_order (cons_option (at_path path o) front ++ back) ≡ cons_option (at_path path o) (in_order (front ++ back))
  front_first path None front back above later = refl
  front_first path (Some x) front back above later = in_order_first (path, x) (front ++ back) (all_append (λ item. slice_cmp nat_cmp path item.0 ≡ Less) front back above later)

  back_first : (path : List ℕ) (o : Option X) (front back : List (List ℕ × X)) → AllAbove path front → AllAbove path back → in_order (front ++ cons_option (at_path path o) back) ≡ cons_option (at_path path o) (in_order (front ++ back))
  back_first path None front back above later = refl
  back_first path (Some x) front back above later = in_order_middle (path, x) front back above later

  ascend_more : (path : List ℕ) (o : Option X) (items : List (List ℕ × X)) → AllAbove path items → Ascend items → Ascend (cons_option (at_path path o) items)
  ascend_more path None items above ascend = ascend
  ascend_more path (Some x) items above ascend = (above, ascend)

-- ---- both sides

module _ {E X : Type 0} (here there : List ℕ × E → Option E → Option X) where
  -- what holds of each item that may be chosen
  pub all_merged : (Holds : List ℕ × X → Type 0) (source dest : List (List ℕ × E))
      → AllByRecursion (λ name. (other : Option E) (x : X) → here name other ≡ Some x → Holds (name.0, x)) source
      → AllByRecursion (λ name. (other : Option E) (x : X) → there name other ≡ Some x → Holds (name.0, x)) dest
      → AllByRecursion Holds (merged here there source dest)
  unfolding merged
  all_merged Holds source dest ours theirs =
      all_in_order Holds (chosen here source dest ++ chosen there dest source)
      (all_append Holds (chosen here source dest) (chosen there dest source) (all_chosen Holds here source dest ours) (all_chosen Holds there dest source theirs))

  merged_above : (path : List ℕ) (source dest : List (List ℕ × E)) → AllAbove path source → AllAbove path dest → AllAbove path (merged here there source dest)
  unfolding merged
  merged_above path source dest above later =
      in_order_above path (chosen here source dest ++ chosen there dest source)
      (all_append (λ item. slice_cmp nat_cmp path item.0 ≡ Less) (chosen here source dest) (chosen there dest source) (chosen_above path here source dest above) (chosen_above path there dest source later))

  ours_first : (path : List ℕ) (entry : E) (source dest : List (List ℕ × E)) → AllAbove path source → AllAbove path dest
      → merged here there ((path, entry) ∷ source) dest ≡ cons_option (at_path path (here (path, entry) None)) (merged here there source dest)
  unfolding merged chosen
  ours_first path entry source dest above later =
      ap (λ (f : Option E). in_order (cons_option (at_path path (here (path, entry) f)) (chosen here source dest) ++ chosen there dest ((path, entry) ∷ source))) (not_found path dest later)
      ∙ ap (λ (c : List (List ℕ × X)). in_order (cons_option (at_path path (here (path, entry) None)) (chosen here source dest) ++ c)) (chosen_passes there (path, entry) dest source later)
      ∙ front_first path (here (path, entry) None) (chosen here source dest) (chosen there dest source) (chosen_above path here source dest above) (chosen_above path there dest source later)

  theirs_first : (path : List ℕ) (entry : E) (source dest : List (List ℕ × E)) → AllAbove path source → AllAbove path dest
      → merged here there source ((path, entry) ∷ dest) ≡ cons_option (at_path path (there (path, entry) None)) (merged here there source dest)
  unfolding merged chosen
  theirs_first path entry source dest above later =
      ap (λ (f : Option E). in_order (chosen here source ((path, entry) ∷ dest) ++ cons_option (at_path path (there (path, entry) f)) (chosen there dest source))) (not_found path source above)
      ∙ ap (λ (c : List (List ℕ × X)). in_order (c ++ cons_option (at_path path (there (path, entry) None)) (chosen there dest source))) (chosen_passes here (path, entry) source dest above)
      ∙ back_first path (there (path, entry) None) (chosen here source dest) (chosen there dest source) (chosen_above path here source dest above) (chosen_above path there dest source later)

  -- nothing is chosen for a name of the destination that the source has
  abbrev IsQuiet : Type 0
  IsQuiet = (name : List ℕ × E) (other : E) → there name (Some other) ≡ None

  both_first : IsQuiet → (path : List ℕ) (entry other : E) (source dest : List (List ℕ × E)) → AllAbove path source → AllAbove path dest
      → merged here there ((path, entry) ∷ source) ((path, other) ∷ dest) ≡ cons_option (at_path path (here (path, entry) (Some other))) (merged here there source dest)
  unfolding merged chosen
  both_first quiet path entry other source dest above later =
      ap (λ (f : Option E). in_order (cons_option (at_path path (here (path, entry) f)) (chosen here source ((path, other) ∷ dest)) ++ chosen there ((path, other) ∷ dest) ((path, entry) ∷ source))) (found_first path other dest)
      ∙ ap (λ (c : List (List ℕ × X)). in_order (cons_option (at_path path (here (path, entry) (Some other))) c ++ chosen there ((path, other) ∷ dest) ((path, entry) ∷ source))) (chosen_passes here (path, other) source dest above)
      ∙ ap (λ (o : Option X). in_order (cons_option (at_path path (here (path, entry) (Some other))) (chosen here source dest) ++ cons_option (at_path path o) (chosen there dest ((path, entry) ∷ source)))) (ap (there (path, other)) (found_first path entry source) ∙ quiet (path, other) entry)
      ∙ ap (λ (c : List (List ℕ × X)). in_order (cons_option (at_path path (here (path, entry) (Some other))) (chosen here source dest) ++ c)) (chosen_passes there (path, entry) dest source later)
      ∙ front_first path (here (path, entry) (Some other)) (chosen here source dest) (chosen there dest source) (chosen_above path here source dest above) (chosen_above path there dest source later)

  -- a turn takes the first of what is merged
  pub merged_turn : IsQuiet → (path : List ℕ) (ours theirs : Option E) (source dest source' dest' : List (List ℕ × E)) → Ascend source → Ascend dest
      → IsTurn path ours theirs source dest source' dest'
      → merged here there source dest ≡ cons_option (at_path path (chosen_at here there path ours theirs)) (merged here there source' dest')
  merged_turn quiet path None None source dest source' dest' ascend later turn =
      ap (λ (s : List (List ℕ × E)). merged here there s dest) turn.0 ∙ ap (λ (d : List (List ℕ × E)). merged here there source' d) turn.1
  merged_turn quiet path (Some entry) None source dest source' dest' ascend later turn =
      let ours : Ascend ((path, entry) ∷ source') = subst Ascend turn.0 ascend in
      ap (λ (s : List (List ℕ × E)). merged here there s dest) turn.0
      ∙ ours_first path entry source' dest ours.0 (above_all path dest turn.2 later)
      ∙ ap (λ (d : List (List ℕ × E)). cons_option (at_path path (here (path, entry) None)) (merged here there source' d)) turn.1
  merged_turn quiet path None (Some entry) source dest source' dest' ascend later turn =
      let theirs : Ascend ((path, entry) ∷ dest') = subst Ascend turn.1 later in
      ap (λ (d : List (List ℕ × E)). merged here there source d) turn.1
      ∙ theirs_first path entry source dest' (above_all path source turn.2 ascend) theirs.0
      ∙ ap (λ (s : List (List ℕ × E)). cons_option (at_path path (there (path, entry) None)) (merged here there s dest')) turn.0
  merged_turn quiet path (Some entry) (Some other) source dest source' dest' ascend later turn =
      let ours : Ascend ((path, entry) ∷ source') = subst Ascend turn.0 ascend in
      let theirs : Ascend ((path, other) ∷ dest') = subst Ascend turn.1 later in
      ap (λ (s : List (List ℕ × E)). merged here there s dest) turn.0
      ∙ ap (λ (d : List (List ℕ × E)). merged here there ((path, entry) ∷ source') d) turn.1
      ∙ both_first quiet path entry other source' dest' ours.0 theirs.0

  nothing_ascends : Ascend (merged here there [] [])
  unfolding merged chosen in_order
  nothing_ascends = tt

  -- what is merged ascends
  pub merged_ascends : IsQuiet → (n : ℕ) (source dest : List (List ℕ × E)) → length source + length dest ≤ n → Ascend source → Ascend dest → Ascend (merged here there source dest)
  merged_ascends quiet n [] [] le ascend later = nothing_ascends
  merged_ascends quiet zero (name ∷ source) dest le ascend later = absurd (omega arith)
  merged_ascends quiet zero [] (name ∷ dest) le ascend later = absurd (omega arith)
  merged_ascends quiet (suc n) (name ∷ source) [] le ascend later =
      subst Ascend (sym (ours_first name.0 name.1 source [] ascend.0 tt))
      (ascend_more name.0 (here name None) (merged here there source []) (merged_above name.0 source [] ascend.0 tt) (merged_ascends quiet n source [] (omega arith) ascend.1 tt))
  merged_ascends quiet (suc n) [] (name ∷ dest) le ascend later =
      subst Ascend (sym (theirs_first name.0 name.1 [] dest tt later.0))
      (ascend_more name.0 (there name None) (merged here there [] dest) (merged_above name.0 [] dest tt later.0) (merged_ascends quiet n [] dest (omega arith) tt later.1))
  merged_ascends quiet (suc n) (name ∷ source) (other ∷ dest) le ascend later =
      elim (slice_cmp nat_cmp name.0 other.0) as (λ (o : Ordering). slice_cmp nat_cmp name.0 other.0 ≡ o → Ascend (merged here there (name ∷ source) (other ∷ dest))) [
        | Less ↦ λ below.
            let above : AllAbove name.0 (other ∷ dest) = (below, all_above name.0 other.0 dest below later.0) in
            subst Ascend (sym (ours_first name.0 name.1 source (other ∷ dest) ascend.0 above))
            (ascend_more name.0 (here name None) (merged here there source (other ∷ dest)) (merged_above name.0 source (other ∷ dest) ascend.0 above) (merged_ascends quiet n source (other ∷ dest) (omega arith) ascend.1 later))
        | Equal ↦ λ tied.
            let same : name.0 ≡ other.0 = equal_is name.0 other.0 tied in
            let above : AllAbove name.0 dest = subst (λ (p : List ℕ). AllAbove p dest) (sym same) later.0 in
            subst Ascend (sym (ap (λ (p : List ℕ). merged here there (name ∷ source) ((p, other.1) ∷ dest)) (sym same) ∙ both_first quiet name.0 name.1 other.1 source dest ascend.0 above))
            (ascend_more name.0 (here name (Some other.1)) (merged here there source dest) (merged_above name.0 source dest ascend.0 above) (merged_ascends quiet n source dest (omega arith) ascend.1 later.1))
        | Greater ↦ λ more.
            let below : slice_cmp nat_cmp other.0 name.0 ≡ Less = less name.0 other.0 more in
            let above : AllAbove other.0 (name ∷ source) = (below, all_above other.0 name.0 source below ascend.0) in
            subst Ascend (sym (theirs_first other.0 other.1 (name ∷ source) dest above later.0))
            (ascend_more other.0 (there other None) (merged here there (name ∷ source) dest) (merged_above other.0 (name ∷ source) dest above later.0) (merged_ascends quiet n (name ∷ source) dest (omega arith) ascend later.1))
      ] refl
