use Rattle.std.proofs.Common.{◌≡◌, ◌∙◌, ◌↔◌, ◌⊎◌, ◌++◌, ◌∷◌, [], ℕ, List, IsSome, refl, sym, ap, subst, map, filter, string_bytes}
use Rattle.std.specs.FinMap.{get, keys}
use Rattle.std.proofs.lemmas.Iterator.Consumers.{YieldsList-at, YieldsList-end, YieldsList-from_rest}
use Rattle.s3_model.specs.Files.{is_below}
use Rattle.file_table.specs.Names.{IsNamedIn}
use Rattle.file_table.proofs.Between.{ends_forward, keys_between}
use Rattle.file_table.proofs.NameLemmas.{named_below}
use Rattle.file_table.proofs.ShownLemmas.{Shown, entry_texts, entry_texts_grown, shown_all, shown_grown, shown_none, text_in}
use Rattle.file_table.proofs.keys_below.add_names.Goals as goal

pub range-key-items-requires : goal.range-key-items-requires
range-key-items-requires g c = ends_forward c.args.folder.now c.in_ok-ends.ends.first c.in_ok-ends.ends.last c.in_ok-ends.ensures

pub loop-key-init : goal.loop-key-init
loop-key-init g c = λ name. shown_none (λ (key : List ℕ). IsNamedIn c.args.folder.now name key) name c.args.found.now

pub loop-key-preserved : goal.loop-key-preserved
loop-key-preserved g c = λ name.
    shown_grown (λ (key : List ℕ). IsNamedIn c.args.folder.now name key) name c.args.found.now c.loop-key.found c.add_name.new.found (map text_in c.loop-key.yielded) _ c.as_str.result.now
    (entry_texts_grown c.loop-key.yielded (c.in-Some.key, c.in-Some.field-0-1) ∙ ap (λ (text : List ℕ). map text_in c.loop-key.yielded ++ text ∷ []) (sym c.as_str.ensures.value))
    (c.loop-key.invariant name) (c.in_ok-add_name.ensures.added name)

pub returns : goal.returns
returns g c =
    let seen = YieldsList-end (YieldsList-at c.into_iter-key-iterator.ensures.into_iter_gives (YieldsList-from_rest _ (c.range-key-items.ensures.between tt)))
    c.loop-key.yielded _ c.loop-key.yielded_by _ _ c.in-None.is c.next.ensures.steps in
    let all : map text_in c.loop-key.yielded ≡ filter (is_below c.args.folder.now) (keys c.args.map.now) =
    entry_texts c.loop-key.yielded ∙ ap (map (λ e. string_bytes e.0)) seen.0
    ∙ keys_between c.args.folder.now c.in_ok-ends.ends.first c.in_ok-ends.ends.last c.in_ok-ends.ensures c.tree.result.now _ c.range-key-items.ensures.ordered refl
    ∙ ap (λ m. filter (is_below c.args.folder.now) (keys m)) c.tree.ensures in
    record {
      added = λ name. shown_all (λ (key : List ℕ). IsNamedIn c.args.folder.now name key) name c.args.map.now (is_below c.args.folder.now) (λ key shows. named_below c.args.folder.now name key shows) c.args.found.now c.loop-key.found
          (subst (λ (ks : List (List ℕ)). IsSome (get c.loop-key.found name) ↔ (IsSome (get c.args.found.now name) ⊎ Shown (λ (key : List ℕ). IsNamedIn c.args.folder.now name key) ks)) all (c.loop-key.invariant name));
    }
