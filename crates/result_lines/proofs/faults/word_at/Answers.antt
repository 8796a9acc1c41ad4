use Rattle.std.proofs.Common.{◌≡◌, ◌∙◌, ◌≤◌, ℕ, zero, suc, List, [], ◌∷◌, Option, Some, None, ap, arith, length, option_map, refl, slice_get, string_bytes, sym, unwrap_or}
use Rattle.std.proofs.lemmas.Option.{slice_get-get_or, slice_get-map}
use Rattle.result_lines.proofs.faults.word_at.Goals as goal

past : {A : Type 0} (xs : List A) (k : ℕ) → length xs ≤ k → slice_get xs k ≡ None
past [] k behind = refl
past (x ∷ xs) zero behind = absurd (omega arith)
past (x ∷ xs) (suc k) behind = past xs k (omega arith)

pub returns-in-Some : goal.returns-in-Some
returns-in-Some c =
    let looked = c.in-Some.ensures.lookup in
    let found : slice_get c.args.words.now c.args.place ≡ Some c.in-Some.word.now = slice_get-get_or c.args.words.now c.args.place c.in-Some.word.now looked.3.0 ∙ ap Some (sym looked.1) in
    c.as_str.ensures.value ∙ sym (ap (λ (o : Option (List ℕ)). unwrap_or o []) (slice_get-map string_bytes c.args.words.now c.args.place ∙ ap (option_map string_bytes) found))

pub returns-in-None : goal.returns-in-None
returns-in-None c =
    let none = past c.args.words.now c.args.place c.in-None.ensures.lookup.3 in
    sym (ap (λ (o : Option (List ℕ)). unwrap_or o []) (slice_get-map string_bytes c.args.words.now c.args.place ∙ ap (option_map string_bytes) none))
