-- Pages behind a text.
use Rattle.std.proofs.Common.{◌≡◌, ◌⊎◌, ◌++◌, ◌∷◌, [], ℕ, List, Option, Some, None, refl, sym, subst, inl, inr, ap}
use Rattle.std.specs.List.{All}
use Rattle.std.specs.Cmp.Lexicographic.{nat_list_cmp_total}
use Rattle.std.proofs.lemmas.List.Elements.{All-push}
use Rattle.object_table.specs.Pages.{ComesAfter, IsBehind}
use Rattle.s3_model.specs.declared.answers.Listed.{Listed}
use Rattle.s3_model.specs.declared.places.Entry.{Entry}
use Rattle.s3_service.specs.Listing.{GoesOnAfter}
use Rattle.s3_service.specs.ServiceState.{State}

-- a place is at a text, or after it
abbrev pub Reaches : Option (List ℕ) → Option (List ℕ) → Type 0
Reaches first None = first ≡ None
Reaches first (Some text) = (first ≡ Some text) ⊎ ComesAfter first text

pub comes_later : (first place : Option (List ℕ)) (name : List ℕ) → Reaches first place → ComesAfter place name → ComesAfter first name
comes_later first None name reaches after = subst (λ (o : Option (List ℕ)). ComesAfter o name) (sym reaches) tt
comes_later None (Some text) name reaches after = tt
comes_later (Some start) (Some text) name (inl same) after = subst (λ (o : Option (List ℕ)). ComesAfter o name) (sym same) after
comes_later (Some start) (Some text) name (inr before) after = nat_list_cmp_total.trans start text name before after

pub behind_key : (last : Option (List ℕ)) (old new : Listed) (entry : Entry) → IsBehind last old → ComesAfter last entry.key → new.entries.items ≡ old.entries.items ++ entry ∷ [] → new.prefixes ≡ old.prefixes → IsBehind last new
behind_key last old new entry behind after keys prefixes =
    record {
      keys = subst (λ (es : List Entry). All (λ (e : Entry). ComesAfter last e.key) es) (sym keys) (All-push (λ (e : Entry). ComesAfter last e.key) old.entries.items entry behind.keys after);
      prefixes = subst (λ (ts : List (List ℕ)). All (ComesAfter last) ts) (sym (ap (λ t. t.items) prefixes)) behind.prefixes;
    }

pub behind_prefix : (last : Option (List ℕ)) (old new : Listed) (text : List ℕ) → IsBehind last old → ComesAfter last text → new.entries ≡ old.entries → new.prefixes.items ≡ old.prefixes.items ++ text ∷ [] → IsBehind last new
behind_prefix last old new text behind after keys prefixes =
    record {
      keys = subst (λ (es : List Entry). All (λ (e : Entry). ComesAfter last e.key) es) (sym (ap (λ t. t.items) keys)) behind.keys;
      prefixes = subst (λ (ts : List (List ℕ)). All (ComesAfter last) ts) (sym prefixes) (All-push (ComesAfter last) old.prefixes.items text behind.prefixes after);
    }

pub reaches_itself : (place : Option (List ℕ)) → Reaches place place
reaches_itself None = refl
reaches_itself (Some text) = inl refl

-- a name after the place was added, and the place is at it
pub page_grown : (first place : Option (List ℕ)) (old new : Listed) (name text : List ℕ) → text ≡ name → IsBehind first old → Reaches first place → ComesAfter place name
    → ((last : Option (List ℕ)) → IsBehind last old → ComesAfter last name → IsBehind last new) → IsBehind first new × Reaches first (Some text)
page_grown first place old new name text is behind reaches after grown =
    let later : ComesAfter first name = comes_later first place name reaches after in
    (grown first behind later, inr (subst (λ (t : List ℕ). ComesAfter first t) (sym is) later))

-- the page goes on behind the place of its token
pub goes_behind : (t : State) (token place after : Option (List ℕ)) (page marked : Listed) → GoesOnAfter t token place → after ≡ place → IsBehind after page → ((at : Option (List ℕ)) → IsBehind at page → IsBehind at marked)
    → (last : Option (List ℕ)) × GoesOnAfter t token last × IsBehind last marked
goes_behind t token place after page marked goes is behind same =
    (place, goes, same place (subst (λ (o : Option (List ℕ)). IsBehind o page) is behind))
