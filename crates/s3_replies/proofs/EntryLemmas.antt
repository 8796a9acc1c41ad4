-- Entries are the same where their parts are.
use Rattle.std.proofs.Common.{◌≡◌, ◌∙◌, ℕ, List, sym, refl, ap}
use Rattle.s3_model.specs.declared.places.Entry.{Entry}

entry_of : List ℕ → ℕ → List ℕ → ℕ → Entry
entry_of key size etag micros = record { key = key; size = size; etag = etag; micros = micros }

entry_is : (e : Entry) → entry_of e.key e.size e.etag e.micros ≡ e
unfolding entry_of
entry_is e = refl

pub entries_same : (e f : Entry) → f.key ≡ e.key → f.size ≡ e.size → f.etag ≡ e.etag → f.micros ≡ e.micros → f ≡ e
entries_same e f key size etag micros =
    sym (entry_is f) ∙ ap (λ k. entry_of k f.size f.etag f.micros) key ∙ ap (λ n. entry_of e.key n f.etag f.micros) size
    ∙ ap (λ t. entry_of e.key e.size t f.micros) etag
    ∙ ap (λ m. entry_of e.key e.size e.etag m) micros ∙ entry_is e
