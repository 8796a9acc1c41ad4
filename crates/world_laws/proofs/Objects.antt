-- What stands at a key after a change at that key or at another.
use Rattle.std.proofs.Common.{◌≡◌, ◌∙◌, ◌⊎◌, ℕ, List, Some, None, sym, ap, inl, inr, unwrap_or}
use Rattle.std.specs.Cmp.Lexicographic.{nat_list_cmp_total}
use Rattle.std.specs.FinMap.{get, insert, remove, empty}
use Rattle.s3_model.specs.Maps.{MapOf}
use Rattle.s3_service.specs.ServiceState.{Object, State, objects_in, object_at, with_object, without_object}
use Rattle.shared_lemmas.proofs.Maps.{get-insert_other, get-insert_same, get-remove_other, get-remove_same, text_decided, text_exact}

-- a place is this one or another
pub place_decided : (b k bucket key : List ℕ) → ((b ≡ bucket) × (k ≡ key)) ⊎ ((b ≡ bucket) × (k ≡ key) → ⊥)
place_decided b k bucket key = elim (text_decided b bucket) [
  | inl one ↦ elim (text_decided k key) [ inl other ↦ inl (one, other) | inr apart ↦ inr (λ same. apart same.1) ]
  | inr apart ↦ inr (λ same. apart same.0)
]

-- a bucket's objects after they were given anew
pub objects_in_same : (t : State) (bucket : List ℕ) (inner : MapOf Object) → objects_in (record t { objects = insert t.objects bucket inner }) bucket ≡ inner
objects_in_same t bucket inner = ap (λ found. unwrap_or found empty) (get-insert_same nat_list_cmp_total text_exact t.objects bucket inner)

pub objects_in_other : (t : State) (bucket : List ℕ) (inner : MapOf Object) (b : List ℕ) → (b ≡ bucket → ⊥) → objects_in (record t { objects = insert t.objects bucket inner }) b ≡ objects_in t b
objects_in_other t bucket inner b apart = ap (λ found. unwrap_or found empty) (get-insert_other nat_list_cmp_total text_exact t.objects bucket inner b apart)

pub object_at-with_object : (t : State) (bucket key : List ℕ) (object : Object) → object_at (with_object t bucket key object) bucket key ≡ Some object
object_at-with_object t bucket key object =
    ap (λ (inner : MapOf Object). get inner key) (objects_in_same t bucket (insert (objects_in t bucket) key object)) ∙ get-insert_same nat_list_cmp_total text_exact (objects_in t bucket) key object

pub object_at-without_object : (t : State) (bucket key : List ℕ) → object_at (without_object t bucket key) bucket key ≡ None
object_at-without_object t bucket key =
    ap (λ (inner : MapOf Object). get inner key) (objects_in_same t bucket (remove (objects_in t bucket) key)) ∙ get-remove_same nat_list_cmp_total text_exact (objects_in t bucket) key

-- A bucket's objects are given anew, and they differ at one key alone.
elsewhere : (t : State) (bucket key : List ℕ) (inner : MapOf Object) (b k : List ℕ) → ((q : List ℕ) → (q ≡ key → ⊥) → get inner q ≡ get (objects_in t bucket) q)
    → ((bucket ≡ b) × (key ≡ k) → ⊥) → object_at (record t { objects = insert t.objects bucket inner }) b k ≡ object_at t b k
elsewhere t bucket key inner b k alike apart =
    elim (text_decided b bucket) [
      | inl same ↦ rw same (ap (λ (m : MapOf Object). get m k) (objects_in_same t bucket inner) ∙ alike k (λ at_key. apart (sym same, sym at_key)))
      | inr other ↦ ap (λ (m : MapOf Object). get m k) (objects_in_other t bucket inner b other)
    ]

pub object_at-with_object_other : (t : State) (bucket key : List ℕ) (object : Object) (b k : List ℕ) → ((bucket ≡ b) × (key ≡ k) → ⊥) → object_at (with_object t bucket key object) b k ≡ object_at t b k
object_at-with_object_other t bucket key object b k apart =
    elsewhere t bucket key (insert (objects_in t bucket) key object) b k (λ q other. get-insert_other nat_list_cmp_total text_exact (objects_in t bucket) key object q other) apart

pub object_at-without_object_other : (t : State) (bucket key : List ℕ) (b k : List ℕ) → ((bucket ≡ b) × (key ≡ k) → ⊥) → object_at (without_object t bucket key) b k ≡ object_at t b k
object_at-without_object_other t bucket key b k apart =
    elsewhere t bucket key (remove (objects_in t bucket) key) b k (λ q other. get-remove_other nat_list_cmp_total text_exact (objects_in t bucket) key q other) apart
