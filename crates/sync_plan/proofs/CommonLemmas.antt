-- Keys that are read and written, among the tasks that are left.
use Rattle.std.proofs.Common.{◌≡◌, ◌∙◌, ℕ, List, [], ◌∷◌, Option, Some, None, IsTrue, refl, sym, ap, subst, inl, inr, length, arith}
use Rattle.std.specs.Cmp.Lexicographic.{slice_cmp}
use Rattle.std.specs.List.{AllByRecursion, cons_option}
use Rattle.std.specs.List.Sorted.{IsStrictlySortedBy}
use Rattle.std.specs.Ordering.{is_le, nat_cmp}
use Rattle.std.specs.declared.cmp.Ordering.{Ordering}
use Rattle.std.specs.declared.cmp.Ordering.TheVariants.{Less, Equal, Greater}
use Rattle.std.proofs.lemmas.Cmp.{nat_list_cmp_total, tied_itself}
use Rattle.s3_model.specs.declared.tasks.Task.{Task}
use Rattle.shared_lemmas.proofs.Members.{Has, contains_of, has}
use Rattle.s3_model.specs.Entries.{IsAscending}
use Rattle.merged_names.proofs.Orders.{equal_is, less}
use Rattle.sync_plan.specs.Fit.{IsCommon, IsLeastCommon, key_order, object_key, read_keys, written_keys}
use Rattle.shared_lemmas.proofs.Maps.{not_before_itself}

at_member : {X : Type 0} (Holds : X → Type 0) (xs : List X) (x : X) → AllByRecursion Holds xs → Has xs x → Holds x
at_member Holds [] x all h = absurd h
at_member Holds (y ∷ ys) x all (inl e) = subst Holds e all.0
at_member Holds (y ∷ ys) x all (inr h) = at_member Holds ys x all.1 h

-- a key below the first of some keys in order is none of them
not_above : (key first : List ℕ) (keys : List (List ℕ)) → slice_cmp nat_cmp key first ≡ Less → IsAscending (first ∷ keys) → Has (first ∷ keys) key → ⊥
unfolding IsStrictlySortedBy
not_above key first keys below ascend (inl e) = not_before_itself key (subst (λ (k : List ℕ). slice_cmp nat_cmp key k ≡ Less) e below)
not_above key first keys below ascend (inr h) =
    not_before_itself key (nat_list_cmp_total.trans key first key below (at_member (λ k. slice_cmp nat_cmp first k ≡ Less) keys key ascend.0 h))

-- of two lists in order the lesser first key is not common
passed : (first : List ℕ) (keys : List (List ℕ)) (other : List ℕ) (others : List (List ℕ)) → slice_cmp nat_cmp first other ≡ Less → IsAscending (other ∷ others)
    → (key : List ℕ) → Has (first ∷ keys) key → Has (other ∷ others) key → Has keys key
passed first keys other others below ascend key (inl e) there = absurd (not_above key other others (subst (λ (k : List ℕ). slice_cmp nat_cmp k other ≡ Less) e below) ascend there)
passed first keys other others below ascend key (inr h) there = h

rest_ascends : (key : List ℕ) (keys : List (List ℕ)) → IsAscending (key ∷ keys) → IsAscending keys
unfolding IsStrictlySortedBy
rest_ascends key keys ascend = ascend.1

-- the readers and writers that are left have each common key
pub record AreLeft (tasks readers writers : List Task) : Type 0 where
  pub both : (key : List ℕ) → IsCommon tasks key → Has (read_keys readers) key × Has (written_keys writers) key
  pub reads : (key : List ℕ) → Has (read_keys readers) key → Has (read_keys tasks) key
  pub writes : (key : List ℕ) → Has (written_keys writers) key → Has (written_keys tasks) key
  pub read_ascend : IsAscending (read_keys readers)
  pub written_ascend : IsAscending (written_keys writers)

pub all_left : (tasks : List Task) → IsAscending (read_keys tasks) → IsAscending (written_keys tasks) → AreLeft tasks tasks tasks
all_left tasks read written = record {
  both = λ key common. (has _ _ common.0, has _ _ common.1);
  reads = λ key h. h;
  writes = λ key h. h;
  read_ascend = read;
  written_ascend = written;
}

abbrev more : Option (List ℕ) → List (List ℕ) → List (List ℕ)
more o keys = cons_option o keys

-- what is left, by the keys alone
record KeysLeft (tasks : List Task) (reads writes : List (List ℕ)) : Type 0 where
  pub both : (key : List ℕ) → IsCommon tasks key → Has reads key × Has writes key
  pub is_read : (key : List ℕ) → Has reads key → Has (read_keys tasks) key
  pub is_written : (key : List ℕ) → Has writes key → Has (written_keys tasks) key
  pub read_ascend : IsAscending reads
  pub written_ascend : IsAscending writes

keys_of_left : (tasks readers writers : List Task) → AreLeft tasks readers writers → KeysLeft tasks (read_keys readers) (written_keys writers)
keys_of_left tasks readers writers left = record { both = left.both; is_read = left.reads; is_written = left.writes; read_ascend = left.read_ascend; written_ascend = left.written_ascend }

left_of_keys : (tasks readers writers : List Task) → KeysLeft tasks (read_keys readers) (written_keys writers) → AreLeft tasks readers writers
left_of_keys tasks readers writers left = record { both = left.both; reads = left.is_read; writes = left.is_written; read_ascend = left.read_ascend; written_ascend = left.written_ascend }

pass_read : (tasks : List Task) (read written : Option (List ℕ)) (reads writes : List (List ℕ)) → key_order read written ≡ Less → KeysLeft tasks (more read reads) (more written writes) → KeysLeft tasks reads (more written writes)
pass_read tasks None written reads writes less left = left
pass_read tasks (Some read) None reads writes less left = absurd cc
pass_read tasks (Some read) (Some written) reads writes less left = record {
  both = λ key common. let h = left.both key common in (passed read reads written writes less left.written_ascend key h.0 h.1, h.1);
  is_read = λ key h. left.is_read key (inr h);
  is_written = left.is_written;
  read_ascend = rest_ascends read reads left.read_ascend;
  written_ascend = left.written_ascend;
}

pass_written : (tasks : List Task) (read written : Option (List ℕ)) (reads writes : List (List ℕ)) → key_order read written ≡ Greater → KeysLeft tasks (more read reads) (more written writes) → KeysLeft tasks (more read reads) writes
pass_written tasks None written reads writes more left = absurd cc
pass_written tasks (Some read) None reads writes more left = left
pass_written tasks (Some read) (Some written) reads writes more left = record {
  both = λ key common. let h = left.both key common in (h.0, passed written writes read reads (less read written more) left.read_ascend key h.1 h.0);
  is_read = left.is_read;
  is_written = λ key h. left.is_written key (inr h);
  read_ascend = left.read_ascend;
  written_ascend = rest_ascends written writes left.written_ascend;
}

at_least : (first : List ℕ) (keys : List (List ℕ)) (key : List ℕ) → IsAscending (first ∷ keys) → Has (first ∷ keys) key → IsTrue (is_le (slice_cmp nat_cmp first key))
unfolding IsStrictlySortedBy
at_least first keys key ascend (inl e) = ap is_le (subst (λ (k : List ℕ). slice_cmp nat_cmp first k ≡ Equal) e (tied_itself nat_list_cmp_total first))
at_least first keys key ascend (inr h) = ap is_le (at_member (λ k. slice_cmp nat_cmp first k ≡ Less) keys key ascend.0 h)

found_common : (tasks : List Task) (read written : Option (List ℕ)) (reads writes : List (List ℕ)) → key_order read written ≡ Equal → KeysLeft tasks (more read reads) (more written writes)
    → (key : List ℕ) × (read ≡ Some key) × IsLeastCommon tasks key
found_common tasks None written reads writes tied left = absurd cc
found_common tasks (Some read) None reads writes tied left = absurd cc
found_common tasks (Some read) (Some written) reads writes tied left =
    let same : read ≡ written = equal_is read written tied in (
      read,
      refl,
      (
        (contains_of _ _ (left.is_read read (inl refl)), contains_of _ _ (left.is_written read (inl (sym same)))),
        λ other common. at_least read reads other left.read_ascend (left.both other common).0,
      ),
    )

-- ---- the same by the tasks

order_is : (read written r w : Option (List ℕ)) (o : Ordering) → r ≡ read → w ≡ written → o ≡ key_order r w → key_order read written ≡ o
order_is read written r w o is_read is_written is = sym (is ∙ ap (λ (x : Option (List ℕ)). key_order x w) is_read ∙ ap (key_order read) is_written)

-- with what the code finds of the first reader and of the first writer
module _ (tasks readers writers : List Task) (reader : Task) (later : List Task) (writer : Task) (rest : List Task) (r w : Option (List ℕ))
    (first_reader : readers ≡ reader ∷ later) (first_writer : writers ≡ writer ∷ rest) (left : AreLeft tasks readers writers)
    (is_read : r ≡ object_key reader.source) (is_written : w ≡ object_key (Some writer.dest)) where
  keys_here : KeysLeft tasks (read_keys (reader ∷ later)) (written_keys (writer ∷ rest))
  keys_here =
      keys_of_left tasks (reader ∷ later) (writer ∷ rest)
      (subst (λ (ws : List Task). AreLeft tasks (reader ∷ later) ws) first_writer (subst (λ (rs : List Task). AreLeft tasks rs writers) first_reader left))

  pub reader_passed : Less ≡ key_order r w → AreLeft tasks later writers
  reader_passed less =
      subst (λ (ws : List Task). AreLeft tasks later ws) (sym first_writer)
      (left_of_keys tasks later (writer ∷ rest)
      (pass_read tasks (object_key reader.source) (object_key (Some writer.dest)) (read_keys later) (written_keys rest) (order_is _ _ r w Less is_read is_written less) keys_here))

  pub writer_passed : Greater ≡ key_order r w → AreLeft tasks readers rest
  writer_passed more =
      subst (λ (rs : List Task). AreLeft tasks rs rest) (sym first_reader)
      (left_of_keys tasks (reader ∷ later) rest
      (pass_written tasks (object_key reader.source) (object_key (Some writer.dest)) (read_keys later) (written_keys rest) (order_is _ _ r w Greater is_read is_written more) keys_here))

  pub common_found : Equal ≡ key_order r w → (key : List ℕ) × (r ≡ Some key) × IsLeastCommon tasks key
  common_found tied =
      let found = found_common tasks (object_key reader.source) (object_key (Some writer.dest)) (read_keys later) (written_keys rest) (order_is _ _ r w Equal is_read is_written tied) keys_here in
      (found.0, is_read ∙ found.1, found.2)

pub no_reader : (tasks readers writers : List Task) → length readers ≡ 0 → AreLeft tasks readers writers → (key : List ℕ) → ¬ (IsCommon tasks key)
no_reader tasks [] writers none left key common = (left.both key common).0
no_reader tasks (reader ∷ readers) writers none left key common = absurd (omega arith)

pub no_writer : (tasks readers writers : List Task) → length writers ≡ 0 → AreLeft tasks readers writers → (key : List ℕ) → ¬ (IsCommon tasks key)
no_writer tasks readers [] none left key common = (left.both key common).1
no_writer tasks readers (writer ∷ writers) none left key common = absurd (omega arith)
