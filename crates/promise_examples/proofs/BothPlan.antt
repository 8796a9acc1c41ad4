-- The plan of both kinds of task: its tasks, its files, and what its calls make of them.
use Rattle.std.proofs.Common.{◌≡◌, ◌∙◌, ℕ, true, List, [], ◌∷◌, Option, Some, None, refl, sym, ap, subst, inl, length, slice_get, arith}
use Rattle.std.specs.Prelude.{IsSome, codes}
use Rattle.std.specs.Cmp.Lexicographic.{nat_list_cmp_total, slice_cmp}
use Rattle.std.specs.Ordering.{nat_cmp}
use Rattle.std.specs.FinMap.{empty, get, get-empty, insert, remove}
use Rattle.s3_model.specs.declared.places.Place.TheVariants as place
use Rattle.s3_model.specs.declared.tasks.Kind.TheVariants as kind
use Rattle.s3_model.specs.declared.tasks.Task.{Task}
use Rattle.s3_model.specs.Files.{HeldFile}
use Rattle.s3_model.specs.Maps.{MapOf}
use Rattle.s3_model.specs.Parts.{HasPieces}
use Rattle.s3_model.specs.TempNames.{is_temp_name}
use Rattle.run_promise.specs.Schedule.{Setting, bytes_of}
use Rattle.job_terms.specs.Jobs.{IsObject, Origin, Target}
use Rattle.local_files.specs.Calls.{IsCallRun, IsTempFor}
use Rattle.shared_lemmas.proofs.Clashes.{false_true as never}
use Rattle.shared_lemmas.proofs.Lists.{head_is}
use Rattle.shared_lemmas.proofs.Maps.{get-insert_other, get-insert_same, get-remove_other, text_exact}
use Rattle.run_promise.specs.FileCalls.{AreFilesApart, steps_of}
use Rattle.file_laws.specs.FileWitnesses.{file_removal}
use Rattle.file_laws.proofs.Keeping.{removal_downloads, same_path, some_is_there}
use Rattle.promise_examples.specs.BothKinds.{bucket, stored_key, first_key, second_key, source_path, first_path, first_temp, second_path, second_temp, removed_path, bytes, upload, first_load, second_load, limits, config, with_bytes, held, after_removal, with_temp, written, filled, renamed, stamped, calls, shown}
use Rattle.promise_examples.proofs.Concrete.{slot, some_is}

abbrev pub s : Setting
s = shown.setting

abbrev pub last_task : Task
last_task = file_removal removed_path

-- ---- what differs

pub no_task : {n : ℕ} → ◌≡◌ {A = Option ℕ} (Some n) None → ⊥
no_task e = cc

pub object_is_no_file : (b k path : List ℕ) → place.Object b k ≡ place.File path → ⊥
object_is_no_file b k path e = cc

-- two files whose names have one byte each
other_file : (a b : ℕ) (path : List ℕ) → (a ≡ b → ⊥) → place.File (a ∷ []) ≡ place.File path → place.File (b ∷ []) ≡ place.File path → ⊥
other_file a b path apart e f = apart (head_is a b [] [] (same_path (a ∷ []) path e ∙ sym (same_path (b ∷ []) path f)))

pub task_numbers : (m n : ℕ) → (m ≡ n → ⊥) → ◌≡◌ {A = Option ℕ} (Some m) (Some n) → ⊥
task_numbers m n apart e = apart (some_is m n e)

-- ---- the plan

abbrev OfPlan : (ℕ → Task → Type 0) → Type 0
OfPlan P = (n : ℕ) (task : Task) → slice_get s.tasks n ≡ Some task → P n task

-- what holds of each task of the plan
pub of_plan : (P : ℕ → Task → Type 0) → P 0 upload → P 1 first_load → P 2 second_load → P 3 last_task → OfPlan P
of_plan P a b c d n task is = slot P s.tasks (a, (b, (c, (d, tt)))) n task is

pub still : OfPlan (λ n task. task.moves ≡ true → ⊥)
still = of_plan (λ n task. task.moves ≡ true → ⊥) never never never never

pub upload_pieces : HasPieces config limits kind.Upload 2 2 1
upload_pieces = inl (omega arith, refl, refl)

pub first_pieces : HasPieces config limits kind.Download 2 2 1
first_pieces = inl (omega arith, refl, refl)

pub second_pieces : HasPieces config limits kind.Download 1 1 1
second_pieces = inl (omega arith, refl, refl)

unfoldable pub to_upload : Target upload
to_upload = record { bucket = bucket; key = stored_key; is_dest = (refl, refl) }

unfoldable pub from_first : Origin first_load
from_first = record { bucket = bucket; key = first_key; is_source = (refl, refl) }

unfoldable pub from_second : Origin second_load
from_second = record { bucket = bucket; key = second_key; is_source = (refl, refl) }

pub source_is : get held source_path ≡ Some (with_bytes bytes)
source_is =
    get-insert_other nat_list_cmp_total text_exact (insert empty source_path (with_bytes bytes)) removed_path (with_bytes []) source_path apart
    ∙ get-insert_same nat_list_cmp_total text_exact empty source_path (with_bytes bytes)
  where
    apart : source_path ≡ removed_path → ⊥
    apart e = let byte : ◌≡◌ {A = ℕ} 102 114 = head_is 102 114 [] [] e in omega arith

pub body_is : bytes ≡ bytes_of (get held source_path)
body_is = sym (ap bytes_of source_is)

-- ---- destinations are apart

pub dests_apart : (m n : ℕ) (a b : Task) (bucket key : List ℕ) → slice_get s.tasks m ≡ Some a → slice_get s.tasks n ≡ Some b → IsObject a.dest bucket key → IsObject b.dest bucket key → m ≡ n
dests_apart m n a b of_bucket of_key is_a is_b here there = only m a is_a here ∙ sym (only n b is_b there)
  where
    only : (k : ℕ) (task : Task) → slice_get s.tasks k ≡ Some task → IsObject task.dest of_bucket of_key → k ≡ 0
    only = of_plan (λ k task. IsObject task.dest of_bucket of_key → k ≡ 0) (λ h. refl) (λ h. absurd h) (λ h. absurd h) (λ h. absurd h)

pub files_apart : AreFilesApart held s.tasks
files_apart = record {
  destinations = λ m n a b path to_a to_b. of_plan (λ k x. x.dest ≡ place.File path → k ≡ n)
      (λ e. absurd (object_is_no_file bucket stored_key path e))
      (λ e. of_plan (λ k x. x.dest ≡ place.File path → 1 ≡ k) (λ f. absurd (object_is_no_file bucket stored_key path f)) (λ f. refl) (λ f. absurd (other_file 107 108 path (λ is. omega arith) e f)) (λ f. absurd (other_file 107 114 path (λ is. omega arith) e f)) n b to_b.0 to_b.1)
      (λ e. of_plan (λ k x. x.dest ≡ place.File path → 2 ≡ k) (λ f. absurd (object_is_no_file bucket stored_key path f)) (λ f. absurd (other_file 108 107 path (λ is. omega arith) e f)) (λ f. refl) (λ f. absurd (other_file 108 114 path (λ is. omega arith) e f)) n b to_b.0 to_b.1)
      (λ e. of_plan (λ k x. x.dest ≡ place.File path → 3 ≡ k) (λ f. absurd (object_is_no_file bucket stored_key path f)) (λ f. absurd (other_file 114 107 path (λ is. omega arith) e f)) (λ f. absurd (other_file 114 108 path (λ is. omega arith) e f)) (λ f. refl) n b to_b.0 to_b.1)
      m a to_a.0 to_a.1;
  sources = λ m n a b path move to_b. still m a move.0 move.1;
  moved_once = λ m n a b path move too. absurd (still m a move.0 move.1);
  uploads = λ n task path move. absurd (still n task move.0 move.1);
  one_way = λ m n a b path move is_b load. still m a move.0 move.1;
  names = λ m n a b path to_a is_b load load_too named. absurd (of_plan (λ k x. x.dest ≡ place.File path → x.kind ≡ kind.Download → ⊥)
      (λ e l. object_is_no_file bucket stored_key path e)
      (λ e l. never (subst (λ (p : List ℕ). is_temp_name p ≡ true) (sym (same_path first_path path e)) named))
      (λ e l. never (subst (λ (p : List ℕ). is_temp_name p ≡ true) (sym (same_path second_path path e)) named))
      (λ e l. removal_downloads l) m a to_a.0 to_a.1 load);
  there = λ n task path to_x removal. of_plan (λ k x. x.dest ≡ place.File path → x.kind ≡ kind.RemoveFile → IsSome (get held path))
      (λ e r. absurd (object_is_no_file bucket stored_key path e))
      (λ e r. absurd (removal_downloads (sym r)))
      (λ e r. absurd (removal_downloads (sym r)))
      (λ e r. subst (λ (p : List ℕ). IsSome (get held p)) (same_path removed_path path e)
      (some_is_there (get held removed_path) (with_bytes []) (get-insert_same nat_list_cmp_total text_exact (insert empty source_path (with_bytes bytes)) removed_path (with_bytes []))))
      n task to_x.0 to_x.1 removal;
}

-- ---- the files

found : (m : MapOf HeldFile) (path : List ℕ) (file : HeldFile) → get (insert m path file) path ≡ Some file
found m path file = get-insert_same nat_list_cmp_total text_exact m path file

-- nothing is where nothing was, after a file of another name was put
still_none : (m : MapOf HeldFile) (path other : List ℕ) (file : HeldFile) → (path ≡ other → ⊥) → get m path ≡ None → get (insert m other file) path ≡ None
still_none m path other file apart none = get-insert_other nat_list_cmp_total text_exact m other file path apart ∙ none

removed_none : (m : MapOf HeldFile) (path other : List ℕ) → (path ≡ other → ⊥) → get m path ≡ None → get (remove m other) path ≡ None
removed_none m path other apart none = get-remove_other nat_list_cmp_total text_exact m other path apart ∙ none

pub other_length : (p q : List ℕ) (m n : ℕ) → length p ≡ m → length q ≡ n → (m ≡ n → ⊥) → p ≡ q → ⊥
other_length p q m n a b apart e = apart (sym a ∙ ap length e ∙ b)

first_is_temp : IsTempFor first_path first_temp
first_is_temp = (other_length first_temp first_path 17 1 refl refl (λ e. omega arith), refl, refl)

second_is_temp : IsTempFor second_path second_temp
second_is_temp = (other_length second_temp second_path 17 1 refl refl (λ e. omega arith), refl, refl)

-- a name of seventeen bytes is none of one byte
long_is_no_byte : (temp : List ℕ) (byte : ℕ) → length temp ≡ 17 → temp ≡ byte ∷ [] → ⊥
long_is_no_byte temp byte long e = other_length temp (byte ∷ []) 17 1 long refl (λ is. omega arith) e

none_at : (temp : List ℕ) → length temp ≡ 17 → get after_removal temp ≡ None
none_at temp long =
    removed_none held temp removed_path (long_is_no_byte temp 114 long)
    (still_none (insert empty source_path (with_bytes bytes)) temp removed_path (with_bytes []) (long_is_no_byte temp 114 long)
    (still_none empty temp source_path (with_bytes bytes) (long_is_no_byte temp 102 long) (get-empty (slice_cmp nat_cmp) temp)))

temps_apart : second_temp ≡ first_temp → ⊥
temps_apart e = let byte : ◌≡◌ {A = ℕ} 108 107 = head_is 108 107 (codes ".0a1b2c3d.s3part") (codes ".0a1b2c3d.s3part") e in omega arith

second_is_new : get stamped second_temp ≡ None
second_is_new =
    still_none renamed second_temp first_path (record { bytes = written; micros = 5 }) (long_is_no_byte second_temp 107 refl)
    (still_none (remove filled first_temp) second_temp first_path (with_bytes written) (long_is_no_byte second_temp 107 refl)
    (removed_none filled second_temp first_temp temps_apart
    (still_none with_temp second_temp first_temp (with_bytes written) temps_apart
    (still_none after_removal second_temp first_temp (with_bytes []) temps_apart (none_at second_temp refl)))))

pub call_run : IsCallRun held (steps_of calls)
call_run = (
  refl,
  (
    (first_is_temp, none_at first_temp refl, (0, refl)),
    (
      (with_bytes [], found after_removal first_temp (with_bytes []), (0, refl)),
      (
        (with_bytes written, found with_temp first_temp (with_bytes written), refl),
        (
          (with_bytes written, found (remove filled first_temp) first_path (with_bytes written), refl),
          ((second_is_temp, second_is_new, (0, refl)), (refl, tt)),
        ),
      ),
    ),
  ),
)
