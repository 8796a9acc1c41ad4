-- What the calls of an assembly make of the files.
use Rattle.shared_lemmas.proofs.Clashes.{some_is}
use Rattle.shared_lemmas.proofs.Maps.{get-insert_same, get-insert_other, get-remove_same, get-remove_other, text_exact}
use Rattle.std.proofs.Common.{◌≡◌, ◌≢◌, ◌∙◌, ◌⊎◌, ◌+◌, ◌-◌, ◌<◌, ◌≤◌, ◌++◌, ℕ, zero, suc, Bool, true, false, List, [], ◌∷◌, Option, Some, None, Result, Ok, Err, length, drop, get_or, refl, sym, ap, subst, inl, inr, arith}
use Rattle.std.specs.Cmp.Lexicographic.{nat_list_cmp_total}
use Rattle.std.specs.FinMap.{get, insert, remove}
use Rattle.std.specs.Prelude.{IfOk, OnErr, OnOk}
use Rattle.std.proofs.lemmas.List.{ext_get_or, get_or-drop, get_or-take}
use Rattle.std.proofs.lemmas.List.Elements.{Contains-append_cases}
use Rattle.local_files.proofs.Written.{written_beside, written_length, written_there}
use Rattle.local_files.specs.Calls.{Leads, written_at}
use Rattle.local_files.specs.Calls as calls
use Rattle.s3_model.specs.Files.{HeldFile}
use Rattle.s3_model.specs.Maps.{MapOf}
use Rattle.s3_outside.specs.FileCalls.{IsMade, answer_of, path_of}
use Rattle.s3_outside.specs.Files.{SeenFiles}
use Rattle.s3_outside.specs.declared.files.FileFault.{FileFault}
use Rattle.s3_outside.specs.declared.files.FileNote.TheVariants as note
use Rattle.s3_outside.specs.declared.files.Temp.{Temp}
use Rattle.s3_outside.specs.declared.wire.Failed.{Failed}
use Rattle.temp_files.specs.Assembly.{AreInOrder, Assembling, BothSeen, HasAll, HasBytes, HasRange, Holds, IsApart, Range, SparesOthers}

-- what holds of each pair of seen files that a call leads between
pub both : (P Q : SeenFiles → SeenFiles → Type 0) → ((old new : SeenFiles) → P old new → Q old new) → (old new : Option SeenFiles) → BothSeen old new P → BothSeen old new Q
both P Q f (Some old) (Some new) h = f old new h
both P Q f (Some old) None h = tt
both P Q f None (Some new) h = tt
both P Q f None None h = tt

at_key : (m : MapOf HeldFile) (k : List ℕ) (v : HeldFile) → get (insert m k v) k ≡ Some v
at_key m k v = get-insert_same nat_list_cmp_total text_exact m k v

beside : (m : MapOf HeldFile) (k : List ℕ) (v : HeldFile) (q : List ℕ) → q ≢ k → get (insert m k v) q ≡ get m q
beside m k v q other = get-insert_other nat_list_cmp_total text_exact m k v q other

-- ---- a range is written

module _ (ranges : List Range) (at : ℕ) (bytes old : List ℕ) (apart : IsApart ranges at (length bytes)) (has : HasAll old ranges) where
  still : (range : Range) → HasRange old range → (range.0 + length range.1 ≤ at) ⊎ (at + length bytes ≤ range.0) → HasRange (written_at at bytes old) range
  still range (inside, is) beside_it =
      let longer = written_length at bytes old (length old + (at + length bytes)) (omega arith) (omega arith) in
      (omega (arith, longer.2), written_beside at range.0 (length range.1) bytes old inside beside_it ∙ is)

  written_all : HasAll (written_at at bytes old) (ranges ++ (at, bytes) ∷ [])
  written_all range contains =
      elim (Contains-append_cases ranges ((at, bytes) ∷ []) range contains) [
        | inl before ↦ still range (has range before) (apart range before)
        | inr (k, inside, is) ↦ last k inside is
      ]
    where
      here : HasRange (written_at at bytes old) (at, bytes)
      here = let longer = written_length at bytes old (length old + (at + length bytes)) (omega arith) (omega arith) in (longer.1, written_there at bytes old)

      last : (k : ℕ) → k < 1 → get_or ((at, bytes) ∷ []) k range ≡ range → HasRange (written_at at bytes old) range
      last zero inside is = subst (λ (r : Range). HasRange (written_at at bytes old) r) is here
      last (suc k) inside is = absurd (omega arith)

pub placed_held : (assembly : Assembling) (ranges : List Range) (at : ℕ) (bytes : List ℕ) (old new : MapOf HeldFile) → at + length bytes ≤ assembly.size → Leads (calls.WriteAt assembly.temp at bytes true) old new
    → IsApart ranges at (length bytes) → Holds assembly ranges old → Holds assembly (ranges ++ (at, bytes) ∷ []) new
placed_held assembly ranges at bytes old new fits (file, was, (micros, is)) apart holds =
    let same : holds.file ≡ file = some_is holds.file file (sym holds.there ∙ was) in
    record {
      file = record { bytes = written_at at bytes file.bytes; micros = micros };
      there = ap (λ (m : MapOf HeldFile). get m assembly.temp) is ∙ at_key old assembly.temp (record { bytes = written_at at bytes file.bytes; micros = micros });
      inside = (written_length at bytes file.bytes assembly.size (subst (λ (f : HeldFile). length f.bytes ≤ assembly.size) same holds.inside) fits).0;
      all = written_all ranges at bytes file.bytes apart (subst (λ (f : HeldFile). HasAll f.bytes ranges) same holds.all);
    }

pub placed_seen : (assembly : Assembling) (at : ℕ) (bytes : List ℕ) (result : Result Unit Failed) (old new : Option SeenFiles) (before after : ℕ) → at + length bytes ≤ assembly.size → IsMade (note.WriteAt assembly.temp at bytes result) old new before after
    → BothSeen old new (λ old new. OnOk result ((ranges : List Range) → IsApart ranges at (length bytes) → Holds assembly ranges old.store.held → Holds assembly (ranges ++ (at, bytes) ∷ []) new.store.held))
placed_seen assembly at bytes (Ok done) (Some old) (Some new) before after fits made = λ ranges. placed_held assembly ranges at bytes old.store.held new.store.held fits made.files.held
placed_seen assembly at bytes (Err why) (Some old) (Some new) before after fits made = tt
placed_seen assembly at bytes result (Some old) None before after fits made = tt
placed_seen assembly at bytes result None (Some new) before after fits made = tt
placed_seen assembly at bytes result None None before after fits made = tt

write_spares : (temp : List ℕ) (at : ℕ) (bytes : List ℕ) (fine : Bool) (old new : MapOf HeldFile) → Leads (calls.WriteAt temp at bytes fine) old new → SparesOthers temp old new
write_spares temp at bytes true old new (file, was, (micros, is)) path other = ap (λ (m : MapOf HeldFile). get m path) is ∙ beside old temp (record { bytes = written_at at bytes file.bytes; micros = micros }) path other
write_spares temp at bytes false old new (inl same) path other = ap (λ (m : MapOf HeldFile). get m path) same
write_spares temp at bytes false old new (inr (there, any, (micros, is))) path other = ap (λ (m : MapOf HeldFile). get m path) is ∙ beside old temp (record { bytes = any; micros = micros }) path other

pub placed_spares : (temp : List ℕ) (at : ℕ) (bytes : List ℕ) (result : Result Unit Failed) (old new : Option SeenFiles) (before after : ℕ) → IsMade (note.WriteAt temp at bytes result) old new before after
    → BothSeen old new (λ old new. SparesOthers temp old.store.held new.store.held)
placed_spares temp at bytes (Ok done) (Some old) (Some new) before after made = write_spares temp at bytes true old.store.held new.store.held made.files.held
placed_spares temp at bytes (Err why) (Some old) (Some new) before after made = write_spares temp at bytes false old.store.held new.store.held made.files.held
placed_spares temp at bytes result (Some old) None before after made = tt
placed_spares temp at bytes result None (Some new) before after made = tt
placed_spares temp at bytes result None None before after made = tt

-- ---- the temporary file is made

pub made_empty : (dest kept : List ℕ) (size : ℕ) (result : Result Temp FileFault) (old new : Option SeenFiles) (before after : ℕ) → IsMade (note.MakeTemp dest (path_of result)) old new before after
    → BothSeen old new (λ old new. IfOk result (λ temp. Holds (record { temp = temp.path; dest = kept; size = size }) [] new.store.held))
made_empty dest kept size (Ok temp) (Some old) (Some new) before after made =
    let leads = made.files.held in
    record {
      file = record { bytes = []; micros = leads.2.0 };
      there = ap (λ (m : MapOf HeldFile). get m temp.path) leads.2.1 ∙ at_key old.store.held temp.path (record { bytes = []; micros = leads.2.0 });
      inside = omega arith;
      all = λ range contains. absurd (let none : contains.0 < 0 = contains.1 in omega arith);
    }
made_empty dest kept size (Err why) (Some old) (Some new) before after made = tt
made_empty dest kept size result (Some old) None before after made = tt
made_empty dest kept size result None (Some new) before after made = tt
made_empty dest kept size result None None before after made = tt

pub made_spares : (dest : List ℕ) (result : Result Temp FileFault) (old new : Option SeenFiles) (before after : ℕ) → IsMade (note.MakeTemp dest (path_of result)) old new before after
    → BothSeen old new (λ old new. IfOk result (λ temp. SparesOthers temp.path old.store.held new.store.held))
made_spares dest (Ok temp) (Some old) (Some new) before after made = λ path other. ap (λ (m : MapOf HeldFile). get m path) made.files.held.2.1 ∙ beside old.store.held temp.path (record { bytes = []; micros = made.files.held.2.0 }) path other
made_spares dest (Err why) (Some old) (Some new) before after made = tt
made_spares dest result (Some old) None before after made = tt
made_spares dest result None (Some new) before after made = tt
made_spares dest result None None before after made = tt

pub unmade_same : (dest : List ℕ) (result : Result Temp FileFault) (old new : Option SeenFiles) (before after : ℕ) → IsMade (note.MakeTemp dest (path_of result)) old new before after
    → BothSeen old new (λ old new. OnErr result (new.store.held ≡ old.store.held))
unmade_same dest (Ok temp) (Some old) (Some new) before after made = tt
unmade_same dest (Err why) (Some old) (Some new) before after made = made.files.held
unmade_same dest result (Some old) None before after made = tt
unmade_same dest result None (Some new) before after made = tt
unmade_same dest result None None before after made = tt

-- ---- the destination is replaced

-- ranges that leave no byte out tell all bytes
module _ (ranges : List Range) (size : ℕ) (bytes object : List ℕ) (inside : length bytes ≤ size) (has : HasAll bytes ranges) (order : AreInOrder ranges size object) where
  same_at : (place : ℕ) → place < size → (get_or bytes place 0 ≡ get_or object place 0) × (place < length bytes)
  same_at place below =
      let found = order.covers place below in
      let range = found.0 in
      let here = has range found.1 in
      let there = order.each range found.1 in
      let on : range.0 + (place - range.0) ≡ place = omega (arith, found.2, found.3) in
      let in_bytes : get_or bytes place 0 ≡ get_or range.1 (place - range.0) 0 =
      ap (λ (n : ℕ). get_or bytes n 0) (sym on) ∙ sym (get_or-drop range.0 bytes (place - range.0) 0) ∙ sym (get_or-take (length range.1) (drop range.0 bytes) (place - range.0) 0 (omega (arith, found.2, found.3))) ∙ ap (λ (xs : List ℕ). get_or xs (place - range.0) 0) here.1 in
      let in_object : get_or object place 0 ≡ get_or range.1 (place - range.0) 0 =
      ap (λ (n : ℕ). get_or object n 0) (sym on) ∙ sym (get_or-drop range.0 object (place - range.0) 0) ∙ sym (get_or-take (length range.1) (drop range.0 object) (place - range.0) 0 (omega (arith, found.2, found.3))) ∙ ap (λ (xs : List ℕ). get_or xs (place - range.0) 0) there.1 in
      (in_bytes ∙ sym in_object, omega (arith, here.0, found.2, found.3))

  long : length bytes ≡ size
  long = all size refl
    where
      all : (n : ℕ) → n ≡ size → length bytes ≡ size
      all zero is = omega arith
      all (suc n) is = let last = (same_at n (omega arith)).1 in omega arith

  pub in_order : bytes ≡ object
  in_order = ext_get_or 0 bytes object (long ∙ sym order.whole) (λ place below. (same_at place (omega (arith, long))).0)

pub finished_held : (assembly : Assembling) (old new : MapOf HeldFile) → Leads (calls.Rename assembly.temp assembly.dest None) old new → (ranges : List Range) (object : List ℕ) → Holds assembly ranges old → AreInOrder ranges assembly.size object → HasBytes new assembly.dest object
finished_held assembly old new (file, was, is) ranges object holds order = (
  file,
  ap (λ (m : MapOf HeldFile). get m assembly.dest) is ∙ at_key (remove old assembly.temp) assembly.dest file,
  ap (λ (f : HeldFile). f.bytes) (sym (some_is holds.file file (sym holds.there ∙ was))) ∙ in_order ranges assembly.size holds.file.bytes object holds.inside holds.all order,
)

pub finished_seen : (assembly : Assembling) (result : Result Unit (Temp × FileFault)) (old new : Option SeenFiles) (before after : ℕ) → IsMade (note.Rename assembly.temp assembly.dest (answer_of result)) old new before after
    → BothSeen old new (λ old new. OnOk result ((ranges : List Range) (bytes : List ℕ) → Holds assembly ranges old.store.held → AreInOrder ranges assembly.size bytes → HasBytes new.store.held assembly.dest bytes))
finished_seen assembly (Ok done) (Some old) (Some new) before after made = finished_held assembly old.store.held new.store.held made.files.held
finished_seen assembly (Err why) (Some old) (Some new) before after made = tt
finished_seen assembly result (Some old) None before after made = tt
finished_seen assembly result None (Some new) before after made = tt
finished_seen assembly result None None before after made = tt

pub finished_others : (temp dest : List ℕ) (result : Result Unit (Temp × FileFault)) (old new : Option SeenFiles) (before after : ℕ) → IsMade (note.Rename temp dest (answer_of result)) old new before after
    → BothSeen old new (λ old new. OnOk result ((path : List ℕ) → path ≢ temp → path ≢ dest → get new.store.held path ≡ get old.store.held path))
finished_others temp dest (Ok done) (Some old) (Some new) before after made = λ path not_temp not_dest.
    ap (λ (m : MapOf HeldFile). get m path) made.files.held.2 ∙ beside (remove old.store.held temp) dest made.files.held.0 path not_dest ∙ get-remove_other nat_list_cmp_total text_exact old.store.held temp path not_temp
finished_others temp dest (Err why) (Some old) (Some new) before after made = tt
finished_others temp dest result (Some old) None before after made = tt
finished_others temp dest result None (Some new) before after made = tt
finished_others temp dest result None None before after made = tt

pub finished_gone : (temp dest : List ℕ) → temp ≢ dest → (result : Result Unit (Temp × FileFault)) (old new : Option SeenFiles) (before after : ℕ) → IsMade (note.Rename temp dest (answer_of result)) old new before after
    → BothSeen old new (λ old new. OnOk result (get new.store.held temp ≡ None))
finished_gone temp dest apart (Ok done) (Some old) (Some new) before after made =
    ap (λ (m : MapOf HeldFile). get m temp) made.files.held.2 ∙ beside (remove old.store.held temp) dest made.files.held.0 temp apart ∙ get-remove_same nat_list_cmp_total text_exact old.store.held temp
finished_gone temp dest apart (Err why) (Some old) (Some new) before after made = tt
finished_gone temp dest apart result (Some old) None before after made = tt
finished_gone temp dest apart result None (Some new) before after made = tt
finished_gone temp dest apart result None None before after made = tt

pub unfinished_same : (temp dest : List ℕ) (result : Result Unit (Temp × FileFault)) (old new : Option SeenFiles) (before after : ℕ) → IsMade (note.Rename temp dest (answer_of result)) old new before after
    → BothSeen old new (λ old new. OnErr result (new.store.held ≡ old.store.held))
unfinished_same temp dest (Ok done) (Some old) (Some new) before after made = tt
unfinished_same temp dest (Err back) (Some old) (Some new) before after made = made.files.held
unfinished_same temp dest result (Some old) None before after made = tt
unfinished_same temp dest result None (Some new) before after made = tt
unfinished_same temp dest result None None before after made = tt

-- ---- the temporary file is dropped

pub dropped_gone : (temp : List ℕ) (result : Result Unit Failed) (old new : Option SeenFiles) (before after : ℕ) → IsMade (note.DropTemp temp result) old new before after → BothSeen old new (λ old new. OnOk result (get new.store.held temp ≡ None))
dropped_gone temp (Ok done) (Some old) (Some new) before after made = ap (λ (m : MapOf HeldFile). get m temp) made.files.held ∙ get-remove_same nat_list_cmp_total text_exact old.store.held temp
dropped_gone temp (Err why) (Some old) (Some new) before after made = tt
dropped_gone temp result (Some old) None before after made = tt
dropped_gone temp result None (Some new) before after made = tt
dropped_gone temp result None None before after made = tt

pub dropped_spares : (temp : List ℕ) (result : Result Unit Failed) (old new : Option SeenFiles) (before after : ℕ) → IsMade (note.DropTemp temp result) old new before after → BothSeen old new (λ old new. SparesOthers temp old.store.held new.store.held)
dropped_spares temp (Ok done) (Some old) (Some new) before after made = λ path other. ap (λ (m : MapOf HeldFile). get m path) made.files.held ∙ get-remove_other nat_list_cmp_total text_exact old.store.held temp path other
dropped_spares temp (Err why) (Some old) (Some new) before after made = λ path other. ap (λ (m : MapOf HeldFile). get m path) made.files.held
dropped_spares temp result (Some old) None before after made = tt
dropped_spares temp result None (Some new) before after made = tt
dropped_spares temp result None None before after made = tt

-- ---- the same, of the texts and bytes that a call was given

pub placed_given : (assembly : Assembling) (temp : List ℕ) (at : ℕ) (bytes given : List ℕ) (result : Result Unit Failed) (old new : Option SeenFiles) (before after : ℕ) → temp ≡ assembly.temp → given ≡ bytes → at + length bytes ≤ assembly.size → IsMade (note.WriteAt temp at given result) old new before after
    → BothSeen old new (λ old new. OnOk result ((ranges : List Range) → IsApart ranges at (length bytes) → Holds assembly ranges old.store.held → Holds assembly (ranges ++ (at, bytes) ∷ []) new.store.held))
placed_given assembly temp at bytes given result old new before after same_temp same_bytes fits made =
    placed_seen assembly at bytes result old new before after fits
    (subst (λ (t : List ℕ). IsMade (note.WriteAt t at bytes result) old new before after) same_temp (subst (λ (b : List ℕ). IsMade (note.WriteAt temp at b result) old new before after) same_bytes made))

pub finished_given : (assembly : Assembling) (temp dest : List ℕ) (result : Result Unit (Temp × FileFault)) (old new : Option SeenFiles) (before after : ℕ) → temp ≡ assembly.temp → dest ≡ assembly.dest → IsMade (note.Rename temp dest (answer_of result)) old new before after
    → BothSeen old new (λ old new. OnOk result ((ranges : List Range) (bytes : List ℕ) → Holds assembly ranges old.store.held → AreInOrder ranges assembly.size bytes → HasBytes new.store.held assembly.dest bytes))
finished_given assembly temp dest result old new before after same_temp same_dest made =
    finished_seen assembly result old new before after
    (subst (λ (t : List ℕ). IsMade (note.Rename t assembly.dest (answer_of result)) old new before after) same_temp (subst (λ (d : List ℕ). IsMade (note.Rename temp d (answer_of result)) old new before after) same_dest made))

pub others_given : (assembly : Assembling) (temp dest : List ℕ) (result : Result Unit (Temp × FileFault)) (old new : Option SeenFiles) (before after : ℕ) → temp ≡ assembly.temp → dest ≡ assembly.dest → IsMade (note.Rename temp dest (answer_of result)) old new before after
    → BothSeen old new (λ old new. OnOk result ((path : List ℕ) → path ≢ assembly.temp → path ≢ assembly.dest → get new.store.held path ≡ get old.store.held path))
others_given assembly temp dest result old new before after same_temp same_dest made =
    finished_others assembly.temp assembly.dest result old new before after
    (subst (λ (t : List ℕ). IsMade (note.Rename t assembly.dest (answer_of result)) old new before after) same_temp (subst (λ (d : List ℕ). IsMade (note.Rename temp d (answer_of result)) old new before after) same_dest made))

pub gone_given : (assembly : Assembling) (temp dest : List ℕ) (result : Result Unit (Temp × FileFault)) (old new : Option SeenFiles) (before after : ℕ) → temp ≡ assembly.temp → temp ≢ dest → IsMade (note.Rename temp dest (answer_of result)) old new before after
    → BothSeen old new (λ old new. OnOk result (get new.store.held assembly.temp ≡ None))
gone_given assembly temp dest result old new before after same_temp apart made =
    subst (λ (t : List ℕ). BothSeen old new (λ old new. OnOk result (get new.store.held t ≡ None))) same_temp (finished_gone temp dest apart result old new before after made)
