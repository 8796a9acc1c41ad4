-- Parts that are put together one after another.
use Rattle.std.proofs.Common.{◌≡◌, ◌∙◌, ◌+◌, ◌≤◌, ◌++◌, ℕ, List, [], ◌∷◌, Some, refl, sym, ap, subst, arith, length, append-nil, length-append, take, ◌<◌, zero, suc}
use Rattle.std.specs.FinMap.{get}
use Rattle.std.specs.List.{flat_map}
use Rattle.std.proofs.lemmas.List.{length-take, take_more}
use Rattle.std.proofs.Common.{get_or}
use Rattle.std.specs.Prelude.{IfOk, Result, Ok, Err}
use Rattle.s3_model.specs.declared.settings.Limits.{Limits}
use Rattle.s3_service.specs.ServiceState.{State}
use Rattle.s3_service.specs.Serves.{Completes, IsOpen}
use Rattle.object_table.specs.declared.fault.TableFault.{TableFault}
use Rattle.std.proofs.lemmas.List.Concat.{flat_map-append}
use Rattle.s3_service.specs.ServiceState.{StoredPart, Upload}
use Rattle.shared_lemmas.proofs.Clashes.{some_is}
use Rattle.s3_service.specs.Serves.{AllButLastHave, Assembles}
use Rattle.object_table.specs.Assembly.{last_length, Joined}

all_but_more : (least : ℕ) (pieces : List (List ℕ)) (piece : List ℕ) → AllButLastHave least pieces → least ≤ last_length least pieces → AllButLastHave least (pieces ++ piece ∷ [])
all_but_more least [] piece all enough = tt
all_but_more least (x ∷ []) piece all enough = (enough, tt)
all_but_more least (x ∷ y ∷ pieces) piece all enough = (all.0, all_but_more least (y ∷ pieces) piece all.1 enough)

assembles_more : (upload : Upload) (at : ℕ) (etags pieces : List (List ℕ)) (etag piece : List ℕ) → Assembles upload at etags pieces → get upload.parts (at + length etags) ≡ Some (record { bytes = piece; etag = etag })
    → Assembles upload at (etags ++ etag ∷ []) (pieces ++ piece ∷ [])
assembles_more upload at [] pieces etag piece none there =
    subst (λ (ps : List (List ℕ)). Assembles upload at (etag ∷ []) (ps ++ piece ∷ [])) (sym none) (
      let same : at + 0 ≡ at = omega arith in
          subst (λ (n : ℕ). get upload.parts n ≡ Some (record { bytes = piece; etag = etag })) same there,
      refl,
    )
assembles_more upload at (e ∷ etags) [] etag piece none there = absurd none
assembles_more upload at (e ∷ etags) (p ∷ pieces) etag piece some there = (
  some.0,
  assembles_more upload (at + 1) etags pieces etag piece some.1
      (let same : at + length (e ∷ etags) ≡ at + 1 + length etags = omega arith in
      subst (λ (n : ℕ). get upload.parts n ≡ Some (record { bytes = piece; etag = etag })) same there),
)

last_more : (least : ℕ) (pieces : List (List ℕ)) (piece : List ℕ) → last_length least (pieces ++ piece ∷ []) ≡ length piece
last_more least [] piece = refl
last_more least (x ∷ []) piece = refl
last_more least (x ∷ y ∷ pieces) piece = last_more least (y ∷ pieces) piece

pub joined_none : (upload : Upload) (least : ℕ) → Joined upload least [] [] least
joined_none upload least = record { pieces = []; parts = refl; enough = tt; count = refl; last_is = refl; bytes_are = refl }

pub joined_more : (upload : Upload) (least : ℕ) (etags : List (List ℕ)) (bytes : List ℕ) (last : ℕ) (etag piece : List ℕ) → Joined upload least etags bytes last → least ≤ last
    → get upload.parts (length etags + 1) ≡ Some (record { bytes = piece; etag = etag }) → Joined upload least (etags ++ etag ∷ []) (bytes ++ piece) (length piece)
joined_more upload least etags bytes last etag piece so_far enough there = record {
  pieces = so_far.pieces ++ piece ∷ [];
  parts = assembles_more upload 1 etags so_far.pieces etag piece so_far.parts
      (let same : length etags + 1 ≡ 1 + length etags = omega arith in
      subst (λ (n : ℕ). get upload.parts n ≡ Some (record { bytes = piece; etag = etag })) same there);
  enough = all_but_more least so_far.pieces piece so_far.enough (subst (λ (n : ℕ). least ≤ n) (sym so_far.last_is) enough);
  count = length-append so_far.pieces (piece ∷ []) ∙ ap (λ (n : ℕ). n + 1) so_far.count ∙ sym (length-append etags (etag ∷ []));
  last_is = last_more least so_far.pieces piece;
  bytes_are = ap (λ (front : List ℕ). front ++ piece) so_far.bytes_are
      ∙ ap (λ (back : List ℕ). flat_map (λ (p : List ℕ). p) so_far.pieces ++ back) (sym (append-nil piece))
      ∙ sym (flat_map-append (λ (p : List ℕ). p) so_far.pieces (piece ∷ []));
}

pub joined_step : (upload : Upload) (least : ℕ) (etags : List (List ℕ)) (i : ℕ) (bytes bytes' : List ℕ) (last : ℕ) (x etag piece : List ℕ) → i < length etags → x ≡ get_or etags i x → etag ≡ x → Joined upload least (take i etags) bytes last → least ≤ last
    → get upload.parts (i + 1) ≡ Some (record { bytes = piece; etag = etag }) → bytes' ≡ bytes ++ piece → Joined upload least (take (i + 1) etags) bytes' (length piece)
joined_step upload least etags i bytes bytes' last x etag piece inside item same so_far enough there grown =
    let more : take (i + 1) etags ≡ take i etags ++ etag ∷ [] = take_more etags i x inside ∙ ap (λ (e : List ℕ). take i etags ++ e ∷ []) (sym item ∙ sym same) in
    let count : i + 1 ≡ length (take i etags) + 1 = omega (arith, length-take {A = List ℕ}) in
    subst (λ (es : List (List ℕ)). Joined upload least es bytes' (length piece)) (sym more)
    (subst (λ (bs : List ℕ). Joined upload least (take i etags ++ etag ∷ []) bs (length piece)) (sym grown)
    (joined_more upload least (take i etags) bytes last etag piece so_far enough
    (subst (λ (n : ℕ). get upload.parts n ≡ Some (record { bytes = piece; etag = etag })) count there)))

-- where the parts are there, the ith of them is
pub piece_at : (upload : Upload) (at : ℕ) (etags pieces : List (List ℕ)) → Assembles upload at etags pieces → (i : ℕ) → i < length etags → (default : List ℕ) → (piece : List ℕ) × (get upload.parts (at + i) ≡ Some (record { bytes = piece; etag = get_or etags i default }))
piece_at upload at [] pieces all i inside default = absurd (omega arith)
piece_at upload at (e ∷ etags) [] all i inside default = absurd all
piece_at upload at (e ∷ etags) (p ∷ pieces) all zero inside default =
    let same : at ≡ at + 0 = omega arith in
    (p, subst (λ (n : ℕ). get upload.parts n ≡ Some (record { bytes = p; etag = e })) same all.0)
piece_at upload at (e ∷ etags) (p ∷ pieces) all (suc i) inside default =
    let found = piece_at upload (at + 1) etags pieces all.1 i (omega arith) default in
    let same : at + 1 + i ≡ at + suc i = omega arith in
    (found.0, subst (λ (n : ℕ). get upload.parts n ≡ Some (record { bytes = found.0; etag = get_or etags i default })) same found.1)

same_piece : (upload : Upload) (at : ℕ) (etag s p : List ℕ) → get upload.parts at ≡ Some (record { bytes = s; etag = etag }) → get upload.parts at ≡ Some (record { bytes = p; etag = etag }) → s ≡ p
same_piece upload at etag s p one two = ap (λ (part : StoredPart). part.bytes) (some_is _ _ (sym one ∙ two))

-- where all but the last are large enough, so is the last of those in front of another
pub last_enough : (upload : Upload) (least at : ℕ) (etags pieces front : List (List ℕ)) (i : ℕ) → Assembles upload at etags pieces → AllButLastHave least pieces → Assembles upload at (take i etags) front → i < length etags → least ≤ last_length least front
last_enough upload least at [] pieces front i all enough some inside = absurd (omega arith)
last_enough upload least at (e ∷ etags) [] front i all enough some inside = absurd all
last_enough upload least at (e ∷ etags) (p ∷ pieces) front zero all enough some inside =
    subst (λ (ps : List (List ℕ)). least ≤ last_length least ps) (sym some) (omega arith)
last_enough upload least at (e ∷ etags) (p ∷ pieces) [] (suc i) all enough some inside = absurd some
last_enough upload least at (e ∷ []) (p ∷ pieces) (s ∷ front) (suc i) all enough some inside = absurd (omega arith)
last_enough upload least at (e ∷ f ∷ etags) (p ∷ []) (s ∷ front) (suc i) all enough some inside = absurd all.1
last_enough upload least at (e ∷ f ∷ etags) (p ∷ q ∷ pieces) (s ∷ []) (suc i) all enough some inside =
    subst (λ (x : List ℕ). least ≤ length x) (sym (same_piece upload at e s p some.0 all.0)) enough.0
last_enough upload least at (e ∷ f ∷ etags) (p ∷ q ∷ pieces) (s ∷ t ∷ front) (suc i) all enough some inside =
    last_enough upload least (at + 1) (f ∷ etags) (q ∷ pieces) (t ∷ front) i all.1 enough.1 some.1 (omega arith)

pub completes : {A : Type 0} (items : A → List ℕ) (r : Result A TableFault) (limits : Limits) (t : State) (id bucket key : List ℕ) (upload : Upload) (etags : List (List ℕ)) → IsOpen t id bucket key upload → 1 ≤ length etags
    → IfOk r (λ bytes. (last : ℕ) × Joined upload limits.min_part etags (items bytes) last) → IfOk r (λ bytes. (x : Upload) × IsOpen t id bucket key x × Completes limits x etags (items bytes))
completes items (Ok bytes) limits t id bucket key upload etags opened some joined =
    let j = joined.1 in
    (upload, opened, (j.pieces, j.parts, j.enough, (let same : length j.pieces ≡ length etags = j.count in omega arith), j.bytes_are))
completes items (Err fault) limits t id bucket key upload etags opened some joined = tt

pub same_more : (xs ys : List (List ℕ)) (i : ℕ) (x y : List ℕ) → i < length xs → i < length ys → take i xs ≡ take i ys → x ≡ get_or xs i x → y ≡ get_or ys i y → x ≡ y → take (i + 1) xs ≡ take (i + 1) ys
same_more xs ys i x y in_xs in_ys same at_xs at_ys equal =
    take_more xs i x in_xs
    ∙ ap (λ (e : List ℕ). take i xs ++ e ∷ []) (sym at_xs ∙ equal ∙ at_ys)
    ∙ ap (λ (front : List (List ℕ)). front ++ get_or ys i y ∷ []) same
    ∙ sym (take_more ys i y in_ys)
