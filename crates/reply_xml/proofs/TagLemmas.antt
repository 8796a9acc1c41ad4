-- Bytes begin with one tag, and in one way.
use Rattle.std.proofs.Common.{◌≡◌, ◌≢◌, ◌==◌, ◌||◌, ◌++◌, ◌∙◌, ◌⊎◌, ℕ, zero, suc, Bool, true, false, List, [], ◌∷◌}
use Rattle.std.proofs.Common.{refl, sym, ap, subst, length, inl, inr, ⊎_elim, Result, Ok, Err, IfErr, Some, None}
use Rattle.std.proofs.Common.{slice_get, take, drop}
use Rattle.reply_xml.specs.declared.runs.Sort.TheVariants as sort
use Rattle.std.specs.Result.{IsErrAnd, OnErr}
use Rattle.std.proofs.lemmas.List.{nil_from_length}
use Rattle.std.specs.List.{AllPass}
use Rattle.std.proofs.lemmas.Bool.{eqb-false, false≢true}
use Rattle.std.proofs.lemmas.List.{take-append-drop}
use Rattle.std.proofs.lemmas.List.Elements.{All-head, All-nil}
use Rattle.std.proofs.lemmas.Option.{same_Some}
use Rattle.reply_xml.specs.Runs.{BeginsOutside, is_name_byte, is_of, is_space, ReadsRun}
use Rattle.reply_xml.specs.Tags.{NamesTag, ReadsName, ReadsValue, ReadsAttribute, ReadsAttributes, ReadsTagEnd}
use Rattle.reply_xml.specs.Tags.{IsName, ReadsTag, ReadsEndTag, tag_close, ends_name, NameEnds}
use Rattle.reply_xml.proofs.RunLemmas.{ReadsRun-same}
use Rattle.shared_lemmas.proofs.Clashes.{some_is_none}
use Rattle.shared_lemmas.proofs.Lists.{cons_parts as parts_same}

pub ReadsName-same : (name other bytes rest left : List ℕ) → ReadsName name bytes rest → ReadsName other bytes left
    → (other ≡ name) × (left ≡ rest)
ReadsName-same name other bytes rest left r s = ReadsRun-same sort.Name name other bytes rest left r.run s.run

-- the value at the front, by its quote
pub value_parts : (bytes rest inside value last : List ℕ) (quote : ℕ) → bytes ≡ quote ∷ inside
    → ReadsRun (sort.Value quote) value inside last → (r : ReadsValue bytes rest)
    → (r.quote ≡ quote) × (r.value ≡ value) × (last ≡ quote ∷ rest)
value_parts bytes rest inside value last quote opens run r =
    let same = parts_same r.quote quote r.at_value inside (sym r.opens ∙ opens) in
    let other : ReadsRun (sort.Value quote) r.value inside r.at_quote =
    subst (λ (b : List ℕ). ReadsRun (sort.Value quote) r.value b r.at_quote) same.1
    (subst (λ q. ReadsRun (sort.Value q) r.value r.at_value r.at_quote) same.0 r.valued) in
    let runs = ReadsRun-same (sort.Value quote) value r.value inside last r.at_quote run other in
    (same.0, runs.0, sym runs.1 ∙ r.closes ∙ ap (λ q. q ∷ rest) same.0)

pub ReadsValue-same : (bytes rest left : List ℕ) → ReadsValue bytes rest → ReadsValue bytes left → left ≡ rest
ReadsValue-same bytes rest left r s =
    let parts = value_parts bytes left r.at_value r.value r.at_quote r.quote r.opens r.valued s in
    (parts_same r.quote r.quote left rest (sym parts.2 ∙ r.closes)).1

-- what follows the name of an attribute
pub attribute_parts : (bytes rest name equals : List ℕ) → ReadsName name bytes equals → (r : ReadsAttribute bytes rest)
    → equals ≡ 61 ∷ r.at_value
attribute_parts bytes rest name equals named r =
    sym (ReadsName-same name r.name bytes equals r.at_equals named r.named).1 ∙ r.equals

pub attribute_value : (bytes rest name equals value : List ℕ) → ReadsName name bytes equals → equals ≡ 61 ∷ value
    → ReadsAttribute bytes rest → ReadsValue value rest
attribute_value bytes rest name equals value named e r =
    subst (λ (b : List ℕ). ReadsValue b rest)
    (parts_same 61 61 r.at_value value (sym (attribute_parts bytes rest name equals named r) ∙ e)).1 r.value

pub ReadsAttribute-same : (bytes rest left : List ℕ) → ReadsAttribute bytes rest → ReadsAttribute bytes left
    → left ≡ rest
ReadsAttribute-same bytes rest left r s =
    ReadsValue-same r.at_value rest left r.value
    (attribute_value bytes left r.name r.at_equals r.at_value r.named r.equals s)

-- what holds of an error, through what it implies
pub OnErr-map : {T E P Q : Type 0} (r : Result T E) → (P → Q) → OnErr r P → OnErr r Q
OnErr-map (Ok x) f h = h
OnErr-map (Err e) f h = f h

pub no_name : (name bytes rest other left : List ℕ) → ReadsRun sort.Name name bytes rest → length name ≡ 0
    → ReadsName other bytes left → ⊥
no_name name bytes rest other left run none r =
    r.some ((ReadsRun-same sort.Name name other bytes rest left run r.run).0 ∙ nil_from_length name none)

name_begins : (name bytes rest more : List ℕ) (byte : ℕ) → name ≢ [] → AllPass is_name_byte name → bytes ≡ name ++ rest
    → bytes ≡ byte ∷ more → is_name_byte byte ≡ true
name_begins [] bytes rest more byte some inside split e = absurd (some refl)
name_begins (x ∷ name) bytes rest more byte some inside split e =
    let same = parts_same x byte (name ++ rest) more (sym split ∙ e) in
    ap is_name_byte (sym same.0) ∙ All-head (λ b. is_name_byte b ≡ true) x name inside

-- where a name stands, the first byte is one of names
pub ReadsName-first : (name bytes rest more : List ℕ) (byte : ℕ) → ReadsName name bytes rest → bytes ≡ byte ∷ more
    → is_name_byte byte ≡ true
ReadsName-first name bytes rest more byte r e = name_begins name bytes rest more byte r.some r.run.inside r.run.split e

no_attribute : (bytes rest more : List ℕ) (byte : ℕ) → is_name_byte byte ≡ false → bytes ≡ byte ∷ more
    → ReadsAttribute bytes rest → ⊥
no_attribute bytes rest more byte other e r =
    false≢true (sym other ∙ ReadsName-first r.name bytes r.at_equals more byte r.named e)

-- behind white space stands the end of the tag, or an attribute
abbrev EndsOrGoesOn : Bool → (space at rest : List ℕ) → Type 0
EndsOrGoesOn closed space at rest =
    (at ≡ tag_close closed ++ rest) ⊎ ((next : List ℕ) × (space ≢ []) × ReadsAttribute at next × ReadsTagEnd closed next
    rest)

end_or_attribute : (closed : Bool) (here space at rest : List ℕ) → ReadsRun sort.Space space here at
    → (count : ℕ) (at_space other at_close : List ℕ) → ReadsAttributes count here at_space
    → ReadsRun sort.Space other at_space at_close → at_close ≡ tag_close closed ++ rest
    → EndsOrGoesOn closed space at rest
end_or_attribute closed here space at rest run zero at_space other at_close attributes last closes =
    let same = ReadsRun-same sort.Space space other here at at_close run
    (subst (λ (b : List ℕ). ReadsRun sort.Space other b at_close) attributes last) in
    inl (sym same.1 ∙ closes)
end_or_attribute closed here space at rest run (suc n) at_space other at_close attributes last closes =
    let gap = attributes.2 in
    let same = ReadsRun-same sort.Space space gap.space here at attributes.0 run gap.run in
    inr (
      attributes.1,
      λ none. gap.some (same.0 ∙ none),
      subst (λ (b : List ℕ). ReadsAttribute b attributes.1) same.1 attributes.3,
      record {
        count = n;
        at_space = at_space;
        attributes = attributes.4;
        space = other;
        at_close = at_close;
        run =
            last;
        closes = closes;
      },
    )

tag_end_cases : (closed : Bool) (here space at rest : List ℕ) → ReadsRun sort.Space space here at
    → ReadsTagEnd closed here rest → EndsOrGoesOn closed space at rest
tag_end_cases closed here space at rest run r =
    end_or_attribute closed here space at rest run r.count r.at_space r.space r.at_close r.attributes r.run r.closes

not_closed : (closed : Bool) (at rest : List ℕ) → ((more : List ℕ) → ¬ (at ≡ 62 ∷ more))
    → ((more : List ℕ) → ¬ (at ≡ 47 ∷ more)) → at ≡ tag_close closed ++ rest → ⊥
not_closed false at rest plain other e = plain rest e
not_closed true at rest plain other e = other (62 ∷ rest) e

slash_closes : (closed : Bool) (at last rest : List ℕ) → at ≡ 47 ∷ last → ((more : List ℕ) → ¬ (last ≡ 62 ∷ more))
    → at ≡ tag_close closed ++ rest → ⊥
slash_closes false at last rest e other f = eqb-false 47 62 refl (parts_same 47 62 last rest (sym e ∙ f)).0
slash_closes true at last rest e other f = other rest (parts_same 47 47 last (62 ∷ rest) (sym e ∙ f)).1

-- a `/` that no `>` follows ends no tag
pub no_tag_end-slash : (closed : Bool) (here space at last rest : List ℕ) → ReadsRun sort.Space space here at
    → at ≡ 47 ∷ last → ((more : List ℕ) → ¬ (last ≡ 62 ∷ more))
    → ReadsTagEnd closed here rest → ⊥
no_tag_end-slash closed here space at last rest run e other r =
    ⊎_elim (slash_closes closed at last rest e other) (λ more. no_attribute at more.0 last 47 refl e more.2)
    (tag_end_cases closed here space at rest run r)

-- where the tag does not end, an attribute follows
pub goes_on : (closed : Bool) (here space at rest : List ℕ) → ReadsRun sort.Space space here at
    → ((more : List ℕ) → ¬ (at ≡ 62 ∷ more)) → ((more : List ℕ) → ¬ (at ≡ 47 ∷ more))
    → ReadsTagEnd closed here rest → (next : List ℕ) × (space ≢ []) × ReadsAttribute at next × ReadsTagEnd closed next
    rest
goes_on closed here space at rest run plain other r =
    ⊎_elim (λ e. absurd (not_closed closed at rest plain other e)) (λ more. more)
    (tag_end_cases closed here space at rest run r)

pub tag_end_past : (closed : Bool) (here space at next rest : List ℕ) → ReadsRun sort.Space space here at
    → ((more : List ℕ) → ¬ (at ≡ 62 ∷ more)) → ((more : List ℕ) → ¬ (at ≡ 47 ∷ more))
    → ReadsAttribute at next → ReadsTagEnd closed here rest → ReadsTagEnd closed next rest
tag_end_past closed here space at next rest run plain other a r =
    let more = goes_on closed here space at rest run plain other r in
    subst (λ (b : List ℕ). ReadsTagEnd closed b rest) (ReadsAttribute-same at next more.0 a more.2) more.3

pub tag_end_before : (closed : Bool) (here space at next rest : List ℕ) → ReadsRun sort.Space space here at → space ≢ []
    → ReadsAttribute at next → ReadsTagEnd closed next rest → ReadsTagEnd closed here rest
tag_end_before closed here space at next rest run some a r =
    record {
      count = suc r.count;
      at_space = r.at_space;
      attributes = (at, next, record { space = space; run = run; some = some }, a, r.attributes);
      space = r.space;
      at_close = r.at_close;
      run = r.run;
      closes = r.closes;
    }

-- what holds is said of any error
pub OnErr-any : {T E Q : Type 0} (r : Result T E) → Q → OnErr r Q
OnErr-any (Ok x) q = tt
OnErr-any (Err e) q = q

-- what stands behind the name of a tag
pub tag_end_of : (closed : Bool) (name bytes at_name found at_attributes rest : List ℕ) → bytes ≡ 60 ∷ at_name
    → ReadsName found at_name at_attributes → ReadsTag closed name bytes rest
    → (name ≡ found) × ReadsTagEnd closed at_attributes rest
tag_end_of closed name bytes at_name found at_attributes rest e named r =
    let at : r.at_name ≡ at_name = (parts_same 60 60 r.at_name at_name (sym r.opens ∙ e)).1 in
    let same = ReadsName-same found name at_name at_attributes r.at_attributes named
    (subst (λ (b : List ℕ). ReadsName name b r.at_attributes) at r.named) in
    (same.0, subst (λ (b : List ℕ). ReadsTagEnd closed b rest) same.1 r.ends)

-- where an end tag closes
pub end_tag_of : (name bytes at_name found at_space space at_close rest : List ℕ) → bytes ≡ 60 ∷ 47 ∷ at_name
    → ReadsName found at_name at_space → ReadsRun sort.Space space at_space at_close
    → ReadsEndTag name bytes rest → (name ≡ found) × (at_close ≡ 62 ∷ rest)
end_tag_of name bytes at_name found at_space space at_close rest e named run r =
    let at : r.at_name ≡ at_name =
    (parts_same 47 47 r.at_name at_name (parts_same 60 60 (47 ∷ r.at_name) (47 ∷ at_name) (sym r.opens ∙ e)).1).1 in
    let same = ReadsName-same found name at_name at_space r.at_space named
    (subst (λ (b : List ℕ). ReadsName name b r.at_space) at r.named) in
    let runs = ReadsRun-same sort.Space space r.space at_space at_close r.at_close run
    (subst (λ (b : List ℕ). ReadsRun sort.Space r.space b r.at_close) same.1 r.run) in
    (same.0, sym runs.1 ∙ r.closes)

-- the name of an end tag
pub end_tag_name : (name bytes at_name found at_space rest : List ℕ) → bytes ≡ 60 ∷ 47 ∷ at_name
    → ReadsName found at_name at_space → ReadsEndTag name bytes rest → name ≡ found
end_tag_name name bytes at_name found at_space rest e named r =
    let at : r.at_name ≡ at_name =
    (parts_same 47 47 r.at_name at_name (parts_same 60 60 (47 ∷ r.at_name) (47 ∷ at_name) (sym r.opens ∙ e)).1).1 in
    (ReadsName-same found name at_name at_space r.at_space named
    (subst (λ (b : List ℕ). ReadsName name b r.at_space) at r.named)).0

-- an end tag without white space, by the place where its name ends
pub plain_end_tag : (name bytes at_slash at_name front at_close rest : List ℕ) (size : ℕ) → IsName name
    → bytes ≡ 60 ∷ at_slash → at_slash ≡ 47 ∷ at_name → front ≡ take size at_name → at_close ≡ drop size at_name
    → front ≡ name → at_close ≡ 62 ∷ rest → ReadsEndTag name bytes rest
plain_end_tag name bytes at_slash at_name front at_close rest size n opens slash before behind same closes = record {
  at_name = at_name;
  opens = opens ∙ ap (λ b. 60 ∷ b) slash;
  at_space = at_close;
  named = record {
    run = record {
      split = sym (take-append-drop size at_name) ∙ ap (λ t. t ++ drop size at_name) (sym before ∙ same)
          ∙ ap (λ t. name ++ t) (sym behind);
      inside = n.inside;
      ends = subst (BeginsOutside (is_of sort.Name)) (sym closes) refl;
    };
    some = n.some;
  };
  space = [];
  at_close = at_close;
  run = record {
    split = refl;
    inside = All-nil (λ b. is_of sort.Space b ≡ true);
    ends = subst (BeginsOutside (is_of sort.Space)) (sym closes) refl;
  };
  closes = closes;
}

close_same : (closed other : Bool) (rest left : List ℕ) → tag_close closed ++ rest ≡ tag_close other ++ left
    → (other ≡ closed) × (left ≡ rest)
close_same false false rest left e = (refl, sym (parts_same 62 62 rest left e).1)
close_same false true rest left e = absurd (eqb-false 62 47 refl (parts_same 62 47 rest (62 ∷ left) e).0)
close_same true false rest left e = absurd (eqb-false 47 62 refl (parts_same 47 62 (62 ∷ rest) left e).0)
close_same true true rest left e =
    (refl, sym (parts_same 62 62 rest left (parts_same 47 47 (62 ∷ rest) (62 ∷ left) e).1).1)

no_attribute_at_close : (closed : Bool) (at next rest : List ℕ) → at ≡ tag_close closed ++ rest → ReadsAttribute at next
    → ⊥
no_attribute_at_close false at next rest e r = no_attribute at next rest 62 refl e r
no_attribute_at_close true at next rest e r = no_attribute at next (62 ∷ rest) 47 refl e r

tag_end_same : (closed other : Bool) (rest left : List ℕ) (count : ℕ) (here at_space space at_close : List ℕ)
    → ReadsAttributes count here at_space → ReadsRun sort.Space space at_space at_close
    → at_close ≡ tag_close closed ++ rest → ReadsTagEnd other here left → (other ≡ closed) × (left ≡ rest)
tag_end_same closed other rest left zero here at_space space at_close attributes run closes s =
    ⊎_elim (λ e. close_same closed other rest left (sym closes ∙ e))
    (λ more. absurd (no_attribute_at_close closed at_close more.0 rest closes more.2))
    (tag_end_cases other here space at_close left
    (subst (λ (b : List ℕ). ReadsRun sort.Space space b at_close) attributes run) s)
tag_end_same closed other rest left (suc n) here at_space space at_close attributes run closes s =
    ⊎_elim (λ e. absurd (no_attribute_at_close other attributes.0 attributes.1 left e attributes.3))
    (λ more. tag_end_same closed other rest left n attributes.1 at_space space at_close attributes.4 run closes
    (subst (λ (b : List ℕ). ReadsTagEnd other b left)
    (ReadsAttribute-same attributes.0 attributes.1 more.0 attributes.3 more.2) more.3))
    (tag_end_cases other here attributes.2.space attributes.0 left attributes.2.run s)

pub ReadsTag-same : (closed other : Bool) (name found bytes rest left : List ℕ) → ReadsTag closed name bytes rest
    → ReadsTag other found bytes left → (other ≡ closed) × (found ≡ name) × (left ≡ rest)
ReadsTag-same closed other name found bytes rest left r s =
    let end = tag_end_of other found bytes r.at_name name r.at_attributes left r.opens r.named s in
    let same = tag_end_same closed other rest left r.ends.count r.at_attributes r.ends.at_space r.ends.space
    r.ends.at_close r.ends.attributes r.ends.run r.ends.closes end.1 in
    (same.0, end.0, same.1)

pub ReadsEndTag-same : (name found bytes rest left : List ℕ) → ReadsEndTag name bytes rest
    → ReadsEndTag found bytes left → (found ≡ name) × (left ≡ rest)
ReadsEndTag-same name found bytes rest left r s =
    let end = end_tag_of found bytes r.at_name name r.at_space r.space r.at_close left r.opens r.named r.run s in
    (end.0, sym (parts_same 62 62 rest left (sym r.closes ∙ end.1)).1)

-- no bytes begin with an end tag and with another
pub tag_or_end : (closed : Bool) (name found bytes rest left : List ℕ) → ReadsTag closed name bytes rest
    → ReadsEndTag found bytes left → ⊥
tag_or_end closed name found bytes rest left r s =
    let at : r.at_name ≡ 47 ∷ s.at_name = (parts_same 60 60 r.at_name (47 ∷ s.at_name) (sym r.opens ∙ s.opens)).1 in
    false≢true (ReadsName-first name r.at_name r.at_attributes s.at_name 47 r.named at)

-- no tag begins where an end tag does
pub tag_at_end : (closed : Bool) (name bytes rest more : List ℕ) → bytes ≡ 60 ∷ 47 ∷ more
    → ReadsTag closed name bytes rest → ⊥
tag_at_end closed name bytes rest more e r =
    false≢true (ReadsName-first name r.at_name r.at_attributes more 47 r.named
    (parts_same 60 60 r.at_name (47 ∷ more) (sym r.opens ∙ e)).1)

pub ReadsTagEnd-same : (closed other : Bool) (bytes rest left : List ℕ) → ReadsTagEnd closed bytes rest
    → ReadsTagEnd other bytes left → (other ≡ closed) × (left ≡ rest)
ReadsTagEnd-same closed other bytes rest left r s =
    tag_end_same closed other rest left r.count bytes r.at_space r.space r.at_close r.attributes r.run r.closes s

-- no bytes begin with a start tag's name and with an end tag
pub name_or_end : (name found bytes rest left : List ℕ) → NamesTag name bytes rest → ReadsEndTag found bytes left → ⊥
name_or_end name found bytes rest left r s =
    let at : r.at_name ≡ 47 ∷ s.at_name = (parts_same 60 60 r.at_name (47 ∷ s.at_name) (sym r.opens ∙ s.opens)).1 in
    false≢true (ReadsName-first name r.at_name rest s.at_name 47 r.named at)

space_ends : (byte : ℕ) → is_space byte ≡ true → ends_name byte ≡ true
space_ends byte e = ap (λ b. b || (byte == 47 || byte == 62)) e

gap_first : (gap here at : List ℕ) → ReadsRun sort.Space gap here at → gap ≢ []
    → (byte : ℕ) × (more : List ℕ) × (here ≡ byte ∷ more) × (ends_name byte ≡ true)
gap_first [] here at r some = absurd (some refl)
gap_first (x ∷ gap) here at r some =
    (x, gap ++ at, r.split, space_ends x (All-head (λ b. is_space b ≡ true) x gap r.inside))

-- behind the name of a tag stands white space or its end
tag_end_first : (closed : Bool) (count : ℕ) (bytes at_space space at_close rest : List ℕ)
    → ReadsAttributes count bytes at_space → ReadsRun sort.Space space at_space at_close
    → at_close ≡ tag_close closed ++ rest
    → (byte : ℕ) × (more : List ℕ) × (bytes ≡ byte ∷ more) × (ends_name byte ≡ true)
tag_end_first false zero bytes at_space [] at_close rest a run e = (62, rest, sym a ∙ run.split ∙ e, refl)
tag_end_first true zero bytes at_space [] at_close rest a run e = (47, 62 ∷ rest, sym a ∙ run.split ∙ e, refl)
tag_end_first closed zero bytes at_space (x ∷ space) at_close rest a run e =
    (x, space ++ at_close, sym a ∙ run.split, space_ends x (All-head (λ b. is_space b ≡ true) x space run.inside))
tag_end_first closed (suc n) bytes at_space space at_close rest a run e = gap_first a.2.space bytes a.0 a.2.run a.2.some

pub ReadsTagEnd-first : (closed : Bool) (bytes rest : List ℕ) → ReadsTagEnd closed bytes rest
    → (byte : ℕ) × (more : List ℕ) × (bytes ≡ byte ∷ more) × (ends_name byte ≡ true)
ReadsTagEnd-first closed bytes rest r =
    tag_end_first closed r.count bytes r.at_space r.space r.at_close rest r.attributes r.run r.closes

pub no_tag_end-first : (bytes more : List ℕ) (byte : ℕ) → bytes ≡ byte ∷ more → ends_name byte ≡ false
    → (closed : Bool) (rest : List ℕ) → ReadsTagEnd closed bytes rest → ⊥
no_tag_end-first bytes more byte e other closed rest r =
    let first = ReadsTagEnd-first closed bytes rest r in
    false≢true (sym other ∙ ap ends_name (parts_same byte first.0 more first.1 (sym e ∙ first.2)).0 ∙ first.3)

pub no_tag_end-none : (bytes : List ℕ) → bytes ≡ [] → (closed : Bool) (rest : List ℕ) → ReadsTagEnd closed bytes rest
    → ⊥
no_tag_end-none bytes e closed rest r = let first =
    ReadsTagEnd-first closed bytes rest r in nothing first.0 first.1 (sym first.2 ∙ e)
  where
    nothing : (x : ℕ) (xs : List ℕ) → x ∷ xs ≡ [] → ⊥
    nothing x xs f = cc

pub first_of : (bytes : List ℕ) (x : ℕ) → Some x ≡ slice_get bytes 0 → (more : List ℕ) × (bytes ≡ x ∷ more)
first_of [] x e = absurd (some_is_none x e)
first_of (y ∷ ys) x e = (ys, ap (λ z. z ∷ ys) (sym (same_Some x y e)))

pub first_none : (bytes : List ℕ) → None ≡ slice_get bytes 0 → bytes ≡ []
first_none [] e = refl
first_none (y ∷ ys) e = absurd (some_is_none y (sym e))

-- one name stands at the front of a tag
pub NamesTag-of : (name bytes at_name found rest left : List ℕ) → bytes ≡ 60 ∷ at_name → ReadsName found at_name left
    → NamesTag name bytes rest → (name ≡ found) × (rest ≡ left)
NamesTag-of name bytes at_name found rest left e named n =
    let at : n.at_name ≡ at_name = (parts_same 60 60 n.at_name at_name (sym n.opens ∙ e)).1 in
    ReadsName-same found name at_name left rest named (subst (λ (b : List ℕ). ReadsName name b rest) at n.named)

pub named_so : (name other bytes rest : List ℕ) → name ≡ other → NamesTag name bytes rest → NamesTag other bytes rest
named_so name other bytes rest same names = subst (λ (n : List ℕ). NamesTag n bytes rest) same names

pub NamesTag-same : (name other bytes rest left : List ℕ) → NamesTag name bytes rest → NamesTag other bytes left
    → (other ≡ name) × (left ≡ rest)
NamesTag-same name other bytes rest left n m = NamesTag-of other bytes n.at_name name left rest n.opens n.named m

-- where nothing stands, or a byte that ends no name
pub no_name_end-none : (bytes : List ℕ) → bytes ≡ [] → NameEnds bytes → ⊥
no_name_end-none bytes e n = nothing n.0 n.1 (sym n.2 ∙ e)
  where
    nothing : (x : ℕ) (xs : List ℕ) → x ∷ xs ≡ [] → ⊥
    nothing x xs f = cc

pub no_name_end-first : (bytes more : List ℕ) (byte : ℕ) → bytes ≡ byte ∷ more → ends_name byte ≡ false → NameEnds bytes
    → ⊥
no_name_end-first bytes more byte e other n =
    false≢true (sym other ∙ ap ends_name (parts_same byte n.0 more n.1 (sym e ∙ n.2)).0 ∙ n.3)

-- an answer that is this error
pub err_given : {U : Type 0} (r : Result U ℕ) (e f : ℕ) → IsErrAnd r (λ d. d ≡ e) → e ≡ f → r ≡ Err f
err_given (Ok x) e f h same = absurd h
err_given (Err d) e f h same = ap Err (h ∙ same)

-- what holds of any error
pub IfErr-any : {T E : Type 0} {P : E → Type 0} (r : Result T E) → ((e : E) → P e) → IfErr r P
IfErr-any (Ok x) f = tt
IfErr-any (Err e) f = f e
