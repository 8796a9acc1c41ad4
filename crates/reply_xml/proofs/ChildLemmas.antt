-- Elements by their names, as they are found one after another.
use Rattle.std.proofs.Common.{◌≡◌, ◌∙◌, ◌↔◌, ℕ, true, false, nat_eq, List, [], ◌∷◌, Option, Some, None, sym, refl}
use Rattle.std.proofs.Common.{subst, ap, if◌then◌else◌}
use Rattle.std.proofs.lemmas.Bool.{eqb-true}
use Rattle.reply_xml.specs.declared.elements.Element.{Element}
use Rattle.reply_xml.specs.Contents.{Content, Then, row_of, is_the, named}
use Rattle.reply_xml.specs.Children.{Once, IsLeafOf, IsFormed}
use Rattle.reply_xml.specs.Reading.{OnceLeft}
use Rattle.reply_xml.proofs.LeafLemmas.{IsLeaf-same}

pub named_here : (e : Element) (text : List ℕ) (child : Option Element) (inner more : Content) → is_the e child ≡ true
    → named e (Then text child inner more) ≡ inner ∷ named e more
named_here e text child inner more h = ap (λ b. if b then inner ∷ named e more else named e more) h

pub named_past : (e : Element) (text : List ℕ) (child : Option Element) (inner more : Content) → is_the e child ≡ false
    → named e (Then text child inner more) ≡ named e more
named_past e text child inner more h = ap (λ b. if b then inner ∷ named e more else named e more) h

-- an element is not another one
pub is_other : (e f : Element) (child : Option Element) → is_the e child ≡ true → nat_eq (row_of f) (row_of e) ≡ false
    → is_the f child ≡ false
is_other e f None h apart = refl
is_other e f (Some child) h apart =
    ap (λ n. nat_eq (row_of f) n) (sym (eqb-true (row_of e) (row_of child) h)) ∙ apart

pub content_same : (c d : Content) (cs ds : List Content) → c ∷ cs ≡ d ∷ ds → (c ≡ d) × (cs ≡ ds)
content_same c d cs ds e = (cc, cc)

pub nothing_there : (c : Content) (cs : List Content) → c ∷ cs ≡ [] → ⊥
nothing_there c cs e = cc

-- one more of an element that stands once, by the contents of that name
here_at : {V : Type 0} (P : Content → V → Type 0) (inner : Content) (contents all : List Content) (x v : V)
    → all ≡ inner ∷ contents → P inner x → ((y : V) → P inner y → y ≡ x)
    → OnceLeft P None all v ↔ OnceLeft P (Some x) contents v
here_at {V} P inner contents all x v e holds alone = (
  λ o. let same = content_same inner o.0 contents [] (sym e ∙ o.1) in
      (same.1, alone v (subst (λ (c : Content). P c v) (sym same.0) o.2)),
  λ o. (inner, e ∙ ap (λ cs. inner ∷ cs) o.0, subst (λ (w : V). P inner w) (sym o.1) holds),
)

pub once_here : {V : Type 0} (P : Content → V → Type 0) (e : Element) (text : List ℕ) (child : Option Element)
    (inner more : Content) (x v : V) → is_the e child ≡ true
    → P inner x → ((y : V) → P inner y → y ≡ x) → OnceLeft P None (named e (Then text child inner more)) v ↔ OnceLeft P
    (Some x) (named e more) v
once_here P e text child inner more x v h holds alone =
    here_at P inner (named e more) (named e (Then text child inner more)) x v (named_here e text child inner more h)
    holds alone

pub once_past : {V : Type 0} (P : Content → V → Type 0) (e : Element) (text : List ℕ) (child : Option Element)
    (inner more : Content) (found : Option V) (v : V) → is_the e child ≡ false
    → OnceLeft P found (named e (Then text child inner more)) v ↔ OnceLeft P found (named e more) v
once_past P e text child inner more found v h = (
  λ o. subst (λ (cs : List Content). OnceLeft P found cs v) (named_past e text child inner more h) o,
  λ o. subst (λ (cs : List Content). OnceLeft P found cs v) (sym (named_past e text child inner more h)) o,
)

-- a second one, or one without a value
pub once_twice : {V : Type 0} (P : Content → V → Type 0) (e : Element) (text : List ℕ) (child : Option Element)
    (inner more : Content) (x v : V) → is_the e child ≡ true
    → OnceLeft P (Some x) (named e (Then text child inner more)) v → ⊥
once_twice P e text child inner more x v h o =
    nothing_there inner (named e more) (sym (named_here e text child inner more h) ∙ o.0)

pub once_bad : {V : Type 0} (P : Content → V → Type 0) (e : Element) (text : List ℕ) (child : Option Element)
    (inner more : Content) (v : V) → is_the e child ≡ true
    → ((y : V) → ¬ (P inner y)) → OnceLeft P None (named e (Then text child inner more)) v → ⊥
once_bad P e text child inner more v h none o =
    let same = content_same inner o.0 (named e more) [] (sym (named_here e text child inner more h) ∙ o.1) in
    none v (subst (λ (c : Content). P c v) (sym same.0) o.2)

pub once_missing : {V : Type 0} (P : Content → V → Type 0) (v : V) → OnceLeft P None [] v → ⊥
once_missing P v o = nothing_there o.0 [] (sym o.1)

-- a leaf has one value, where its text has one
pub IsLeafOf-same : {V : Type 0} (Spells : List ℕ → V → Type 0)
    → ((text : List ℕ) (v w : V) → Spells text v → Spells text w → w ≡ v) → (c : Content) (v w : V)
    → IsLeafOf Spells c v → IsLeafOf Spells c w → w ≡ v
IsLeafOf-same {V} Spells alone c v w r s =
    alone r.0 v w r.2 (subst (λ (t : List ℕ). Spells t w) (IsLeaf-same c r.0 s.0 r.1 s.1) s.2)

pub IsFormed-same : (of : Element) (text v w : List ℕ) → IsFormed of text v → IsFormed of text w → w ≡ v
IsFormed-same of text v w r s = s.0 ∙ sym r.0

-- one element has one value
pub Once-same : {V : Type 0} (P : Content → V → Type 0) → ((c : Content) (v w : V) → P c v → P c w → w ≡ v)
    → (contents : List Content) (v w : V) → Once P contents v → Once P contents w → w ≡ v
Once-same {V} P alone contents v w r s =
    let same = content_same s.0 r.0 [] [] (sym s.1 ∙ r.1) in
    alone r.0 v w r.2 (subst (λ (c : Content). P c w) same.0 s.2)

pub leaf_same : {V : Type 0} (Spells : List ℕ → V → Type 0) → ((text : List ℕ) (v w : V) → Spells text v → Spells text w
    → w ≡ v) → (contents : List Content) (v w : V)
    → Once (IsLeafOf Spells) contents v → Once (IsLeafOf Spells) contents w → w ≡ v
leaf_same Spells alone contents v w r s = Once-same (IsLeafOf Spells) (IsLeafOf-same Spells alone) contents v w r s
