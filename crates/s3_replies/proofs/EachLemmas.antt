-- Elements of one name, each with a value, as they are found one after another.
use Rattle.std.proofs.Common.{◌≡◌, ◌++◌, ◌∙◌, ◌↔◌, ℕ, true, List, [], ◌∷◌, sym, refl, subst, ap}
use Rattle.std.proofs.lemmas.List.{append_assoc, append-nil}
use Rattle.reply_xml.specs.declared.elements.Element.{Element}
use Rattle.reply_xml.specs.declared.tags.Child.{Child}
use Rattle.reply_xml.specs.Contents.{Content, is_the, named}
use Rattle.reply_xml.specs.Children.{Each}
use Rattle.reply_xml.specs.Reading.{ReadsAs, ReadsNone, Advances, Stops, EachLeft}
use Rattle.reply_xml.proofs.ChildLemmas.{named_here}

each_first : {V : Type 0} (P : Content → V → Type 0) (c : Content) (cs : List Content) (vs : List V)
    → Each P (c ∷ cs) vs → (v : V) × (more : List V) × (vs ≡ v ∷ more) × P c v × Each P cs more
each_first P c cs [] e = absurd e
each_first P c cs (v ∷ vs) e = (v, vs, refl, e.0, e.1)

each_here : {V : Type 0} (P : Content → V → Type 0) (rows : List V) (inner : Content) (contents : List Content) (x : V)
    (values : List V) → P inner x → ((y : V) → P inner y → y ≡ x)
    → EachLeft P rows (inner ∷ contents) values ↔ EachLeft P (rows ++ x ∷ []) contents values
each_here {V} P rows inner contents x values holds alone = (
  λ l. let f = each_first P inner contents l.0 l.2 in (
    f.1,
    l.1 ∙ ap (λ vs. rows ++ vs) (f.2 ∙ ap (λ y. y ∷ f.1) (alone f.0 f.3))
        ∙ sym (append_assoc rows (x ∷ []) f.1),
    f.4,
  ),
  λ l. (x ∷ l.0, l.1 ∙ append_assoc rows (x ∷ []) l.0, (holds, l.2)),
)

pub each_advanced : {V : Type 0} (P : Content → V → Type 0) (of : Element) (rows now : List V) (child : Child)
    (bytes rest : List ℕ) (x : V) → is_the of child.element ≡ true → now ≡ rows ++ x ∷ []
    → ((c : Content) (v w : V) → P c v → P c w → w ≡ v) → ReadsAs P child bytes rest x
    → Advances (λ c vs. EachLeft P rows (named of c) vs) (λ c vs. EachLeft P now (named of c) vs) child bytes rest
each_advanced {V} P of rows now child bytes rest x h e alone r = (
  r.0,
  r.1,
  λ text more values. let here = each_here P rows r.0 (named of more) x values r.2 (λ y p. alone r.0 x y r.2 p) in
      let at = named_here of text child.element r.0 more h in (
        λ l. subst (λ (vs : List V). EachLeft P vs (named of more) values) (sym e)
            (here.0 (subst (λ (cs : List Content). EachLeft P rows cs values) at l)),
        λ l. subst (λ (cs : List Content). EachLeft P rows cs values) (sym at)
            (here.1 (subst (λ (vs : List V). EachLeft P vs (named of more) values) e l)),
      ),
)

pub each_stopped : {V : Type 0} (P : Content → V → Type 0) (of : Element) (rows : List V) (child : Child)
    (bytes : List ℕ) → is_the of child.element ≡ true → ReadsNone P child bytes
    → Stops (λ c vs. EachLeft P rows (named of c) vs) child bytes
each_stopped P of rows child bytes h none inner rest text more values r l =
    let f = each_first P inner (named of more) l.0
    (subst (λ (cs : List Content). Each P cs l.0) (named_here of text child.element inner more h) l.2) in
    none rest f.0 (inner, r, f.3)

-- at the start nothing is found, and at the end nothing is left
pub each_start : {V : Type 0} (P : Content → V → Type 0) (rows : List V) (contents : List Content) (values : List V)
    → rows ≡ [] → Each P contents values ↔ EachLeft P rows contents values
each_start {V} P rows contents values e = (
  λ h. (values, ap (λ vs. vs ++ values) (sym e), h),
  λ l. subst (λ (vs : List V). Each P contents vs) (sym (l.1 ∙ ap (λ vs. vs ++ l.0) e)) l.2,
)

each_none : {V : Type 0} (P : Content → V → Type 0) (vs : List V) → Each P [] vs → vs ≡ []
each_none P [] e = refl
each_none P (v ∷ vs) e = absurd e

pub each_end : {V : Type 0} (P : Content → V → Type 0) (rows values : List V)
    → EachLeft P rows [] values ↔ (values ≡ rows)
each_end P rows values = (
  λ l. l.1 ∙ ap (λ vs. rows ++ vs) (each_none P l.0 l.2) ∙ append-nil rows,
  λ e. ([], e ∙ sym (append-nil rows), tt),
)

pub Each-same : {V : Type 0} (P : Content → V → Type 0) → ((c : Content) (v w : V) → P c v → P c w → w ≡ v)
    → (cs : List Content) (vs ws : List V) → Each P cs vs → Each P cs ws → ws ≡ vs
Each-same P alone [] [] [] r s = refl
Each-same P alone [] [] (w ∷ ws) r s = absurd s
Each-same P alone [] (v ∷ vs) ws r s = absurd r
Each-same P alone (c ∷ cs) [] ws r s = absurd r
Each-same P alone (c ∷ cs) (v ∷ vs) [] r s = absurd s
Each-same P alone (c ∷ cs) (v ∷ vs) (w ∷ ws) r s =
    ap (λ x. x ∷ ws) (alone c v w r.0 s.0) ∙ ap (λ xs. v ∷ xs) (Each-same P alone cs vs ws r.1 s.1)

pub each_started : {V : Type 0} (P : Content → V → Type 0) (of : Element) (rows : List V) (child : Child)
    (bytes rest : List ℕ) (values : List V) → rows ≡ []
    → ReadsAs (λ c vs. Each P (named of c) vs) child bytes rest values ↔ ReadsAs
    (λ c vs. EachLeft P rows (named of c) vs) child bytes rest values
each_started P of rows child bytes rest values e = (
  λ r. (r.0, r.1, (each_start P rows (named of r.0) values e).0 r.2),
  λ r. (r.0, r.1, (each_start P rows (named of r.0) values e).1 r.2),
)
