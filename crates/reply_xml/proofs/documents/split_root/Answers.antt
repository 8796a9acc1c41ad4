use Rattle.std.proofs.Common.{arith, ◌-◌, inl, inr, refl, sym, ap, length, Err, ◌∷◌, ◌∙◌, subst, ℕ, List, Bool}
use Rattle.reply_xml.proofs.TagLemmas.{named_so}
use Rattle.reply_xml.specs.Leaves.{LeavesDeclaration, LeavesStart, NoNameEnd, NoTag, NoTagName}
use Rattle.reply_xml.specs.Places.{BeginsOtherwise}
use Rattle.reply_xml.proofs.LeaveLemmas.{leaves_past}
use Rattle.reply_xml.proofs.TagLemmas.{OnErr-any, NamesTag-same, err_given}
use Rattle.reply_xml.specs.Documents.{BeginsDocument, MayDeclare, NamesRoot}
use Rattle.reply_xml.proofs.DocumentLemmas.{declared_at, root_at, other_root, NamesRoot-declared}
use Rattle.reply_xml.proofs.DocumentLemmas.{NamesRoot-tag, reached, reached_declared, reaches}
use Rattle.reply_xml.specs.Runs.{ReadsRun}
use Rattle.reply_xml.specs.Tags.{NameEnds, NamesTag}
use Rattle.reply_xml.specs.declared.runs.Sort.TheVariants as sort
use Rattle.reply_xml.proofs.FaultLemmas.{not_err}
use Rattle.reply_xml.proofs.documents.split_root.Goals as goal
use Rattle.shared_lemmas.proofs.Clashes.{err_is}

named_root : (name doc space at at_space between at_root rest : List ℕ) → ReadsRun sort.Space space doc at
    → MayDeclare at at_space → ReadsRun sort.Space between at_space at_root
    → NamesTag name at_root rest → NamesRoot name doc rest
named_root name doc space at at_space between at_root rest run declared gap tag =
    record {
      at_declaration = at;
      before = (space, run);
      at_space = at_space;
      declared = declared;
      at_root = at_root;
      between = (between, gap);
      names = tag;
    }

pub returns-in_err-at_space-clause-refused : goal.returns-in_err-at_space-clause-refused
returns-in_err-at_space-clause-refused c =
    let none : (closed : Bool) (rest : List ℕ) → BeginsDocument c.args.root.now c.args.doc.now closed rest → ⊥ =
    λ closed rest b. c.in_err-at_space.ensures.refused b.at_space
    (declared_at c.args.root.now _ _ _ rest closed c.split_run.ensures.value b) in
    OnErr-any c.from_residual.result none

pub returns-in_err-name-clause-refused : goal.returns-in_err-name-clause-refused
returns-in_err-name-clause-refused c =
    let none : (closed : Bool) (rest : List ℕ) → BeginsDocument c.args.root.now c.args.doc.now closed rest → ⊥ =
    λ closed rest b. c.in_err-name.ensures.refused closed c.args.root.now rest
    (root_at c.args.root.now _ _ _ _ _ _ rest closed c.split_run.ensures.value c.in_ok-at_space.ensures.value
    c.split_run-2.ensures.value b) in
    OnErr-any c.from_residual-in_err-name.result none

pub returns-then-not-is_same-clause-refused : goal.returns-then-not-is_same-clause-refused
returns-then-not-is_same-clause-refused c closed rest b =
    let tag = root_at c.args.root.now _ _ _ _ _ _ rest closed c.split_run.ensures.value c.in_ok-at_space.ensures.value
    c.split_run-2.ensures.value b in
    c.if-not-is_same.ensures (sym (other_root c.args.root.now _ _ _ rest closed c.in_ok-name.ensures.value tag)
    ∙ sym c.as_bytes.ensures.value)

pub returns-in_err-at_space-clause-other : goal.returns-in_err-at_space-clause-other
returns-in_err-at_space-clause-other c place o =
    absurd
    (c.in_err-at_space.ensures.refused o.names.at_space
    (NamesRoot-declared o.name _ _ _ o.rest c.split_run.ensures.value o.names))

pub returns-in_err-name-clause-other : goal.returns-in_err-name-clause-other
returns-in_err-name-clause-other c place o =
    let tag = NamesRoot-tag o.name _ _ _ _ _ _ o.rest c.split_run.ensures.value c.in_ok-at_space.ensures.value
    c.split_run-2.ensures.value o.names in
    err_given c.from_residual-in_err-name.result c.in_err-name.field-0.0 (length o.rest) c.from_residual-in_err-name.ensures.1
    (c.in_err-name.ensures.named o.name o.rest tag)

pub returns-then-not-is_same-clause-other : goal.returns-then-not-is_same-clause-other
returns-then-not-is_same-clause-other c place o =
    let tag = NamesRoot-tag o.name _ _ _ _ _ _ o.rest c.split_run.ensures.value c.in_ok-at_space.ensures.value
    c.split_run-2.ensures.value o.names in
    ap (λ (rest : List ℕ). Err (length rest)) (sym (NamesTag-same _ o.name _ _ o.rest c.in_ok-name.ensures.value tag).1)

pub returns-clause-other : goal.returns-clause-other
returns-clause-other c place o =
    let tag = NamesRoot-tag o.name _ _ _ _ _ _ o.rest c.split_run.ensures.value c.in_ok-at_space.ensures.value
    c.split_run-2.ensures.value o.names in
    let same = NamesTag-same _ o.name _ _ o.rest c.in_ok-name.ensures.value tag in
    absurd (o.differs (subst NameEnds (sym same.1) c.in_ok-name.ensures.ended)
    (same.0 ∙ c.if-not-is_same.ensures ∙ c.as_bytes.ensures.value))

pub returns-in_err-at_space-clause-bare : goal.returns-in_err-at_space-clause-bare
returns-in_err-at_space-clause-bare c place l =
    absurd
    (c.in_err-at_space.ensures.refused l.reaches.at_space
    (reached_declared _ _ _ l.rest c.split_run.ensures.value l.reaches))

pub returns-in_err-name-clause-bare : goal.returns-in_err-name-clause-bare
returns-in_err-name-clause-bare c place l =
    let there = reached c.args.doc.now _ _ _ _ _ l.rest c.split_run.ensures.value c.in_ok-at_space.ensures.value
    c.split_run-2.ensures.value l.reaches in
    err_given c.from_residual-in_err-name.result c.in_err-name.field-0.0 (length l.rest) c.from_residual-in_err-name.ensures.1
    (err_is _ _ (c.in_err-name.ensures.bare (λ more e. l.none more (there ∙ e))) ∙ ap length (sym there))

pub returns-then-not-is_same-clause-bare : goal.returns-then-not-is_same-clause-bare
returns-then-not-is_same-clause-bare c place l =
    let there = reached c.args.doc.now _ _ _ _ _ l.rest c.split_run.ensures.value c.in_ok-at_space.ensures.value
    c.split_run-2.ensures.value l.reaches in
    absurd (not_err _ _ (c.in_ok-name.ensures.bare (λ more e. l.none more (there ∙ e))))

pub returns-clause-bare : goal.returns-clause-bare
returns-clause-bare c place l =
    let there = reached c.args.doc.now _ _ _ _ _ l.rest c.split_run.ensures.value c.in_ok-at_space.ensures.value
    c.split_run-2.ensures.value l.reaches in
    absurd (not_err _ _ (c.in_ok-name.ensures.bare (λ more e. l.none more (there ∙ e))))

pub returns-in_err-at_space-clause-nameless : goal.returns-in_err-at_space-clause-nameless
returns-in_err-at_space-clause-nameless c place l =
    absurd
    (c.in_err-at_space.ensures.refused l.reaches.at_space
    (reached_declared _ _ _ (60 ∷ l.rest) c.split_run.ensures.value l.reaches))

pub returns-in_err-name-clause-nameless : goal.returns-in_err-name-clause-nameless
returns-in_err-name-clause-nameless c place l =
    let there = reached c.args.doc.now _ _ _ _ _ (60 ∷ l.rest) c.split_run.ensures.value c.in_ok-at_space.ensures.value
    c.split_run-2.ensures.value l.reaches in
    err_given c.from_residual-in_err-name.result c.in_err-name.field-0.0 (length l.rest) c.from_residual-in_err-name.ensures.1
    (err_is _ _ (c.in_err-name.ensures.nameless l.rest (sym there) l.unnamed))

pub returns-then-not-is_same-clause-nameless : goal.returns-then-not-is_same-clause-nameless
returns-then-not-is_same-clause-nameless c place l =
    let there = reached c.args.doc.now _ _ _ _ _ (60 ∷ l.rest) c.split_run.ensures.value c.in_ok-at_space.ensures.value
    c.split_run-2.ensures.value l.reaches in
    absurd (not_err _ _ (c.in_ok-name.ensures.nameless l.rest (sym there) l.unnamed))

pub returns-clause-nameless : goal.returns-clause-nameless
returns-clause-nameless c place l =
    let there = reached c.args.doc.now _ _ _ _ _ (60 ∷ l.rest) c.split_run.ensures.value c.in_ok-at_space.ensures.value
    c.split_run-2.ensures.value l.reaches in
    absurd (not_err _ _ (c.in_ok-name.ensures.nameless l.rest (sym there) l.unnamed))

-- no root begins behind the declaration
start_fails : (root doc space at at_space between at_root : List ℕ) (left : ℕ) → ReadsRun sort.Space space doc at
    → MayDeclare at at_space
    → ReadsRun sort.Space between at_space at_root → LeavesStart at_root left
    → BeginsOtherwise root doc (length doc - left)
start_fails root doc space at at_space between at_root left run declared gap (NoTag lacks is) =
    inr
    (
    inl
    (record {
      rest = at_root;
      reaches = reaches doc space at at_space between at_root run declared gap;
      none = lacks;
      at = ap (λ n. length doc - n) is;
    })
    )
start_fails root doc space at at_space between at_root left run declared gap (NoTagName more opens name) =
    inr
    (
    inr
    (record {
      rest = more;
      reaches = reaches doc space at at_space between (60 ∷ more) run declared
          (subst (λ (t : List ℕ). ReadsRun sort.Space between at_space t) opens gap);
      unnamed = name.outside;
      at = ap (λ n. length doc - n) name.at;
    })
    )
start_fails root doc space at at_space between at_root left run declared gap (NoNameEnd name rest names ends is) =
    inl
    (record {
      name = name;
      rest = rest;
      names = named_root name doc space at at_space between at_root rest run declared gap names;
      differs = λ end. absurd (ends end);
      at = ap (λ n. length doc - n) is;
    })

pub returns-in_err-at_space-clause-fails : goal.returns-in_err-at_space-clause-fails
returns-in_err-at_space-clause-fails c =
    leaves_past {P = LeavesDeclaration c.split_run.result.1.now} c.from_residual.result c.in_err-at_space.field-0.0
    c.from_residual.ensures.1
    (
    λ left l. inr
    (record {
      rest = c.split_run.result.1.now;
      before = (c.split_run.result.0.now, c.split_run.ensures.value);
      left = left;
      leaves = l;
      at = refl;
    })
    )
    c.in_err-at_space.ensures.leaves

pub returns-in_err-name-clause-fails : goal.returns-in_err-name-clause-fails
returns-in_err-name-clause-fails c =
    leaves_past c.from_residual-in_err-name.result c.in_err-name.field-0.0 c.from_residual-in_err-name.ensures.1
    (λ left l. inl
    (start_fails c.args.root.now c.args.doc.now _ _ _ _ _ left c.split_run.ensures.value c.in_ok-at_space.ensures.value
    c.split_run-2.ensures.value l))
    c.in_err-name.ensures.leaves

pub returns-then-not-is_same-clause-fails : goal.returns-then-not-is_same-clause-fails
returns-then-not-is_same-clause-fails c =
    inl
    (
    inl
    (record {
      name = _;
      rest = _;
      names = named_root _ _ _ _ _ _ _ _ c.split_run.ensures.value c.in_ok-at_space.ensures.value
          c.split_run-2.ensures.value c.in_ok-name.ensures.value;
      differs = λ ends same. c.if-not-is_same.ensures (same ∙ sym c.as_bytes.ensures.value);
      at = refl;
    })
    )

pub returns-then-not-is_same-clause-left : goal.returns-then-not-is_same-clause-left
returns-then-not-is_same-clause-left c =
    omega (
      arith,
      c.split_run.ensures.shorter,
      c.in_ok-at_space.ensures.shorter,
      c.split_run-2.ensures.shorter,
      c.in_ok-name.ensures.shorter,
    )

pub returns-clause-shorter : goal.returns-clause-shorter
returns-clause-shorter c =
    omega (
      arith,
      c.split_run.ensures.shorter,
      c.in_ok-at_space.ensures.shorter,
      c.split_run-2.ensures.shorter,
      c.in_ok-name.ensures.shorter,
    )

pub returns-clause-value : goal.returns-clause-value
returns-clause-value c = record {
  at_declaration = c.split_run.result.1.now;
  before = (c.split_run.result.0.now, c.split_run.ensures.value);
  at_space = c.in_ok-at_space.at_space.now;
  declared = c.in_ok-at_space.ensures.value;
  at_root = c.split_run-2.result.1.now;
  between = (c.split_run-2.result.0.now, c.split_run-2.ensures.value);
  names = named_so _ _ _ _ (c.if-not-is_same.ensures ∙ c.as_bytes.ensures.value) c.in_ok-name.ensures.value;
}

pub returns-clause-named : goal.returns-clause-named
returns-clause-named c = c.if-not-is_same.ensures ∙ c.as_bytes.ensures.value
