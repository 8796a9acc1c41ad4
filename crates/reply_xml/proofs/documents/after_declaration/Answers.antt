use Rattle.std.proofs.Common.{◌+◌, ap, arith, inl, length, length-drop, sym, refl}
use Rattle.std.proofs.lemmas.List.{length-take-le, take_all}
use Rattle.reply_xml.specs.Leaves.{NoCharacters, NoClose, NoOpening}
use Rattle.reply_xml.proofs.documents.after_declaration.Goals as goal

pub returns-in_default-clause-leaves : goal.returns-in_default-clause-leaves
returns-in_default-clause-leaves c =
    NoOpening c.common_front.result _ c.if-not-at_declaration.ensures.1 c.in_default.ensures c.common_front.ensures refl

pub returns-in_default-declaration_end-clause-leaves : goal.returns-in_default-declaration_end-clause-leaves
returns-in_default-declaration_end-clause-leaves c =
    NoClose c.utf8_front.result _ c.in-Some.ensures c.in_default-declaration_end.ensures c.utf8_front.ensures.whole
    c.utf8_front.ensures.fault refl

pub returns-in_default-from_utf8-clause-leaves : goal.returns-in_default-from_utf8-clause-leaves
returns-in_default-from_utf8-clause-leaves c =
    NoCharacters c.utf8_front-in_default-from_utf8.result _ _ c.in-Some.ensures c.in-Some-declaration_end.ensures.0
    c.in-Some-declaration_end.ensures.1 c.in_default-from_utf8.ensures.cases.0
    (c.utf8_front-in_default-from_utf8.ensures.fault c.in_default-from_utf8.ensures.cases.0) refl

pub returns-clause-value : goal.returns-clause-value
returns-clause-value c =
    inl
    (record {
      after = c.in-Some.after.now;
      opens = c.in-Some.ensures;
      place = c.in-Some-declaration_end.end;
      ends = c.in-Some-declaration_end.ensures.0;
      first = c.in-Some-declaration_end.ensures.1;
      characters = c.in-Ok.ensures.cases.1;
      behind = take_all _ _ (omega (arith, length-drop (c.in-Some-declaration_end.end + 2) c.in-Some.after.now));
    })

pub slice_bounds-utf8_front-end : goal.slice_bounds-utf8_front-end
slice_bounds-utf8_front-end c =
    let inside = c.in-Some-declaration_end.ensures.0.inside in
    sym (length-take-le c.in-Some-declaration_end.end c.in-Some.after.now (omega (arith, inside)))

pub returns-in_default-from_utf8-clause-left : goal.returns-in_default-from_utf8-clause-left
returns-in_default-from_utf8-clause-left c =
    let sizes = ap length c.in-Some.ensures in omega (arith, sizes)

pub overflow_sub-result-in_default-from_utf8 : goal.overflow_sub-result-in_default-from_utf8
overflow_sub-result-in_default-from_utf8 c =
    let inside = c.in-Some-declaration_end.ensures.0.inside in
    let front = length-take-le c.in-Some-declaration_end.end c.in-Some.after.now (omega (arith, inside)) in
    omega (arith, inside, front, c.utf8_front-in_default-from_utf8.ensures.most)
