use Rattle.reply_xml.proofs.RunLemmas.{shorter_behind}
use Rattle.std.proofs.Common.{sym, ◌∙◌, refl}
use Rattle.std.proofs.lemmas.Bool.{eqb-true}
use Rattle.reply_xml.specs.declared.runs.Sort.TheVariants as sort
use Rattle.reply_xml.proofs.RunLemmas.{no_run, no_run_begins}
use Rattle.reply_xml.proofs.TagLemmas.{no_name}
use Rattle.reply_xml.proofs.tags.split_name.Goals as goal
use Rattle.shared_lemmas.proofs.Lists.{none_from_test, some_from_test}

pub returns-then-is_empty-clause-refused : goal.returns-then-is_empty-clause-refused
returns-then-is_empty-clause-refused c name rest r =
    no_name _ _ _ name rest c.split_name_run.ensures.value (eqb-true _ _ (sym c.is_empty.ensures ∙ c.if-is_empty.true))
    r

pub returns-clause-outside : goal.returns-clause-outside
returns-clause-outside c h =
    absurd (some_from_test _ (sym c.is_empty.ensures ∙ c.if-is_empty.false)
    (no_run sort.Name c.args.bytes.now _ _ h c.split_name_run.ensures.value).0)

pub returns-then-is_empty-clause-leaves : goal.returns-then-is_empty-clause-leaves
returns-then-is_empty-clause-leaves c = record {
  outside = no_run_begins sort.Name _ _ _ c.split_name_run.ensures.value
      (none_from_test _ (sym c.is_empty.ensures ∙ c.if-is_empty.true));
  at = refl;
}

pub returns-clause-shorter : goal.returns-clause-shorter
returns-clause-shorter c =
    shorter_behind _ _ _ _ c.split_name_run.ensures.value (some_from_test _ (sym c.is_empty.ensures ∙ c.if-is_empty.false))

pub returns-clause-value : goal.returns-clause-value
returns-clause-value c = record {
  run = c.split_name_run.ensures.value;
  some = some_from_test _ (sym c.is_empty.ensures ∙ c.if-is_empty.false);
}
