use Rattle.std.proofs.Common.{◌≡◌, Option, None, Some, Bor, IfSome, option_copied, sym, subst}
use Rattle.s3_model.specs.declared.text.Text.{Text}
use Rattle.shared_lemmas.proofs.Clashes.{some_is}
use Rattle.sync_plan.specs.Fit.{IsLeastCommon}
use Rattle.sync_plan.proofs.CommonLemmas.{all_left, common_found, no_reader, no_writer, reader_passed, writer_passed}
use Rattle.sync_plan.proofs.judge.least_common.Goals as goal

pub loop-reader-init : goal.loop-reader-init
loop-reader-init c = all_left c.args.tasks.now c.requires.read c.requires.written

pub returns-in_default-split_first-clause-none : goal.returns-in_default-split_first-clause-none
returns-in_default-split_first-clause-none c e =
    no_writer c.args.tasks.now c.loop-reader.readers.now c.loop-reader.writers.now c.in_default-split_first.ensures.cases c.loop-reader.invariant

pub loop-reader-preserved-in-Less : goal.loop-reader-preserved-in-Less
loop-reader-preserved-in-Less c =
    reader_passed c.args.tasks.now c.loop-reader.readers.now c.loop-reader.writers.now c.in-Some.reader.now c.in-Some.later.now c.in-Some-split_first.writer.now c.in-Some-split_first.rest.now _ _
    c.in-Some.ensures.cases.0 c.in-Some-split_first.ensures.cases.0 c.loop-reader.invariant c.read_key-read.ensures c.object_key.ensures c.in-Less.ensures

pub loop-reader-preserved : goal.loop-reader-preserved
loop-reader-preserved c =
    writer_passed c.args.tasks.now c.loop-reader.readers.now c.loop-reader.writers.now c.in-Some.reader.now c.in-Some.later.now c.in-Some-split_first.writer.now c.in-Some-split_first.rest.now _ _
    c.in-Some.ensures.cases.0 c.in-Some-split_first.ensures.cases.0 c.loop-reader.invariant c.read_key-read.ensures c.object_key.ensures c.in-Greater.ensures

pub returns-in-Equal-clause-least : goal.returns-in-Equal-clause-least
returns-in-Equal-clause-least c =
    let found = common_found c.args.tasks.now c.loop-reader.readers.now c.loop-reader.writers.now c.in-Some.reader.now c.in-Some.later.now c.in-Some-split_first.writer.now c.in-Some-split_first.rest.now _ _
    c.in-Some.ensures.cases.0 c.in-Some-split_first.ensures.cases.0 c.loop-reader.invariant c.read_key-read.ensures c.object_key.ensures c.in-Equal.ensures in
    elim c.read_key-read.result as (λ (o : Option (Bor Text)). option_copied o ≡ Some found.0 → IfSome o (λ key. IsLeastCommon c.args.tasks.now key.now)) [
      | None ↦ λ e. tt
      | Some key ↦ λ e. subst (IsLeastCommon c.args.tasks.now) (sym (some_is key.now found.0 e)) found.2
    ] found.1

pub returns-clause-none : goal.returns-clause-none
returns-clause-none c e =
    no_reader c.args.tasks.now c.loop-reader.readers.now c.loop-reader.writers.now c.in_default.ensures.cases c.loop-reader.invariant
