use Rattle.std.proofs.Common.{None, Global, map, string_bytes}
use Rattle.s3_main.proofs.PromiseLemmas.{all_true}
use Rattle.s3_main.proofs.FirstLemmas.{first_as, first_says, on_used}
use Rattle.s3_main.proofs.TopLemmas as lemma
use Rattle.upload_promise.proofs.WireLemmas.{beyond_first}
use Rattle.run_report.specs.Printed.{output_of}
use Rattle.run_report.specs.Texts.{MatchesFatal}
use Rattle.s3_main.proofs.top.run_s3.Goals as goal

pub report-requires : goal.report-requires
report-requires g c =
    first_says c.args.wires.now.items c.execute-worked.new.wires.items _ (MatchesFatal c.execute-worked.result.executed.run.fatal c.execute-worked.result.executed.text)
    (λ was now text. text.2.no_memory) c.execute-worked.ensures.text

pub returns-clause-went : goal.returns-clause-went
returns-clause-went g c =
    on_used (map (string_bytes {Z = Global}) c.args.words.now) (g.E.Env.seen c.execute-worked.new.env) (λ wire. g.W.Wire.seen wire) c.args.wires.now.items c.execute-worked.new.wires.items _ _
    (λ talks notes goes. (
      λ lane beyond. (beyond_first talks lane beyond, beyond_first notes lane beyond),
      lemma.goes c.execute-worked.result.executed.run c.report.result c.execute-worked.result.executed.text
          (record { plan = c.report.ensures.plan; outcomes = c.report.ensures.outcomes; journal = c.report.ensures.journal; warnings = c.report.ensures.warnings; fatal = c.report.ensures.fatal })
          _ _ 0 0 _ _ _ _ _ talks notes goes,
    )) c.execute-worked.ensures.went c.execute-worked.ensures.others

pub returns-clause-truthful : goal.returns-clause-truthful
returns-clause-truthful g c =
    on_used (map (string_bytes {Z = Global}) c.args.words.now) (g.E.Env.seen c.execute-worked.new.env) (λ wire. g.W.Wire.seen wire) c.args.wires.now.items c.execute-worked.new.wires.items _ _
    (λ talks notes goes.
    all_true (g.E.Env.allows c.args.env.now) c.execute-worked.ensures.valid _ c.requires.some c.report.result talks notes (map (string_bytes {Z = Global}) c.args.words.now) (g.E.Env.seen c.execute-worked.new.env)
    (g.F.Files.seen c.args.files.now) (g.F.Files.seen c.execute-worked.new.files) (g.F.Files.faults c.args.files.now) (g.F.Files.faults c.execute-worked.new.files) (lemma.memory_status _ c.execute-worked.result.lists c.execute-worked.result.missed c.report.result c.report.ensures.status) c.execute-worked.ensures.files
    (lemma.goes c.execute-worked.result.executed.run c.report.result c.execute-worked.result.executed.text
    (record { plan = c.report.ensures.plan; outcomes = c.report.ensures.outcomes; journal = c.report.ensures.journal; warnings = c.report.ensures.warnings; fatal = c.report.ensures.fatal })
    _ _ 0 0 _ _ _ _ _ talks notes goes)) c.execute-worked.ensures.went c.execute-worked.ensures.others

pub returns-clause-wires_later : goal.returns-clause-wires_later
returns-clause-wires_later g c = c.execute-worked.ensures.wires_later

pub returns-clause-printed : goal.returns-clause-printed
returns-clause-printed g c =
    first_as c.args.wires.now.items c.execute-worked.new.wires.items _ _
    (λ was now text. lemma.printed c.execute-worked.result.executed.run c.report.result c.execute-worked.result.executed.text
    (record { plan = c.report.ensures.plan; outcomes = c.report.ensures.outcomes; journal = c.report.ensures.journal; warnings = c.report.ensures.warnings; fatal = c.report.ensures.fatal })
    (map (string_bytes {Z = Global}) c.args.words.now) (g.E.Env.seen c.execute-worked.new.env) _ _ _ _ c.execute-worked.result.missed text c.report.ensures.memory c.report.ensures.printed) c.execute-worked.ensures.text

pub returns-clause-does : goal.returns-clause-does
returns-clause-does g c =
    lemma.does c.execute-worked.result.executed.run c.report.result c.execute-worked.result.executed.text
    (record { plan = c.report.ensures.plan; outcomes = c.report.ensures.outcomes; journal = c.report.ensures.journal; warnings = c.report.ensures.warnings; fatal = c.report.ensures.fatal })
    (map (string_bytes {Z = Global}) c.args.words.now) (g.E.Env.seen c.execute-worked.new.env) 0 0 _ (g.F.Files.seen c.args.files.now) (g.F.Files.seen c.execute-worked.new.files) _ _ c.execute-worked.ensures.does

pub returns-clause-status : goal.returns-clause-status
returns-clause-status g c =
    first_as c.args.wires.now.items c.execute-worked.new.wires.items _ _
    (λ was now text. lemma.ends_as c.execute-worked.result.executed.run c.report.result c.execute-worked.result.executed.text
    (record { plan = c.report.ensures.plan; outcomes = c.report.ensures.outcomes; journal = c.report.ensures.journal; warnings = c.report.ensures.warnings; fatal = c.report.ensures.fatal })
    (map (string_bytes {Z = Global}) c.args.words.now) (g.E.Env.seen c.execute-worked.new.env) _ _ (output_of None None 0 0) (output_of None None 0 0) _ c.execute-worked.result.lists c.execute-worked.result.missed text c.execute-worked.ensures.lists
    c.report.ensures.status) c.execute-worked.ensures.text

pub returns-clause-stops : goal.returns-clause-stops
returns-clause-stops g c =
    lemma.stops c.execute-worked.result.executed.run c.report.result c.execute-worked.result.executed.text
    (record { plan = c.report.ensures.plan; outcomes = c.report.ensures.outcomes; journal = c.report.ensures.journal; warnings = c.report.ensures.warnings; fatal = c.report.ensures.fatal })
    (map (string_bytes {Z = Global}) c.args.words.now) (g.E.Env.seen c.execute-worked.new.env) (g.E.Env.faults c.args.env.now) (g.E.Env.faults c.execute-worked.new.env) (g.E.Env.allows c.args.env.now)
    (g.F.Files.seen c.args.files.now) (g.F.Files.seen c.execute-worked.new.files) (g.F.Files.faults c.args.files.now) (g.F.Files.faults c.execute-worked.new.files) c.execute-worked.ensures.stops
