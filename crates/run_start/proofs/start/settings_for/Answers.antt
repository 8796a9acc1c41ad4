use Rattle.std.proofs.Common.{List, ℕ, Option, IfSome, Ok, Err, rules, sym, subst}
use Rattle.env_settings.specs.Calls.{AnswersAs}
use Rattle.env_settings.specs.Settings.{settings_of}
use Rattle.run_start.specs.Begun.{RefusedFor}
use Rattle.run_report.specs.declared.run.Fatal.{Fatal}
use Rattle.run_start.proofs.SettingsLemmas.{refused_for}
use Rattle.run_start.proofs.start.settings_for.Goals as goal

pub returns-in-Err-clause-stops : goal.returns-in-Err-clause-stops
returns-in-Err-clause-stops g c =
    let seen = g.E.Env.seen c.read_settings.new.env in
    let P = λ (region profile : Option (List ℕ)). IfSome seen (λ s. AnswersAs (settings_of s.variables s.files region profile) (Err c.in-Err.fault)) in
    let answers = subst (λ (profile : Option (List ℕ)). P c.args.command.now.region profile) c.take-profile.ensures.value
    (subst (λ (region : Option (List ℕ)). P region c.take-profile.result) c.take-region.ensures.value c.in-Err.ensures.settings) in
    subst (λ (why : Fatal). RefusedFor c.args.command.now seen (g.E.Env.faults c.args.env.now) (g.E.Env.faults c.read_settings.new.env) why) (sym c.settings_fatal.ensures) (refused_for c.args.command.now seen _ _ c.in-Err.fault answers c.in-Err.ensures.read)

pub returns-in-Ok-clause-rest : goal.returns-in-Ok-clause-rest
returns-in-Ok-clause-rest g c = search rules

pub returns-in-Err-clause-rest : goal.returns-in-Err-clause-rest
returns-in-Err-clause-rest g c = search rules

pub returns-in-Ok-clause-settled : goal.returns-in-Ok-clause-settled
returns-in-Ok-clause-settled g c =
    let seen = g.E.Env.seen c.read_settings.new.env in
    let P = λ (region profile : Option (List ℕ)). IfSome seen (λ s. AnswersAs (settings_of s.variables s.files region profile) (Ok c.in-Ok.settings)) in
    subst (λ (profile : Option (List ℕ)). P c.args.command.now.region profile) c.take-profile.ensures.value
    (subst (λ (region : Option (List ℕ)). P region c.take-profile.result) c.take-region.ensures.value c.in-Ok.ensures.settings)
