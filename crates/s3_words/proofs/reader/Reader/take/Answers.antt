use Rattle.std.proofs.Common.{◌≡◌, ◌∙◌, ◌++◌, [], ◌∷◌, ap}
use Rattle.s3_words.specs.declared.reader.Reader.{Reader}
use Rattle.s3_words.specs.Roles.{Role, next}
use Rattle.s3_words.specs.Shown.{Follows, Keeps, read}
use Rattle.s3_words.proofs.reader.Reader.take.Goals as goal

-- a word that is kept and then added follows the others
follows : (role : Role) (old kept new : Reader) → Keeps role old kept → new.verb ≡ kept.verb → new.expected ≡ next kept.expected role → read new ≡ read kept ++ role ∷ []
    → new.places.items ≡ kept.places.items → new.endpoint ≡ kept.endpoint → Follows role old new
follows role old kept new is verb expected words places endpoint = record {
  verb = verb ∙ is.verb;
  expected = expected ∙ ap (λ expecting. next expecting role) is.expected;
  words = words ∙ ap (λ read. read ++ role ∷ []) is.words;
  places = places ∙ is.places;
  endpoint = rw endpoint is.endpoint;
}

pub returns-in-Ok-clause-taken : goal.returns-in-Ok-clause-taken
returns-in-Ok-clause-taken c = rw (← c.role_of-role.ensures) (follows _ c.args.self.now c.keep.new.self c.push.new.self
    c.in_ok-keep.ensures.kept c.push.ensures.verb c.push.ensures.expected c.in-Ok.ensures.words c.push.ensures.places c.push.ensures.endpoint)
