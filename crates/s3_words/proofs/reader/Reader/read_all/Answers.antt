use Rattle.std.proofs.Common.{◌≡◌, ◌∙◌, ◌∷◌, ap, map, string_bytes, sym}
use Rattle.s3_words.specs.Roles.{role_of}
use Rattle.s3_words.specs.Shown.{read}
use Rattle.s3_words.proofs.ReaderLemmas.{IsReader-more, fault_here, fault_later, no_text, no_text_map, words_more}
use Rattle.s3_words.proofs.reader.Reader.read_all.Goals as goal

pub returns-in-Err-clause-fault : goal.returns-in-Err-clause-fault
returns-in-Err-clause-fault c = λ known.
    let old = c.loop-word.reader in
    let text = c.as_str.result.now in
    let texts = map string_bytes c.in-Some.rest.now in
    let parts : map string_bytes c.loop-word.left.now ≡ text ∷ texts = ap (map string_bytes) c.in-Some.ensures.cases.0 ∙ ap (λ first. first ∷ texts) (sym c.as_str.ensures.value) in
    let ends : c.is_empty.result ≡ no_text texts = c.is_empty.ensures ∙ no_text_map string_bytes c.in-Some.rest.now in
    c.loop-word.invariant.faults
    ∙ fault_here c.args.verb old.expected (read old) text texts _ c.is_empty.result parts ends c.in-Err.fault (rw c.loop-word.invariant.verb at (c.in-Err.ensures.fault known))

pub loop-word-preserved : goal.loop-word-preserved
loop-word-preserved c =
    let old = c.loop-word.reader in
    let new = c.take.new.self in
    let text = c.as_str.result.now in
    let texts = map string_bytes c.in-Some.rest.now in
    let parts : map string_bytes c.loop-word.left.now ≡ text ∷ texts = ap (map string_bytes) c.in-Some.ensures.cases.0 ∙ ap (λ first. first ∷ texts) (sym c.as_str.ensures.value) in
    let ends : c.is_empty.result ≡ no_text texts = c.is_empty.ensures ∙ no_text_map string_bytes c.in-Some.rest.now in
    let follows = c.in-Ok.ensures.taken in
    record {
      verb = follows.verb ∙ c.loop-word.invariant.verb;
      words = rw (follows.words, follows.expected) (c.loop-word.invariant.words ∙ words_more c.args.verb old.expected (read old) text texts _ c.is_empty.result parts ends);
      faults = rw (follows.words, follows.expected)
          (c.loop-word.invariant.faults ∙ fault_later c.args.verb old.expected (read old) text texts _ c.is_empty.result parts ends (rw c.loop-word.invariant.verb at c.in-Ok.ensures.right));
      reader = IsReader-more (role_of old.expected text) old new c.loop-word.invariant.reader follows;
    }
