use Rattle.std.proofs.Common.{◌≡◌, ◌+◌, ◌++◌, [], length, map, string_bytes}
use Rattle.s3_words.specs.declared.roles.Expected.TheVariants.{Anything}
use Rattle.s3_words.specs.Faults.{first_fault}
use Rattle.s3_words.specs.Roles.{roles}
use Rattle.s3_words.specs.Shown.{IsReader, read}
use Rattle.s3_words.proofs.reader.Reader.read_all.Given as goal

-- what was read and what is left are all the words, and no word that was read has a fault
abbrev pub invariant-loop-word : goal.invariant-loop-word
invariant-loop-word l = record {
  verb : l.reader.verb ≡ l.fn.verb;
  words : roles Anything (map string_bytes l.words) ≡ read l.reader ++ roles l.reader.expected (map string_bytes l.left);
  faults : first_fault l.fn.verb 1 [] (roles Anything (map string_bytes l.words))
      ≡ first_fault l.fn.verb (length (read l.reader) + 1) (read l.reader) (roles l.reader.expected (map string_bytes l.left));
  reader : IsReader l.reader;
}

abbrev pub decreases-loop-word : goal.decreases-loop-word
decreases-loop-word l = length l.left
