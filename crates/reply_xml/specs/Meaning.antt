-- What a text means, as the reader holds it.
use Rattle.std.specs.Prelude.{ℕ, List}
use Rattle.reply_xml.specs.declared.texts.Meaning.{Meaning}
use Rattle.reply_xml.specs.declared.texts.Meaning.TheVariants as meaning

abbrev pub meaning_of : Meaning → List ℕ
meaning_of (meaning.Itself text) = text.now
meaning_of (meaning.Unescaped text) = text
