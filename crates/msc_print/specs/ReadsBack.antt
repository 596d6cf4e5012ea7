-- What it is that a document's tokens read back.
use Rattle.std.specs.Prelude.{ℕ, ◌≡◌, List}
use Rattle.msc_tokens.specs.declared.token.Token.{Token}
use Rattle.msc_tokens.specs.Spelling.{Spells}
use Rattle.msc_tree.specs.Charts.{Document}
use Rattle.msc_document.specs.DocumentGrammar.{document}
use Rattle.msc_print.specs.ChartWords.{canonical_text}
use Rattle.msc_print.specs.Unplaced.{SameAside}

-- the tokens read as a document that is the same but for its places, with at most so many levels open
pub record ReadsAs (levels : ℕ) (tokens : List Token) (d : Document) : Type 0 where
  pub value : Document
  pub reads : (document levels).reads tokens value
  pub same : SameAside value d

-- the canonical text of d spells tokens that read as a document that is the same but for its places, with at most so many
-- levels open, and with the same canonical text
pub record PrintReadsBack (levels : ℕ) (d : Document) : Type 0 where
  pub tokens : List Token
  pub spells : Spells (canonical_text d) tokens
  pub reads_as : ReadsAs levels tokens d
  pub printed_again : canonical_text reads_as.value ≡ canonical_text d
