-- What each document has that tokens read as.
use Rattle.std.specs.Prelude.{ℕ, List}
use Rattle.msc_tokens.specs.declared.token.Token.{Token}
use Rattle.msc_tree.specs.Charts.{Document}
use Rattle.chart_text.specs.WellFormed.{AreAllWellFormed}
use Rattle.msc_document.specs.DocumentGrammar.{document}

-- its charts are well formed, however many levels may be open
abbrev pub DocumentsAreWellFormed : Type 0
DocumentsAreWellFormed = (n : ℕ) (tokens : List Token) (d : Document) → (document n).reads tokens d → AreAllWellFormed d.charts
