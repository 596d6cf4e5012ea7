-- What the graphs have of each document that tokens read as.
use Rattle.std.specs.Prelude.{ℕ, List}
use Rattle.msc_tokens.specs.declared.token.Token.{Token}
use Rattle.msc_tree.specs.Charts.{Document}
use Rattle.formed_graphs.specs.FormedGraphs.{HaveFormedGraphs}
use Rattle.msc_document.specs.DocumentGrammar.{document}

-- they are formed, however many levels may be open
abbrev pub GraphsAreFormed : Type 0
GraphsAreFormed = (n : ℕ) (tokens : List Token) (d : Document) → (document n).reads tokens d → HaveFormedGraphs d.charts
