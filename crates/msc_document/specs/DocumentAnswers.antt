-- Serves private contracts alone.
-- What the answer for a document's tokens says.
use Rattle.std.specs.Prelude.{ℕ, List, Result, Ok, Err}
use Rattle.msc_base.specs.declared.place.Place.{Place}
use Rattle.msc_tokens.specs.declared.token.Token.{Token}
use Rattle.msc_tree.specs.declared.chart.RawDocument.{RawDocument}
use Rattle.msc_tree.specs.Views.{document_view}
use Rattle.token_grammar.specs.Refusals.{IsFault}
use Rattle.token_grammar.specs.declared.fault.ParseFault.{ParseFault}
use Rattle.token_grammar.specs.declared.fault.ParseFault.TheVariants.{NoMemory}
use Rattle.msc_document.specs.DocumentGrammar.{document}

-- the answer for tokens of a text that ends there
abbrev pub IsAnswer : ℕ → List Token → Place → Result RawDocument ParseFault → Type 0
IsAnswer levels tokens end (Ok d) = (document levels).reads tokens (document_view d)
IsAnswer levels tokens end (Err NoMemory) = Unit {0}
IsAnswer levels tokens end (Err fault) = IsFault document levels tokens end fault
